-- Views of a step's output, read from the words of a state: for private contracts alone.
use Rattle.std.specs.Prelude.{◌≡◌, ℕ, ◌+◌, ◌^◌, ◌<◌, List, ◌++◌, codes, length}
use Rattle.zs_term.specs.Schedule.{Schedule}
use Rattle.zs_term.specs.Output.{Output, Outputs, number, pair, left, right, listed, count}
use Rattle.zs_term.specs.OutputText.{output_text}
use Rattle.zs_step.specs.History.{History}
use Rattle.zs_step.specs.Answer.{answer_of}
use Rattle.zs_c.specs.declared.program.outputs.Place.{Place}
use Rattle.zs_c.specs.declared.program.outputs.View.{View}
use Rattle.zs_c.specs.declared.program.outputs.View.TheVariants.{Number, Pair, Left, Right, Size}
use Rattle.zs_c.specs.Code.{IsCode, held_of}
use Rattle.zs_c.specs.Rooms.{written_at}

-- Words represent an output: they are the state of a code's schedule after some history, and it is
-- the output of the result there.
pub record Tells (code words : List ℕ) (levels : ℕ) (o : Output) : Type 0 where
  pub term : Schedule
  pub history : History
  pub coded : IsCode term code levels
  pub held : words ≡ held_of term history
  pub output : o ≡ (answer_of term history).output

-- a place represents an output
abbrev pub PlaceTells : Place → Output → Type 0
PlaceTells p o = Tells p.code.now p.words.now p.levels o

-- an output has no list in it
abbrev pub Listless : Output → Type 0
Listless (number n) = Unit {0}
Listless (pair a b) = Listless a × Listless b
Listless (left a) = Listless a
Listless (right a) = Listless a
Listless (listed xs) = ⊥

-- a view shows an output, and only the size of a list
abbrev pub Shows : View → Output → Type 0
Shows (Number n) o = o ≡ number n
Shows (Pair a b) o = (x : Output) × (y : Output) × (o ≡ pair x y) × PlaceTells a x × PlaceTells b y
Shows (Left a) o = (x : Output) × (o ≡ left x) × PlaceTells a x
Shows (Right b) o = (y : Output) × (o ≡ right y) × PlaceTells b y
Shows (Size n) o = (xs : Outputs) × (o ≡ listed xs) × (n ≡ count xs)

-- the places of a view have fewer levels than this
abbrev pub IsLower : View → ℕ → Type 0
IsLower (Number n) levels = Unit {0}
IsLower (Pair a b) levels = (a.levels < levels) × (b.levels < levels)
IsLower (Left a) levels = a.levels < levels
IsLower (Right b) levels = b.levels < levels
IsLower (Size n) levels = Unit {0}

-- ---- texts that are written from an index on, for every output that places may have, if it has no
-- list

-- the text of a pair, and its end
abbrev pub PutsPair : Place → Place → ℕ → List ℕ → List ℕ → Type 0
PutsPair a b at room new =
    (x y : Output) → PlaceTells a x → PlaceTells b y → Listless (pair x y)
    → at + length (output_text (pair x y)) < 2 ^ 64
    → new ≡ written_at at (output_text (pair x y)) room

abbrev pub EndsPair : Place → Place → ℕ → ℕ → Type 0
EndsPair a b at end =
    (x y : Output) → PlaceTells a x → PlaceTells b y → Listless (pair x y)
    → at + length (output_text (pair x y)) < 2 ^ 64
    → end ≡ at + length (output_text (pair x y))

-- the text of a side after its name, and its end
abbrev pub PutsSide : List ℕ → Place → ℕ → List ℕ → List ℕ → Type 0
PutsSide side p at room new =
    (o : Output) → PlaceTells p o → Listless o
    → at + length (side ++ (output_text o ++ codes ")")) < 2 ^ 64
    → new ≡ written_at at (side ++ (output_text o ++ codes ")")) room

abbrev pub EndsSide : List ℕ → Place → ℕ → ℕ → Type 0
EndsSide side p at end =
    (o : Output) → PlaceTells p o → Listless o
    → at + length (side ++ (output_text o ++ codes ")")) < 2 ^ 64
    → end ≡ at + length (side ++ (output_text o ++ codes ")"))

-- Terms as plain data, apart from memory, and their sizes. Numbers have any size here.
-- The 18 forms have three shapes: a leaf, two schedules with an operator, and one with a modifier.
-- Definitions over whole schedules match the shape alone. The meaning of a form is defined for its
-- leaf or operator.
use Rattle.std.specs.Prelude.{ℕ, ◌+◌, ◌*◌, max, Bool, true, ◌&&◌, nat_le}
use Rattle.zs_term.specs.declared.term.Term.{Term}
use Rattle.zs_term.specs.declared.term.Term.TheVariants.{Forever, Recurs, Spaced, Fixed}
use Rattle.zs_term.specs.declared.term.Term.TheVariants.{Exponential, Fibonacci, Identity, Elapsed}
use Rattle.zs_term.specs.declared.term.Term.TheVariants.{Linear, Windowed, Both', Either', AndThen'}
use Rattle.zs_term.specs.declared.term.Term.TheVariants.{WhileInput', WhileOutput', CollectAll'}
use Rattle.zs_term.specs.declared.term.Term.TheVariants.{Map', ResetWhen'}
use Rattle.zs_term.specs.declared.term.Test.{Test}
use Rattle.zs_term.specs.declared.term.Pick.{Pick}
use Rattle.zs_term.specs.declared.term.Func.{Func}
use Rattle.zs_term.specs.declared.forms.Plain.{Plain}
use Rattle.zs_term.specs.declared.forms.Plain.TheVariants.{Forever as PlainForever}
use Rattle.zs_term.specs.declared.forms.Plain.TheVariants.{Identity as PlainIdentity}
use Rattle.zs_term.specs.declared.forms.Plain.TheVariants.{Elapsed as PlainElapsed}
use Rattle.zs_term.specs.declared.forms.Counted.{Counted}
use Rattle.zs_term.specs.declared.forms.Counted.TheVariants.{Recurs as CountedRecurs}
use Rattle.zs_term.specs.declared.forms.Counted.TheVariants.{Spaced as CountedSpaced}
use Rattle.zs_term.specs.declared.forms.Counted.TheVariants.{Fixed as CountedFixed}
use Rattle.zs_term.specs.declared.forms.Counted.TheVariants.{Fibonacci as CountedFibonacci}
use Rattle.zs_term.specs.declared.forms.Counted.TheVariants.{Linear as CountedLinear}
use Rattle.zs_term.specs.declared.forms.Counted.TheVariants.{Windowed as CountedWindowed}

-- a schedule without parts: a word, a word with a number, or `exponential(base, factor)`
pub data Leaf : Type 0 where
  plain : Plain → Leaf
  counted : Counted → ℕ → Leaf
  exponential : ℕ → ℕ → Leaf

-- the leaves by their words, the first of them `forever`
abbrev pub forever : Leaf
forever = plain PlainForever

-- `identity`
abbrev pub identity : Leaf
identity = plain PlainIdentity

-- `elapsed`
abbrev pub elapsed : Leaf
elapsed = plain PlainElapsed

-- `recurs(k)`
abbrev pub recurs : ℕ → Leaf
recurs k = counted CountedRecurs k

-- `spaced(d)`
abbrev pub spaced : ℕ → Leaf
spaced d = counted CountedSpaced d

-- `fixed(p)`
abbrev pub fixed : ℕ → Leaf
fixed p = counted CountedFixed p

-- `fibonacci(o)`
abbrev pub fibonacci : ℕ → Leaf
fibonacci o = counted CountedFibonacci o

-- `linear(n)`
abbrev pub linear : ℕ → Leaf
linear n = counted CountedLinear n

-- `windowed(n)`
abbrev pub windowed : ℕ → Leaf
windowed n = counted CountedWindowed n

-- an operator between two schedules: `&&`, `||`, `andThenEither`
pub data Pairing : Type 0 where
  both : Pairing
  either : Pairing
  and_then : Pairing

-- an operator over one schedule, which follows it
pub data Modifier : Type 0 where
  while_input : Test → Modifier
  while_output : Pick → Test → Modifier
  collect_all : Modifier
  mapped : Func → Modifier
  reset_when : Pick → Test → Modifier

-- a schedule, apart from memory: a leaf, two schedules with an operator, one with a modifier
pub data Schedule : Type 0 where
  leaf : Leaf → Schedule
  two : Pairing → Schedule → Schedule → Schedule
  over : Schedule → Modifier → Schedule

-- the schedule of a term
abbrev pub schedule_of : Term → Schedule
schedule_of Forever = leaf forever
schedule_of (Recurs k) = leaf (recurs k)
schedule_of (Spaced d) = leaf (spaced d)
schedule_of (Fixed p) = leaf (fixed p)
schedule_of (Exponential b f) = leaf (exponential b f)
schedule_of (Fibonacci o) = leaf (fibonacci o)
schedule_of Identity = leaf identity
schedule_of Elapsed = leaf elapsed
schedule_of (Linear n) = leaf (linear n)
schedule_of (Windowed n) = leaf (windowed n)
schedule_of (Both' p a q b) = two both (schedule_of a) (schedule_of b)
schedule_of (Either' p a q b) = two either (schedule_of a) (schedule_of b)
schedule_of (AndThen' p a q b) = two and_then (schedule_of a) (schedule_of b)
schedule_of (WhileInput' p s t) = over (schedule_of s) (while_input t)
schedule_of (WhileOutput' p s k t) = over (schedule_of s) (while_output k t)
schedule_of (CollectAll' p s) = over (schedule_of s) collect_all
schedule_of (Map' p s f) = over (schedule_of s) (mapped f)
schedule_of (ResetWhen' p s k t) = over (schedule_of s) (reset_when k t)

-- the depth: 1 for a leaf, else 1 more than that of the deepest part
abbrev pub depth : Schedule → ℕ
depth (leaf l) = 1
depth (two p a b) = 1 + max (depth a) (depth b)
depth (over s m) = 1 + depth s

-- how often a node counts its part: `resetWhen` counts it twice
abbrev pub times : Modifier → ℕ
times (while_input t) = 1
times (while_output k t) = 1
times collect_all = 1
times (mapped f) = 1
times (reset_when k t) = 2

-- the number of nodes, where `resetWhen` counts its part twice
abbrev pub weight : Schedule → ℕ
weight (leaf l) = 1
weight (two p a b) = 1 + weight a + weight b
weight (over s m) = 1 + times m * weight s

-- whether every leaf passes
abbrev pub all_leaves : (Leaf → Bool) → Schedule → Bool
all_leaves p (leaf l) = p l
all_leaves p (two o a b) = all_leaves p a && all_leaves p b
all_leaves p (over s m) = all_leaves p s

-- whether the factor of a leaf is at least 1, if it has one
abbrev pub has_factor : Leaf → Bool
has_factor (exponential b f) = nat_le 1 f
has_factor _ = true

-- whether the window of a leaf is at least 1, if it has one
abbrev pub has_window : Leaf → Bool
has_window (counted CountedWindowed n) = nat_le 1 n
has_window _ = true

-- whether every factor is at least 1
abbrev pub has_factors : Schedule → Bool
has_factors s = all_leaves has_factor s

-- whether every window is at least 1
abbrev pub has_windows : Schedule → Bool
has_windows s = all_leaves has_window s

-- the greatest depth: 64 levels; a leaf has 1
abbrev pub max_depth : ℕ
max_depth = 64

-- the greatest weight: 1,000 nodes; `resetWhen` counts its part twice
abbrev pub max_weight : ℕ
max_weight = 1000

-- whether a schedule is within the greatest depth and weight
abbrev pub is_within_limits : Schedule → Bool
is_within_limits t = nat_le (depth t) max_depth && nat_le (weight t) max_weight

-- What the code stores of the terms that it has read.
use Rattle.std.specs.Prelude.{◌≡◌, ◌≢◌, ℕ, ◌+◌, max, Bool, List, [], ◌∷◌, ◌++◌, map, replicate}
use Rattle.std.specs.Prelude.{Option, Some, None, option_map, if◌then◌else◌, MatchOption}
use Rattle.zs_term.specs.Schedule.{Schedule, leaf, two, over, plain, counted, exponential}
use Rattle.zs_term.specs.Schedule.{collect_all, mapped, schedule_of}
use Rattle.zs_term.specs.Saturating.{saturated}
use Rattle.zs_term.specs.Number.{fit}
use Rattle.zs_term.specs.Machine.{Make, Frame, left, right, State, at, Stage, start, opening}
use Rattle.zs_term.specs.Machine.{counting, exp_opening, exp_counting, based, factored, closing}
use Rattle.zs_term.specs.Machine.{after, dotted, method, picking, testing, comparing, mapping}
use Rattle.zs_term.specs.Machine.{scaling, infix_pairing, test_modifier, scale_by}
use Rattle.zs_term.specs.declared.term.Cmp.{Cmp}
use Rattle.zs_term.specs.declared.term.Func.{Func}
use Rattle.zs_term.specs.declared.forms.Infix.{Infix}
use Rattle.zs_term.specs.declared.forms.Action.TheVariants.{Stopping, Resetting}
use Rattle.zs_term.specs.declared.forms.Subject.{Subject}
use Rattle.zs_term.specs.declared.forms.Subject.TheVariants.{Input, Picked}
use Rattle.zs_term.specs.declared.forms.Scale.{Scale}
use Rattle.zs_term.specs.declared.part.Part.{Part}
use Rattle.zs_term.specs.declared.parser.Parser.{Parser}
use Rattle.zs_term.specs.declared.parser.Joined.{Joined}
use Rattle.zs_term.specs.declared.parser.Stage.{Stage as StageKept}
use Rattle.zs_term.specs.declared.parser.Stage.TheVariants.{Start, Opening, Counting, ExpOpening}
use Rattle.zs_term.specs.declared.parser.Stage.TheVariants.{ExpCounting, Based, Factored, Closing}
use Rattle.zs_term.specs.declared.parser.Stage.TheVariants.{After, Dotted, Method, Picking, Testing}
use Rattle.zs_term.specs.declared.parser.Stage.TheVariants.{Comparing, Mapping, Scaling}

-- the sizes of a term, saturated at 2^64 - 1, and the term if terms are built and its numbers fit
pub record Kept : Type 0 where
  pub depth : ℕ
  pub weight : ℕ
  pub schedule : Option Schedule

-- a function of two values, if both are there
abbrev pub with_both : {X Y Z : Type 0} → (X → Y → Z) → Option X → Option Y → Option Z
with_both f (Some x) (Some y) = Some (f x y)
with_both f (Some x) None = None
with_both f None y = None

-- a leaf, which is stored if terms are built
abbrev pub keep_leaf : Bool → Option Schedule → Kept
keep_leaf build t = record { depth = 1; weight = 1; schedule = if build then t else None }

-- what is over parts of at most this depth, with its weight
abbrev pub keep_above : ℕ → ℕ → Option Schedule → Kept
keep_above below w t = record { depth = saturated (below + 1); weight = w; schedule = t }

-- the weight of one more node
abbrev pub one_more : ℕ → ℕ
one_more w = saturated (w + 1)

-- the weight of a test over a part of this weight
abbrev pub test_weight : Subject → ℕ → ℕ
test_weight Input w = one_more w
test_weight (Picked Stopping p) w = one_more w
test_weight (Picked Resetting p) w = one_more (saturated (w + w))

-- two parts joined by an operator
abbrev pub keep_join : Infix → Kept → Kept → Kept
keep_join i a b =
    keep_above (max a.depth b.depth) (one_more (saturated (a.weight + b.weight)))
    (with_both (two (infix_pairing i)) a.schedule b.schedule)

-- a part under a test
abbrev pub keep_test : Kept → Subject → Cmp → Option ℕ → Kept
keep_test a s c n = keep_above a.depth (test_weight s a.weight)
    (with_both (λ t k. over t (test_modifier s (record { cmp = c; than = k }))) a.schedule n)

-- a part under `collectAll`
abbrev pub keep_collect : Kept → Kept
keep_collect a =
    keep_above a.depth (one_more a.weight) (option_map (λ t. over t collect_all) a.schedule)

-- a part under a function without a number
abbrev pub keep_apply : Kept → Func → Kept
keep_apply a f =
    keep_above a.depth (one_more a.weight) (option_map (λ t. over t (mapped f)) a.schedule)

-- a part under a function with a number
abbrev pub keep_scale : Kept → Scale → Option ℕ → Kept
keep_scale a g n = keep_above a.depth (one_more a.weight)
    (with_both (λ t k. over t (mapped (scale_by g k))) a.schedule n)

-- composes the sizes of terms, and the terms if they are built
abbrev pub keep : Bool → Make Kept (Option ℕ)
keep build = record {
  num = fit;
  plain = λ p. keep_leaf build (Some (leaf (plain p)));
  counted = λ c n. keep_leaf build (option_map (λ k. leaf (counted c k)) n);
  growing = λ b f. keep_leaf build (with_both (λ x y. leaf (exponential x y)) b f);
  join = keep_join;
  test = keep_test;
  collect = keep_collect;
  apply = keep_apply;
  scale = keep_scale;
}

-- what is stored of a part without its term
abbrev pub sizes_of : Kept → Kept
sizes_of a = record { depth = a.depth; weight = a.weight; schedule = None }

-- an open form without its term
abbrev pub sizes_frame : Frame Kept → Frame Kept
sizes_frame left = left
sizes_frame (right i a) = right i (sizes_of a)

-- a stage without its term
abbrev pub sizes_stage : Stage Kept (Option ℕ) → Stage Kept (Option ℕ)
sizes_stage (closing a) = closing (sizes_of a)
sizes_stage (after a) = after (sizes_of a)
sizes_stage (dotted a) = dotted (sizes_of a)
sizes_stage (method w a) = method w (sizes_of a)
sizes_stage (picking e a) = picking e (sizes_of a)
sizes_stage (testing a s) = testing (sizes_of a) s
sizes_stage (comparing a s c) = comparing (sizes_of a) s c
sizes_stage (mapping a) = mapping (sizes_of a)
sizes_stage (scaling a g) = scaling (sizes_of a) g
sizes_stage k = k

-- a state without its terms
abbrev pub sizes_state : State Kept (Option ℕ) → State Kept (Option ℕ)
sizes_state s = at (map sizes_frame s.frames) (sizes_stage s.stage)

-- a stored part, as plain data
abbrev pub kept_of : Part → Kept
kept_of p = record {
  depth = p.depth;
  weight = p.weight;
  schedule = option_map (λ b. schedule_of b.value) p.term;
}

-- innermost forms whose operator wasn't read yet
abbrev pub bare_onto : ℕ → List (Frame Kept) → List (Frame Kept)
bare_onto n fs = replicate n left ++ fs

-- forms whose operator was read, the innermost first
abbrev pub joined_onto : List (Frame Kept) → List Joined → List (Frame Kept)
joined_onto fs [] = fs
joined_onto fs (k ∷ ks) = joined_onto (right k.form (kept_of k.left) ∷ bare_onto k.before fs) ks

-- a form whose operator was read, without its term
abbrev pub without_term : Joined → Joined
without_term k = record {
  before = k.before;
  form = k.form;
  left = record { depth = k.left.depth; weight = k.left.weight; term = None };
}

-- all open forms, as the code stores them
abbrev pub stack_of : Parser → List (Frame Kept)
stack_of parser = bare_onto parser.bare (joined_onto [] parser.joined.items)

-- the stage, as the code stores it
abbrev pub stage_of : StageKept → Stage Kept (Option ℕ)
stage_of Start = start
stage_of (Opening c) = opening c
stage_of (Counting c) = counting c
stage_of ExpOpening = exp_opening
stage_of ExpCounting = exp_counting
stage_of (Based n) = based n
stage_of (Factored n) = factored n
stage_of (Closing p) = closing (kept_of p)
stage_of (After p) = after (kept_of p)
stage_of (Dotted p) = dotted (kept_of p)
stage_of (Method w p) = method w (kept_of p)
stage_of (Picking e p) = picking e (kept_of p)
stage_of (Testing p s) = testing (kept_of p) s
stage_of (Comparing p s c) = comparing (kept_of p) s c
stage_of (Mapping p) = mapping (kept_of p)
stage_of (Scaling p g) = scaling (kept_of p) g

-- the state of a parser in this stage
abbrev pub state_in : Parser → StageKept → State Kept (Option ℕ)
state_in parser stage = at (stack_of parser) (stage_of stage)

-- the parser is in this state, if there is one, in the stage after a token
abbrev pub Reaches : Parser → Option StageKept → Option (State Kept (Option ℕ)) → Type 0
Reaches parser next state = option_map (λ stage. state_in parser stage) next ≡ state

-- the part is the whole term of the state; without a part the state has no whole term
abbrev pub Finishes : State Kept (Option ℕ) → Option Part → Type 0
Finishes state found = MatchOption found ((a : Kept) → state ≢ at [] (after a))
    (λ part. state ≡ at [] (after (kept_of part)))

-- The number of nodes that the last step of a history visits: those that it steps, one that it
-- steps twice twice. Nodes that it only reads aren't counted: to join lists, to take a piece of an
-- output, to make the output.
use Rattle.std.specs.Prelude.{ℕ, ◌+◌, Bool, true, false, Option, Some, None, [], ◌∷◌}
use Rattle.zs_term.specs.Schedule.{Schedule, leaf, two, over, Pairing, both, either, and_then}
use Rattle.zs_term.specs.Schedule.{Modifier, while_input, while_output, collect_all, mapped}
use Rattle.zs_term.specs.Schedule.{reset_when}
use Rattle.zs_step.specs.History.{History, earlier}
use Rattle.zs_term.specs.Output.{passes, picked}
use Rattle.zs_term.specs.declared.term.Test.{Test}
use Rattle.zs_term.specs.declared.term.Pick.{Pick}
use Rattle.zs_step.specs.Answer.{Answer, answer_of, from_done, since_reset}

-- the visits of `andThenEither`: the first part until its end, both at that step, then the second
abbrev pub sequel_visits : Option History → Option History → ℕ → (History → ℕ) → ℕ
sequel_visits (Some before) (Some g) first second = second g
sequel_visits None (Some g) first second = first + second g
sequel_visits None None first second = first
sequel_visits (Some before) None first second = first

-- the visits of a part that may be stepped once more, by whether it is reset
abbrev pub reset_visits_if : Bool → ℕ → ℕ → ℕ
reset_visits_if true x y = x + y
reset_visits_if false x y = x

-- the visits of the part of a `resetWhen`
abbrev pub reset_visits : (History → Answer) → (History → ℕ) → Pick → Test → History → ℕ
reset_visits a v k t [] = 0
reset_visits a v k t (p ∷ h) =
    reset_visits_if (passes t (picked k (a (p ∷ since_reset a k t h)).output))
    (v (p ∷ since_reset a k t h)) (v (p ∷ []))

-- the visits of two parts
abbrev pub paired_visits : Pairing → (History → Answer)
    → (History → ℕ) → (History → ℕ) → History → ℕ
paired_visits both a v w h = v h + w h
paired_visits either a v w h = v h + w h
paired_visits and_then a v w h = sequel_visits (from_done a (earlier h)) (from_done a h) (v h) w

-- the visits of one part
abbrev pub modified_visits : Modifier → (History → Answer) → (History → ℕ) → History → ℕ
modified_visits (while_input t) a v h = v h
modified_visits (while_output k t) a v h = v h
modified_visits collect_all a v h = v h
modified_visits (mapped f) a v h = v h
modified_visits (reset_when k t) a v h = reset_visits a v k t h

-- the visits of the last step of a history: one for the node, and those of its parts
abbrev pub visits : Schedule → History → ℕ
visits (leaf l) h = 1
visits (two p a b) h = 1 + paired_visits p (answer_of a) (visits a) (visits b) h
visits (over s m) h = 1 + modified_visits m (answer_of s) (visits s) h

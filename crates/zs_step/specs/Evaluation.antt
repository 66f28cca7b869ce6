-- What a program that evaluates a whole history returns. The history is a list, oldest pair first.
use Rattle.std.specs.Prelude.{◌≡◌, ℕ, List, Some, drop}
use Rattle.zs_term.specs.declared.outputs.Out.{Out}
use Rattle.zs_term.specs.declared.term.Test.{Test}
use Rattle.zs_term.specs.declared.term.Pick.{Pick}
use Rattle.zs_term.specs.Output.{output_of}
use Rattle.zs_term.specs.Schedule.{Schedule}
use Rattle.zs_step.specs.declared.decision.Decision.{Decision}
use Rattle.zs_step.specs.History.{history_of}
use Rattle.zs_step.specs.Answer.{Answer, answer, answer_of, from_done, since_reset}

-- an output and a decision are this result
abbrev pub Gives : Out × Decision → Answer → Type 0
Gives r a = answer (output_of r.0) r.1 ≡ a

-- an output and a decision are the schedule's result at the last pair
abbrev pub GivesAnswer : Out × Decision → Schedule → List (ℕ × ℕ) → Type 0
GivesAnswer r t pairs = Gives r (answer_of t (history_of pairs))

-- the schedule is first done at the pair with this index
abbrev pub IsDoneFrom : Schedule → List (ℕ × ℕ) → ℕ → Type 0
IsDoneFrom t pairs i = from_done (answer_of t) (history_of pairs) ≡ Some (history_of (drop i pairs))

-- the schedule was last reset at the pair with this index, or never, and the index is 0
abbrev pub IsResetAt : Schedule → Pick → Test → List (ℕ × ℕ) → ℕ → Type 0
IsResetAt t k test pairs i =
    since_reset (answer_of t) k test (history_of pairs) ≡ history_of (drop i pairs)

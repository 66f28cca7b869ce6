-- Results that are those of a schedule.
use Rattle.std.proofs.Common.{◌≡◌, ℕ, Some, ◌∷◌, arith, sym, ap, subst}
use Rattle.zs_term.specs.Output.{Output}
use Rattle.zs_term.specs.OutputKind.{OutputKind, HasKind}
use Rattle.zs_term.specs.Kinds.{kind_of}
use Rattle.zs_term.specs.Schedule.{Schedule}
use Rattle.zs_step.specs.declared.decision.Decision.{Decision}
use Rattle.zs_step.specs.declared.state.State.{State}
use Rattle.zs_step.specs.History.{History}
use Rattle.zs_step.specs.Answer.{Answer, answer, answer_of}
use Rattle.zs_step.specs.Compiled.{IsResult}
use Rattle.zs_step.specs.State.{state_schedule, last_output, Represents, Answers, CountsOn}
use Rattle.zs_step.proofs.OutputKinds.{answer_of-has_kind}

-- the output of a schedule has its kind
pub answer-kinded : (v : Output) (d : Decision) (t : Schedule) (h : History) →
    answer v d ≡ answer_of t h → (a : OutputKind) → kind_of t ≡ Some a → HasKind v a
answer-kinded v d t h e a k =
    subst (λ (x : Output). HasKind x a) (sym (ap (λ (x : Answer). x.output) e))
    (answer_of-has_kind t a h k)

-- the result of a state's step is that of its schedule
pub is-result : (old new : State) (now input n : ℕ) (d : Decision) (t : Schedule) (h : History) →
    Answers old new now input d → CountsOn old new now input 1 n →
    Represents old h → state_schedule old ≡ t → IsResult t ((now, input) ∷ h) (last_output new) d n
is-result old new now input n d t h answers counts stood made =
    let is : IsResult (state_schedule old) ((now, input) ∷ h) (last_output new) d n = record {
      answered = answers.answered h stood;
      visited = omega (arith, counts.visited h stood);
      bound = omega (arith, counts.bound);
      kinded = answer-kinded (last_output new) d (state_schedule old) ((now, input) ∷ h)
          (answers.answered h stood);
    } in
    subst (λ u. IsResult u ((now, input) ∷ h) (last_output new) d n) made is

use Rattle.std.proofs.Common.{◌≡◌, ℕ, ◌+◌, ◌<◌, length, take, get_or}
use Rattle.zs_term.specs.Schedule.{schedule_of}
use Rattle.zs_step.specs.History.{history_of}
use Rattle.zs_step.specs.declared.stepped.Stepped.{Stepped}
use Rattle.zs_step.specs.Compiled.{compiled_term, StandsFor, IsAnswer}
use Rattle.zs_step.proofs.following.follow.Given as goal

abbrev pub invariant-loop-i : goal.invariant-loop-i
invariant-loop-i l = record {
  stands : StandsFor l.compiled (history_of (take l.i l.pairs));
  term : compiled_term l.compiled ≡ l.fn.checked;
  one_each : length l.answers.items ≡ l.i;
  answers : (j : ℕ) (d : Stepped) → j < l.i →
      IsAnswer (schedule_of l.fn.checked) (history_of (take (j + 1) l.pairs))
      (get_or l.answers.items j d);
}

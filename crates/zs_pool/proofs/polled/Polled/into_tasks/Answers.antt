use Rattle.std.proofs.Common.{◌≡◌, ◌≢◌, ℕ, Bool, true, false, Some, ap, ◌∙◌, IsTrue, slice_get}
use Rattle.zs_drive.specs.Tasks.{TaskValue}
use Rattle.zs_pool.proofs.Places.{sound_polls}
use Rattle.zs_pool.proofs.polled.Polled.into_tasks.Goals as goal

not_both : (b : Bool) → b ≡ false → IsTrue b → ⊥
not_both true e h = cc
not_both false e h = cc

pub returns-clause-tasks : goal.returns-clause-tasks
returns-clause-tasks c =
    λ now before polls.
    let sound : (k : ℕ) (t : TaskValue) → slice_get c.args.self.tasks k ≡ Some t → t.broken ≢ true =
    λ k t at is. not_both c.broken.result c.if-broken.false
    (c.broken.ensures.value.1 (k, t, at, is))
    in
    ap (λ m. m.tasks) c.self.view_is ∙ sound_polls now before c.args.self.tasks polls sound

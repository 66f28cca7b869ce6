-- What a due poll does to a task.
use Rattle.std.proofs.Common.{◌≡◌, ℕ, ◌≤◌, true, false, ◌⊎◌, inl, inr, ⊎_elim, Option, Some, None}
use Rattle.std.proofs.Common.{Ok, Err, Result, nat_lt, if◌then◌else◌, refl, ◌∙◌, arith, ltb-true}
use Rattle.std.specs.Prelude.{IsSomeAnd, ⊤}
use Rattle.futures.specs.declared.task.Poll.{Poll}
use Rattle.futures.specs.declared.task.Poll.TheVariants.{Ready, Pending}
use Rattle.zs_drive.specs.declared.record.Ending.{Ending}
use Rattle.zs_drive.specs.declared.fault.DriveFault.{DriveFault}
use Rattle.zs_drive.specs.Tasks.{TaskValue, current_timeline, polled, polled_when, MatchMemory}
use Rattle.zs_pool.specs.Rounds.{polled_at, broken_at, IsPolled, IsPollable}

-- a poll ran out of memory or didn't
either_way : (r : Poll (Result Ending DriveFault)) (A B : Type 0) → MatchMemory r ⊤ A →
    MatchMemory r B ⊤ → A ⊎ B
either_way Pending A B found lost = inl found
either_way (Ready (Ok ending)) A B found lost = inl found
either_way (Ready (Err fault)) A B found lost = inr lost

-- a poll at or after the due moment adds the moment
adds_moment : (now : ℕ) (task : TaskValue) (due : Option ℕ) → IsSomeAnd due (λ d. d ≤ now) →
    polled_when (record task { seen = now }) due ≡ polled_at now task
adds_moment now task None is_due = absurd is_due
adds_moment now task (Some d) is_due =
    let seen : TaskValue = record task { seen = now } in
    elim (nat_lt now d) as
    (λ b. nat_lt now d ≡ b → (if b then seen else polled_at now task) ≡ polled_at now task)
    [ true ↦ λ e. absurd (omega (ltb-true now d e, arith)) | false ↦ λ e. refl ] refl

pub is_polled : (now : ℕ) (task after : TaskValue) (r : Poll (Result Ending DriveFault))
    (P Q R : Type 0) → IsPollable now task
    → MatchMemory r ⊤ (P × (after ≡ polled (record task { seen = now })) × Q)
    → MatchMemory r (R × (after ≡ record task { seen = now; broken = true })) ⊤
    → IsPolled now task after
is_polled now task after r P Q R may found lost =
    ⊎_elim
    (λ (h : P × (after ≡ polled (record task { seen = now })) × Q). inl
    (h.1 ∙ adds_moment now task (current_timeline task).due may.due))
    (λ (h : R × (after ≡ broken_at now task)). inr h.1)
    (either_way r (P × (after ≡ polled (record task { seen = now })) × Q)
    (R × (after ≡ broken_at now task)) found lost)

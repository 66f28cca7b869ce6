-- What bounds promise: facts about every history that a driver can make with a schedule. No loop
-- and no interval is named here.
use Rattle.std.specs.Prelude.{◌≡◌, ℕ, ◌+◌, ◌-◌, ◌<◌, ◌≤◌, true, false, Some, List, []}
use Rattle.std.specs.Prelude.{◌∷◌, length}
use Rattle.std.specs.List.{sum}
use Rattle.zs_term.specs.Schedule.{Schedule}
use Rattle.zs_step.specs.declared.decision.Decision.{Decision}
use Rattle.zs_step.specs.declared.decision.Decision.TheVariants.{Stop, Next}
use Rattle.zs_step.specs.History.{History, first_moment, last_moment}
use Rattle.zs_step.specs.Answer.{answer_of, is_next}
use Rattle.zs_bounds.specs.declared.driver.Driver.{Driver}
use Rattle.zs_bounds.specs.declared.told.Bounds.{Bounds}
use Rattle.zs_bounds.specs.Driven.{IsAttempt, WaitsFor, LetsEndAt, IsDriven}

-- how long a decision at a moment waits: not at all if it is to stop
abbrev pub wait_of : ℕ → Decision → ℕ
wait_of m Stop = 0
wait_of m (Next x) = x - m

-- the schedule's wait after the last step of a history
abbrev pub last_wait : Schedule → History → ℕ
last_wait s h = wait_of (last_moment h) (answer_of s h).decision

-- its waits after all steps of a history, the last one too
abbrev pub total_wait : Schedule → History → ℕ
total_wait s [] = 0
total_wait s (p ∷ h) = last_wait s (p ∷ h) + total_wait s h

-- an attempt after the last step of a history and its wait ends at a moment, if there is a step
abbrev pub EndsAfter : Driver → History → List ℕ → ℕ → Type 0
EndsAfter d [] [] m = Unit {0}
EndsAfter d [] (u ∷ us) m = ⊥
EndsAfter d (p ∷ h) [] m = ⊥
EndsAfter d (p ∷ h) (u ∷ us) m = IsAttempt d (p.0 + u) m

-- the waits of a driver after the steps of a history, the last one too, the newest first
abbrev pub HasWaits : Schedule → Driver → History → List ℕ → Type 0
HasWaits s d [] [] = Unit {0}
HasWaits s d [] (u ∷ us) = ⊥
HasWaits s d (p ∷ h) [] = ⊥
HasWaits s d (p ∷ h) (u ∷ us) =
    WaitsFor d.waits p.0 (answer_of s (p ∷ h)).decision u × EndsAfter d h us p.0 × HasWaits s d h us

-- After a history, an attempt begins and ends at m: the first one, which begins at `begun`, or one
-- that the last step lets begin.
abbrev pub NextEndsAt : Schedule → Driver → ℕ → History → ℕ → Type 0
NextEndsAt s d begun [] m = IsAttempt d begun m
NextEndsAt s d begun (p ∷ h) m =
    IsDriven s d (p ∷ h) × IsAttempt d begun (first_moment (p ∷ h))
    × LetsEndAt d p.0 (answer_of s (p ∷ h)).decision m

-- A schedule never gives up: it goes on after each step of every history.
abbrev pub NeverGivesUp : Schedule → Type 0
NeverGivesUp s = (p : ℕ × ℕ) (h : History) → is_next (answer_of s (p ∷ h)).decision ≡ true

-- At most n attempts begin within a time of the begin of the first one, that one too. After a
-- history the next one begins at the end of the driver's wait, if its last step goes on.
pub record BeginsWithin (s : Schedule) (d : Driver) (time n : ℕ) : Type 0 where
  pub first : 1 ≤ n
  pub later : (begun u : ℕ) (h : History) → IsDriven s d h → IsAttempt d begun (first_moment h)
      → is_next (answer_of s h).decision ≡ true
      → WaitsFor d.waits (last_moment h) (answer_of s h).decision u
      → last_moment h + u ≤ begun + time → length h + 1 ≤ n

-- What is promised of every history that a driver can make with a schedule.
pub record Promises (s : Schedule) (d : Driver) (b : Bounds) : Type 0 where
  -- with a most, no history has more steps, and at that step the schedule is done
  pub most : (k : ℕ) → b.most ≡ Some k → (h : History) → IsDriven s d h → length h ≤ k
  pub done : (k : ℕ) → b.most ≡ Some k → (h : History) → IsDriven s d h → length h ≡ k
      → (answer_of s h).decision ≡ Stop
  -- before the least step the schedule goes on
  pub least : (h : History) → IsDriven s d h → length h < b.least
      → is_next (answer_of s h).decision ≡ true
  -- no wait of a driver after a step that was looked at is longer
  pub longest : (h : History) → IsDriven s d h → length h ≤ b.seen → (u : ℕ)
      → WaitsFor d.waits (last_moment h) (answer_of s h).decision u → u ≤ b.longest
  -- with a limit of every wait, no wait of a driver after any step is longer
  pub every : (w : ℕ) → b.every ≡ Some w → (h : History) → IsDriven s d h → (u : ℕ)
      → WaitsFor d.waits (last_moment h) (answer_of s h).decision u → u ≤ w
  -- with a total, all waits of a driver are no longer in all
  pub total : (t : ℕ) → b.total ≡ Some t → (h : History) → IsDriven s d h → (us : List ℕ)
      → HasWaits s d h us → sum us ≤ t
  -- with a longest run, the last attempt ends at most that long after the begin of the first one
  pub run : (r : ℕ) → b.longest_run ≡ Some r → (h : History) → IsDriven s d h
      → (begun : ℕ) → IsAttempt d begun (first_moment h) → last_moment h ≤ begun + r
  -- and so does every attempt that begins, even if no clock goes on to its end
  pub next : (r : ℕ) → b.longest_run ≡ Some r → (begun : ℕ) (h : History) (m : ℕ)
      → NextEndsAt s d begun h m → m ≤ begun + r
  -- unless the numbers are cut, no history has more steps than were looked at, and with a most that
  -- is their number
  pub whole : b.is_cut ≡ false → (h : History) → IsDriven s d h → length h ≤ b.seen
  pub seen : b.is_cut ≡ false → (k : ℕ) → b.most ≡ Some k → b.seen ≡ k

-- What bounds say of the schedule's waits, if a driver is never early.
pub record BoundsWaits (s : Schedule) (d : Driver) (b : Bounds) : Type 0 where
  -- no wait of the schedule after a step that was looked at is longer
  pub longest : (h : History) → IsDriven s d h → length h ≤ b.seen → last_wait s h ≤ b.longest
  -- with a limit of every wait, none of its waits is longer
  pub every : (w : ℕ) → b.every ≡ Some w → (h : History) → IsDriven s d h → last_wait s h ≤ w
  -- with a total, all its waits are no longer in all
  pub total : (t : ℕ) → b.total ≡ Some t → (h : History) → IsDriven s d h → total_wait s h ≤ t

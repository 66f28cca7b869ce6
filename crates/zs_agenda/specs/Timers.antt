-- A timer queue as the moment of each job whose timer is armed, and the last moment that was taken.
-- Callers see an `Agenda` as `Timers` alone. `specs/Indexes.antt` has how it is stored.
use Rattle.std.specs.Prelude.{◌≡◌, ◌≢◌, ◌<◌, ◌≤◌, ◌↔◌, ℕ, List, Option, Some, None, Contains, refl}
use Rattle.std.specs.Coded.{Coded, code_by, coded×, coded_ℕ, coded_option}
use Rattle.std.specs.List.Sorted.{IsStrictlyIncreasing}
use Rattle.std.specs.Ordering.{nat_cmp}
use Rattle.std.specs.FinMap.{FinMap, get, code}

-- a map from each job whose timer is armed to its moment
abbrev pub Moments : Type 0
Moments = FinMap nat_cmp ℕ

-- what callers know about an agenda
pub record Timers : Type 0 where
  pub moments : Moments
  pub last_taken : Option ℕ

-- timers are coded as the pair of their fields
abbrev pub timers_code : Coded Timers
timers_code =
    code_by (Moments × Option ℕ) (coded× (code coded_ℕ coded_ℕ) (coded_option coded_ℕ))
    (λ t. (t.moments, t.last_taken))
    (λ p. record { moments = p.0; last_taken = p.1 }) (λ _. refl)

-- t is later than the last moment taken, if there was one
abbrev pub IsAfter : Option ℕ → ℕ → Type 0
IsAfter None t = Unit {0}
IsAfter (Some s) t = s < t

-- some job is set for t, and none for an earlier moment
pub record IsLeastMoment (moments : Moments) (t : ℕ) : Type 0 where
  pub some_job : (job : ℕ) × (get moments job ≡ Some t)
  pub least : (job s : ℕ) → get moments job ≡ Some s → t ≤ s

-- new is old without its least moment t; `jobs` are exactly the jobs of t, each once, rising
pub record Takes (old new : Timers) (t : ℕ) (jobs : List ℕ) : Type 0 where
  pub is_least : IsLeastMoment old.moments t
  pub is_after : IsAfter old.last_taken t
  pub all_jobs : (job : ℕ) → Contains jobs job ↔ (get old.moments job ≡ Some t)
  pub in_order : IsStrictlyIncreasing jobs
  pub others_stay : (job s : ℕ)
      → (get new.moments job ≡ Some s) ↔ ((get old.moments job ≡ Some s) × (s ≢ t))
  pub is_last : new.last_taken ≡ Some t

-- the queue before a take determines its moment, its jobs and the queue after it
abbrev pub TakesOneWay : Type 0
TakesOneWay =
    (old new other : Timers) (t s : ℕ) (jobs others : List ℕ)
    → Takes old new t jobs → Takes old other s others
    → (s ≡ t) × (others ≡ jobs) × (other ≡ new)

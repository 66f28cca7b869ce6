-- How an agenda is stored: an ordered map from each moment to its jobs, and one from each job to
-- its moment. `IsAgenda` is the invariant: both agree, each list rises, none is empty, and each
-- moment is later than the last one taken.
-- Public clauses don't name these words. `proofs/IndexLemmas.antt` proves that each step preserves
-- the invariant.
use Rattle.std.specs.Prelude.{◌≡◌, ◌≢◌, ◌<◌, ◌≤◌, ◌↔◌, ◌==◌, ℕ, Bool, true, false, nat_lt, List, []}
use Rattle.std.specs.Prelude.{◌∷◌, Option, Some, None, if◌then◌else◌, unwrap_or, vec_len, ⊤}
use Rattle.std.specs.Global.{Vec}
use Rattle.std.specs.Vec.{vec_capacity}
use Rattle.std.specs.List.{AllByRecursion, list_any}
use Rattle.std.specs.Ordering.{nat_cmp}
use Rattle.std.specs.BTreeMap.{BTreeMap, get, btree_map_len}
use Rattle.std.specs.FinMap.{from_entries}
use Rattle.zs_agenda.specs.Timers.{Moments, IsAfter}

-- the map by moment, as the code stores it
abbrev pub ByMoment : Type 0
ByMoment = BTreeMap ℕ (Vec ℕ)

-- the map by job, as the code stores it
abbrev pub ByJob : Type 0
ByJob = BTreeMap ℕ ℕ

-- the items of a vector, if there is one
abbrev pub items_of : Option (Vec ℕ) → Option (List ℕ)
items_of None = None
items_of (Some v) = Some v.items

-- the jobs at a moment, if there are any
abbrev pub jobs_at : ByMoment → ℕ → Option (List ℕ)
jobs_at m t = items_of (get nat_cmp m t)

-- whether the job is in the list, if there is one
abbrev pub is_among : ℕ → Option (List ℕ) → Bool
is_among job None = false
is_among job (Some jobs) = list_any (λ j. j == job) jobs

-- each job is less than all jobs after it
abbrev pub IsRising : List ℕ → Type 0
IsRising [] = Unit {0}
IsRising (j ∷ js) = AllByRecursion (λ k. j < k) js × IsRising js

-- a rising list with a job inserted at its place
abbrev pub placed : ℕ → List ℕ → List ℕ
placed job [] = job ∷ []
placed job (j ∷ js) = if nat_lt j job then j ∷ placed job js else job ∷ j ∷ js

-- there is no list, or it is full: one more job takes memory
abbrev pub HasNoRoom : Option (Vec ℕ) → Type 0
HasNoRoom None = ⊤
HasNoRoom (Some jobs) = vec_capacity jobs ≤ vec_len jobs

-- new is old with a job added at the moment
abbrev pub Adds : ByMoment → ByMoment → ℕ → ℕ → Type 0
Adds old new moment job =
    (t : ℕ) → jobs_at new t ≡ (if t == moment
    then Some (placed job (unwrap_or (jobs_at old moment) [])) else jobs_at old t)

-- both have the same jobs at each moment
abbrev pub HasSameJobs : ByMoment → ByMoment → Type 0
HasSameJobs old new = (t : ℕ) → jobs_at new t ≡ jobs_at old t

-- new is old with this moment for the job
abbrev pub Puts : ByJob → ByJob → ℕ → ℕ → Type 0
Puts old new job moment = (q : ℕ)
    → get nat_cmp new q ≡ (if job == q then Some moment else get nat_cmp old q)

-- both have the same moment for each job
abbrev pub HasSameMoments : ByJob → ByJob → Type 0
HasSameMoments old new = (q : ℕ) → get nat_cmp new q ≡ get nat_cmp old q

-- new is old without the moments of these jobs
abbrev pub Forgets : ByJob → ByJob → List ℕ → Type 0
Forgets old new jobs =
    (job : ℕ)
    → get nat_cmp new job ≡ (if list_any (λ j. j == job) jobs then None else get nat_cmp old job)

-- if no moment is left, no other job has one
abbrev pub AreAll : ByMoment → ByJob → List ℕ → Type 0
AreAll left old jobs =
    btree_map_len left ≡ 0 → (job : ℕ) → list_any (λ j. j == job) jobs ≡ false
    → get nat_cmp old job ≡ None

-- the moment of each job, as callers see it
abbrev pub moments_of : ByJob → Moments
moments_of m = from_entries m.entries

-- both maps agree, each list rises, none is empty, and each moment is later than the last taken
pub record Agrees (jobs_of : ℕ → Option (List ℕ))
    (moment_of : ℕ → Option ℕ) (taken : Option ℕ) : Type 0 where
  pub agree : (job t : ℕ) → (moment_of job ≡ Some t) ↔ (is_among job (jobs_of t) ≡ true)
  pub rising : (t : ℕ) (jobs : List ℕ) → jobs_of t ≡ Some jobs → IsRising jobs
  pub not_empty : (t : ℕ) (jobs : List ℕ) → jobs_of t ≡ Some jobs → jobs ≢ []
  pub later : (job t : ℕ) → moment_of job ≡ Some t → IsAfter taken t

-- the invariant of an agenda
abbrev pub IsAgenda : ByMoment → ByJob → Option ℕ → Type 0
IsAgenda m n taken = Agrees (jobs_at m) (get nat_cmp n) taken

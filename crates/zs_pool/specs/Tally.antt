-- The rule of a tally: its word is the sum of what all seats counted, and no seat saw more.
use Rattle.std.specs.Prelude.{◌≡◌, ℕ, ◌+◌, ◌-◌, ◌≤◌, max, List, [], ◌∷◌, sum_by}
use Rattle.atomic_table.specs.Seated.{TableId}
use Rattle.atomic_table.specs.Table.{State, Step, Me}
use Rattle.zs_term.specs.Saturating.{max_moment}
use Rattle.zs_pool.specs.Runs.{Every}
use Rattle.zs_pool.specs.declared.tally.rule.Tallied.{Tallied}

-- a seat: its count, its allowance, the value seen last, and the amount noted for a split
abbrev pub tallied : ℕ → ℕ → ℕ → ℕ → Tallied
tallied count allowance seen noted =
    record { count = count; allowance = allowance; seen = seen; noted = noted }

-- the rule, over the word and the views of all seats
pub record TallyRun (words : List ℕ) (views : List Tallied) : Type 0 where
  -- the word is the sum of all counts
  pub word : words ≡ sum_by (λ v. v.count) views ∷ []
  -- the word and all allowances add up to `max_moment`
  pub whole : sum_by (λ v. v.count) views + sum_by (λ v. v.allowance) views ≡ max_moment
  -- no value seen is greater than the word
  pub each : Every (λ v. v.seen ≤ sum_by (λ v. v.count) views) views

-- the same rule over a table of words
abbrev pub KeepsTally : Unit {0} → State (Unit {0}) Tallied → Type 0
KeepsTally key s = TallyRun s.words s.views

-- a seat adds one
abbrev pub CountsOne : Step (Unit {0}) → Me (Unit {0}) Tallied → ℕ → Me (Unit {0}) Tallied → Type 0
CountsOne st me n now =
    now ≡ (tallied (me.0.count + 1) (me.0.allowance - 1) me.0.seen me.0.noted, me.1)

-- a seat reads the word n
abbrev pub Loaded : Step (Unit {0}) → Me (Unit {0}) Tallied → ℕ → Me (Unit {0}) Tallied → Type 0
Loaded st me n now = (me.0.count ≤ n) × (me.0.seen ≤ n) × (n + me.0.allowance ≤ max_moment)
    × (now ≡ (tallied me.0.count me.0.allowance n me.0.noted, me.1))

-- a seat notes the amount that it is about to split off
abbrev pub Noted : Step (Unit {0}) → Me (Unit {0}) Tallied → ℕ → Me (Unit {0}) Tallied → Type 0
Noted st me n now = now ≡ (tallied me.0.count me.0.allowance me.0.seen st.first, me.1)

-- a seat learns that its allowance fits, and changes nothing
abbrev pub Fitting : Step (Unit {0}) → Me (Unit {0}) Tallied → ℕ → Me (Unit {0}) Tallied → Type 0
Fitting st me n now = (me.0.allowance ≤ max_moment) × (now ≡ me)

-- a seat, as contracts know it: its tally, its count, its allowance and the value that it saw last
pub record Seating : Type 0 where
  pub tally : TableId
  pub count : ℕ
  pub allowance : ℕ
  pub seen : ℕ

-- the seat with these parts
abbrev pub seating : TableId → ℕ → ℕ → ℕ → Seating
seating tally count allowance seen =
    record { tally = tally; count = count; allowance = allowance; seen = seen }

-- the seat after n of its allowance was split off
abbrev pub split_seating : TableId → Seating → ℕ → Seating
split_seating tally s n = seating tally s.count (s.allowance - n) s.seen

-- two seats as one: their counts and allowances are added
abbrev pub joined_seating : TableId → Seating → Seating → Seating
joined_seating tally s t =
    seating tally (s.count + t.count) (s.allowance + t.allowance) (max s.seen t.seen)

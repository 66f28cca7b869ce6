-- What `zs_bounds` returns to C: the bounds of the schedule that the text spells. They hold.
use Rattle.std.specs.Prelude.{◌≡◌, ◌≢◌, ◌⊎◌, ◌+◌, ℕ, Bool, true, false, ◌&&◌, ◌||◌, nat_eq}
use Rattle.std.specs.Prelude.{nat_lt, nat_le, if◌then◌else◌, List, Option, Some, None}
use Rattle.zs_term.specs.Saturating.{saturated}
use Rattle.zs_term.specs.Schedule.{Schedule}
use Rattle.zs_term.specs.Causes.{SpellsSchedule}
use Rattle.zs_bounds.specs.declared.driver.Driver.{Driver}
use Rattle.zs_bounds.specs.Bounds.{Promises}
use Rattle.zs_bounds.specs.BoundsOf.{bounds_of}
use Rattle.zs_bounds.specs.declared.told.Bounds.{Bounds}
use Rattle.zs_c.specs.declared.bounding.BoundsTold.{BoundsTold}
use Rattle.zs_c.specs.declared.bounding.GivenDriver.{GivenDriver}
use Rattle.zs_c.specs.declared.refusal.Refusal.{Refusal}
use Rattle.zs_c.specs.declared.refusal.Refusal.TheVariants.{NotUtf8, Memory, KeepsList}
use Rattle.zs_c.specs.declared.refusal.Refusal.TheVariants.{NoRoom, NoDriver, OtherSize, Text}
use Rattle.zs_c.specs.Refusals.{IsTextRefusal}

-- what a driver may do, as C says it; without a flag there is no most
abbrev pub driver_of : GivenDriver → Driver
driver_of g = record {
  least = g.least;
  most = (if nat_eq g.has_most 0 then None else Some g.most);
  waits = record {
    least_percent = g.least_percent;
    most_percent = g.most_percent;
    asked = g.asked;
    late = g.late;
  };
}

-- whether a driver can do this: attempts take 1 ms or more, and no least is above its most
abbrev pub is_possible : GivenDriver → Bool
is_possible g =
    nat_lt 0 g.least && ((nat_eq g.has_most 0 || nat_le g.least g.most)
    && nat_le g.least_percent g.most_percent)

-- the structs are as large as this version reads and writes them, in bytes
abbrev pub IsSized : GivenDriver → BoundsTold → Type 0
IsSized g b = (g.size ≡ 64) × (b.size ≡ 80)

-- whether there is a bound: 1 or 0
abbrev pub has_bound : Option ℕ → ℕ
has_bound None = 0
has_bound (Some n) = 1

-- a bound, or 0 if there is none
abbrev pub bound_told : Option ℕ → ℕ
bound_told None = 0
bound_told (Some n) = n

-- A longest run, or 0 if there is none. Moments are whole milliseconds, rounded down, so an attempt
-- may end up to a millisecond after the last one.
abbrev pub run_told : Option ℕ → ℕ
run_told None = 0
run_told (Some n) = saturated (n + 1)

-- bounds as C reads them
abbrev pub bounds_told : Bounds → BoundsTold
bounds_told b = record {
  size = 80;
  seen = b.seen;
  least = b.least;
  has_most = has_bound b.most;
  most = bound_told b.most;
  longest = b.longest;
  has_total = has_bound b.total;
  total = bound_told b.total;
  has_longest_run = has_bound b.longest_run;
  longest_run = run_told b.longest_run;
}

-- The text spells a schedule, and these are its bounds over at most n steps. They hold for every
-- history that a driver can make, if it does what C says.
pub record IsBounded (text : List ℕ) (g : GivenDriver) (n : ℕ) (r : BoundsTold) : Type 0 where
  pub term : Schedule
  pub spelled : SpellsSchedule text term
  pub possible : is_possible g ≡ true
  pub told : r ≡ bounds_told (bounds_of term (driver_of g) n)
  pub promised : Promises term (driver_of g) (bounds_of term (driver_of g) n)

-- Why there are no bounds: a struct has another size; or none has, and no driver can do this; or
-- one can, and the text is rejected.
abbrev pub IsBoundsRefusal : List ℕ → GivenDriver → BoundsTold → Refusal → Type 0
IsBoundsRefusal text g b OtherSize = (g.size ≢ 64) ⊎ (b.size ≢ 80)
IsBoundsRefusal text g b NoDriver = IsSized g b × (is_possible g ≡ false)
IsBoundsRefusal text g b (NotUtf8 at) =
    IsSized g b × (is_possible g ≡ true) × IsTextRefusal text (NotUtf8 at)
IsBoundsRefusal text g b (Text fault) =
    IsSized g b × (is_possible g ≡ true) × IsTextRefusal text (Text fault)
IsBoundsRefusal text g b Memory =
    IsSized g b × (is_possible g ≡ true) × IsTextRefusal text Memory
IsBoundsRefusal text g b KeepsList = ⊥
IsBoundsRefusal text g b NoRoom = ⊥

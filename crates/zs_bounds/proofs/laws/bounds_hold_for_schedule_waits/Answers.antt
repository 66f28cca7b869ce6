use Rattle.std.proofs.Common.{refl, arith}
use Rattle.zs_bounds.proofs.ScheduleWaits.{bounds-waits, exact-only, exact-same, lets-exactly}
use Rattle.zs_bounds.proofs.laws.bounds_hold_for_schedule_waits.Goals as goal

pub returns : goal.returns
returns c = record {
  exact = record { least = refl; most = omega arith };
  only = exact-only;
  same = exact-same;
  value = bounds-waits;
  begins = λ s d h x m never tick decides attempt. lets-exactly d s h x m never tick
      decides attempt;
}

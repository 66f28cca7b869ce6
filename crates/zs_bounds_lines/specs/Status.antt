-- The exit status for each ending.
use Rattle.std.specs.Prelude.{ℕ, Result, Ok, Err}
use Rattle.zs_bounds_lines.specs.declared.fault.BoundsFault.{BoundsFault}
use Rattle.zs_bounds_lines.specs.declared.fault.BoundsFault.TheVariants.{Read, Line, Memory, Write}
use Rattle.zs_bounds_lines.specs.declared.fault.BoundsFault.TheVariants.{Words}

-- 2 for a rejected line or wrong words, 3 if reading or writing failed, 4 without memory
abbrev pub status_of : BoundsFault → ℕ
status_of Read = 3
status_of (Line line fault) = 2
status_of Memory = 4
status_of Write = 3
status_of (Words fault) = 2

-- 0 at success
abbrev pub exit_status_of : Result (Unit {0}) BoundsFault → ℕ
exit_status_of (Ok done) = 0
exit_status_of (Err fault) = status_of fault

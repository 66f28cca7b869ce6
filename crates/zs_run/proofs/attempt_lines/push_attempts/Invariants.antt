use Rattle.std.proofs.Common.{◌≡◌, ◌+◌, ◌++◌, map, drop, string_bytes}
use Rattle.zs_drive.specs.Values.{attempted_of}
use Rattle.zs_run.specs.Lines.{attempts_lines}
use Rattle.zs_run.proofs.attempt_lines.push_attempts.Given as goal

abbrev pub invariant-loop-attempt : goal.invariant-loop-attempt
invariant-loop-attempt l = (l.number ≡ 1 + l.attempt-index)
    × (string_bytes l.text
    ++ attempts_lines l.number (map attempted_of (drop l.attempt-index l.attempts))
    ≡ string_bytes l.fn.text ++ attempts_lines 1 (map attempted_of l.attempts))

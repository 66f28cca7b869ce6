-- What contracts know about a `Marked`.
use Rattle.std.specs.Prelude.{ℕ, Bool}
use Rattle.zs_run.specs.declared.marked.Marked.{Marked}

-- the reader or writer inside
abbrev pub marked_inner : {T : Type 0} → Marked T → T
marked_inner m = m.inner

-- a call of it has failed
abbrev pub marked_failed : {T : Type 0} → Marked T → Bool
marked_failed m = m.failed

-- a flush succeeded, and no bytes were taken since
abbrev pub marked_flushed : {T : Type 0} → Marked T → Bool
marked_flushed m = m.flushed

-- the number of pulls, saturated at 2^64 - 1
abbrev pub marked_pulls : {T : Type 0} → Marked T → ℕ
marked_pulls m = m.pulls

-- What a script is, why a list of entries is rejected, and which entry an attempt follows.
use Rattle.std.specs.Prelude.{◌≡◌, ℕ, ◌<◌, ◌≤◌, ◌-◌, List, [], length, min, slice_index_or}
use Rattle.std.specs.List.{All, Any}
use Rattle.zs_effect.specs.declared.script.Beat.{Beat}
use Rattle.zs_effect.specs.declared.script.Outcome.TheVariants.{Good}
use Rattle.zs_effect.specs.declared.script.ScriptFault.{ScriptFault}
use Rattle.zs_effect.specs.declared.script.ScriptFault.TheVariants.{Empty, TooLong, ZeroMs}

-- the greatest number of entries
abbrev pub max_beats : ℕ
max_beats = 1000

-- a script: 1 to `max_beats` entries of at least 1 ms each
pub record IsScript (beats : List Beat) : Type 0 where
  pub some : 1 ≤ length beats
  pub few : length beats ≤ max_beats
  pub timed : All (λ beat. 1 ≤ beat.ms) beats

-- the fault of a list that comes first in the order of the variants
abbrev pub IsFirstFault : List Beat → ScriptFault → Type 0
IsFirstFault beats Empty = beats ≡ []
IsFirstFault beats TooLong = max_beats < length beats
IsFirstFault beats ZeroMs =
    (1 ≤ length beats) × (length beats ≤ max_beats) × Any (λ beat. beat.ms ≡ 0) beats

-- the default of `entry_at` for an empty list
abbrev pub no_entry : Beat
no_entry = record { ms = 1; outcome = Good 0 }

-- the k-th entry, counted from 1, or the last one if there are fewer
abbrev pub entry_at : List Beat → ℕ → Beat
entry_at beats k = slice_index_or beats (min k (length beats) - 1) no_entry

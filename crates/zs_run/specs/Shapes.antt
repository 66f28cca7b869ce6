-- What a document, a job and an entry consist of: the required parts, each with its type. `None` is
-- the wrong shape. A part that may be missing has its default here.
use Rattle.std.specs.Prelude.{ℕ, List, [], ◌∷◌, Option, Some, None, option_map, codes}
use Rattle.serde_json.specs.Data.{Data}
use Rattle.serde_json.specs.Find.{get}
use Rattle.zs_agenda.specs.Ticks.{Ticks, every_ms, listed}
use Rattle.zs_effect.specs.declared.script.Beat.{Beat}
use Rattle.zs_effect.specs.declared.script.Outcome.{Outcome}
use Rattle.zs_effect.specs.declared.script.Outcome.TheVariants.{Good, Bad}
use Rattle.zs_run.specs.Tree.{◌>>=◌, as_whole, as_wholes, find_whole, find_text, find_list}
use Rattle.zs_run.specs.Tree.{whole_or}

-- ---- an entry of a script

-- the keys that it may have
abbrev pub entry_keys : List (List ℕ)
entry_keys = codes "ms" ∷ codes "ok" ∷ codes "err" ∷ []

-- the outcome of an attempt, by the values at `ok` and `err`: exactly one of them
abbrev pub outcome_of : Option Data → Option Data → Option Outcome
outcome_of (Some ok) None = option_map Good (as_whole ok)
outcome_of None (Some err) = option_map Bad (as_whole err)
outcome_of None None = None
outcome_of (Some ok) (Some err) = None

-- the duration of an attempt, and its outcome
unfoldable pub beat_of : Data → Option Beat
beat_of d = do
  ms ← find_whole (codes "ms") d
  outcome ← outcome_of (get (codes "ok") d) (get (codes "err") d)
  Some (record { ms = ms; outcome = outcome })

-- ---- a job

-- the keys that it may have
abbrev pub job_keys : List (List ℕ)
job_keys = codes "name" ∷ codes "mode" ∷ codes "schedule" ∷ codes "start" ∷ codes "script" ∷ []

-- the parts of a job
pub record JobParts : Type 0 where
  pub name : List ℕ
  pub mode : List ℕ
  pub schedule : List ℕ
  pub start : ℕ
  pub entries : List Data

-- the job's parts: three texts, a start with the default 0, and the list of the script's entries
unfoldable pub job_parts : Data → Option JobParts
job_parts d = do
  name ← find_text (codes "name") d
  mode ← find_text (codes "mode") d
  schedule ← find_text (codes "schedule") d
  start ← whole_or 0 (get (codes "start") d)
  entries ← find_list (codes "script") d
  Some (record { name = name; mode = mode; schedule = schedule; start = start; entries = entries })

-- ---- the document

-- the keys that it may have
abbrev pub document_keys : List (List ℕ)
document_keys =
    codes "horizon" ∷ codes "ticks" ∷ codes "workers" ∷ codes "grain" ∷ codes "jobs" ∷ []

-- the ticks of a document, by the values at `horizon` and `ticks`: exactly one of them
abbrev pub ticks_asked : Option Data → Option Data → Option Ticks
ticks_asked (Some horizon) None = option_map every_ms (as_whole horizon)
ticks_asked None (Some ticks) = option_map listed (as_wholes ticks)
ticks_asked None None = None
ticks_asked (Some horizon) (Some ticks) = None

-- the number of workers or the grain of a document, by its key: the default is 1
abbrev pub one_or_more : List ℕ → Data → Option ℕ
one_or_more key d = whole_or 1 (get key d)

-- the parts of a document besides its clock
pub record DocumentParts : Type 0 where
  pub workers : ℕ
  pub grain : ℕ
  pub jobs : List Data

-- the document's parts: two numbers, and the list of jobs
unfoldable pub document_parts : Data → Option DocumentParts
document_parts d = do
  workers ← one_or_more (codes "workers") d
  grain ← one_or_more (codes "grain") d
  jobs ← find_list (codes "jobs") d
  Some (record { workers = workers; grain = grain; jobs = jobs })

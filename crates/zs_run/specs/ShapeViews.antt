-- What contracts know about the parts of a document and of a job.
use Rattle.std.specs.Prelude.{map, Option, option_map}
use denote.Ref.{Bor}
use Rattle.serde_json.specs.Data.{Data}
use Rattle.serde_json.specs.View.{view}
use Rattle.serde_json.specs.declared.value.Value.{Value}
use Rattle.zs_agenda.specs.Ticks.{Ticks, every_ms, listed}
use Rattle.zs_run.specs.declared.shapes.AskedTicks.{AskedTicks}
use Rattle.zs_run.specs.declared.shapes.AskedTicks.TheVariants.{EveryMs, Listed}
use Rattle.zs_run.specs.declared.shapes.DocumentParts as document
use Rattle.zs_run.specs.declared.job_reading.JobParts as job
use Rattle.zs_run.specs.Shapes.{DocumentParts, JobParts}

-- the value that a key has, if it has one
abbrev pub found_view : Option (Bor Value) → Option Data
found_view found = option_map (λ v. view v.now) found

-- the ticks that a document gives
abbrev pub asked_view : AskedTicks → Ticks
asked_view (EveryMs last) = every_ms last
asked_view (Listed moments) = listed moments.items

-- the parts of a document, by their values
abbrev pub document_view : document.DocumentParts → DocumentParts
document_view parts =
    record { workers = parts.workers; grain = parts.grain; jobs = map view parts.jobs.items }

-- the parts of a job, by their values
abbrev pub job_view : job.JobParts → JobParts
job_view parts = record {
  name = parts.name.now;
  mode = parts.mode.now;
  schedule = parts.schedule.now;
  start = parts.start;
  entries = map view parts.entries.now;
}

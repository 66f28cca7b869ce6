use Rattle.std.proofs.Common.{◌≡◌, ◌+◌, map, length, []}
use Rattle.std.specs.Vec.Iter.{into_iter_items}
use Rattle.zs_drive.specs.Values.{job_record}
use Rattle.zs_run.specs.Jobs.{jobs_of}
use Rattle.zs_run.specs.Names.{KnowsNames}
use Rattle.serde_json.specs.View.{view}
use Rattle.zs_run.proofs.JobLemmas.{after, names_of}
use Rattle.zs_run.proofs.job_reading.jobs_of.Given as goal

abbrev pub invariant-loop-value : goal.invariant-loop-value
invariant-loop-value l = record {
  number : length l.jobs.items ≡ l.number;
  count : l.number + length (into_iter_items l.value-iterator) ≡ length l.fn.values.items;
  names : KnowsNames l.names (names_of l.jobs.items);
  jobs : after (map job_record l.jobs.items)
      (jobs_of l.number (names_of l.jobs.items) (map view (into_iter_items l.value-iterator)))
      ≡ jobs_of 0 [] (map view l.fn.values.items);
}

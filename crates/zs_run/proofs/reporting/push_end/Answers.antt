use Rattle.zs_run.proofs.reporting.push_end.Goals as goal

-- the job has no ending
pub returns-in-None : goal.returns-in-None
returns-in-None c =
    record {
      text = rw (← c.in-None.ensures.value, ← c.polls-polls.ensures.value)
          c.push_unfinished.ensures.text;
    }

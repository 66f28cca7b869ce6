use Rattle.zs_step.proofs.stepping.+stepping.Goals as goal

pub step_node-returns-in-Both-clause-counts : goal.step_node-returns-in-Both-clause-counts
step_node-returns-in-Both-clause-counts t c =
    rw c.in-Both.is (rw c.deref_mut.ensures.value at (c.step_both.ensures.counts (record {
      ptr = c.in-Both.parts.ptr;
      alloc = c.in-Both.parts.alloc;
      value = tt {0};
    })))

pub step_node-returns-in-Either-clause-counts : goal.step_node-returns-in-Either-clause-counts
step_node-returns-in-Either-clause-counts t c =
    rw c.in-Either.is
    (rw c.deref_mut-in-Either.ensures.value at (c.step_either.ensures.counts (record {
      ptr = c.in-Either.parts.ptr;
      alloc = c.in-Either.parts.alloc;
      value = tt {0};
    })))

pub step_node-returns-in-AndThen-clause-counts : goal.step_node-returns-in-AndThen-clause-counts
step_node-returns-in-AndThen-clause-counts t c =
    rw c.in-AndThen.is
    (rw c.deref_mut-in-AndThen.ensures.value at (c.step_and_then.ensures.counts (record {
      ptr = c.in-AndThen.parts.ptr;
      alloc = c.in-AndThen.parts.alloc;
      value = tt {0};
    })))

pub step_node-returns-in-ResetWhen-clause-counts : goal.step_node-returns-in-ResetWhen-clause-counts
step_node-returns-in-ResetWhen-clause-counts t c =
    rw c.in-ResetWhen.is
    (rw c.deref_mut-in-ResetWhen.ensures.value at (c.step_reset_when.ensures.counts (record {
      ptr = c.in-ResetWhen.part.ptr;
      alloc = c.in-ResetWhen.part.alloc;
      value = tt {0};
    })))

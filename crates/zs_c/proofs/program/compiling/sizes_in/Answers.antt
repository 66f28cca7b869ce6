use Rattle.std.proofs.Common.{[], length, ap, ◌∙◌, arith}
use Rattle.zs_term.specs.Schedule.{schedule_of}
use Rattle.zs_c.proofs.Codes.{held-length}
use Rattle.zs_c.proofs.program.compiling.sizes_in.Goals as goal

-- a program has the words of its schedule, and its state has the same number of words after any
-- steps
pub returns-clause-ok : goal.returns-clause-ok
returns-clause-ok c =
    let t = schedule_of c.in_ok-checked.checked in
    record {
      term = t;
      spelled = record {
        spelled = c.in_ok-checked.ensures.ok;
        flat = c.in_ok-program.ensures.shown;
      };
      sized = c.len.ensures ∙ c.in_ok-program.program.ok.0 ∙ ap length
          c.in_ok-program.ensures.program;
      state_sized = λ h planned. omega (arith, c.in_ok-program.ensures.state, held-length t [] h);
    }

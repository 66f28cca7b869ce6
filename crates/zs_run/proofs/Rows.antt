-- Worked examples, by computing: the plan of a text, and each fault against the next ones in the
-- order.
use Rattle.std.proofs.Common.{◌≡◌, ℕ, List, [], ◌∷◌, ◌++◌, map, Ok, Err, Some, None, codes, refl}
use Rattle.std.specs.Prelude.{Option, Result}
use Rattle.std.specs.Fmt.{digits}
use Rattle.zs_agenda.specs.Ticks.{every_ms, listed}
use Rattle.zs_term.specs.Schedule.{leaf, two, recurs, both, exponential}
use Rattle.zs_term.specs.declared.fault.TermFault.TheVariants as terms
use Rattle.zs_drive.specs.declared.job.Mode.TheVariants as modes
use Rattle.zs_drive.specs.Timeline.{timeline_of, from, from_begin, from_wait, by_outcome, by_answer}
use Rattle.zs_drive.specs.Timeline.{poll_moments}
use Rattle.zs_drive.specs.Clocks.{first_tick_from}
use Rattle.zs_engine.specs.Times.{ticks_of}
use Rattle.zs_effect.specs.declared.script.Outcome.TheVariants.{Good, Bad}
use Rattle.zs_effect.specs.declared.script.ScriptFault.TheVariants as scripts
use Rattle.zs_run.specs.Plan.{PlanRecord, plan_of}
use Rattle.zs_run.specs.PlanReport.{report_of}
use Rattle.zs_run.proofs.OnLiterals.{plans_on_literals}
use Rattle.zs_run.specs.declared.plan_fault.PlanFault.{PlanFault}
use Rattle.zs_run.specs.declared.plan_fault.PlanFault.TheVariants as faults

-- the fault of a text, if it has one
abbrev fault_of : Result PlanRecord PlanFault → Option PlanFault
fault_of (Ok plan) = None
fault_of (Err fault) = Some fault

-- the fault of a text as a plan, if it has one
abbrev fault_of_text : List ℕ → Option PlanFault
fault_of_text text = fault_of (plan_of text)

-- faults of a document
abbrev no_json : Option PlanFault
no_json = Some faults.Json

abbrev wrong_plan : Option PlanFault
wrong_plan = Some (faults.Shape None)

abbrev unknown_plan_key : Option PlanFault
unknown_plan_key = Some (faults.UnknownKey None)

abbrev out_of_range : Option PlanFault
out_of_range = Some (faults.Range None)

-- texts, each with its fault as a plan, if it has one
abbrev documents : List (List ℕ × Option PlanFault)
documents =
    (codes "", no_json)  -- an empty text
    ∷ (codes "{\"horizon\":1000,\"jobs\":[]}x", no_json)  -- a text that goes on
    ∷ (codes "{\"horizon\":1", no_json)  -- a text cut short
    ∷ (codes "[]", wrong_plan)  -- a document that is a list
    ∷ (codes "null", wrong_plan)  -- a document that is null
    ∷ (codes "{\"jobs\":[]}", wrong_plan)  -- no horizon
    ∷ (codes "{\"horizon\":1000}", wrong_plan)  -- no list of jobs
    ∷ (codes "{\"horizon\":1000,\"jobs\":{}}", wrong_plan)  -- jobs that are an object
    ∷ (codes "{\"horizon\":1.5,\"jobs\":[]}", wrong_plan)  -- half a millisecond
    ∷ (codes "{\"horizon\":1e3,\"jobs\":[]}", wrong_plan)  -- an exponent
    ∷ (codes "{\"horizon\":-0,\"jobs\":[]}", wrong_plan)  -- minus zero
    ∷ (codes "{\"horizon\":18446744073709551616,\"jobs\":[]}", wrong_plan)  -- a number past 64 bits
    ∷ (codes "{\"horizon\":null,\"jobs\":[]}", wrong_plan)  -- a horizon of null
    ∷ (codes "{\"horizon\":1,\"ticks\":[1],\"jobs\":[]}", wrong_plan)  -- horizon beside ticks
    -- a horizon of null beside ticks
    ∷ (codes "{\"horizon\":null,\"ticks\":[1],\"jobs\":[]}", wrong_plan)
    ∷ (codes "{\"ticks\":[1.5],\"jobs\":[]}", wrong_plan)  -- half a tick
    ∷ (codes "{\"ticks\":1,\"jobs\":[]}", wrong_plan)  -- ticks that are a number
    ∷ (codes "{\"horizon\":1,\"workers\":null,\"jobs\":[]}", wrong_plan)  -- workers of null
    ∷ (codes "{\"horizon\":1000,\"x\":1}", wrong_plan)  -- shape before an unknown key
    -- an unknown key before range
    ∷ (codes "{\"horizon\":1000000000000000,\"jobs\":[],\"start\":1}", unknown_plan_key)
    -- a key of a job in the document
    ∷ (codes "{\"horizon\":1,\"jobs\":[],\"name\":\"a\"}", unknown_plan_key)
    ∷ (codes "{\"horizon\":999999999999999,\"jobs\":[]}", None)  -- the greatest horizon
    ∷ (codes "{\"horizon\":1000000000000000,\"jobs\":[]}", out_of_range)  -- a greater horizon
    ∷ (codes "{\"horizon\":1,\"workers\":0,\"jobs\":[]}", out_of_range)  -- no worker
    ∷ (codes "{\"horizon\":1,\"workers\":64,\"jobs\":[]}", None)  -- most workers
    ∷ (codes "{\"horizon\":1,\"workers\":65,\"jobs\":[]}", out_of_range)  -- too many workers
    ∷ (codes "{\"horizon\":1,\"grain\":0,\"jobs\":[]}", out_of_range)  -- no grain
    ∷ (codes "{\"horizon\":1,\"grain\":10000,\"jobs\":[]}", None)  -- the coarsest grain
    ∷ (codes "{\"horizon\":1,\"grain\":10001,\"jobs\":[]}", out_of_range)  -- too coarse a grain
    ∷ (codes "{\"ticks\":[],\"jobs\":[]}", out_of_range)  -- no tick
    ∷ (codes "{\"ticks\":[5,5],\"jobs\":[]}", out_of_range)  -- a tick twice
    ∷ (codes "{\"ticks\":[1000000000000000],\"jobs\":[]}", out_of_range)  -- a tick past the limit
    ∷ (codes "{\"ticks\":[0,999999999999999],\"jobs\":[]}", None)  -- a tick at the limit
    -- a range before a jobs fault
    ∷ (codes "{\"horizon\":1000,\"workers\":65,\"jobs\":[1]}", out_of_range)
    ∷ (codes "{\"horizon\":1000,\"jobs\":[],\"horizon\":1.5}", wrong_plan)  -- a key twice
    ∷ (codes "{\"hori\\u007aon\":1000,\"jobs\":[]}", None)  -- an escaped key
    -- a job that is a number
    ∷ (codes "{\"horizon\":1000,\"jobs\":[1]}", Some (faults.Shape (Some 0)))
    ∷ []

documents_have_their_faults : map (λ row. fault_of_text row.0) documents
    ≡ map (λ row. row.1) documents
unfolding plans_on_literals
documents_have_their_faults = refl

-- ---- plans of one job or two

-- the text of a plan with these jobs
abbrev plan_text : List ℕ → List ℕ
plan_text jobs = codes "{\"horizon\":1000,\"jobs\":[" ++ jobs ++ codes "]}"

-- the fault of that plan, if it has one
abbrev fault_of_jobs : List ℕ → Option PlanFault
fault_of_jobs jobs = fault_of_text (plan_text jobs)

-- two faults of the first job
abbrev wrong_shape : Option PlanFault
wrong_shape = Some (faults.Shape (Some 0))

abbrev unknown_key : Option PlanFault
unknown_key = Some (faults.UnknownKey (Some 0))

-- the text of a job: its name, its mode, its schedule, and its script with the text after it
abbrev job : List ℕ → List ℕ → List ℕ → List ℕ → List ℕ
job name mode schedule script =
    codes "{\"name\":\"" ++ name ++ codes "\",\"mode\":\"" ++ mode
    ++ codes "\",\"schedule\":\"" ++ schedule
    ++ codes "\",\"script\":" ++ script ++ codes "}"

-- a script whose attempts fail
abbrev failing : List ℕ
failing = codes "[{\"ms\":5,\"err\":7}]"

-- a valid job but for its script, a valid job, and three that are valid but for the name, the mode
-- and script, and the schedule
abbrev with_script : List ℕ → List ℕ
with_script script = job (codes "a") (codes "retry") (codes "recurs(3)") script

abbrev right_job : List ℕ
right_job = with_script failing

abbrev with_name : List ℕ → List ℕ
with_name name = job name (codes "retry") (codes "recurs(3)") failing

abbrev with_mode : List ℕ → List ℕ → List ℕ
with_mode mode script = job (codes "a") mode (codes "recurs(3)") script

abbrev with_schedule : List ℕ → List ℕ
with_schedule schedule = job (codes "a") (codes "retry") schedule failing

-- 64 letters
abbrev as_64 : List ℕ
as_64 = codes "aaaaaaaaaaaaaaaaaaaaaaaaaaaaaaaaaaaaaaaaaaaaaaaaaaaaaaaaaaaaaaaa"

-- jobs, each text with the fault of the plan of it, if it has one
abbrev lists_of_jobs : List (List ℕ × Option PlanFault)
lists_of_jobs =
    -- a job without a name
    (
      codes "{\"mode\":\"retry\",\"schedule\":\"recurs(3)\",\"script\":" ++ failing
          ++ codes ",\"x\":1}",
      wrong_shape,
    )
    -- a mode that is a number
    ∷ (
      codes "{\"name\":\"a\",\"mode\":1,\"schedule\":\"recurs(3)\",\"script\":" ++ failing
          ++ codes "}",
      wrong_shape,
    )
    ∷ (with_script (failing ++ codes ",\"start\":\"0\""), wrong_shape)  -- a start that is a text
    -- the greatest start
    ∷ (with_script (failing ++ codes ",\"start\":18446744073709551615"), None)
    ∷ (with_script (codes "{}"), wrong_shape)  -- a script that is an object
    -- an entry with both outcomes
    ∷ (with_script (codes "[{\"ms\":5,\"ok\":1,\"err\":2}]"), wrong_shape)
    ∷ (with_script (codes "[{\"ms\":5}]"), wrong_shape)  -- an entry with no outcome
    -- an entry with a null beside an outcome
    ∷ (with_script (codes "[{\"ms\":5,\"ok\":null,\"err\":1}]"), wrong_shape)
    ∷ (with_script (codes "[{\"ms\":5,\"ok\":null}]"), wrong_shape)  -- an entry with a null outcome
    ∷ (with_script (codes "[{\"ok\":1}]"), wrong_shape)  -- an entry without a duration
    ∷ (with_script (codes "[{\"ms\":-5,\"ok\":1}]"), wrong_shape)  -- an entry below zero
    ∷ (with_script (codes "[[]]"), wrong_shape)  -- an entry that is a list
    -- the shape of an entry before an unknown key
    ∷ (with_script (codes "[{\"ms\":5}],\"x\":1"), wrong_shape)
    ∷ (with_script (failing ++ codes ",\"x\":1"), unknown_key)  -- an unknown key of a job
    -- an unknown key of an entry before a mode
    ∷ (with_mode (codes "loop") (codes "[{\"ms\":5,\"ok\":1,\"y\":1}]"), unknown_key)
    ∷ (with_script (failing ++ codes ",\"ms\":1"), unknown_key)  -- a key of an entry in a job
    ∷ (with_mode (codes "loop") failing, Some (faults.Range (Some 0)))  -- an unknown mode
    -- a mode before a name
    ∷ (job (codes "") (codes "Retry") (codes "recurs(3)") failing, Some (faults.Range (Some 0)))
    ∷ (with_name (codes ""), Some (faults.Name 0))  -- no name
    ∷ (with_name (codes "a b"), Some (faults.Name 0))  -- a name with a space
    ∷ (with_name (codes "A-z_9.x"), None)  -- a name of all kinds
    ∷ (with_name as_64, None)  -- a name of 64 bytes
    ∷ (with_name (codes "a" ++ as_64), Some (faults.Name 0))  -- a name of 65 bytes
    -- a name before a schedule
    ∷ (job (codes "") (codes "retry") (codes "x") failing, Some (faults.Name 0))
    ∷ (right_job ++ codes "," ++ right_job, Some (faults.SameName 1))  -- a name twice
    -- a name twice before a schedule
    ∷ (right_job ++ codes "," ++ with_schedule (codes "x"), Some (faults.SameName 1))
    -- a fault of an earlier job
    ∷ (with_script (codes "[]") ++ codes "," ++ right_job, Some (faults.Script 0 scripts.Empty))
    -- a schedule before a script
    ∷ (
      job (codes "a") (codes "retry") (codes "") (codes "[]"),
      Some (faults.Schedule 0 (terms.NoTerm 0)),
    )
    -- a schedule without a kind
    ∷ (with_schedule (codes "recurs(1).map(_1)"), Some (faults.Schedule 0 terms.NoKind))
    -- a schedule with an empty window
    ∷ (with_schedule (codes "windowed(0)"), Some (faults.Schedule 0 terms.BadWindow))
    -- a schedule with a factor of zero
    ∷ (with_schedule (codes "exponential(1, 0)"), Some (faults.Schedule 0 terms.BadFactor))
    ∷ (with_script (codes "[]"), Some (faults.Script 0 scripts.Empty))  -- no entry
    -- an entry of no time
    ∷ (
      with_script (codes "[{\"ms\":1,\"ok\":1},{\"ms\":0,\"ok\":1}]"),
      Some (faults.Script 0 scripts.ZeroMs),
    )
    ∷ []

lists_of_jobs_have_their_faults : map (λ row. fault_of_jobs row.0) lists_of_jobs
    ≡ map (λ row. row.1) lists_of_jobs
unfolding plans_on_literals
lists_of_jobs_have_their_faults = refl

-- a plan of one job, as a value
abbrev one_retry_job : PlanRecord
one_retry_job = record {
  clock = every_ms 1000;
  workers = 1;
  grain = 1;
  jobs = record {
    name = codes "a";
    mode = modes.Retry;
    schedule = leaf (recurs 3);
    start = 0;
    script = record { ms = 5; outcome = Bad 7 } ∷ record { ms = 5; outcome = Good 1 } ∷ [];
  } ∷ [];
}

one_retry_job_read : plan_of (plan_text
    (with_script (codes "[{\"ms\":5,\"err\":7},{\"ms\":5,\"ok\":1}]"))) ≡ Ok one_retry_job
unfolding plans_on_literals
one_retry_job_read = refl

-- the same job on a clock of a few ticks
abbrev one_job_on_ticks : PlanRecord
one_job_on_ticks = record one_retry_job { clock = listed (0 ∷ 8 ∷ 20 ∷ 40 ∷ []) }

one_job_on_ticks_reported : report_of one_job_on_ticks
    ≡ codes "job a retry\nattempt 1 0..8 err 7\nstep 1 out 0 next 8\n"
    ++ codes "attempt 2 8..20 ok 1\nend succeeded 1 at 20 polls 3\npolls 3\n"
unfolding ticks_of timeline_of from from_begin from_wait by_outcome by_answer first_tick_from
    poll_moments digits
one_job_on_ticks_reported = refl

-- a clock, a cut, a repeat job with a start
abbrev one_repeat_job : PlanRecord
one_repeat_job = record {
  clock = listed (0 ∷ 8 ∷ 20 ∷ 40 ∷ []);
  workers = 64;
  grain = 10000;
  jobs = record {
    name = codes "b";
    mode = modes.Repeat;
    schedule = two both (leaf (exponential 10 2)) (leaf (recurs 3));
    start = 7;
    script = record { ms = 1; outcome = Good 0 } ∷ [];
  } ∷ [];
}

-- the text of that plan, with keys in another order
abbrev one_repeat_text : List ℕ
one_repeat_text =
    codes "{\"ticks\":[0,8,20,40],\"workers\":64,\"grain\":10000,\"jobs\":["
    ++ codes "{\"start\":7,\"name\":\"b\",\"mode\":\"repeat\","
    ++ codes "\"schedule\":\"(exponential(10) && recurs(3))\",\"script\":[{\"ok\":0,\"ms\":1}]}]}"

one_repeat_job_read : plan_of one_repeat_text ≡ Ok one_repeat_job
unfolding plans_on_literals
one_repeat_job_read = refl

-- What a due poll does to the records, by what was due and by the schedule's result.
use Rattle.std.proofs.Common.{◌≡◌, ℕ, ◌+◌, ◌≤◌, ◌<◌, max, List, [], ◌∷◌, ◌++◌, length}
use Rattle.std.proofs.Common.{length-append, append-nil, sym, ◌∙◌, ap, arith}
use Rattle.std.specs.Prelude.{Some, None}
use Rattle.zs_term.specs.Saturating.{saturated}
use Rattle.zs_effect.specs.Scripts.{entry_at}
use Rattle.zs_effect.specs.declared.script.Outcome.{Outcome}
use Rattle.zs_term.specs.Output.{Output}
use Rattle.zs_step.specs.Answer.{answer, answer_of}
use Rattle.zs_step.specs.declared.decision.Decision.{Decision}
use Rattle.zs_step.specs.declared.decision.Decision.TheVariants.{Stop, Next}
use Rattle.zs_drive.specs.declared.record.Ending.{Ending}
use Rattle.zs_drive.specs.Values.{JobRecord, AttemptedValue}
use Rattle.zs_drive.specs.Timeline.{Timeline, before, number_of, ended_attempt, ending_by_outcome}
use Rattle.zs_drive.specs.Timeline.{ending_by_schedule, beat_after, by_answer, by_outcome}
use Rattle.zs_drive.specs.Recorded.{AllContinued, runs}
use Rattle.zs_drive.specs.DriverRules.{history_after}
use Rattle.zs_drive.proofs.Extending.{resume, extend, extend_none, extend_last, extended}
use Rattle.zs_drive.proofs.Extending.{resume-soon, resume-late, close-soon}
use Rattle.zs_drive.proofs.Timing.{length-history_after}
use Rattle.zs_drive.proofs.Records.{after, extend-continued}

module _ (job : JobRecord) (seen : ℕ) where
  -- the due attempt begins
  pub begins : (attempts : List AttemptedValue) (x : ℕ) → AllContinued attempts → x ≤ seen
      → record {
        attempts = attempts ++ runs seen ∷ [];
        due = Some (saturated (seen + (entry_at job.script (length attempts + 1)).ms));
        ending = None;
      }
      ≡ extended job seen [] (record { attempts = attempts; due = Some x; ending = None })
  unfolding extend extend_none
  begins attempts x all due =
      let same : length (history_after attempts) ≡ length attempts =
      length-history_after attempts all in
      let whole = rw (append-nil attempts) at
      (extend-continued job seen [] attempts [] (Some x) None all) in
      let soon = rw same at (resume-soon job seen (history_after attempts) x due) in
      sym (whole ∙ ap (after attempts) soon)

  -- the attempt that runs ends
  pub closes : (others : List AttemptedValue) (s w : ℕ) → AllContinued others → w ≤ seen
      → extended job seen []
      (record { attempts = others ++ runs s ∷ []; due = Some w; ending = None })
      ≡ after others (let outcome = (beat_after job (history_after others)).outcome in
      by_outcome job (resume job seen) (history_after others) s seen outcome
      (ending_by_outcome job.mode outcome))
  unfolding extend extend_last
  closes others s w all due = extend-continued job seen [] others (runs s ∷ []) (Some w) None all
      ∙ ap (after others) (close-soon job seen (history_after others) s w due)

  module _ (others : List AttemptedValue) (s w : ℕ) (outcome : Outcome) (all : AllContinued others)
      (due : w ≤ seen) (is : outcome ≡ (beat_after job (history_after others)).outcome) where
    -- the outcome itself ends the job
    pub ends-by_outcome : (ending : Ending) → ending_by_outcome job.mode outcome ≡ Some ending
        → record {
          attempts = others ++ ended_attempt s seen outcome None ∷ [];
          due = None;
          ending = Some ending;
        }
        ≡ extended job seen []
        (record { attempts = others ++ runs s ∷ []; due = Some w; ending = None })
    unfolding by_outcome
    ends-by_outcome ending by =
        let whole = rw (← is, by) at (closes others s w all due) in sym whole

    module _ (none : ending_by_outcome job.mode outcome ≡ None) (output : Output) where
      -- the schedule is stepped, and returns this
      ends-by_answer : (decision : Decision)
          → answer output decision
          ≡ answer_of job.schedule ((seen, number_of outcome) ∷ history_after others)
          → extended job seen []
          (record { attempts = others ++ runs s ∷ []; due = Some w; ending = None })
          ≡ after others
          (by_answer job (resume job seen) ((seen, number_of outcome) ∷ history_after others) s
          seen outcome output decision)
      unfolding by_outcome
      ends-by_answer decision answered =
          let whole = rw (← is, none, ← answered) at (closes others s w all due) in whole

      -- the schedule is done
      pub stops : answer output Stop
          ≡ answer_of job.schedule ((seen, number_of outcome) ∷ history_after others)
          → record {
            attempts = others ++ ended_attempt s seen outcome (Some (answer output Stop))
                ∷ [];
            due = None;
            ending = Some (ending_by_schedule job.mode outcome);
          }
          ≡ extended job seen []
          (record { attempts = others ++ runs s ∷ []; due = Some w; ending = None })
      unfolding by_answer
      stops answered = sym (ends-by_answer Stop answered)

      -- the next attempt is later
      pub waits : (x : ℕ) → answer output (Next x)
          ≡ answer_of job.schedule ((seen, number_of outcome) ∷ history_after others) → seen < x
          → record {
            attempts = others ++ ended_attempt s seen outcome (Some
                (answer output (Next x))) ∷ [];
            due = Some x;
            ending = None;
          }
          ≡ extended job seen []
          (record { attempts = others ++ runs s ∷ []; due = Some w; ending = None })
      unfolding by_answer
      waits x answered later =
          let greater : max x seen ≡ x = omega arith in
          let whole = rw (
            greater,
            resume-late job seen ((seen, number_of outcome) ∷ history_after others) x later,
          )
          at (ends-by_answer (Next x) answered) in
          sym whole

      -- the next attempt begins in the same poll
      pub restarts : (x : ℕ)
          → answer output (Next x)
          ≡ answer_of job.schedule ((seen, number_of outcome) ∷ history_after others) → x ≤ seen
          → record {
            attempts = others ++ ended_attempt s seen outcome (Some (answer output (Next x)))
                ∷ runs seen ∷ [];
            due =
                Some
                (saturated (seen + (entry_at job.script (length (others ++ runs s ∷ []) + 1)).ms));
            ending = None;
          }
          ≡ extended job seen []
          (record { attempts = others ++ runs s ∷ []; due = Some w; ending = None })
      unfolding by_answer
      restarts x answered soon =
          let greater : max x seen ≡ seen = omega arith in
          let longer = (seen, number_of outcome) ∷ history_after others in
          let same : length longer ≡ length (others ++ runs s ∷ []) =
          let n = length-history_after others all in let m = length-append others (runs s ∷ []) in
          omega arith in
          let begun = rw same at (resume-soon job seen longer seen (omega arith)) in
          let whole = rw greater at (ends-by_answer (Next x) answered) in
          sym (whole ∙ ap (λ (timeline : Timeline). after others
          (before (ended_attempt s seen outcome (Some (answer output (Next x)))) timeline))
          begun)

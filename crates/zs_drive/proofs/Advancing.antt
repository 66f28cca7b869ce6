-- The steps of a task preserve the invariant of its fields.
use Rattle.std.proofs.Common.{◌≡◌, ℕ, ◌+◌, ◌≤◌, ◌<◌, List, [], ◌∷◌, ◌++◌, length, Option, refl, sym}
use Rattle.std.proofs.Common.{◌∙◌, ap, subst, arith, append_assoc, Fits, w64, true}
use Rattle.std.specs.Prelude.{Some, None}
use Rattle.std.proofs.lemmas.List.{length-append, length-map}
use Rattle.zs_term.specs.Saturating.{saturated}
use Rattle.zs_effect.specs.Scripts.{IsScript, entry_at}
use Rattle.zs_effect.specs.Attempts.{AttemptValue}
use Rattle.zs_effect.specs.declared.script.Beat.{Beat}
use Rattle.zs_drive.specs.declared.progress.Phase.{Phase}
use Rattle.zs_drive.specs.declared.progress.Phase.TheVariants.{Waiting, Running, Over}
use Rattle.zs_drive.specs.declared.progress.Progress.{Progress}
use Rattle.zs_drive.specs.Values.{AttemptedValue, attempted_of}
use Rattle.zs_effect.specs.declared.script.Outcome.{Outcome}
use Rattle.zs_step.specs.History.{History}
use Rattle.zs_step.specs.Answer.{Answer, answer_of}
use Rattle.zs_step.specs.Compiled.{compiled_schedule}
use Rattle.zs_drive.specs.Timeline.{Timeline, poll_moments, number_of, beat_after, ended_attempt}
use Rattle.zs_drive.specs.Recorded.{AllContinued, IsStepped, runs, step_continued}
use Rattle.zs_drive.specs.DriverRules.{history_after}
use Rattle.zs_drive.specs.Progress.{IsProgress, IsPhase, IsSteppedIn, HasState, job_in, attempts_of}
use Rattle.zs_drive.specs.Progress.{timeline_in, due_of, ending_of}
use Rattle.zs_drive.specs.Turns.{Advances, IsWaitingTo, HasEnded, HasRunTo, WasAsked, next_entry}
use Rattle.zs_drive.specs.Turns.{started, turned}
use Rattle.zs_drive.proofs.Moments.{length-clock}
use Rattle.zs_drive.proofs.Extending.{extended}
use Rattle.zs_drive.proofs.Records.{advance, history_after-running}
use Rattle.zs_drive.proofs.Ends.{length-others}
use Rattle.zs_drive.proofs.Timing.{length-history_after, history_after-ended, AllContinued-append}
use Rattle.zs_drive.proofs.Steps.{begins}

-- one more poll can be counted
pub polls-fit : (p : Progress) → IsProgress p → Fits w64 (p.polls + 1)
polls-fit p progress =
    let few = length-clock (poll_moments (attempts_of p)) progress.on_timeline.clock in
    let counted = progress.on_timeline.counted in omega arith

-- one more attempt can be counted
pub attempts-fit : (p : Progress) → IsProgress p → Fits w64 (length p.records.items + 1)
attempts-fit p progress =
    let fits : Fits w64 (p.polls + 1) = polls-fit p progress in
    let few = progress.on_timeline.few in
    omega (arith, length-map p.records.items attempted_of)

-- an attempt that runs has reached its end, due at w: it began at s, after others
pub record Ran (p : Progress) (outcome : Outcome) : Type 0 where
  pub others : List AttemptedValue
  pub s : ℕ
  pub w : ℕ
  pub all : AllContinued others
  pub due : due_of p.phase ≡ Some w
  pub going : ending_of p.phase ≡ None
  pub soon : w ≤ p.seen
  pub last : attempts_of p ≡ others ++ runs s ∷ []
  pub own : outcome ≡ (beat_after (job_in p) (history_after others)).outcome

pub ran : (p : Progress) (outcome : Outcome) (phase : Phase) → p.phase ≡ phase → IsProgress p →
    HasRunTo p.seen outcome p.phase → Ran p outcome
ran p outcome (Running attempt) is progress run =
    let runs_to = rw is at run in
    let phase = rw is at progress.phase in
    record {
      others = phase.0;
      s = phase.1;
      w = attempt.end;
      all = phase.2.continued;
      due = ap due_of is;
      going = ap ending_of is;
      soon = runs_to.0;
      last = phase.2.last;
      own = runs_to.1 ∙ phase.2.outcome;
    }
ran p outcome (Waiting x) is progress run = absurd (rw is at run)
ran p outcome (Over ending) is progress run = absurd (rw is at run)

-- while an attempt runs, it is the last of the list
pub has-last : (p : Progress) (outcome : Outcome) → IsProgress p → HasRunTo p.seen outcome p.phase →
    0 < length p.records.items
has-last p outcome progress run =
    let r = ran p outcome p.phase refl progress run in
    omega (arith, length-others p.records.items r.others r.s r.last)

pub ruleset counts = (polls-fit, attempts-fit, has-last)

-- one due poll was done, after which the fields represent these attempts
pub advances : (p q : Progress) (phase : Phase) (x : ℕ) (attempts : List AttemptedValue)
    → IsProgress p → IsScript p.script
    → q ≡ turned p q phase → due_of p.phase ≡ Some x → x ≤ p.seen
    → record { attempts = attempts; due = due_of phase; ending = ending_of phase }
    ≡ extended (job_in p) p.seen [] (timeline_in p)
    → attempts_of q ≡ attempts → IsPhase (job_in p) attempts p.seen phase
    → IsSteppedIn attempts p.schedule p.seen phase → Advances p q
advances p q phase x attempts progress script rest waits due made grown placed stepped =
    let new : Timeline = record {
      attempts = attempts;
      due = due_of phase;
      ending = ending_of phase;
    } in
    let steps = advance (job_in p) script (timeline_in p) x p.seen p.polls progress.on_timeline
    waits due progress.bounded new made in
    let whole : Advances p (turned p q phase) = record {
      progress = record {
        on_timeline = rw grown steps.0;
        phase = rw grown placed;
        bounded = progress.bounded;
      };
      state = rw grown stepped;
      moments = rw grown steps.1;
      job = refl;
      seen = refl;
    } in
    subst (Advances p) (sym rest) whole

pub begin-advances : (p q : Progress) (beat : Beat) (attempt : AttemptValue) (phase : Phase)
    → p.phase ≡ phase
    → IsProgress p → HasState p → IsWaitingTo p.seen p.phase → beat ≡ next_entry p
    → IsScript p.script
    → q ≡ turned p q (Running attempt) → attempts_of q ≡ attempts_of p ++ runs p.seen ∷ []
    → attempt ≡ started beat p.seen → Advances p q
begin-advances p q beat attempt (Waiting x) is progress state waits next script rest grown begun =
    let attempts = attempts_of p in
    let all : AllContinued attempts = rw is at progress.phase in
    let due : x ≤ p.seen = rw is at waits in
    let kept : IsStepped attempts p.schedule p.seen = rw is at state in
    let entry : beat ≡ entry_at p.script (length attempts + 1) =
    rw (length-map p.records.items attempted_of) next in
    let after : length (history_after attempts) ≡ length attempts =
    length-history_after attempts all in
    advances p q (Running attempt) x (attempts ++ runs p.seen ∷ []) progress script rest
    (ap due_of is) due
    (rw (is, begun, entry) (begins (job_in p) p.seen attempts x all due)) grown (
      attempts,
      p.seen,
      record {
        last = refl;
        continued = all;
        outcome = rw (begun, entry, after) refl;
        saw = rw begun (omega arith);
      },
    )
    (record { stands = rw (history_after-running attempts p.seen) kept.stands; past = kept.past })
begin-advances p q beat attempt (Running other) is progress state waits next script rest grown
    begun = absurd (rw is at waits)
begin-advances p q beat attempt (Over ending) is progress state waits next script rest grown begun =
    absurd (rw is at waits)

-- the history on which the schedule was evaluated, and its result
pub asked-history : (p : Progress) (outcome : Outcome) (r : Ran p outcome) →
    history_after (attempts_of p) ≡ history_after r.others
asked-history p outcome r = ap history_after r.last ∙ history_after-running r.others r.s

pub asked-answer : (p : Progress) (outcome : Outcome) (r : Ran p outcome) (step : Answer)
    → step ≡ answer_of (compiled_schedule p.schedule)
    ((p.seen, number_of outcome) ∷ history_after (attempts_of p))
    → step ≡ answer_of (job_in p).schedule ((p.seen, number_of outcome) ∷ history_after r.others)
asked-answer p outcome r step answered = answered ∙ ap (λ (h : History). answer_of
    (compiled_schedule p.schedule) ((p.seen, number_of outcome) ∷ h)) (asked-history p outcome r)

-- the schedule's state represents the records, once the attempt has ended
pub IsStepped-asked : (p : Progress) (outcome : Outcome) (r : Ran p outcome) (step : Option Answer)
    → WasAsked p outcome
    → IsStepped (r.others ++ ended_attempt r.s p.seen outcome step ∷ []) p.schedule p.seen
IsStepped-asked p outcome r step asked = record {
  stands = rw (history_after-ended r.others r.s p.seen outcome step, ← asked-history p outcome r)
      asked;
  past = let seen = asked.last in omega arith;
}

-- the attempt that ran ends, and none begins
pub end-advances : (p q : Progress) (outcome : Outcome) (step : Option Answer) (phase : Phase)
    (r : Ran p outcome) → IsProgress p → IsScript p.script
    → q ≡ turned p q phase → HasEnded p q outcome step []
    → record {
      attempts = r.others ++ ended_attempt r.s p.seen outcome step ∷ [];
      due = due_of phase;
      ending = ending_of phase;
    }
    ≡ extended (job_in p) p.seen [] (record {
      attempts = r.others ++ runs r.s ∷ [];
      due = Some r.w;
      ending = None;
    })
    → IsPhase (job_in p) (r.others ++ ended_attempt r.s p.seen outcome step ∷ []) p.seen phase
    → IsSteppedIn (r.others ++ ended_attempt r.s p.seen outcome step ∷ []) p.schedule p.seen phase
    → Advances p q
end-advances p q outcome step phase r progress script rest closed made placed stepped =
    advances p q phase r.w (r.others ++ ended_attempt r.s p.seen outcome step ∷ []) progress script
    rest r.due r.soon
    (rw (r.last, r.due, r.going) made) (closed r.others r.s r.last) placed stepped

-- the attempt that ran ends, and the next begins
pub restart-advances : (p q : Progress) (outcome : Outcome) (step : Option Answer)
    (r : Ran p outcome) → step_continued step ≡ true
    → IsProgress p → IsScript p.script → WasAsked p outcome
    → q ≡ turned p q (Running (started (next_entry p) p.seen))
    → HasEnded p q outcome step (runs p.seen ∷ [])
    → record {
      attempts = r.others ++ ended_attempt r.s p.seen outcome step ∷ runs p.seen ∷ [];
      due =
          Some
          (saturated (p.seen + (entry_at p.script (length (r.others ++ runs r.s ∷ []) + 1)).ms));
      ending = None;
    }
    ≡ extended (job_in p) p.seen [] (record {
      attempts = r.others ++ runs r.s ∷ [];
      due = Some r.w;
      ending = None;
    })
    → Advances p q
restart-advances p q outcome step r on progress script asked rest closed made =
    let entry : next_entry p ≡ entry_at p.script (length (r.others ++ runs r.s ∷ []) + 1) =
    ap (λ (n : ℕ). entry_at p.script (n + 1)) (sym (length-map p.records.items attempted_of)
    ∙ ap (λ (xs : List AttemptedValue). length xs) r.last) in
    let ended : List AttemptedValue = r.others ++ ended_attempt r.s p.seen outcome step ∷ [] in
    let split : r.others ++ ended_attempt r.s p.seen outcome step ∷ runs p.seen ∷ []
    ≡ ended ++ runs p.seen ∷ [] = sym (append_assoc r.others
    (ended_attempt r.s p.seen outcome step ∷ []) (runs p.seen ∷ [])) in
    let all : AllContinued ended =
    AllContinued-append r.others (ended_attempt r.s p.seen outcome step) r.all on in
    let numbered : length (history_after ended) ≡ length (r.others ++ runs r.s ∷ []) =
    length-history_after ended all ∙ length-append r.others
    (ended_attempt r.s p.seen outcome step ∷ [])
    ∙ sym (length-append r.others (runs r.s ∷ [])) in
    advances p q (Running (started (next_entry p) p.seen)) r.w
    (r.others ++ ended_attempt r.s p.seen outcome step ∷ runs p.seen ∷ []) progress script rest
    r.due r.soon
    (rw (entry, r.last, r.due, r.going) made) (closed r.others r.s r.last) (
      ended,
      p.seen,
      record {
        last = split;
        continued = all;
        outcome = rw (entry, numbered) refl;
        saw = omega arith;
      },
    )
    (let stepped = IsStepped-asked p outcome r step
    asked in record {
      stands = rw (split, history_after-running ended p.seen) stepped.stands;
      past = stepped.past;
    })

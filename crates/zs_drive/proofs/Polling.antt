-- The polls of a job on a clock that grows tick by tick, and its timeline after them.
use Rattle.std.proofs.Common.{◌≡◌, ℕ, ◌+◌, ◌≤◌, List, [], ◌∷◌, ◌++◌, length, length-append}
use Rattle.std.proofs.Common.{append_assoc, append-nil, refl, sym, ◌∙◌, ap, subst, arith}
use Rattle.std.specs.Prelude.{Some, None}
use Rattle.std.specs.List.{All}
use Rattle.std.proofs.lemmas.List.Elements.{All-push}
use Rattle.zs_effect.specs.Scripts.{IsScript}
use Rattle.zs_drive.specs.Clocks.{first_tick_from, RisesFrom, AllBefore, AreTicks, max_tick}
use Rattle.zs_drive.specs.Values.{JobRecord}
use Rattle.zs_drive.specs.Timeline.{from, timeline_of, poll_moments}
use Rattle.zs_drive.specs.Recorded.{IsOnTimeline}
use Rattle.zs_drive.specs.DriverLaws.{polls_on, IsReached}
use Rattle.zs_drive.proofs.Ticks.{lt_cases, first_tick_from-some, first_tick_from-none}
use Rattle.zs_drive.proofs.Ticks.{first_tick_from-past, tick_one-at}
use Rattle.zs_drive.proofs.Moments.{AllBefore-append, AllBefore-later}
use Rattle.zs_drive.proofs.Extending.{timeline_of-append}
use Rattle.zs_drive.proofs.Records.{advance}
use Rattle.zs_drive.proofs.Beginning.{IsOnTimeline-new}
use Rattle.zs_drive.proofs.OnClocks.{IsAfter, timeline_of-skip}

-- each moment is a tick
abbrev AreAmong : List ℕ → List ℕ → Type 0
AreAmong ticks moments = All (λ moment. first_tick_from ticks moment ≡ Some moment) moments

-- the last element of a list is the last one of any rest that isn't empty
without-last : (first : List ℕ) (r : ℕ) (rest xs : List ℕ) (x : ℕ) →
    xs ++ x ∷ [] ≡ first ++ r ∷ rest → (others : List ℕ) × (xs ≡ first ++ others)
without-last [] r rest xs x e = (xs, refl)
without-last (f ∷ first) r rest [] x e =
    absurd (omega (arith, ap (λ (ys : List ℕ). length ys) e, length-append first (r ∷ rest)))
without-last (f ∷ first) r rest (y ∷ xs) x e =
    let head : y ≡ f = cc in
    let tail : xs ++ x ∷ [] ≡ first ++ r ∷ rest = cc in
    let others = without-last first r rest xs x tail in
    (others.0, rw head (ap (◌∷◌ f) others.1))

module _ (job : JobRecord) (script : IsScript job.script) where
  -- the timeline of a job on these ticks, to which its polls led
  pub record IsPolled (ticks : List ℕ) : Type 0 where
    pub polls : ℕ
    pub on : IsOnTimeline job (timeline_of job ticks) polls
    pub among : AreAmong ticks (polls_on job ticks)
    pub reached : (first rest : List ℕ) → polls_on job ticks ≡ first ++ rest →
        IsReached job ticks first

  -- what was reached on a clock is reached on a longer one
  reached-more : (ticks : List ℕ) (c : ℕ) (first : List ℕ) → IsReached job ticks first →
      IsReached job (ticks ++ c ∷ []) first
  reached-more ticks c first r = record {
    past = r.past;
    later = r.later ++ c ∷ [];
    split = ap (λ (xs : List ℕ). xs ++ c ∷ []) r.split ∙ append_assoc r.past r.later (c ∷ []);
    polls = r.polls;
    same = r.same;
  }

  -- a whole clock is reached by all its polls
  reached-whole : (ticks first : List ℕ) (polls : ℕ) →
      IsOnTimeline job (timeline_of job ticks) polls → polls_on job ticks ≡ first →
      IsReached job ticks first
  reached-whole ticks first polls on all =
      record {
        past = ticks;
        later = [];
        split = sym (append-nil ticks);
        polls = all;
        same = ap (timeline_of job) (sym all) ∙ sym on.same;
      }

  module _ (ticks : List ℕ) (c : ℕ) (past : AllBefore ticks c) (small : c ≤ max_tick)
      (polled : IsPolled ticks) where
    -- each of the moments is a tick of the longer clock
    among-more : AreAmong (ticks ++ c ∷ []) (polls_on job ticks)
    among-more = λ i d inside. first_tick_from-some ticks c _ _ (polled.among i d inside)

    -- nothing is due
    skips : IsAfter c (timeline_of job ticks).due → IsPolled (ticks ++ c ∷ [])
    skips early =
        let same = timeline_of-skip job script ticks c past small early in record {
          polls = polled.polls;
          on = rw same polled.on;
          among = rw same among-more;
          reached = λ first rest split. reached-more ticks c first
              (polled.reached first rest (rw same at split));
        }

    -- the due poll at this tick
    polls-once : (x : ℕ) → (timeline_of job ticks).due ≡ Some x → x ≤ c → IsPolled (ticks ++ c ∷ [])
    polls-once x waits due =
        let longer = timeline_of-append job script ticks c past (omega arith) in
        let steps = advance job script (timeline_of job ticks) x c polled.polls polled.on waits due
        small (timeline_of job (ticks ++ c ∷ [])) longer in
        let own : first_tick_from (ticks ++ c ∷ []) c ≡ Some c =
        first_tick_from-none ticks c c (first_tick_from-past ticks c c past (omega arith))
        ∙ tick_one-at c c (omega arith) in record {
          polls = polled.polls + 1;
          on = steps.0;
          among = rw steps.1
              (All-push (λ moment. first_tick_from (ticks ++ c ∷ []) moment ≡ Some moment)
              (polls_on job ticks) c among-more own);
          reached = λ first rest. elim rest as (λ r. polls_on job (ticks ++ c ∷ []) ≡ first ++ r →
              IsReached job (ticks ++ c ∷ []) first) [
                | [] ↦ λ split. reached-whole (ticks ++ c ∷ []) first (polled.polls + 1) steps.0
                    (split ∙ append-nil first)
                | (r ∷ rs) ↦ λ split.
                    let others = without-last first r rs (polls_on job ticks) c
                    (sym steps.1 ∙ split) in
                    reached-more ticks c first (polled.reached first others.0 others.1)
              ];
        }

    -- one more tick, whatever is due
    grows : IsPolled (ticks ++ c ∷ [])
    grows = elim (timeline_of job ticks).due as (λ o. (timeline_of job ticks).due ≡ o →
        IsPolled (ticks ++ c ∷ [])) [
          | None ↦ λ over. skips (rw over tt)
          | Some x ↦ λ waits. lt_cases c x (λ _. IsPolled (ticks ++ c ∷ []))
              (λ early. skips (rw waits early)) (λ due. polls-once x waits due)
        ] refl

  -- on no tick
  starts : IsPolled []
  unfolding timeline_of from poll_moments
  starts = record {
    polls = 0;
    on = IsOnTimeline-new job;
    among = λ i d inside. absurd (omega arith);
    reached = λ first rest split. reached-whole [] first 0 (IsOnTimeline-new job)
        (elim first as (λ f. [] ≡ f ++ rest → [] ≡ f) [ [] ↦ λ _. refl | (f ∷ fs) ↦ λ e. cc ]
        split);
  }

  -- on ticks after these
  walks : (past later : List ℕ) (b : ℕ) → IsPolled past → AllBefore past b → RisesFrom b later →
      AllBefore later (max_tick + 1) → IsPolled (past ++ later)
  unfolding RisesFrom AllBefore
  walks past [] b polled all rises bounded = rw (append-nil past) polled
  walks past (c ∷ later) b polled all rises bounded =
      let before : AllBefore past c = AllBefore-later past b c all rises.0 in
      let longer : AllBefore (past ++ c ∷ []) (c + 1) =
      AllBefore-append past c (c + 1) (AllBefore-later past c (c + 1) before (omega arith))
      (omega arith) in
      subst IsPolled (append_assoc past (c ∷ []) later)
      (walks (past ++ c ∷ []) later (c + 1) (grows past c before (omega (arith, bounded.0)) polled)
      longer rises.1 bounded.1)

  -- the timeline of the job on a whole clock
  pub on-clock : (ticks : List ℕ) → AreTicks ticks → IsPolled ticks
  unfolding AllBefore
  on-clock ticks clock = walks [] ticks 0 starts tt clock.rises clock.bounded

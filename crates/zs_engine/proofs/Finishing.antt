-- The end of a run: no task waits for a tick any more.
use Rattle.std.proofs.Common.{◌≡◌, ◌+◌, ℕ, suc, false, List, [], ◌∷◌, Some, None, length, refl, sym}
use Rattle.std.proofs.Common.{ap, ◌∙◌, arith, slice_get, map, nat_cmp}
use Rattle.std.proofs.lemmas.List.{length-map}
use Rattle.std.proofs.lemmas.List.Elements.{All-from_recursion}
use Rattle.std.proofs.lemmas.List.Sums.{sum_by-cons}
use Rattle.std.specs.List.{AllByRecursion}
use Rattle.std.specs.FinMap as map_of
use Rattle.zs_agenda.specs.Timers.{Timers, Moments}
use Rattle.zs_agenda.specs.Ticks.{Ticks, horizon}
use Rattle.zs_drive.specs.Timeline.{Timeline, timeline_of, poll_moments}
use Rattle.zs_drive.specs.Tasks.{TaskValue, current_timeline}
use Rattle.zs_engine.specs.declared.answer.Answer.{Answer}
use Rattle.zs_engine.specs.Times.{moments_from, ticks_of, next_of}
use Rattle.zs_engine.specs.Rounds.{Waits, jobs_in, next_in, polls_of, polls_in}
use Rattle.zs_engine.specs.Answers.{IsAnswer, poll_moments_of, poll_count_of}
use Rattle.zs_engine.proofs.KeepingUp.{keeps_up-to}
use Rattle.zs_engine.proofs.SlotLemmas.{full, jobs_in-full}

module _ (ticks : List ℕ) where
  -- the task at slot b + i has that number, and the timeline of its job alone
  abbrev Ends : ℕ → List TaskValue → Type 0
  Ends b ts = (i : ℕ) (t : TaskValue) → slice_get (full ts) i ≡ Some (Some t) →
      (t.number ≡ b + i) × (current_timeline t ≡ timeline_of t.job ticks) × (t.broken ≡ false)
      × (t.moments ≡ poll_moments_of ticks t.job)

  record AllEnd (b : ℕ) (ts : List TaskValue) : Type 0 where
    numbered : map (λ t. t.number) ts ≡ moments_from b (length ts)
    timelines : map current_timeline ts ≡ map (λ job. timeline_of job ticks) (map (λ t. t.job) ts)
    whole : AllByRecursion (λ (t : TaskValue). t.broken ≡ false) ts
    moments : map (λ t. t.moments) ts ≡ map (poll_moments_of ticks) (map (λ t. t.job) ts)
    polls : polls_in (full ts) ≡ poll_count_of ticks (map (λ t. t.job) ts)

  all-end : (b : ℕ) (ts : List TaskValue) → Ends b ts → AllEnd b ts
  unfolding moments_from
  all-end b [] each = record {
    numbered = refl;
    timelines = refl;
    whole = tt;
    moments = refl;
    polls = refl;
  }
  all-end b (t ∷ ts) each =
      let first = each 0 t refl in
      let rest = all-end (b + 1) ts (λ i u e. let h = each (suc i) u e in
      (omega (arith, h.0), h.1, h.2, h.3)) in
      let number : t.number ≡ b = omega (arith, first.0) in
      record {
        numbered = rw (number, rest.numbered) refl;
        timelines = rw (first.1, rest.timelines) refl;
        whole = (first.2, rest.whole);
        moments = rw (first.3, rest.moments) refl;
        polls = omega (
          arith,
          sum_by-cons polls_of (Some t) (full ts),
          ap (λ (ms : List ℕ). length ms) first.3,
          rest.polls,
        );
      }

pub answered : (clock : Ticks) (answer : Answer) (a : Timers)
    → Waits (ticks_of clock) (full answer.tasks.items) a answer.polls [] → a.moments ≡ map_of.empty
    → answer.horizon ≡ horizon clock → IsAnswer clock (jobs_in (full answer.tasks.items)) answer
answered clock answer a w empty last =
    let ts : List TaskValue = answer.tasks.items in
    let ends : Ends (ticks_of clock) 0 ts = (λ i t e.
    let k = w.each i t e in
    let none : next_of (ticks_of clock) (current_timeline t).due ≡ None =
    ap (next_in (ticks_of clock)) (sym e) ∙ sym (w.timer i)
    ∙ ap (λ (m : Moments). map_of.get m i) empty ∙ map_of.get-empty nat_cmp i in
    let same = keeps_up-to (ticks_of clock) t k.0 _ refl none in (
      omega (arith, k.1),
      same,
      k.0.whole,
      k.0.kept ∙ ap (λ (timeline : Timeline). poll_moments timeline.attempts) same,
    )) in
    let all = all-end (ticks_of clock) 0 ts ends in
    rw (jobs_in-full ts) (record {
      numbered = all.numbered
          ∙ ap (moments_from 0) (sym (length-map ts (λ (t : TaskValue). t.job)));
      same_jobs = refl;
      whole = All-from_recursion (λ (t : TaskValue). t.broken ≡ false) ts all.whole;
      timelines = all.timelines;
      moments = all.moments;
      polls = w.counted ∙ all.polls;
      last = last;
    })

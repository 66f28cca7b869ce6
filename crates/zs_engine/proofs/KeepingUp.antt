-- A task that is polled at each due tick is up to date.
use Rattle.std.proofs.Common.{◌≡◌, ℕ, ◌+◌, ◌≤◌, ◌<◌, List, [], ◌∷◌, ◌++◌, length, length-append}
use Rattle.std.proofs.Common.{append_assoc, Option, if◌then◌else◌, false, refl, sym, ◌∙◌, ap, arith}
use Rattle.std.specs.Prelude.{Some, None}
use Rattle.zs_effect.specs.Scripts.{IsScript}
use Rattle.zs_drive.specs.Clocks.{first_tick_from, RisesFrom, AllBefore, AreTicks, max_tick}
use Rattle.zs_drive.specs.Values.{JobRecord}
use Rattle.zs_drive.specs.Timeline.{timeline_of, from, poll_moments}
use Rattle.zs_drive.specs.Tasks.{TaskValue, current_timeline}
use Rattle.zs_drive.proofs.Ticks.{tick_cases, AllBefore-none}
use Rattle.zs_drive.proofs.Moments.{AllBefore-append, AllBefore-later}
use Rattle.zs_drive.proofs.Records.{timeline_of-waits}
use Rattle.zs_drive.proofs.OnClocks.{IsAfter, timeline_of-skip, timeline_of-skips, timeline_of-over}
use Rattle.zs_drive.proofs.OnClocks.{timeline_of-both}
use Rattle.zs_pool.specs.Rounds.{polled_at, IsPollable}
use Rattle.zs_engine.specs.Times.{next_of, IsLater}
use Rattle.zs_engine.specs.Rounds.{KeepsUp}
use Rattle.zs_engine.proofs.DuePolls.{poll_moments-append}

-- the ticks before the moment in question don't count
first_tick_from-skip : (xs ys : List ℕ) (x : ℕ) → AllBefore xs x →
    first_tick_from (xs ++ ys) x ≡ first_tick_from ys x
unfolding first_tick_from AllBefore
first_tick_from-skip [] ys x all = refl
first_tick_from-skip (t ∷ xs) ys x all =
    let first : t < x = all.0 in
    tick_cases t x (λ b. (if b then Some t else first_tick_from (xs ++ ys) x)
    ≡ first_tick_from ys x) (λ _. first_tick_from-skip xs ys x all.1)
    (λ l. absurd (omega arith))

-- a job that was never polled has no attempts
fresh-kept : (job : JobRecord) → [] ≡ poll_moments (timeline_of job []).attempts
unfolding timeline_of from poll_moments
fresh-kept job = refl

pub keeps_up-first : (ticks : List ℕ) (task : TaskValue) → AreTicks ticks → task.moments ≡ [] →
    task.seen ≡ 0 → task.broken ≡ false → IsScript task.job.script → KeepsUp ticks task
unfolding AllBefore
keeps_up-first ticks task clock fresh unseen whole script = record {
  past = [];
  rest = ticks;
  low = 0;
  split = refl;
  before = tt;
  small = omega arith;
  rises = clock.rises;
  bounded = clock.bounded;
  polled = rw fresh tt;
  seen = omega arith;
  few = rw fresh (omega arith);
  same = ap (timeline_of task.job) fresh;
  kept = rw fresh (fresh-kept task.job);
  whole = whole;
  script = script;
}

module _ (ticks : List ℕ) (task : TaskValue) where
  -- the ticks so far don't count
  rest-next : (k : KeepsUp ticks task) (due : Option ℕ) → (current_timeline task).due ≡ due →
      next_of ticks due ≡ next_of k.rest due
  rest-next k None at = refl
  rest-next k (Some x) at =
      let small = k.small in
      let past = AllBefore-none k.past x (timeline_of-waits task.job k.past k.script k.low
      (omega arith) k.before x (rw k.same at at)) in
      ap (λ (ts : List ℕ). first_tick_from ts x) k.split ∙ first_tick_from-skip k.past k.rest x past

  -- the next tick
  module _ (k : KeepsUp ticks task) (t : ℕ) (rest : List ℕ) (is : k.rest ≡ t ∷ rest) where
    from-low : (k.low ≤ t) × (t ≤ max_tick)
    unfolding RisesFrom AllBefore
    from-low = let rises = rw is at k.rises in let bounded = rw is at k.bounded in
        (rises.0, omega (arith, bounded.0))

    before : AllBefore k.past t
    before = AllBefore-later k.past k.low t k.before from-low.0

    polled : AllBefore task.moments t
    polled = AllBefore-later task.moments k.low t k.polled from-low.0

    onto : (moments : List ℕ) (seen : ℕ) → AllBefore moments (t + 1) → seen ≤ t + 1
        → length moments ≤ length k.past + 1
        → timeline_of task.job moments ≡ timeline_of task.job (k.past ++ t ∷ [])
        → moments ≡ poll_moments (timeline_of task.job moments).attempts
        → (n : KeepsUp ticks (record task { moments = moments; seen = seen })) × (n.rest ≡ rest)
    unfolding RisesFrom AllBefore
    onto moments seen all soon few same kept =
        let rises = rw is at k.rises in
        let bounded = rw is at k.bounded in (
          record {
            past = k.past ++ t ∷ [];
            rest = rest;
            low = t + 1;
            split = k.split ∙ ap (λ (ts : List ℕ). k.past ++ ts) is
                ∙ sym (append_assoc k.past (t ∷ []) rest);
            before = AllBefore-append k.past t (t + 1)
                (AllBefore-later k.past t (t + 1) before (omega arith)) (omega arith);
            small = omega (arith, from-low.1);
            rises = rises.1;
            bounded = bounded.1;
            polled = all;
            seen = soon;
            few = omega (arith, few, length-append k.past (t ∷ []));
            same = same;
            kept = kept;
            whole = k.whole;
            script = k.script;
          },
          refl,
        )

    -- nothing is due
    skip : IsAfter t (current_timeline task).due → (n : KeepsUp ticks task) × (n.rest ≡ rest)
    skip after =
        onto task.moments task.seen (AllBefore-later task.moments t (t + 1) polled (omega arith))
        (omega (arith, k.seen, from-low.0)) (omega (arith, k.few))
        (k.same ∙ sym (timeline_of-skip task.job k.script k.past t before from-low.1
        (rw k.same at after))) k.kept

    -- the due poll
    poll : (x : ℕ) → (current_timeline task).due ≡ Some x → x ≤ t → KeepsUp ticks (polled_at t task)
        × IsPollable t task × AllBefore task.moments t
    poll x due soon =
        let small : t ≤ max_tick = from-low.1 in
        let new =
        onto (task.moments ++ t ∷ []) t (AllBefore-append task.moments t (t + 1)
        (AllBefore-later task.moments t (t + 1) polled (omega arith)) (omega arith))
        (omega arith)
        (omega (arith, k.few, length-append task.moments (t ∷ [])))
        (timeline_of-both task.job k.script k.past task.moments t before polled small k.same)
        (poll_moments-append task.job k.script task.moments t x polled (omega arith) due
        soon k.kept) in (
          new.0,
          record {
            whole = k.whole;
            later = omega (arith, k.seen, from-low.0);
            bounded = small;
            due = rw due soon;
          },
          polled,
        )

  -- the due poll at the next tick at or after x
  poll-from : (rest : List ℕ) (k : KeepsUp ticks task) → k.rest ≡ rest → (x now : ℕ)
      → (current_timeline task).due ≡ Some x → first_tick_from rest x ≡ Some now
      → KeepsUp ticks (polled_at now task) × IsPollable now task × AllBefore task.moments now
  unfolding first_tick_from
  poll-from [] k is x now due = λ e. cc
  poll-from (t ∷ rest) k is x now due =
      tick_cases t x (λ b. (if b then Some t else first_tick_from rest x) ≡ Some now →
      KeepsUp ticks (polled_at now task) × IsPollable now task × AllBefore task.moments now)
      (λ l e. let n = skip k t rest is (rw due l) in poll-from rest n.0 n.1 x now due e)
      (λ l e. let same : t ≡ now = cc in rw (← same) (poll k t rest is x due l))

  pub due-poll : (k : KeepsUp ticks task) (now : ℕ) (due : Option ℕ)
      → (current_timeline task).due ≡ due → next_of ticks due ≡ Some now
      → KeepsUp ticks (polled_at now task) × IsPollable now task × AllBefore task.moments now
  due-poll k now None at e = cc
  due-poll k now (Some x) at e =
      poll-from k.rest k refl x now at (sym (rest-next k (Some x) at) ∙ e)

  -- there is no next tick
  pub keeps_up-to : (k : KeepsUp ticks task) (due : Option ℕ) → (current_timeline task).due ≡ due →
      next_of ticks due ≡ None → current_timeline task ≡ timeline_of task.job ticks
  keeps_up-to k None at none =
      k.same ∙ sym (timeline_of-over task.job k.script k.past k.rest k.low k.before k.rises
      k.bounded (rw k.same at at)) ∙ ap (timeline_of task.job) (sym k.split)
  keeps_up-to k (Some x) at none =
      let late = AllBefore-none k.rest x (sym (rest-next k (Some x) at) ∙ none) in
      k.same ∙ sym (timeline_of-skips task.job k.script k.past k.rest k.low x k.before k.rises
      k.bounded (rw k.same at at) late) ∙ ap (timeline_of task.job) (sym k.split)

AllBefore-last : (xs : List ℕ) (n c : ℕ) → AllBefore (xs ++ n ∷ []) c → n < c
unfolding AllBefore
AllBefore-last [] n c all = all.0
AllBefore-last (x ∷ xs) n c all = AllBefore-last xs n c all.1

-- a task that was polled at a moment is due later
pub polled-later : (ticks : List ℕ) (task : TaskValue) (now : ℕ)
    → KeepsUp ticks (polled_at now task) → (taken : Option ℕ) → taken ≡ Some now
    → (next : Option ℕ) → next_of ticks (current_timeline (polled_at now task)).due ≡ next
    → IsLater taken next
polled-later ticks task now k taken at None e = tt
polled-later ticks task now k taken at (Some m) e =
    rw at (AllBefore-last task.moments now m (due-poll ticks (polled_at now task) k m _ refl e).2)

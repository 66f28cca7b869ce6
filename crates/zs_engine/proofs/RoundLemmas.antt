-- The rounds of a run: a task's timer is armed, and due tasks are polled.
use Rattle.std.proofs.Common.{◌≡◌, ◌<◌, ◌≤◌, ◌+◌, ◌*◌, ◌==◌, ℕ, suc, Bool, true, false, List, []}
use Rattle.std.proofs.Common.{◌∷◌, ◌++◌, Option, Some, None, All, cond, length, refl, sym, ap, ◌∙◌}
use Rattle.std.proofs.Common.{subst, arith, slice_get, slice_set, nat_cmp, length-append, map}
use Rattle.std.proofs.lemmas.Bool.Decides.{Decides-eqb}
use Rattle.std.proofs.lemmas.List.{length-map, map-set, map-append}
use Rattle.std.proofs.lemmas.List.Elements.{All-from_recursion}
use Rattle.std.proofs.lemmas.List.Sums.{sum_by_push, sum_by-cons}
use Rattle.std.proofs.lemmas.Map.Views.{list_any-from_Contains, Contains-from_any}
use Rattle.std.proofs.lemmas.Map.Views.{exact_unsigned_eq}
use Rattle.std.proofs.lemmas.Cmp.{nat_eq_equiv}
use Rattle.std.proofs.lemmas.Option.{slice_get_past, slice_get_within}
use Rattle.std.specs.List.{AllByRecursion}
use Rattle.std.specs.List.Sorted.{IsStrictlySortedBy}
use Rattle.std.specs.Cmp.{nat_cmp_total, unsigned_tied}
use Rattle.std.specs.FinMap as map_of
use Rattle.zs_effect.specs.Scripts.{IsScript}
use Rattle.zs_agenda.specs.Timers.{Timers, Takes}
use Rattle.zs_drive.specs.Clocks.{AreTicks, AllBefore}
use Rattle.zs_drive.specs.Tasks.{TaskValue, current_timeline}
use Rattle.zs_drive.proofs.Moments.{length-rises, length-clock}
use Rattle.zs_drive.proofs.Ticks.{first_tick_from-before}
use Rattle.zs_pool.specs.Rounds.{polled_at, IsPollable}
use Rattle.zs_engine.specs.Times.{next_of, IsLater}
use Rattle.zs_engine.specs.Slots.{Slots, Picks, has}
use Rattle.zs_engine.specs.Rounds.{KeepsUp, Waits, Begins, next_in, set_next, polls_of, polls_in}
use Rattle.zs_engine.proofs.ClockTicks.{RisesFrom-sorted}
use Rattle.zs_engine.proofs.KeepingUp.{keeps_up-first, due-poll, polled-later}
use Rattle.zs_engine.proofs.SlotLemmas.{full, has-first, has-more, AllBefore-range, get-set}
use Rattle.zs_engine.proofs.SlotLemmas.{get-push, polls_in-set}

-- the moments after a task's timer is armed again
get-set_next : (a : Timers) (n i : ℕ) (o : Option ℕ) → map_of.get a.moments n ≡ None →
    map_of.get (set_next a n o).moments i ≡ cond (i == n) o (map_of.get a.moments i)
get-set_next a n i None none =
    elim (i == n) as
    (λ b. (i == n) ≡ b → map_of.get a.moments i ≡ cond b None (map_of.get a.moments i)) [
      | true ↦ λ is. let same : i ≡ n = (Decides-eqb i n).0 is in rw same none
      | false ↦ λ _. refl
    ] refl
get-set_next a n i (Some m) none =
    map_of.get-insert nat_cmp_total a.moments n m i
    ∙ ap (λ (b : Bool). cond b (Some m) (map_of.get a.moments i)) (unsigned_tied i n)

pub taken-set_next : (a : Timers) (n : ℕ) (o : Option ℕ) →
    (set_next a n o).last_taken ≡ a.last_taken
taken-set_next a n None = refl
taken-set_next a n (Some m) = refl

-- a slot whose task is due
pub task-at : (ticks : List ℕ) (slot : Option (Option TaskValue)) (now : ℕ)
    → next_in ticks slot ≡ Some now
    → (t : TaskValue) × (slot ≡ Some (Some t)) × (next_of ticks (current_timeline t).due ≡ Some now)
task-at ticks None now e = cc
task-at ticks (Some None) now e = cc
task-at ticks (Some (Some t)) now e = (t, refl, e)

-- a task is put into slot n, and its timer is armed
module _ {ticks : List ℕ} (slots : Slots) {after : Slots} (a : Timers) {n : ℕ} {t : TaskValue}
    {left : List ℕ}
    (put : (i : ℕ) → slice_get after i ≡ cond (i == n) (Some (Some t)) (slice_get slots i))
    (unset : map_of.get a.moments n ≡ None) (once : has n left ≡ false) where
  waits-put : {count : ℕ} → (tasks : List TaskValue) × (after ≡ full tasks) → KeepsUp ticks t
      → t.number ≡ n
      → ((i : ℕ) (u : TaskValue) → slice_get slots i ≡ Some (Some u)
      → KeepsUp ticks u × (u.number ≡ i))
      → ((i : ℕ) → (i == n) ≡ false
      → map_of.get a.moments i ≡ cond (has i left) None (next_in ticks (slice_get slots i)))
      → count ≡ polls_in after
      → Waits ticks after (set_next a n (next_of ticks (current_timeline t).due)) count left
  waits-put filled keeps_up number each timer counted = record {
    filled = filled;
    each = λ i u e.
        elim (i == n) as
        (λ b. (i == n) ≡ b → cond b (Some (Some t)) (slice_get slots i) ≡ Some (Some u) →
        KeepsUp ticks u × (u.number ≡ i)) [
          | true ↦ λ is e. let same : t ≡ u = cc in
              rw (← same) (keeps_up, number ∙ sym ((Decides-eqb i n).0 is))
          | false ↦ λ _ e. each i u e
        ] refl (sym (put i) ∙ e);
    timer = λ i.
        get-set_next a n i (next_of ticks (current_timeline t).due) unset
        ∙ (elim (i == n) as
        (λ b. (i == n) ≡ b →
        cond b (next_of ticks (current_timeline t).due) (map_of.get a.moments i)
        ≡ cond (has i left) None (next_in ticks (cond b (Some (Some t)) (slice_get slots i)))) [
          | true ↦ λ is. let same : i ≡ n = (Decides-eqb i n).0 is in rw (same, once) refl
          | false ↦ λ is. timer i is
        ] refl)
        ∙ ap (λ (slot : Option (Option TaskValue)). cond (has i left) None (next_in ticks slot))
        (sym (put i));
    counted = counted;
  }

-- ---- before the first round
pub waits-none : (ticks : List ℕ) (slots : Slots) (a : Timers) → slots ≡ [] →
    a.moments ≡ map_of.empty → Waits ticks slots a 0 []
waits-none ticks slots a none empty = record {
  filled = ([], none);
  each = rw none (λ i t e. let no : None ≡ Some (Some t) = e in cc);
  timer = λ i. rw (empty, none) (map_of.get-empty nat_cmp i);
  counted = rw none refl;
}

pub waits-push : {ticks : List ℕ} {slots : Slots} {a : Timers} (t : TaskValue) → AreTicks ticks
    → Waits ticks slots a 0 [] → t.number ≡ length slots
    → t.moments ≡ [] → t.seen ≡ 0 → t.broken ≡ false → IsScript t.job.script
    → Waits ticks (slots ++ Some t ∷ [])
    (set_next a t.number (next_of ticks (current_timeline t).due)) 0 []
waits-push {ticks} {slots} {a} t clock w number fresh unseen whole script =
    let past = w.timer (length slots)
    ∙ ap (next_in ticks) (slice_get_past slots (length slots) (omega arith)) in
    subst (λ (n : ℕ). Waits ticks (slots ++ Some t ∷ [])
    (set_next a n (next_of ticks (current_timeline t).due)) 0 []) (sym number)
    (waits-put slots a (get-push slots (Some t)) past refl (
      w.filled.0 ++ t ∷ [],
      ap (λ (ps : Slots). ps ++ Some t ∷ []) w.filled.1
          ∙ sym (map-append (λ u. Some u) w.filled.0 (t ∷ [])),
    )
    (keeps_up-first ticks t clock fresh unseen whole script) number w.each (λ i _. w.timer i)
    (omega (
      arith,
      w.counted,
      sum_by_push polls_of slots (Some t),
      ap (λ (ms : List ℕ). length ms) fresh,
    )))

-- ---- a round begins
module _ {ticks : List ℕ} {slots : Slots} {a a' : Timers} {count now : ℕ} {numbers : List ℕ}
    (w : Waits ticks slots a count []) (k : Takes a a' now numbers) where
  stays : (i : ℕ) (b : Bool) (old new : Option ℕ) → has i numbers ≡ b →
      map_of.get a.moments i ≡ old → map_of.get a'.moments i ≡ new → new ≡ cond b None old
  stays i true old None h d e = refl
  stays i true old (Some s) h d e =
      let both = (k.others_stay i s).0 e in
      let due = (k.all_jobs i).0 (Contains-from_any exact_unsigned_eq i numbers h) in
      let same : s ≡ now = cc (both.0, due) in absurd (both.1 same)
  stays i false None None h d e = refl
  stays i false (Some s) None h d e =
      sym e ∙ (k.others_stay i s).1 (
        d,
        λ same. let set =
            list_any-from_Contains nat_eq_equiv i numbers
            ((k.all_jobs i).1 (d ∙ ap (λ (m : ℕ). Some m) same)) in cc (set, h),
      )
  stays i false old (Some s) h d e = sym ((k.others_stay i s).0 e).0 ∙ d

  pub begins : Begins ticks slots a' count now numbers
  begins = record {
    waits = record {
      filled = w.filled;
      each = w.each;
      timer = λ i. stays i (has i numbers) (next_in ticks (slice_get slots i))
          (map_of.get a'.moments i) refl (w.timer i) refl;
      counted = w.counted;
    };
    is_taken = k.is_last;
    due = λ i h. sym (w.timer i)
        ∙ (k.all_jobs i).0 (Contains-from_any exact_unsigned_eq i numbers h);
  }

  -- it is before the end of the ticks
  pub begins-before : (c : ℕ) → AllBefore ticks c → now < c
  begins-before c all =
      let job = k.is_least.some_job in
      let t = task-at ticks (slice_get slots job.0) now (sym (w.timer job.0) ∙ job.1) in
      before (current_timeline t.0).due t.2
    where
      before : (due : Option ℕ) → next_of ticks due ≡ Some now → now < c
      before None e = cc
      before (Some x) e = first_tick_from-before ticks c x now all e

-- ---- the due tasks
module _ {ticks : List ℕ} {slots : Slots} {a : Timers} {count now : ℕ} {numbers : List ℕ}
    (b : Begins ticks slots a count now numbers) where
  due-task : (i : ℕ) → has i numbers ≡ true → (t : TaskValue) × (slice_get slots i ≡ Some (Some t))
      × (next_of ticks (current_timeline t).due ≡ Some now)
  due-task i h = task-at ticks (slice_get slots i) now (b.due i h)

  due-polled : (i : ℕ) (t : TaskValue) → has i numbers ≡ true → slice_get slots i ≡ Some (Some t) →
      KeepsUp ticks (polled_at now t) × IsPollable now t × AllBefore t.moments now
  due-polled i t h e =
      due-poll ticks t (b.waits.each i t e).0 now _ refl (ap (next_in ticks) (sym e) ∙ b.due i h)

  pub due-pollable : (i : ℕ) (t : TaskValue) → has i numbers ≡ true →
      slice_get slots i ≡ Some (Some t) → IsPollable now t
  due-pollable i t h e = (due-polled i t h e).1

  -- the slots of the due tasks contain tasks
  pub due-filled : (left : List ℕ) → ((i : ℕ) → has i left ≡ true → has i numbers ≡ true) →
      (tasks : List TaskValue) × Picks slots left tasks
  due-filled [] within = ([], refl)
  due-filled (n ∷ left) within =
      let t = due-task n (within n (has-first n left)) in
      let rest = due-filled left (λ i h. within i (has-more n i left h)) in
      (t.0 ∷ rest.0, rw (t.1, rest.1) refl)

  due-each : (left : List ℕ) (ts : List TaskValue)
      → ((i : ℕ) → has i left ≡ true → has i numbers ≡ true) → Picks slots left ts
      → AllByRecursion (IsPollable now) ts × (map (λ t. t.number) ts ≡ left)
  due-each [] [] within picks = (tt, refl)
  due-each [] (t ∷ ts) within picks = cc
  due-each (n ∷ left) [] within picks = cc
  due-each (n ∷ left) (t ∷ ts) within picks =
      let here : slice_get slots n ≡ Some (Some t) = cc in
      let rest = due-each left ts (λ i h. within i (has-more n i left h)) cc in (
        (due-pollable n t (within n (has-first n left)) here, rest.0),
        rw ((b.waits.each n t here).1, rest.1) refl,
      )

  module _ (ts : List TaskValue) (picks : Picks slots numbers ts) where
    pub due-all : All (IsPollable now) ts
    due-all = All-from_recursion (IsPollable now) ts (due-each numbers ts (λ i h. h) picks).0

    pub due-numbers : map (λ t. t.number) ts ≡ numbers
    due-numbers = (due-each numbers ts (λ i h. h) picks).1

    pub due-few : IsStrictlySortedBy nat_cmp numbers → length ts ≤ length slots
    due-few rising =
        let in_range = (λ (i : ℕ) (h : has i numbers ≡ true). let t = due-task i h in
        slice_get_within slots i (Some t.0) t.1) in
        let bound = length-rises 0 numbers (length slots) (RisesFrom-sorted numbers rising)
        (AllBefore-range numbers (length slots) in_range) in
        omega (
          arith,
          bound,
          length-map ts (λ (t : TaskValue). t.number),
          ap (λ (ns : List ℕ). length ns) due-numbers,
        )

  -- the seat may count all polls of a round
  pub due-room : AreTicks ticks → length slots ≤ 10000 → count ≤ 10000 * 1000000000000000
  due-room clock few =
      let bound = polls-bound slots (λ i t e. (b.waits.each i t e).0) in
      omega (arith, bound, b.waits.counted)
    where
      polls-bound : (ps : Slots) → ((i : ℕ) (t : TaskValue) → slice_get ps i ≡ Some (Some t) →
          KeepsUp ticks t) → polls_in ps ≤ length ps * 1000000000000000
      polls-bound [] each = omega arith
      polls-bound (None ∷ ps) each =
          omega (arith, sum_by-cons polls_of None ps, polls-bound ps (λ i t e. each (suc i) t e))
      polls-bound (Some t ∷ ps) each =
          let k : KeepsUp ticks t = each 0 t refl in
          omega (
            arith,
            sum_by-cons polls_of (Some t) ps,
            polls-bound ps (λ i u e. each (suc i) u e),
            k.few,
            length-clock ticks clock,
            ap (λ (us : List ℕ). length us) k.split,
            length-append k.past k.rest,
          )

-- ---- one due poll
module _ {ticks : List ℕ} {slots : Slots} {a : Timers} {count now n : ℕ} {left : List ℕ}
    (b : Begins ticks slots a count now (n ∷ left)) where
  module _ (t : TaskValue) (here : slice_get slots n ≡ Some (Some t)) where
    polled : KeepsUp ticks (polled_at now t) × IsPollable now t × AllBefore t.moments now
    polled = due-polled b n t (has-first n left) here

    pub begins-unset : map_of.get a.moments t.number ≡ None
    begins-unset = rw (b.waits.each n t here).1 (rw (has-first n left) at (b.waits.timer n))

    pub begins-later : IsLater a.last_taken (next_of ticks (current_timeline (polled_at now t)).due)
    begins-later = polled-later ticks t now polled.0 a.last_taken b.is_taken _ refl

    pub begins-onward : has n left ≡ false →
        Begins ticks (slice_set slots n (Some (polled_at now t)))
        (set_next a t.number (next_of ticks (current_timeline (polled_at now t)).due))
        (count + 1) now left
    begins-onward once =
        let number = (b.waits.each n t here).1 in
        let unset : map_of.get a.moments n ≡ None = rw number at begins-unset in
        let put = get-set slots n (Some (polled_at now t))
        (slice_get_within slots n (Some t) here) in
        subst (λ (k : ℕ). Begins ticks (slice_set slots n (Some (polled_at now t)))
        (set_next a k (next_of ticks (current_timeline (polled_at now t)).due)) (count + 1) now
        left) (sym number) (record {
          waits =
              waits-put slots a put unset once (
                slice_set b.waits.filled.0 n (polled_at now t),
                ap (λ (ps : Slots). slice_set ps n (Some (polled_at now t))) b.waits.filled.1
                    ∙ sym (map-set (λ u. Some u) b.waits.filled.0 n (polled_at now t)),
              )
              polled.0 number b.waits.each (λ i is. rw is at (b.waits.timer i))
              (omega (arith, b.waits.counted, polls_in-set slots n now t here));
          is_taken = taken-set_next a n (next_of ticks (current_timeline (polled_at now t)).due)
              ∙ b.is_taken;
          due = λ i h.
              ap (next_in ticks) (put i)
              ∙ elim (i == n) as
              (λ c. (i == n) ≡ c →
              next_in ticks (cond c (Some (Some (polled_at now t))) (slice_get slots i))
              ≡ Some now) [
                | true ↦ λ is. let same : i ≡ n = (Decides-eqb i n).0 is in
                    let set : has n left ≡ true = rw same at h in cc
                | false ↦ λ _. b.due i (has-more n i left h)
              ] refl;
        })

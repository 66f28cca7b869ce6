-- A shared round: the tasks that are due are taken out, polled, and put back.
use Rattle.std.proofs.Common.{◌≡◌, ◌<◌, ◌+◌, ℕ, List, [], ◌∷◌, Some, None, length, ap, ◌∙◌, arith}
use Rattle.std.proofs.Common.{slice_get, slice_set, map}
use Rattle.std.specs.FinMap.{get}
use Rattle.std.proofs.lemmas.Option.{slice_get_within}
use Rattle.zs_agenda.specs.Timers.{Timers}
use Rattle.zs_drive.specs.Values.{JobRecord}
use Rattle.zs_drive.specs.Tasks.{TaskValue, current_timeline}
use Rattle.zs_pool.specs.Rounds.{polled_at}
use Rattle.zs_engine.specs.Times.{next_of, IsLater}
use Rattle.zs_engine.specs.Slots.{Slots, Picks, emptied, IsDistinct}
use Rattle.zs_engine.specs.Rounds.{Waits, Begins, jobs_in, set_next}
use Rattle.zs_engine.proofs.RoundLemmas.{begins-unset, begins-later, begins-onward}
use Rattle.zs_engine.proofs.SlotLemmas.{jobs_in-set, picks-set, emptied-put, length-emptied}

abbrev pub numbers_of : List TaskValue → List ℕ
numbers_of ts = map (λ t. t.number) ts

-- While the tasks are put back, `waits` remain. `whole` has the slots with them as they were.
pub record Settling (ticks : List ℕ) (now : ℕ) (jobs : List JobRecord) (slots : Slots) (a : Timers)
    (waits rest : List TaskValue) (count : ℕ) : Type 0 where
  pub whole : Slots
  pub before : ℕ
  pub begins : Begins ticks whole a before now (numbers_of waits)
  pub distinct : IsDistinct (numbers_of waits)
  pub picks : Picks whole (numbers_of waits) waits
  pub rest_is : rest ≡ map (polled_at now) waits
  pub out : slots ≡ emptied whole (numbers_of waits)
  pub same_jobs : jobs_in whole ≡ jobs
  pub counted : count ≡ before + length waits

-- the next task that is put back
pub record Next (ticks : List ℕ) (now : ℕ) (jobs : List JobRecord) (slots : Slots) (a : Timers)
    (t : TaskValue) (more : List TaskValue) (count : ℕ) : Type 0 where
  pub in_range : t.number < length slots
  pub unset : get a.moments t.number ≡ None
  pub later : IsLater a.last_taken (next_of ticks (current_timeline t).due)
  pub onward : (waits : List TaskValue)
      × Settling ticks now jobs (slice_set slots t.number (Some t))
      (set_next a t.number (next_of ticks (current_timeline t).due)) waits more count

module _ {ticks : List ℕ} {now : ℕ} {jobs : List JobRecord} {slots : Slots} {a : Timers}
    {count : ℕ} where
  pub settling-next : (waits : List TaskValue) (t : TaskValue) (more : List TaskValue) →
      Settling ticks now jobs slots a waits (t ∷ more) count →
      Next ticks now jobs slots a t more count
  settling-next [] t more s = cc (s.rest_is)
  settling-next (w ∷ waits) t more s =
      let here : slice_get s.whole w.number ≡ Some (Some w) = cc (s.picks) in
      let rest : map (slice_get s.whole) (numbers_of waits) ≡ map (λ u. Some (Some u)) waits =
      cc (s.picks) in
      let first : t ≡ polled_at now w = cc (s.rest_is) in
      let others : more ≡ map (polled_at now) waits = cc (s.rest_is) in
      rw first (record {
        in_range = rw (s.out, length-emptied s.whole (numbers_of (w ∷ waits)))
            (slice_get_within s.whole w.number (Some w) here);
        unset = begins-unset s.begins w here;
        later = begins-later s.begins w here;
        onward = (
          waits,
          record {
            whole = slice_set s.whole w.number (Some (polled_at now w));
            before = s.before + 1;
            begins = begins-onward s.begins w here s.distinct.0;
            distinct = s.distinct.1;
            picks = picks-set s.whole w.number (Some (polled_at now w)) (numbers_of waits)
                s.distinct.0 ∙ rest;
            rest_is = others;
            out = ap (λ (ps : Slots). slice_set ps w.number (Some (polled_at now w))) s.out
                ∙ emptied-put s.whole w.number (Some (polled_at now w)) (numbers_of waits)
                s.distinct.0;
            same_jobs = jobs_in-set s.whole w.number now w here ∙ s.same_jobs;
            counted = omega (arith, s.counted);
          },
        );
      })

  pub settling-end : (waits : List TaskValue) → Settling ticks now jobs slots a waits [] count →
      Waits ticks slots a count [] × (jobs_in slots ≡ jobs) × (a.last_taken ≡ Some now)
  settling-end [] s = let same : count ≡ s.before = omega (arith, s.counted) in
      (rw (s.out, same) s.begins.waits, ap jobs_in s.out ∙ s.same_jobs, s.begins.is_taken)
  settling-end (w ∷ waits) s = cc (s.rest_is)

use Rattle.std.proofs.Common.{◌≡◌, ◌≢◌, length, get_or, arith, subst, sym, ◌∙◌, get_or-set_other}
use Rattle.std.specs.List.{AllZip}
use Rattle.zs_drive.specs.Tasks.{TaskValue}
use Rattle.zs_pool.specs.Rounds.{IsPolled, IsPollable}
use Rattle.zs_pool.proofs.Zips.{zip_write, zip_whole, saw_all}
use Rattle.zs_pool.proofs.polling.poll_each.Goals as goal

pub poll_one-requires-clause-pollable : goal.poll_one-requires-clause-pollable
poll_one-requires-clause-pollable g c κs within =
    let i = c.loop-place.place in let d = c.index-tasks-place.result in
    let same = c.loop-place.invariant.1 i d (omega arith) in
    let may : IsPollable c.args.now (get_or c.args.tasks.now i d) =
    c.requires.pollable i d (omega arith) in
    let P : TaskValue → Type 0 = IsPollable c.args.now in
    subst P (sym same) may

pub loop-place-preserved : goal.loop-place-preserved
loop-place-preserved g c =
    let i = c.loop-place.place in let d = c.index-tasks-place.result in
    let same = c.loop-place.invariant.1 i d (omega arith) in
    let P : TaskValue → Type 0 = λ t. IsPolled c.args.now t c.poll_one.new.task in
    let here : P (get_or c.args.tasks.now i d) = subst P same c.poll_one.ensures.polled in
    let counted = c.poll_one.ensures.counted in (
      zip_write (IsPolled c.args.now) c.args.tasks.now c.loop-place.tasks i d c.poll_one.new.task
          (omega arith) (omega arith) c.loop-place.invariant.0 here,
      (λ k e past. let ne : k ≢ i = omega arith in
          get_or-set_other c.loop-place.tasks i k c.poll_one.new.task e ne
          ∙ c.loop-place.invariant.1 k e (omega arith)),
      counted.0 ∙ c.loop-place.invariant.2,
      omega (arith, counted.1, c.loop-place.invariant.3),
      omega (arith, counted.2, c.loop-place.invariant.4),
    )

pub returns : goal.returns
returns g c =
    let whole : AllZip (IsPolled c.args.now) c.args.tasks.now c.loop-place.tasks =
    zip_whole (IsPolled c.args.now) c.args.tasks.now c.loop-place.tasks c.loop-place.place
    (omega arith) (omega arith) c.loop-place.invariant.0
    in
    let end : c.loop-place.place ≡ length c.args.tasks.now = omega arith in
    record {
      counted = (
        c.loop-place.invariant.2 ∙ sym c.requires.tally,
        omega (arith, c.loop-place.invariant.3, end),
        omega (arith, c.loop-place.invariant.4, end),
      );
      polled = whole;
      saw = saw_all c.args.now c.args.tasks.now c.loop-place.tasks whole;
    }

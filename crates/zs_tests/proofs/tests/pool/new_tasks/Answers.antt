use Rattle.std.proofs.Common.{◌≡◌, ◌+◌, suc, List, [], ◌∷◌, ◌++◌, length, map, length-append, sym, ap, ◌∙◌, subst, arith}
use Rattle.std.specs.Prelude.{All}
use Rattle.std.specs.List.{range_with_len}
use Rattle.std.proofs.lemmas.List.{map-append}
use Rattle.std.proofs.lemmas.List.Elements.{All-push, All-nil}
use Rattle.zs_drive.specs.Tasks.{TaskValue}
use Rattle.zs_pool.specs.Rounds.{IsPollable}
use Rattle.zs_tests.proofs.NewTasks.{range_more, new_pollable, rising_numbers}
use Rattle.zs_tests.proofs.tests.pool.new_tasks.Goals as goal

pub loop-number-init : goal.loop-number-init
loop-number-init c = record {
  size = ap length c.new-tasks.ensures.items;
  numbers = ap (map (λ (t : TaskValue). t.number)) c.new-tasks.ensures.items;
  pollable = (let A : List TaskValue → Type 0 = λ ts. All (IsPollable c.args.now) ts in subst A (sym c.new-tasks.ensures.items) (All-nil (IsPollable c.args.now)));
}

pub loop-number-preserved : goal.loop-number-preserved
loop-number-preserved c =
    let t : TaskValue = c.in_ok-new_task.field-0 in let items = c.in_ok-push.ensures.items in let was = c.loop-number.tasks.items in
    let new = c.in_ok-new_task.ensures.new in let n = c.loop-number.number in let now = c.args.now in
    let e : suc n ≡ n + 1 = omega arith in
    let A : List TaskValue → Type 0 = λ ts. All (IsPollable now) ts in
    record {
      size = omega (arith, ap length items, length-append was (t ∷ []), c.loop-number.invariant.size);
      numbers =
          ap (map (λ (x : TaskValue). x.number)) items ∙ map-append (λ (x : TaskValue). x.number) was (t ∷ []) ∙ ap (λ l. l ++ t.number ∷ []) c.loop-number.invariant.numbers
          ∙ ap (λ k. range_with_len 0 n ++ k ∷ []) (new.0 ∙ omega arith) ∙ sym (range_more 0 n) ∙ ap (range_with_len 0) e;
      pollable = subst A (sym items) (All-push (IsPollable now) was t c.loop-number.invariant.pollable (new_pollable n t new now c.requires.now));
    }

pub returns-clause-rising : goal.returns-clause-rising
returns-clause-rising c = rising_numbers _ c.loop-number.tasks.items c.loop-number.invariant.numbers

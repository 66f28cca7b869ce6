-- How a round ends.
use Rattle.std.proofs.Common.{◌≡◌, ◌+◌, ◌≤◌, ℕ, true, Vec, Ok, IfOk, List, [], ◌∷◌, ◌++◌, length}
use Rattle.std.proofs.Common.{ap, ◌∙◌, subst, arith, All, Global, IsPermutation}
use Rattle.std.specs.List.{range_with_len}
use Rattle.std.proofs.Math.Seq.{drop-append_seam}
use Rattle.std.proofs.lemmas.List.Elements.{All-nil, All-cons, All-drop}
use Rattle.zs_drive.specs.Tasks.{TaskValue}
use Rattle.zs_pool.specs.Batches.{BatchValue, tasks_of}
use Rattle.zs_pool.specs.Messages.{PolledValue, IsPollAmong, numbers_of}
use Rattle.zs_pool.specs.declared.rounds.shared.Rights.{Rights}
use Rattle.zs_pool.specs.Shares.{Overflow}
use Rattle.zs_pool.specs.Joined.{IsPart, IsWhole}
use Rattle.zs_pool.proofs.BoardMoves.{all_front}
use Rattle.zs_pool.proofs.Served.{collected, counted_all}

-- all messages are there, and each task was counted
pub record Ended (now : ℕ) (all : List BatchValue) (first : ℕ) (room : ℕ) (r : Rights)
    (ms : List PolledValue) : Type 0 where
  pub each : All (IsPollAmong now all) ms
  pub whole : IsPermutation (range_with_len 0 (length all)) (numbers_of ms)
  pub count : r.seat.count ≡ first + length (tasks_of all)
  pub left : r.seat.allowance + length (tasks_of all) ≡ room

pub ended : (now : ℕ) (all : List BatchValue) (first r : Rights) (kept : Overflow)
    (messages left : List PolledValue) (k : Vec PolledValue Global)
    → IsWhole now first r kept messages → first.board_pass.batches ≡ all → kept ≡ Ok k
    → IsPermutation (range_with_len 0 (length r.board_pass.taken)) r.board_pass.taken
    → (r.board_pass.none ≡ true → length r.board_pass.taken ≡ length r.board_pass.batches)
    → IsPermutation r.shelf_pass.put (r.shelf_pass.taken ++ left)
    → Ended now all first.seat.count first.seat.allowance r ((messages ++ left) ++ k.items)
ended now all first r kept messages left k w same is some whole moved =
    let bs = first.board_pass.batches in let count = first.seat.count in
    let room = first.seat.allowance in
    let E : List BatchValue → Type 0 =
    λ l. Ended now l count room r ((messages ++ left) ++ k.items) in
    let K : Overflow → Type 0 = λ o. IfOk o (λ ps. IsPart now bs count room 0 r ps.items) in
    let p : K (Ok k) = subst K is w.part in
    let every : length r.board_pass.taken ≡ length bs = whole p.none ∙ ap length w.same in
    let N : ℕ → Type 0 = λ n. IsPermutation (range_with_len 0 n) r.board_pass.taken in
    let taken : N (length bs) = subst N every some in
    let P : List PolledValue → Type 0 = λ l. IsPermutation r.shelf_pass.put (l ++ left) in
    let ends = collected now bs r.board_pass.taken r.shelf_pass.put k.items messages left taken
    (subst P w.taken moved) p.served in
    let size = counted_all bs r.board_pass.taken taken in
    let here : E bs = record {
      each = ends.0;
      whole = ends.1;
      count = omega (arith, p.count, size);
      left = omega (arith, p.left, size);
    } in
    subst E same here

pub some_batches : (bs : List BatchValue) → 1 ≤ length (tasks_of bs) → 1 ≤ length bs
some_batches [] some = absurd (omega arith)
some_batches (b ∷ bs) some = omega arith

all_back : {X : Type 0} (P : X → Type 0) (xs ys : List X) → All P (xs ++ ys) → All P ys
all_back {X} P xs ys h = let Q : List X → Type 0 = λ l. All P l in
    subst Q (drop-append_seam xs ys) (All-drop P (length xs) (xs ++ ys) h)

-- what is true of all tasks is true of the tasks of each batch
pub all_parts : (P : TaskValue → Type 0) (bs : List BatchValue) → All P (tasks_of bs) →
    All (λ b. All P b.tasks) bs
all_parts P [] h = All-nil (λ (b : BatchValue). All P b.tasks)
all_parts P (b ∷ bs) h =
    All-cons (λ (x : BatchValue). All P x.tasks) b bs (all_front P b.tasks (tasks_of bs) h)
    (all_parts P bs (all_back P b.tasks (tasks_of bs) h))

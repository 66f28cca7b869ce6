-- After each operator's step the range of states covers the longer history, and the result is
-- within the range of results.
use Rattle.std.proofs.Common.{◌≡◌, ℕ, Bool, true, false, ◌||◌, ◌&&◌, if◌then◌else◌, Option, Some}
use Rattle.std.proofs.Common.{None, [], ◌∷◌, refl, sym, subst, arith}
use Rattle.zs_term.specs.Output.{none, count, passes, picked}
use Rattle.zs_term.specs.Schedule.{Schedule, leaf, two, over, has_factors, both, either, and_then}
use Rattle.zs_term.specs.Schedule.{while_input, while_output, collect_all, mapped, reset_when}
use Rattle.zs_term.specs.declared.term.Test.{Test}
use Rattle.zs_term.specs.declared.term.Pick.{Pick}
use Rattle.zs_step.specs.History.{History}
use Rattle.zs_step.specs.Answer.{Answer, answer_of, is_next, done_from, from_done, sequel_of}
use Rattle.zs_step.specs.Answer.{collected, reset_if, since_reset}
use Rattle.zs_bounds.specs.declared.span.Span.{Span}
use Rattle.zs_bounds.specs.Driven.{IsStep}
use Rattle.zs_bounds.specs.Span.{IsIn, span}
use Rattle.zs_bounds.specs.DecisionRange.{may_go_on}
use Rattle.zs_bounds.specs.OutputRange.{picked_span, may_pass, may_fail}
use Rattle.zs_bounds.specs.AnswerRange.{AnswerRange, IsAnswerIn, result_hull, results_if}
use Rattle.zs_bounds.specs.AnswerRange.{left_range, right_range, any_input, reset_range}
use Rattle.zs_bounds.specs.StateRange.{StateRange, steps_in, time_in, first_in, second_in}
use Rattle.zs_bounds.specs.StateRange.{is_first_on, is_second_on, items_in, part_in, first_turn}
use Rattle.zs_bounds.specs.StateRange.{first_range, first_state, with_first, begun, turn_range}
use Rattle.zs_bounds.specs.StateRange.{more_items, more_steps, more_time, next_range, next_state}
use Rattle.zs_bounds.proofs.Spans.{or-left, or-right, and-both, and-left, and-right, in-itself}
use Rattle.zs_bounds.proofs.Spans.{in-hull_left, in-hull_right, test-may_pass, test-may_fail}
use Rattle.zs_bounds.proofs.Deciding.{next-may, stop-may}
use Rattle.zs_bounds.proofs.Outputs.{picked-in, applied-in}
use Rattle.zs_bounds.proofs.LeafRanges.{leaf-in}
use Rattle.zs_bounds.proofs.Answering.{answer-left, answer-right, results_if-in, pair_both-in}
use Rattle.zs_bounds.proofs.Answering.{pair_either-in, left_range-in, right_range-in, test_range-in}
use Rattle.zs_bounds.proofs.Answering.{input-in, reset-first, reset-goes_on}
use Rattle.zs_bounds.proofs.Covers.{TurnCovers, Covers, Comes, counts-first, counts-keeps}
use Rattle.zs_bounds.proofs.Covers.{counts-begins, counts-next, more_items-in, count-collected}
use Rattle.zs_bounds.proofs.Covers.{from_done-moment, from_done-length, since_reset-moment}
use Rattle.zs_bounds.proofs.Covers.{since_reset-length, since_reset-first, comes-part, begun-keeps}
use Rattle.zs_bounds.proofs.Covers.{begun-begins, chosen}

-- ---- the first step

-- two parts in turn
first_turn-in : (p : ℕ × ℕ) (a b : History → Answer) (r q : AnswerRange) (n : Bool) →
    is_next (a (p ∷ [])).decision ≡ n →
    IsAnswerIn p.0 (a (p ∷ [])) r → IsAnswerIn p.0 (b (p ∷ [])) q →
    IsAnswerIn p.0 (sequel_of (done_from None p n) (a (p ∷ [])) b) (first_turn r q)
first_turn-in p a b r q true next g h =
    answer-left p.0 _ (left_range r) (results_if r.decision.stops (right_range q))
    (left_range-in p.0 (a (p ∷ [])) r next g)
first_turn-in p a b r q false next g h =
    answer-right p.0 _ (left_range r) (results_if r.decision.stops (right_range q))
    (results_if-in p.0 r.decision.stops _ (right_range q)
    (stop-may p.0 (a (p ∷ [])).decision r.decision g.decision next)
    (right_range-in p.0 (b (p ∷ [])) q h))

-- the result of the first step
pub first-in : (s : Schedule) (p : ℕ × ℕ) → has_factors s ≡ true → IsStep p →
    IsAnswerIn p.0 (answer_of s (p ∷ [])) (first_range s)
first-in (leaf l) p factors step =
    leaf-in l (span 1 1) (span 0 0) p [] factors step (omega arith) (counts-first p)
first-in (two both a b) p factors step =
    pair_both-in p.0 (answer_of a (p ∷ [])) (answer_of b (p ∷ [])) (first_range a) (first_range b)
    (first-in a p (and-left (has_factors a) (has_factors b) factors) step)
    (first-in b p (and-right (has_factors a) (has_factors b) factors) step)
first-in (two either a b) p factors step =
    pair_either-in p.0 (answer_of a (p ∷ [])) (answer_of b (p ∷ [])) (first_range a) (first_range b)
    (first-in a p (and-left (has_factors a) (has_factors b) factors) step)
    (first-in b p (and-right (has_factors a) (has_factors b) factors) step)
first-in (two and_then a b) p factors step =
    first_turn-in p (answer_of a) (answer_of b) (first_range a) (first_range b)
    (is_next (answer_of a (p ∷ [])).decision) refl
    (first-in a p (and-left (has_factors a) (has_factors b) factors) step)
    (first-in b p (and-right (has_factors a) (has_factors b) factors) step)
first-in (over s (while_input t)) p factors step =
    test_range-in p.0 p.1 t any_input (answer_of s (p ∷ [])) (first_range s)
    (input-in p.1 step.input) (first-in s p factors step)
first-in (over s (while_output k t)) p factors step =
    let h = first-in s p factors step in
    test_range-in p.0 (picked k (answer_of s (p ∷ [])).output) t
    (picked_span k (first_range s).output) (answer_of s (p ∷ [])) (first_range s)
    (picked-in k (answer_of s (p ∷ [])).output (first_range s).output h.output) h
first-in (over s collect_all) p factors step = record {
  output = in-itself 0;
  decision = (first-in s p factors step).decision;
}
first-in (over s (mapped f)) p factors step =
    let h = first-in s p factors step in
    record {
      output = applied-in f (answer_of s (p ∷ [])).output (first_range s).output h.output;
      decision = h.decision;
    }
first-in (over s (reset_when k t)) p factors step =
    subst (λ (h : History). IsAnswerIn p.0 (answer_of s h) (first_range s))
    (sym (since_reset-first (answer_of s) k t p)) (first-in s p factors step)

-- ---- ranges of states that cover one step

-- two parts in turn: the first goes on, or the second begins
turn-first : (p : ℕ × ℕ) (a : History → Answer) (r : AnswerRange) (first_on second_on n : Bool)
    (first : Type 0) (second : History → Type 0) →
    is_next (a (p ∷ [])).decision ≡ n → IsAnswerIn p.0 (a (p ∷ [])) r →
    (may_go_on r.decision ≡ true → first_on ≡ true) →
    (r.decision.stops ≡ true → second_on ≡ true) → (may_go_on r.decision ≡ true → first) →
    (r.decision.stops ≡ true → second (p ∷ [])) →
    TurnCovers first_on second_on (done_from None p n) first second
turn-first p a r first_on second_on true first second next h on_first on_second covers_first
    covers_second =
    let may = next-may p.0 (a (p ∷ [])).decision r.decision h.decision next in
    (on_first may, covers_first may)
turn-first p a r first_on second_on false first second next h on_first on_second covers_first
    covers_second =
    let may = stop-may p.0 (a (p ∷ [])).decision r.decision h.decision next in
    (on_second may, covers_second may)

-- the items after the first step
items-first : (s : Schedule) (p : ℕ × ℕ) → has_factors s ≡ true → IsStep p →
    IsIn (count (collected (answer_of s) (p ∷ []))) (more_items (first_range s).decision (span 0 0))
items-first s p factors step =
    more_items-in p.0 (answer_of s (p ∷ [])).decision (first_range s).decision none
    (answer_of s (p ∷ [])).output (span 0 0)
    (first-in s p factors step).decision (in-itself 0)
    (let le = count-collected (answer_of s) (p ∷ []) in omega (arith, le))

-- the states after the first step
pub first-covers : (s : Schedule) (p : ℕ × ℕ) → has_factors s ≡ true → IsStep p →
    Covers s (first_state s) (p ∷ [])
first-covers (leaf l) p factors step = counts-first p
first-covers (two both a b) p factors step = (
  first-covers a p (and-left (has_factors a) (has_factors b) factors) step,
  first-covers b p (and-right (has_factors a) (has_factors b) factors) step,
)
first-covers (two either a b) p factors step = (
  first-covers a p (and-left (has_factors a) (has_factors b) factors) step,
  first-covers b p (and-right (has_factors a) (has_factors b) factors) step,
)
first-covers (two and_then a b) p factors step =
    let left = and-left (has_factors a) (has_factors b) factors in
    let right = and-right (has_factors a) (has_factors b) factors in
    turn-first p (answer_of a) (first_range a) (may_go_on (first_range a).decision)
    (first_range a).decision.stops
    (is_next (answer_of a (p ∷ [])).decision) (Covers a (first_state a) (p ∷ []))
    (Covers b (first_state b)) refl (first-in a p left step)
    (λ e. e) (λ e. e) (λ e. first-covers a p left step) (λ e. first-covers b p right step)
first-covers (over s (while_input t)) p factors step = first-covers s p factors step
first-covers (over s (while_output k t)) p factors step = first-covers s p factors step
first-covers (over s collect_all) p factors step =
    (items-first s p factors step, first-covers s p factors step)
first-covers (over s (mapped f)) p factors step = first-covers s p factors step
first-covers (over s (reset_when k t)) p factors step =
    subst (Covers s (first_state s)) (sym (since_reset-first (answer_of s) k t p))
    (first-covers s p factors step)

-- two parts in turn, as far as they were
turn-keeps : (o : Option History) (on_a on_b may_a may_b : Bool) (first new_first : Type 0)
    (second new_second : History → Type 0) →
    (on_a ≡ true → first → new_first) → ((g : History) → on_b ≡ true → second g → new_second g) →
    TurnCovers on_a on_b o first second →
    TurnCovers (on_a || may_a) (on_b || may_b) o new_first new_second
turn-keeps None on_a on_b may_a may_b first new_first second new_second f g h =
    (or-left on_a may_a h.0, f h.0 h.1)
turn-keeps (Some k) on_a on_b may_a may_b first new_first second new_second f g h =
    (or-left on_b may_b h.0, g k h.0 h.1)

-- the states of a range, with those after the first step, cover what the range does
pub with_first-keeps : (s : Schedule) (c : StateRange) (h : History) → Covers s c h →
    Covers s (with_first s c) h
with_first-keeps (leaf l) c h covers = counts-keeps (steps_in c) (time_in c) h covers
with_first-keeps (two both a b) c h covers =
    (with_first-keeps a (first_in c) h covers.0, with_first-keeps b (second_in c) h covers.1)
with_first-keeps (two either a b) c h covers =
    (with_first-keeps a (first_in c) h covers.0, with_first-keeps b (second_in c) h covers.1)
with_first-keeps (two and_then a b) c h covers =
    let d = (first_range a).decision in
    turn-keeps (from_done (answer_of a) h) (is_first_on c) (is_second_on c) (may_go_on d) d.stops
    (Covers a (first_in c) h)
    (Covers a (begun (may_go_on d) (is_first_on c) (with_first a (first_in c)) (first_state a)
    (first_in c)) h)
    (Covers b (second_in c))
    (Covers b (begun d.stops (is_second_on c) (with_first b (second_in c)) (first_state b)
    (second_in c)))
    (λ on first. begun-keeps (λ x. Covers a x h) (may_go_on d) (is_first_on c)
    (with_first a (first_in c)) (first_state a) (first_in c) on
    (with_first-keeps a (first_in c) h first) first)
    (λ g on second. begun-keeps (λ x. Covers b x g) d.stops (is_second_on c)
    (with_first b (second_in c)) (first_state b) (second_in c) on
    (with_first-keeps b (second_in c) g second) second)
    covers
with_first-keeps (over s (while_input t)) c h covers = with_first-keeps s c h covers
with_first-keeps (over s (while_output k t)) c h covers = with_first-keeps s c h covers
with_first-keeps (over s collect_all) c h covers = (
  in-hull_left (count (collected (answer_of s) h)) (items_in c)
      (more_items (first_range s).decision (span 0 0)) covers.0,
  with_first-keeps s (part_in c) h covers.1,
)
with_first-keeps (over s (mapped f)) c h covers = with_first-keeps s c h covers
with_first-keeps (over s (reset_when k t)) c h covers =
    with_first-keeps s c (since_reset (answer_of s) k t h) covers

-- and each history of one step
pub with_first-begins : (s : Schedule) (c : StateRange) (p : ℕ × ℕ) → has_factors s ≡ true →
    IsStep p → Covers s (with_first s c) (p ∷ [])
with_first-begins (leaf l) c p factors step = counts-begins (steps_in c) (time_in c) p
with_first-begins (two both a b) c p factors step = (
  with_first-begins a (first_in c) p (and-left (has_factors a) (has_factors b) factors) step,
  with_first-begins b (second_in c) p (and-right (has_factors a) (has_factors b) factors) step,
)
with_first-begins (two either a b) c p factors step = (
  with_first-begins a (first_in c) p (and-left (has_factors a) (has_factors b) factors) step,
  with_first-begins b (second_in c) p (and-right (has_factors a) (has_factors b) factors) step,
)
with_first-begins (two and_then a b) c p factors step =
    let left = and-left (has_factors a) (has_factors b) factors in
    let right = and-right (has_factors a) (has_factors b) factors in
    let d = (first_range a).decision in
    turn-first p (answer_of a) (first_range a) (is_first_on c || may_go_on d)
    (is_second_on c || d.stops)
    (is_next (answer_of a (p ∷ [])).decision)
    (Covers a (begun (may_go_on d) (is_first_on c) (with_first a (first_in c)) (first_state a)
    (first_in c)) (p ∷ []))
    (Covers b (begun d.stops (is_second_on c) (with_first b (second_in c)) (first_state b)
    (second_in c)))
    refl (first-in a p left step) (or-right (is_first_on c) (may_go_on d))
    (or-right (is_second_on c) d.stops)
    (λ e. begun-begins (λ x. Covers a x (p ∷ [])) (may_go_on d) (is_first_on c)
    (with_first a (first_in c)) (first_state a) (first_in c) e
    (with_first-begins a (first_in c) p left step) (first-covers a p left step))
    (λ e. begun-begins (λ x. Covers b x (p ∷ [])) d.stops (is_second_on c)
    (with_first b (second_in c)) (first_state b) (second_in c) e
    (with_first-begins b (second_in c) p right step) (first-covers b p right step))
with_first-begins (over s (while_input t)) c p factors step = with_first-begins s c p factors step
with_first-begins (over s (while_output k t)) c p factors step =
    with_first-begins s c p factors step
with_first-begins (over s collect_all) c p factors step = (
  in-hull_right (count (collected (answer_of s) (p ∷ []))) (items_in c)
      (more_items (first_range s).decision (span 0 0)) (items-first s p factors step),
  with_first-begins s (part_in c) p factors step,
)
with_first-begins (over s (mapped f)) c p factors step = with_first-begins s c p factors step
with_first-begins (over s (reset_when k t)) c p factors step =
    subst (Covers s (with_first s c)) (sym (since_reset-first (answer_of s) k t p))
    (with_first-begins s c p factors step)

-- ---- a later step: its result

-- two parts in turn
turn-in : (p : ℕ × ℕ) (h : History) (a b : History → Answer) (o : Option History)
    (n on_a on_b : Bool) (r q begins : AnswerRange) (first : Type 0)
    (second : History → Type 0) → is_next (a (p ∷ h)).decision ≡ n →
    TurnCovers on_a on_b o first second → (first → IsAnswerIn p.0 (a (p ∷ h)) r) →
    ((g : History) → o ≡ Some g → second g → IsAnswerIn p.0 (b (p ∷ g)) q) →
    IsAnswerIn p.0 (b (p ∷ [])) begins →
    IsAnswerIn p.0 (sequel_of (done_from o p n) (a (p ∷ h)) b) (turn_range on_a on_b r q begins)
turn-in p h a b None true on_a on_b r q begins first second next covers f g k =
    answer-left p.0 _
    (result_hull (results_if on_a (left_range r)) (results_if on_b (right_range q)))
    (results_if (on_a && r.decision.stops) (right_range begins))
    (answer-left p.0 _ (results_if on_a (left_range r)) (results_if on_b (right_range q))
    (results_if-in p.0 on_a _ (left_range r) covers.0
    (left_range-in p.0 (a (p ∷ h)) r next (f covers.1))))
turn-in p h a b None false on_a on_b r q begins first second next covers f g k =
    answer-right p.0 _
    (result_hull (results_if on_a (left_range r)) (results_if on_b (right_range q)))
    (results_if (on_a && r.decision.stops) (right_range begins))
    (results_if-in p.0 (on_a && r.decision.stops) _ (right_range begins)
    (and-both on_a r.decision.stops covers.0
    (stop-may p.0 (a (p ∷ h)).decision r.decision (f covers.1).decision next))
    (right_range-in p.0 (b (p ∷ [])) begins k))
turn-in p h a b (Some part) n on_a on_b r q begins first second next covers f g k =
    answer-left p.0 _
    (result_hull (results_if on_a (left_range r)) (results_if on_b (right_range q)))
    (results_if (on_a && r.decision.stops) (right_range begins))
    (answer-right p.0 _ (results_if on_a (left_range r)) (results_if on_b (right_range q))
    (results_if-in p.0 on_b _ (right_range q) covers.0
    (right_range-in p.0 (b (p ∷ part)) q (g part refl covers.1))))

-- a part that may be reset
reset-in : (p : ℕ × ℕ) (g : History) (f : History → Answer) (k : Pick) (t : Test)
    (r first : AnswerRange) (n : Bool) →
    passes t (picked k (f (p ∷ g)).output) ≡ n → IsAnswerIn p.0 (f (p ∷ g)) r →
    IsAnswerIn p.0 (f (p ∷ [])) first →
    IsAnswerIn p.0 (f (reset_if n p g)) (reset_range (may_pass t (picked_span k r.output))
    (may_fail t (picked_span k r.output)) r first)
reset-in p g f k t r first true e h begins =
    reset-first p.0 (may_pass t (picked_span k r.output)) (may_fail t (picked_span k r.output))
    (f (p ∷ [])) r first
    (test-may_pass t (picked k (f (p ∷ g)).output) (picked_span k r.output)
    (picked-in k (f (p ∷ g)).output r.output h.output) e) begins
reset-in p g f k t r first false e h begins =
    reset-goes_on p.0 (may_pass t (picked_span k r.output)) (may_fail t (picked_span k r.output))
    (f (p ∷ g)) r first
    (test-may_fail t (picked k (f (p ∷ g)).output) (picked_span k r.output)
    (picked-in k (f (p ∷ g)).output r.output h.output) e) h

-- what comes after a history comes after the part from the first done step on
comes-done : (f : History → Answer) (d : Span) (h g : History) (p : ℕ × ℕ) → Comes d h p →
    from_done f h ≡ Some g → Comes d g p
comes-done f d h g p comes e =
    comes-part d h g p comes (from_done-moment f h g e) (from_done-length f h g e)

-- and after the part since the last reset
comes-reset : (f : History → Answer) (k : Pick) (t : Test) (d : Span) (h : History) (p : ℕ × ℕ) →
    Comes d h p → Comes d (since_reset f k t h) p
comes-reset f k t d h p comes =
    comes-part d h (since_reset f k t h) p comes (since_reset-moment f k t h)
    (since_reset-length f k t h)

-- the result of a later step
pub next-in : (s : Schedule) (c : StateRange) (d : Span) (h : History) (p : ℕ × ℕ) →
    has_factors s ≡ true → Comes d h p → Covers s c h →
    IsAnswerIn p.0 (answer_of s (p ∷ h)) (next_range s c d)
next-in (leaf l) c d h p factors comes covers =
    leaf-in l (more_steps (steps_in c)) (more_time d (time_in c)) p h factors comes.step comes.small
    (counts-next (steps_in c) (time_in c) d h p comes covers)
next-in (two both a b) c d h p factors comes covers =
    pair_both-in p.0 (answer_of a (p ∷ h)) (answer_of b (p ∷ h)) (next_range a (first_in c) d)
    (next_range b (second_in c) d)
    (next-in a (first_in c) d h p (and-left (has_factors a) (has_factors b) factors) comes covers.0)
    (next-in b (second_in c) d h p (and-right (has_factors a) (has_factors b) factors)
    comes covers.1)
next-in (two either a b) c d h p factors comes covers =
    pair_either-in p.0 (answer_of a (p ∷ h)) (answer_of b (p ∷ h)) (next_range a (first_in c) d)
    (next_range b (second_in c) d)
    (next-in a (first_in c) d h p (and-left (has_factors a) (has_factors b) factors) comes covers.0)
    (next-in b (second_in c) d h p (and-right (has_factors a) (has_factors b) factors)
    comes covers.1)
next-in (two and_then a b) c d h p factors comes covers =
    let left = and-left (has_factors a) (has_factors b) factors in
    let right = and-right (has_factors a) (has_factors b) factors in
    turn-in p h (answer_of a) (answer_of b) (from_done (answer_of a) h)
    (is_next (answer_of a (p ∷ h)).decision) (is_first_on c) (is_second_on c)
    (next_range a (first_in c) d) (next_range b (second_in c) d) (first_range b)
    (Covers a (first_in c) h) (Covers b (second_in c)) refl covers
    (λ first. next-in a (first_in c) d h p left comes first)
    (λ g e second. next-in b (second_in c) d g p right (comes-done (answer_of a) d h g p comes e)
    second)
    (first-in b p right comes.step)
next-in (over s (while_input t)) c d h p factors comes covers =
    test_range-in p.0 p.1 t any_input (answer_of s (p ∷ h)) (next_range s c d)
    (input-in p.1 comes.step.input) (next-in s c d h p factors comes covers)
next-in (over s (while_output k t)) c d h p factors comes covers =
    let is = next-in s c d h p factors comes covers in
    test_range-in p.0 (picked k (answer_of s (p ∷ h)).output) t
    (picked_span k (next_range s c d).output) (answer_of s (p ∷ h)) (next_range s c d)
    (picked-in k (answer_of s (p ∷ h)).output (next_range s c d).output is.output) is
next-in (over s collect_all) c d h p factors comes covers = record {
  output = covers.0;
  decision = (next-in s (part_in c) d h p factors comes covers.1).decision;
}
next-in (over s (mapped f)) c d h p factors comes covers =
    let is = next-in s c d h p factors comes covers in
    record {
      output = applied-in f (answer_of s (p ∷ h)).output (next_range s c d).output is.output;
      decision = is.decision;
    }
next-in (over s (reset_when k t)) c d h p factors comes covers =
    reset-in p (since_reset (answer_of s) k t h) (answer_of s) k t (next_range s c d)
    (first_range s)
    (passes t (picked k (answer_of s (p ∷ since_reset (answer_of s) k t h)).output)) refl
    (next-in s c d (since_reset (answer_of s) k t h) p factors
    (comes-reset (answer_of s) k t d h p comes) covers)
    (first-in s p factors comes.step)

-- ---- a later step: the states after it

-- two parts in turn
turn-covers : (p : ℕ × ℕ) (h : History) (a : History → Answer) (o : Option History)
    (n on_a on_b : Bool) (r : AnswerRange)
    (first new_first : Type 0) (second new_second : History → Type 0) →
    is_next (a (p ∷ h)).decision ≡ n → TurnCovers on_a on_b o first second →
    (first → IsAnswerIn p.0 (a (p ∷ h)) r) → (on_a ≡ true → first → new_first) →
    ((g : History) → on_b ≡ true → o ≡ Some g → second g → new_second (p ∷ g)) →
    ((on_a && r.decision.stops) ≡ true → new_second (p ∷ [])) →
    TurnCovers (on_a && may_go_on r.decision) (on_b || (on_a && r.decision.stops)) (done_from o p n)
    new_first new_second
turn-covers p h a None true on_a on_b r first new_first second new_second next covers is
    f g begins = (
      and-both on_a (may_go_on r.decision) covers.0
          (next-may p.0 (a (p ∷ h)).decision r.decision (is covers.1).decision next),
      f covers.0 covers.1,
    )
turn-covers p h a None false on_a on_b r first new_first second new_second next covers is
    f g begins =
    let e = and-both on_a r.decision.stops covers.0
    (stop-may p.0 (a (p ∷ h)).decision r.decision (is covers.1).decision next) in
    (or-right on_b (on_a && r.decision.stops) e, begins e)
turn-covers p h a (Some part) n on_a on_b r first new_first second new_second next covers is
    f g begins =
    (or-left on_b (on_a && r.decision.stops) covers.0, g part covers.0 refl covers.1)

-- a part that may be reset
reset-covers : (p : ℕ × ℕ) (g : History) (f : History → Answer) (k : Pick) (t : Test)
    (r : AnswerRange) (n : Bool) (P : StateRange → History → Type 0)
    (w first c : StateRange) → passes t (picked k (f (p ∷ g)).output) ≡ n →
    IsAnswerIn p.0 (f (p ∷ g)) r → P w (p ∷ g) → P c (p ∷ g) → P w (p ∷ []) →
    P first (p ∷ []) →
    P (begun (may_pass t (picked_span k r.output)) (may_fail t (picked_span k r.output)) w first
    c) (reset_if n p g)
reset-covers p g f k t r true P w first c e h w_keeps c_keeps w_begins first_begins =
    begun-begins (λ x. P x (p ∷ [])) (may_pass t (picked_span k r.output))
    (may_fail t (picked_span k r.output)) w first c
    (test-may_pass t (picked k (f (p ∷ g)).output) (picked_span k r.output)
    (picked-in k (f (p ∷ g)).output r.output h.output) e) w_begins first_begins
reset-covers p g f k t r false P w first c e h w_keeps c_keeps w_begins first_begins =
    begun-keeps (λ x. P x (p ∷ g)) (may_pass t (picked_span k r.output))
    (may_fail t (picked_span k r.output)) w first c
    (test-may_fail t (picked k (f (p ∷ g)).output) (picked_span k r.output)
    (picked-in k (f (p ∷ g)).output r.output h.output) e) w_keeps c_keeps

-- the states after a later step
pub next-covers : (s : Schedule) (c : StateRange) (d : Span) (h : History) (p : ℕ × ℕ) →
    has_factors s ≡ true → Comes d h p → Covers s c h →
    Covers s (next_state s c d) (p ∷ h)
next-covers (leaf l) c d h p factors comes covers =
    counts-next (steps_in c) (time_in c) d h p comes covers
next-covers (two both a b) c d h p factors comes covers = (
  next-covers a (first_in c) d h p (and-left (has_factors a) (has_factors b) factors)
      comes covers.0,
  next-covers b (second_in c) d h p (and-right (has_factors a) (has_factors b) factors)
      comes covers.1,
)
next-covers (two either a b) c d h p factors comes covers = (
  next-covers a (first_in c) d h p (and-left (has_factors a) (has_factors b) factors)
      comes covers.0,
  next-covers b (second_in c) d h p (and-right (has_factors a) (has_factors b) factors)
      comes covers.1,
)
next-covers (two and_then a b) c d h p factors comes covers =
    let left = and-left (has_factors a) (has_factors b) factors in
    let right = and-right (has_factors a) (has_factors b) factors in
    let r = next_range a (first_in c) d in
    let x = next_state a (first_in c) d in
    let y = next_state b (second_in c) d in
    let begins = is_first_on c && r.decision.stops in
    let kept = if is_second_on c then y else second_in c in
    turn-covers p h (answer_of a) (from_done (answer_of a) h)
    (is_next (answer_of a (p ∷ h)).decision) (is_first_on c) (is_second_on c) r
    (Covers a (first_in c) h) (Covers a (if is_first_on c then x else first_in c) (p ∷ h))
    (Covers b (second_in c))
    (Covers b (begun begins (is_second_on c) (with_first b y) (first_state b) kept)) refl covers
    (λ first. next-in a (first_in c) d h p left comes first)
    (λ on first. chosen (λ z. Covers a z (p ∷ h)) (is_first_on c) x (first_in c) on
    (next-covers a (first_in c) d h p left comes first))
    (λ g on e second.
    let now = next-covers b (second_in c) d g p right (comes-done (answer_of a) d h g p comes e)
    second in
    begun-keeps (λ z. Covers b z (p ∷ g)) begins (is_second_on c) (with_first b y) (first_state b)
    kept on (with_first-keeps b y (p ∷ g) now)
    (chosen (λ z. Covers b z (p ∷ g)) (is_second_on c) y (second_in c) on now))
    (λ e. begun-begins (λ z. Covers b z (p ∷ [])) begins (is_second_on c) (with_first b y)
    (first_state b) kept e
    (with_first-begins b y p right comes.step) (first-covers b p right comes.step))
next-covers (over s (while_input t)) c d h p factors comes covers =
    next-covers s c d h p factors comes covers
next-covers (over s (while_output k t)) c d h p factors comes covers =
    next-covers s c d h p factors comes covers
next-covers (over s collect_all) c d h p factors comes covers = (
  more_items-in p.0 (answer_of s (p ∷ h)).decision (next_range s (part_in c) d).decision
      (collected (answer_of s) h) (answer_of s (p ∷ h)).output
      (items_in c) (next-in s (part_in c) d h p factors comes covers.1).decision covers.0
      (let le = count-collected (answer_of s) (p ∷ h) in omega (arith, le, comes.small)),
  next-covers s (part_in c) d h p factors comes covers.1,
)
next-covers (over s (mapped f)) c d h p factors comes covers =
    next-covers s c d h p factors comes covers
next-covers (over s (reset_when k t)) c d h p factors comes covers =
    let g = since_reset (answer_of s) k t h in
    let after = comes-reset (answer_of s) k t d h p comes in
    let now = next-covers s c d g p factors after covers in
    reset-covers p g (answer_of s) k t (next_range s c d)
    (passes t (picked k (answer_of s (p ∷ g)).output)) (Covers s)
    (with_first s (next_state s c d)) (first_state s) (next_state s c d) refl
    (next-in s c d g p factors after covers)
    (with_first-keeps s (next_state s c d) (p ∷ g) now) now
    (with_first-begins s (next_state s c d) p factors comes.step)
    (first-covers s p factors comes.step)

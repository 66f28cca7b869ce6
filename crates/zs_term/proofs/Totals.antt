-- What one more token does to the sizes of a term that has been read in part.
use Rattle.std.proofs.Common.{◌≡◌, ℕ, ◌+◌, ◌≤◌, List, [], ◌∷◌, length, Bool, true, false, Option}
use Rattle.std.proofs.Common.{Some, None, refl, sym, ap, ◌∙◌, subst, arith, inl, inr}
use Rattle.std.specs.Prelude.{option_map, map, min, IfSome}
use Rattle.zs_term.specs.Number.{fit}
use Rattle.zs_term.specs.Token.{Token, number, mark}
use Rattle.zs_term.specs.Machine.{Frame, left, right, Stage, start, opening, counting, exp_opening}
use Rattle.zs_term.specs.Machine.{exp_counting, based, factored, closing, after, dotted, method}
use Rattle.zs_term.specs.Machine.{picking, testing, comparing, mapping, scaling, State, at}
use Rattle.zs_term.specs.Machine.{begin_leaf, inner_mark, inner_number, step_mark, step, run}
use Rattle.zs_term.specs.Parts.{Kept, keep, sizes_frame, sizes_stage, sizes_state}
use Rattle.zs_term.specs.Totals.{least, join_sizes, whole, ArePast, IsPast, Watches}
use Rattle.zs_term.specs.declared.token.Mark.{Mark}
use Rattle.zs_term.specs.declared.token.Mark.TheVariants.{PlainWord, CountedWord, ExponentialWord}
use Rattle.zs_term.specs.declared.token.Mark.TheVariants.{Operator, MethodWord, CollectAllWord}
use Rattle.zs_term.specs.declared.token.Mark.TheVariants.{Comparison, PieceWord, MergeWord}
use Rattle.zs_term.specs.declared.token.Mark.TheVariants.{ScaleWord, Open, Close, Comma, Dot}
use Rattle.zs_term.specs.declared.forms.Method.TheVariants.{WhileInput, WhileOutput, Map, ResetWhen}
use Rattle.zs_term.specs.declared.forms.Subject.TheVariants.{Input, Picked}
use Rattle.zs_term.specs.declared.forms.Action.TheVariants.{Stopping, Resetting}

-- sizes don't shrink below the first past the limits
abbrev pub Below : ℕ × ℕ → ℕ × ℕ → Type 0
Below p q = (min p.0 65 ≤ q.0) × (min p.1 1001 ≤ q.1)

same : (p : ℕ × ℕ) → Below p p
same p = (omega arith, omega arith)

join_below : (a : Kept) (p q : ℕ × ℕ) → Below p q → Below (join_sizes a p) (join_sizes a q)
join_below a p q h = (omega arith, omega arith)

whole_below : (fs : List (Frame Kept)) (p q : ℕ × ℕ) → Below p q → Below (whole fs p) (whole fs q)
whole_below [] p q h = h
whole_below (left ∷ fs) p q h = whole_below fs p q h
whole_below (right i a ∷ fs) p q h = whole_below fs _ _ (join_below a p q h)

pub still_past : (p q : ℕ × ℕ) → Below p q → ArePast p → ArePast q
still_past p q h (inl d) = inl (omega arith)
still_past p q h (inr w) = inr (omega arith)

-- a token has the same effect without terms, and its stage has no less sizes
abbrev Goes : Bool → Stage Kept (Option ℕ) →
    (Bool → Stage Kept (Option ℕ) → Option (Stage Kept (Option ℕ))) → Type 0
Goes b k f = (f false (sizes_stage k) ≡ option_map sizes_stage (f true k))
    × IfSome (f b k) (λ j. Below (least k) (least j))

begin_goes : (b : Bool) (m : Mark) → Goes b start (λ b k. begin_leaf (keep b) m)
begin_goes b (PlainWord p) = (refl, same _)
begin_goes b (CountedWord c) = (refl, same _)
begin_goes b ExponentialWord = (refl, same _)
begin_goes b _ = (refl, tt)

testing_below : (a : Kept) (s : _) (c : _) → Below (least (testing a s)) (least (comparing a s c))
testing_below a Input c = same _
testing_below a (Picked Stopping p) c = same _
testing_below a (Picked Resetting p) c = (omega arith, omega arith)

mark_goes : (b : Bool) (k : Stage Kept (Option ℕ)) (m : Mark) →
    Goes b k (λ b k. inner_mark (keep b) k m)
mark_goes b (opening c) Open = (refl, same _)
mark_goes b (opening c) _ = (refl, tt)
mark_goes b exp_opening Open = (refl, same _)
mark_goes b exp_opening _ = (refl, tt)
mark_goes b (based n) Close = (refl, same _)
mark_goes b (based n) Comma = (refl, same _)
mark_goes b (based n) _ = (refl, tt)
mark_goes b (closing a) Close = (refl, same _)
mark_goes b (closing a) _ = (refl, tt)
mark_goes b (dotted a) CollectAllWord = (refl, same _)
mark_goes b (dotted a) (MethodWord w) = (refl, same _)
mark_goes b (dotted a) _ = (refl, tt)
mark_goes b (method WhileInput a) Open = (refl, same _)
mark_goes b (method WhileOutput a) Open = (refl, same _)
mark_goes b (method Map a) Open = (refl, same _)
mark_goes b (method ResetWhen a) Open = (refl, same _)
mark_goes b (method w a) _ = (refl, tt)
mark_goes b (picking e a) (PieceWord p) = (refl, same _)
mark_goes b (picking Stopping a) (Comparison c) = (refl, same _)
mark_goes b (picking Resetting a) (Comparison c) = (refl, (omega arith, omega arith))
mark_goes b (picking e a) _ = (refl, tt)
mark_goes b (testing a s) (Comparison c) = (refl, testing_below a s c)
mark_goes b (testing a s) _ = (refl, tt)
mark_goes b (mapping a) (PieceWord p) = (refl, same _)
mark_goes b (mapping a) MergeWord = (refl, same _)
mark_goes b (mapping a) (ScaleWord g) = (refl, same _)
mark_goes b (mapping a) _ = (refl, tt)
mark_goes b _ m = (refl, tt)

number_goes : (b : Bool) (k : Stage Kept (Option ℕ)) (n : Option ℕ) →
    Goes b k (λ b k. inner_number (keep b) k n)
number_goes b (counting c) n = (refl, same _)
number_goes b exp_counting n = (refl, same _)
number_goes b (factored v) n = (refl, same _)
number_goes b (comparing a s c) n = (refl, same _)
number_goes b (scaling a g) n = (refl, same _)
number_goes b _ n = (refl, tt)

-- one more token opens at most one form, and takes no size away
pub record Grows (s t : State Kept (Option ℕ)) : Type 0 where
  pub nested : length t.frames ≤ 1 + length s.frames
  pub sizes : Below (whole s.frames (least s.stage)) (whole t.frames (least t.stage))

abbrev Steps : Bool → State Kept (Option ℕ) →
    (Bool → State Kept (Option ℕ) → Option (State Kept (Option ℕ))) → Type 0
Steps b s f = (f false (sizes_state s) ≡ option_map sizes_state (f true s))
    × IfSome (f b s) (Grows s)

-- the frames stay
within : (fs : List (Frame Kept)) (k : Stage Kept (Option ℕ))
    (x y z : Option (Stage Kept (Option ℕ))) → (x ≡ option_map sizes_stage y)
    × IfSome z (λ j. Below (least k) (least j))
    → (option_map (λ j. at (map sizes_frame fs) j) x
    ≡ option_map sizes_state (option_map (λ j. at fs j) y))
    × IfSome (option_map (λ j. at fs j) z) (Grows (at fs k))
within fs k x None None h = (ap (option_map (λ j. at (map sizes_frame fs) j)) h.0, tt)
within fs k x (Some y) None h = (ap (option_map (λ j. at (map sizes_frame fs) j)) h.0, tt)
within fs k x None (Some z) h = (
  ap (option_map (λ j. at (map sizes_frame fs) j))
      h.0,
  record { nested = omega arith; sizes = whole_below fs _ _ h.1 },
)
within fs k x (Some y) (Some z) h = (
  ap (option_map (λ j. at (map sizes_frame fs) j))
      h.0,
  record { nested = omega arith; sizes = whole_below fs _ _ h.1 },
)

join_goes : (b : Bool) (fs : List (Frame Kept)) (a : Kept) (m : Mark) →
    Steps b (at fs (after a)) (λ b s. step_mark (keep b) s.frames s.stage m)
join_goes b fs a Dot =
    (refl, record { nested = omega arith; sizes = whole_below fs _ _ (omega arith, omega arith) })
join_goes b (left ∷ fs) a (Operator i) =
    (refl, record { nested = omega arith; sizes = whole_below fs _ _ (omega arith, omega arith) })
join_goes b (right i a ∷ fs) c Close = (refl, record { nested = omega arith; sizes = same _ })
join_goes b [] a _ = (refl, tt)
join_goes b (left ∷ fs) a _ = (refl, tt)
join_goes b (right i c ∷ fs) a _ = (refl, tt)

start_goes : (b : Bool) (fs : List (Frame Kept)) (m : Mark) →
    Steps b (at fs start) (λ b s. step_mark (keep b) s.frames s.stage m)
start_goes b fs Open = (refl, record { nested = omega arith; sizes = same _ })
start_goes b fs m = within fs start (begin_leaf (keep false) m) (begin_leaf (keep true) m)
    (begin_leaf (keep b) m) (begin_goes b m)

all_goes : (b : Bool) (fs : List (Frame Kept)) (k : Stage Kept (Option ℕ)) (m : Mark) →
    Steps b (at fs k) (λ b s. step_mark (keep b) s.frames s.stage m)
all_goes b fs start m = start_goes b fs m
all_goes b fs (after a) m = join_goes b fs a m
all_goes b fs k m = within fs k (inner_mark (keep false) (sizes_stage k) m)
    (inner_mark (keep true) k m) (inner_mark (keep b) k m) (mark_goes b k m)

step_goes : (b : Bool) (s : State Kept (Option ℕ)) (t : Token) →
    Steps b s (λ b s. step (keep b) (Some s) t)
step_goes b s (number n) =
    within s.frames s.stage (inner_number (keep false) (sizes_stage s.stage) (fit n))
    (inner_number (keep true) s.stage (fit n)) (inner_number (keep b) s.stage (fit n))
    (number_goes b s.stage (fit n))
step_goes b s (mark m) = all_goes b s.frames s.stage m

-- the states without terms, from some state on
pub run_sizes : (s : Option (State Kept (Option ℕ))) (ts : List Token) →
    run (keep false) (option_map sizes_state s) ts ≡ option_map sizes_state (run (keep true) s ts)
run_sizes s [] = refl
run_sizes None (t ∷ ts) = run_sizes None ts
run_sizes (Some s) (t ∷ ts) =
    ap (λ o. run (keep false) o ts) (step_goes true s t).0
    ∙ run_sizes (step (keep true) (Some s) t) ts

-- a state that a token leads to
pub grows : (b : Bool) (s s' : State Kept (Option ℕ)) (t : Token) →
    step (keep b) (Some s) t ≡ Some s' → Grows s s'
grows b s s' t e = subst (λ o. IfSome o (Grows s)) e (step_goes b s t).1

-- the parser goes on as it was, or without terms
pub watches : (r old new : Bool) (fs gs : List (Frame Kept)) (k j : Stage Kept (Option ℕ))
    → (r ≡ false → (gs ≡ fs) × (new ≡ old)) → (r ≡ true → (old ≡ true) × (new ≡ false))
    → (r ≡ true → ArePast (whole fs (least k))) → (r ≡ true → gs ≡ map sizes_frame fs)
    → (r ≡ true → j ≡ sizes_stage k) → (r ≡ false → j ≡ k) → Watches old new (at fs k) (at gs j)
watches true old new fs gs k j same off past drops gone kept = inr (
  (off refl).0,
  (off refl).1,
  past refl,
  ap (λ x. at x j) (drops refl) ∙ ap (at (map sizes_frame fs)) (gone refl),
)
watches false old new fs gs k j same off past drops gone kept =
    inl ((same refl).1, ap (λ x. at x j) (same refl).0 ∙ ap (at fs) (kept refl))

least_sizes : (k : Stage Kept (Option ℕ)) → least (sizes_stage k) ≡ least k
least_sizes (closing a) = refl
least_sizes _ = refl

whole_sizes : (fs : List (Frame Kept)) (p : ℕ × ℕ) → whole (map sizes_frame fs) p ≡ whole fs p
whole_sizes [] p = refl
whole_sizes (left ∷ fs) p = whole_sizes fs p
whole_sizes (right i a ∷ fs) p = whole_sizes fs (join_sizes a p)

-- a state is past a limit also without its terms
pub sizes_past : (s : State Kept (Option ℕ)) → IsPast s → IsPast (sizes_state s)
sizes_past s h = subst ArePast
    (sym (ap (whole (map sizes_frame s.frames)) (least_sizes s.stage)
    ∙ whole_sizes s.frames (least s.stage))) h

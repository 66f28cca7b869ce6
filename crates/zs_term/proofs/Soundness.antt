-- Tokens that lead to the state after a whole term spell it.
use Rattle.std.proofs.Common.{◌≡◌, ℕ, List, [], ◌∷◌, ◌++◌, Option, Some, None, refl, sym, ap, ◌∙◌}
use Rattle.std.proofs.Common.{subst, append_assoc, inl, inr}
use Rattle.std.specs.Prelude.{option_map}
use Rattle.zs_term.specs.Schedule.{Schedule, leaf, two, over, plain, counted, exponential, both}
use Rattle.zs_term.specs.Schedule.{either, and_then, while_input, while_output, collect_all, mapped}
use Rattle.zs_term.specs.Schedule.{reset_when}
use Rattle.zs_term.specs.Token.{Token, number, mark}
use Rattle.zs_term.specs.Grammar.{with_number, with_numbers, with_infix, with_method, test_tokens}
use Rattle.zs_term.specs.Grammar.{pick_tokens, func_tokens, Spells}
use Rattle.zs_term.specs.Machine.{Make, Frame, left, right, Stage, start, opening, counting}
use Rattle.zs_term.specs.Machine.{exp_opening, exp_counting, based, factored, closing, after}
use Rattle.zs_term.specs.Machine.{dotted, method, picking, testing, comparing, mapping, scaling}
use Rattle.zs_term.specs.Machine.{State, at, argument, begin_leaf, open_mark, close_mark, base_mark}
use Rattle.zs_term.specs.Machine.{dot_mark, pick_mark, test_mark, map_mark, inner_mark}
use Rattle.zs_term.specs.Machine.{inner_number, operator_mark, join_mark, start_mark, after_mark}
use Rattle.zs_term.specs.Machine.{step_mark, step, run, piece_pick, piece_func, apply_func, value}
use Rattle.zs_term.specs.declared.token.Mark.{Mark}
use Rattle.zs_term.specs.declared.token.Mark.TheVariants.{PlainWord, CountedWord, ExponentialWord}
use Rattle.zs_term.specs.declared.token.Mark.TheVariants.{Operator, MethodWord, CollectAllWord}
use Rattle.zs_term.specs.declared.token.Mark.TheVariants.{Comparison, PieceWord, MergeWord}
use Rattle.zs_term.specs.declared.token.Mark.TheVariants.{ScaleWord, Open, Close, Comma, Dot}
use Rattle.zs_term.specs.declared.term.Cmp.{Cmp}
use Rattle.zs_term.specs.declared.term.Pick.TheVariants.{Whole as PickWhole}
use Rattle.zs_term.specs.declared.term.Func.{Func}
use Rattle.zs_term.specs.declared.term.Func.TheVariants.{Merge, Const, Add, Mul}
use Rattle.zs_term.specs.declared.forms.Plain.{Plain}
use Rattle.zs_term.specs.declared.forms.Counted.{Counted}
use Rattle.zs_term.specs.declared.forms.Infix.{Infix}
use Rattle.zs_term.specs.declared.forms.Infix.TheVariants.{Both, Either, AndThen}
use Rattle.zs_term.specs.declared.forms.Method.{Method}
use Rattle.zs_term.specs.declared.forms.Method.TheVariants.{WhileInput, WhileOutput, Map, ResetWhen}
use Rattle.zs_term.specs.declared.forms.Action.{Action}
use Rattle.zs_term.specs.declared.forms.Action.TheVariants.{Stopping, Resetting}
use Rattle.zs_term.specs.declared.forms.Subject.{Subject}
use Rattle.zs_term.specs.declared.forms.Subject.TheVariants.{Input, Picked}
use Rattle.zs_term.specs.declared.forms.Piece.{Piece}
use Rattle.zs_term.specs.declared.forms.Piece.TheVariants.{First as PieceFirst}
use Rattle.zs_term.specs.declared.forms.Piece.TheVariants.{Second as PieceSecond, Size as PieceSize}
use Rattle.zs_term.specs.declared.forms.Scale.{Scale}
use Rattle.zs_term.specs.declared.forms.Scale.TheVariants.{Constant, Plus, Times}
use Rattle.zs_term.proofs.Marks.{action_method, subject_tokens, mapped_from}
use Rattle.zs_term.proofs.Completeness.{append_nil}

module _ {A N : Type 0} (make : Make A N) where
  -- the tokens spell a term of this value
  record Stands (ts : List Token) (a : A) : Type 0 where
    term : Schedule
    spelled : Spells ts term
    is : value make term ≡ a

  -- a term of this value, followed by these tokens
  record Follows (a : A) (tail : List Token) (ts : List Token) : Type 0 where
    front : List Token
    stands : Stands front a
    whole : ts ≡ front ++ tail

  -- a number of this value, between these tokens
  record Counts (v : N) (before behind : List Token) (ts : List Token) : Type 0 where
    count : ℕ
    is : make.num count ≡ v
    whole : ts ≡ before ++ number count ∷ behind

  -- the tokens read before the innermost open place
  abbrev Before : List (Frame A) → List Token → Type 0
  Before [] ts = ts ≡ []
  Before (left ∷ fs) ts = (us : List Token) × Before fs us × (ts ≡ us ++ mark Open ∷ [])
  Before (right i a ∷ fs) ts = (us : List Token) × (x : List Token) × Before fs us × Stands x a
      × (ts ≡ us ++ mark Open ∷ (x ++ mark (Operator i) ∷ []))

  -- the tokens read since then
  abbrev Since : Stage A N → List Token → Type 0
  Since start ts = ts ≡ []
  Since (opening c) ts = ts ≡ mark (CountedWord c) ∷ []
  Since (counting c) ts = ts ≡ mark (CountedWord c) ∷ mark Open ∷ []
  Since exp_opening ts = ts ≡ mark ExponentialWord ∷ []
  Since exp_counting ts = ts ≡ mark ExponentialWord ∷ mark Open ∷ []
  Since (based v) ts = Counts v (mark ExponentialWord ∷ mark Open ∷ []) [] ts
  Since (factored v) ts = Counts v (mark ExponentialWord ∷ mark Open ∷ []) (mark Comma ∷ []) ts
  Since (closing a) ts = Stands (ts ++ mark Close ∷ []) a
  Since (after a) ts = Stands ts a
  Since (dotted a) ts = Follows a (mark Dot ∷ []) ts
  Since (method k a) ts = Follows a (mark Dot ∷ mark (MethodWord k) ∷ []) ts
  Since (picking e a) ts =
      Follows a (mark Dot ∷ mark (MethodWord (action_method e)) ∷ mark Open ∷ []) ts
  Since (testing a s) ts = Follows a (subject_tokens s) ts
  Since (comparing a s c) ts = Follows a (subject_tokens s ++ mark (Comparison c) ∷ []) ts
  Since (mapping a) ts = Follows a (mark Dot ∷ mark (MethodWord Map) ∷ mark Open ∷ []) ts
  Since (scaling a g) ts =
      Follows a (mark Dot ∷ mark (MethodWord Map) ∷ mark Open ∷ mark (ScaleWord g) ∷ []) ts

  stands_plain : (p : Plain) → Stands (mark (PlainWord p) ∷ []) (make.plain p)
  stands_plain p = record { term = leaf (plain p); spelled = refl; is = refl }

  stands_counted : (c : Counted) (n : ℕ) →
      Stands (with_number (CountedWord c) n) (make.counted c (make.num n))
  stands_counted c n = record { term = leaf (counted c n); spelled = refl; is = refl }

  stands_join : (i : Infix) (x y : List Token) (a b : A) → Stands x a → Stands y b →
      Stands (with_infix x (Operator i) y) (make.join i a b)
  stands_join Both x y a b h k = record {
    term = two both h.term k.term;
    spelled = (x, y, h.spelled, k.spelled, refl);
    is = ap (λ v. make.join Both v (value make k.term)) h.is ∙ ap (make.join Both a) k.is;
  }
  stands_join Either x y a b h k = record {
    term = two either h.term k.term;
    spelled = (x, y, h.spelled, k.spelled, refl);
    is = ap (λ v. make.join Either v (value make k.term)) h.is ∙ ap (make.join Either a) k.is;
  }
  stands_join AndThen x y a b h k = record {
    term = two and_then h.term k.term;
    spelled = (x, y, h.spelled, k.spelled, refl);
    is = ap (λ v. make.join AndThen v (value make k.term)) h.is ∙ ap (make.join AndThen a) k.is;
  }

  stands_test : (s : Subject) (x : List Token) (a : A) (c : Cmp) (n : ℕ) → Stands x a →
      Stands (x ++ (subject_tokens s ++ (mark (Comparison c) ∷ number n ∷ mark Close ∷ [])))
      (make.test a s c (make.num n))
  stands_test Input x a c n h =
      record {
        term = over h.term (while_input (record { cmp = c; than = n }));
        spelled = (x, h.spelled, refl);
        is = ap (λ v. make.test v Input c (make.num n)) h.is;
      }
  stands_test (Picked Stopping p) x a c n h =
      record {
        term = over h.term (while_output p (record { cmp = c; than = n }));
        spelled = (
          x,
          h.spelled,
          ap (λ w. x ++ mark Dot ∷ mark (MethodWord WhileOutput) ∷ mark Open
              ∷ w) (sym (append_assoc (pick_tokens p) (test_tokens (record { cmp = c; than = n }))
              (mark Close ∷ []))),
        );
        is = ap (λ v. make.test v (Picked Stopping p) c (make.num n)) h.is;
      }
  stands_test (Picked Resetting p) x a c n h =
      record {
        term = over h.term (reset_when p (record { cmp = c; than = n }));
        spelled = (
          x,
          h.spelled,
          ap (λ w. x ++ mark Dot ∷ mark (MethodWord ResetWhen) ∷ mark Open
              ∷ w) (sym (append_assoc (pick_tokens p) (test_tokens (record { cmp = c; than = n }))
              (mark Close ∷ []))),
        );
        is = ap (λ v. make.test v (Picked Resetting p) c (make.num n)) h.is;
      }

  stands_collect : (x : List Token) (a : A) → Stands x a →
      Stands (x ++ mark Dot ∷ mark CollectAllWord ∷ []) (make.collect a)
  stands_collect x a h = record {
    term = over h.term collect_all;
    spelled = (x, h.spelled, refl);
    is = ap make.collect h.is;
  }

  stands_map : (f : Func) (x : List Token) (a : A) → Stands x a →
      Stands (x ++ with_method Map (func_tokens f)) (apply_func make a f)
  stands_map f x a h = record {
    term = over h.term (mapped f);
    spelled = (x, h.spelled, refl);
    is = ap (λ v. apply_func make v f) h.is;
  }

  stands_scale : (g : Scale) (n : ℕ) (x : List Token) (a : A) → Stands x a →
      Stands (x ++ mark Dot ∷ mark (MethodWord Map) ∷ mark Open ∷ mark (ScaleWord g) ∷ number n
      ∷ mark Close ∷ []) (make.scale a g (make.num n))
  stands_scale Constant n x a h = stands_map (Const n) x a h
  stands_scale Plus n x a h = stands_map (Add n) x a h
  stands_scale Times n x a h = stands_map (Mul n) x a h

  stands_piece : (p : Piece) (x : List Token) (a : A) → Stands x a →
      Stands (x ++ mark Dot ∷ mark (MethodWord Map) ∷ mark Open ∷ mark (PieceWord p) ∷ mark Close
      ∷ []) (make.apply a (piece_func p))
  stands_piece PieceFirst x a h = stands_map (piece_func PieceFirst) x a h
  stands_piece PieceSecond x a h = stands_map (piece_func PieceSecond) x a h
  stands_piece PieceSize x a h = stands_map (piece_func PieceSize) x a h

  stands_growing : (b f : ℕ) →
      Stands (with_numbers ExponentialWord b f) (make.growing (make.num b) (make.num f))
  stands_growing b f = record { term = leaf (exponential b f); spelled = inr refl; is = refl }

  stands_doubling : (b : ℕ) →
      Stands (with_number ExponentialWord b) (make.growing (make.num b) (make.num 2))
  stands_doubling b =
      record { term = leaf (exponential b 2); spelled = inl (refl, refl); is = refl }

  -- a term followed by one more token
  longer : (a : A) (tail ts : List Token) (t : Token) → Follows a tail ts →
      Follows a (tail ++ t ∷ []) (ts ++ t ∷ [])
  longer a tail ts t h = record {
    front = h.front;
    stands = h.stands;
    whole = ap (λ w. w ++ t ∷ []) h.whole ∙ append_assoc h.front tail (t ∷ []);
  }

  -- the same for an equal tail
  as_tail : (a : A) (tail tail' ts : List Token) → tail ≡ tail' → Follows a tail ts →
      Follows a tail' ts
  as_tail a tail tail' ts e h = subst (λ w. Follows a w ts) e h

  stands_as : (ts us : List Token) (a : A) → ts ≡ us → Stands us a → Stands ts a
  stands_as ts us a e h = subst (λ w. Stands w a) (sym e) h

  to_stage : (k k' : Stage A N) (ts : List Token) → k ≡ k' → Since k ts → Since k' ts
  to_stage k k' ts e h = subst (λ v. Since v ts) e h

  end_of : List Token → Token → List Token
  end_of ts t = ts ++ t ∷ []

  -- a token that the stage allows leads to the next stage
  since_begin : (m : Mark) (k : Stage A N) (ts : List Token) → Since start ts →
      begin_leaf make m ≡ Some k → Since k (ts ++ mark m ∷ [])
  since_begin (PlainWord p) k ts s h = let e : after (make.plain p) ≡ k = cc in
      to_stage _ k _ e (stands_as _ (mark (PlainWord p) ∷ []) _
      (ap (λ w. w ++ mark (PlainWord p) ∷ []) s) (stands_plain p))
  since_begin (CountedWord c) k ts s h = let e : opening c ≡ k = cc in
      to_stage _ k _ e (ap (λ w. w ++ mark (CountedWord c) ∷ []) s)
  since_begin ExponentialWord k ts s h = let e : exp_opening ≡ k = cc in
      to_stage _ k _ e (ap (λ w. w ++ mark ExponentialWord ∷ []) s)
  since_begin _ k ts s h = absurd cc

  since_argument : (w : Method) (a : A) (ts : List Token) →
      Follows a (mark Dot ∷ mark (MethodWord w) ∷ mark Open ∷ []) ts → Since (argument w a) ts
  since_argument WhileInput a ts h = h
  since_argument WhileOutput a ts h = h
  since_argument Map a ts h = h
  since_argument ResetWhen a ts h = h

  since_open : (next : Stage A N) (m : Mark) (k : Stage A N) (ts : List Token) →
      Since next (ts ++ mark Open ∷ []) → open_mark next m ≡ Some k → Since k (ts ++ mark m ∷ [])
  since_open next Open k ts s h = let e : next ≡ k = cc in to_stage next k _ e s
  since_open next _ k ts s h = absurd cc

  since_close : (next : Stage A N) (m : Mark) (k : Stage A N) (ts : List Token) →
      Since next (ts ++ mark Close ∷ []) → close_mark next m ≡ Some k → Since k (ts ++ mark m ∷ [])
  since_close next Close k ts s h = let e : next ≡ k = cc in to_stage next k _ e s
  since_close next _ k ts s h = absurd cc

  since_base : (v : N) (m : Mark) (k : Stage A N) (ts : List Token) → Since (based v) ts →
      base_mark make v m ≡ Some k → Since k (ts ++ mark m ∷ [])
  since_base v Close k ts s h =
      let e : after (make.growing v (make.num 2)) ≡ k = cc in
      to_stage _ k _ e
      (subst (λ w. Stands (ts ++ mark Close ∷ []) (make.growing w (make.num 2))) s.is
      (stands_as _ (with_number ExponentialWord s.count) _ (ap (λ w. w ++ mark Close ∷ []) s.whole)
      (stands_doubling s.count)))
  since_base v Comma k ts s h =
      let e : factored v ≡ k = cc in
      to_stage _ k _ e
      (record { count = s.count; is = s.is; whole = ap (λ w. w ++ mark Comma ∷ []) s.whole })
  since_base v _ k ts s h = absurd cc

  since_dot : (a : A) (m : Mark) (k : Stage A N) (ts : List Token) → Since (dotted a) ts →
      dot_mark make a m ≡ Some k → Since k (ts ++ mark m ∷ [])
  unfolding longer
  since_dot a CollectAllWord k ts s h =
      let e : after (make.collect a) ≡ k = cc in
      to_stage _ k _ e (stands_as _ _ _ (longer a _ ts (mark CollectAllWord) s).whole
      (stands_collect s.front a s.stands))
  since_dot a (MethodWord w) k ts s h = let e : method w a ≡ k = cc in
      to_stage _ k _ e (longer a (mark Dot ∷ []) ts (mark (MethodWord w)) s)
  since_dot a _ k ts s h = absurd cc

  as_pick : (p : Piece) → mark (PieceWord p) ∷ [] ≡ pick_tokens (piece_pick p)
  as_pick PieceFirst = refl
  as_pick PieceSecond = refl
  as_pick PieceSize = refl

  since_pick : (e : Action) (a : A) (m : Mark) (k : Stage A N) (ts : List Token) →
      Since (picking e a) ts → pick_mark e a m ≡ Some k → Since k (ts ++ mark m ∷ [])
  since_pick e a (PieceWord p) k ts s h =
      let f : testing a (Picked e (piece_pick p)) ≡ k = cc in
      let front = mark Dot ∷ mark (MethodWord (action_method e)) ∷ mark Open ∷ [] in
      to_stage _ k _ f (as_tail a _ _ _ (ap (λ w. front ++ w) (as_pick p))
      (longer a front ts (mark (PieceWord p)) s))
  since_pick e a (Comparison c) k ts s h =
      let f : comparing a (Picked e PickWhole) c ≡ k = cc in
      to_stage _ k _ f (longer a (mark Dot ∷ mark (MethodWord (action_method e)) ∷ mark Open ∷ [])
      ts (mark (Comparison c)) s)
  since_pick e a _ k ts s h = absurd cc

  since_test : (a : A) (j : Subject) (m : Mark) (k : Stage A N) (ts : List Token) →
      Since (testing a j) ts → test_mark a j m ≡ Some k → Since k (ts ++ mark m ∷ [])
  since_test a j (Comparison c) k ts s h = let e : comparing a j c ≡ k = cc in
      to_stage _ k _ e (longer a (subject_tokens j) ts (mark (Comparison c)) s)
  since_test a j _ k ts s h = absurd cc

  since_map : (a : A) (m : Mark) (k : Stage A N) (ts : List Token) → Since (mapping a) ts →
      map_mark make a m ≡ Some k → Since k (ts ++ mark m ∷ [])
  unfolding longer
  since_map a (PieceWord p) k ts s h =
      let e : closing (make.apply a (piece_func p)) ≡ k = cc in
      to_stage _ k _ e
      (stands_as _ _ _ (longer a _ _ (mark Close) (longer a _ ts (mark (PieceWord p)) s)).whole
      (stands_piece p s.front a s.stands))
  since_map a MergeWord k ts s h =
      let e : closing (make.apply a Merge) ≡ k = cc in
      to_stage _ k _ e
      (stands_as _ _ _ (longer a _ _ (mark Close) (longer a _ ts (mark MergeWord) s)).whole
      (stands_map Merge s.front a s.stands))
  since_map a (ScaleWord g) k ts s h =
      let e : scaling a g ≡ k = cc in
      to_stage _ k _ e (longer a (mark Dot ∷ mark (MethodWord Map) ∷ mark Open ∷ []) ts
      (mark (ScaleWord g)) s)
  since_map a _ k ts s h = absurd cc

  since_mark : (j : Stage A N) (m : Mark) (k : Stage A N) (ts : List Token) → Since j ts →
      inner_mark make j m ≡ Some k → Since k (ts ++ mark m ∷ [])
  since_mark (opening c) m k ts s h =
      since_open (counting c) m k ts (ap (λ w. w ++ mark Open ∷ []) s) h
  since_mark exp_opening m k ts s h =
      since_open exp_counting m k ts (ap (λ w. w ++ mark Open ∷ []) s) h
  since_mark (based v) m k ts s h = since_base v m k ts s h
  since_mark (closing a) m k ts s h = since_close (after a) m k ts s h
  since_mark (dotted a) m k ts s h = since_dot a m k ts s h
  since_mark (method w a) m k ts s h = since_open (argument w a) m k ts (since_argument w a _
      (longer a (mark Dot ∷ mark (MethodWord w) ∷ []) ts (mark Open) s)) h
  since_mark (picking e a) m k ts s h = since_pick e a m k ts s h
  since_mark (testing a j) m k ts s h = since_test a j m k ts s h
  since_mark (mapping a) m k ts s h = since_map a m k ts s h
  since_mark _ m k ts s h = absurd cc

  since_number : (j : Stage A N) (n : ℕ) (k : Stage A N) (ts : List Token) → Since j ts →
      inner_number make j (make.num n) ≡ Some k → Since k (ts ++ number n ∷ [])
  unfolding longer
  since_number (counting c) n k ts s h =
      let e : closing (make.counted c (make.num n)) ≡ k = cc in
      to_stage _ k _ e (stands_as _ (with_number (CountedWord c) n) _
      (ap (λ w. (w ++ number n ∷ []) ++ mark Close ∷ []) s) (stands_counted c n))
  since_number exp_counting n k ts s h =
      let e : based (make.num n) ≡ k = cc in
      to_stage _ k _ e (record { count = n; is = refl; whole = ap (λ w. w ++ number n ∷ []) s })
  since_number (factored v) n k ts s h =
      let e : closing (make.growing v (make.num n)) ≡ k = cc in
      to_stage _ k _ e
      (subst (λ w. Stands ((ts ++ number n ∷ []) ++ mark Close ∷ [])
      (make.growing w (make.num n))) s.is
      (stands_as _ (with_numbers ExponentialWord s.count n) _
      (ap (λ w. (w ++ number n ∷ []) ++ mark Close ∷ []) s.whole) (stands_growing s.count n)))
  since_number (comparing a j c) n k ts s h =
      let e : closing (make.test a j c (make.num n)) ≡ k = cc in
      let whole = (longer a _ _ (mark Close) (longer a _ ts (number n) s)).whole in
      let shape : (ts ++ number n ∷ []) ++ mark Close ∷ []
      ≡ s.front ++ (subject_tokens j ++ (mark (Comparison c) ∷ number n ∷ mark Close ∷ [])) =
      whole ∙ ap (λ w. s.front ++ w)
      (ap (λ w. w ++ mark Close ∷ [])
      (append_assoc (subject_tokens j) (mark (Comparison c) ∷ []) (number n ∷ []))
      ∙ append_assoc (subject_tokens j) (mark (Comparison c) ∷ number n ∷ [])
      (mark Close ∷ [])) in
      to_stage _ k _ e (stands_as _ _ _ shape (stands_test j s.front a c n s.stands))
  since_number (scaling a g) n k ts s h =
      let e : closing (make.scale a g (make.num n)) ≡ k = cc in
      to_stage _ k _ e
      (stands_as _ _ _ (longer a _ _ (mark Close) (longer a _ ts (number n) s)).whole
      (stands_scale g n s.front a s.stands))
  since_number _ n k ts s h = absurd cc

  record ReadsTo (x : State A N) (ts : List Token) : Type 0 where
    before : List Token
    since : List Token
    front : Before x.frames before
    back : Since x.stage since
    whole : ts ≡ before ++ since

  -- one more token after the innermost frame
  further : (fs : List (Frame A)) (j k : Stage A N) (ts : List Token) (t : Token)
      (r : ReadsTo (at fs j) ts) → Since k (r.since ++ t ∷ []) → ReadsTo (at fs k) (ts ++ t ∷ [])
  further fs j k ts t r h = record {
    before = r.before;
    since = r.since ++ t ∷ [];
    front = r.front;
    back = h;
    whole = ap (λ w. w ++ t ∷ []) r.whole ∙ append_assoc r.before r.since (t ∷ []);
  }

  -- a new frame
  framed : (fs : List (Frame A)) (ts us : List Token) → Before fs us → ts ≡ us →
      ReadsTo (at fs start) ts
  framed fs ts us h e = record {
    before = us;
    since = [];
    front = h;
    back = refl;
    whole = e ∙ sym (append_nil us);
  }

  -- after `(S`
  step_operator : (fs : List (Frame A)) (a : A) (m : Mark) (x : State A N) (ts : List Token) →
      ReadsTo (at (left ∷ fs) (after a)) ts → operator_mark fs a m ≡ Some x →
      ReadsTo x (ts ++ mark m ∷ [])
  step_operator fs a (Operator i) x ts r h =
      let us = r.front.0 in
      let e : at (right i a ∷ fs) start ≡ x = cc in
      let shape : ts ++ mark (Operator i) ∷ []
      ≡ us ++ mark Open ∷ (r.since ++ mark (Operator i) ∷ []) =
      ap (λ w. w ++ mark (Operator i) ∷ []) r.whole
      ∙ ap (λ w. (w ++ r.since) ++ mark (Operator i) ∷ []) r.front.2 ∙ simp append_assoc in
      subst (λ v. ReadsTo v (ts ++ mark (Operator i) ∷ [])) e
      (framed (right i a ∷ fs) (ts ++ mark (Operator i) ∷ []) _
      (us, r.since, r.front.1, r.back, refl) shape)
  step_operator fs a _ x ts r h = absurd cc

  -- after `(S op S`
  step_closed : (i : Infix) (fs : List (Frame A)) (a b : A) (m : Mark) (x : State A N)
      (ts : List Token) → ReadsTo (at (right i a ∷ fs) (after b)) ts →
      option_map (λ k. at fs k) (close_mark (after (make.join i a b)) m) ≡ Some x →
      ReadsTo x (ts ++ mark m ∷ [])
  step_closed i fs a b Close x ts r h =
      let us = r.front.0 in
      let l = r.front.1 in
      let e : at fs (after (make.join i a b)) ≡ x = cc in
      let whole : ts ++ mark Close ∷ [] ≡ us ++ with_infix l (Operator i) r.since =
      ap (λ w. w ++ mark Close ∷ []) r.whole ∙ ap (λ w. (w ++ r.since) ++ mark Close ∷ []) r.front.4
      ∙ simp append_assoc in
      subst (λ v. ReadsTo v (ts ++ mark Close ∷ [])) e
      (record {
        before = us;
        since = with_infix l (Operator i) r.since;
        front = r.front.2;
        back = stands_join i l r.since a b r.front.3 r.back;
        whole = whole;
      })
  step_closed i fs a b _ x ts r h = absurd cc

  step_join : (fs : List (Frame A)) (a : A) (m : Mark) (x : State A N) (ts : List Token) →
      ReadsTo (at fs (after a)) ts → join_mark make fs a m ≡ Some x → ReadsTo x (ts ++ mark m ∷ [])
  step_join [] a m x ts r h = absurd cc
  step_join (left ∷ fs) a m x ts r h = step_operator fs a m x ts r h
  step_join (right i a ∷ fs) b m x ts r h = step_closed i fs a b m x ts r h

  step_within : (fs : List (Frame A)) (j : Stage A N) (m : Mark) (x : State A N) (ts : List Token) →
      ReadsTo (at fs j) ts → option_map (λ k. at fs k) (inner_mark make j m) ≡ Some x →
      ReadsTo x (ts ++ mark m ∷ [])
  step_within fs j m x ts r h =
      let took = mapped_from (λ k. at fs k) (inner_mark make j m) x h in
      subst (λ v. ReadsTo v (ts ++ mark m ∷ [])) took.2
      (further fs j took.0 ts (mark m) r (since_mark j m took.0 r.since r.back took.1))

  step_begin : (fs : List (Frame A)) (m : Mark) (x : State A N) (ts : List Token) →
      ReadsTo (at fs start) ts → option_map (λ k. at fs k) (begin_leaf make m) ≡ Some x →
      ReadsTo x (ts ++ mark m ∷ [])
  step_begin fs m x ts r h =
      let took = mapped_from (λ k. at fs k) (begin_leaf make m) x h in
      subst (λ v. ReadsTo v (ts ++ mark m ∷ [])) took.2
      (further fs start took.0 ts (mark m) r (since_begin m took.0 r.since r.back took.1))

  step_start : (fs : List (Frame A)) (m : Mark) (x : State A N) (ts : List Token) →
      ReadsTo (at fs start) ts → start_mark make fs m ≡ Some x → ReadsTo x (ts ++ mark m ∷ [])
  step_start fs Open x ts r h =
      let e : at (left ∷ fs) start ≡ x = cc in
      let at_start : ts ≡ r.before =
      r.whole ∙ ap (λ w. r.before ++ w) r.back ∙ append_nil r.before in
      subst (λ v. ReadsTo v (ts ++ mark Open ∷ [])) e
      (framed (left ∷ fs) (ts ++ mark Open ∷ []) (r.before ++ mark Open ∷ [])
      (r.before, r.front, refl) (ap (λ w. w ++ mark Open ∷ []) at_start))
  step_start fs m x ts r h = step_begin fs m x ts r h

  step_after : (fs : List (Frame A)) (a : A) (m : Mark) (x : State A N) (ts : List Token) →
      ReadsTo (at fs (after a)) ts → after_mark make fs a m ≡ Some x → ReadsTo x (ts ++ mark m ∷ [])
  step_after fs a Dot x ts r h =
      let e : at fs (dotted a) ≡ x = cc in
      subst (λ v. ReadsTo v (ts ++ mark Dot ∷ [])) e (further fs (after a) (dotted a) ts (mark Dot)
      r (record { front = r.since; stands = r.back; whole = refl }))
  step_after fs a m x ts r h = step_join fs a m x ts r h

  step_marks : (fs : List (Frame A)) (j : Stage A N) (m : Mark) (x : State A N) (ts : List Token) →
      ReadsTo (at fs j) ts → step_mark make fs j m ≡ Some x → ReadsTo x (ts ++ mark m ∷ [])
  step_marks fs start m x ts r h = step_start fs m x ts r h
  step_marks fs (after a) m x ts r h = step_after fs a m x ts r h
  step_marks fs j m x ts r h = step_within fs j m x ts r h

  step_reads : (x y : State A N) (t : Token) (ts : List Token) → ReadsTo x ts →
      step make (Some x) t ≡ Some y → ReadsTo y (ts ++ t ∷ [])
  step_reads x y (number n) ts r h =
      let took = mapped_from (λ k. at x.frames k) (inner_number make x.stage (make.num n)) y h in
      subst (λ v. ReadsTo v (ts ++ number n ∷ [])) took.2 (further x.frames x.stage took.0 ts
      (number n) r (since_number x.stage n took.0 r.since r.back took.1))
  step_reads x y (mark m) ts r h = step_marks x.frames x.stage m y ts r h

  -- the tokens that led to a state, if there is one
  abbrev ReadsAny : Option (State A N) → List Token → Type 0
  ReadsAny None ts = Unit {0}
  ReadsAny (Some s) ts = ReadsTo s ts

  step_any : (o : Option (State A N)) (t : Token) (ts : List Token) → ReadsAny o ts →
      ReadsAny (step make o t) (ts ++ t ∷ [])
  step_any None t ts r = tt
  step_any (Some s) t ts r = go (step make (Some s) t) refl where
    go : (o : Option (State A N)) → step make (Some s) t ≡ o → ReadsAny o (ts ++ t ∷ [])
    go None e = tt
    go (Some v) e = step_reads s v t ts r e

  reads : (us : List Token) (o : Option (State A N)) (ts : List Token) → ReadsAny o ts →
      ReadsAny (run make o us) (ts ++ us)
  reads [] o ts r = subst (ReadsAny o) (sym (append_nil ts)) r
  reads (t ∷ us) o ts r =
      subst (ReadsAny (run make (step make o t) us)) (append_assoc ts (t ∷ []) us)
      (reads us (step make o t) (ts ++ t ∷ []) (step_any o t ts r))

  reads_from_start : (ts : List Token) (s : State A N) → run make (Some (at [] start)) ts ≡ Some s →
      ReadsTo s ts
  reads_from_start ts s h =
      let first : ReadsTo (at [] start) [] = record {
        before = [];
        since = [];
        front = refl;
        back = refl;
        whole = refl;
      } in
      subst (λ o. ReadsAny o ts) h (reads ts (Some (at [] start)) [] first)

  -- tokens that lead to a whole term spell it
  pub sound : (ts : List Token) (a : A) →
      run make (Some (at [] start)) ts ≡ Some (at [] (after a)) →
      (t : Schedule) × Spells ts t × (value make t ≡ a)
  sound ts a h =
      let r = reads_from_start ts (at [] (after a)) h in
      let same : r.since ≡ ts = sym (r.whole ∙ ap (λ w. w ++ r.since) r.front) in
      (r.back.term, subst (λ w. Spells w r.back.term) same r.back.spelled, r.back.is)

-- The state after some tokens determines which tokens may come.
use Rattle.std.proofs.Common.{◌≡◌, ℕ, List, [], ◌∷◌, ◌++◌, Some, None, refl, sym, ap, ◌∙◌}
use Rattle.zs_term.specs.Schedule.{Schedule, leaf, two, over, Leaf, plain, counted, exponential}
use Rattle.zs_term.specs.Schedule.{Pairing, both, either, and_then, Modifier, while_input}
use Rattle.zs_term.specs.Schedule.{while_output, collect_all, mapped, reset_when}
use Rattle.zs_term.specs.Token.{Token, number, mark}
use Rattle.zs_term.specs.Grammar.{Spells, IsOpen}
use Rattle.zs_term.specs.Machine.{Make, Frame, left, right, Stage, start, opening, counting}
use Rattle.zs_term.specs.Machine.{exp_opening, exp_counting, based, factored, closing, after}
use Rattle.zs_term.specs.Machine.{dotted, method, picking, testing, comparing, mapping, scaling}
use Rattle.zs_term.specs.Machine.{State, at, argument, run, apply_func, leaf_value, pairing_infix}
use Rattle.zs_term.specs.Machine.{modifier_value, value, infix_pairing, plant}
use Rattle.zs_term.specs.declared.token.Mark.TheVariants.{PlainWord, CollectAllWord, Operator}
use Rattle.zs_term.specs.declared.token.Mark.TheVariants.{Comparison, ScaleWord, Open, Close}
use Rattle.zs_term.specs.declared.term.Cmp.{Cmp}
use Rattle.zs_term.specs.declared.term.Cmp.TheVariants.{Lt}
use Rattle.zs_term.specs.declared.term.Pick.TheVariants.{Whole as PickWhole}
use Rattle.zs_term.specs.declared.term.Func.{Func}
use Rattle.zs_term.specs.declared.term.Func.TheVariants.{First, Second, Size, Merge, Const, Add}
use Rattle.zs_term.specs.declared.term.Func.TheVariants.{Mul}
use Rattle.zs_term.specs.declared.forms.Plain.TheVariants.{Forever}
use Rattle.zs_term.specs.declared.forms.Infix.TheVariants.{Both}
use Rattle.zs_term.specs.declared.forms.Method.{Method}
use Rattle.zs_term.specs.declared.forms.Method.TheVariants.{WhileInput, WhileOutput, Map, ResetWhen}
use Rattle.zs_term.specs.declared.forms.Action.{Action}
use Rattle.zs_term.specs.declared.forms.Action.TheVariants.{Stopping, Resetting}
use Rattle.zs_term.specs.declared.forms.Subject.{Subject}
use Rattle.zs_term.specs.declared.forms.Subject.TheVariants.{Input, Picked}
use Rattle.zs_term.specs.declared.forms.Scale.{Scale}
use Rattle.zs_term.specs.declared.forms.Scale.TheVariants.{Plus}
use Rattle.zs_term.proofs.Completeness.{append_nil, run_append, run_none, complete}
use Rattle.zs_term.proofs.Soundness.{sound}

module _ {A N : Type 0} (make : Make A N) where
  -- tokens that lead from the state to a whole term
  record Ends (s : State A N) : Type 0 where
    rest : List Token
    term : A
    goes : run make (Some s) rest ≡ Some (at [] (after term))

  -- some tokens, and then those that lead to a whole term
  first_then : (s s' : State A N) (ts : List Token) → run make (Some s) ts ≡ Some s' →
      Ends s' → Ends s
  first_then s s' ts h e = record {
    rest = ts ++ e.rest;
    term = e.term;
    goes = run_append make (Some s) ts e.rest ∙ ap (λ o. run make o e.rest) h ∙ e.goes;
  }

  ends_after : (fs : List (Frame A)) (a : A) → Ends (at fs (after a))
  ends_after [] a = record { rest = []; term = a; goes = refl }
  ends_after (left ∷ fs) a = first_then _ _ (mark (Operator Both) ∷ mark (PlainWord Forever)
      ∷ mark Close ∷ []) refl (ends_after fs (make.join Both a (make.plain Forever)))
  ends_after (right i a ∷ fs) b =
      first_then _ _ (mark Close ∷ []) refl (ends_after fs (make.join i a b))

  ends_test : (fs : List (Frame A)) (a : A) (s : Subject) (c : Cmp) → Ends (at fs (comparing a s c))
  ends_test fs a s c =
      first_then _ _ (number 0 ∷ mark Close ∷ []) refl
      (ends_after fs (make.test a s c (make.num 0)))

  ends_scale : (fs : List (Frame A)) (a : A) (g : Scale) → Ends (at fs (scaling a g))
  ends_scale fs a g = first_then _ _ (number 0 ∷ mark Close ∷ []) refl
      (ends_after fs (make.scale a g (make.num 0)))

  ends_testing : (fs : List (Frame A)) (a : A) (s : Subject) → Ends (at fs (testing a s))
  ends_testing fs a s = first_then _ _ (mark (Comparison Lt) ∷ []) refl (ends_test fs a s Lt)

  ends_picking : (fs : List (Frame A)) (e : Action) (a : A) → Ends (at fs (picking e a))
  ends_picking fs e a =
      first_then _ _ (mark (Comparison Lt) ∷ []) refl (ends_test fs a (Picked e PickWhole) Lt)

  ends_mapping : (fs : List (Frame A)) (a : A) → Ends (at fs (mapping a))
  ends_mapping fs a = first_then _ _ (mark (ScaleWord Plus) ∷ []) refl (ends_scale fs a Plus)

  ends_argument : (fs : List (Frame A)) (w : Method) (a : A) → Ends (at fs (argument w a))
  ends_argument fs WhileInput a = ends_testing fs a Input
  ends_argument fs WhileOutput a = ends_picking fs Stopping a
  ends_argument fs Map a = ends_mapping fs a
  ends_argument fs ResetWhen a = ends_picking fs Resetting a

  ends_at : (fs : List (Frame A)) (k : Stage A N) → Ends (at fs k)
  ends_at fs start = first_then _ _ (mark (PlainWord Forever) ∷ []) refl
      (ends_after fs (make.plain Forever))
  ends_at fs (opening u) =
      first_then _ _ (mark Open ∷ number 0 ∷ mark Close ∷ []) refl
      (ends_after fs (make.counted u (make.num 0)))
  ends_at fs (counting u) =
      first_then _ _ (number 0 ∷ mark Close ∷ []) refl (ends_after fs (make.counted u (make.num 0)))
  ends_at fs exp_opening =
      first_then _ _ (mark Open ∷ number 0 ∷ mark Close ∷ []) refl
      (ends_after fs (make.growing (make.num 0) (make.num 2)))
  ends_at fs exp_counting =
      first_then _ _ (number 0 ∷ mark Close ∷ []) refl
      (ends_after fs (make.growing (make.num 0) (make.num 2)))
  ends_at fs (based v) =
      first_then _ _ (mark Close ∷ []) refl (ends_after fs (make.growing v (make.num 2)))
  ends_at fs (factored v) =
      first_then _ _ (number 0 ∷ mark Close ∷ []) refl (ends_after fs (make.growing v (make.num 0)))
  ends_at fs (closing a) = first_then _ _ (mark Close ∷ []) refl (ends_after fs a)
  ends_at fs (after a) = ends_after fs a
  ends_at fs (dotted a) =
      first_then _ _ (mark CollectAllWord ∷ []) refl (ends_after fs (make.collect a))
  ends_at fs (method w a) = first_then _ _ (mark Open ∷ []) refl (ends_argument fs w a)
  ends_at fs (picking e a) = ends_picking fs e a
  ends_at fs (testing a s) = ends_testing fs a s
  ends_at fs (comparing a s c) = ends_test fs a s c
  ends_at fs (mapping a) = ends_mapping fs a
  ends_at fs (scaling a g) = ends_scale fs a g

  -- tokens that lead to a state begin a spelling
  pub goes_on : (ts : List Token) (s : State A N) → run make (Some (at [] start)) ts ≡ Some s →
      IsOpen ts
  unfolding first_then
  goes_on ts s h =
      let e = first_then (at [] start) s ts h (ends_at s.frames s.stage) in
      let t = sound make e.rest e.term e.goes in
      ((ends_at s.frames s.stage).rest, t.0, t.1)

  -- the state after a whole spelling
  pub spells_to : (ts : List Token) (t : Schedule) → Spells ts t →
      run make (Some (at [] start)) ts ≡ Some (at [] (after (value make t)))
  spells_to ts t h = ap (run make (Some (at [] start))) (sym (append_nil ts))
      ∙ complete make t ts h [] []

  -- tokens that lead to no state don't begin a spelling
  pub goes_nowhere : (ts : List Token) → run make (Some (at [] start)) ts ≡ None → IsOpen ts → ⊥
  goes_nowhere ts h o =
      let e = spells_to (ts ++ o.0) o.1 o.2 in
      let n = run_append make (Some (at [] start)) ts o.0 ∙ ap (λ s. run make s o.0) h
      ∙ run_none make o.0 in
      let never : None ≡ Some (at [] (after (value make o.1))) = sym n ∙ e in
      cc

planted_leaf : (l : Leaf) → leaf_value plant l ≡ leaf l
planted_leaf (plain p) = refl
planted_leaf (counted c n) = refl
planted_leaf (exponential b f) = refl

pub planted_pair : (p : Pairing) → infix_pairing (pairing_infix p) ≡ p
planted_pair both = refl
planted_pair either = refl
planted_pair and_then = refl

planted_map : (f : Func) (a : Schedule) → apply_func plant a f ≡ over a (mapped f)
planted_map First a = refl
planted_map Second a = refl
planted_map Size a = refl
planted_map Merge a = refl
planted_map (Const n) a = refl
planted_map (Add n) a = refl
planted_map (Mul n) a = refl

planted_modifier : (m : Modifier) (a : Schedule) → modifier_value plant a m ≡ over a m
planted_modifier (while_input t) a = refl
planted_modifier (while_output p t) a = refl
planted_modifier collect_all a = refl
planted_modifier (mapped f) a = planted_map f a
planted_modifier (reset_when p t) a = refl

-- a term composed as a term is itself
pub planted : (t : Schedule) → value plant t ≡ t
planted (leaf l) = planted_leaf l
planted (two p a b) = ap (λ o. two o (value plant a) (value plant b)) (planted_pair p)
    ∙ ap (λ v. two p v (value plant b)) (planted a) ∙ ap (two p a) (planted b)
planted (over s m) = planted_modifier m (value plant s) ∙ ap (λ v. over v m) (planted s)

-- no token list spells two terms
pub spells_one : (ts : List Token) (a b : Schedule) → Spells ts a → Spells ts b → a ≡ b
spells_one ts a b h k =
    let e : Some (at [] (after (value plant a))) ≡ Some (at [] (after (value plant b))) =
    sym (spells_to plant ts a h) ∙ spells_to plant ts b k in
    let states : at {A = Schedule} {N = ℕ} [] (after (value plant a))
    ≡ at [] (after (value plant b)) = cc in
    let modes : ◌≡◌ {A = Stage Schedule ℕ} (after (value plant a)) (after (value plant b)) =
    ap (λ s. s.stage) states in
    let same : value plant a ≡ value plant b = cc in
    sym (planted a) ∙ same ∙ planted b

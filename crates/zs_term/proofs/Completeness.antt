-- A spelling leads to the state after its term, wherever it begins.
use Rattle.std.proofs.Common.{◌≡◌, ℕ, List, [], ◌∷◌, ◌++◌, Option, Some, None, refl, sym, ap, ◌∙◌}
use Rattle.std.proofs.Common.{append_assoc, inl, inr}
use Rattle.zs_term.specs.Schedule.{Schedule, leaf, two, over, Leaf, plain, counted, exponential}
use Rattle.zs_term.specs.Schedule.{Pairing, both, either, and_then, Modifier, while_input}
use Rattle.zs_term.specs.Schedule.{while_output, collect_all, mapped, reset_when}
use Rattle.zs_term.specs.Token.{Token, number, mark}
use Rattle.zs_term.specs.Grammar.{with_infix, with_method, test_tokens, pick_tokens, func_tokens}
use Rattle.zs_term.specs.Grammar.{SpellsLeaf, pairing_mark, modifier_tokens, Spells}
use Rattle.zs_term.specs.Machine.{Make, Frame, left, right, Stage, start, after, picking, testing}
use Rattle.zs_term.specs.Machine.{State, at, step, run, apply_func, leaf_value, pairing_infix}
use Rattle.zs_term.specs.Machine.{modifier_value, value}
use Rattle.zs_term.specs.declared.token.Mark.{Mark}
use Rattle.zs_term.specs.declared.token.Mark.TheVariants.{MethodWord, Comparison, Open, Close, Dot}
use Rattle.zs_term.specs.declared.term.Test.{Test}
use Rattle.zs_term.specs.declared.term.Cmp.{Cmp}
use Rattle.zs_term.specs.declared.term.Pick.{Pick}
use Rattle.zs_term.specs.declared.term.Pick.TheVariants.{Whole as PickWhole, First as PickFirst}
use Rattle.zs_term.specs.declared.term.Pick.TheVariants.{Second as PickSecond, Size as PickSize}
use Rattle.zs_term.specs.declared.term.Func.{Func}
use Rattle.zs_term.specs.declared.term.Func.TheVariants.{First, Second, Size, Merge, Const, Add}
use Rattle.zs_term.specs.declared.term.Func.TheVariants.{Mul}
use Rattle.zs_term.specs.declared.forms.Infix.{Infix}
use Rattle.zs_term.specs.declared.forms.Method.{Method}
use Rattle.zs_term.specs.declared.forms.Method.TheVariants.{WhileInput, WhileOutput, Map, ResetWhen}
use Rattle.zs_term.specs.declared.forms.Action.{Action}
use Rattle.zs_term.specs.declared.forms.Action.TheVariants.{Stopping, Resetting}
use Rattle.zs_term.specs.declared.forms.Subject.{Subject}
use Rattle.zs_term.specs.declared.forms.Subject.TheVariants.{Input, Picked}

-- appending nothing changes nothing
pub append_nil : {X : Type 0} (xs : List X) → xs ++ [] ≡ xs
append_nil [] = refl
append_nil (x ∷ xs) = ap (λ ys. x ∷ ys) (append_nil xs)

infix_shape : (l r rest : List Token) (m : Mark) →
    with_infix l m r ++ rest ≡ mark Open ∷ (l ++ (mark m ∷ (r ++ (mark Close ∷ rest))))
infix_shape l r rest m = ap (λ us. mark Open ∷ us) (append_assoc l (mark m ∷ r ++ mark Close ∷ [])
    rest ∙ ap (λ us. l ++ (mark m ∷ us)) (append_assoc r (mark Close ∷ []) rest))

module _ {A N : Type 0} (make : Make A N) where
  pub run_append : (s : Option (State A N)) (ts us : List Token) →
      run make s (ts ++ us) ≡ run make (run make s ts) us
  run_append s [] us = refl
  run_append s (t ∷ ts) us = run_append (step make s t) ts us

  pub run_none : (ts : List Token) → run make None ts ≡ None
  run_none [] = refl
  run_none (t ∷ ts) = run_none ts

  -- the state to which a list of tokens leads, whatever follows it
  abbrev Leads : List Token → A → Type 0
  Leads ts a = (fs : List (Frame A)) (rest : List Token) →
      run make (Some (at fs start)) (ts ++ rest) ≡ run make (Some (at fs (after a))) rest

  lead_infix : (i : Infix) (m : Mark) (l r : List Token) (a b : A)
      → ((fs : List (Frame A)) (rest : List Token)
      → run make (Some (at (left ∷ fs) (after a))) (mark m ∷ rest)
      ≡ run make (Some (at (right i a ∷ fs) start)) rest)
      → Leads l a → Leads r b → Leads (with_infix l m r) (make.join i a b)
  lead_infix i m l r a b goes h k = λ fs rest.
      ap (run make (Some (at fs start))) (infix_shape l r rest m)
      ∙ h (left ∷ fs) (mark m ∷ (r ++ (mark Close ∷ rest)))
      ∙ goes fs (r ++ (mark Close ∷ rest))
      ∙ k (right i a ∷ fs) (mark Close ∷ rest)

  lead_behind : (front behind : List Token) (a b : A) → Leads front a
      → ((fs : List (Frame A)) (rest : List Token)
      → run make (Some (at fs (after a))) (behind ++ rest)
      ≡ run make (Some (at fs (after b))) rest)
      → Leads (front ++ behind) b
  lead_behind front behind a b h goes = λ fs rest.
      ap (run make (Some (at fs start))) (append_assoc front behind rest) ∙ h fs (behind ++ rest)
      ∙ goes fs rest

  lead_from : (ts us : List Token) (a : A) → ts ≡ us → Leads us a → Leads ts a
  lead_from ts us a e h =
      λ fs rest. ap (λ w. run make (Some (at fs start)) (w ++ rest)) e ∙ h fs rest

  -- the tokens after `.word(` for each comparison, pick and function
  lead_test : (fs : List (Frame A)) (a : A) (s : Subject) (c : Cmp) (n : ℕ) (rest : List Token) →
      run make (Some (at fs (testing a s))) (mark (Comparison c) ∷ number n ∷ mark Close ∷ rest)
      ≡ run make (Some (at fs (after (make.test a s c (make.num n))))) rest
  lead_test fs a s c n rest = refl

  lead_pick : (p : Pick) (fs : List (Frame A)) (a : A) (e : Action) (t : Test) (rest : List Token) →
      run make (Some (at fs (picking e a))) ((pick_tokens p ++ test_tokens t) ++ mark Close ∷ rest)
      ≡ run make (Some (at fs (after (make.test a (Picked e p) t.cmp (make.num t.than))))) rest
  lead_pick PickFirst fs a e t rest = lead_test fs a (Picked e PickFirst) t.cmp t.than rest
  lead_pick PickSecond fs a e t rest = lead_test fs a (Picked e PickSecond) t.cmp t.than rest
  lead_pick PickSize fs a e t rest = lead_test fs a (Picked e PickSize) t.cmp t.than rest
  lead_pick PickWhole fs a e t rest = refl

  -- the arguments and the closing parenthesis, before any rest
  lead_method : (w : Method) (k : Stage A N) (a b : A) (arguments : List Token)
      (fs : List (Frame A)) (rest : List Token)
      → run make (Some (at fs (after a)))
      (mark Dot ∷ mark (MethodWord w) ∷ mark Open ∷ (arguments ++ mark Close ∷ rest))
      ≡ run make (Some (at fs k)) (arguments ++ mark Close ∷ rest)
      → run make (Some (at fs k)) (arguments ++ mark Close ∷ rest)
      ≡ run make (Some (at fs (after b))) rest
      → run make (Some (at fs (after a))) (with_method w arguments ++ rest)
      ≡ run make (Some (at fs (after b))) rest
  lead_method w k a b arguments fs rest begins ends =
      ap (λ us. run make (Some (at fs (after a))) (mark Dot ∷ mark (MethodWord w) ∷ mark Open ∷ us))
      (append_assoc arguments (mark Close ∷ []) rest) ∙ begins ∙ ends

  lead_map : (f : Func) (fs : List (Frame A)) (a : A) (rest : List Token) →
      run make (Some (at fs (after a))) (with_method Map (func_tokens f) ++ rest)
      ≡ run make (Some (at fs (after (apply_func make a f)))) rest
  lead_map First fs a rest = refl
  lead_map Second fs a rest = refl
  lead_map Size fs a rest = refl
  lead_map Merge fs a rest = refl
  lead_map (Const n) fs a rest = refl
  lead_map (Add n) fs a rest = refl
  lead_map (Mul n) fs a rest = refl

  complete_leaf : (l : Leaf) (ts : List Token) → SpellsLeaf ts l → Leads ts (leaf_value make l)
  complete_leaf (exponential b f) ts (inl h) = lead_from ts _ _ h.0 (λ fs rest. ap
      (λ k. run make (Some (at fs (after (make.growing (make.num b) (make.num k))))) rest)
      (sym h.1))
  complete_leaf (exponential b f) ts (inr h) = lead_from ts _ _ h (λ fs rest. refl)
  complete_leaf (plain p) ts h = lead_from ts _ _ h (λ fs rest. refl)
  complete_leaf (counted c n) ts h = lead_from ts _ _ h (λ fs rest. refl)

  -- the token between two schedules leads to the right part
  lead_between : (p : Pairing) (a : A) (fs : List (Frame A)) (rest : List Token) →
      run make (Some (at (left ∷ fs) (after a))) (mark (pairing_mark p) ∷ rest)
      ≡ run make (Some (at (right (pairing_infix p) a ∷ fs) start)) rest
  lead_between both a fs rest = refl
  lead_between either a fs rest = refl
  lead_between and_then a fs rest = refl

  lead_modifier : (m : Modifier) (a : A) (fs : List (Frame A)) (rest : List Token) →
      run make (Some (at fs (after a))) (modifier_tokens m ++ rest)
      ≡ run make (Some (at fs (after (modifier_value make a m)))) rest
  lead_modifier (while_input t) a fs rest =
      lead_method WhileInput (testing a Input) a _ (test_tokens t) fs rest refl
      (lead_test fs a Input t.cmp t.than rest)
  lead_modifier (while_output p t) a fs rest =
      lead_method WhileOutput (picking Stopping a) a _ (pick_tokens p ++ test_tokens t) fs rest refl
      (lead_pick p fs a Stopping t rest)
  lead_modifier collect_all a fs rest = refl
  lead_modifier (mapped f) a fs rest = lead_map f fs a rest
  lead_modifier (reset_when p t) a fs rest =
      lead_method ResetWhen (picking Resetting a) a _ (pick_tokens p ++ test_tokens t) fs rest refl
      (lead_pick p fs a Resetting t rest)

  -- a spelling leads to the state after its term
  pub complete : (t : Schedule) (ts : List Token) → Spells ts t → Leads ts (value make t)
  complete (leaf l) ts h = complete_leaf l ts h
  complete (two p a b) ts h = lead_from ts _ _ h.4 (lead_infix (pairing_infix p) (pairing_mark p)
      h.0 h.1 (value make a) (value make b) (λ fs rest. lead_between p (value make a) fs rest)
      (complete a h.0 h.2) (complete b h.1 h.3))
  complete (over a m) ts h = lead_from ts _ _ h.2 (lead_behind h.0 _ (value make a) _
      (complete a h.0 h.1) (λ fs rest. lead_modifier m (value make a) fs rest))

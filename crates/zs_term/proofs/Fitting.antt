-- The numbers of a term are those of its tokens.
use Rattle.std.proofs.Common.{◌≡◌, ℕ, ◌<◌, ◌^◌, List, [], ◌∷◌, ◌++◌, Bool, true, false, cond, Some}
use Rattle.std.proofs.Common.{None, refl, sym, subst, arith, inl, inr}
use Rattle.std.proofs.lemmas.Bool.Decides.{nat_tests}
use Rattle.zs_term.specs.declared.token.Mark.{Mark}
use Rattle.zs_term.specs.declared.token.Mark.TheVariants.{CountedWord, ExponentialWord, Close}
use Rattle.zs_term.specs.declared.forms.Method.{Method}
use Rattle.zs_term.specs.declared.forms.Method.TheVariants.{WhileInput, WhileOutput, Map, ResetWhen}
use Rattle.zs_term.specs.declared.term.Pick.{Pick}
use Rattle.zs_term.specs.declared.term.Pick.TheVariants.{Whole as PickWhole, First as PickFirst}
use Rattle.zs_term.specs.declared.term.Pick.TheVariants.{Second as PickSecond, Size as PickSize}
use Rattle.zs_term.specs.declared.term.Func.{Func}
use Rattle.zs_term.specs.declared.term.Func.TheVariants.{First, Second, Size, Merge, Const, Add}
use Rattle.zs_term.specs.declared.term.Func.TheVariants.{Mul}
use Rattle.zs_term.specs.Schedule.{Schedule, leaf, two, over, Leaf, plain, counted, exponential}
use Rattle.zs_term.specs.Schedule.{Modifier, while_input, while_output, collect_all, mapped}
use Rattle.zs_term.specs.Schedule.{reset_when}
use Rattle.zs_term.specs.Number.{FuncFits, LeafFits, ModifierFits, HasFittingNumbers}
use Rattle.zs_term.specs.Token.{Token, number, mark, Placed, lexed}
use Rattle.zs_term.specs.Grammar.{SpellsLeaf, pairing_mark, modifier_tokens, Spells, with_number}
use Rattle.zs_term.specs.Grammar.{with_infix, with_method, test_tokens, pick_tokens, func_tokens}
use Rattle.zs_term.specs.Causes.{tokens_of, TextSpells, is_huge, first_huge}

-- no token is a number above 2^64 - 1
abbrev AllFit : List Token → Type 0
AllFit [] = Unit {0}
AllFit (t ∷ ts) = (is_huge t ≡ false) × AllFit ts

all_fit : (ps : List Placed) → first_huge ps ≡ None → AllFit (tokens_of ps)
all_fit [] h = tt
all_fit (p ∷ ps) h = at_head (is_huge p.token) refl h (all_fit ps) where
  at_head : (b : Bool) → is_huge p.token ≡ b → cond b (Some p.place) (first_huge ps) ≡ None →
      (first_huge ps ≡ None → AllFit (tokens_of ps)) → AllFit (tokens_of (p ∷ ps))
  at_head true e k rest = cc
  at_head false e k rest = (e, rest k)

fit_front : (xs ys : List Token) → AllFit (xs ++ ys) → AllFit xs
fit_front [] ys h = tt
fit_front (x ∷ xs) ys h = (h.0, fit_front xs ys h.1)

fit_back : (xs ys : List Token) → AllFit (xs ++ ys) → AllFit ys
fit_back [] ys h = h
fit_back (x ∷ xs) ys h = fit_back xs ys h.1

not_huge : (n : ℕ) → is_huge (number n) ≡ false → n < 2 ^ 64
not_huge n h = grind (arith, nat_tests)

fits_infix : (l r : List Token) (m : Mark) → AllFit (with_infix l m r) → AllFit l × AllFit r
fits_infix l r m h = (
  fit_front l (mark m ∷ r ++ mark Close ∷ []) h.1,
  fit_front r (mark Close ∷ []) (fit_back l (mark m ∷ r ++ mark Close ∷ []) h.1).1,
)

fits_func : (f : Func) → AllFit (func_tokens f) → FuncFits f
fits_func First h = tt
fits_func Second h = tt
fits_func Size h = tt
fits_func Merge h = tt
fits_func (Const n) h = not_huge n h.1.0
fits_func (Add n) h = not_huge n h.1.0
fits_func (Mul n) h = not_huge n h.1.0

leaf_fits : (l : Leaf) (ts : List Token) → SpellsLeaf ts l → AllFit ts → LeafFits l
leaf_fits (plain p) ts s h = tt
leaf_fits (counted c n) ts s h = not_huge n (subst AllFit s h).1.1.0
leaf_fits (exponential b f) ts (inl s) h =
    (not_huge b (subst AllFit s.0 h).1.1.0, omega (arith, s.1))
leaf_fits (exponential b f) ts (inr s) h =
    (not_huge b (subst AllFit s h).1.1.0, not_huge f (subst AllFit s h).1.1.1.1.0)

-- the modifier after a schedule, if all its tokens fit
modifier_fits : (m : Modifier) → AllFit (modifier_tokens m) → ModifierFits m
modifier_fits (while_input t) h = not_huge t.than h.1.1.1.1.0
modifier_fits (while_output p t) h = not_huge t.than (fit_back (pick_tokens p) (test_tokens t)
    (fit_front (pick_tokens p ++ test_tokens t) (mark Close ∷ []) h.1.1.1)).1.0
modifier_fits collect_all h = tt
modifier_fits (mapped f) h = fits_func f (fit_front (func_tokens f) (mark Close ∷ []) h.1.1.1)
modifier_fits (reset_when p t) h = not_huge t.than (fit_back (pick_tokens p) (test_tokens t)
    (fit_front (pick_tokens p ++ test_tokens t) (mark Close ∷ []) h.1.1.1)).1.0

fits_from_tokens : (t : Schedule) (ts : List Token) → Spells ts t → AllFit ts → HasFittingNumbers t
fits_from_tokens (leaf l) ts s h = leaf_fits l ts s h
fits_from_tokens (two p a b) ts s h = let k =
    fits_infix s.0 s.1 (pairing_mark p) (subst AllFit s.4 h) in
    (fits_from_tokens a s.0 s.2 k.0, fits_from_tokens b s.1 s.3 k.1)
fits_from_tokens (over a m) ts s h = let k = subst AllFit s.2 h in
    (fits_from_tokens a s.0 s.1 (fit_front s.0 _ k), modifier_fits m (fit_back s.0 _ k))

-- a text without a number above 2^64 - 1 spells a term whose numbers fit
pub fits_in : (text : List ℕ) (t : Schedule) → TextSpells text t →
    first_huge (lexed text).tokens ≡ None → HasFittingNumbers t
fits_in text t s h =
    fits_from_tokens t (tokens_of (lexed text).tokens) s.spelled (all_fit (lexed text).tokens h)

not_huge_from : (n : ℕ) → n < 2 ^ 64 → is_huge (number n) ≡ false
not_huge_from n h = grind (arith, nat_tests)

fit_both : (xs ys : List Token) → AllFit xs → AllFit ys → AllFit (xs ++ ys)
fit_both [] ys h k = k
fit_both (x ∷ xs) ys h k = (h.0, fit_both xs ys h.1 k)

none_huge : (ps : List Placed) → AllFit (tokens_of ps) → first_huge ps ≡ None
none_huge [] h = refl
none_huge (p ∷ ps) h = at_head (is_huge p.token) h.0 (none_huge ps h.1) where
  at_head : (b : Bool) → b ≡ false → first_huge ps ≡ None →
      cond b (Some p.place) (first_huge ps) ≡ None
  at_head true e k = cc
  at_head false e k = k

pick_fits : (p : Pick) → AllFit (pick_tokens p)
pick_fits PickWhole = tt
pick_fits PickFirst = (refl, tt)
pick_fits PickSecond = (refl, tt)
pick_fits PickSize = (refl, tt)

func_fits : (f : Func) → FuncFits f → AllFit (func_tokens f)
func_fits First h = (refl, tt)
func_fits Second h = (refl, tt)
func_fits Size h = (refl, tt)
func_fits Merge h = (refl, tt)
func_fits (Const n) h = (refl, (not_huge_from n h, tt))
func_fits (Add n) h = (refl, (not_huge_from n h, tt))
func_fits (Mul n) h = (refl, (not_huge_from n h, tt))

one_number : (m : Mark) (n : ℕ) → n < 2 ^ 64 → AllFit (with_number m n)
one_number m n h = (refl, (refl, (not_huge_from n h, (refl, tt))))

infix_fits : (l r : List Token) (m : Mark) → AllFit l → AllFit r → AllFit (with_infix l m r)
infix_fits l r m h k = (
  refl,
  fit_both l (mark m ∷ r ++ mark Close ∷ []) h
      (refl, fit_both r (mark Close ∷ []) k (refl, tt)),
)

method_fits : (m : Method) (arguments : List Token) → AllFit arguments →
    AllFit (with_method m arguments)
method_fits m arguments h =
    (refl, (refl, (refl, fit_both arguments (mark Close ∷ []) h (refl, tt))))

leaf_tokens_fit : (l : Leaf) (ts : List Token) → SpellsLeaf ts l → LeafFits l → AllFit ts
leaf_tokens_fit (plain p) ts s h = subst AllFit (sym s) (refl, tt)
leaf_tokens_fit (counted c n) ts s h = subst AllFit (sym s) (one_number (CountedWord c) n h)
leaf_tokens_fit (exponential b f) ts (inl s) h =
    subst AllFit (sym s.0) (one_number ExponentialWord b h.0)
leaf_tokens_fit (exponential b f) ts (inr s) h = subst AllFit (sym s) (
  refl,
  (refl, (not_huge_from b h.0, (refl, (not_huge_from f h.1, (refl, tt))))),
)

modifier_tokens_fit : (m : Modifier) → ModifierFits m → AllFit (modifier_tokens m)
modifier_tokens_fit (while_input t) h =
    method_fits WhileInput (test_tokens t) (refl, (not_huge_from t.than h, tt))
modifier_tokens_fit (while_output p t) h =
    method_fits WhileOutput (pick_tokens p ++ test_tokens t)
    (fit_both (pick_tokens p) (test_tokens t) (pick_fits p) (refl, (not_huge_from t.than h, tt)))
modifier_tokens_fit collect_all h = (refl, (refl, tt))
modifier_tokens_fit (mapped f) h = method_fits Map (func_tokens f) (func_fits f h)
modifier_tokens_fit (reset_when p t) h =
    method_fits ResetWhen (pick_tokens p ++ test_tokens t)
    (fit_both (pick_tokens p) (test_tokens t) (pick_fits p) (refl, (not_huge_from t.than h, tt)))

tokens_fit : (t : Schedule) (ts : List Token) → Spells ts t → HasFittingNumbers t → AllFit ts
tokens_fit (leaf l) ts s h = leaf_tokens_fit l ts s h
tokens_fit (two p a b) ts s h = subst AllFit (sym s.4) (infix_fits s.0 s.1 (pairing_mark p)
    (tokens_fit a s.0 s.2 h.0) (tokens_fit b s.1 s.3 h.1))
tokens_fit (over a m) ts s h =
    subst AllFit (sym s.2) (fit_both s.0 _ (tokens_fit a s.0 s.1 h.0) (modifier_tokens_fit m h.1))

-- a text that spells a term whose numbers fit has no number above 2^64 - 1
pub none_too_large : (text : List ℕ) (t : Schedule) → TextSpells text t → HasFittingNumbers t →
    first_huge (lexed text).tokens ≡ None
none_too_large text t s h =
    none_huge (lexed text).tokens (tokens_fit t (tokens_of (lexed text).tokens) s.spelled h)

-- The first step at which a schedule is done, and the outputs that are collected.
use Rattle.std.proofs.Common.{◌≡◌, ℕ, ◌+◌, ◌-◌, ◌<◌, Bool, true, false, Option, Some, None, List}
use Rattle.std.proofs.Common.{[], ◌∷◌, ◌++◌, length, take, drop, get_or, sym, ap, ◌∙◌, subst}
use Rattle.std.proofs.Common.{IfSome, IfNone}
use Rattle.std.proofs.lemmas.List.{take-append-drop, drop_more, reverse-append}
use Rattle.zs_term.specs.Output.{Output, Outputs, left, right, listed, outputs_of, output_of}
use Rattle.zs_term.specs.declared.outputs.Out.{Out}
use Rattle.zs_term.proofs.Values.{outputs_of_push}
use Rattle.zs_step.specs.History.{History, history_of, earlier}
use Rattle.zs_step.specs.declared.decision.Decision.{Decision}
use Rattle.zs_step.specs.Answer.{Answer, answer, is_next, done_from, from_done, sequel_of, sequel}
use Rattle.zs_step.specs.Answer.{collect_if, collected}
use Rattle.zs_step.proofs.Histories.{history-take, history-last}

-- one more step of the search
pub from_done-turn : (f : History → Answer) (p : ℕ × ℕ) (h : History) (o : Option History)
    (b : Bool) → from_done f h ≡ o →
    is_next (f (p ∷ h)).decision ≡ b → from_done f (p ∷ h) ≡ done_from o p b
from_done-turn f p h o b before now =
    ap (λ x. done_from x p (is_next (f (p ∷ h)).decision)) before ∙ ap (done_from o p) now

-- steps after the part that was found
pub from_done-behind : (f : History → Answer) (k h g : History) → from_done f h ≡ Some g →
    from_done f (k ++ h) ≡ Some (k ++ g)
from_done-behind f [] h g e = e
from_done-behind f (p ∷ k) h g e =
    ap (λ x. done_from x p (is_next (f (p ∷ (k ++ h))).decision)) (from_done-behind f k h g e)

-- an index splits a list into two histories
pub history-cut : (xs : List (ℕ × ℕ)) (i : ℕ) →
    history_of xs ≡ history_of (drop i xs) ++ history_of (take i xs)
history-cut xs i = ap history_of (sym (take-append-drop i xs))
    ∙ reverse-append (take i xs) (drop i xs)

-- the pair at an index is the first of those from it on
history-drop : (xs : List (ℕ × ℕ)) (i : ℕ) (d : ℕ × ℕ) → i < length xs →
    history_of (drop i xs) ≡ history_of (drop (i + 1) xs) ++ get_or xs i d ∷ []
history-drop xs i d h =
    ap history_of (drop_more xs i d h) ∙ reverse-append (get_or xs i d ∷ []) (drop (i + 1) xs)

-- a default for reads past the end
some_at : (ℕ × ℕ)
some_at = (0, 0)

-- one step of the search at which the schedule continues
pub from_done-go : (f : History → Answer) (xs : List (ℕ × ℕ)) (i : ℕ) (a : Answer) (b : Bool) →
    i < length xs →
    from_done f (history_of (take i xs)) ≡ None → a ≡ f (history_of (take (i + 1) xs)) →
    b ≡ is_next a.decision → b ≡ true →
    from_done f (history_of (take (i + 1) xs)) ≡ None
from_done-go f xs i a b lt before is test go =
    let t = history-take xs i some_at lt in
    let n : is_next (f (get_or xs i some_at ∷ history_of (take i xs))).decision ≡ true =
    ap (λ h. is_next (f h).decision) (sym t) ∙ ap (λ x. is_next x.decision) (sym is)
    ∙ sym test ∙ go in
    ap (from_done f) t ∙ from_done-turn f (get_or xs i some_at) (history_of (take i xs)) None
    true before n

-- one step of the search at which the schedule is done
pub from_done-stop : (f : History → Answer) (xs : List (ℕ × ℕ)) (i : ℕ) (a : Answer) (b : Bool) →
    i < length xs →
    from_done f (history_of (take i xs)) ≡ None → a ≡ f (history_of (take (i + 1) xs)) →
    b ≡ is_next a.decision → b ≡ false →
    from_done f (history_of xs) ≡ Some (history_of (drop i xs))
from_done-stop f xs i a b lt before is test stop =
    let t = history-take xs i some_at lt in
    let n : is_next (f (get_or xs i some_at ∷ history_of (take i xs))).decision ≡ false =
    ap (λ h. is_next (f h).decision) (sym t) ∙ ap (λ x. is_next x.decision) (sym is)
    ∙ sym test ∙ stop in
    let s : from_done f (history_of (take (i + 1) xs)) ≡ Some (get_or xs i some_at ∷ []) =
    ap (from_done f) t ∙ from_done-turn f (get_or xs i some_at) (history_of (take i xs)) None
    false before n in
    ap (from_done f) (history-cut xs (i + 1))
    ∙ from_done-behind f (history_of (drop (i + 1) xs)) (history_of (take (i + 1) xs))
    (get_or xs i some_at ∷ []) s
    ∙ ap (λ h. Some h) (sym (history-drop xs i some_at lt))

-- one step of the collection
pub collected-turn : (f : History → Answer) (xs : List (ℕ × ℕ)) (i : ℕ) (a : Answer) (b : Bool)
    (v w : Outputs) → i < length xs →
    v ≡ collected f (history_of (take i xs)) → a ≡ f (history_of (take (i + 1) xs)) →
    b ≡ is_next a.decision → w ≡ collect_if b v a.output →
    w ≡ collected f (history_of (take (i + 1) xs))
collected-turn f xs i a b v w lt before is test w_is =
    let t = history-take xs i some_at lt in
    let e : a ≡ f (get_or xs i some_at ∷ history_of (take i xs)) = is ∙ ap f t in
    w_is ∙ ap (λ x. collect_if x v a.output) test
    ∙ ap (λ (x : Answer). collect_if (is_next x.decision) v x.output) e
    ∙ ap (λ x. collect_if (is_next (f (get_or xs i some_at ∷ history_of (take i xs))).decision) x
    (f (get_or xs i some_at ∷ history_of (take i xs))).output) before
    ∙ sym (ap (collected f) t)

-- the output of a step that continued is appended
pub collect-push : (b t : Bool) (xs zs : List Out) (x : Out) → zs ≡ xs ++ x ∷ [] → t ≡ b →
    t ≡ true → outputs_of zs ≡ collect_if b (outputs_of xs) (output_of x)
collect-push b t xs zs x pushed is holds =
    ap outputs_of pushed ∙ outputs_of_push xs x
    ∙ ap (λ y. collect_if y (outputs_of xs) (output_of x)) (sym holds ∙ is)

-- the result of `andThenEither` before its first part is done
pub sequel-first : (f g : History → Answer) (h : History) (o : Option ℕ) (x v : Output)
    (d : Decision) → o ≡ None → IfNone o (from_done f h ≡ None) →
    answer x d ≡ f h → v ≡ left x → answer v d ≡ sequel f g h
sequel-first f g h o x v d none if_none is v_is =
    let e : from_done f h ≡ None = subst (λ k. IfNone k (from_done f h ≡ None)) none if_none in
    ap (λ y. answer y d) v_is ∙ ap (λ (a : Answer). answer (left a.output) a.decision) is
    ∙ ap (λ k. sequel_of k (f h) g) (sym e)

-- the result of `andThenEither` from its first part's end on
pub sequel-second : (f g : History → Answer) (h : History) (xs : List (ℕ × ℕ)) (o : Option ℕ)
    (k : ℕ) (x v : Output) (d : Decision) → o ≡ Some k →
    IfSome o (λ i. from_done f h ≡ Some (history_of (drop i xs))) →
    answer x d ≡ g (history_of (drop k xs)) → v ≡ right x → answer v d ≡ sequel f g h
sequel-second f g h xs o k x v d some if_some is v_is =
    let e : from_done f h ≡ Some (history_of (drop k xs)) =
    subst (λ j. IfSome j (λ i. from_done f h ≡ Some (history_of (drop i xs)))) some if_some in
    ap (λ y. answer y d) v_is ∙ ap (λ (a : Answer). answer (right a.output) a.decision) is
    ∙ ap (λ j. sequel_of j (f h) g) (sym e)

-- the collection before the last pair
pub collected-last : (f : History → Answer) (xs : List (ℕ × ℕ)) (i : ℕ) (v : Outputs) →
    0 < length xs → i ≡ length xs - 1 →
    v ≡ collected f (history_of (take i xs)) → v ≡ collected f (earlier (history_of xs))
collected-last f xs i v some is v_is =
    v_is ∙ ap (λ k. collected f (history_of (take k xs))) is
    ∙ sym (ap (λ h. collected f (earlier h)) (history-last xs some_at some))

-- the result of `collectAll`
pub collected-answer : (f : History → Answer) (h : History) (x : Output) (y : Outputs) (v : Output)
    (d e : Decision) → v ≡ listed y →
    y ≡ collected f (earlier h) → d ≡ e → answer x e ≡ f h →
    answer v d ≡ answer (listed (collected f (earlier h))) (f h).decision
collected-answer f h x y v d e v_is y_is d_is is =
    ap (λ k. answer k d) (v_is ∙ ap listed y_is) ∙ ap (answer (listed (collected f (earlier h))))
    (d_is ∙ ap (λ (a : Answer). a.decision) is)

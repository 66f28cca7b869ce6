-- The least step at which a schedule is done.
use Rattle.std.proofs.Common.{◌≡◌, ℕ, Bool, true, false, Option, Some, None, [], ◌∷◌, refl, sym, ap}
use Rattle.std.proofs.Common.{◌∙◌, subst}
use Rattle.zs_term.specs.Output.{left, right}
use Rattle.zs_step.specs.History.{History, earlier}
use Rattle.zs_step.specs.Answer.{Answer, answer, is_next, done_from, from_done, sequel_of, sequel}
use Rattle.zs_step.specs.Laws.{GoesOnThroughout, IsFromFirstDone}
use Rattle.zs_step.proofs.Sequels.{from_done-behind}

-- nothing is found if nothing was found before and the schedule continues
done_from-none : (o : Option History) (p : ℕ × ℕ) (b : Bool) → done_from o p b ≡ None →
    (o ≡ None) × (b ≡ true)
done_from-none (Some g) p b e = cc
done_from-none None p true e = (refl, refl)
done_from-none None p false e = cc

-- if no step is found, the schedule continues at each
pub none-goes_on : (f : History → Answer) (h : History) → from_done f h ≡ None →
    GoesOnThroughout f h
none-goes_on f [] e [] before p whole = cc
none-goes_on f [] e (r ∷ later) before p whole = cc
none-goes_on f (q ∷ h) e [] before p whole =
    subst (λ k. is_next (f k).decision ≡ true) whole
    (done_from-none (from_done f h) q (is_next (f (q ∷ h)).decision) e).1
none-goes_on f (q ∷ h) e (r ∷ later) before p whole =
    none-goes_on f h (done_from-none (from_done f h) q (is_next (f (q ∷ h)).decision) e).0 later
    before p (ap earlier whole)

-- if the schedule continues at each step, none is found
pub goes_on-none : (f : History → Answer) (h : History) → GoesOnThroughout f h →
    from_done f h ≡ None
goes_on-none f [] goes = refl
goes_on-none f (p ∷ h) goes =
    ap (λ o. done_from o p (is_next (f (p ∷ h)).decision))
    (goes_on-none f h (λ later before q whole. goes (p ∷ later) before q
    (ap (λ k. p ∷ k) whole)))
    ∙ ap (done_from None p) (goes [] h p refl)

-- the part, or an empty history
abbrev part_in : Option History → History
part_in (Some g) = g
part_in None = []

-- one more step
found-step : (f : History → Answer) (p : ℕ × ℕ) (h g : History) (o : Option History) (b : Bool) →
    from_done f h ≡ o → is_next (f (p ∷ h)).decision ≡ b →
    ((k : History) → from_done f h ≡ Some k → IsFromFirstDone f h k) → done_from o p b ≡ Some g →
    IsFromFirstDone f (p ∷ h) g
found-step f p h g (Some k) b before now each e =
    let r = each k before in
    record {
      before = r.before;
      first = r.first;
      later = p ∷ r.later;
      whole = ap (λ x. p ∷ x) r.whole;
      is = sym (ap part_in e) ∙ ap (λ x. p ∷ x) r.is;
      done = r.done;
      least = r.least;
    }
found-step f p h g None true before now each e = cc
found-step f p h g None false before now each e =
    record {
      before = h;
      first = p;
      later = [];
      whole = refl;
      is = sym (ap part_in e);
      done = now;
      least = none-goes_on f h before;
    }

-- what is found begins at the least step at which the schedule is done
pub found-is-first : (f : History → Answer) (h g : History) → from_done f h ≡ Some g →
    IsFromFirstDone f h g
found-is-first f [] g e = cc
found-is-first f (p ∷ h) g e =
    found-step f p h g (from_done f h) (is_next (f (p ∷ h)).decision) refl refl
    (λ k before. found-is-first f h k before) e

-- the part from that step on is the one that is found
pub first-is-found : (f : History → Answer) (h g : History) → IsFromFirstDone f h g →
    from_done f h ≡ Some g
first-is-found f h g r =
    let start : from_done f (r.first ∷ r.before) ≡ Some (r.first ∷ []) =
    ap (λ o. done_from o r.first (is_next (f (r.first ∷ r.before)).decision))
    (goes_on-none f r.before r.least) ∙ ap (done_from None r.first) r.done in
    ap (from_done f) r.whole ∙ from_done-behind f r.later (r.first ∷ r.before) (r.first ∷ []) start
    ∙ ap (λ k. Some k) (sym r.is)

-- the result from that step on
pub sequel-found : (f g : History → Answer) (h part : History) → IsFromFirstDone f h part →
    sequel f g h ≡ answer (right (g part).output) (g part).decision
sequel-found f g h part r = ap (λ o. sequel_of o (f h) g) (first-is-found f h part r)

-- the result before that step
pub sequel-before : (f g : History → Answer) (h : History) → GoesOnThroughout f h →
    sequel f g h ≡ answer (left (f h).output) (f h).decision
sequel-before f g h goes = ap (λ o. sequel_of o (f h) g) (goes_on-none f h goes)

-- Each text has one verdict: the schedule that it spells, or one fault.
use Rattle.std.proofs.Common.{◌≡◌, ℕ, List, Bool, true, false, cond, Option, Some, None, refl, sym}
use Rattle.std.proofs.Common.{ap, ◌∙◌, subst}
use Rattle.std.specs.Prelude.{IsSome, Result, Ok, Err, IfOk, IfErr}
use Rattle.zs_term.specs.Schedule.{Schedule, is_within_limits, has_factors, has_windows}
use Rattle.zs_term.specs.OutputKind.{OutputKind}
use Rattle.zs_term.specs.Kinds.{kind_of, IsSchedule}
use Rattle.zs_term.specs.Token.{lexed}
use Rattle.zs_term.specs.Causes.{tokens_of, TextSpells, first_huge, IsRead, SpellsSchedule, IsCause}
use Rattle.zs_term.specs.Causes.{IsTermCause}
use Rattle.zs_term.specs.Canonical.{canonical_text}
use Rattle.zs_term.specs.Verdict.{with_kind, with_numbers_at, checked_as}
use Rattle.zs_term.specs.Laws.{OneFault, OneVerdict, RoundTrip}
use Rattle.zs_term.specs.declared.fault.TermFault.{TermFault}
use Rattle.zs_term.specs.declared.fault.TermFault.TheVariants.{NoTerm, TooBig, BadNumber, BadFactor}
use Rattle.zs_term.specs.declared.fault.TermFault.TheVariants.{NoKind, BadWindow, Memory}
use Rattle.zs_term.proofs.Runs.{spells_one}
use Rattle.zs_term.proofs.Canonical.{canonical_spells}
use Rattle.zs_term.proofs.Fitting.{none_too_large}
use Rattle.zs_term.proofs.OnePlace.{spells_or_not, one_place}

-- a text spells at most one term
pub same_term : (text : List ℕ) (a b : Schedule) → TextSpells text a → TextSpells text b → a ≡ b
same_term text a b s r = spells_one (tokens_of (lexed text).tokens) a b s.spelled r.spelled

-- a property of the term can't be true and false
apart : (p : Schedule → Bool) (text : List ℕ) (a b : Schedule) → TextSpells text a →
    TextSpells text b → p a ≡ true → p b ≡ false → ⊥
apart p text a b s r h k = let e = ap p (same_term text a b s r) in cc

-- a text can't have a number above 2^64 - 1 and have none
no_huge : (o : Option ℕ) (at : ℕ) → o ≡ None → o ≡ Some at → ⊥
no_huge o at h k = cc

-- a kind can't be there and missing
no_kind : (o : Option OutputKind) → IsSome o → o ≡ None → ⊥
no_kind None h e = cc
no_kind (Some k) h e = cc

other_kind : (text : List ℕ) (a b : Schedule) → TextSpells text a → TextSpells text b →
    IsSome (kind_of a) → kind_of b ≡ None → ⊥
other_kind text a b s r h k = no_kind (kind_of a) h (ap kind_of (same_term text a b s r) ∙ k)

one_number : (o : Option ℕ) (a b : ℕ) → o ≡ Some a → o ≡ Some b → a ≡ b
one_number o a b h k = let e : Some a ≡ Some b = sym h ∙ k in cc

-- two faults other than `Memory` are equal
pub one_fault : OneFault
one_fault text (NoTerm a) (NoTerm b) c d m n = ap NoTerm (one_place text a b c d)
one_fault text (NoTerm a) TooBig c d m n = absurd (spells_or_not text d.0 a d.1 c)
one_fault text (NoTerm a) (BadNumber b) c d m n = absurd (spells_or_not text d.0 a d.1 c)
one_fault text (NoTerm a) BadFactor c d m n = absurd (spells_or_not text d.0 a d.1.spelled c)
one_fault text (NoTerm a) NoKind c d m n = absurd (spells_or_not text d.0 a d.1.spelled c)
one_fault text (NoTerm a) BadWindow c d m n = absurd (spells_or_not text d.0 a d.1.spelled c)
one_fault text (NoTerm a) Memory c d m n = absurd (n refl)
one_fault text TooBig (NoTerm b) c d m n = absurd (spells_or_not text c.0 b c.1 d)
one_fault text TooBig TooBig c d m n = refl
one_fault text TooBig (BadNumber b) c d m n =
    absurd (apart is_within_limits text d.0 c.0 d.1 c.1 d.2 c.2)
one_fault text TooBig BadFactor c d m n =
    absurd (apart is_within_limits text d.0 c.0 d.1.spelled c.1 d.1.within c.2)
one_fault text TooBig NoKind c d m n =
    absurd (apart is_within_limits text d.0 c.0 d.1.spelled c.1 d.1.within c.2)
one_fault text TooBig BadWindow c d m n =
    absurd (apart is_within_limits text d.0 c.0 d.1.spelled c.1 d.1.within c.2)
one_fault text TooBig Memory c d m n = absurd (n refl)
one_fault text (BadNumber a) (NoTerm b) c d m n = absurd (spells_or_not text c.0 b c.1 d)
one_fault text (BadNumber a) TooBig c d m n =
    absurd (apart is_within_limits text c.0 d.0 c.1 d.1 c.2 d.2)
one_fault text (BadNumber a) (BadNumber b) c d m n =
    ap BadNumber (one_number (first_huge (lexed text).tokens) a b c.3 d.3)
one_fault text (BadNumber a) BadFactor c d m n =
    absurd (no_huge (first_huge (lexed text).tokens) a d.1.fits c.3)
one_fault text (BadNumber a) NoKind c d m n =
    absurd (no_huge (first_huge (lexed text).tokens) a d.1.fits c.3)
one_fault text (BadNumber a) BadWindow c d m n =
    absurd (no_huge (first_huge (lexed text).tokens) a d.1.fits c.3)
one_fault text (BadNumber a) Memory c d m n = absurd (n refl)
one_fault text BadFactor (NoTerm b) c d m n = absurd (spells_or_not text c.0 b c.1.spelled d)
one_fault text BadFactor TooBig c d m n =
    absurd (apart is_within_limits text c.0 d.0 c.1.spelled d.1 c.1.within d.2)
one_fault text BadFactor (BadNumber b) c d m n =
    absurd (no_huge (first_huge (lexed text).tokens) b c.1.fits d.3)
one_fault text BadFactor BadFactor c d m n = refl
one_fault text BadFactor NoKind c d m n =
    absurd (apart has_factors text d.0 c.0 d.1.spelled c.1.spelled d.2 c.2)
one_fault text BadFactor BadWindow c d m n =
    absurd (apart has_factors text d.0 c.0 d.1.spelled c.1.spelled d.2 c.2)
one_fault text BadFactor Memory c d m n = absurd (n refl)
one_fault text NoKind (NoTerm b) c d m n = absurd (spells_or_not text c.0 b c.1.spelled d)
one_fault text NoKind TooBig c d m n =
    absurd (apart is_within_limits text c.0 d.0 c.1.spelled d.1 c.1.within d.2)
one_fault text NoKind (BadNumber b) c d m n =
    absurd (no_huge (first_huge (lexed text).tokens) b c.1.fits d.3)
one_fault text NoKind BadFactor c d m n =
    absurd (apart has_factors text c.0 d.0 c.1.spelled d.1.spelled c.2 d.2)
one_fault text NoKind NoKind c d m n = refl
one_fault text NoKind BadWindow c d m n =
    absurd (other_kind text d.0 c.0 d.1.spelled c.1.spelled d.3 c.3)
one_fault text NoKind Memory c d m n = absurd (n refl)
one_fault text BadWindow (NoTerm b) c d m n = absurd (spells_or_not text c.0 b c.1.spelled d)
one_fault text BadWindow TooBig c d m n =
    absurd (apart is_within_limits text c.0 d.0 c.1.spelled d.1 c.1.within d.2)
one_fault text BadWindow (BadNumber b) c d m n =
    absurd (no_huge (first_huge (lexed text).tokens) b c.1.fits d.3)
one_fault text BadWindow BadFactor c d m n =
    absurd (apart has_factors text c.0 d.0 c.1.spelled d.1.spelled c.2 d.2)
one_fault text BadWindow NoKind c d m n =
    absurd (other_kind text c.0 d.0 c.1.spelled d.1.spelled c.3 d.3)
one_fault text BadWindow BadWindow c d m n = refl
one_fault text BadWindow Memory c d m n = absurd (n refl)
one_fault text Memory f c d m n = absurd (m refl)

-- a text that spells a schedule has no cause of a fault
pub one_verdict : OneVerdict
one_verdict text t r (NoTerm at) c = absurd (spells_or_not text t at r.read.spelled c)
one_verdict text t r TooBig c =
    absurd (apart is_within_limits text t c.0 r.read.spelled c.1 r.read.within c.2)
one_verdict text t r (BadNumber at) c =
    absurd (no_huge (first_huge (lexed text).tokens) at r.read.fits c.3)
one_verdict text t r BadFactor c =
    absurd (apart has_factors text t c.0 r.read.spelled c.1.spelled r.schedule.factors c.2)
one_verdict text t r NoKind c =
    absurd (other_kind text t c.0 r.read.spelled c.1.spelled r.schedule.kinded c.3)
one_verdict text t r BadWindow c =
    absurd (apart has_windows text t c.0 r.read.spelled c.1.spelled r.schedule.windows c.4)
one_verdict text t r Memory c = refl

-- reading the canonical spelling of a schedule returns the schedule
pub round_trip : RoundTrip
round_trip t i h =
    let s = canonical_spells t h in
    record {
      read = record {
        spelled = s;
        within = i.small;
        fits = none_too_large (canonical_text t) t s h;
      };
      schedule = i;
    }

-- the verdict on a term, by the tests in their order
module _ (t : Schedule) where
  small_as : is_within_limits t ≡ true → checked_as t ≡ with_numbers_at t None
  small_as w = ap (λ b. cond b (with_numbers_at t None) (Err TooBig)) w

  factors_as : (b : Bool) → has_factors t ≡ b →
      with_numbers_at t None ≡ cond b (with_kind t (kind_of t)) (Err BadFactor)
  factors_as b f = ap (λ b. cond b (with_kind t (kind_of t)) (Err BadFactor)) f

  windows_as : (o : Option OutputKind) (b : Bool) → IsSome o → has_windows t ≡ b →
      with_kind t o ≡ cond b (Ok t) (Err BadWindow)
  windows_as None b h w = absurd (no_kind None h refl)
  windows_as (Some k) b h w = ap (λ b. cond b (Ok t) (Err BadWindow)) w

  pub schedule_as : IsSchedule t → checked_as t ≡ Ok t
  schedule_as i = small_as i.small ∙ factors_as true i.factors
      ∙ windows_as (kind_of t) true i.kinded i.windows

  pub fault_as : (fault : TermFault) → IsTermCause t fault → (fault ≡ Memory → ⊥) →
      checked_as t ≡ Err fault
  fault_as (NoTerm at) c n = absurd c
  fault_as TooBig c n = ap (λ b. cond b (with_numbers_at t None) (Err TooBig)) c
  fault_as (BadNumber at) c n = absurd c
  fault_as BadFactor c n = small_as c.0 ∙ factors_as false c.1
  fault_as NoKind c n = small_as c.0 ∙ factors_as true c.1 ∙ ap (with_kind t) c.2
  fault_as BadWindow c n = small_as c.0 ∙ factors_as true c.1 ∙ windows_as (kind_of t) false c.2 c.3
  fault_as Memory c n = absurd (n refl)

never : (b : Bool) → b ≡ true → b ≡ false → ⊥
never b h k = let e : true ≡ false = sym h ∙ k in cc

-- a fault of the term is one of the text that spells it
term_cause : (text : List ℕ) (t : Schedule) → IsRead text t → (fault : TermFault) →
    IsTermCause t fault → IsCause text fault
term_cause text t r (NoTerm at) c = absurd c
term_cause text t r TooBig c = absurd (never (is_within_limits t) r.within c)
term_cause text t r (BadNumber at) c = absurd c
term_cause text t r BadFactor c = (t, r, c.1)
term_cause text t r NoKind c = (t, r, c.1, c.2)
term_cause text t r BadWindow c = (t, r, c.1, c.2, c.3)
term_cause text t r Memory c = tt

-- a fault of `check` is one of the text that spells the term
pub term_refused : {C : Type 0} (text : List ℕ) (t : Schedule) → IsRead text t →
    (answer : Result C TermFault) → IfErr answer (IsTermCause t) → IfErr answer (IsCause text)
term_refused text t r (Ok c) h = h
term_refused text t r (Err fault) h = term_cause text t r fault h

-- what `check` accepts is the schedule of the text
pub term_accepted : {C : Type 0} (view : C → Schedule) (text : List ℕ) (term : C)
    → IsRead text (view term) → (answer : Result C TermFault)
    → IfOk answer (λ c. c ≡ term) → IfOk answer (λ c. IsSchedule (view c))
    → IfOk answer (λ c. SpellsSchedule text (view c))
term_accepted view text term r (Ok c) h k =
    record { read = subst (λ x. IsRead text (view x)) (sym h) r; schedule = k }
term_accepted view text term r (Err fault) h k = k

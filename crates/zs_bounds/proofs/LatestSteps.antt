-- A step that goes on is no later than the limit that a schedule's form shows.
use Rattle.std.proofs.Common.{◌≡◌, ℕ, ◌-◌, ◌<◌, ◌≤◌, min, max, ◌⊎◌, inl, inr, Bool, true, false}
use Rattle.std.proofs.Common.{◌+◌, nat_le, if◌then◌else◌, Option, Some, None, [], ◌∷◌, refl, sym}
use Rattle.std.proofs.Common.{ap}
use Rattle.std.proofs.Common.{◌∙◌, subst, arith}
use Rattle.zs_term.specs.Saturating.{max_moment}
use Rattle.zs_term.specs.Schedule.{Schedule, Leaf, plain, counted, exponential, leaf, two, over}
use Rattle.zs_term.specs.Schedule.{both, either, and_then, while_input, while_output, collect_all}
use Rattle.zs_term.specs.Schedule.{mapped, reset_when}
use Rattle.zs_term.specs.Output.{number, number_in, compares, passes, picked}
use Rattle.zs_term.specs.declared.forms.Plain.TheVariants.{Forever, Identity, Elapsed}
use Rattle.zs_term.specs.declared.term.Cmp.{Cmp}
use Rattle.zs_term.specs.declared.term.Cmp.TheVariants.{Lt, Le, Eq, Ne, Gt, Ge}
use Rattle.zs_term.specs.declared.term.Test.{Test}
use Rattle.zs_term.specs.declared.term.Pick.{Pick}
use Rattle.zs_term.specs.declared.term.Pick.TheVariants.{Whole, First as PickFirst}
use Rattle.zs_term.specs.declared.term.Pick.TheVariants.{Second as PickSecond, Size as PickSize}
use Rattle.zs_term.specs.declared.term.Func.TheVariants.{First, Second, Size, Merge, Const, Add}
use Rattle.zs_term.specs.declared.term.Func.TheVariants.{Mul}
use Rattle.zs_step.specs.declared.decision.Decision.{Decision}
use Rattle.zs_step.specs.declared.decision.Decision.TheVariants.{Stop, Next}
use Rattle.zs_step.specs.History.{History, first_moment, last_input}
use Rattle.zs_step.specs.Answer.{Answer, answer_of, is_next, later_of, earlier_of, only_if}
use Rattle.zs_step.specs.Answer.{done_from}
use Rattle.zs_step.specs.Answer.{from_done, sequel, sequel_of}
use Rattle.zs_bounds.specs.LatestStep.{Spot, here, in_first, in_second, part_at, is_elapsed}
use Rattle.zs_bounds.specs.LatestStep.{shows_time, reads_time, passing_limit, limit_if}
use Rattle.zs_bounds.specs.LatestStep.{limit_sum, smaller_limit, greater_limit}
use Rattle.zs_bounds.specs.Bounds.{wait_of}
use Rattle.zs_bounds.specs.BoundsOf.{latest_step, longest_wait, real_limit, gap_limit, wait_limit}
use Rattle.zs_bounds.specs.declared.driver.Driver.{Driver}
use Rattle.zs_bounds.proofs.RealWaits.{long-rises}
use Rattle.zs_bounds.proofs.WaitLimits.{WaitsUpTo, Greater, greater-is, only_if-wait, later-wait}
use Rattle.zs_bounds.proofs.WaitLimits.{earlier-wait}
use Rattle.zs_bounds.proofs.WaitLimits.{waits-within}

-- ---- places that show the time

leaf-time : (l : Leaf) (q : ℕ × ℕ) (h : History) → is_elapsed l ≡ true →
    (answer_of (leaf l) (q ∷ h)).output ≡ number (q.0 - first_moment (q ∷ h))
leaf-time (plain Elapsed) q h e = refl
leaf-time (plain Forever) q h e = absurd cc
leaf-time (plain Identity) q h e = absurd cc
leaf-time (counted c n) q h e = absurd cc
leaf-time (exponential b f) q h e = absurd cc

time-shown : (s : Schedule) (p : Spot) (q : ℕ × ℕ) (h : History) → shows_time s p ≡ true →
    part_at p (answer_of s (q ∷ h)).output ≡ number (q.0 - first_moment (q ∷ h))
time-shown (leaf l) here q h e = leaf-time l q h e
time-shown (leaf l) (in_first p) q h e = absurd cc
time-shown (leaf l) (in_second p) q h e = absurd cc
time-shown (two both a b) here q h e = absurd cc
time-shown (two both a b) (in_first p) q h e = time-shown a p q h e
time-shown (two both a b) (in_second p) q h e = time-shown b p q h e
time-shown (two either a b) here q h e = absurd cc
time-shown (two either a b) (in_first p) q h e = time-shown a p q h e
time-shown (two either a b) (in_second p) q h e = time-shown b p q h e
time-shown (two and_then a b) p q h e = absurd cc
time-shown (over s (while_input t)) p q h e = time-shown s p q h e
time-shown (over s (while_output k t)) p q h e = time-shown s p q h e
time-shown (over s collect_all) p q h e = absurd cc
time-shown (over s (mapped First)) p q h e = time-shown s (in_first p) q h e
time-shown (over s (mapped Second)) p q h e = time-shown s (in_second p) q h e
time-shown (over s (mapped Size)) p q h e = absurd cc
time-shown (over s (mapped Merge)) p q h e = absurd cc
time-shown (over s (mapped (Const n))) p q h e = absurd cc
time-shown (over s (mapped (Add n))) p q h e = absurd cc
time-shown (over s (mapped (Mul n))) p q h e = absurd cc
time-shown (over s (reset_when k t)) p q h e = absurd cc

-- a test that reads the time
time-read : (k : Pick) (s : Schedule) (q : ℕ × ℕ) (h : History) → reads_time k s ≡ true →
    picked k (answer_of s (q ∷ h)).output ≡ q.0 - first_moment (q ∷ h)
time-read Whole s q h e = ap number_in (time-shown s here q h e)
time-read PickFirst s q h e = ap number_in (time-shown s (in_first here) q h e)
time-read PickSecond s q h e = ap number_in (time-shown s (in_second here) q h e)
time-read PickSize s q h e = absurd cc

-- ---- limits

-- a number that passes a test is within the test's limit
passing-within : (c : Cmp) (x n l : ℕ) → passing_limit c n ≡ Some l → compares c x n ≡ true → x ≤ l
passing-within Lt x n l e holds = let is : n - 1 ≡ l = cc in let lt : x < n = grind arith in
    omega (arith, is, lt)
passing-within Le x n l e holds = let is : n ≡ l = cc in let le : x ≤ n = grind arith in
    omega (arith, is, le)
passing-within Eq x n l e holds = let is : n ≡ l = cc in let same : x ≡ n = grind arith in
    omega (arith, is, same)
passing-within Ne x n l e holds = absurd cc
passing-within Gt x n l e holds = absurd cc
passing-within Ge x n l e holds = absurd cc

test-within : (reads : Bool) (t : Test) (x m l : ℕ) → limit_if reads t ≡ Some l → passes t x ≡ true
    → (reads ≡ true → x ≡ m) → m ≤ l
test-within true t x m l e holds is =
    subst (λ n. n ≤ l) (is refl) (passing-within t.cmp x t.than l e holds)
test-within false t x m l e holds is = absurd cc

-- what is within each of two limits is within the smaller one
smaller-within : (x y : Option ℕ) (m l : ℕ) → smaller_limit x y ≡ Some l →
    ((k : ℕ) → x ≡ Some k → m ≤ k) → ((k : ℕ) → y ≡ Some k → m ≤ k) → m ≤ l
smaller-within None y m l e first second = second l e
smaller-within (Some k) None m l e first second = first l e
smaller-within (Some k) (Some n) m l e first second =
    let is : min k n ≡ l = cc in
    let one = first k refl in
    let other = second n refl in
    omega (arith, is, one, other)

-- what is within one of two limits is within the greater one
greater-first : (x y : Option ℕ) (m l : ℕ) → greater_limit x y ≡ Some l →
    ((k : ℕ) → x ≡ Some k → m ≤ k) → m ≤ l
greater-first None y m l e first = absurd cc
greater-first (Some k) None m l e first = absurd cc
greater-first (Some k) (Some n) m l e first =
    let is : max k n ≡ l = cc in
    let one = first k refl in
    omega (arith, is, one)

greater-second : (x y : Option ℕ) (m l : ℕ) → greater_limit x y ≡ Some l →
    ((k : ℕ) → y ≡ Some k → m ≤ k) → m ≤ l
greater-second None y m l e second = absurd cc
greater-second (Some k) None m l e second = absurd cc
greater-second (Some k) (Some n) m l e second =
    let is : max k n ≡ l = cc in
    let other = second n refl in
    omega (arith, is, other)

-- ---- decisions to go on

both-go : (d e : Decision) → is_next (later_of d e) ≡ true → (is_next d ≡ true) × (is_next e ≡ true)
both-go (Next x) (Next y) goes = (refl, refl)
both-go (Next x) Stop goes = absurd cc
both-go Stop e goes = absurd cc

one-goes : (d e : Decision) → is_next (earlier_of d e) ≡ true →
    (is_next d ≡ true) ⊎ (is_next e ≡ true)
one-goes (Next x) e goes = inl refl
one-goes Stop e goes = inr goes

goes-if : (b : Bool) (d : Decision) → is_next (only_if b d) ≡ true → (b ≡ true) × (is_next d ≡ true)
goes-if true d goes = (refl, goes)
goes-if false d goes = absurd cc

-- ---- the time from a step up to the next one

-- after each step but the last, the next one is at most a wait and an attempt later, by the wait of
-- some results or one beside them
abbrev pub Gaps : Driver → Option ℕ → (History → Answer) → History → Type 0
Gaps d o a [] = Unit {0}
Gaps d o a (p ∷ []) = Unit {0}
Gaps d o a (p ∷ (q ∷ h)) =
    ((n k : ℕ) → o ≡ Some n → d.most ≡ Some k
    → p.0 ≤ q.0 + (longest_wait d.waits (max n (wait_of q.0 (a (q ∷ h)).decision)) + k))
    × Gaps d o a (q ∷ h)

-- a step at which results go on is within a limit of the time since the first one
abbrev GoesUpTo : Driver → Option ℕ → (History → Answer) → ℕ → Type 0
GoesUpTo d o a l = (q : ℕ × ℕ) (h : History) → Gaps d o a (q ∷ h) →
    is_next (a (q ∷ h)).decision ≡ true → q.0 - first_moment (q ∷ h) ≤ l

-- each wait of some results is one of others, or one beside them
abbrev WaitsAs : Option ℕ → (History → Answer) → Option ℕ → (History → Answer) → Type 0
WaitsAs o a o' b =
    (q : ℕ × ℕ) (h : History) (m : ℕ) → o' ≡ Some m → (n : ℕ) × ((o ≡ Some n)
    × (max n (wait_of q.0 (a (q ∷ h)).decision) ≤ max m (wait_of q.0 (b (q ∷ h)).decision)))

gaps-as : (d : Driver) (o o' : Option ℕ) (a b : History → Answer) (h : History) →
    WaitsAs o a o' b → Gaps d o a h → Gaps d o' b h
gaps-as d o o' a b [] each gaps = tt
gaps-as d o o' a b (p ∷ []) each gaps = tt
gaps-as d o o' a b (p ∷ (q ∷ h)) each gaps = (
  λ m k e f.
      (let found = each q h m e in
      let gap = gaps.0 found.0 k found.1.0 f in
      let rises =
      long-rises d.waits (max found.0 (wait_of q.0 (a (q ∷ h)).decision))
      (max m (wait_of q.0 (b (q ∷ h)).decision)) found.1.1 in
      omega (arith, gap, rises)),
  gaps-as d o o' a b (q ∷ h) each gaps.1,
)

-- the same waits
as-same : (o : Option ℕ) (a b : History → Answer) →
    ((q : ℕ × ℕ) (h : History)
    → wait_of q.0 (a (q ∷ h)).decision ≤ wait_of q.0 (b (q ∷ h)).decision)
    → WaitsAs o a o b
as-same o a b le q h m e = let less = le q h in (m, (e, omega (arith, less)))

-- those of the first of two parts that are stepped together
as-first : (o w : Option ℕ) (a b c : History → Answer) →
    ((v : ℕ) → w ≡ Some v → WaitsUpTo b v) →
    ((q : ℕ × ℕ) (h : History) (x : ℕ) → wait_of q.0 (a (q ∷ h)).decision ≤ x →
    wait_of q.0 (b (q ∷ h)).decision ≤ x → wait_of q.0 (c (q ∷ h)).decision ≤ x) →
    WaitsAs o c (greater_limit o w) a
as-first o w a b c up joins q h m e =
    let both : Greater o w m = greater-is o w m e in
    let is = both.is in
    let second = up both.v both.second q h in
    let x = wait_of q.0 (a (q ∷ h)).decision in
    let joined = joins q h (max x both.v) (omega arith) (omega (arith, second)) in
    (both.u, (both.first, omega (arith, joined, is)))

-- those of each part of `&&` and `||`
both-first : (d : Driver) (o : Option ℕ) (a b : Schedule) (h : History) →
    Gaps d o (answer_of (two both a b)) h → Gaps d (greater_limit o (wait_limit b)) (answer_of a) h
both-first d o a b h gaps =
    gaps-as d o (greater_limit o (wait_limit b)) (answer_of (two both a b)) (answer_of a) h
    (as-first o (wait_limit b) (answer_of a) (answer_of b) (answer_of (two both a b))
    (λ v is. waits-within b v is)
    (λ q g x first second. later-wait q.0 x (answer_of a (q ∷ g)).decision
    (answer_of b (q ∷ g)).decision first second)) gaps

both-second : (d : Driver) (o : Option ℕ) (a b : Schedule) (h : History) →
    Gaps d o (answer_of (two both a b)) h → Gaps d (greater_limit o (wait_limit a)) (answer_of b) h
both-second d o a b h gaps =
    gaps-as d o (greater_limit o (wait_limit a)) (answer_of (two both a b)) (answer_of b) h
    (as-first o (wait_limit a) (answer_of b) (answer_of a) (answer_of (two both a b))
    (λ v is. waits-within a v is)
    (λ q g x second first. later-wait q.0 x (answer_of a (q ∷ g)).decision
    (answer_of b (q ∷ g)).decision first second)) gaps

either-first : (d : Driver) (o : Option ℕ) (a b : Schedule) (h : History) →
    Gaps d o (answer_of (two either a b)) h →
    Gaps d (greater_limit o (wait_limit b)) (answer_of a) h
either-first d o a b h gaps =
    gaps-as d o (greater_limit o (wait_limit b)) (answer_of (two either a b)) (answer_of a) h
    (as-first o (wait_limit b) (answer_of a) (answer_of b) (answer_of (two either a b))
    (λ v is. waits-within b v is)
    (λ q g x first second. earlier-wait q.0 x (answer_of a (q ∷ g)).decision
    (answer_of b (q ∷ g)).decision first second)) gaps

either-second : (d : Driver) (o : Option ℕ) (a b : Schedule) (h : History) →
    Gaps d o (answer_of (two either a b)) h →
    Gaps d (greater_limit o (wait_limit a)) (answer_of b) h
either-second d o a b h gaps =
    gaps-as d o (greater_limit o (wait_limit a)) (answer_of (two either a b)) (answer_of b) h
    (as-first o (wait_limit a) (answer_of b) (answer_of a) (answer_of (two either a b))
    (λ v is. waits-within a v is)
    (λ q g x second first. earlier-wait q.0 x (answer_of a (q ∷ g)).decision
    (answer_of b (q ∷ g)).decision first second)) gaps

-- ---- two parts in turn

sum-is : (b : Bool) (x l : ℕ) → (if b then Some x else None) ≡ Some l → x ≡ l
sum-is true x l e = cc
sum-is false x l e = cc

-- the two limits of a sum
pub sum-parts : (x y : Option ℕ) (l : ℕ) → limit_sum x y ≡ Some l →
    (u : ℕ) × ((v : ℕ) × ((x ≡ Some u) × ((y ≡ Some v) × (u + v ≡ l))))
sum-parts None y l e = absurd cc
sum-parts (Some u) None l e = absurd cc
sum-parts (Some u) (Some v) l e =
    (u, (v, (refl, (refl, sum-is (nat_le (u + v) max_moment) (u + v) l e))))

-- a limit of a driver's waits has one of the schedule's
real-is : (d : Driver) (w : Option ℕ) (x : ℕ) → real_limit d w ≡ Some x →
    (n : ℕ) × ((w ≡ Some n) × (longest_wait d.waits n ≡ x))
real-is d None x e = absurd cc
real-is d (Some n) x e = (n, (refl, cc))

-- a part that isn't done went on at the last step, and wasn't done before
none-by : (o : Option History) (p : ℕ × ℕ) (n : Bool) → done_from o p n ≡ None →
    (o ≡ None) × (n ≡ true)
none-by (Some f) p n e = absurd cc
none-by None p true e = (refl, refl)
none-by None p false e = absurd cc

-- the results of two parts in turn, before the first one is done and from then on
turn-first : (a b : History → Answer) (h : History) → from_done a h ≡ None →
    (sequel a b h).decision ≡ (a h).decision
turn-first a b h e = ap (λ o. (sequel_of o (a h) b).decision) e

turn-second : (a b : History → Answer) (h f : History) → from_done a h ≡ Some f →
    (sequel a b h).decision ≡ (b f).decision
turn-second a b h f e = ap (λ o. (sequel_of o (a h) b).decision) e

first-gaps : (d : Driver) (o : Option ℕ) (a b : History → Answer) (p : ℕ × ℕ) (h : History) →
    from_done a h ≡ None → Gaps d o (sequel a b) (p ∷ h) → Gaps d o a (p ∷ h)
first-gaps d o a b p [] none gaps = tt
first-gaps d o a b p (r ∷ h) none gaps = (
  λ n k e f. subst (λ x. p.0 ≤ r.0 + (longest_wait d.waits (max n (wait_of r.0 x)) + k))
      (turn-first a b (r ∷ h) none) (gaps.0 n k e f),
  first-gaps d o a b r h
      (none-by (from_done a h) r (is_next (a (r ∷ h)).decision) none).0 gaps.1,
)

-- a first part with limits: of its steps that go on, of its waits and of those beside it
record Limited (d : Driver) (o : Option ℕ) (a : History → Answer) (l w n k : ℕ) : Type 0 where
  pub goes : GoesUpTo d o a l
  pub waits : WaitsUpTo a w
  pub beside : o ≡ Some n
  pub most : d.most ≡ Some k

-- the time up to the step at which the second part begins
abbrev begin_limit : Driver → ℕ → ℕ → ℕ → ℕ → ℕ
begin_limit d l w n k = l + (longest_wait d.waits (max n w) + k)

begin-late : (d : Driver) (o : Option ℕ) (a b : History → Answer) (l w n k : ℕ) (p : ℕ × ℕ)
    (h : History) → Limited d o a l w n k → Gaps d o (sequel a b) (p ∷ h) → from_done a h ≡ None →
    p.0 ≤ first_moment (p ∷ h) + begin_limit d l w n k
begin-late d o a b l w n k p [] part gaps none = omega arith
begin-late d o a b l w n k p (r ∷ h) part gaps none =
    let own = first-gaps d o a b p (r ∷ h) none gaps in
    let goes = (none-by (from_done a h) r (is_next (a (r ∷ h)).decision) none).1 in
    let late = part.goes r h own.1 goes in
    let gap = own.0 n k part.beside part.most in
    let wait = part.waits r h in
    let rises =
    long-rises d.waits (max n (wait_of r.0 (a (r ∷ h)).decision)) (max n w)
    (omega (arith, wait)) in
    omega (arith, late, gap, rises)

-- The history of a second part: it begins at most at a limit, and ends with the same step.
record Begun (d : Driver) (o : Option ℕ) (b : History → Answer) (l : ℕ) (p : ℕ × ℕ)
    (h f : History) : Type 0 where
  pub rest : History
  pub is : f ≡ p ∷ rest
  pub late : first_moment (p ∷ rest) ≤ first_moment (p ∷ h) + l
  pub gaps : Gaps d o b (p ∷ rest)

begun : (d : Driver) (o : Option ℕ) (a b : History → Answer) (l w n k : ℕ) (p : ℕ × ℕ)
    (h : History) (t : Option History) (goes : Bool) (f : History) → Limited d o a l w n k →
    Gaps d o (sequel a b) (p ∷ h) → from_done a h ≡ t → done_from t p goes ≡ Some f →
    Begun d o b (begin_limit d l w n k) p h f
begun d o a b l w n k p h None true f part gaps is done = absurd cc
begun d o a b l w n k p h None false f part gaps is done = record {
  rest = [];
  is = cc;
  late = begin-late d o a b l w n k p h part gaps is;
  gaps = tt;
}
begun d o a b l w n k p [] (Some x) goes f part gaps is done = absurd cc
begun d o a b l w n k p (r ∷ h) (Some x) goes f part gaps is done =
    let before : Begun d o b (begin_limit d l w n k) r h x =
    begun d o a b l w n k r h (from_done a h) (is_next (a (r ∷ h)).decision) x part
    gaps.1 refl is in
    let same : p ∷ x ≡ f = cc in
    let answers : (sequel a b (r ∷ h)).decision ≡ (b (r ∷ before.rest)).decision =
    turn-second a b (r ∷ h) x is ∙ ap (λ y. (b y).decision) before.is in
    record {
      rest = r ∷ before.rest;
      is = sym same ∙ ap (λ y. p ∷ y) before.is;
      late = before.late;
      gaps = (
        λ m j e g. subst (λ y. p.0 ≤ r.0 + (longest_wait d.waits (max m (wait_of r.0 y)) + j))
            answers (gaps.0 m j e g),
        before.gaps,
      );
    }

-- a step at which one of two parts in turn goes on
turn-within : (d : Driver) (o : Option ℕ) (a b : History → Answer) (l w n k v : ℕ) (q : ℕ × ℕ)
    (h : History) (t : Option History) → Limited d o a l w n k → GoesUpTo d o b v →
    Gaps d o (sequel a b) (q ∷ h) → from_done a (q ∷ h) ≡ t →
    is_next (sequel_of t (a (q ∷ h)) b).decision ≡ true →
    q.0 - first_moment (q ∷ h) ≤ begin_limit d l w n k + v
turn-within d o a b l w n k v q h None part second gaps is goes =
    let none = (none-by (from_done a h) q (is_next (a (q ∷ h)).decision) is).0 in
    let late = part.goes q h (first-gaps d o a b q h none gaps) goes in
    omega (arith, late)
turn-within d o a b l w n k v q h (Some f) part second gaps is goes =
    let later : Begun d o b (begin_limit d l w n k) q h f =
    begun d o a b l w n k q h (from_done a h) (is_next (a (q ∷ h)).decision) f part gaps refl is in
    let late =
    second q later.rest later.gaps
    (subst (λ y. is_next (b y).decision ≡ true) later.is goes) in
    let begins = later.late in
    omega (arith, late, begins)

-- ---- all forms

-- a step that goes on is within the limit
pub goes-within : (d : Driver) (o : Option ℕ) (s : Schedule) (l : ℕ) → latest_step d o s ≡ Some l →
    GoesUpTo d o (answer_of s) l
goes-within d o (leaf x) l e q h gaps goes = absurd cc
goes-within d o (two both a b) l e q h gaps goes =
    let each = both-go (answer_of a (q ∷ h)).decision (answer_of b (q ∷ h)).decision goes in
    smaller-within (latest_step d (greater_limit o (wait_limit b)) a)
    (latest_step d (greater_limit o (wait_limit a)) b) (q.0 - first_moment (q ∷ h)) l e
    (λ k is. goes-within d (greater_limit o (wait_limit b)) a k is q h
    (both-first d o a b (q ∷ h) gaps) each.0)
    (λ k is. goes-within d (greater_limit o (wait_limit a)) b k is q h
    (both-second d o a b (q ∷ h) gaps) each.1)
goes-within d o (two either a b) l e q h gaps goes =
    elim (one-goes (answer_of a (q ∷ h)).decision (answer_of b (q ∷ h)).decision goes) [
      | inl first ↦ greater-first (latest_step d (greater_limit o (wait_limit b)) a)
          (latest_step d (greater_limit o (wait_limit a)) b) (q.0 - first_moment (q ∷ h)) l e
          (λ k is. goes-within d (greater_limit o (wait_limit b)) a k is q h
          (either-first d o a b (q ∷ h) gaps) first)
      | inr second ↦ greater-second (latest_step d (greater_limit o (wait_limit b)) a)
          (latest_step d (greater_limit o (wait_limit a)) b) (q.0 - first_moment (q ∷ h)) l e
          (λ k is. goes-within d (greater_limit o (wait_limit a)) b k is q h
          (either-second d o a b (q ∷ h) gaps) second)
    ]
goes-within d o (two and_then a b) l e q h gaps goes =
    let gap = gap_limit d (greater_limit o (wait_limit a)) in
    let outer = sum-parts (limit_sum (latest_step d o a) gap) (latest_step d o b) l e in
    let inner = sum-parts (latest_step d o a) gap outer.0 outer.1.1.0 in
    let wait = sum-parts (real_limit d (greater_limit o (wait_limit a))) d.most inner.1.0
    inner.1.1.1.0 in
    let real = real-is d (greater_limit o (wait_limit a)) wait.0 wait.1.1.0 in
    let limits : Greater o (wait_limit a) real.0 =
    greater-is o (wait_limit a) real.0 real.1.0 in
    let part : Limited d o (answer_of a) inner.0 limits.v limits.u wait.1.0 = record {
      goes = λ r f. goes-within d o a inner.0 inner.1.1.0 r f;
      waits = waits-within a limits.v limits.second;
      beside = limits.first;
      most = wait.1.1.1.0;
    } in
    let within =
    turn-within d o (answer_of a) (answer_of b) inner.0 limits.v limits.u wait.1.0 outer.1.0 q h
    (from_done (answer_of a) (q ∷ h)) part
    (λ r f. goes-within d o b outer.1.0 outer.1.1.1.0 r f) gaps refl goes in
    let is = limits.is in
    let long : longest_wait d.waits (max limits.u limits.v) ≡ longest_wait d.waits real.0 =
    ap (λ x. longest_wait d.waits x) is in
    omega (arith, within, outer.1.1.1.1, inner.1.1.1.1, wait.1.1.1.1, real.1.1, long)
goes-within d o (over s (while_input t)) l e q h gaps goes =
    goes-within d o s l e q h
    (gaps-as d o o (answer_of (over s (while_input t))) (answer_of s) (q ∷ h)
    (as-same o (answer_of (over s (while_input t))) (answer_of s)
    (λ p g. only_if-wait p.0 (wait_of p.0 (answer_of s (p ∷ g)).decision) (passes t p.1)
    (answer_of s (p ∷ g)).decision (omega arith))) gaps)
    (goes-if (passes t (last_input (q ∷ h))) (answer_of s (q ∷ h)).decision goes).1
goes-within d o (over s (while_output k t)) l e q h gaps goes =
    let read = picked k (answer_of s (q ∷ h)).output in
    let each = goes-if (passes t read) (answer_of s (q ∷ h)).decision goes in
    let own = gaps-as d o o (answer_of (over s (while_output k t))) (answer_of s) (q ∷ h)
    (as-same o (answer_of (over s (while_output k t))) (answer_of s)
    (λ p g. only_if-wait p.0 (wait_of p.0 (answer_of s (p ∷ g)).decision)
    (passes t (picked k (answer_of s (p ∷ g)).output)) (answer_of s (p ∷ g)).decision
    (omega arith))) gaps in
    smaller-within (latest_step d o s) (limit_if (reads_time k s) t)
    (q.0 - first_moment (q ∷ h)) l e
    (λ n is. goes-within d o s n is q h own each.1)
    (λ n is. test-within (reads_time k s) t read (q.0 - first_moment (q ∷ h)) n is each.0
    (time-read k s q h))
goes-within d o (over s collect_all) l e q h gaps goes =
    goes-within d o s l e q h
    (gaps-as d o o (answer_of (over s collect_all)) (answer_of s) (q ∷ h)
    (as-same o (answer_of (over s collect_all)) (answer_of s) (λ p g. omega arith)) gaps) goes
goes-within d o (over s (mapped f)) l e q h gaps goes =
    goes-within d o s l e q h
    (gaps-as d o o (answer_of (over s (mapped f))) (answer_of s) (q ∷ h)
    (as-same o (answer_of (over s (mapped f))) (answer_of s) (λ p g. omega arith)) gaps) goes
goes-within d o (over s (reset_when k t)) l e q h gaps goes = absurd cc

-- A turn over the words of a state: the plan after its step.
use Rattle.std.proofs.Common.{◌≡◌, ℕ, suc, ◌+◌, ◌/◌, ◌<◌, ◌≤◌, Bool, true, false, Option, Some}
use Rattle.std.proofs.Common.{None, List, [], ◌∷◌, ◌++◌, length, drop, refl, sym, ap, ◌∙◌, subst}
use Rattle.std.proofs.Common.{arith}
use Rattle.std.specs.Prelude.{slice_index_or, slice_set, nat_le, if◌then◌else◌}
use Rattle.std.proofs.lemmas.Bool.Decides.{nat_tests}
use Rattle.std.proofs.lemmas.List.{length-append}
use Rattle.zs_term.specs.Schedule.{Schedule}
use Rattle.zs_step.specs.declared.decision.Decision.{Decision}
use Rattle.zs_step.specs.declared.decision.Decision.TheVariants.{Stop, Next}
use Rattle.zs_step.specs.History.{History, last_moment}
use Rattle.zs_step.specs.Answer.{answer_of}
use Rattle.zs_c.specs.declared.program.denial.Denial.{Denial}
use Rattle.zs_c.specs.declared.program.denial.Denial.TheVariants.{NoStep, Falls, NoRoom, NoProgram}
use Rattle.zs_c.specs.declared.program.denial.Denial.TheVariants.{OtherState, OtherSize}
use Rattle.zs_c.specs.declared.program.denial.Denial.TheVariants.{OtherVersion}
use Rattle.zs_c.specs.declared.turn.Turn.{Turn}
use Rattle.zs_c.specs.Code.{held_of, held_size}
use Rattle.zs_c.specs.Numbers.{decision_number, next_moment}
use Rattle.zs_c.specs.Plan.{moment_of, begin_of, plan_of, plan_number, plan_begin, plan_after}
use Rattle.zs_c.specs.Plan.{planned_after, step_of, IsFair, BeginsFairly, TellsPlan, IsTurnPlanned}
use Rattle.zs_c.specs.Plan.{IsTurnDenied}
use Rattle.zs_c.specs.Program.{IsProgram, KeepsProgramState}
use Rattle.zs_c.specs.Programs.{IsProgramStepped, IsStepSafe}
use Rattle.zs_c.specs.Told.{TellsStep}
use Rattle.zs_c.proofs.Codes.{held-length}
use Rattle.zs_c.proofs.Planning.{fair-begin}
use Rattle.zs_c.proofs.Running.{at-most}

-- ---- the plan of a decision

-- a decision by its number and its next moment
same-decision : (d e : Decision) → decision_number d ≡ decision_number e
    → next_moment d ≡ next_moment e → d ≡ e
same-decision Stop Stop numbered goes = refl
same-decision Stop (Next x) numbered goes = absurd (omega (arith, numbered))
same-decision (Next x) Stop numbered goes = absurd (omega (arith, numbered))
same-decision (Next x) (Next y) numbered goes = ap (λ (k : ℕ). Next k) goes

-- a begin, or none
choose-none : (b : Bool) (n m : ℕ) → nat_le n m ≡ b → m < n → (if b then Some n else None) ≡ None
choose-none true n m is less = absurd (omega (arith, less, at-most n m is))
choose-none false n m is less = refl

choose-some : (b : Bool) (n m : ℕ) → nat_le n m ≡ b → n ≤ m → (if b then Some n else None) ≡ Some n
choose-some true n m is le = refl
choose-some false n m is le = absurd (grind (arith, nat_tests))

-- a begin that no clock counts
pub late-plan : (turn : Turn) (m x : ℕ) → 18446744073709551615 < begin_of turn m x
    → plan_of turn m (Next x) ≡ None
late-plan turn m x late =
    choose-none (nat_le (begin_of turn m x) 18446744073709551615) (begin_of turn m x)
    18446744073709551615 refl late

-- a begin
pub some-plan : (turn : Turn) (m x begin : ℕ) → begin ≡ begin_of turn m x
    → begin ≤ 18446744073709551615 → plan_of turn m (Next x) ≡ Some begin
some-plan turn m x begin is counted =
    choose-some (nat_le (begin_of turn m x) 18446744073709551615) (begin_of turn m x)
    18446744073709551615 refl
    (subst (λ k. k ≤ 18446744073709551615) is counted) ∙ ap (λ (k : ℕ). Some k) (sym is)

-- ---- the words of a state, with the planned begin

-- the words after a step, with its plan
abbrev pub with_plan : Option ℕ → List ℕ → List ℕ
with_plan None ws = ws
with_plan (Some begin) ws = slice_set ws 3 (begin / 1000000)

-- the words after the first five are unchanged
after-plan : (o : Option ℕ) (n : ℕ) (ws : List ℕ)
    → drop (suc (suc (suc (suc (suc n))))) (with_plan o ws)
    ≡ drop (suc (suc (suc (suc (suc n))))) ws
after-plan None n ws = refl
after-plan (Some begin) n [] = refl
after-plan (Some begin) n (a ∷ []) = refl
after-plan (Some begin) n (a ∷ (b ∷ [])) = refl
after-plan (Some begin) n (a ∷ (b ∷ (c ∷ []))) = refl
after-plan (Some begin) n (a ∷ (b ∷ (c ∷ (d ∷ ws)))) = refl

-- and so are the first three
first-kept : (o : Option ℕ) (ws : List ℕ)
    → slice_index_or (with_plan o ws) 0 0 ≡ slice_index_or ws 0 0
first-kept None ws = refl
first-kept (Some begin) [] = refl
first-kept (Some begin) (a ∷ ws) = refl

second-kept : (o : Option ℕ) (ws : List ℕ)
    → slice_index_or (with_plan o ws) 1 0 ≡ slice_index_or ws 1 0
second-kept None ws = refl
second-kept (Some begin) [] = refl
second-kept (Some begin) (a ∷ []) = refl
second-kept (Some begin) (a ∷ (b ∷ ws)) = refl

third-kept : (o : Option ℕ) (ws : List ℕ)
    → slice_index_or (with_plan o ws) 2 0 ≡ slice_index_or ws 2 0
third-kept None ws = refl
third-kept (Some begin) [] = refl
third-kept (Some begin) (a ∷ []) = refl
third-kept (Some begin) (a ∷ (b ∷ [])) = refl
third-kept (Some begin) (a ∷ (b ∷ (c ∷ ws))) = refl

-- a turn of any words changes no more than a step does
pub plan-safe : (o : Option ℕ) (program old mid : List ℕ) (now : ℕ) → IsStepSafe program old mid now
    → IsStepSafe program old (with_plan o mid) now
plan-safe o program old mid now safe =
    let n = slice_index_or program 3 0 in
    let e : n + 5 ≡ suc (suc (suc (suc (suc n)))) = omega arith in
    record {
      version = first-kept o mid ∙ safe.version;
      check = second-kept o mid ∙ safe.check;
      moment = third-kept o mid ∙ safe.moment;
      behind = ap (λ k. drop k (with_plan o mid)) e ∙ after-plan o n mid ∙ sym
          (ap (λ k. drop k mid) e) ∙ safe.behind;
    }

-- the state with the planned begin
plan-kept : (o : Option ℕ) (t : Schedule) (h : History) (planned : ℕ) (ws : List ℕ)
    → KeepsProgramState t h planned ws
    → KeepsProgramState t h (planned_after planned o) (with_plan o ws)
plan-kept None t h planned ws k = k
plan-kept (Some begin) t h planned ws k =
    (k.0, ap (λ (v : List ℕ). slice_set v 3 (begin / 1000000)) k.1)

-- the planned begin of a state
planned-word : (t : Schedule) (h : History) (planned : ℕ) (ws : List ℕ)
    → KeepsProgramState t h planned ws → slice_index_or ws 3 0 ≡ planned
planned-word t h planned ws k = ap (λ (v : List ℕ). slice_index_or v 3 0) k.1

-- a step at the moment of a turn
turn-told : (o : Option ℕ) (t : Schedule) (turn : Turn) (h : History) (planned now : ℕ)
    (mid : List ℕ) (d : Decision) (count number begin : ℕ) →
    now ≡ moment_of planned turn
    → TellsStep t ((now, turn.input) ∷ h) (decision_number d) (next_moment d) count →
    KeepsProgramState t ((now, turn.input) ∷ h) planned mid → plan_of turn now d ≡ o →
    number ≡ plan_number o → begin ≡ plan_begin o → TellsPlan t h planned turn (with_plan o mid)
    number begin
turn-told o t turn h planned now mid d count number begin is told kept plans numbered begins =
    let e = (answer_of t ((now, turn.input) ∷ h)).decision in
    let there : plan_of turn now e ≡ o =
    ap (plan_of turn now) (sym (same-decision d e told.decision told.next)) ∙ plans in
    let plan : plan_after t h planned turn ≡ o =
    subst (λ m. plan_of turn m (answer_of t ((m, turn.input) ∷ h)).decision ≡ o) is there in
    let state : KeepsProgramState t (step_of planned turn ∷ h) planned mid =
    subst (λ m. KeepsProgramState t ((m, turn.input) ∷ h) planned mid) is kept in
    record {
      numbered = numbered ∙ ap plan_number (sym plan);
      begins = begins ∙ ap plan_begin (sym plan);
      kept = subst (λ k. KeepsProgramState t (step_of planned turn ∷ h) (planned_after planned k)
          (with_plan o mid)) (sym plan)
          (plan-kept o t (step_of planned turn ∷ h) planned mid state);
    }

-- a turn over the words of a state
pub turn-planned : (o : Option ℕ) (t : Schedule) (turn : Turn) (now : ℕ) (old mid : List ℕ)
    (d : Decision) (count number begin : ℕ) →
    now ≡ moment_of (slice_index_or old 3 0) turn
    → IsProgramStepped t old mid (now, turn.input) (decision_number d) (next_moment d) count
    → plan_of turn now d ≡ o →
    number ≡ plan_number o → begin ≡ plan_begin o → IsTurnPlanned t turn old (with_plan o mid)
    number begin
turn-planned o t turn now old mid d count number begin is stepped plans numbered begins =
    record {
      plan = λ h planned k all.
          turn-told o t turn h planned now mid d count number begin
          (is ∙ ap (λ w. moment_of w turn) (planned-word t h planned old k))
          (stepped.tells h planned k all) (stepped.state h planned k all) plans numbered begins;
      behind = after-plan o (held_size t) mid ∙ stepped.behind;
    }

-- ---- what a caller may rely on

-- a begin that is returned is the one that was chosen
chosen-begin : (b : Bool) (n number begin : ℕ) → number ≡ plan_number (if b then Some n else None)
    → begin ≡ plan_begin (if b then Some n else None) → number ≡ 0 → begin ≡ n
chosen-begin true n number begin numbered begins none = begins
chosen-begin false n number begin numbered begins none = absurd (omega (arith, numbered, none))

-- the begin of a turn is fair
plan-fair : (t : Schedule) (h : History) (planned : ℕ) (turn : Turn) (number begin : ℕ)
    (e : Decision) → turn.draw < 4294967296
    → (answer_of t (step_of planned turn ∷ h)).decision ≡ e
    → number ≡ plan_number (plan_of turn (moment_of planned turn) e)
    → begin ≡ plan_begin (plan_of turn (moment_of planned turn) e) → number ≡ 0
    → BeginsFairly t h planned turn begin
plan-fair t h planned turn number begin Stop small is numbered begins none =
    absurd (omega (arith, numbered, none))
plan-fair t h planned turn number begin (Next x) small is numbered begins none =
    let m = moment_of planned turn in
    let n = begin_of turn m x in
    let same : begin ≡ n =
    chosen-begin (nat_le n 18446744073709551615) n number begin numbered begins none in
    record {
      next = x;
      decides = is;
      fair = subst (IsFair turn m x) (sym same)
          (fair-begin turn m x small);
    }

pub turn-fair : (t : Schedule) (h : History) (planned : ℕ) (turn : Turn) (new : List ℕ)
    (number begin : ℕ) → turn.draw < 4294967296
    → TellsPlan t h planned turn new number begin → number ≡ 0 → BeginsFairly t h planned turn begin
turn-fair t h planned turn new number begin small told none =
    plan-fair t h planned turn number begin (answer_of t (step_of planned turn ∷ h)).decision small
    refl told.numbered told.begins none

-- a turn isn't denied, if the last step was no later than the planned begin
pub turn-denied : (t : Schedule) (h : History) (planned : ℕ) (program state : List ℕ)
    (turn : Turn) (why : Denial) → IsProgram program t
    → KeepsProgramState t h planned state → last_moment h ≤ planned
    → slice_index_or state 3 0 < 18446744073709551616 → turn.size ≡ 56
    → IsTurnDenied program state turn why → ⊥
turn-denied t h planned program state turn OtherSize is kept after small sized denied = denied sized
turn-denied t h planned program state turn NoStep is kept after small sized denied = denied
turn-denied t h planned program state turn NoProgram is kept after small sized denied = denied t is
turn-denied t h planned program state turn NoRoom is kept after small sized denied =
    let all : length state ≡ suc (suc (suc (suc (suc (length (held_of t h ++ kept.0)))))) =
    ap (λ (v : List ℕ). length v) kept.1 in
    omega (arith, denied t is, all, length-append (held_of t h) kept.0, held-length t [] h)
turn-denied t h planned program state turn OtherState is kept after small sized denied =
    denied t is (ap (λ (v : List ℕ). slice_index_or v 1 0) kept.1)
turn-denied t h planned program state turn OtherVersion is kept after small sized denied =
    denied (ap (λ (v : List ℕ). slice_index_or v 0 0) kept.1)
turn-denied t h planned program state turn Falls is kept after small sized denied =
    let last : slice_index_or state 2 0 ≡ last_moment h =
    ap (λ (v : List ℕ). slice_index_or v 2 0) kept.1 in
    omega (arith, denied, last, planned-word t h planned state kept, small, after)

-- The text of a report determines what is reported, line by line.
use Rattle.std.proofs.Common.{◌≡◌, ◌<◌, ◌+◌, ◌++◌, inl, ℕ, suc, List, [], ◌∷◌, Option, Some, None}
use Rattle.std.proofs.Common.{codes, refl, sym, ap, ◌∙◌, arith}
use Rattle.std.proofs.Common.{append_assoc}
use Rattle.std.specs.Prelude.{⊤, decimal}
use Rattle.std.specs.List.{All}
use Rattle.std.proofs.lemmas.List.{append_cancel_left}
use Rattle.zs_effect.specs.declared.script.Outcome.{Outcome}
use Rattle.zs_effect.specs.declared.script.Outcome.TheVariants.{Good, Bad}
use Rattle.zs_step.specs.declared.decision.Decision.{Decision}
use Rattle.zs_step.specs.declared.decision.Decision.TheVariants.{Stop, Next}
use Rattle.zs_drive.specs.declared.record.Ending.{Ending}
use Rattle.zs_drive.specs.declared.record.Ending.TheVariants.{Succeeded, Failed, Finished}
use Rattle.zs_step.specs.Answer.{Answer}
use Rattle.zs_drive.specs.Values.{AttemptedValue, EndedValue}
use Rattle.zs_term.specs.OutputText.{output_text}
use Rattle.zs_run.specs.Lines.{outcome_text, decision_text, step_line, step_lines, ended_lines}
use Rattle.zs_run.specs.Lines.{attempt_lines, attempts_lines}
use Rattle.zs_run.specs.Report.{last_moment, last_output, ending_text, end_line}
use Rattle.zs_run.specs.Distinct.{Fits, DecisionFits, OutcomeFits, StepFits, EndFits, AttemptFits}
use Rattle.zs_run.specs.Distinct.{EndingFits}
use Rattle.zs_run.proofs.Splits.{clash, first_of_both, rest_of_both, number_split, number_begins}
use Rattle.zs_run.proofs.OutputsApart.{output_split}

-- ---- a decision, an outcome

-- a number up to the end of its line
pub line_split : (m n : ℕ) (r s : List ℕ) → Fits m → Fits n
    → decimal m ++ (codes "\n" ++ r) ≡ decimal n ++ (codes "\n" ++ s) → (m ≡ n) × (r ≡ s)
line_split m n r s p q h =
    let parts = number_split m n (codes "\n" ++ r) (codes "\n" ++ s) p q (inl (omega arith))
    (inl (omega arith)) h in
    (parts.0, append_cancel_left (codes "\n") r s parts.1)

pub decision_split : (d e : Decision) (r s : List ℕ) → DecisionFits d → DecisionFits e
    → decision_text d ++ (codes "\n" ++ r) ≡ decision_text e ++ (codes "\n" ++ s)
    → (d ≡ e) × (r ≡ s)
decision_split Stop Stop r s p q h = (refl, append_cancel_left (codes "done\n") r s h)
decision_split Stop (Next y) r s p q h = absurd (clash 100 110 _ _ refl h)
decision_split (Next x) Stop r s p q h = absurd (clash 110 100 _ _ refl h)
decision_split (Next x) (Next y) r s p q h =
    let parts = line_split x y r s p q (append_cancel_left (codes "next ") _ _ h) in
    (ap Next parts.0, parts.1)

pub outcome_split : (o u : Outcome) (r s : List ℕ) → OutcomeFits o → OutcomeFits u
    → outcome_text o ++ (codes "\n" ++ r) ≡ outcome_text u ++ (codes "\n" ++ s) → (o ≡ u) × (r ≡ s)
outcome_split (Good x) (Good y) r s p q h =
    let parts = line_split x y r s p q (append_cancel_left (codes "ok ") _ _ h) in
    (ap Good parts.0, parts.1)
outcome_split (Good x) (Bad y) r s p q h = absurd (clash 111 101 _ _ refl h)
outcome_split (Bad x) (Good y) r s p q h = absurd (clash 101 111 _ _ refl h)
outcome_split (Bad x) (Bad y) r s p q h =
    let parts = line_split x y r s p q (append_cancel_left (codes "err ") _ _ h) in
    (ap Bad parts.0, parts.1)

-- ---- a step

-- the text doesn't begin with the line of a step
abbrev pub EndsSteps : List ℕ → Type 0
EndsSteps [] = ⊤
EndsSteps (c ∷ r) = c < 115

step_text : (n : ℕ) (x : Answer) (r : List ℕ)
    → step_line n x ++ r
    ≡ codes "step " ++ (decimal n ++ (codes " out "
    ++ (output_text x.output ++ (codes " " ++ (decision_text x.decision ++ (codes "\n" ++ r))))))
step_text n x r = simp append_assoc

step_split : (n : ℕ) (x y : Answer) (r s : List ℕ) → StepFits (Some x) → StepFits (Some y)
    → step_line n x ++ r ≡ step_line n y ++ s → (x ≡ y) × (r ≡ s)
step_split n x y r s p q h =
    let texts = append_cancel_left (codes "step ") _ _
    (sym (step_text n x r) ∙ h ∙ step_text n y s) in
    let behind = append_cancel_left (codes " out ") _ _
    (append_cancel_left (decimal n) _ _ texts) in
    let output = output_split x.output y.output _ _ p.0 q.0 (inl (omega arith))
    (inl (omega arith)) behind in
    let decision = decision_split x.decision y.decision r s p.1 q.1
    (append_cancel_left (codes " ") _ _ output.1) in
    ((λ i. record { output = output.0 i; decision = decision.0 i }), decision.1)

no_step : (n : ℕ) (x : Answer) (r s : List ℕ) → EndsSteps r → r ≡ step_line n x ++ s → ⊥
no_step n x [] s ends h = cc
no_step n x (c ∷ r) s ends h = let e : c ≡ 115 = first_of_both c 115 r _ (h ∙ step_text n x s) in
    omega arith

steps_split : (n : ℕ) (x y : Option Answer) (r s : List ℕ) → StepFits x → StepFits y → EndsSteps r
    → EndsSteps s
    → step_lines n x ++ r ≡ step_lines n y ++ s → (x ≡ y) × (r ≡ s)
steps_split n None None r s p q d e h = (refl, h)
steps_split n None (Some y) r s p q d e h = absurd (no_step n y r s d h)
steps_split n (Some x) None r s p q d e h = absurd (no_step n x s r e (sym h))
steps_split n (Some x) (Some y) r s p q d e h = let parts = step_split n x y r s p q h in
    (ap Some parts.0, parts.1)

-- ---- an attempt

ended_text : (n : ℕ) (x : EndedValue) (r : List ℕ)
    → ended_lines n (Some x) ++ r ≡ decimal x.at
    ++ (codes " " ++ (outcome_text x.outcome ++ (codes "\n" ++ (step_lines n x.step ++ r))))
ended_text n x r = simp append_assoc

ended_split : (n : ℕ) (x y : Option EndedValue) (r s : List ℕ) → EndFits x → EndFits y → EndsSteps r
    → EndsSteps s
    → ended_lines n x ++ r ≡ ended_lines n y ++ s → (x ≡ y) × (r ≡ s)
ended_split n None None r s p q d e h = (refl, append_cancel_left (codes " running\n") r s h)
ended_split n None (Some y) r s p q d e h =
    absurd (number_begins y.at _ _ 32 q.0 (inl (omega arith)) (sym (h ∙ ended_text n y s)))
ended_split n (Some x) None r s p q d e h =
    absurd (number_begins x.at _ _ 32 p.0 (inl (omega arith)) (sym (ended_text n x r) ∙ h))
ended_split n (Some x) (Some y) r s p q d e h =
    let texts = sym (ended_text n x r) ∙ h ∙ ended_text n y s in
    let at = number_split x.at y.at _ _ p.0 q.0 (inl (omega arith)) (inl (omega arith)) texts in
    let outcome = outcome_split x.outcome y.outcome _ _ p.1 q.1
    (append_cancel_left (codes " ") _ _ at.1) in
    let step = steps_split n x.step y.step r s p.2 q.2 d e outcome.1 in
    ((λ i. Some (record { at = at.0 i; outcome = outcome.0 i; step = step.0 i })), step.1)

attempt_text : (n : ℕ) (x : AttemptedValue) (r : List ℕ)
    → attempt_lines n x ++ r
    ≡ codes "attempt "
    ++ (decimal n
    ++ (codes " " ++ (decimal x.begun ++ (codes ".." ++ (ended_lines n x.ended ++ r)))))
attempt_text n x r = simp append_assoc

attempt_split : (n : ℕ) (x y : AttemptedValue) (r s : List ℕ) → AttemptFits x → AttemptFits y
    → EndsSteps r → EndsSteps s
    → attempt_lines n x ++ r ≡ attempt_lines n y ++ s → (x ≡ y) × (r ≡ s)
attempt_split n x y r s p q d e h =
    let texts = append_cancel_left (codes "attempt ") _ _
    (sym (attempt_text n x r) ∙ h ∙ attempt_text n y s) in
    let behind = append_cancel_left (codes " ") _ _ (append_cancel_left (decimal n) _ _ texts) in
    let begun = number_split x.begun y.begun _ _ p.0 q.0 (inl (omega arith))
    (inl (omega arith)) behind in
    let ended = ended_split n x.ended y.ended r s p.1 q.1 d e
    (append_cancel_left (codes "..") _ _ begun.1) in
    ((λ i. record { begun = begun.0 i; ended = ended.0 i }), ended.1)

-- ---- the attempts of a job

pub first_of_all : {X : Type 0} (P : X → Type 0) (x : X) (xs : List X) → All P (x ∷ xs) → P x
first_of_all P x xs all = all 0 x (omega arith)

pub others_of_all : {X : Type 0} (P : X → Type 0) (x : X) (xs : List X) → All P (x ∷ xs) → All P xs
others_of_all P x xs all = λ k d inside. all (suc k) d (omega arith)

attempts_end_steps : (n : ℕ) (xs : List AttemptedValue) (r : List ℕ) →
    EndsSteps (attempts_lines n xs ++ (codes "end " ++ r))
attempts_end_steps n [] r = omega arith
attempts_end_steps n (x ∷ xs) r = omega arith

more_attempts : (n : ℕ) (x : AttemptedValue) (xs : List AttemptedValue) (r : List ℕ)
    → attempts_lines n (x ∷ xs) ++ r ≡ attempt_lines n x ++ (attempts_lines (n + 1) xs ++ r)
more_attempts n x xs r = simp append_assoc

no_attempt : (n : ℕ) (x : AttemptedValue) (xs : List AttemptedValue) (r s : List ℕ) →
    codes "end " ++ r ≡ attempts_lines n (x ∷ xs) ++ s → ⊥
no_attempt n x xs r s h =
    clash 101 97 _ _ refl
    (h ∙ more_attempts n x xs s ∙ attempt_text n x (attempts_lines (n + 1) xs ++ s))

pub attempts_split : (n : ℕ) (xs ys : List AttemptedValue) (r s : List ℕ) → All AttemptFits xs
    → All AttemptFits ys
    → attempts_lines n xs ++ (codes "end " ++ r) ≡ attempts_lines n ys ++ (codes "end " ++ s)
    → (xs ≡ ys) × (r ≡ s)
attempts_split n [] [] r s p q h = (refl, append_cancel_left (codes "end ") r s h)
attempts_split n [] (y ∷ ys) r s p q h = absurd (no_attempt n y ys r (codes "end " ++ s) h)
attempts_split n (x ∷ xs) [] r s p q h = absurd (no_attempt n x xs s (codes "end " ++ r) (sym h))
attempts_split n (x ∷ xs) (y ∷ ys) r s p q h =
    let texts = sym (more_attempts n x xs (codes "end " ++ r)) ∙ h
    ∙ more_attempts n y ys (codes "end " ++ s) in
    let first = attempt_split n x y _ _ (first_of_all AttemptFits x xs p)
    (first_of_all AttemptFits y ys q)
    (attempts_end_steps (n + 1) xs r) (attempts_end_steps (n + 1) ys s) texts in
    let others = attempts_split (n + 1) xs ys r s (others_of_all AttemptFits x xs p)
    (others_of_all AttemptFits y ys q) first.1 in
    ((λ i. first.0 i ∷ others.0 i), others.1)

-- ---- the end of a job

-- the part of a job's last line after its ending
abbrev pub tail_of : ℕ → ℕ → List ℕ → List ℕ
tail_of moment polls r =
    codes " at " ++ (decimal moment ++ (codes " polls " ++ (decimal polls ++ (codes "\n" ++ r))))

-- the part of that line after `end `
abbrev pub end_text : ℕ → List AttemptedValue → Option Ending → ℕ → List ℕ → List ℕ
end_text horizon attempts None polls r = codes "unfinished" ++ tail_of horizon polls r
end_text horizon attempts (Some ending) polls r =
    ending_text attempts ending ++ tail_of (last_moment attempts) polls r

pub end_is : (horizon : ℕ) (attempts : List AttemptedValue) (ending : Option Ending) (polls : ℕ)
    (r : List ℕ)
    → end_line horizon attempts ending polls ++ r
    ≡ codes "end " ++ end_text horizon attempts ending polls r
end_is horizon attempts None polls r = simp append_assoc
end_is horizon attempts (Some ending) polls r = simp append_assoc

polls_split : (p q : ℕ) (r s : List ℕ) → Fits p → Fits q
    → codes " polls " ++ (decimal p ++ (codes "\n" ++ r))
    ≡ codes " polls " ++ (decimal q ++ (codes "\n" ++ s)) → (p ≡ q) × (r ≡ s)
polls_split p q r s f g h =
    line_split p q r s f g (append_cancel_left (codes " polls ") _ _ h)

-- the same moment on both sides
same_tail : (moment p q : ℕ) (r s : List ℕ) → Fits p → Fits q →
    tail_of moment p r ≡ tail_of moment q s → (p ≡ q) × (r ≡ s)
same_tail moment p q r s f g h =
    polls_split p q r s f g
    (append_cancel_left (decimal moment) _ _ (append_cancel_left (codes " at ") _ _ h))

pub ending_tells : (h k : ℕ) (attempts : List AttemptedValue) (x y : Option Ending) (p q : ℕ)
    (r s : List ℕ) → Fits h → Fits k
    → EndingFits x → EndingFits y → Fits p → Fits q
    → end_text h attempts x p r ≡ end_text k attempts y q s → (x ≡ y) × (p ≡ q) × (r ≡ s)
ending_tells h k attempts None None p q r s f g d e a b same =
    let moment = number_split h k _ _ f g (inl (omega arith)) (inl (omega arith))
    (append_cancel_left (codes "unfinished at ") _ _ same) in
    let parts = polls_split p q r s a b moment.1 in
    (refl, parts.0, parts.1)
ending_tells h k attempts None (Some (Succeeded y)) p q r s f g d e a b same =
    absurd (clash 117 115 _ _ refl same)
ending_tells h k attempts None (Some (Failed y)) p q r s f g d e a b same =
    absurd (clash 117 102 _ _ refl same)
ending_tells h k attempts None (Some Finished) p q r s f g d e a b same =
    absurd (clash 117 102 _ _ refl same)
ending_tells h k attempts (Some (Succeeded x)) None p q r s f g d e a b same =
    absurd (clash 115 117 _ _ refl same)
ending_tells h k attempts (Some (Succeeded x)) (Some (Succeeded y)) p q r s f g d e a b same =
    let value = number_split x y _ _ d e (inl (omega arith)) (inl (omega arith))
    (append_cancel_left (codes "succeeded ") _ _ same) in
    let parts = same_tail (last_moment attempts) p q r s a b value.1 in
    (ap (λ v. Some (Succeeded v)) value.0, parts.0, parts.1)
ending_tells h k attempts (Some (Succeeded x)) (Some (Failed y)) p q r s f g d e a b same =
    absurd (clash 115 102 _ _ refl same)
ending_tells h k attempts (Some (Succeeded x)) (Some Finished) p q r s f g d e a b same =
    absurd (clash 115 102 _ _ refl same)
ending_tells h k attempts (Some (Failed x)) None p q r s f g d e a b same =
    absurd (clash 102 117 _ _ refl same)
ending_tells h k attempts (Some (Failed x)) (Some (Succeeded y)) p q r s f g d e a b same =
    absurd (clash 102 115 _ _ refl same)
ending_tells h k attempts (Some (Failed x)) (Some (Failed y)) p q r s f g d e a b same =
    let code = number_split x y _ _ d e (inl (omega arith)) (inl (omega arith))
    (append_cancel_left (codes "failed ") _ _ same) in
    let parts = same_tail (last_moment attempts) p q r s a b code.1 in
    (ap (λ v. Some (Failed v)) code.0, parts.0, parts.1)
ending_tells h k attempts (Some (Failed x)) (Some Finished) p q r s f g d e a b same =
    absurd (clash 97 105 _ _ refl (rest_of_both 102 102 _ _ same))
ending_tells h k attempts (Some Finished) None p q r s f g d e a b same =
    absurd (clash 102 117 _ _ refl same)
ending_tells h k attempts (Some Finished) (Some (Succeeded y)) p q r s f g d e a b same =
    absurd (clash 102 115 _ _ refl same)
ending_tells h k attempts (Some Finished) (Some (Failed y)) p q r s f g d e a b same =
    absurd (clash 105 97 _ _ refl (rest_of_both 102 102 _ _ same))
ending_tells h k attempts (Some Finished) (Some Finished) p q r s f g d e a b same =
    let behind = append_cancel_left (last_output attempts) _ _
    (append_cancel_left (codes "finished ") _ _ same) in
    let parts = same_tail (last_moment attempts) p q r s a b behind in
    (refl, parts.0, parts.1)

-- Reports with equal texts are those of equal jobs.
use Rattle.std.proofs.Common.{◌≡◌, ◌++◌, ◌&&◌, inl, ℕ, suc, zero, List, [], ◌∷◌, length, Bool, true}
use Rattle.std.proofs.Common.{false, Option, Some, None, codes}
use Rattle.std.proofs.Common.{refl, sym, ap, subst, ◌∙◌, arith, append_assoc}
use Rattle.std.specs.Prelude.{decimal, nat_lt, nat_le, slice_index_or}
use Rattle.std.specs.List.{All, Any, flat_map, list_all}
use Rattle.std.proofs.lemmas.List.{append_cancel_left}
use Rattle.zs_drive.specs.declared.job.Mode.{Mode}
use Rattle.zs_drive.specs.declared.job.Mode.TheVariants.{Retry, Repeat}
use Rattle.zs_drive.specs.declared.record.Ending.{Ending}
use Rattle.zs_drive.specs.Values.{AttemptedValue}
use Rattle.zs_run.specs.Jobs.{is_name, is_name_byte}
use Rattle.zs_run.specs.Lines.{attempts_lines}
use Rattle.zs_run.specs.Report.{JobReport, mode_text, end_line, job_lines, report_text}
use Rattle.zs_agenda.specs.Ticks.{Ticks, every_ms, listed, horizon, IsClock}
use Rattle.zs_run.specs.Plan.{PlanRecord}
use Rattle.zs_run.specs.PlanReport.{report_of}
use Rattle.zs_run.specs.Distinct.{Fits, CanBeTold, reported}
use Rattle.zs_run.proofs.Splits.{clash, first_of_both, rest_of_both, number_split}
use Rattle.zs_run.proofs.LinesApart.{attempts_split, end_text, end_is, ending_tells, line_split}
use Rattle.zs_run.proofs.LinesApart.{first_of_all, others_of_all}

-- ---- names and modes

and_left : (a b : Bool) → (a && b) ≡ true → a ≡ true
and_left true b h = refl
and_left false b h = h

and_right : (a b : Bool) → (a && b) ≡ true → b ≡ true
and_right true b h = h
and_right false b h = absurd (let e : false ≡ true = h in cc)

name_bytes : (name : List ℕ) → is_name name ≡ true → list_all is_name_byte name ≡ true
unfolding is_name
name_bytes name h = and_right (nat_lt 0 (length name) && nat_le (length name) 64)
    (list_all is_name_byte name) h

no_space : (c : ℕ) → is_name_byte c ≡ true → c ≡ 32 → ⊥
unfolding is_name_byte
no_space c h e = let no : false ≡ true = subst (λ b. is_name_byte b ≡ true) e h in cc

bytes_split : (a b r s : List ℕ) → list_all is_name_byte a ≡ true → list_all is_name_byte b ≡ true
    → a ++ (codes " " ++ r) ≡ b ++ (codes " " ++ s) → (a ≡ b) × (r ≡ s)
bytes_split [] [] r s p q h = (refl, append_cancel_left (codes " ") r s h)
bytes_split [] (c ∷ b) r s p q h =
    absurd (no_space c (and_left (is_name_byte c) (list_all is_name_byte b) q)
    (sym (first_of_both 32 c r (b ++ (codes " " ++ s)) h)))
bytes_split (c ∷ a) [] r s p q h =
    absurd (no_space c (and_left (is_name_byte c) (list_all is_name_byte a) p)
    (first_of_both c 32 (a ++ (codes " " ++ r)) s h))
bytes_split (c ∷ a) (d ∷ b) r s p q h =
    let first = first_of_both c d (a ++ (codes " " ++ r)) (b ++ (codes " " ++ s)) h in
    let in_a = and_right (is_name_byte c) (list_all is_name_byte a) p in
    let in_b = and_right (is_name_byte d) (list_all is_name_byte b) q in
    let others = bytes_split a b r s in_a in_b (rest_of_both c d _ _ h) in
    ((λ i. first i ∷ others.0 i), others.1)

mode_split : (m n : Mode) (r s : List ℕ) →
    mode_text m ++ (codes "\n" ++ r) ≡ mode_text n ++ (codes "\n" ++ s) → (m ≡ n) × (r ≡ s)
mode_split Retry Retry r s h = (refl, append_cancel_left (codes "retry\n") r s h)
mode_split Retry Repeat r s h =
    absurd (clash 116 112 _ _ refl (append_cancel_left (codes "re") _ _ h))
mode_split Repeat Retry r s h =
    absurd (clash 112 116 _ _ refl (append_cancel_left (codes "re") _ _ h))
mode_split Repeat Repeat r s h = (refl, append_cancel_left (codes "repeat\n") r s h)

-- ---- a job

-- the end of a job, and the text after it
abbrev pub end_of : ℕ → JobReport → List ℕ → List ℕ
end_of h x r = end_text h x.attempts x.ending x.polls r

-- the text after the name, up to the end of the job
abbrev behind_name : JobReport → List ℕ → List ℕ
behind_name x r =
    codes " " ++ (mode_text x.mode ++ (codes "\n" ++ (attempts_lines 1 x.attempts ++ r)))

job_text : (h : ℕ) (x : JobReport) (r : List ℕ)
    → job_lines h x ++ r ≡ codes "job " ++ (x.name ++ behind_name x (codes "end " ++ end_of h x r))
job_text h x r =
    let end : List ℕ = end_line h x.attempts x.ending x.polls in
    let flat : job_lines h x ++ r ≡ codes "job " ++ (x.name ++ behind_name x (end ++ r)) =
    simp append_assoc in
    flat ∙ ap (λ t. codes "job " ++ (x.name ++ behind_name x t))
    (end_is h x.attempts x.ending x.polls r)

job_split : (h k : ℕ) (x y : JobReport) (r s : List ℕ) → Fits h → Fits k → CanBeTold x → CanBeTold y
    → job_lines h x ++ r ≡ job_lines k y ++ s → (x ≡ y) × (r ≡ s)
job_split h k x y r s f g p q same =
    let texts = append_cancel_left (codes "job ") _ _
    (sym (job_text h x r) ∙ same ∙ job_text k y s) in
    let name = bytes_split x.name y.name _ _ (name_bytes x.name p.name)
    (name_bytes y.name q.name) texts in
    let mode = mode_split x.mode y.mode _ _ name.1 in
    let attempts = attempts_split 1 x.attempts y.attempts _ _ p.attempts q.attempts mode.1 in
    let moved : end_text h y.attempts x.ending x.polls r ≡ end_of k y s =
    subst (λ a. end_text h a x.ending x.polls r ≡ end_of k y s) attempts.0 attempts.1 in
    let end = ending_tells h k y.attempts x.ending y.ending x.polls y.polls r s f g p.ending
    q.ending p.polls q.polls moved in (
      (λ i. record {
        name = name.0 i;
        mode = mode.0 i;
        attempts = attempts.0 i;
        ending = end.0 i;
        polls = end.1 i;
      }),
      end.2,
    )

-- ---- a report

-- the last line
abbrev total : ℕ → List ℕ
total p = codes "polls " ++ (decimal p ++ codes "\n")

-- the jobs' lines, followed by the last line
abbrev lines_of : ℕ → List JobReport → ℕ → List ℕ
lines_of h xs p = flat_map (job_lines h) xs ++ total p

report_is : (h : ℕ) (xs : List JobReport) (p : ℕ) → report_text h xs p ≡ lines_of h xs p
report_is h xs p =
    append_assoc (flat_map (job_lines h) xs ++ codes "polls ") (decimal p) (codes "\n")
    ∙ append_assoc (flat_map (job_lines h) xs) (codes "polls ") (decimal p ++ codes "\n")

more_jobs : (h : ℕ) (x : JobReport) (xs : List JobReport) (p : ℕ) →
    lines_of h (x ∷ xs) p ≡ job_lines h x ++ lines_of h xs p
more_jobs h x xs p = append_assoc (job_lines h x) (flat_map (job_lines h) xs) (total p)

no_job : (h k p q : ℕ) (x : JobReport) (xs : List JobReport) →
    lines_of h [] p ≡ lines_of k (x ∷ xs) q → ⊥
no_job h k p q x xs same =
    clash 112 106 _ _ refl (same ∙ more_jobs k x xs q ∙ job_text k x (lines_of k xs q))

lines_tell : (h k : ℕ) (xs ys : List JobReport) (p q : ℕ) → Fits h → Fits k → All CanBeTold xs
    → All CanBeTold ys
    → lines_of h xs p ≡ lines_of k ys q → (xs ≡ ys) × (total p ≡ total q)
lines_tell h k [] [] p q f g c d same = (refl, same)
lines_tell h k [] (y ∷ ys) p q f g c d same = absurd (no_job h k p q y ys same)
lines_tell h k (x ∷ xs) [] p q f g c d same = absurd (no_job k h q p x xs (sym same))
lines_tell h k (x ∷ xs) (y ∷ ys) p q f g c d same =
    let first = job_split h k x y _ _ f g (first_of_all CanBeTold x xs c)
    (first_of_all CanBeTold y ys d)
    (sym (more_jobs h x xs p) ∙ same ∙ more_jobs k y ys q) in
    let others = lines_tell h k xs ys p q f g (others_of_all CanBeTold x xs c)
    (others_of_all CanBeTold y ys d) first.1 in
    ((λ i. first.0 i ∷ others.0 i), others.1)

-- equal reports are those of equal jobs
pub equal_jobs : (h k : ℕ) (xs ys : List JobReport) (p q : ℕ) → Fits h → Fits k → All CanBeTold xs
    → All CanBeTold ys
    → report_text h xs p ≡ report_text k ys q → xs ≡ ys
equal_jobs h k xs ys p q f g c d same =
    (lines_tell h k xs ys p q f g c d (sym (report_is h xs p) ∙ same ∙ report_is k ys q)).0

-- their totals are the same
pub equal_totals : (h k : ℕ) (xs ys : List JobReport) (p q : ℕ) → Fits h → Fits k → All CanBeTold xs
    → All CanBeTold ys
    → Fits p → Fits q → report_text h xs p ≡ report_text k ys q → p ≡ q
equal_totals h k xs ys p q f g c d a b same =
    let last =
    (lines_tell h k xs ys p q f g c d (sym (report_is h xs p) ∙ same ∙ report_is k ys q)).1 in
    (line_split p q [] [] a b (append_cancel_left (codes "polls ") _ _ last)).0

-- ---- the horizon

end_tells : (h k : ℕ) (attempts : List AttemptedValue) (ending : Option Ending) (p : ℕ)
    (r s : List ℕ) → Fits h → Fits k
    → ending ≡ None → end_text h attempts ending p r ≡ end_text k attempts ending p s → h ≡ k
end_tells h k attempts None p r s f g ending_is same =
    (number_split h k _ _ f g (inl (omega arith)) (inl (omega arith))
    (append_cancel_left (codes "unfinished at ") _ _ same)).0
end_tells h k attempts (Some ending) p r s f g ending_is same =
    absurd (let e : Some ending ≡ None = ending_is in cc)

job_tells : (h k : ℕ) (x : JobReport) (r s : List ℕ) → Fits h → Fits k → x.ending ≡ None →
    job_lines h x ++ r ≡ job_lines k x ++ s → h ≡ k
job_tells h k x r s f g ending_is same =
    let texts = append_cancel_left (codes "job ") _ _
    (sym (job_text h x r) ∙ same ∙ job_text k x s) in
    let mode = append_cancel_left (codes " ") _ _ (append_cancel_left x.name _ _ texts) in
    let attempts = append_cancel_left (codes "\n") _ _
    (append_cancel_left (mode_text x.mode) _ _ mode) in
    let end = append_cancel_left (codes "end ") _ _
    (append_cancel_left (attempts_lines 1 x.attempts) _ _ attempts) in
    end_tells h k x.attempts x.ending x.polls r s f g ending_is end

unfinished_here : (x y : JobReport) (xs : List JobReport) → slice_index_or (x ∷ xs) 0 y ≡ y →
    y.ending ≡ None → x.ending ≡ None
unfinished_here x y xs is ending_is = let same : x ≡ y = is in
    ap (λ job. job.ending) same ∙ ending_is

lines_tell_horizon : (h k : ℕ) (xs : List JobReport) (p q : ℕ) → Fits h → Fits k → All CanBeTold xs
    → Any (λ job. job.ending ≡ None) xs → lines_of h xs p ≡ lines_of k xs q → h ≡ k
lines_tell_horizon h k [] p q f g c (i, y, inside, is, ending_is) same = absurd (omega arith)
lines_tell_horizon h k (x ∷ xs) p q f g c (zero, y, inside, is, ending_is) same =
    job_tells h k x _ _ f g (unfinished_here x y xs is ending_is)
    (sym (more_jobs h x xs p) ∙ same ∙ more_jobs k x xs q)
lines_tell_horizon h k (x ∷ xs) p q f g c (suc i, y, inside, is, ending_is) same =
    let first = first_of_all CanBeTold x xs c in
    let rest = (job_split h k x x _ _ f g first first
    (sym (more_jobs h x xs p) ∙ same ∙ more_jobs k x xs q)).1 in
    lines_tell_horizon h k xs p q f g (others_of_all CanBeTold x xs c)
    (i, y, omega arith, is, ending_is) rest

-- if a job is unfinished, their horizons are the same
pub equal_horizons : (h k : ℕ) (xs ys : List JobReport) (p q : ℕ) → Fits h → Fits k
    → All CanBeTold xs → All CanBeTold ys
    → Any (λ job. job.ending ≡ None) xs → report_text h xs p ≡ report_text k ys q → h ≡ k
equal_horizons h k xs ys p q f g c d some same =
    let jobs : xs ≡ ys = equal_jobs h k xs ys p q f g c d same in
    let again : report_text h xs p ≡ report_text k xs q =
    same ∙ ap (λ zs. report_text k zs q) (sym jobs) in
    lines_tell_horizon h k xs p q f g c some (sym (report_is h xs p) ∙ again ∙ report_is k xs q)

-- ---- plans

horizon_fits : (clock : Ticks) → IsClock clock → Fits (horizon clock)
horizon_fits (every_ms last) is = omega arith
horizon_fits (listed ticks) is = omega (arith, is.limit)

-- plans with the same report have the same reports of jobs
pub equal_reports : (p q : PlanRecord) → IsClock p.clock → IsClock q.clock
    → All CanBeTold (reported p) → All CanBeTold (reported q)
    → report_of p ≡ report_of q → reported p ≡ reported q
equal_reports p q f g c d same =
    equal_jobs (horizon p.clock) (horizon q.clock) (reported p) (reported q) _ _
    (horizon_fits p.clock f) (horizon_fits q.clock g) c d same

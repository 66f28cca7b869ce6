-- The computed verdict on a text agrees with its spelling and causes.
use Rattle.std.proofs.Common.{◌≡◌, ℕ, List, [], ◌∷◌, ◌++◌, length, Bool, true, false, cond, Option}
use Rattle.std.proofs.Common.{Some, None, refl, sym, ap, ◌∙◌, subst, append_assoc, Ok, Err}
use Rattle.std.specs.Prelude.{Result, IfOk, IfErr, MatchResult, IsSome}
use Rattle.zs_term.specs.Schedule.{Schedule, is_within_limits, has_factors, has_windows}
use Rattle.zs_term.specs.OutputKind.{OutputKind}
use Rattle.zs_term.specs.Kinds.{kind_of}
use Rattle.zs_term.specs.Token.{Placed, lexed}
use Rattle.zs_term.specs.Grammar.{Spells}
use Rattle.zs_term.specs.Machine.{Frame, Stage, start, opening, counting, exp_opening, exp_counting}
use Rattle.zs_term.specs.Machine.{based, factored, closing, after, dotted, method, picking, testing}
use Rattle.zs_term.specs.Machine.{comparing, mapping, scaling, State, at, step, run, value, plant}
use Rattle.zs_term.specs.Causes.{tokens_of, TextSpells, IsNoTermAt, refused, no_token, unfinished}
use Rattle.zs_term.specs.Causes.{first_huge, IsRead, SpellsSchedule, IsCause}
use Rattle.zs_term.specs.Verdict.{finished_at, go_on, term_from, spelled_term, with_kind}
use Rattle.zs_term.specs.Verdict.{with_numbers_at, judged, verdict_of, VerdictIsTheOne}
use Rattle.zs_term.specs.declared.fault.TermFault.{TermFault}
use Rattle.zs_term.specs.declared.fault.TermFault.TheVariants.{TooBig, BadFactor, BadWindow, Memory}
use Rattle.zs_term.proofs.Completeness.{run_append, append_nil}
use Rattle.zs_term.proofs.Soundness.{sound}
use Rattle.zs_term.proofs.Runs.{goes_on, goes_nowhere, spells_to, planted}
use Rattle.zs_term.proofs.Progress.{tokens_append}
use Rattle.zs_term.proofs.Verdicts.{one_fault, one_verdict, same_term}

-- the term that the text spells, or the place that `NoTerm` reports
abbrev IsSpelledTerm : List ℕ → Result Schedule ℕ → Type 0
IsSpelledTerm text (Ok t) = TextSpells text t
IsSpelledTerm text (Err place) = IsNoTermAt text place

module _ (text : List ℕ) where
  -- the tokens so far lead to a state
  abbrev Leads : List Placed → State Schedule ℕ → Type 0
  Leads done s = run plant (Some (at [] start)) (tokens_of done) ≡ Some s

  -- after all tokens, at a place at which no token begins
  stopped_at : (place : ℕ) (s : State Schedule ℕ) → (lexed text).stop ≡ Some place →
      Leads (lexed text).tokens s → IsNoTermAt text place
  stopped_at place s e goes =
      no_token place e (goes_on plant (tokens_of (lexed text).tokens) s goes)

  -- after all tokens, at the end, in a state to which no whole term leads
  not_whole : (s : State Schedule ℕ) → (lexed text).stop ≡ None → Leads (lexed text).tokens s →
      ((t : Schedule) → s ≡ at [] (after t) → ⊥) → IsNoTermAt text (length text)
  not_whole s e goes never = unfinished e (goes_on plant (tokens_of (lexed text).tokens) s goes)
      (λ t h. let go = spells_to plant (tokens_of (lexed text).tokens) t h in
      let same : Some s ≡ Some (at [] (after (value plant t))) = sym goes ∙ go in
      let state : s ≡ at [] (after (value plant t)) = cc in never (value plant t) state)

  whole : (t : Schedule) → (lexed text).stop ≡ None → Leads (lexed text).tokens (at [] (after t)) →
      TextSpells text t
  whole t e goes =
      let spelled = sound plant (tokens_of (lexed text).tokens) t goes in
      record {
        to_the_end = e;
        spelled = subst (Spells (tokens_of (lexed text).tokens))
            (sym (planted spelled.0) ∙ spelled.2) spelled.1;
      }

  at_the_end : (fs : List (Frame Schedule)) (stage : Stage Schedule ℕ) → (lexed text).stop ≡ None →
      Leads (lexed text).tokens (at fs stage) →
      IsSpelledTerm text (finished_at (length text) fs stage)
  at_the_end [] (after t) e goes = whole t e goes
  at_the_end [] start e goes =
      not_whole _ e goes (λ t h. let m : ◌≡◌ {A = Stage Schedule ℕ} start (after t) =
      ap (λ s. s.stage) h in cc)
  at_the_end [] (opening u) e goes =
      not_whole _ e goes (λ t h. let m : ◌≡◌ {A = Stage Schedule ℕ} (opening u) (after t) =
      ap (λ s. s.stage) h in cc)
  at_the_end [] (counting u) e goes =
      not_whole _ e goes (λ t h. let m : ◌≡◌ {A = Stage Schedule ℕ} (counting u) (after t) =
      ap (λ s. s.stage) h in cc)
  at_the_end [] exp_opening e goes =
      not_whole _ e goes (λ t h. let m : ◌≡◌ {A = Stage Schedule ℕ} exp_opening (after t) =
      ap (λ s. s.stage) h in cc)
  at_the_end [] exp_counting e goes =
      not_whole _ e goes (λ t h. let m : ◌≡◌ {A = Stage Schedule ℕ} exp_counting (after t) =
      ap (λ s. s.stage) h in cc)
  at_the_end [] (based n) e goes =
      not_whole _ e goes (λ t h. let m : ◌≡◌ {A = Stage Schedule ℕ} (based n) (after t) =
      ap (λ s. s.stage) h in cc)
  at_the_end [] (factored n) e goes =
      not_whole _ e goes (λ t h. let m : ◌≡◌ {A = Stage Schedule ℕ} (factored n) (after t) =
      ap (λ s. s.stage) h in cc)
  at_the_end [] (closing a) e goes =
      not_whole _ e goes (λ t h. let m : ◌≡◌ {A = Stage Schedule ℕ} (closing a) (after t) =
      ap (λ s. s.stage) h in cc)
  at_the_end [] (dotted a) e goes =
      not_whole _ e goes (λ t h. let m : ◌≡◌ {A = Stage Schedule ℕ} (dotted a) (after t) =
      ap (λ s. s.stage) h in cc)
  at_the_end [] (method k a) e goes =
      not_whole _ e goes (λ t h. let m : ◌≡◌ {A = Stage Schedule ℕ} (method k a) (after t) =
      ap (λ s. s.stage) h in cc)
  at_the_end [] (picking k a) e goes =
      not_whole _ e goes (λ t h. let m : ◌≡◌ {A = Stage Schedule ℕ} (picking k a) (after t) =
      ap (λ s. s.stage) h in cc)
  at_the_end [] (testing a j) e goes =
      not_whole _ e goes (λ t h. let m : ◌≡◌ {A = Stage Schedule ℕ} (testing a j) (after t) =
      ap (λ s. s.stage) h in cc)
  at_the_end [] (comparing a j c) e goes =
      not_whole _ e goes (λ t h. let m : ◌≡◌ {A = Stage Schedule ℕ} (comparing a j c) (after t) =
      ap (λ s. s.stage) h in cc)
  at_the_end [] (mapping a) e goes =
      not_whole _ e goes (λ t h. let m : ◌≡◌ {A = Stage Schedule ℕ} (mapping a) (after t) =
      ap (λ s. s.stage) h in cc)
  at_the_end [] (scaling a g) e goes =
      not_whole _ e goes (λ t h. let m : ◌≡◌ {A = Stage Schedule ℕ} (scaling a g) (after t) =
      ap (λ s. s.stage) h in cc)
  at_the_end (f ∷ fs) stage e goes =
      not_whole _ e goes (λ t h. let m : ◌≡◌ {A = List (Frame Schedule)} (f ∷ fs) [] =
      ap (λ s. s.frames) h in cc)

  behind_all : (stop : Option ℕ) (s : State Schedule ℕ) → (lexed text).stop ≡ stop →
      Leads (lexed text).tokens s → IsSpelledTerm text (term_from (length text) stop s [])
  behind_all (Some place) s e goes = stopped_at place s e goes
  behind_all None s e goes = at_the_end s.frames s.stage e goes

  -- the tokens before a place lead on by one more token
  led : (done : List Placed) (s : State Schedule ℕ) (p : Placed) (o : Option (State Schedule ℕ)) →
      Leads done s → step plant (Some s) p.token ≡ o →
      run plant (Some (at [] start)) (tokens_of (done ++ p ∷ [])) ≡ o
  led done s p o goes e =
      ap (run plant (Some (at [] start))) (tokens_append done (p ∷ []))
      ∙ run_append plant (Some (at [] start)) (tokens_of done) (p.token ∷ [])
      ∙ ap (λ u. run plant u (p.token ∷ [])) goes ∙ e

  from_here : (done ps : List Placed) (s : State Schedule ℕ) → (lexed text).tokens ≡ done ++ ps →
      Leads done s → IsSpelledTerm text (term_from (length text) (lexed text).stop s ps)
  from_here done [] s e goes =
      behind_all (lexed text).stop s refl
      (subst (λ ts. Leads ts s) (sym (e ∙ append_nil done)) goes)
  from_here done (p ∷ ps) s e goes = one_on (step plant (Some s) p.token) refl (λ next k. from_here
      (done ++ p ∷ []) ps next (e ∙ sym (append_assoc done (p ∷ []) ps))
      (led done s p (Some next) goes k)) where
        one_on : (o : Option (State Schedule ℕ)) → step plant (Some s) p.token ≡ o
            → ((next : State Schedule ℕ) → step plant (Some s) p.token ≡ Some next
            → IsSpelledTerm text (term_from (length text) (lexed text).stop next ps))
            → IsSpelledTerm text
            (go_on p.place o (λ next. term_from (length text) (lexed text).stop next ps))
        one_on None k rest =
            refused done p ps e (goes_on plant (tokens_of done) s goes)
            (goes_nowhere plant (tokens_of done ++ p.token ∷ [])
            (ap (run plant (Some (at [] start)))
            (sym (tokens_append done (p ∷ []))) ∙ led done s p None goes k))
        one_on (Some next) k rest = rest next k

  spelled : IsSpelledTerm text (spelled_term text)
  spelled = from_here [] (lexed text).tokens (at [] start) refl refl

  -- what the verdict must satisfy
  abbrev IsVerdict : Result Schedule TermFault → Type 0
  IsVerdict verdict = MatchResult verdict (λ t. SpellsSchedule text t)
      (λ fault. IsCause text fault × (fault ≡ Memory → ⊥))

  kinded : (t : Schedule) (o : Option OutputKind) → IsRead text t → has_factors t ≡ true →
      kind_of t ≡ o → IsVerdict (with_kind t o)
  kinded t None r f e = ((t, r, f, e), λ m. cc)
  kinded t (Some k) r f e = on (has_windows t) refl where
    some : IsSome (kind_of t)
    some = subst IsSome (sym e) refl

    on : (b : Bool) → has_windows t ≡ b → IsVerdict (cond b (Ok t) (Err BadWindow))
    on true w = record {
      read = r;
      schedule = record {
        small = r.within;
        factors = f;
        kinded = some;
        windows = w;
      };
    }
    on false w = ((t, r, f, some, w), λ m. cc)

  numbered : (t : Schedule) (o : Option ℕ) → TextSpells text t → is_within_limits t ≡ true →
      first_huge (lexed text).tokens ≡ o → IsVerdict (with_numbers_at t o)
  numbered t (Some place) s w e = ((t, s, w, e), λ m. cc)
  numbered t None s w e = on (has_factors t) refl where
    on : (b : Bool) → has_factors t ≡ b →
        IsVerdict (cond b (with_kind t (kind_of t)) (Err BadFactor))
    on true f = kinded t (kind_of t) (record { spelled = s; within = w; fits = e }) f refl
    on false f = ((t, record { spelled = s; within = w; fits = e }, f), λ m. cc)

  verdict : (r : Result Schedule ℕ) → IsSpelledTerm text r → IsVerdict (judged text r)
  verdict (Err place) h = (h, λ m. cc)
  verdict (Ok t) h = on (is_within_limits t) refl where
    on : (b : Bool) → is_within_limits t ≡ b →
        IsVerdict (cond b (with_numbers_at t (first_huge (lexed text).tokens)) (Err TooBig))
    on true w = numbered t (first_huge (lexed text).tokens) h w refl
    on false w = ((t, h, w), λ m. cc)

-- the computed schedule is the one that the text spells, and the computed fault is the first
pub verdict_is_the_one : VerdictIsTheOne
verdict_is_the_one text = verdict text (spelled_term text) (spelled text)

-- a result that satisfies the relations is the computed verdict
module _ (text : List ℕ) where
  schedule_is : (t : Schedule) (v : Result Schedule TermFault) → SpellsSchedule text t →
      IsVerdict text v → v ≡ Ok t
  schedule_is t (Ok u) h k = ap Ok (same_term text u t k.read.spelled h.read.spelled)
  schedule_is t (Err fault) h k = absurd (k.1 (one_verdict text t h fault k.0))

  fault_is : (fault : TermFault) (v : Result Schedule TermFault) → IsCause text fault →
      (fault ≡ Memory → ⊥) → IsVerdict text v → v ≡ Err fault
  fault_is fault (Ok u) h n k = absurd (n (one_verdict text u k fault h))
  fault_is fault (Err other) h n k = ap Err (one_fault text other fault k.0 h k.1 n)

  pub verdict_of_schedule : (t : Schedule) → SpellsSchedule text t → verdict_of text ≡ Ok t
  verdict_of_schedule t h = schedule_is t (verdict_of text) h (verdict_is_the_one text)

  pub verdict_of_fault : (fault : TermFault) → IsCause text fault → (fault ≡ Memory → ⊥) →
      verdict_of text ≡ Err fault
  verdict_of_fault fault h n = fault_is fault (verdict_of text) h n (verdict_is_the_one text)

  -- the same for a result whose clauses say so
  pub verdict_said : {C : Type 0} (view : C → Schedule) (answer : Result C TermFault)
      → IfOk answer (λ c. SpellsSchedule text (view c)) → IfErr answer (IsCause text)
      → MatchResult answer (λ c. verdict_of text ≡ Ok (view c))
      (λ fault. (fault ≡ Memory → ⊥) → verdict_of text ≡ Err fault)
  verdict_said view (Ok c) h k = verdict_of_schedule (view c) h
  verdict_said view (Err fault) h k = verdict_of_fault fault k

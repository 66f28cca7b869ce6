-- From what has been read so far to what `read` returns.
use Rattle.std.proofs.Common.{◌≡◌, ℕ, ◌≤◌, List, [], ◌∷◌, ◌++◌, length, drop, Bool, true, false}
use Rattle.std.proofs.Common.{cond, Option, Some, None, refl, sym, ap, ◌∙◌, subst, arith}
use Rattle.std.proofs.Common.{append_assoc, ◌<◌, inl, inr}
use Rattle.zs_term.specs.Token.{Token, Placed, nothing, stuck, with_token, lex, lexed}
use Rattle.zs_term.specs.Grammar.{IsOpen}
use Rattle.std.specs.Prelude.{option_map}
use Rattle.std.proofs.lemmas.List.{length-map}
use Rattle.zs_term.specs.Machine.{State, at, start, after, step, run, value}
use Rattle.zs_term.specs.Parts.{Kept, keep, sizes_frame, sizes_state}
use Rattle.zs_term.specs.Causes.{tokens_of, IsNoTermAt, refused, no_token, unfinished, is_huge}
use Rattle.zs_term.specs.Causes.{first_huge}
use Rattle.zs_term.specs.Reading.{behind_tokens, SoFar, huge_with, IsWhole}
use Rattle.zs_term.specs.Totals.{IsPast, Watches}
use Rattle.zs_term.proofs.Totals.{run_sizes, grows, still_past, sizes_past}
use Rattle.zs_term.proofs.Completeness.{run_append, append_nil}
use Rattle.zs_term.proofs.Soundness.{sound}
use Rattle.zs_term.proofs.Runs.{goes_on, goes_nowhere, spells_to}

pub tokens_append : (xs ys : List Placed) → tokens_of (xs ++ ys) ≡ tokens_of xs ++ tokens_of ys
tokens_append [] ys = refl
tokens_append (x ∷ xs) ys = ap (λ ts. x.token ∷ ts) (tokens_append xs ys)

first_huge_more : (ps : List Placed) (place : ℕ) (t : Token) →
    first_huge (ps ++ record { place = place; token = t } ∷ []) ≡ huge_with (first_huge ps) place t
first_huge_more [] place t = refl
first_huge_more (p ∷ ps) place t = at_head (is_huge p.token) (first_huge_more ps place t) where
  at_head : (b : Bool) →
      first_huge (ps ++ record { place = place; token = t } ∷ [])
      ≡ huge_with (first_huge ps) place t →
      cond b (Some p.place) (first_huge (ps ++ record { place = place; token = t } ∷ []))
      ≡ huge_with (cond b (Some p.place) (first_huge ps)) place t
  at_head true h = refl
  at_head false h = h

pub at_first : (text : List ℕ) → SoFar true text (at [] start) None 0
at_first text = record {
  done = [];
  shape = refl;
  goes = refl;
  numbers = refl;
  inside = omega arith;
  nested = omega arith;
  past = λ e. absurd cc;
}

-- the parser goes on as it was, or without terms
pub watched : (build build' : Bool) (text : List ℕ) (s s' : State Kept (Option ℕ)) (huge : Option ℕ)
    (from : ℕ) → SoFar build text s huge from → Watches build build' s s' →
    SoFar build' text s' huge from
watched build build' text s s' huge from r (inl h) =
    subst (λ b. SoFar b text s' huge from) (sym h.0)
    (subst (λ v. SoFar build text v huge from) (sym h.1) r)
watched build build' text s s' huge from r (inr h) =
    subst (λ b. SoFar b text s' huge from) (sym h.1)
    (subst (λ v. SoFar false text v huge from) (sym h.3) (record {
      done = r.done;
      shape = r.shape;
      goes = run_sizes (Some (at [] start)) (tokens_of r.done) ∙ ap (option_map sizes_state)
          (subst (λ b. run (keep b) (Some (at [] start)) (tokens_of r.done) ≡ Some s) h.0 r.goes);
      numbers = r.numbers;
      inside = r.inside;
      nested = omega (arith, length-map s.frames sizes_frame, r.nested);
      past = λ e. sizes_past s h.2;
    }))

module _ (build : Bool) (text : List ℕ) (s : State Kept (Option ℕ)) (huge : Option ℕ) (from : ℕ)
    (r : SoFar build text s huge from) where
  placed : ℕ → Token → Placed
  placed p t = record { place = p; token = t }

  pub one_more : (p end : ℕ) (t : Token) (s' : State Kept (Option ℕ)) (huge' : Option ℕ) →
      lex 0 from (drop from text) ≡ with_token p t (lex 0 end (drop end text)) → from < end →
      end ≤ length text → step (keep build) (Some s) t ≡ Some s' → huge' ≡ huge_with huge p t →
      SoFar build text s' huge' end
  one_more p end t s' huge' e f h g k = let w = grows build s s' t g in record {
    done = r.done ++ record { place = p; token = t } ∷ [];
    shape = r.shape ∙ ap (behind_tokens r.done) e
        ∙ ap (λ ps. record { tokens = ps; stop = (lex 0 end (drop end text)).stop })
        (sym (append_assoc r.done (record { place = p; token = t } ∷ [])
        (lex 0 end (drop end text)).tokens));
    goes = ap (run (keep build) (Some (at [] start)))
        (tokens_append r.done (record { place = p; token = t } ∷ []))
        ∙ run_append (keep build) (Some (at [] start)) (tokens_of r.done) (t ∷ [])
        ∙ ap (λ o. run (keep build) o (t ∷ [])) r.goes ∙ g;
    numbers = k ∙ ap (λ o. huge_with o p t) r.numbers ∙ sym (first_huge_more r.done p t);
    inside = h;
    nested = omega (arith, w.nested, r.nested);
    past = λ b. still_past _ _ w.sizes (r.past b);
  }

  pub no_more : (p end : ℕ) (t : Token) →
      lex 0 from (drop from text) ≡ with_token p t (lex 0 end (drop end text)) →
      step (keep build) (Some s) t ≡ None → IsNoTermAt text p
  no_more p end t e g =
      refused r.done (record { place = p; token = t }) (lex 0 end (drop end text)).tokens
      (ap (λ l. l.tokens) (r.shape ∙ ap (behind_tokens r.done) e))
      (goes_on (keep build) (tokens_of r.done) s r.goes)
      (goes_nowhere (keep build) (tokens_of r.done ++ t ∷ [])
      (run_append (keep build) (Some (at [] start)) (tokens_of r.done) (t ∷ [])
      ∙ ap (λ o. run (keep build) o (t ∷ [])) r.goes ∙ g))

  pub no_token_here : (p : ℕ) → lex 0 from (drop from text) ≡ stuck p → IsNoTermAt text p
  no_token_here p e =
      let all = r.shape ∙ ap (behind_tokens r.done) e in
      let same : r.done ≡ (lexed text).tokens = sym (ap (λ l. l.tokens) all ∙ append_nil r.done) in
      no_token p (ap (λ l. l.stop) all)
      (subst (λ ps. IsOpen (tokens_of ps)) same
      (goes_on (keep build) (tokens_of r.done) s r.goes))

  -- at the end of the text
  module _ (e : lex 0 from (drop from text) ≡ nothing) where
    stopped : (lexed text).stop ≡ None
    stopped = ap (λ l. l.stop) (r.shape ∙ ap (behind_tokens r.done) e)

    all_done : r.done ≡ (lexed text).tokens
    all_done = sym (ap (λ l. l.tokens) (r.shape ∙ ap (behind_tokens r.done) e) ∙ append_nil r.done)

    all_goes : run (keep build) (Some (at [] start)) (tokens_of (lexed text).tokens) ≡ Some s
    all_goes = subst (λ ps. run (keep build) (Some (at [] start)) (tokens_of ps) ≡ Some s)
        all_done r.goes

    pub all_numbers : huge ≡ first_huge (lexed text).tokens
    all_numbers = r.numbers ∙ ap first_huge all_done

    pub not_finished : ((a : Kept) → s ≡ at [] (after a) → ⊥) → IsNoTermAt text (length text)
    not_finished never =
        unfinished stopped (goes_on (keep build) (tokens_of (lexed text).tokens) s all_goes)
        (λ t h. let go = spells_to (keep build) (tokens_of (lexed text).tokens) t h in
        let same : Some s ≡ Some (at [] (after (value (keep build) t))) = sym all_goes ∙ go in
        let st : s ≡ at [] (after (value (keep build) t)) = cc in
        never (value (keep build) t) st)

    pub finished : (a : Kept) → s ≡ at [] (after a) → IsWhole text a huge
    finished a k =
        let t = sound (keep build) (tokens_of (lexed text).tokens) a (all_goes ∙ ap Some k) in
        record {
          build = build;
          term = t.0;
          spelled = record { to_the_end = stopped; spelled = t.1 };
          is = t.2;
          numbers = all_numbers;
          past = λ b. subst IsPast k (r.past b);
        }

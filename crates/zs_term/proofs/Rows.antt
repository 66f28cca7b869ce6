-- Texts, spellings and outputs with known results, computed by the definitions.
use Rattle.std.proofs.Common.{◌≡◌, ℕ, List, [], ◌∷◌, map, Result, Ok, Err, refl}
use Rattle.std.specs.Prelude.{codes}
use Rattle.std.specs.Fmt.{digits}
use Rattle.zs_term.specs.declared.term.Pick.TheVariants.{Whole}
use Rattle.zs_term.specs.declared.term.Func.TheVariants.{First}
use Rattle.zs_term.specs.Saturating.{max_moment}
use Rattle.zs_term.specs.declared.term.Test.{Test}
use Rattle.zs_term.specs.declared.term.Cmp.{Cmp}
use Rattle.zs_term.specs.declared.fault.TermFault.{TermFault}
use Rattle.zs_term.specs.declared.term.Cmp.TheVariants.{Lt, Eq, Ge}
use Rattle.zs_term.specs.declared.fault.TermFault.TheVariants.{NoTerm, BadNumber, BadFactor, NoKind}
use Rattle.zs_term.specs.declared.fault.TermFault.TheVariants.{BadWindow}
use Rattle.zs_term.specs.Schedule.{Schedule, leaf, two, over, forever, recurs, spaced, exponential}
use Rattle.zs_term.specs.Schedule.{identity, linear, windowed, both, either, while_output, mapped}
use Rattle.zs_term.specs.Schedule.{reset_when, weight}
use Rattle.zs_term.specs.Output.{number, pair, left, listed, more, none}
use Rattle.zs_term.specs.Token.{lex}
use Rattle.zs_term.specs.Canonical.{canonical_text, exponential_text, while_output_text}
use Rattle.zs_term.specs.Canonical.{reset_when_text}
use Rattle.zs_term.specs.OutputText.{output_text}
use Rattle.zs_term.specs.Verdict.{verdict_of}

-- a test by a number
abbrev test : Cmp → ℕ → Test
test cmp n = record { cmp = cmp; than = n }

-- texts, each with its schedule or its fault
abbrev verdicts : List (List ℕ × Result Schedule TermFault)
verdicts =
    (codes "", Err (NoTerm 0))  -- empty text
    ∷ (codes "(recurs(1) && recurs(2)", Err (NoTerm 23))  -- unclosed
    ∷ (codes "recurs(1) && recurs(2)", Err (NoTerm 10))  -- without parentheses
    ∷ (codes "(recurs(1) && recurs(2) && recurs(3))", Err (NoTerm 24))  -- three parts
    ∷ (codes "recurs(01)", Err (NoTerm 7))  -- padded number
    ∷ (codes "recurs(18446744073709551616)", Err (BadNumber 7))  -- large number
    ∷ (codes "recurs(18446744073709551615)", Ok (leaf (recurs max_moment)))  -- greatest number
    ∷ (codes "exponential(1, 0)", Err BadFactor)  -- zero factor
    ∷ (codes "recurs(1).map(_1)", Err NoKind)  -- misfit
    ∷ (codes "windowed(0)", Err BadWindow)  -- zero window
    ∷ (codes "windowed(0).map(_1)", Err NoKind)  -- kind before window
    ∷ (codes "(exponential(1, 0) && windowed(0))", Err BadFactor)  -- factor before window
    ∷ (codes "recurs(1).resetWhen(_1 = 0)", Err NoKind)  -- reset misfit
    -- spaces
    ∷ (
      codes "( recurs(3)&&spaced( 5 ) ).map( _1 )",
      Ok (over (two both (leaf (recurs 3)) (leaf (spaced 5))) (mapped First)),
    )
    ∷ (codes "exponential(10)", Ok (leaf (exponential 10 2)))  -- doubling
    -- reset
    ∷ (codes "identity.resetWhen(>= 5)", Ok (over (leaf identity) (reset_when Whole (test Ge 5))))
    ∷ []

each_has_its_verdict : map (λ row. verdict_of row.0) verdicts ≡ map (λ row. row.1) verdicts
unfolding lex
each_has_its_verdict = refl

-- schedules, each with its text
abbrev spellings : List (Schedule × List ℕ)
spellings =
    -- spelled with spaces
    (
      over (two both (leaf (recurs 3)) (leaf (spaced 5))) (mapped First),
      codes "(recurs(3) && spaced(5)).map(_1)",
    )
    ∷ (leaf (exponential 10 2), codes "exponential(10, 2)")  -- spelled with factor
    -- spelled test
    ∷ (over (leaf identity) (while_output Whole (test Lt 5)), codes "identity.whileOutput(< 5)")
    -- spelled reset
    ∷ (
      over (two either (leaf (linear 3)) (leaf (windowed 4))) (reset_when Whole (test Eq 0)),
      codes "(linear(3) || windowed(4)).resetWhen(= 0)",
    )
    ∷ []

each_is_spelled_so : map (λ row. canonical_text row.0) spellings ≡ map (λ row. row.1) spellings
unfolding exponential_text while_output_text reset_when_text digits
each_is_spelled_so = refl

a_pair_of_a_side_and_a_list : output_text (pair (left (number 1))
    (listed (more (number 2) (more (number 3) none)))) ≡ codes "(Left(1),[2,3])"
unfolding digits
a_pair_of_a_side_and_a_list = refl

the_empty_list : output_text (listed none) ≡ codes "[]"
the_empty_list = refl

-- a schedule that starts over at 0
abbrev again : Schedule → Schedule
again s = over s (reset_when Whole (record { cmp = Eq; than = 0 }))

eight_resets : weight (again (again (again (again (again (again (again (again (leaf forever)))))))))
    ≡ 511
eight_resets = refl

nine_resets : weight
    (again (again (again (again (again (again (again (again (again (leaf forever)))))))))) ≡ 1023
nine_resets = refl

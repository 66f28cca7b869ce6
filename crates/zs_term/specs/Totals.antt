-- The least sizes of a term that has been read in part.
use Rattle.std.specs.Prelude.{◌≡◌, ℕ, ◌+◌, ◌<◌, max, Bool, true, false, List, [], ◌∷◌, Option, ◌⊎◌}
use Rattle.zs_term.specs.Schedule.{max_depth, max_weight}
use Rattle.zs_term.specs.Saturating.{saturated}
use Rattle.zs_term.specs.Machine.{Frame, left, right, Stage, closing, after, dotted, method}
use Rattle.zs_term.specs.Machine.{picking, testing, comparing, mapping, scaling, State}
use Rattle.zs_term.specs.Parts.{Kept, one_more, test_weight, sizes_state}

-- the sizes under one operator or function more
abbrev pub under_one : Kept → ℕ × ℕ
under_one a = (saturated (a.depth + 1), one_more a.weight)

-- depth and weight that the term in hand has at least, once its form is read to the end
abbrev pub least : Stage Kept (Option ℕ) → ℕ × ℕ
least (closing a) = (a.depth, a.weight)
least (after a) = (a.depth, a.weight)
least (dotted a) = under_one a
least (method w a) = under_one a
least (picking e a) = under_one a
least (testing a s) = under_one a
least (comparing a s c) = (saturated (a.depth + 1), test_weight s a.weight)
least (mapping a) = under_one a
least (scaling a g) = under_one a
least k = (1, 1)

-- the sizes of a left part, its operator, and a right part of these sizes
abbrev pub join_sizes : Kept → ℕ × ℕ → ℕ × ℕ
join_sizes a p = (saturated (max a.depth p.0 + 1), one_more (saturated (a.weight + p.1)))

-- the sizes of all open forms, if the term in hand has these
abbrev pub whole : List (Frame Kept) → ℕ × ℕ → ℕ × ℕ
whole [] p = p
whole (left ∷ fs) p = whole fs p
whole (right i a ∷ fs) p = whole fs (join_sizes a p)

-- one of the sizes is past its limit
abbrev pub ArePast : ℕ × ℕ → Type 0
ArePast p = (max_depth < p.0) ⊎ (max_weight < p.1)

-- each schedule that begins so is past a limit
abbrev pub IsPast : State Kept (Option ℕ) → Type 0
IsPast s = ArePast (whole s.frames (least s.stage))

-- a parser, which builds terms or not, goes on as it was, or without terms past a limit
abbrev pub Watches : Bool → Bool → State Kept (Option ℕ) → State Kept (Option ℕ) → Type 0
Watches old new s t = ((new ≡ old) × (t ≡ s))
    ⊎ ((old ≡ true) × (new ≡ false) × IsPast s × (t ≡ sizes_state s))

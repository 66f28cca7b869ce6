-- Numbers between two bounds.
use Rattle.std.specs.Prelude.{ℕ, ◌≤◌, min, max}
use Rattle.zs_bounds.specs.declared.span.Span.{Span}

-- the span of two bounds
abbrev pub span : ℕ → ℕ → Span
span low high = record { low = low; high = high }

-- a number is within a span
pub record IsIn (n : ℕ) (s : Span) : Type 0 where
  pub low : s.low ≤ n
  pub high : n ≤ s.high

-- the least span around two
abbrev pub hull : Span → Span → Span
hull s t = span (min s.low t.low) (max s.high t.high)

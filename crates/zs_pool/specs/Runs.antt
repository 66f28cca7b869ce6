-- A fact about each pass or seat of one object.
use Rattle.std.specs.Prelude.{List, [], ◌∷◌}

-- each view has property P
abbrev pub Every : {V : Type 0} → (V → Type 0) → List V → Type 0
Every P [] = Unit {0}
Every P (v ∷ vs) = P v × Every P vs

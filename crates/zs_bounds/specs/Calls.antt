-- Policies over each other: an attempt of one is a whole call of the one below it. This is what the
-- end of all layers means that `zsched-try --over` prints, with `Driven.antt` and `Bounds.antt`.
use Rattle.std.specs.Prelude.{◌≡◌, ℕ, ◌+◌, ◌-◌, min, max, Option, Some, None, List, [], ◌∷◌}
use Rattle.zs_term.specs.Schedule.{Schedule}
use Rattle.zs_step.specs.declared.decision.Decision.{Decision}
use Rattle.zs_step.specs.declared.decision.Decision.TheVariants.{Stop, Next}
use Rattle.zs_step.specs.History.{History, first_moment}
use Rattle.zs_step.specs.Answer.{answer_of}
use Rattle.zs_bounds.specs.declared.driver.Driver.{Driver}
use Rattle.zs_bounds.specs.declared.told.Bounds.{Bounds}
use Rattle.zs_bounds.specs.declared.waits.Waits.{Waits}
use Rattle.zs_bounds.specs.Driven.{shortest, IsStep, IsAttempt, IsWait}
use Rattle.zs_bounds.specs.Bounds.{Promises}

-- a policy below another one: its schedule, how what runs it waits, and a limit of its calls
pub record Layer : Type 0 where
  pub schedule : Schedule
  pub waits : Waits
  pub limit : Option ℕ

-- ---- what happens

-- what begins at one moment and ends at another one
abbrev pub Between : Type 1
Between = ℕ → ℕ → Type 0

-- A decision at a moment lets another attempt begin, at the end of a wait. That attempt ends at m.
abbrev pub LetsOneEnd : Between → Waits → ℕ → Decision → ℕ → Type 0
LetsOneEnd attempt v now Stop m = ⊥
LetsOneEnd attempt v now (Next x) m = (u : ℕ) × (IsWait v (x - now) u × attempt (now + u) m)

-- a history as in `IsDriven`, but with attempts of any kind
abbrev pub HasAttempts : Schedule → Between → Waits → History → Type 0
HasAttempts s attempt v [] = ⊥
HasAttempts s attempt v (p ∷ []) = IsStep p
HasAttempts s attempt v (p ∷ (q ∷ h)) =
    IsStep p × LetsOneEnd attempt v q.0 (answer_of s (q ∷ h)).decision p.0
    × HasAttempts s attempt v (q ∷ h)

-- After a history of a call that begins at a moment, one more attempt ends at m.
abbrev pub OneEndsAt : Schedule → Between → Waits → ℕ → History → ℕ → Type 0
OneEndsAt s attempt v begun [] m = attempt begun m
OneEndsAt s attempt v begun (p ∷ h) m =
    HasAttempts s attempt v (p ∷ h) × attempt begun (first_moment (p ∷ h))
    × LetsOneEnd attempt v p.0 (answer_of s (p ∷ h)).decision m

-- a whole call: from the begin of its first attempt up to the end of its last one
abbrev pub IsCall : Schedule → Between → Waits → Between
IsCall s attempt v begun m = (h : History) × OneEndsAt s attempt v begun h m

-- the same, cut by a limit of its duration, of 1 millisecond or more
abbrev pub IsCut : Option ℕ → Between → Between
IsCut None call begun m = call begun m
IsCut (Some limit) call begun m =
    (end : ℕ) × (call begun end × (m ≡ min end (begun + max limit 1)))

-- an attempt over some layers, outermost first: a call of the first one; with none, a driver's
abbrev pub IsOver : Driver → List Layer → Between
IsOver d [] begun m = IsAttempt d begun m
IsOver d (l ∷ below) begun m =
    IsCut l.limit (IsCall l.schedule (IsOver d below) l.waits) begun m

-- ---- what is proved

-- the driver whose attempts are calls by another one: no shorter than its shortest attempt, and no
-- longer than the longest run
abbrev pub calls_of : Driver → Bounds → Driver
calls_of d b = record { least = d.least; most = b.longest_run; waits = d.waits }

-- a limit, or a duration if that is shorter
abbrev pub cut_most : ℕ → Option ℕ → ℕ
cut_most limit None = limit
cut_most limit (Some most) = min most limit

-- the driver whose attempts are those of another one, cut by a limit
abbrev pub cut_driver : Option ℕ → Driver → Driver
cut_driver None d = d
cut_driver (Some limit) d = record {
  least = min (shortest d) (max limit 1);
  most = Some (cut_most (max limit 1) d.most);
  waits = d.waits;
}

-- Each attempt of a driver is one of another driver, too.
abbrev pub Allows : Driver → Driver → Type 0
Allows e d = (begun m : ℕ) → IsAttempt d begun m → IsAttempt e begun m

-- A driver by the bounds of some layers. Those of a layer are bounds for a driver of the layers
-- below it, which has the layer's waits.
abbrev pub IsDriverOver : Driver → List Layer → Driver → Type 0
IsDriverOver d [] e = Allows e d
IsDriverOver d (l ∷ below) e =
    (a : Driver) × ((b : Bounds)
    × (IsDriverOver d below a × (a.waits ≡ l.waits) × Promises l.schedule a b
    × Allows e (cut_driver l.limit (calls_of a b))))

-- One check after another: the first that fails determines the fault, and ends the reading of a
-- plan.
use Rattle.std.specs.Prelude.{◌≡◌, ◌≢◌, Bool, if◌then◌else◌, Option, Some, None, Result, Ok, Err, ⊤}
use Rattle.zs_run.specs.declared.plan_fault.PlanFault.{PlanFault}
use Rattle.zs_run.specs.declared.plan_fault.PlanFault.TheVariants as faults

infixl 10 ◌>>=◌
-- the next check, unless this one failed
abbrev pub ◌>>=◌ : {A B : Type 0} → Result A PlanFault
    → (A → Result B PlanFault) → Result B PlanFault
(Ok x) >>= f = f x
(Err e) >>= f = Err e

-- the fault, unless the test passes
abbrev pub demand : Bool → PlanFault → Result ⊤ PlanFault
demand test fault = if test then Ok tt else Err fault

-- the fault, unless there is a value
abbrev pub demand_some : {A : Type 0} → Option A → PlanFault → Result A PlanFault
demand_some None fault = Err fault
demand_some (Some x) fault = Ok x

-- a fault of a part, wrapped into one of the plan
abbrev pub passed_on : {A E : Type 0} → (E → PlanFault) → Result A E → Result A PlanFault
passed_on wrap (Ok x) = Ok x
passed_on wrap (Err e) = Err (wrap e)

-- Unless memory ran out, the result is the defined one, seen through `view`.
abbrev pub Gives : {X Y : Type 0} → (X → Y) → Result X PlanFault → Result Y PlanFault → Type 0
Gives view (Ok x) defined = defined ≡ Ok (view x)
Gives view (Err e) defined = e ≢ faults.Memory → defined ≡ Err e

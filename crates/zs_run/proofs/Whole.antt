-- The plan of the bytes that are read is that of all bytes.
use Rattle.std.proofs.Common.{◌≡◌, ◌<◌, ◌≤◌, ◌⊎◌, inl, inr, ℕ, List, length, take, Option, None}
use Rattle.std.proofs.Common.{Some, Ok, Err, Bool, refl, sym, ◌∙◌, ap, arith}
use Rattle.std.proofs.lemmas.Bool.{cases_lt, lt-leb}
use Rattle.std.proofs.lemmas.List.{take_all, drop_all, length-take-le}
use Rattle.zs_run.specs.Plan.{PlanRecord, plan_of, max_bytes}
use Rattle.zs_run.specs.declared.plan_fault.PlanFault.{PlanFault}
use Rattle.zs_run.specs.Headline.{IsInput, WasNoPlan, max_read}
use Rattle.zs_run.specs.Streams.{ReadsUpTo}
use Rattle.zs_run.specs.declared.plan_fault.PlanFault.TheVariants.{TooLong}

too_long : (input : List ℕ) → max_bytes < length input → plan_of input ≡ Err TooLong
unfolding plan_of
too_long input long = rw (lt-leb (length input) max_bytes long)

by_length : (limit : ℕ) (input : List ℕ) → max_bytes < limit →
    (limit < length input) ⊎ (length input ≤ limit) → plan_of (take limit input) ≡ plan_of input
by_length limit input above (inl more) =
    let cut : length (take limit input) ≡ limit = length-take-le limit input (omega arith) in
    too_long (take limit input) (omega arith) ∙ sym (too_long input (omega arith))
by_length limit input above (inr all) = ap plan_of (take_all limit input all)

-- One byte more than a plan may have is enough to decide.
pub plan_of_taken : (limit : ℕ) (input : List ℕ) → max_bytes < limit →
    plan_of (take limit input) ≡ plan_of input
plan_of_taken limit input above = by_length limit input above (cases_lt limit (length input))

-- what the bytes that were read give is what all of them give
pub read_whole : (fault : PlanFault) (old new : Option (List ℕ)) (failed : Bool) (bytes : List ℕ)
    → ReadsUpTo max_read old new bytes → plan_of bytes ≡ Err fault
    → WasNoPlan (record { before = old; left = new; failed = failed }) fault
read_whole fault None new failed bytes read given = (bytes, given, tt)
read_whole fault (Some input) None failed bytes read given = absurd read
read_whole fault (Some input) (Some left) failed bytes read given = (
  input,
  sym (plan_of_taken max_read input (omega arith)) ∙ ap plan_of (sym read.0) ∙ given,
  (refl, ap Some read.1),
)

fits : (input : List ℕ) (plan : PlanRecord) → plan_of input ≡ Ok plan → length input ≤ max_bytes
fits input plan given = elim (cases_lt max_bytes (length input)) [
  | inl long ↦ absurd (let e : Err TooLong ≡ Ok plan = sym (too_long input long) ∙ given in cc)
  | inr all ↦ all
]

-- A plan is read to the end of input.
pub read_plan_whole : (plan : PlanRecord) (old new : Option (List ℕ)) (bytes : List ℕ)
    → ReadsUpTo max_read old new bytes → plan_of bytes ≡ Ok plan → IsInput old new plan
read_plan_whole plan None new bytes read given = (bytes, given, tt)
read_plan_whole plan (Some input) None bytes read given = absurd read
read_plan_whole plan (Some input) (Some left) bytes read given =
    let whole : plan_of input ≡ Ok plan =
    sym (plan_of_taken max_read input (omega arith)) ∙ ap plan_of (sym read.0) ∙ given in
    let short : length input ≤ max_bytes = fits input plan whole in
    (input, whole, (refl, ap Some (read.1 ∙ drop_all max_read input (omega arith))))

-- One more report, joined to those before it.
use Rattle.std.proofs.Common.{◌≡◌, ℕ, List}
use Rattle.std.proofs.Common.{Option, None, Some, inl, inr}
use Rattle.std.specs.Prelude.{IfSome}
use Rattle.zs_population.specs.Joining.{IsPart, IsUnread, PartRecord, ReportFails}
use Rattle.zs_population.specs.declared.lines.Sums.{Sums}
use Rattle.zs_population.specs.declared.fault.ReportFault.{ReportFault}

-- the bytes that were read are the report of a part
pub known-part : (sums : Sums) (bytes : Option (List ℕ)) (items : List ℕ) (part : PartRecord)
    → IfSome bytes (λ known. items ≡ known) → IsPart sums items part
    → IfSome bytes (λ known. IsPart sums known part)
known-part sums None items part is fits = tt
known-part sums (Some known) items part is fits = rw is at fits

-- they are no report that continues those before
pub known-fails : (sums : Sums) (next polls : ℕ) (bytes : Option (List ℕ)) (items : List ℕ)
    (fault : ReportFault) → IfSome bytes (λ known. items ≡ known)
    → ReportFails sums next polls (Some items) fault → ReportFails sums next polls bytes fault
known-fails sums next polls None items fault is fails = tt
known-fails sums next polls (Some known) items fault is fails = rw is at fails

-- a file can't be read
pub unread-fails : (sums : Sums) (next polls : ℕ) (bytes : Option (List ℕ)) (fault : ReportFault) →
    IsUnread fault → ReportFails sums next polls bytes fault
unread-fails sums next polls None fault is = tt
unread-fails sums next polls (Some known) fault (inl is) = rw is tt
unread-fails sums next polls (Some known) fault (inr is) = rw is tt

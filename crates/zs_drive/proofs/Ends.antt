-- The end of a record, and what is known of a list whose last attempt runs.
use Rattle.std.proofs.Common.{◌≡◌, ℕ, suc, List, [], ◌∷◌, ◌++◌, length, refl, sym, ◌∙◌, ap, arith}
use Rattle.std.specs.Prelude.{map, Some, slice_set, slice_index_or}
use Rattle.std.proofs.lemmas.List.{map-set, length-map, length-append}
use Rattle.std.proofs.Math.Seq.{get_or-append_seam, set-append_seam}
use Rattle.std.proofs.Math.ListN.{get_or-map}
use Rattle.zs_drive.specs.declared.record.Attempted.{Attempted}
use Rattle.zs_drive.specs.declared.record.Ended.{Ended}
use Rattle.zs_drive.specs.Values.{AttemptedValue, attempted_of, ended_of}
use Rattle.zs_drive.specs.Recorded.{runs}
use Rattle.zs_drive.specs.Turns.{HasEnd}

-- the record at this place now has this end
pub set-end : (old new : List Attempted) (index : ℕ) (was : Attempted) (ended : Ended)
    → was ≡ slice_index_or old index was
    → new ≡ slice_set old index (record { begun = was.begun; ended = Some ended })
    → HasEnd old new index ended
set-end old new index was ended is_there written others rest s place were =
    let made : Attempted = record { begun = was.begun; ended = Some ended } in
    let there : attempted_of was ≡ runs s =
    ap attempted_of is_there ∙ sym (get_or-map attempted_of old index was)
    ∙ ap (λ (xs : List AttemptedValue). slice_index_or xs index (attempted_of was)) were
    ∙ ap (λ (k : ℕ). slice_index_or (others ++ runs s ∷ rest) k (attempted_of was)) place
    ∙ get_or-append_seam others (runs s) rest (attempted_of was) in
    let begun : was.begun ≡ s = ap (λ (a : AttemptedValue). a.begun) there in
    rw written
    (map-set attempted_of old index made
    ∙ ap (λ (xs : List AttemptedValue). slice_set xs index (attempted_of made)) were
    ∙ ap (λ (k : ℕ). slice_set (others ++ runs s ∷ rest) k (attempted_of made)) place
    ∙ set-append_seam others (runs s) rest (attempted_of made)
    ∙ ap (λ (k : ℕ). others ++ record { begun = k; ended = ended_of (Some ended) } ∷ rest) begun)

-- the number of the records before the last one
pub length-others : (records : List Attempted) (others : List AttemptedValue) (s : ℕ) →
    map attempted_of records ≡ others ++ runs s ∷ [] → length records ≡ suc (length others)
length-others records others s were =
    omega (
      arith,
      length-map records attempted_of,
      ap (λ (xs : List AttemptedValue). length xs) were,
      length-append others (runs s ∷ []),
    )

-- Lists of outputs as values.
use Rattle.std.proofs.Common.{◌≡◌, ℕ, List, [], ◌∷◌, ◌++◌, refl, ap, ◌∙◌, take, get_or, ◌<◌, ◌+◌}
use Rattle.std.proofs.Common.{length, arith}
use Rattle.std.proofs.lemmas.List.{take_more}
use Rattle.zs_term.specs.declared.outputs.Out.{Out}
use Rattle.zs_term.specs.declared.outputs.Storage.{Storage, Own', Shared', Row_of-Out, end_of-Out}
use Rattle.zs_term.specs.declared.outputs.Storage.{more_of-Out, items-the_row-Out}
use Rattle.zs_term.specs.Output.{more, output_of, outputs_of, stored_outputs, stored_list}
use Rattle.zs_term.specs.Output.{row_outputs, with_last, count}

pub row_outputs_are : {m : _} (k : Row_of-Out m) →
    row_outputs k ≡ outputs_of (items-the_row-Out m k)
row_outputs_are end_of-Out = refl
row_outputs_are (more_of-Out x rest) = ap (λ v. more (output_of x) v) (row_outputs_are rest)

pub stored_outputs_are : (k : Storage) → stored_outputs k ≡ outputs_of (stored_list k)
stored_outputs_are (Own' shape all) = row_outputs_are all
stored_outputs_are (Shared' p shape all) = row_outputs_are all

pub outputs_of_push : (xs : List Out) (x : Out) →
    outputs_of (xs ++ x ∷ []) ≡ with_last (outputs_of xs) (output_of x)
outputs_of_push [] x = refl
outputs_of_push (y ∷ xs) x = ap (λ v. more (output_of y) v) (outputs_of_push xs x)

pub outputs_of-take : (xs : List Out) (i : ℕ) (d : Out) → i < length xs →
    outputs_of (take (i + 1) xs) ≡ with_last (outputs_of (take i xs)) (output_of (get_or xs i d))
outputs_of-take xs i d h =
    ap outputs_of (take_more xs i d h) ∙ outputs_of_push (take i xs) (get_or xs i d)

-- one more copied output: the copies have the values of the outputs so far
pub outputs_of-copied : (xs ys zs : List Out) (i : ℕ) (x y : Out) → zs ≡ xs ++ x ∷ [] →
    output_of x ≡ output_of y → y ≡ get_or ys i y →
    i < length ys → outputs_of xs ≡ outputs_of (take i ys) →
    outputs_of zs ≡ outputs_of (take (i + 1) ys)
outputs_of-copied xs ys zs i x y pushed same is lt before =
    let a = outputs_of_push xs x in
    let b = outputs_of-take ys i y lt in
    cc

pub count-outputs_of : (xs : List Out) → count (outputs_of xs) ≡ length xs
count-outputs_of [] = refl
count-outputs_of (x ∷ xs) = omega (arith, count-outputs_of xs)

-- A schedule whose output shows no list returns none: no output has a list in it.
use Rattle.std.proofs.Common.{◌≡◌, true, Option, Some, None, refl}
use Rattle.std.proofs.lemmas.Bool.{and_parts}
use Rattle.zs_term.specs.Output.{Output, number, pair, left, right, listed}
use Rattle.zs_term.specs.OutputKind.{OutputKind, num, pair_of, sum_of, list_of, HasKind}
use Rattle.zs_term.specs.Kinds.{kind_of}
use Rattle.zs_term.specs.Schedule.{Schedule}
use Rattle.zs_step.specs.History.{History}
use Rattle.zs_step.specs.Answer.{answer_of}
use Rattle.zs_step.proofs.OutputKinds.{answer_of-has_kind}
use Rattle.zs_c.specs.Shown.{has_no_list, is_without_list, shows_no_list}
use Rattle.zs_c.specs.View.{Listless}

-- an output of a kind that has no list
kind-free : (o : Output) (k : OutputKind) → HasKind o k → has_no_list k ≡ true → Listless o
kind-free (number n) k kind free = tt
kind-free (pair x y) num kind free = absurd kind
kind-free (pair x y) (pair_of a b) kind free =
    let parts = and_parts (has_no_list a) (has_no_list b) free in
    (kind-free x a kind.0 parts.0, kind-free y b kind.1 parts.1)
kind-free (pair x y) (sum_of a b) kind free = absurd kind
kind-free (pair x y) (list_of a) kind free = absurd kind
kind-free (left x) num kind free = absurd kind
kind-free (left x) (pair_of a b) kind free = absurd kind
kind-free (left x) (sum_of a b) kind free =
    kind-free x a kind (and_parts (has_no_list a) (has_no_list b) free).0
kind-free (left x) (list_of a) kind free = absurd kind
kind-free (right x) num kind free = absurd kind
kind-free (right x) (pair_of a b) kind free = absurd kind
kind-free (right x) (sum_of a b) kind free =
    kind-free x b kind (and_parts (has_no_list a) (has_no_list b) free).1
kind-free (right x) (list_of a) kind free = absurd kind
kind-free (listed xs) num kind free = absurd kind
kind-free (listed xs) (pair_of a b) kind free = absurd kind
kind-free (listed xs) (sum_of a b) kind free = absurd kind
kind-free (listed xs) (list_of a) kind free = cc

-- the same for the kind of a schedule
kinded-free : (t : Schedule) (h : History) (k : Option OutputKind) → kind_of t ≡ k
    → is_without_list k ≡ true → Listless (answer_of t h).output
kinded-free t h (Some k) is free =
    kind-free (answer_of t h).output k (answer_of-has_kind t k h is) free
kinded-free t h None is free = cc

pub shown-free : (t : Schedule) (h : History) → shows_no_list t ≡ true
    → Listless (answer_of t h).output
shown-free t h free = kinded-free t h (kind_of t) refl free

-- The moments at which a job was polled while it was due, computed from its attempts.
use Rattle.std.specs.Prelude.{ℕ, List, [], ◌∷◌, ◌++◌, flat_map, fold, nat_eq, option_to_list}
use Rattle.std.specs.Prelude.{option_map, if◌then◌else◌}
use Rattle.std.specs.List.{list_any}
use Rattle.zs_drive.specs.Values.{AttemptedValue}

-- the moments at which an attempt begins and ends
abbrev pub moments_of : AttemptedValue → List ℕ
moments_of attempt = attempt.begun ∷ option_to_list (option_map (λ ended. ended.at) attempt.ended)

-- adds a moment to a set that is listed in order of arrival
abbrev pub with_moment : List ℕ → ℕ → List ℕ
with_moment moments m = if list_any (nat_eq m) moments then moments else moments ++ m ∷ []

-- the set of all moments at which an attempt begins or ends
unfoldable pub poll_moments : List AttemptedValue → List ℕ
poll_moments attempts = fold with_moment [] (flat_map moments_of attempts)

-- The entries of a script by tests, and the same by their first fault.
use Rattle.std.proofs.Common.{◌≡◌, ◌≤◌, ◌<◌, ◌==◌, ◌↔◌, ℕ, List, [], ◌∷◌, length, get_or, Bool}
use Rattle.std.proofs.Common.{true, false, nat_lt, Result, Ok, Err, if◌then◌else◌, subst, refl, sym}
use Rattle.std.proofs.Common.{ap, ◌∙◌, arith}
use Rattle.std.specs.Prelude.{MatchResult}
use Rattle.std.specs.List.{All, Any, list_any}
use Rattle.std.proofs.lemmas.Bool.Decides.{nat_tests}
use Rattle.std.proofs.lemmas.List.Folds.{list_any_none, list_any_at, list_any-from_Any}
use Rattle.std.proofs.lemmas.List.Folds.{Any-from_list_any}
use Rattle.zs_effect.specs.declared.script.Beat.{Beat}
use Rattle.zs_effect.specs.declared.script.ScriptFault.{ScriptFault}
use Rattle.zs_effect.specs.declared.script.ScriptFault.TheVariants.{Empty, TooLong, ZeroMs}
use Rattle.zs_effect.specs.Scripts.{IsScript, IsFirstFault, max_beats}
use Rattle.zs_run.specs.Jobs.{script_of}

more_than_zero : (n : ℕ) → 1 ≤ n → (n == 0) ≡ false
more_than_zero n h = grind (arith, nat_tests, h)

is_zero : (n : ℕ) → n ≡ 0 → (n == 0) ≡ true
is_zero n h = rw h refl

was_more : (n : ℕ) → (n == 0) ≡ false → 1 ≤ n
was_more n h = grind (arith, nat_tests, h)

was_zero : (n : ℕ) → (n == 0) ≡ true → n ≡ 0
was_zero n h = grind (arith, nat_tests, h)

-- ---- from the definition to the tests

-- entries that are a script pass all tests
pub script_passes : (beats : List Beat) → IsScript beats → script_of beats ≡ Ok beats
unfolding script_of
script_passes beats h =
    let some : (length beats == 0) ≡ false = grind (arith, nat_tests, h.some) in
    let few : nat_lt max_beats (length beats) ≡ false = grind (arith, nat_tests, h.few) in
    let timed : list_any (λ b. b.ms == 0) beats ≡ false =
    list_any_none (λ b. b.ms == 0) beats
    (λ k d inside. more_than_zero _ (h.timed k d inside)) in
    rw (some, few, timed) refl

-- entries with a fault fail exactly at its test
pub script_fails : (beats : List Beat) (fault : ScriptFault) → IsFirstFault beats fault →
    script_of beats ≡ Err fault
unfolding script_of
script_fails beats Empty h = rw h refl
script_fails beats TooLong h =
    let some : (length beats == 0) ≡ false = grind (arith, nat_tests, h) in
    let many : nat_lt max_beats (length beats) ≡ true = grind (arith, nat_tests, h) in
    rw (some, many) refl
script_fails beats ZeroMs h =
    let some : (length beats == 0) ≡ false = grind (arith, nat_tests, h.0) in
    let few : nat_lt max_beats (length beats) ≡ false = grind (arith, nat_tests, h.1) in
    let zero_ms : list_any (λ b. b.ms == 0) beats ≡ true =
    list_any-from_Any (λ b. b.ms == 0) beats (h.2.0, h.2.1, h.2.2, h.2.3, is_zero _ h.2.4) in
    rw (some, few, zero_ms) refl

-- ---- from the tests to the definition

no_entries : (beats : List Beat) → length beats ≡ 0 → beats ≡ []
no_entries [] none = refl
no_entries (beat ∷ beats) none = absurd (omega (arith, none))

-- if no entry takes 0 ms, each takes 1 ms or more
all_timed : (beats : List Beat) → list_any (λ b. b.ms == 0) beats ≡ false →
    All (λ beat. 1 ≤ beat.ms) beats
all_timed beats none k d inside = by_test ((get_or beats k d).ms == 0) refl
  where
    by_test : (c : Bool) → ((get_or beats k d).ms == 0) ≡ c → 1 ≤ (get_or beats k d).ms
    by_test true is = let clash : false ≡ true =
        sym none ∙ list_any_at (λ b. b.ms == 0) beats k d inside is in cc
    by_test false is = was_more (get_or beats k d).ms is

-- some entry takes 0 ms
some_untimed : (beats : List Beat) → list_any (λ b. b.ms == 0) beats ≡ true →
    Any (λ beat. beat.ms ≡ 0) beats
some_untimed beats some =
    let found = Any-from_list_any (λ b. b.ms == 0) beats some in
    (found.0, found.1, found.2, found.3, was_zero _ found.4)

-- what the tests return is a script, or the first fault
abbrev IsTold : List Beat → Result (List Beat) ScriptFault → Type 0
IsTold beats told = MatchResult told (λ script. (script ≡ beats) × IsScript beats)
    (IsFirstFault beats)

tests_tell : (beats : List Beat) → IsTold beats (script_of beats)
unfolding script_of
tests_tell beats = by_empty (length beats == 0) refl
  where
    by_zero : (c : Bool) → list_any (λ b. b.ms == 0) beats ≡ c → 1 ≤ length beats
        → length beats ≤ max_beats
        → IsTold beats (if c then Err ZeroMs else Ok beats)
    by_zero true is some few = (some, few, some_untimed beats is)
    by_zero false is some few =
        (refl, record { some = some; few = few; timed = all_timed beats is })

    by_length : (c : Bool) → nat_lt max_beats (length beats) ≡ c → 1 ≤ length beats
        → IsTold beats
        (if c then Err TooLong else (if list_any (λ b. b.ms == 0) beats then Err ZeroMs
        else Ok beats))
    by_length true is some = let many : max_beats < length beats = grind (arith, nat_tests, is) in
        many
    by_length false is some =
        by_zero (list_any (λ b. b.ms == 0) beats) refl some (grind (arith, nat_tests, is))

    by_empty : (c : Bool) → (length beats == 0) ≡ c
        → IsTold beats
        (if c then Err Empty else (if nat_lt max_beats (length beats) then Err TooLong
        else (if list_any (λ b. b.ms == 0) beats then Err ZeroMs else Ok beats)))
    by_empty true is = no_entries beats (was_zero (length beats) is)
    by_empty false is = by_length (nat_lt max_beats (length beats)) refl
        (was_more (length beats) is)

-- the tests return a script exactly if the entries are one
pub script_given : (beats script : List Beat) →
    (script_of beats ≡ Ok script) ↔ ((script ≡ beats) × IsScript beats)
script_given beats script = (
  λ given. subst (IsTold beats) given (tests_tell beats),
  λ is. script_passes beats is.1 ∙ ap Ok (sym is.0),
)

-- the tests return a fault exactly if it is the first
pub fault_given : (beats : List Beat) (fault : ScriptFault) →
    (script_of beats ≡ Err fault) ↔ IsFirstFault beats fault
fault_given beats fault =
    (λ given. subst (IsTold beats) given (tests_tell beats), script_fails beats fault)

-- The texts of the numbers that `include/zsched.h` names, in English, and the version of the
-- library.
use Rattle.std.specs.Prelude.{ℕ, Bool, List, [], ◌++◌, codes, nat_eq, ◌||◌, if◌then◌else◌}
use Rattle.std.specs.Fmt.{decimal}

-- the text of a number without a place, empty if the number is no fault
abbrev pub fault_words : ℕ → List ℕ
fault_words n =
    if nat_eq n 2 then codes "no step was made yet"
    else if nat_eq n 3 then codes "the moment is below that of the step before it"
    else if nat_eq n 4 then codes "not UTF-8"
    else if nat_eq n 5 then codes "out of memory"
    else if nat_eq n 6 then codes "an output with a list has no state of fixed size"
    else if nat_eq n 7 then codes "fewer words than zs_program_size returns"
    else if nat_eq n 8 then codes "no program of this version, or one that was changed"
    else if nat_eq n 9 then codes "the state of another program"
    else if nat_eq n 10 then codes "no driver does this"
    else if nat_eq n 11 then codes "no term"
    else if nat_eq n 12 then codes "too big"
    else if nat_eq n 13 then codes "number too large"
    else if nat_eq n 14 then codes "factor is 0"
    else if nat_eq n 15 then codes "no kind"
    else if nat_eq n 16 then codes "window is 0"
    else if nat_eq n 17 then codes "a struct of another size"
    else if nat_eq n 18 then codes "no state of this version"
    else []

-- whether the place that goes with a number is a byte of the text
abbrev pub has_byte : ℕ → Bool
has_byte n = nat_eq n 4 || (nat_eq n 11 || nat_eq n 13)

-- the text of a number and the place that goes with it
abbrev pub fault_text : ℕ → ℕ → List ℕ
fault_text n at =
    if has_byte n then fault_words n ++ (codes " at byte " ++ decimal at) else fault_words n

-- the version: a million times the first of its numbers, plus a thousand times the second, plus the
-- third
abbrev pub version_number : ℕ
version_number = 3000

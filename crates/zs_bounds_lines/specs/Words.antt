-- The request that the words of a command line are.
use Rattle.std.specs.Prelude.{◌≡◌, ℕ, ◌+◌, ◌*◌, ◌-◌, List, [], ◌∷◌, ◌++◌, take, drop, codes}
use Rattle.std.specs.Prelude.{bytes_eq, nat_le, nat_lt, ◌==◌, ◌&&◌, Bool, true, false}
use Rattle.std.specs.Prelude.{if◌then◌else◌, Option, Some, None, option_and_then, Result, Ok, Err}
use Rattle.zs_term.specs.Saturating.{max_moment}
use Rattle.zs_bounds.specs.Driven.{exact_driver}
use Rattle.zs_bounds.specs.declared.waits.Waits.{Waits}
use Rattle.zs_run.specs.Headline.{Reading, Writing}
use Rattle.zs_lines.specs.Numbers.{digits_from, number_of}
use Rattle.zs_lines.specs.Streams.{WroteText}
use Rattle.zs_bounds_lines.specs.Ending.{Ends}
use Rattle.zs_bounds_lines.specs.declared.fault.BoundsFault.{BoundsFault}
use Rattle.zs_bounds_lines.specs.declared.fault.BoundsFault.TheVariants.{Write, Words}
use Rattle.zs_bounds_lines.specs.declared.fault.OptionFault.{OptionFault}
use Rattle.zs_bounds_lines.specs.declared.fault.OptionFault.TheVariants.{Unknown, Steps, Attempt}
use Rattle.zs_bounds_lines.specs.declared.fault.OptionFault.TheVariants.{Wait, Late, Asked, Within}
use Rattle.zs_bounds_lines.specs.declared.options.Options.{Options}
use Rattle.zs_bounds_lines.specs.declared.words.Request.{Request}
use Rattle.zs_bounds_lines.specs.declared.words.Request.TheVariants.{Help, Version, Run}

-- the milliseconds of a unit
unfoldable pub unit_of : List ℕ → Option ℕ
unit_of name =
    if bytes_eq name (codes "ms") then Some 1
    else (if bytes_eq name (codes "s") then Some 1000
    else (if bytes_eq name (codes "m") then Some 60000
    else (if bytes_eq name (codes "min") then Some 60000
    else (if bytes_eq name (codes "h") then Some 3600000
    else None))))

-- n units in milliseconds, if that has 64 bits
abbrev pub scaled : ℕ → ℕ → Option ℕ
scaled n unit = if nat_le (n * unit) max_moment then Some (n * unit) else None

-- the duration that digits and a unit after them are
abbrev pub measured : List ℕ → ℕ × ℕ → Option ℕ
measured text found = if nat_lt 0 found.1
    then option_and_then (scaled found.0) (unit_of (drop found.1 text)) else None

-- the duration that a text is, as `5s` or `20ms`, in milliseconds
abbrev pub duration_of : List ℕ → Option ℕ
duration_of text = option_and_then (measured text) (digits_from 0 0 text)

-- the place of the first two dots
abbrev pub dots_from : ℕ → List ℕ → Option ℕ
dots_from at [] = None
dots_from at (b ∷ []) = None
dots_from at (b ∷ (c ∷ bs)) = if b == 46 && c == 46 then Some at else dots_from (at + 1) (c ∷ bs)

-- a least and a most number, in order, none of them below the floor
abbrev pub between : ℕ → Option ℕ → Option ℕ → Option (ℕ × ℕ)
between floor None most = None
between floor (Some least) None = None
between floor (Some least) (Some most) =
    if nat_le floor least && nat_le least most then Some (least, most) else None

-- durations of 1 ms or more, by the place of the dots in a text; without dots it is the most
abbrev pub durations_at : List ℕ → Option ℕ → Option (ℕ × ℕ)
durations_at text None = between 1 (Some 1) (duration_of text)
durations_at text (Some at) =
    between 1 (duration_of (take at text)) (duration_of (drop (at + 2) text))

-- the least and the most duration that a text is, as `5s` or `20ms..5s`
unfoldable pub durations_of : List ℕ → Option (ℕ × ℕ)
durations_of text = durations_at text (dots_from 0 text)

-- the number of the digits at the front of a text, if a percent sign alone is after them
abbrev pub before_sign : List ℕ → ℕ × ℕ → Option ℕ
before_sign text found =
    if nat_lt 0 found.1 && bytes_eq (drop found.1 text) (codes "%") then Some found.0 else None

-- the number that a text is, before a percent sign
abbrev pub percent_of : List ℕ → Option ℕ
percent_of text = option_and_then (before_sign text) (digits_from 0 0 text)

-- percentages, by the place of the dots in a text
abbrev pub percents_at : List ℕ → Option ℕ → Option (ℕ × ℕ)
percents_at text None = None
percents_at text (Some at) =
    between 0 (number_of (take at text)) (percent_of (drop (at + 2) text))

-- the least and the most percentage that a text is, as `80..120%`
unfoldable pub percents_of : List ℕ → Option (ℕ × ℕ)
percents_of text = percents_at text (dots_from 0 text)

-- how late an attempt may begin, by a text: a duration, or `any`, the greatest number
abbrev pub late_of : List ℕ → Option ℕ
late_of text = if bytes_eq text (codes "any") then Some max_moment else duration_of text

-- the options if no word names others: attempts of 1 ms or more, which begin at the end of the
-- schedule's waits, the usual number of steps, and no time in which attempts are counted
abbrev pub usual_options : Options
usual_options = record { driver = exact_driver; steps = None; within = None }

-- the options with these waits of the driver
abbrev pub with_waits : Options → Waits → Options
with_waits options waits = record options { driver = record options.driver { waits = waits } }

-- `--attempt`: the least and the most duration of attempts
abbrev pub with_attempt : Options → ℕ × ℕ → Options
with_attempt options found =
    record options { driver = record options.driver { least = found.0; most = Some found.1 } }

-- `--wait`: the least and the most percentage of the schedule's waits
abbrev pub with_wait : Options → ℕ × ℕ → Options
with_wait options found = with_waits options
    (record options.driver.waits { least_percent = found.0; most_percent = found.1 })

-- `--late`: how much later than at the end of its wait an attempt may begin
abbrev pub with_late : Options → ℕ → Options
with_late options late = with_waits options (record options.driver.waits { late = late })

-- `--asked`: the longest wait that is honoured on request
abbrev pub with_asked : Options → ℕ → Options
with_asked options asked = with_waits options (record options.driver.waits { asked = asked })

-- `--steps`: the number of steps that are looked at at most
abbrev pub with_steps : Options → ℕ → Options
with_steps options n = record options { steps = Some n }

-- `--within`: the time for which attempts that begin within it are counted
abbrev pub with_within : Options → ℕ → Options
with_within options time = record options { within = Some time }

-- the options that a value sets, or the fault if it has another form
abbrev pub or_fault : {A : Type 0} → OptionFault → (A → Options) → Option A
    → Result Options OptionFault
or_fault fault set None = Err fault
or_fault fault set (Some value) = Ok (set value)

-- the options with one more, by its name and its value
unfoldable pub with_option : List ℕ → List ℕ → Options → Result Options OptionFault
with_option name value options =
    if bytes_eq name (codes "--attempt")
    then or_fault Attempt (with_attempt options) (durations_of value)
    else (if bytes_eq name (codes "--wait")
    then or_fault Wait (with_wait options) (percents_of value)
    else (if bytes_eq name (codes "--late")
    then or_fault Late (with_late options) (late_of value)
    else (if bytes_eq name (codes "--asked")
    then or_fault Asked (with_asked options) (duration_of value)
    else (if bytes_eq name (codes "--steps")
    then or_fault Steps (with_steps options) (number_of value)
    else (if bytes_eq name (codes "--within")
    then or_fault Within (with_within options) (duration_of value)
    else Err Unknown)))))

-- a request that a word is alone, or the one that follows from the words after it
unfoldable pub unless_alone : List ℕ → Result Request OptionFault → Result Request OptionFault
unless_alone name rest = if bytes_eq name (codes "--help") then Ok Help
    else (if bytes_eq name (codes "--version") then Ok Version else rest)

-- what comes next, unless an option is wrong
abbrev pub and_then : Result Options OptionFault
    → (Options → Result Request OptionFault) → Result Request OptionFault
and_then (Ok options) next = next options
and_then (Err fault) next = Err fault

-- the request of words, after those of some options; a value that is missing is empty
abbrev pub request_from : Options → List (List ℕ) → Result Request OptionFault
request_from options [] = Ok (Run options)
request_from options (name ∷ []) =
    unless_alone name (and_then (with_option name [] options) (λ new. Ok (Run new)))
request_from options (name ∷ (value ∷ words)) =
    unless_alone name (and_then (with_option name value options) (λ new. request_from new words))

-- what `--help` prints
unfoldable pub help_text : List ℕ
help_text =
    codes "usage: zsched-bounds [--attempt [LEAST..]MOST] [--wait LEAST..MOST%]\n" ++ (
    codes "                     [--late TIME|any] [--asked TIME] [--within TIME] [--steps N]\n" ++ (
    codes "                     < POLICIES\n" ++ (
    codes "\n" ++ (
    codes "Reads a policy a line, and writes what is proved of each as a line of JSON.\n" ++ (
    codes "Empty lines, and lines that begin with #, are passed over.\n" ++ (
    codes "\n" ++ (
    codes "  --attempt 20ms..5s  how long an attempt takes; 5s is at most 5 s (ms, s, m, h)\n" ++ (
    codes "  --wait 80..120%     how long waits are, of those of the policy (100..100%)\n" ++ (
    codes "  --late 50ms         how much later an attempt may begin; any: by any time (0ms)\n" ++ (
    codes "  --asked 30s         the longest Retry-After that is honoured (0ms)\n" ++ (
    codes "  --within 10s        also how many attempts begin within that time of the first\n" ++ (
    codes "  --steps N           looks at no more than N steps of each policy (1200000\n" ++ (
    codes "                      divided by the number of its nodes)\n" ++ (
    codes "  --help              prints this\n" ++ (
    codes "  --version           prints the version\n")))))))))))))))

-- what `--version` prints
unfoldable pub version_text : List ℕ
version_text = codes "zsched-bounds 0.3.0\n"

-- How the program ends, by its request.
abbrev pub ProgramEnds : Result Request OptionFault
    → Result (Unit {0}) BoundsFault → Reading → Writing → Type 0 → Type 0
ProgramEnds (Ok Help) result r w Untouched = WroteText (λ sent. Write) help_text result w
ProgramEnds (Ok Version) result r w Untouched = WroteText (λ sent. Write) version_text result w
ProgramEnds (Ok (Run options)) result r w Untouched = Ends options result r w Untouched
ProgramEnds (Err fault) result r w Untouched = (result ≡ Err (Words fault)) × Untouched

-- How the program ends, by the words after its name.
abbrev pub WordsEnd : List (List ℕ)
    → Result (Unit {0}) BoundsFault → Reading → Writing → Type 0 → Type 0
WordsEnd words = ProgramEnds (request_from usual_options words)

-- Words make the program read lines.
abbrev pub reads_lines : Result Request OptionFault → Bool
reads_lines (Ok Help) = false
reads_lines (Ok Version) = false
reads_lines (Ok (Run options)) = true
reads_lines (Err fault) = false

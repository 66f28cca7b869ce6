-- The request that the words of a command line are, and how the program ends by it.
use Rattle.std.specs.Prelude.{◌≡◌, ℕ, ◌-◌, List, [], ◌∷◌, ◌++◌, map, drop, codes, String}
use Rattle.std.specs.Prelude.{string_bytes, ⊤, bytes_eq, nat_le, ◌==◌, ◌&&◌, true}
use Rattle.std.specs.Prelude.{if◌then◌else◌, Option, Some, None, option_and_then, Result, Ok, Err}
use Rattle.std.specs.Global.{Global}
use Rattle.zs_run.specs.Headline.{Reading, Writing}
use Rattle.zs_lines.specs.Numbers.{digits_from, number_of}
use Rattle.zs_lines.specs.Streams.{WroteText}
use Rattle.zs_population.specs.Ending.{Ends}
use Rattle.zs_population.specs.Joining.{JoinEnds}
use Rattle.zs_population.specs.Population.{FitsPopulation, all_jobs, max_population}
use Rattle.zs_population.specs.declared.range.JobRange.{JobRange}
use Rattle.zs_population.specs.declared.fault.OptionFault.{OptionFault}
use Rattle.zs_population.specs.declared.fault.OptionFault.TheVariants.{Unknown, Jobs, Check}
use Rattle.zs_population.specs.declared.fault.PopulationFault.{PopulationFault}
use Rattle.zs_population.specs.declared.fault.PopulationFault.TheVariants.{Write, Words}
use Rattle.zs_population.specs.declared.words.Request.{Request}
use Rattle.zs_population.specs.declared.words.Request.TheVariants.{Help, Version, Run, Join}

-- the number that a text is after two dots
abbrev pub after_dots : List ℕ → Option ℕ
after_dots [] = None
after_dots (b ∷ []) = None
after_dots (b ∷ (c ∷ bs)) = if b == 46 && c == 46 then number_of bs else None

-- the jobs from a first number on, up to a last one, which isn't one of them
abbrev pub jobs_up_to : ℕ → ℕ → Option JobRange
jobs_up_to first end = if nat_le first end && nat_le end max_population
    then Some (record { first = first; count = end - first; is_part = true }) else None

-- the jobs from the number of the first digits on
abbrev pub jobs_from : List ℕ → ℕ × ℕ → Option JobRange
jobs_from text found = if found.1 == 0 then None
    else option_and_then (jobs_up_to found.0) (after_dots (drop found.1 text))

-- the jobs that a text is, as `5..20`
abbrev pub jobs_of : List ℕ → Option JobRange
jobs_of text = option_and_then (jobs_from text) (digits_from 0 0 text)

-- the request to run a range
abbrev pub run_of : Option JobRange → Result Request OptionFault
run_of (Some range) = Ok (Run range)
run_of None = Err Jobs

-- the request of an option, by its name and its value
unfoldable pub option_request : List ℕ → List ℕ → Result Request OptionFault
option_request name value = if bytes_eq name (codes "--jobs") then run_of (jobs_of value)
    else (if bytes_eq name (codes "--help") then Ok Help
    else (if bytes_eq name (codes "--version") then Ok Version
    else Err Unknown))

-- the request of a word and those after it; a value that is missing is empty
abbrev pub values_request : List ℕ → List (List ℕ) → Result Request OptionFault
values_request name [] = option_request name []
values_request name (value ∷ []) = option_request name value
values_request name (value ∷ (word ∷ words)) = Err Unknown

-- the request to join the reports that these words name
abbrev pub join_of : List (List ℕ) → Result Request OptionFault
join_of [] = Err Check
join_of (path ∷ paths) = Ok Join

-- the request of words
abbrev pub request_of : List (List ℕ) → Result Request OptionFault
request_of [] = Ok (Run all_jobs)
request_of (name ∷ words) =
    if bytes_eq name (codes "--check") then join_of words else values_request name words

-- a range that is run fits a population
abbrev pub FitsRequest : Request → Type 0
FitsRequest Help = ⊤
FitsRequest Version = ⊤
FitsRequest (Run range) = FitsPopulation range
FitsRequest Join = ⊤

-- what `--help` prints
unfoldable pub help_text : List ℕ
help_text =
    codes "usage: zsched-population [--jobs A..B | --check REPORT..] < POPULATION\n" ++ (
    codes "\n" ++ (
    codes "Reads JSON lines: first a plan without jobs, then a job a line.\n" ++ (
    codes "Writes the report of all jobs, as of one plan.\n" ++ (
    codes "\n" ++ (
    codes "  --jobs A..B       runs jobs A to B - 1 alone, counted from 0. Ends with a line\n" ++ (
    codes "                    that says of which jobs and which population the report is\n" ++ (
    codes "  --check REPORT..  joins such reports, in order, to the report of all jobs\n" ++ (
    codes "  --help            prints this\n" ++ (
    codes "  --version         prints the version\n")))))))))

-- what `--version` prints
unfoldable pub version_text : List ℕ
version_text = codes "zsched-population 0.3.0\n"

-- How the program ends, by its request. Reports are joined if their bytes are known.
abbrev pub ProgramEnds : Result Request OptionFault → List (Option (List ℕ))
    → Result (Unit {0}) PopulationFault → Reading → Writing → Type 0 → Type 0
ProgramEnds (Ok Help) reports result r w Untouched = WroteText Write help_text result w
ProgramEnds (Ok Version) reports result r w Untouched = WroteText Write version_text result w
ProgramEnds (Ok (Run range)) reports result r w Untouched = Ends range result r w Untouched
ProgramEnds (Ok Join) reports result r w Untouched = JoinEnds reports result r w Untouched
ProgramEnds (Err fault) reports result r w Untouched = (result ≡ Err (Words fault)) × Untouched

-- How the program ends, by the words after its name. Those after the first may name reports, of
-- which some have known bytes.
abbrev pub WordsEnd : Result (Unit {0}) PopulationFault → (List ℕ → Option (List ℕ))
    → List (String Global) → Reading → Writing → Type 0 → Type 0
WordsEnd result contents words = let texts = map string_bytes words in
    ProgramEnds (request_of texts) (map contents (drop 1 texts)) result

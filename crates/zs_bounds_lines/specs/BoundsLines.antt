-- What is written for some lines: for each policy a line of JSON with its bounds.
use Rattle.std.specs.Prelude.{ℕ, ◌/◌, max, nat_lt, List, [], ◌∷◌, ◌++◌, codes, Bool}
use Rattle.std.specs.Prelude.{if◌then◌else◌, Option, Some, None, Result, Ok, Err}
use Rattle.std.specs.Fmt.{decimal}
use Rattle.zs_term.specs.Saturating.{max_moment}
use Rattle.zs_term.specs.Schedule.{Schedule, weight}
use Rattle.zs_term.specs.Canonical.{canonical_text}
use Rattle.zs_bounds.specs.BoundsOf.{bounds_of, never_stops}
use Rattle.zs_bounds.specs.WithinOf.{within_of}
use Rattle.zs_bounds.specs.declared.driver.Driver.{Driver}
use Rattle.zs_bounds.specs.declared.told.Bounds.{Bounds}
use Rattle.zs_bounds.specs.declared.waits.Waits.{Waits}
use Rattle.zs_bounds_lines.specs.Policies.{policy_of}
use Rattle.zs_bounds_lines.specs.declared.fault.PolicyFault.{PolicyFault}
use Rattle.zs_bounds_lines.specs.declared.options.Options.{Options}

-- a number, or null if there is none
abbrev pub limit_text : Option ℕ → List ℕ
limit_text None = codes "null"
limit_text (Some n) = decimal n

-- whether something is so
abbrev pub truth_text : Bool → List ℕ
truth_text b = if b then codes "true" else codes "false"

-- the least and the most of something
abbrev pub range_text : ℕ → Option ℕ → List ℕ
range_text least most =
    codes "{\"least\":" ++ decimal least ++ codes ",\"most\":" ++ limit_text most ++ codes "}"

-- how late an attempt may begin, unless it may by any time
abbrev pub late_limit : ℕ → Option ℕ
late_limit late = if nat_lt late max_moment then Some late else None

-- how a driver waits: the percentages of the schedule's waits, how late an attempt may begin, and
-- the longest wait that is honoured on request
abbrev pub waits_text : Waits → List ℕ
waits_text v =
    codes "{\"least_percent\":" ++ decimal v.least_percent
    ++ (codes ",\"most_percent\":" ++ decimal v.most_percent ++ codes ",\"late\":")
    ++ limit_text (late_limit v.late) ++ (codes ",\"asked\":" ++ decimal v.asked ++ codes "}")

-- the longest wait, a limit of every wait, all waits, and the longest run
abbrev pub times_text : Bounds → List ℕ
times_text b =
    codes ",\"longest_wait\":" ++ decimal b.longest ++ codes ",\"every\":" ++ limit_text b.every
    ++ codes ",\"total_wait\":" ++ limit_text b.total
    ++ codes ",\"longest_run\":" ++ limit_text b.longest_run

-- the steps that were looked at, whether there may be more, and the end of the line
abbrev pub steps_text : Bounds → List ℕ
steps_text b =
    codes ",\"steps_seen\":" ++ decimal b.seen ++ codes ",\"is_cut\":"
    ++ truth_text b.is_cut ++ codes "}\n"

-- the number of attempts that begin within a time, if one is given
abbrev pub within_text : Option (ℕ × ℕ) → List ℕ
within_text None = codes ",\"within\":null"
within_text (Some found) =
    codes ",\"within\":{\"time\":"
    ++ (decimal found.0 ++ (codes ",\"most\":" ++ (decimal found.1 ++ codes "}")))

-- The line of a policy with what the driver may do, whether it never gives up, its bounds, and how
-- many attempts begin within a time.
abbrev pub json_line : List ℕ → Driver → Bool → Bounds → Option (ℕ × ℕ) → List ℕ
json_line policy d never b within =
    codes "{\"policy\":\"" ++ policy ++ codes "\",\"attempt\":"
    ++ range_text d.least d.most ++ codes ",\"wait\":" ++ waits_text d.waits
    ++ codes ",\"attempts\":" ++ range_text b.least b.most
    ++ codes ",\"never_gives_up\":" ++ truth_text never ++ times_text b
    ++ within_text within ++ steps_text b

-- the usual number of steps that are looked at: 1,200,000 divided by the number of nodes
abbrev pub usual_steps : Schedule → ℕ
usual_steps s = max 1 (1200000 / weight s)

-- the steps that are looked at at most: the number that is set, or the usual one
abbrev pub steps_for : Option ℕ → Schedule → ℕ
steps_for (Some n) s = n
steps_for None s = usual_steps s

-- the time that is given, and the attempts that begin within it
abbrev pub begun_within : Schedule → Driver → ℕ → Option ℕ → Option (ℕ × ℕ)
begun_within s d steps None = None
begun_within s d steps (Some time) = Some (time, within_of s d time steps)

-- the line of a policy, as its canonical spelling, with what is proved of it
abbrev pub bounds_line : Options → Schedule → List ℕ
bounds_line options s = let steps = steps_for options.steps s in
    json_line (canonical_text s) options.driver (never_stops s) (bounds_of s options.driver steps)
    (begun_within s options.driver steps options.within)

-- what is written for a line: nothing if it has no policy
abbrev pub line_text : Options → Result (Option Schedule) PolicyFault → Result (List ℕ) PolicyFault
line_text options (Ok None) = Ok []
line_text options (Ok (Some s)) = Ok (bounds_line options s)
line_text options (Err fault) = Err fault

infixl 10 ◌>>=◌
-- what comes next, unless a line is rejected
abbrev pub ◌>>=◌ : {A B : Type 0} → Result A PolicyFault
    → (A → Result B PolicyFault) → Result B PolicyFault
(Ok x) >>= f = f x
(Err e) >>= f = Err e

-- what is written for lines, or the fault of the first line that is rejected
unfoldable pub bounds_lines : Options → List (List ℕ) → Result (List ℕ) PolicyFault
bounds_lines options [] = Ok []
bounds_lines options (line ∷ lines) = do
  text ← line_text options (policy_of line)
  rest ← bounds_lines options lines
  Ok (text ++ rest)

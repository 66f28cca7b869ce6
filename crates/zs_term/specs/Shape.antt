-- What the code takes a term apart into, and how long it takes to free one.
use Rattle.std.specs.Prelude.{ℕ, ◌+◌, ◌*◌, List}
use Rattle.zs_term.specs.Schedule.{Schedule, leaf, two, over, plain, counted, exponential}
use Rattle.zs_term.specs.Schedule.{collect_all, mapped, schedule_of}
use Rattle.zs_term.specs.Machine.{infix_pairing, test_modifier}
use Rattle.zs_term.specs.Canonical.{while_input_text, while_output_text, reset_when_text}
use Rattle.zs_term.specs.declared.forms.Action.TheVariants.{Stopping, Resetting}
use Rattle.zs_term.specs.declared.forms.Subject.{Subject}
use Rattle.zs_term.specs.declared.forms.Subject.TheVariants.{Input, Picked}
use Rattle.zs_term.specs.declared.forms.Shape.{Shape}
use Rattle.zs_term.specs.declared.forms.Shape.TheVariants.{Plain, Counted, Exponential, Joined}
use Rattle.zs_term.specs.declared.forms.Shape.TheVariants.{Tested, Collected, Mapped}

-- the schedule of this shape
abbrev pub shape_schedule : Shape → Schedule
shape_schedule (Plain p) = leaf (plain p)
shape_schedule (Counted c n) = leaf (counted c n)
shape_schedule (Exponential b f) = leaf (exponential b f)
shape_schedule (Joined i a b) = two (infix_pairing i) (schedule_of a.now) (schedule_of b.now)
shape_schedule (Tested s j t) = over (schedule_of s.now) (test_modifier j t)
shape_schedule (Collected s) = over (schedule_of s.now) collect_all
shape_schedule (Mapped s f) = over (schedule_of s.now) (mapped f)

-- the text before a test
abbrev pub subject_text : Subject → List ℕ
subject_text Input = while_input_text
subject_text (Picked Stopping p) = while_output_text
subject_text (Picked Resetting p) = reset_when_text

-- the most steps that it takes to free a term: each left part is rotated to the right first
abbrev pub steps_to_free : Schedule → ℕ
steps_to_free (leaf l) = 1
steps_to_free (two p a b) = 2 * steps_to_free a + steps_to_free b
steps_to_free (over s m) = 1 + steps_to_free s

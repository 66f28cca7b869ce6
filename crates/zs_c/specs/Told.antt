-- What the calls return to C: what a step decides and outputs, or an error.
use Rattle.std.specs.Prelude.{◌≡◌, ℕ, List, [], ◌∷◌, ◌++◌, length, take, drop}
use Rattle.zs_term.specs.Schedule.{Schedule}
use Rattle.zs_term.specs.OutputText.{output_text}
use Rattle.zs_step.specs.History.{History}
use Rattle.zs_step.specs.Answer.{answer_of}
use Rattle.zs_step.specs.Visits.{visits}
use Rattle.zs_c.specs.declared.refusal.Refusal.{Refusal}
use Rattle.zs_c.specs.Numbers.{decision_number, next_moment, refusal_number, refusal_place}
use Rattle.zs_c.specs.Refusals.{IsTextRefusal}

-- a buffer with a text written to its front, as far as the text fits
abbrev pub written : List ℕ → List ℕ → List ℕ
written text room = take (length room) text ++ drop (length text) room

-- a number, a next moment and a count of visits are those of the last step of a history
pub record TellsStep (t : Schedule) (h : History) (number moment count : ℕ) : Type 0 where
  pub decision : number ≡ decision_number (answer_of t h).decision
  pub next : moment ≡ next_moment (answer_of t h).decision
  pub visited : count ≡ visits t h

-- A buffer has the text of the output of the last step of a history, and a byte 0 after it, as far
-- as they fit. The number n is the length of that text.
pub record TellsOutput (t : Schedule) (h : History) (room out : List ℕ) (n : ℕ) : Type 0 where
  pub text : out ≡ written (output_text (answer_of t h).output ++ (0 ∷ [])) room
  pub size : n ≡ length (output_text (answer_of t h).output)

-- a number and a place are those of a reason why a text is rejected
pub record IsTextRefused (text : List ℕ) (n at : ℕ) : Type 0 where
  pub why : Refusal
  pub is_so : IsTextRefusal text why
  pub numbered : n ≡ refusal_number why
  pub place : at ≡ refusal_place why

-- a number and a place are those of a reason that holds
pub record IsRefusedFor (Holds : Refusal → Type 0) (n : ℕ) (place : ℕ) : Type 0 where
  pub why : Refusal
  pub is_so : Holds why
  pub numbered : n ≡ refusal_number why
  pub placed : place ≡ refusal_place why

-- The tokens before what is read, and the source of a mapped option.
use Rattle.std.proofs.Common.{◌≡◌, List, [], ◌∷◌, Option, Some, None, refl}
use Rattle.std.specs.Prelude.{option_map}
use Rattle.zs_term.specs.Token.{Token, mark}
use Rattle.zs_term.specs.Grammar.{pick_tokens}
use Rattle.zs_term.specs.declared.token.Mark.TheVariants.{MethodWord, Open, Dot}
use Rattle.zs_term.specs.declared.forms.Method.{Method}
use Rattle.zs_term.specs.declared.forms.Method.TheVariants.{WhileInput, WhileOutput, ResetWhen}
use Rattle.zs_term.specs.declared.forms.Action.{Action}
use Rattle.zs_term.specs.declared.forms.Action.TheVariants.{Stopping, Resetting}
use Rattle.zs_term.specs.declared.forms.Subject.{Subject}
use Rattle.zs_term.specs.declared.forms.Subject.TheVariants.{Input, Picked}

-- the method of a test of a part of the output
abbrev pub action_method : Action → Method
action_method Stopping = WhileOutput
action_method Resetting = ResetWhen

-- the tokens before a comparison
abbrev pub subject_tokens : Subject → List Token
subject_tokens Input = mark Dot ∷ mark (MethodWord WhileInput) ∷ mark Open ∷ []
subject_tokens (Picked e p) =
    mark Dot ∷ mark (MethodWord (action_method e)) ∷ mark Open ∷ pick_tokens p

-- the value that was mapped to `Some`
pub mapped_from : {X Y : Type 0} (f : X → Y) (o : Option X) (y : Y) → option_map f o ≡ Some y →
    (x : X) × (o ≡ Some x) × (f x ≡ y)
mapped_from f None y h = cc
mapped_from f (Some x) y h = (x, refl, cc)

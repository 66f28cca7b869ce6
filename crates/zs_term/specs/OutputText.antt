-- The text of outputs: numbers in decimal, pairs and lists with commas, and no spaces.
use Rattle.std.specs.Prelude.{◌≡◌, ℕ, List, ◌++◌, [], codes, length, take, string_bytes}
use Rattle.std.specs.Prelude.{String}
use Rattle.std.specs.Global.{Global}
use Rattle.std.specs.Fmt.{decimal}
use Rattle.zs_term.specs.Output.{Output, Outputs, number, pair, left, right, listed, none, more}

abbrev mutual
  -- the text of an output
  pub output_text : Output → List ℕ
  output_text (number n) = decimal n
  output_text (pair a b) =
      codes "(" ++ (output_text a ++ (codes "," ++ (output_text b ++ codes ")")))
  output_text (left a) = codes "Left(" ++ (output_text a ++ codes ")")
  output_text (right a) = codes "Right(" ++ (output_text a ++ codes ")")
  output_text (listed xs) = codes "[" ++ (outputs_text xs ++ codes "]")

  -- the texts of a list's outputs, separated by commas
  pub outputs_text : Outputs → List ℕ
  outputs_text none = []
  outputs_text (more x xs) = output_text x ++ behind_text xs

  -- the texts of the outputs after the first, each after a comma
  pub behind_text : Outputs → List ℕ
  behind_text none = []
  behind_text (more x xs) = codes "," ++ (output_text x ++ behind_text xs)

-- the second text begins with the first
abbrev pub IsBeginning : List ℕ → List ℕ → Type 0
IsBeginning text whole = take (length text) whole ≡ text

-- the new text is the old one and then these bytes
abbrev pub Adds : String Global → String Global → List ℕ → Type 0
Adds old new bytes = string_bytes new ≡ string_bytes old ++ bytes

-- the new text begins with the old one
abbrev pub Extends : String Global → String Global → Type 0
Extends old new = IsBeginning (string_bytes old) (string_bytes new)

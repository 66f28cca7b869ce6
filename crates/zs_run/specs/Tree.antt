-- Look-ups in a JSON document: the value, or `None` if it is missing or has another type. A number
-- is whole if it is written in digits only and fits 64 bits.
use Rattle.std.specs.Prelude.{ℕ, List, [], ◌∷◌, Bool, true, if◌then◌else◌, Option, Some, None}
use Rattle.std.specs.Prelude.{option_map, option_and_then}
use Rattle.std.specs.List.{list_all, list_any}
use Rattle.std.specs.Str.{is_utf8, bytes_eq}
use Rattle.serde_json.specs.Data.{Data, Items, no_items, item, Members, no_members, member}
use Rattle.serde_json.specs.Read.{read}
use Rattle.serde_json.specs.Find.{get, as_number, as_u64, as_str, as_array, as_object}

-- the document of these bytes, if they are one in UTF-8
abbrev pub tree_of : List ℕ → Option Data
tree_of bytes = if is_utf8 bytes then read bytes else None

infixl 10 ◌>>=◌
-- the next look-up, if this one found something
abbrev pub ◌>>=◌ : {A B : Type 0} → Option A → (A → Option B) → Option B
None >>= f = None
(Some x) >>= f = f x

-- what is found in each element of a list, if it is found in all of them
unfoldable pub all_of : {A B : Type 0} → (A → Option B) → List A → Option (List B)
all_of find [] = Some []
all_of find (x ∷ xs) = do
  y ← find x
  ys ← all_of find xs
  Some (y ∷ ys)

-- ---- by type

-- the items of a list, in order
abbrev pub list_of : Items → List Data
list_of no_items = []
list_of (item d ds) = d ∷ list_of ds

-- a list
abbrev pub as_list : Data → Option (List Data)
as_list d = option_map list_of (as_array d)

-- a whole number
abbrev pub as_whole : Data → Option ℕ
as_whole d = option_and_then as_u64 (as_number d)

-- a list of whole numbers
abbrev pub as_wholes : Data → Option (List ℕ)
as_wholes d = option_and_then (all_of as_whole) (as_list d)

-- ---- at a key

-- the whole number at a key
abbrev pub find_whole : List ℕ → Data → Option ℕ
find_whole k d = option_and_then as_whole (get k d)

-- the text at a key
abbrev pub find_text : List ℕ → Data → Option (List ℕ)
find_text k d = option_and_then as_str (get k d)

-- the list at a key
abbrev pub find_list : List ℕ → Data → Option (List Data)
find_list k d = option_and_then as_list (get k d)

-- the whole number, or a default if it is missing
abbrev pub whole_or : ℕ → Option Data → Option ℕ
whole_or default None = Some default
whole_or default (Some d) = as_whole d

-- ---- keys

-- the keys of members, in order
abbrev pub keys_of : Members → List (List ℕ)
keys_of no_members = []
keys_of (member k d ms) = k ∷ keys_of ms

-- whether a text is one of a list
abbrev pub is_one_of : List (List ℕ) → List ℕ → Bool
is_one_of known key = list_any (λ k. bytes_eq k key) known

-- each key of these members is a known one
abbrev pub are_known : List (List ℕ) → Option Members → Bool
are_known known None = true
are_known known (Some members) = list_all (is_one_of known) (keys_of members)

-- an object has no key but the known ones
abbrev pub has_only_keys : List (List ℕ) → Data → Bool
has_only_keys known d = are_known known (as_object d)

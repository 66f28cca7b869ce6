-- Each whole number of a document that was read has 64 bits: the values and error codes of scripts
-- too.
use Rattle.std.proofs.Common.{◌≡◌, ℕ, ◌≤◌, ◌<◌, ◌^◌, List, [], ◌∷◌, ◌&&◌, Bool, true, false, nat_lt, nat_le, Option, Some, None, option_map, option_and_then, Ordering, Less, Equal, Greater, if◌then◌else◌, codes, refl, arith}
use Rattle.std.specs.Prelude.{⊤, ◌==◌, slice_index, drop}
use Rattle.std.specs.Str.{is_utf8}
use Rattle.std.specs.List.{AllByRecursion}
use Rattle.std.specs.Ordering.{nat_cmp, match_ordering}
use Rattle.std.specs.Cmp.Lexicographic.{slice_cmp}
use Rattle.std.specs.Float.{binary64, float_is_finite}
use Rattle.std.proofs.lemmas.Bool.Decides.{nat_tests}
use Rattle.fast_float.specs.Text.{minus, Parts, scan, digits_of, nearest, with_sign}
use Rattle.json.specs.Lex.{tokens}
use Rattle.json.specs.Json as json
use Rattle.serde_json.specs.Data.{Num, unsigned, negative, float, Data, null, boolean, number, string, array, object, Items, no_items, item, Members, no_members, member, put}
use Rattle.serde_json.specs.Read.{is_integer, float_of, number_from, number_of, of_json, of_items, of_members, max_depth, read}
use Rattle.serde_json.specs.Find.{get_member, get, as_u64}
use Rattle.zs_term.specs.Saturating.{max_moment}
use Rattle.zs_effect.specs.declared.script.Beat.{Beat}
use Rattle.zs_effect.specs.declared.script.Outcome.TheVariants.{Good, Bad}
use Rattle.zs_drive.specs.Timeline as timeline
use Rattle.zs_run.specs.Tree.{◌>>=◌, tree_of, all_of, list_of, as_list, as_whole, find_whole, find_text, find_list, whole_or}
use Rattle.zs_run.specs.Shapes.{beat_of, outcome_of, job_parts, JobParts, document_parts, DocumentParts}

-- ---- what may be missing

-- what is there has property P
abbrev pub There : {A : Type 0} → (A → Type 0) → Option A → Type 0
There P None = ⊤
There P (Some a) = P a

there-map : {A B : Type 0} (P : A → Type 0) (Q : B → Type 0) (f : A → B) → ((a : A) → P a → Q (f a)) → (o : Option A) → There P o → There Q (option_map f o)
there-map P Q f k None h = tt
there-map P Q f k (Some a) h = k a h

there-then : {A B : Type 0} (P : A → Type 0) (Q : B → Type 0) (f : A → Option B) → ((a : A) → P a → There Q (f a)) → (o : Option A) → There P o
    → There Q (option_and_then f o)
there-then P Q f k None h = tt
there-then P Q f k (Some a) h = k a h

-- the same of a look-up after another one
there-next : {A B : Type 0} (P : A → Type 0) (Q : B → Type 0) (f : A → Option B) → ((a : A) → P a → There Q (f a)) → (o : Option A) → There P o
    → There Q (o >>= f)
there-next P Q f k None h = tt
there-next P Q f k (Some a) h = k a h

there-if : {A : Type 0} (P : A → Type 0) (b : Bool) (o p : Option A) → There P o → There P p → There P (if b then o else p)
there-if P true o p h g = h
there-if P false o p h g = g

any-there : {A : Type 0} (o : Option A) → There (λ _. ⊤) o
any-there None = tt
any-there (Some a) = tt

-- ---- documents

-- a whole number fits
abbrev NumFits : Num → Type 0
NumFits (unsigned n) = n ≤ max_moment
NumFits (negative z) = ⊤
NumFits (float x) = ⊤

-- each whole number fits
abbrev mutual
  pub DataFits : Data → Type 0
  DataFits null = ⊤
  DataFits (boolean b) = ⊤
  DataFits (number n) = NumFits n
  DataFits (string s) = ⊤
  DataFits (array ds) = ItemsFit ds
  DataFits (object ms) = MembersFit ms

  ItemsFit : Items → Type 0
  ItemsFit no_items = ⊤
  ItemsFit (item d ds) = DataFits d × ItemsFit ds

  MembersFit : Members → Type 0
  MembersFit no_members = ⊤
  MembersFit (member k d ms) = DataFits d × MembersFit ms

-- a number that is no integer
float-fits : (sign : Bool) (p : Parts) → There NumFits (float_of sign p)
float-fits sign p = there-if NumFits (float_is_finite (nearest binary64 sign p)) (Some (float (nearest binary64 sign p))) None tt tt

unsigned-fits : (n : ℕ) (a b : Bool) (o : Option Num) → nat_lt n (2 ^ 64) ≡ b → There NumFits o → There NumFits (if a && b then Some (unsigned n) else o)
unsigned-fits n true true o small h = let fits : n < 2 ^ 64 = grind (arith, nat_tests, small) in omega (arith, fits)
unsigned-fits n true false o small h = h
unsigned-fits n false b o small h = h

from-fits : (sign : Bool) (p : Parts) → There NumFits (number_from sign p)
from-fits false p = unsigned-fits (digits_of p) (is_integer p) (nat_lt (digits_of p) (2 ^ 64)) (float_of false p) refl (float-fits false p)
from-fits true p =
    there-if NumFits (is_integer p && nat_lt 0 (digits_of p) && nat_le (digits_of p) (2 ^ 63)) (Some (negative (with_sign true (digits_of p)))) (float_of true p) tt
    (float-fits true p)

number_of-fits : (s : List ℕ) → There NumFits (number_of s)
unfolding number_of
number_of-fits s =
    there-if NumFits (slice_index s 0 == minus) (number_from true (scan (drop 1 s))) (number_from false (scan s)) (from-fits true (scan (drop 1 s))) (from-fits false (scan s))

ordered-fit : (o : Ordering) (a b c : Members) → MembersFit a → MembersFit b → MembersFit c → MembersFit (match_ordering o a b c)
ordered-fit Less a b c f g h = f
ordered-fit Equal a b c f g h = g
ordered-fit Greater a b c f g h = h

put-fits : (k : List ℕ) (d : Data) (ms : Members) → DataFits d → MembersFit ms → MembersFit (put k d ms)
put-fits k d no_members f h = (f, tt)
put-fits k d (member l e ms) f h =
    ordered-fit (slice_cmp nat_cmp k l) (member k d (member l e ms)) (member l d ms) (member l e (put k d ms)) (f, h) (f, h.1) (h.0, put-fits k d ms f h.1)

mutual
  of_json-fits : (j : json.Json) → There DataFits (of_json j)
  of_json-fits json.null = tt
  of_json-fits (json.boolean b) = tt
  of_json-fits (json.number s) = there-map NumFits DataFits number (λ n f. f) (number_of s) (number_of-fits s)
  of_json-fits (json.string s) = tt
  of_json-fits (json.array js) = there-map ItemsFit DataFits array (λ ds f. f) (of_items js) (of_items-fit js)
  of_json-fits (json.object ms) = there-map MembersFit DataFits object (λ es f. f) (of_members ms no_members) (of_members-fit ms no_members tt)

  of_items-fit : (js : json.Items) → There ItemsFit (of_items js)
  of_items-fit json.no_items = tt
  of_items-fit (json.item j js) =
      there-then DataFits ItemsFit _ (λ d f. there-map ItemsFit ItemsFit (item d) (λ ds g. (f, g)) (of_items js) (of_items-fit js)) (of_json j) (of_json-fits j)

  of_members-fit : (ms : json.Members) (found : Members) → MembersFit found → There MembersFit (of_members ms found)
  of_members-fit json.no_members found h = h
  of_members-fit (json.member k j ms) found h =
      there-then DataFits MembersFit _ (λ d f. of_members-fit ms (put k d found) (put-fits k d found f h)) (of_json j) (of_json-fits j)

-- a document that was read
pub read-fits : (text : List ℕ) → There DataFits (tree_of text)
read-fits text =
    let o : Option json.Json = option_and_then (λ p. json.if_last p.0 p.1) (json.value max_depth (tokens text)) in
    there-if DataFits (is_utf8 text) (read text) None (there-then (λ _. ⊤) DataFits of_json (λ j x. of_json-fits j) o (any-there o)) tt

-- ---- look-ups

found-fits : (o : Ordering) (a b c : Option Data) → There DataFits a → There DataFits b → There DataFits c → There DataFits (match_ordering o a b c)
found-fits Less a b c f g h = f
found-fits Equal a b c f g h = g
found-fits Greater a b c f g h = h

member-fits : (k : List ℕ) (ms : Members) → MembersFit ms → There DataFits (get_member k ms)
member-fits k no_members h = tt
member-fits k (member l e ms) h =
    found-fits (slice_cmp nat_cmp k l) (get_member k ms) (Some e) (get_member k ms) (member-fits k ms h.1) h.0 (member-fits k ms h.1)

get-fits : (k : List ℕ) (d : Data) → DataFits d → There DataFits (get k d)
get-fits k null h = tt
get-fits k (boolean b) h = tt
get-fits k (number n) h = tt
get-fits k (string s) h = tt
get-fits k (array ds) h = tt
get-fits k (object ms) h = member-fits k ms h

items-fit : (ds : Items) → ItemsFit ds → AllByRecursion DataFits (list_of ds)
items-fit no_items h = tt
items-fit (item d ds) h = (h.0, items-fit ds h.1)

list-fits : (d : Data) → DataFits d → There (AllByRecursion DataFits) (as_list d)
list-fits null h = tt
list-fits (boolean b) h = tt
list-fits (number n) h = tt
list-fits (string s) h = tt
list-fits (array ds) h = items-fit ds h
list-fits (object ms) h = tt

find_list-fits : (k : List ℕ) (d : Data) → DataFits d → There (AllByRecursion DataFits) (find_list k d)
find_list-fits k d h = there-then DataFits (AllByRecursion DataFits) as_list list-fits (get k d) (get-fits k d h)

num-fits : (n : Num) → NumFits n → There (λ x. x ≤ max_moment) (as_u64 n)
num-fits (unsigned n) h = h
num-fits (negative z) h = tt
num-fits (float x) h = tt

whole-fits : (d : Data) → DataFits d → There (λ x. x ≤ max_moment) (as_whole d)
whole-fits null h = tt
whole-fits (boolean b) h = tt
whole-fits (number n) h = num-fits n h
whole-fits (string s) h = tt
whole-fits (array ds) h = tt
whole-fits (object ms) h = tt

-- ---- entries

-- the value or the code of an entry fits
abbrev pub BeatFits : Beat → Type 0
BeatFits beat = timeline.number_of beat.outcome ≤ max_moment

outcome-fits : (ok err : Option Data) → There DataFits ok → There DataFits err → There (λ o. timeline.number_of o ≤ max_moment) (outcome_of ok err)
outcome-fits (Some ok) None h g = there-map (λ x. x ≤ max_moment) (λ o. timeline.number_of o ≤ max_moment) Good (λ x f. f) (as_whole ok) (whole-fits ok h)
outcome-fits None (Some err) h g = there-map (λ x. x ≤ max_moment) (λ o. timeline.number_of o ≤ max_moment) Bad (λ x f. f) (as_whole err) (whole-fits err g)
outcome-fits None None h g = tt
outcome-fits (Some ok) (Some err) h g = tt

beat-fits : (d : Data) → DataFits d → There BeatFits (beat_of d)
unfolding beat_of
beat-fits d h =
    there-next (λ _. ⊤) BeatFits _
    (λ ms x. there-next (λ o. timeline.number_of o ≤ max_moment) BeatFits _ (λ outcome f. f) (outcome_of (get (codes "ok") d) (get (codes "err") d))
    (outcome-fits (get (codes "ok") d) (get (codes "err") d) (get-fits (codes "ok") d h) (get-fits (codes "err") d h)))
    (find_whole (codes "ms") d) (any-there _)

pub beats-fit : (ds : List Data) → AllByRecursion DataFits ds → There (AllByRecursion BeatFits) (all_of beat_of ds)
unfolding all_of
beats-fit [] h = tt
beats-fit (d ∷ ds) h =
    there-next BeatFits (AllByRecursion BeatFits) _
    (λ beat f. there-next (AllByRecursion BeatFits) (AllByRecursion BeatFits) _ (λ beats g. (f, g)) (all_of beat_of ds) (beats-fit ds h.1))
    (beat_of d) (beat-fits d h.0)

-- ---- jobs and documents

-- the numbers of a job's entries fit
abbrev pub EntriesFit : JobParts → Type 0
EntriesFit parts = AllByRecursion DataFits parts.entries

pub parts-fit : (d : Data) → DataFits d → There EntriesFit (job_parts d)
unfolding job_parts
parts-fit d h =
    there-next (λ _. ⊤) EntriesFit _
    (λ name x. there-next (λ _. ⊤) EntriesFit _
    (λ mode x. there-next (λ _. ⊤) EntriesFit _
    (λ schedule x. there-next (λ _. ⊤) EntriesFit _
    (λ start x. there-next (AllByRecursion DataFits) EntriesFit _ (λ entries f. f) (find_list (codes "script") d) (find_list-fits (codes "script") d h))
    (whole_or 0 (get (codes "start") d)) (any-there _))
    (find_text (codes "schedule") d) (any-there _))
    (find_text (codes "mode") d) (any-there _))
    (find_text (codes "name") d) (any-there _)

-- the numbers of a document's jobs fit
abbrev pub JobsFit : DocumentParts → Type 0
JobsFit parts = AllByRecursion DataFits parts.jobs

pub document-fits : (d : Data) → DataFits d → There JobsFit (document_parts d)
unfolding document_parts
document-fits d h =
    there-next (λ _. ⊤) JobsFit _
    (λ workers x. there-next (λ _. ⊤) JobsFit _
    (λ grain x. there-next (AllByRecursion DataFits) JobsFit _ (λ jobs f. f) (find_list (codes "jobs") d) (find_list-fits (codes "jobs") d h))
    (whole_or 1 (get (codes "grain") d)) (any-there _))
    (whole_or 1 (get (codes "workers") d)) (any-there _)

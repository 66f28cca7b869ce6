-- Lines of bytes that are put together, and lines that are taken from a reader.
use Rattle.std.proofs.Common.{◌≡◌, ◌<◌, ◌==◌, ℕ, List, [], ◌∷◌, ◌++◌, length, Bool, true, false}
use Rattle.std.proofs.Common.{not, Ok, Err, Option, None, Some, refl, sym, ap, ◌∙◌, append_assoc}
use Rattle.std.proofs.Common.{append-nil, length-append, arith}
use Rattle.std.proofs.lemmas.Bool.{eqb-true}
use Rattle.std.specs.Io.KnownBytes.{Consumes, IsAtEnd, prepend_known}
use Rattle.std.specs.Prelude.{IfSome, IsErrOf, IsTrue}
use Rattle.zs_lines.specs.Lines.{begin_with, lines_of}
use Rattle.zs_lines.specs.Buffers.{BeginsWith, IsOneLine, LineRead, Took}

-- ---- bytes

-- one byte more at the front
line-step : (b : ℕ) (bs : List ℕ) → (b == 10) ≡ false →
    lines_of (b ∷ bs) ≡ begin_with b (lines_of bs)
line-step b bs other = rw other refl

-- a line, its newline, and the rest
pub lines-ended : (piece rest : List ℕ) → IsOneLine piece →
    lines_of (piece ++ 10 ∷ rest) ≡ piece ∷ lines_of rest
lines-ended [] rest one = refl
lines-ended (b ∷ bs) rest one =
    line-step b (bs ++ 10 ∷ rest) one.0 ∙ ap (begin_with b) (lines-ended bs rest one.1)

-- a line that ends with the bytes
pub lines-last : (b : ℕ) (bs : List ℕ) → IsOneLine (b ∷ bs) → lines_of (b ∷ bs) ≡ (b ∷ bs) ∷ []
lines-last b [] one = line-step b [] one.0
lines-last b (c ∷ cs) one = line-step b (c ∷ cs) one.0 ∙ ap (begin_with b) (lines-last c cs one.1)

begun-cases : (b : ℕ) (lines : List (List ℕ)) → (tail : List ℕ) × (rest : List (List ℕ))
    × (begin_with b lines ≡ (b ∷ tail) ∷ rest)
begun-cases b [] = ([], [], refl)
begun-cases b (line ∷ lines) = (line, lines, refl)

-- bytes without a newline are at the front of the first line
pub lines-begun : (b : ℕ) (bs more : List ℕ) → IsOneLine (b ∷ bs)
    → (tail : List ℕ) × (rest : List (List ℕ))
    × (lines_of ((b ∷ bs) ++ more) ≡ (b ∷ bs ++ tail) ∷ rest)
lines-begun b [] more one =
    let w = begun-cases b (lines_of more) in
    (w.0, w.1, line-step b more one.0 ∙ w.2)
lines-begun b (c ∷ cs) more one =
    let w = lines-begun c cs more one.1 in
    (w.0, w.1, line-step b ((c ∷ cs) ++ more) one.0 ∙ ap (begin_with b) w.2)

pub one_line-append : (xs ys : List ℕ) → IsOneLine xs → IsOneLine ys → IsOneLine (xs ++ ys)
one_line-append [] ys one more = more
one_line-append (x ∷ xs) ys one more = (one.0, one_line-append xs ys one.1 more)

-- ---- bytes that are known

-- the bytes of the buffer joined the line
pub opened : (old left : Option (List ℕ)) (line piece : List ℕ)
    → Consumes old (prepend_known piece left) line → Consumes old left (line ++ piece)
opened None left line piece read = tt
opened (Some xs) None line piece read = absurd read
opened (Some xs) (Some ys) line piece read = read ∙ sym (append_assoc line piece ys)

-- a newline was found
pub took-ended : (old left : Option (List ℕ)) (line piece rest : List ℕ) → IsOneLine line
    → IsOneLine piece
    → Consumes old (prepend_known (piece ++ 10 ∷ rest) left) line
    → Took old (prepend_known rest left) ((line ++ piece) ∷ [])
took-ended None left line piece rest one more read = tt
took-ended (Some xs) None line piece rest one more read = absurd read
took-ended (Some xs) (Some ys) line piece rest one more read =
    let whole : xs ≡ (line ++ piece) ++ 10 ∷ (rest ++ ys) =
    read ∙ ap (λ bs. line ++ bs) (append_assoc piece (10 ∷ rest) ys)
    ∙ sym (append_assoc line piece (10 ∷ rest ++ ys)) in
    ap lines_of whole ∙ lines-ended (line ++ piece) (rest ++ ys)
    (one_line-append line piece one more)

-- more bytes were read
pub filled : (old mid left : Option (List ℕ)) (line more : List ℕ)
    → Consumes old mid line → Consumes mid left more → Consumes old (prepend_known more left) line
filled None mid left line more first next = tt
filled (Some xs) None left line more first next = absurd first
filled (Some xs) (Some ys) None line more first next = absurd next
filled (Some xs) (Some ys) (Some zs) line more first next = first ∙ ap (λ bs. line ++ bs) next

-- the bytes ended after a line
pub took-last : (old mid left : Option (List ℕ)) (b : ℕ) (bs : List ℕ) → IsOneLine (b ∷ bs)
    → Consumes old mid (b ∷ bs) → Consumes mid left [] → IsAtEnd left
    → Took old (prepend_known [] left) ((b ∷ bs) ∷ [])
took-last None mid left b bs one first next end = tt
took-last (Some xs) None left b bs one first next end = absurd first
took-last (Some xs) (Some ys) None b bs one first next end = absurd next
took-last (Some xs) (Some ys) (Some zs) b bs one first next end =
    let whole : xs ≡ b ∷ bs =
    first ∙ ap (λ rest. b ∷ bs ++ rest) (next ∙ end) ∙ append-nil (b ∷ bs) in
    ap lines_of whole ∙ lines-last b bs one ∙ sym (ap (λ rest. (b ∷ bs) ∷ lines_of rest) end)

-- the bytes ended
pub took-none : (old mid left : Option (List ℕ)) → Consumes old mid [] → Consumes mid left [] →
    Took old (prepend_known [] left) []
took-none None mid left first next = tt
took-none (Some xs) None left first next = absurd first
took-none (Some xs) (Some ys) None first next = absurd next
took-none (Some xs) (Some ys) (Some zs) first next = ap lines_of (first ∙ next)

pub at_end : (left : Option (List ℕ)) → IsAtEnd left → IsAtEnd (prepend_known [] left)
at_end None end = tt
at_end (Some xs) end = end

-- a line is longer than one may be
pub too-long : (limit : ℕ) (old left : Option (List ℕ)) (line : List ℕ) → IsOneLine line
    → limit < length line → Consumes old left line
    → (long : List ℕ) × (limit < length long) × BeginsWith old (long ∷ [])
too-long limit old left [] one above read = absurd (omega (arith, above))
too-long limit None left (b ∷ bs) one above read = (b ∷ bs, above, tt)
too-long limit (Some xs) None (b ∷ bs) one above read = absurd read
too-long limit (Some xs) (Some ys) (b ∷ bs) one above read =
    let w = lines-begun b bs ys one in
    (b ∷ bs ++ w.0, omega (arith, length-append (b ∷ bs) w.0), (w.1, ap lines_of read ∙ w.2))

not-true : (b : Bool) → (b ≡ true → ⊥) → b ≡ false
not-true true not = absurd (not refl)
not-true false not = refl

-- the bytes ended: after a line, or when none remained
pub ended : (limit : ℕ) (old mid left : Option (List ℕ)) (line : List ℕ) (empty : Bool)
    → empty ≡ (length line == 0) → IsOneLine line
    → Consumes old mid line → Consumes mid left [] → IsAtEnd left
    → LineRead limit (Ok (not empty)) old (prepend_known [] left) line
ended limit old mid left [] empty is one first next end =
    rw is (took-none old mid left first next, at_end left end)
ended limit old mid left (b ∷ bs) empty is one first next end =
    let some : (length (b ∷ bs) == 0) ≡ false =
    not-true (length (b ∷ bs) == 0) (λ e. let none : length (b ∷ bs) ≡ 0 =
    eqb-true (length (b ∷ bs)) 0 e in omega (arith, none)) in
    rw (is ∙ some) (took-last old mid left b bs one first next end)

-- a mark that is set at a fault alone is clear at success
pub clear-at-ok : {A E : Type 0} (mark : Bool) (found : A) (fault : E) →
    (IsTrue mark → IsErrOf (Ok found) fault) → mark ≡ false
clear-at-ok true found fault set = absurd (let e : Ok found ≡ Err fault = set refl in cc)
clear-at-ok false found fault set = refl

-- ---- lines that are known

pub took-nothing : (known : Option (List ℕ)) → Took known known []
took-nothing None = tt
took-nothing (Some xs) = refl

-- lines after lines
pub took-more : (a b c : Option (List ℕ)) (xs ys : List (List ℕ)) → Took a b xs → Took b c ys →
    Took a c (xs ++ ys)
took-more None b c xs ys first next = tt
took-more (Some a) None c xs ys first next = absurd first
took-more (Some a) (Some b) None xs ys first next = absurd next
took-more (Some a) (Some b) (Some c) xs ys first next =
    first ∙ ap (λ lines. xs ++ lines) next ∙ sym (append_assoc xs ys (lines_of c))

pub begins-more : (a b : Option (List ℕ)) (xs ys : List (List ℕ)) → Took a b xs → BeginsWith b ys →
    BeginsWith a (xs ++ ys)
begins-more None b xs ys first next = tt
begins-more (Some a) None xs ys first next = absurd first
begins-more (Some a) (Some b) xs ys first next =
    (next.0, first ∙ ap (λ lines. xs ++ lines) next.1 ∙ sym (append_assoc xs ys next.0))

pub begins : (a b : Option (List ℕ)) (lines : List (List ℕ)) → Took a b lines → BeginsWith a lines
begins None b lines read = tt
begins (Some a) None lines read = absurd read
begins (Some a) (Some b) lines read = (lines_of b, read)

right-nil : (xs ys : List ℕ) → xs ++ ys ≡ [] → ys ≡ []
right-nil [] ys is = is
right-nil (x ∷ xs) ys is = absurd (let no : x ∷ (xs ++ ys) ≡ [] = is in cc)

-- all bytes were read, and these are their lines
pub all-read : (before left : Option (List ℕ)) (buffer : List ℕ) (lines : List (List ℕ))
    → Took before (prepend_known buffer left) lines → IsAtEnd (prepend_known buffer left)
    → IfSome before (λ known. (lines_of known ≡ lines) × (left ≡ Some []))
all-read None left buffer lines took end = tt
all-read (Some xs) None buffer lines took end = absurd took
all-read (Some xs) (Some ys) buffer lines took end = (
  took ∙ ap (λ (bs : List ℕ). lines ++ lines_of bs) end ∙ append-nil lines,
  ap (λ (bs : List ℕ). Some bs) (right-nil buffer ys end),
)

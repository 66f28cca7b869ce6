-- Words that are written in pieces.
use Rattle.std.proofs.Common.{◌≡◌, ℕ, zero, suc, ◌+◌, ◌-◌, ◌≤◌, List, [], ◌∷◌, ◌++◌, length, take}
use Rattle.std.proofs.Common.{drop, get_or, length-drop, add-one, refl, sym, ap, ◌∙◌, arith}
use Rattle.std.specs.Prelude.{slice_set}
use Rattle.std.proofs.Math.Seq.{take-append_seam, drop-append_seam}
use borrow.Rule.Slice.PartMut.{put_mid}

-- nothing after all words
pub drop-whole : (n : ℕ) (ws : List ℕ) → length ws ≤ n → drop n ws ≡ []
drop-whole zero [] le = refl
drop-whole (suc n) [] le = refl
drop-whole zero (w ∷ ws) le = absurd (omega (arith, le))
drop-whole (suc n) (w ∷ ws) le = drop-whole n ws (omega (arith, le))

-- all words
pub take-whole : (n : ℕ) (ws : List ℕ) → length ws ≤ n → take n ws ≡ ws
take-whole zero [] le = refl
take-whole (suc n) [] le = refl
take-whole zero (w ∷ ws) le = absurd (omega (arith, le))
take-whole (suc n) (w ∷ ws) le = ap (λ (xs : List ℕ). w ∷ xs) (take-whole n ws (omega (arith, le)))

-- nothing appended
pub append-nothing : (ws : List ℕ) → ws ++ [] ≡ ws
append-nothing [] = refl
append-nothing (w ∷ ws) = ap (λ (xs : List ℕ). w ∷ xs) (append-nothing ws)

-- all words from an index on are overwritten
pub put-rest : (n k : ℕ) (xs ys : List ℕ) → length xs ≤ n + k → put_mid n k xs ys ≡ take n xs ++ ys
put-rest n k xs ys le =
    let rest : length (drop n xs) ≤ k = omega (arith, le, length-drop n xs) in
    ap (λ z. take n xs ++ (ys ++ z)) (drop-whole k (drop n xs) rest)
    ∙ ap (λ z. take n xs ++ z) (append-nothing ys)

-- the first word is set, and all words after it are overwritten
pub put-behind-first : (ws rest : List ℕ) (w : ℕ) → 1 ≤ length ws →
    put_mid 1 (length (slice_set ws 0 w) - 1) (slice_set ws 0 w) rest ≡ w ∷ rest
put-behind-first [] rest w some = absurd (omega (arith, some))
put-behind-first (x ∷ ws) rest w some = put-rest 1 (length (w ∷ ws) - 1) (w ∷ ws) rest (omega arith)

-- the number of words after the first
pub length-behind-first : (ws : List ℕ) (w n : ℕ) → length ws ≡ suc n →
    length (take (length (slice_set ws 0 w) - 1) (drop 1 (slice_set ws 0 w))) ≡ n
length-behind-first [] w n sized = absurd (omega (arith, sized))
length-behind-first (x ∷ ws) w n sized =
    ap length (take-whole (length (w ∷ ws) - 1) ws (omega arith)) ∙ omega (arith, sized)

-- the same for the first two words
pub put-behind-two : (ws rest : List ℕ) → 2 ≤ length ws →
    put_mid 2 (length (slice_set (slice_set ws 0 0) 1 0) - 2) (slice_set (slice_set ws 0 0) 1 0)
    rest ≡ 0 ∷ (0 ∷ rest)
put-behind-two [] rest some = absurd (omega (arith, some))
put-behind-two (x ∷ []) rest some = absurd (omega (arith, some))
put-behind-two (x ∷ (y ∷ ws)) rest some =
    put-rest 2 (length (0 ∷ (0 ∷ ws)) - 2) (0 ∷ (0 ∷ ws)) rest (omega arith)

pub length-behind-two : (ws : List ℕ) (n : ℕ) → length ws ≡ suc (suc n) →
    length (take (length (slice_set (slice_set ws 0 0) 1 0) - 2)
    (drop 2 (slice_set (slice_set ws 0 0) 1 0))) ≡ n
length-behind-two [] n sized = absurd (omega (arith, sized))
length-behind-two (x ∷ []) n sized = absurd (omega (arith, sized))
length-behind-two (x ∷ (y ∷ ws)) n sized =
    ap length (take-whole (length (0 ∷ (0 ∷ ws)) - 2) ws (omega arith)) ∙ omega (arith, sized)

-- the words after the first two, and all words with others in their place
pub list-arg : (ws xs : List ℕ) (a b : ℕ) → ws ≡ a ∷ (b ∷ xs) →
    take (length ws - 2) (drop 2 ws) ≡ xs
list-arg ws xs a b is =
    ap (λ (v : List ℕ). take (length v - 2) (drop 2 v)) is ∙ take-whole (length (a ∷ (b ∷ xs)) - 2)
    xs (omega arith)

pub list-kept : (ws xs xn : List ℕ) (a b : ℕ) → ws ≡ a ∷ (b ∷ xs) →
    get_or (put_mid 2 (length ws - 2) ws xn) 1 0 ≡ b
list-kept ws xs xn a b is = ap (λ (v : List ℕ). get_or (put_mid 2 (length v - 2) v xn) 1 0) is

pub list-set : (ws xs xn : List ℕ) (a b c : ℕ) → ws ≡ a ∷ (b ∷ xs) →
    get_or (slice_set (put_mid 2 (length ws - 2) ws xn) 0 c) 1 0 ≡ b
list-set ws xs xn a b c is =
    ap (λ (v : List ℕ). get_or (slice_set (put_mid 2 (length v - 2) v xn) 0 c) 1 0) is

pub list-new : (ws xs xn : List ℕ) (a b c d : ℕ) → ws ≡ a ∷ (b ∷ xs) →
    slice_set (slice_set (put_mid 2 (length ws - 2) ws xn) 0 c) 1 d ≡ c ∷ (d ∷ xn)
list-new ws xs xn a b c d is =
    let all = a ∷ (b ∷ xs) in
    ap (λ (v : List ℕ). slice_set (slice_set (put_mid 2 (length v - 2) v xn) 0 c) 1 d) is
    ∙ ap (λ (v : List ℕ). slice_set (slice_set v 0 c) 1 d)
    (put-rest 2 (length all - 2) all xn (omega arith))

-- the first of two pieces, and the second once the first is overwritten
pub parts-second : (ws xs ys xn : List ℕ) (n : ℕ) → ws ≡ xs ++ ys → n ≡ length xs → length xn ≡ n →
    drop n (xn ++ drop n ws) ≡ ys
parts-second ws xs ys xn n is sized kept =
    let rest : drop n ws ≡ ys =
    ap (drop n) is ∙ ap (λ k. drop k (xs ++ ys)) sized ∙ drop-append_seam xs ys in
    ap (λ z. drop n (xn ++ z)) rest ∙ ap (λ k. drop k (xn ++ ys)) (sym kept)
    ∙ drop-append_seam xn ys

pub parts-second-all : (ws xs ys xn : List ℕ) (n : ℕ) → ws ≡ xs ++ ys → n ≡ length xs →
    length xn ≡ n →
    take (length (xn ++ drop n ws) - n) (drop n (xn ++ drop n ws)) ≡ ys
parts-second-all ws xs ys xn n is sized kept =
    let whole = xn ++ drop n ws in
    let fits : length (drop n whole) ≤ length whole - n = omega (arith, length-drop n whole) in
    take-whole (length whole - n) (drop n whole) fits ∙ parts-second ws xs ys xn n is sized kept

pub parts-new : (ws xn yn : List ℕ) (n : ℕ) → length xn ≡ n →
    put_mid n (length (xn ++ drop n ws) - n) (xn ++ drop n ws) yn ≡ xn ++ yn
parts-new ws xn yn n kept =
    let whole = xn ++ drop n ws in
    put-rest n (length whole - n) whole yn (omega arith) ∙ ap (λ k. take k whole ++ yn) (sym kept)
    ∙ ap (λ z. z ++ yn) (take-append_seam xn (drop n ws))

-- two pieces after a first word
pub then-first-arg : (words xs ys : List ℕ) (w n : ℕ) → words ≡ w ∷ (xs ++ ys) → n ≡ length xs →
    take (n + 1 - 1) (drop 1 words) ≡ xs
then-first-arg words xs ys w n is sized =
    let e : n + 1 - 1 ≡ n = omega arith in
    ap (λ k. take k (drop 1 words)) e ∙ ap (λ (v : List ℕ). take n (drop 1 v)) is
    ∙ ap (λ k. take k (xs ++ ys)) sized ∙ take-append_seam xs ys

pub then-first-new : (words xs ys zs : List ℕ) (w n : ℕ) → words ≡ w ∷ (xs ++ ys) → n ≡ length xs →
    put_mid 1 (n + 1 - 1) words zs ≡ w ∷ (zs ++ ys)
then-first-new words xs ys zs w n is sized =
    let e : n + 1 - 1 ≡ n = omega arith in
    ap (λ k. put_mid 1 k words zs) e ∙ ap (λ (v : List ℕ). put_mid 1 n v zs) is
    ∙ ap (λ (z : List ℕ). w ∷ (zs ++ z))
    (ap (λ k. drop k (xs ++ ys)) sized ∙ drop-append_seam xs ys)

pub then-second-arg : (words xs ys : List ℕ) (w n : ℕ) → words ≡ w ∷ (xs ++ ys) → n ≡ length xs →
    take (length words - (n + 1)) (drop (n + 1) words) ≡ ys
then-second-arg words xs ys w n is sized =
    let rest : drop (n + 1) words ≡ ys =
    ap (λ (v : List ℕ). drop (n + 1) v) is ∙ ap (λ k. drop k (w ∷ (xs ++ ys))) (add-one n)
    ∙ ap (λ k. drop k (xs ++ ys)) sized ∙ drop-append_seam xs ys in
    let fits : length (drop (n + 1) words) ≤ length words - (n + 1) =
    omega (arith, length-drop (n + 1) words) in
    take-whole (length words - (n + 1)) (drop (n + 1) words) fits ∙ rest

pub then-second-new : (words xs ys zs : List ℕ) (w n : ℕ) → words ≡ w ∷ (xs ++ ys) → n ≡ length xs →
    put_mid (n + 1) (length words - (n + 1)) words zs ≡ w ∷ (xs ++ zs)
then-second-new words xs ys zs w n is sized =
    put-rest (n + 1) (length words - (n + 1)) words zs (omega arith)
    ∙ ap (λ (v : List ℕ). take (n + 1) v ++ zs) is
    ∙ ap (λ k. take k (w ∷ (xs ++ ys)) ++ zs) (add-one n) ∙ ap (λ (z : List ℕ). w ∷ (z ++ zs))
    (ap (λ k. take k (xs ++ ys)) sized ∙ take-append_seam xs ys)

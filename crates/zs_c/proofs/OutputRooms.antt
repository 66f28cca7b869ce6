-- Texts one after the other in a buffer, from any index on.
use Rattle.std.proofs.Common.{◌≡◌, ℕ, zero, suc, List, [], ◌∷◌, ◌++◌, ◌+◌, length, refl, sym, ap}
use Rattle.std.proofs.Common.{◌∙◌, append_assoc, length-append, arith}
use Rattle.zs_c.specs.Told.{written}
use Rattle.zs_c.specs.Rooms.{written_at}
use Rattle.zs_c.proofs.Rooms.{written_behind}

-- in an empty buffer
written_none : (x : List ℕ) → written x [] ≡ []
written_none [] = refl
written_none (b ∷ x) = refl

-- a text after another, which was written before
pub written_at-twice : (at : ℕ) (x y room : List ℕ) →
    written_at (at + length x) y (written_at at x room) ≡ written_at at (x ++ y) room
written_at-twice zero x y room = let e : zero + length x ≡ length x = omega arith in
    ap (λ n. written_at n y (written x room)) e ∙ written_behind x y room
written_at-twice (suc at) x y [] =
    let e : suc at + length x ≡ suc (at + length x) = omega arith in
    ap (λ n. written_at n y (written x [])) e ∙ ap (λ r. written_at (suc (at + length x)) y r)
    (written_none x) ∙ written_none y ∙ sym (written_none (x ++ y))
written_at-twice (suc at) x y (b ∷ room) =
    let e : suc at + length x ≡ suc (at + length x) = omega arith in
    ap (λ n. written_at n y (b ∷ written_at at x room)) e
    ∙ ap (λ r. b ∷ r) (written_at-twice at x y room)

-- one more text, from the end of the texts before it on
pub next-written : (at n : ℕ) (x y r s t : List ℕ) → s ≡ written_at at x r → n ≡ at + length x →
    t ≡ written_at n y s → t ≡ written_at at (x ++ y) r
next-written at n x y r s t first ends second =
    second ∙ ap (λ k. written_at k y s) ends ∙ ap (λ w. written_at (at + length x) y w) first
    ∙ written_at-twice at x y r

-- five texts, one after the other, each from the end of the one before
pub five-written : (at e1 e2 e3 e4 : ℕ) (a b c d e r r1 r2 r3 r4 r5 : List ℕ) →
    r1 ≡ written_at at a r → e1 ≡ at + length a → r2 ≡ written_at e1 b r1 → e2 ≡ e1 + length b →
    r3 ≡ written_at e2 c r2 → e3 ≡ e2 + length c → r4 ≡ written_at e3 d r3 → e4 ≡ e3 + length d →
    r5 ≡ written_at e4 e r4 →
    r5 ≡ written_at at (a ++ (b ++ (c ++ (d ++ e)))) r
five-written at e1 e2 e3 e4 a b c d e r r1 r2 r3 r4 r5 w1 n1 w2 n2 w3 n3 w4 n4 w5 =
    let two = next-written at e1 a b r r1 r2 w1 n1 w2 in
    let end2 : e2 ≡ at + length (a ++ b) = omega (arith, n1, n2, length-append a b) in
    let three = next-written at e2 (a ++ b) c r r2 r3 two end2 w3 in
    let end3 : e3 ≡ at + length ((a ++ b) ++ c) =
    omega (arith, end2, n3, length-append (a ++ b) c) in
    let four = next-written at e3 ((a ++ b) ++ c) d r r3 r4 three end3 w4 in
    let end4 : e4 ≡ at + length (((a ++ b) ++ c) ++ d) =
    omega (arith, end3, n4, length-append ((a ++ b) ++ c) d) in
    let five = next-written at e4 (((a ++ b) ++ c) ++ d) e r r4 r5 four end4 w5 in
    let same : (((a ++ b) ++ c) ++ d) ++ e ≡ a ++ (b ++ (c ++ (d ++ e))) = simp append_assoc in
    five ∙ ap (λ w. written_at at w r) same

-- three texts
pub three-written : (at e1 e2 : ℕ) (a b c r r1 r2 r3 : List ℕ) → r1 ≡ written_at at a r →
    e1 ≡ at + length a → r2 ≡ written_at e1 b r1 → e2 ≡ e1 + length b →
    r3 ≡ written_at e2 c r2 → r3 ≡ written_at at (a ++ (b ++ c)) r
three-written at e1 e2 a b c r r1 r2 r3 w1 n1 w2 n2 w3 =
    let two = next-written at e1 a b r r1 r2 w1 n1 w2 in
    let end2 : e2 ≡ at + length (a ++ b) = omega (arith, n1, n2, length-append a b) in
    next-written at e2 (a ++ b) c r r2 r3 two end2 w3 ∙ ap (λ w. written_at at w r)
    (append_assoc a b c)

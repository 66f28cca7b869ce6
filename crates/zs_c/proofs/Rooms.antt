-- Texts one after the other in a buffer that may be shorter.
use Rattle.std.proofs.Common.{◌≡◌, ℕ, List, [], ◌∷◌, ◌++◌, ◌+◌, length, take, drop, refl, ap, ◌∙◌}
use Rattle.std.proofs.Common.{append_assoc, length-append, arith}
use Rattle.zs_c.specs.Told.{written}

-- no text
written_nothing : (room : List ℕ) → written [] room ≡ room
written_nothing [] = refl
written_nothing (y ∷ ys) = refl

-- a text after another, which was written before
pub written_behind : (a b room : List ℕ) →
    take (length a) (written a room) ++ written b (drop (length a) (written a room))
    ≡ written (a ++ b) room
written_behind [] b room = ap (written b) (written_nothing room)
written_behind (x ∷ xs) [] [] = refl
written_behind (x ∷ xs) (y ∷ ys) [] = refl
written_behind (x ∷ xs) b (y ∷ ys) = ap (λ w. x ∷ w) (written_behind xs b ys)

-- the same at an index that is the end of the first
pub written_next : (a b r one two : List ℕ) (n : ℕ) → n ≡ length a → one ≡ written a r
    → two ≡ take n one ++ written b (drop n one) → two ≡ written (a ++ b) r
written_next a b r one two n end e f =
    f ∙ ap (λ k. take k one ++ written b (drop k one)) end
    ∙ ap (λ w. take (length a) w ++ written b (drop (length a) w)) e ∙ written_behind a b r

-- four texts, one after the other
pub written_by_four : (a b c d r one two three four : List ℕ) (n m k : ℕ) → n ≡ length a
    → m ≡ length a + length b → k ≡ length a + length b + length c → one ≡ written a r
    → two ≡ take n one ++ written b (drop n one)
    → three ≡ take m two ++ written c (drop m two)
    → four ≡ take k three ++ written d (drop k three)
    → four ≡ written ((a ++ (b ++ c)) ++ d) r
written_by_four a b c d r one two three four n m k first both all e f g h =
    let second = written_next a b r one two n first e f in
    let third = written_next (a ++ b) c r two three m
    (omega (arith, both, length-append a b)) second g in
    let fourth = written_next ((a ++ b) ++ c) d r three four k
    (omega (arith, all, length-append a b, length-append (a ++ b) c)) third h in
    fourth ∙ ap (λ w. written (w ++ d) r) (append_assoc a b c)

-- A program is that of one schedule: at most one schedule has a given code.
use Rattle.std.proofs.Common.{◌≡◌, ℕ, List, ◌++◌, length, take, drop, get_or, refl, sym, ap, ◌∙◌}
use Rattle.std.proofs.Math.Seq.{take-append_seam, drop-append_seam}
use Rattle.zs_term.specs.Schedule.{Schedule, Pairing, Modifier, leaf, two, over, both, either}
use Rattle.zs_term.specs.Schedule.{and_then, while_input, while_output, collect_all, mapped}
use Rattle.zs_term.specs.Schedule.{reset_when}
use Rattle.zs_c.specs.Code.{code_of, modifier_code}
use Rattle.zs_c.specs.Form.{node_at, IsNode}
use Rattle.zs_c.specs.Program.{program_of, IsProgram}
use Rattle.zs_c.proofs.Leaves.{leaf-once}
use Rattle.zs_c.proofs.Nodes.{read-node, test-word, func-word, pick-test-over}

-- the root of a schedule whose code is that of another one
other-node : (t u : Schedule) → code_of t ≡ code_of u → IsNode (node_at (code_of t)) u
other-node t u same = read-node u (code_of t) (node_at (code_of t)) refl same

-- the parts of two operators with the same code
first-same : (p q : Pairing) (a b c d : Schedule) → code_of (two p a b) ≡ code_of (two q c d) →
    code_of a ≡ code_of c
first-same p q a b c d same =
    let size : length (code_of a) ≡ length (code_of c) = ap (λ w. get_or w 1 0) same in
    sym (take-append_seam (code_of a) (code_of b)) ∙ ap (take (length (code_of a)))
    (ap (drop 3) same) ∙ ap (λ n. take n (code_of c ++ code_of d)) size
    ∙ take-append_seam (code_of c) (code_of d)

second-same : (p q : Pairing) (a b c d : Schedule) → code_of (two p a b) ≡ code_of (two q c d) →
    code_of b ≡ code_of d
second-same p q a b c d same =
    let size : length (code_of a) ≡ length (code_of c) = ap (λ w. get_or w 1 0) same in
    sym (drop-append_seam (code_of a) (code_of b)) ∙ ap (drop (length (code_of a)))
    (ap (drop 3) same) ∙ ap (λ n. drop n (code_of c ++ code_of d)) size
    ∙ drop-append_seam (code_of c) (code_of d)

-- the parts under two operators with the same number of words
part-same : (m k : Modifier) (s r : Schedule) (n : ℕ) → n ≡ length (modifier_code m) →
    n ≡ length (modifier_code k) → code_of (over s m) ≡ code_of (over r k) → code_of s ≡ code_of r
part-same m k s r n first second same =
    sym (drop-append_seam (modifier_code m) (code_of s)) ∙ ap (λ i. drop i (code_of (over s m)))
    (sym first) ∙ ap (drop n) same
    ∙ ap (λ i. drop i (code_of (over r k))) second ∙ drop-append_seam (modifier_code k) (code_of r)

-- a code is that of one schedule alone
pub code-once : (t u : Schedule) → code_of t ≡ code_of u → t ≡ u
unfolding node_at
code-once (leaf l) u same = sym (leaf-once l u (other-node (leaf l) u same))
code-once (two both a b) u same =
    let n = other-node (two both a b) u same in
    let e : code_of (two both a b) ≡ code_of (two both n.0 n.1) = same ∙ ap code_of n.2 in
    let first = code-once a n.0 (first-same both both a b n.0 n.1 e) in
    let second = code-once b n.1 (second-same both both a b n.0 n.1 e) in
    ap (λ x. two both x b) first ∙ ap (two both n.0) second ∙ sym n.2
code-once (two either a b) u same =
    let n = other-node (two either a b) u same in
    let e : code_of (two either a b) ≡ code_of (two either n.0 n.1) = same ∙ ap code_of n.2 in
    let first = code-once a n.0 (first-same either either a b n.0 n.1 e) in
    let second = code-once b n.1 (second-same either either a b n.0 n.1 e) in
    ap (λ x. two either x b) first ∙ ap (two either n.0) second ∙ sym n.2
code-once (two and_then a b) u same =
    let n = other-node (two and_then a b) u same in
    let e : code_of (two and_then a b) ≡ code_of (two and_then n.0 n.1) = same ∙ ap code_of n.2 in
    let first = code-once a n.0 (first-same and_then and_then a b n.0 n.1 e) in
    let second = code-once b n.1 (second-same and_then and_then a b n.0 n.1 e) in
    ap (λ x. two and_then x b) first ∙ ap (two and_then n.0) second ∙ sym n.2
code-once (over s (while_input t)) u same =
    let n = other-node (over s (while_input t)) u same in
    let is : u ≡ over n.0 (while_input t) =
    n.1 ∙ ap (λ x. over n.0 (while_input x)) (test-word t) in
    let part = code-once s n.0 (part-same (while_input t) (while_input t) s n.0 3 refl refl
    (same ∙ ap code_of is)) in
    ap (λ x. over x (while_input t)) part ∙ sym is
code-once (over s (while_output k t)) u same =
    let n = other-node (over s (while_output k t)) u same in
    let is : u ≡ over n.0 (while_output k t) =
    n.1 ∙ pick-test-over (λ x y. over n.0 (while_output x y)) k t in
    let part = code-once s n.0 (part-same (while_output k t) (while_output k t) s n.0 4 refl refl
    (same ∙ ap code_of is)) in
    ap (λ x. over x (while_output k t)) part ∙ sym is
code-once (over s (mapped f)) u same =
    let n = other-node (over s (mapped f)) u same in
    let is : u ≡ over n.0 (mapped f) = n.1 ∙ ap (λ x. over n.0 (mapped x)) (func-word f) in
    let part = code-once s n.0 (part-same (mapped f) (mapped f) s n.0 3 refl refl
    (same ∙ ap code_of is)) in
    ap (λ x. over x (mapped f)) part ∙ sym is
code-once (over s (reset_when k t)) u same =
    let n = other-node (over s (reset_when k t)) u same in
    let is : u ≡ over n.0 (reset_when k t) =
    n.1 ∙ pick-test-over (λ x y. over n.0 (reset_when x y)) k t in
    let part = code-once s n.0 (part-same (reset_when k t) (reset_when k t) s n.0 4 refl refl
    (same ∙ ap code_of is)) in
    ap (λ x. over x (reset_when k t)) part ∙ sym is
code-once (over s collect_all) u same =
    let n = other-node (over s collect_all) u same in
    let part = code-once s n.0 (part-same collect_all collect_all s n.0 1 refl refl
    (same ∙ ap code_of n.1)) in
    ap (λ x. over x collect_all) part ∙ sym n.1

-- two programs that are the same words have the same code
same-code : (t u : Schedule) (more rest : List ℕ) → program_of t ++ more ≡ program_of u ++ rest →
    code_of t ≡ code_of u
same-code t u more rest e =
    let size : length (code_of t) ≡ length (code_of u) = ap (λ w. get_or w 2 0) e in
    let codes : code_of t ++ more ≡ code_of u ++ rest = ap (drop 4) e in
    sym (take-append_seam (code_of t) more) ∙ ap (take (length (code_of t))) codes
    ∙ ap (λ n. take n (code_of u ++ rest)) size
    ∙ take-append_seam (code_of u) rest

-- words are the program of at most one schedule
pub program-once : (program : List ℕ) (t u : Schedule) → IsProgram program t →
    IsProgram program u → t ≡ u
program-once program t u first second =
    code-once t u (same-code t u first.more second.more (sym first.is ∙ second.is))

use Rattle.std.proofs.Common.{◌≡◌, ◌+◌, ◌-◌, ◌++◌, ◌∷◌, ℕ, List, length, take, drop, arith, refl}
use Rattle.std.proofs.Common.{sym, ap, ◌∙◌}
use Rattle.std.proofs.lemmas.List.{drop-drop, drop_all}
use Rattle.zs_lines.proofs.ByteLemmas.{at-newline, one_line-before, one_line-nowhere, rest-is}
use Rattle.zs_lines.proofs.buffer.Buffer.take_piece.Goals as goal

-- a newline was found
pub returns-in_ok-extend_from_slice-in-Some-clause-ended :
    goal.returns-in_ok-extend_from_slice-in-Some-clause-ended
returns-in_ok-extend_from_slice-in-Some-clause-ended c =
    let hay : List ℕ = c.args.self.now in
    let at : ℕ = c.in-Some.at in
    let from : ℕ = c.self.inside.from in
    let items : List ℕ = c.self.inside.bytes.items in
    let view : drop from items ≡ hay = c.self.view_is in
    let all : take (length c.deref.result.now - from) (drop from c.deref.result.now) ≡ hay =
    rest-is from c.deref.result.now items c.deref.ensures.value ∙ view in
    let found = rw all at c.in-Some.ensures in
    let rest : drop (at + 1) hay ≡ drop (from + (at + 1)) items =
    ap (drop (at + 1)) (sym view) ∙ drop-drop (at + 1) from items in
    λ is. (
      take at hay,
      one_line-before hay at (omega (arith, found.0.high)) found.0.before,
      rw all at c.in_ok-extend_from_slice-in-Some.ensures.items,
      at-newline hay at found.0.high found.1 ∙ ap (λ (bs : List ℕ). take at hay ++ 10 ∷ bs) rest,
    )

-- there is none
pub returns-in_ok-extend_from_slice-in-None-clause-open :
    goal.returns-in_ok-extend_from_slice-in-None-clause-open
returns-in_ok-extend_from_slice-in-None-clause-open c =
    let hay : List ℕ = c.args.self.now in
    let from : ℕ = c.self.inside.from in
    let items : List ℕ = c.self.inside.bytes.items in
    let view : drop from items ≡ hay = c.self.view_is in
    let all : take (length c.deref.result.now - from) (drop from c.deref.result.now) ≡ hay =
    rest-is from c.deref.result.now items c.deref.ensures.value ∙ view in
    λ is. (
      one_line-nowhere hay (length hay) refl (rw all at c.in-None.ensures),
      rw all at c.in_ok-extend_from_slice-in-None.ensures.items,
      drop_all c.len-self-inside.result items
          (omega (arith, c.len-self-inside.ensures, c.self.inside.bytes.ok.0)),
    )

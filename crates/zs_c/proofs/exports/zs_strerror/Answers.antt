use Rattle.std.proofs.Common.{◌≡◌, [], ◌∷◌, ◌++◌, refl, sym, ap, ◌∙◌}
use Rattle.std.specs.Prelude.{Bool, codes, if◌then◌else◌}
use Rattle.std.specs.Fmt.{decimal}
use Rattle.zs_c.specs.FaultText.{fault_words}
use Rattle.zs_c.specs.Told.{written}
use Rattle.zs_c.proofs.Rooms.{written_next, written_by_four}
use Rattle.zs_c.proofs.exports.zs_strerror.Goals as goal

-- a number without a place: its text
pub returns-then-not-has_byte-clause-text : goal.returns-then-not-has_byte-clause-text
returns-then-not-has_byte-clause-text c =
    let a = c.as_bytes-words.result.now in
    let words : a ≡ fault_words c.args.number =
    c.as_bytes-words.ensures.value ∙ c.fault_words.ensures.value in
    let is_placed = sym c.has_byte.ensures.value ∙ c.if-not-has_byte.true in
    let text = fault_words c.args.number ++ (codes " at byte " ++ decimal c.args.at) in
    written_next a (0 ∷ []) c.args.out.now c.put.new.room c.put_after.new.room _ refl
    c.put.ensures.front c.put_after.ensures.after
    ∙ ap (λ w. written (w ++ (0 ∷ [])) c.args.out.now) words
    ∙ ap (λ (b : Bool). written ((if b then text else fault_words c.args.number) ++ (0 ∷ []))
    c.args.out.now) (sym is_placed)

-- a number with a place: its text, and the place after it
pub returns-clause-text : goal.returns-clause-text
returns-clause-text c =
    let a = c.as_bytes-words.result.now in
    let digits = c.as_bytes-digits.result.now in
    let words : a ≡ fault_words c.args.number =
    c.as_bytes-words.ensures.value ∙ c.fault_words.ensures.value in
    let place : digits ≡ decimal c.args.at = c.as_bytes-digits.ensures.value ∙ c.format.ensures.text
    in
    let is_placed = sym c.has_byte.ensures.value ∙ c.if-not-has_byte.false in
    let text = fault_words c.args.number ++ (codes " at byte " ++ decimal c.args.at) in
    written_by_four a (codes " at byte ") digits (0 ∷ []) c.args.out.now c.put.new.room
    c.put_after-2.new.room c.put_after-3.new.room c.put_after-4.new.room _ _ _ refl refl refl
    c.put.ensures.front c.put_after-2.ensures.after c.put_after-3.ensures.after
    c.put_after-4.ensures.after
    ∙ ap (λ w. written ((w ++ (codes " at byte " ++ digits)) ++ (0 ∷ [])) c.args.out.now) words
    ∙ ap (λ w. written ((fault_words c.args.number ++ (codes " at byte " ++ w)) ++ (0 ∷ []))
    c.args.out.now) place
    ∙ ap (λ (b : Bool). written ((if b then text else fault_words c.args.number) ++ (0 ∷ []))
    c.args.out.now) (sym is_placed)

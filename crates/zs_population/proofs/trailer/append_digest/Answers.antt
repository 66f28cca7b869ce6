use Rattle.std.proofs.Common.{◌≡◌, ◌<◌, ◌++◌, ◌∷◌, [], List, ℕ, get_or, length, string_bytes, take}
use Rattle.std.proofs.Common.{append_assoc, arith, ap, ◌∙◌, sym}
use Rattle.std.proofs.lemmas.List.{take_more}
use Rattle.std.specs.Str.{IsAscii}
use Rattle.hex.specs.Hex.{encode_lower, lower_digits}
use Rattle.hex.proofs.HexLemmas.{IsAscii-encode_with}
use Rattle.zs_population.proofs.trailer.append_digest.Goals as goal

-- hex digits are ASCII
lower-ascii : (k : ℕ) → get_or lower_digits k 0 < 128
lower-ascii k = grind arith

-- one digit more
pub loop-digit-preserved : goal.loop-digit-preserved
loop-digit-preserved c =
    let digits : List ℕ = c.encode_to_slice.new.output in
    let k : ℕ = c.loop-digit.digit-index in
    let hex : digits ≡ encode_lower c.args.digest.now = c.loop-digit.invariant.digits in
    let ascii : IsAscii digits =
    rw hex (IsAscii-encode_with lower_digits c.args.digest.now lower-ascii) in
    let low : c.from.result < 128 = rw c.from.ensures (ascii k) in
    let within : k < length digits = omega (arith, c.loop-digit-test.true) in
    record {
      digits = hex;
      text = c.in_ok-push.ensures.bytes ∙ ap (λ (bs : List ℕ). string_bytes c.loop-digit.text ++ bs)
          (c.push.ensures.ascii low ∙ ap (λ d. d ∷ []) c.from.ensures)
          ∙ ap (λ (bs : List ℕ). bs ++ get_or digits k 0 ∷ []) c.loop-digit.invariant.text
          ∙ append_assoc (string_bytes c.args.text.now) (take k digits) (get_or digits k 0 ∷ [])
          ∙ ap (λ (bs : List ℕ). string_bytes c.args.text.now ++ bs)
          (sym (take_more digits k 0 within));
    }

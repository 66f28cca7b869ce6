use Rattle.std.proofs.Common.{◌≡◌, ◌≤◌, ◌+◌, ◌-◌, ◌++◌, List, ℕ, take, take_all, drop, length}
use Rattle.std.proofs.Common.{arith, string_bytes, append_assoc, ap, ◌∙◌, codes, sym}
use Rattle.std.proofs.lemmas.List.{drop_at, length-append}
use Rattle.hex.specs.Hex.{encode_lower}
use Rattle.sha2.specs.Hashers.{Holds256}
use Rattle.sha2.specs.Sha256.{sha256}
use Rattle.zs_population.specs.Trailer.{origin_text}
use Rattle.zs_population.proofs.trailer.append_trailer.Goals as goal

-- the pieces of a trailer, after a text
in-turn : (text origin digits end : List ℕ) →
    ((text ++ origin) ++ digits) ++ end ≡ text ++ ((origin ++ digits) ++ end)
in-turn text origin digits end = simp append_assoc

pub returns : goal.returns
returns c =
    let before : List ℕ = string_bytes c.args.text.now in
    let origin : List ℕ = origin_text c.args.range c.args.sums.now in
    let found : List ℕ = c.finalize_reset.result in
    let began : string_bytes c.append_origin.new.text ≡ before ++ origin =
    c.in_ok-append_origin.ensures.text in
    let digits : string_bytes c.append_digest.new.text ≡ string_bytes c.append_origin.new.text
    ++ encode_lower found = c.in_ok-append_digest.ensures.text in
    let end : string_bytes c.push_str.new.self ≡ string_bytes c.append_digest.new.text
    ++ codes "\"}\n" = c.in_ok-push_str.ensures.bytes in
    let whole : string_bytes c.push_str.new.self ≡ ((before ++ origin) ++ encode_lower found)
    ++ codes "\"}\n" =
    end ∙ ap (λ (bs : List ℕ). bs ++ codes "\"}\n")
    (digits ∙ ap (λ (bs : List ℕ). bs ++ encode_lower found) began) in
    let start : ℕ = length c.as_bytes-before.result.now in
    let at : length before ≡ start = sym (ap length c.as_bytes-before.ensures.value) in
    let whole_now : c.as_bytes.result.now ≡ before ++ origin = c.as_bytes.ensures.value ∙ began in
    let rest : drop start c.as_bytes.result.now ≡ origin =
    ap (drop start) whole_now ∙ drop_at before origin start at in
    let total : length c.as_bytes.result.now ≡ length before + length origin =
    ap length whole_now ∙ length-append before origin in
    let few : length (drop start c.as_bytes.result.now) ≤ length c.as_bytes.result.now - start =
    (let same : length (drop start c.as_bytes.result.now) ≡ length origin = ap length rest in
    omega (arith, same, total, at)) in
    let piece : take (length c.as_bytes.result.now - start) (drop start c.as_bytes.result.now)
    ≡ origin =
    take_all (length c.as_bytes.result.now - start) (drop start c.as_bytes.result.now) few ∙ rest in
    record {
      text = (
        found,
        whole ∙ in-turn before origin (encode_lower found) (codes "\"}\n"),
        λ (report : List ℕ) (holds : Holds256 c.args.digest.now report).
            c.finalize_reset.ensures.digest
            (report ++ take (length c.as_bytes.result.now - start)
            (drop start c.as_bytes.result.now)) (c.update.ensures report holds)
            ∙ ap (λ (bs : List ℕ). sha256 (report ++ bs)) piece,
      );
    }

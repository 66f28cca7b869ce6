use Rattle.std.proofs.Common.{◌≡◌, ◌++◌, take, string_bytes}
use Rattle.hex.specs.Hex.{encode_lower}
use Rattle.zs_population.proofs.trailer.append_digest.Given as goal

-- the digits so far were appended
abbrev pub invariant-loop-digit : goal.invariant-loop-digit
invariant-loop-digit l = record {
  digits : l.digit-items ≡ encode_lower l.digest;
  text : string_bytes l.text ≡ string_bytes l.fn.text ++ take l.digit-index l.digit-items;
}

use Rattle.std.proofs.Common.{arith}
use Rattle.zs_c.proofs.Planning.{cut-below, product-fits}
use Rattle.zs_c.proofs.turn.Turn.rest.Goals as goal

pub overflow_mul-result : goal.overflow_mul-result
overflow_mul-result c =
    let fits =
    product-fits c.nanos-2.result c.from.result
    (omega (arith, c.nanos-2.ensures.value, c.ranges.wait.fits))
    (omega (arith, c.from.ensures, c.share_of-share.type_inv)) in
    omega (arith, fits)

pub overflow_sub-result : goal.overflow_sub-result
overflow_sub-result c =
    let below =
    cut-below c.nanos-2.result c.from.result
    (omega (arith, c.from.ensures, c.share_of-share.type_inv)) in
    omega (arith, below, c.nanos.ensures.value, c.nanos-2.ensures.value)

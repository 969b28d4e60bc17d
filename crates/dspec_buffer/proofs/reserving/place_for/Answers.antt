use Rattle.std.proofs.Common.{◌≡◌, ◌+◌, ◌<◌, arith}
use Rattle.dspec_buffer.specs.Words.{rounded_up}
use Rattle.dspec_buffer.proofs.reserving.place_for.Goals as goal

pub returns-then-from : goal.returns-then-from
returns-then-from c = (c.aligned-place.ensures.is, omega (arith, c.from.ensures, c.from-2.ensures, c.from-3.ensures, c.if-from.true))

pub returns-else-from : goal.returns-else-from
returns-else-from c =
    let at : c.aligned-place.result ≡ rounded_up c.args.offset c.args.align = c.aligned-place.ensures.is in
    let over : c.args.limit < c.aligned-place.result + c.args.size = omega (arith, c.from.ensures, c.from-2.ensures, c.from-3.ensures, c.if-from.false) in
    omega (arith, at, over)

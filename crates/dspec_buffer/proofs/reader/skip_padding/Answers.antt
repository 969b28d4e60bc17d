use Rattle.std.proofs.Common.{arith}
use Rattle.dspec_buffer.proofs.Gaps.{skips_word}
use Rattle.dspec_buffer.proofs.reader.skip_padding.Goals as goal

pub returns-then-eq : goal.returns-then-eq
returns-then-eq c =
    skips_word c.args.text.now c.args.place c.epid_of.result (omega arith) c.if-text-place-gt4.true (λ i. omega (arith, c.type_inv.text i)) c.epid_of.ensures c.if-eq.ensures

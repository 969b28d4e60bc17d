use Rattle.std.proofs.Common.{◌<◌, arith}
use Rattle.dspec_record.proofs.Filling.{IsFilled-push}
use Rattle.dspec_record.proofs.enabling.Enablings.enable.Goals as goal

pub invariant_of-self : goal.invariant_of-self
invariant_of-self c =
    let room : c.self.inside.count < 64 = omega arith in
    rw (c.claim_for.ensures, c.of.ensures) (
    IsFilled-push c.self.inside.header c.self.inside.stamp c.self.inside.rows c.self.inside.claims c.self.inside.count c.args.fields.now c.self.invariant room)

use Rattle.std.proofs.Common.{refl}
use Rattle.dspec.specs.Words.{probed_record}
use Rattle.dspec.proofs.LastPaths.{same_record_so}
use Rattle.dspec.proofs.recording.ProbeRecording.record_in_last.Goals as goal

pub returns-in-One-clause-does : goal.returns-in-One-clause-does
returns-in-One-clause-does g c =
    let r = probed_record c.args.self c.args.stamp (g.F.Fields.numbers_of c.args.values) in
    same_record_so _ _ r r c.offer_recorded.result c.args.path.now c.offer_recorded.new.self c.args.lane.now c.offer_recorded.new.lane c.of.ensures.rec refl c.offer_recorded.ensures.does

pub returns-in-Two-clause-does : goal.returns-in-Two-clause-does
returns-in-Two-clause-does g c =
    let r = probed_record c.args.self c.args.stamp (g.F.Fields.numbers_of c.args.values) in
    same_record_so _ _ r r c.offer_recorded-in-Two.result c.args.path.now c.offer_recorded-in-Two.new.self c.args.lane.now c.offer_recorded-in-Two.new.lane c.of-in-Two.ensures.rec refl
    c.offer_recorded-in-Two.ensures.does

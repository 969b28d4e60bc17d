-- Each call tells what it did, over the schema that the lane had at first.
use Rattle.std.proofs.Common.{[], ◌∷◌}
use Rattle.dspec_cpu.specs.Called.{called}
use Rattle.dspec_probe.specs.Probes.{epid_of_probe, probed_record}
use Rattle.tour.proofs.Calling.{one_by_one, plain_record}
use Rattle.tour.proofs.RequestsWorkEnablings.work.Goals as goal

pub returns-clause-did : goal.returns-clause-did
returns-clause-did c request-has touch-has =
    let r = c.in-Ok-Ok.request in
    let t = c.in-Ok-Ok.touch in
    let request = plain_record r c.args.self.now.request c.in-Ok-Ok.ensures.same in
    let touch = plain_record t c.args.self.now.touch c.in-Ok-Ok.ensures'.same in
    one_by_one (epid_of_probe c.args.self.now.request) (epid_of_probe c.args.self.now.touch) c.path-failed.result.opening c.path-fine.result.opening c.record_in.result
    c.record_in-2.result c.record_in-3.result c.commit.result c.discard.result c.record.result c.record-2.result c.record-3.result (called c.args.lane.now.cpu.now)
    (called c.path-failed.new.self.cpu.now) (called c.record_in.new.lane.cpu.now) (called c.record_in-2.new.lane.cpu.now) (called c.commit.new.lane.cpu.now)
    (called c.path-fine.new.self.cpu.now) (called c.record_in-3.new.lane.cpu.now) (called c.discard.new.lane.cpu.now) (called c.record.new.lane.cpu.now)
    (called c.record-2.new.lane.cpu.now) (called c.record-3.new.lane.cpu.now) (probed_record t 0 (4096 ∷ 5 ∷ [])) (probed_record t 0 (8192 ∷ 0 ∷ []))
    (probed_record t 0 (12288 ∷ 0 ∷ [])) (probed_record r 0 (7 ∷ [])) (probed_record r 0 (8 ∷ [])) (probed_record r 0 (9 ∷ [])) (touch (4096 ∷ 5 ∷ []))
    (touch (8192 ∷ 0 ∷ [])) (touch (12288 ∷ 0 ∷ [])) (request (7 ∷ [])) (request (8 ∷ [])) (request (9 ∷ [])) c.path-failed.ensures.does.tells
    c.record_in.ensures.does.tells c.record_in-2.ensures.does.tells c.commit.ensures.does.tells c.path-fine.ensures.does.tells c.record_in-3.ensures.does.tells
    c.discard.ensures.does.tells c.record.ensures.does.tells c.record-2.ensures.does.tells c.record-3.ensures.does.tells

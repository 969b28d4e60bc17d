use Rattle.dspec.specs.Words.{discard}
use Rattle.dspec.proofs.LastPaths.{ends_so}
use Rattle.dspec.proofs.last_path.LastPath.discard.Goals as goal

pub returns-clause-does : goal.returns-clause-does
returns-clause-does g c =
    ends_so _ discard c.args.self c.id.result c.discard_if_there.result c.discard-last.result c.args.lane.now c.discard-last.new.self c.discard_if_there.new.lane c.id.ensures
    c.discard-last.ensures.does c.discard_if_there.ensures.does

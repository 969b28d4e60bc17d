use Rattle.dspec.specs.Words.{commit}
use Rattle.dspec.proofs.LastPaths.{ends_so}
use Rattle.dspec.proofs.last_path.LastPath.commit.Goals as goal

pub returns-clause-does : goal.returns-clause-does
returns-clause-does g c =
    ends_so _ commit c.args.self c.id.result c.commit_if_there.result c.commit-last.result c.args.lane.now c.commit-last.new.self c.commit_if_there.new.lane c.id.ensures
    c.commit-last.ensures.does c.commit_if_there.ensures.does

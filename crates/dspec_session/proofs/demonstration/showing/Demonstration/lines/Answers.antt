use Rattle.std.proofs.Common.{subst}
use Rattle.dspec_session.specs.Words.{EnabledRows, AllFollow}
use Rattle.dspec_session.proofs.demonstration.showing.Demonstration.lines.Goals as goal

pub returns-clause-ordered : goal.returns-clause-ordered
returns-clause-ordered c = subst (λ (s : EnabledRows). AllFollow s c.args.self.session c.args.self.orders c.tell.result) c.requires.schema c.tell.ensures.ordered

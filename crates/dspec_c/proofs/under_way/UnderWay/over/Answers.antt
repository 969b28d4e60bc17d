use Rattle.std.proofs.Common.{subst}
use Rattle.std.specs.{Arc.arc_value, Prelude.IfOk}
use Rattle.dspec_c.specs.Words.{Shared, HasAll}
use Rattle.dspec_c.proofs.EndingPlaces.{all_called, started}
use Rattle.dspec_c.proofs.under_way.UnderWay.over.Goals as goal

pub of-requires-clause-called : goal.of-requires-clause-called
of-requires-clause-called c = all_called c.requires.session.0 c.args.started (arc_value c.in-Ok.common) c.requires.session.1 c.in-Ok.ensures.ok

pub of-requires-clause-started : goal.of-requires-clause-started
of-requires-clause-started c = started c.requires.session.0 c.args.started (arc_value c.in-Ok.common) _ c.requires.session.1 c.in-Ok.ensures.ok c.requires.count

pub returns : goal.returns
returns c = subst (λ (s : Shared). IfOk c.of.result (HasAll s c.args.started.cpus.items c.args.started.consumer c.args.count)) c.in-Ok.ensures.ok c.of.ensures

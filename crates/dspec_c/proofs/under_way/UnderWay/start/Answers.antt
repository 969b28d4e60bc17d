use Rattle.std.proofs.Common.{refl, sym, ap}
use Rattle.dspec_c.specs.Words.{Config}
use Rattle.dspec_c.proofs.Ending.{begun}
use Rattle.dspec_c.proofs.under_way.UnderWay.start.Goals as goal

pub over-requires-clause-session : goal.over-requires-clause-session
over-requires-clause-session c = (c.args.schema.now, c.in_ok-session.ensures.session)

pub over-requires-clause-count : goal.over-requires-clause-count
over-requires-clause-count c = ap (λ (k : Config). k.cpus) (sym c.in_ok-session.ensures.config)

pub returns-clause-whole : goal.returns-clause-whole
returns-clause-whole c = begun c.args.config.now c.args.schema.now c.in_ok-session.session.shared c.in_ok-session.session.shared c.in_ok-session.session.cpus.items c.in_ok-session.session.consumer
    c.args.config.now.cpus c.in-Ok.whole (λ n cpu at. ((c.in_ok-session.ensures.session.each n cpu at).one, c.in_ok-session.ensures.fresh n cpu at)) c.in_ok-session.ensures.consumer
    c.in_ok-session.ensures.config refl refl c.in-Ok.ensures.0 c.in-Ok.ensures.1 c.in-Ok.ensures.2 c.in-Ok.ensures.3

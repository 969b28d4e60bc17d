use Rattle.dspec_c.proofs.Handing.{starts}
use Rattle.dspec_c.proofs.session_calls.start.Goals as goal

pub returns : goal.returns
returns c = starts _ c.in-Some.config c.args.schema.now c.in-Ok.whole c.keep.result c.args.session.now c.keep.new.session c.in-Some.ensures c.in-Ok.ensures.started c.in-Ok.ensures.whole c.keep.ensures

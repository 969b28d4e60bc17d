use Rattle.dspec_session.proofs.Done.{is_done, is_so}
use Rattle.dspec_session.proofs.demonstration.demonstrate.Goals as goal

pub returns : goal.returns
returns g c =
    let raced = c.in-Some.raced in
    let ran = c.in-Some.ensures in
    let opened = c.in-Ok.ensures in
    let finished = is_so raced.finished c.if-not-raced.false in
    is_done _ c.in-Ok.session raced.session c.stop.ensures.session c.stop.ensures.cpus ran.four (ran.offered finished) (ran.rounds finished) opened.unused
    c.enable-schema.ensures ran.consumer c.stop.ensures.stopped

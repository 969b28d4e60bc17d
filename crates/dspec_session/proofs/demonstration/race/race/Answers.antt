use Rattle.std.proofs.Common.{sym, ◌∙◌}
use Rattle.dspec_session.proofs.Crews.{all_can_work, places_back, four_again, all_offered, all_made}
use Rattle.dspec_session.proofs.demonstration.race.race.Goals as goal

pub run-requires-clause-cpus : goal.run-requires-clause-cpus
run-requires-clause-cpus g c κs within = all_can_work c.args.session c.take_all-team.result c.requires.session c.requires.room c.take_all-team.ensures.all

pub returns-clause-session : goal.returns-clause-session
returns-clause-session g c =
    let s = c.args.session in
    let f = c.take_all-team.result in
    let back = c.in_ok-crew.crew.workers in
    record {
      checked = c.requires.session.checked;
      consumer = c.in_ok-crew.ensures.consumer.session;
      all = four_again s f back c.requires.session c.take_all-team.ensures.all c.in_ok-crew.ensures.workers c.put_all.new.cpus.items c.put_all.ensures ∙ c.requires.session.all;
      each = places_back s f back c.requires.session c.take_all-team.ensures.all c.in_ok-crew.ensures.workers c.put_all.new.cpus.items c.put_all.ensures
          c.in_ok-crew.crew.consumer c.in_ok-crew.ensures.consumer;
    }

pub returns-clause-offered : goal.returns-clause-offered
returns-clause-offered g c finished =
    all_offered c.args.session c.take_all-team.result c.in_ok-crew.crew.workers c.requires.session c.take_all-team.ensures.all c.in_ok-crew.ensures.workers c.put_all.new.cpus.items c.put_all.ensures
    c.requires.fresh (sym c.have_finished-finished.ensures ∙ finished)

pub returns-clause-rounds : goal.returns-clause-rounds
returns-clause-rounds g c finished =
    all_made c.args.session c.take_all-team.result c.in_ok-crew.crew.workers c.requires.session c.take_all-team.ensures.all c.in_ok-crew.ensures.workers c.put_all.new.cpus.items c.put_all.ensures
    (sym c.have_finished-finished.ensures ∙ finished)

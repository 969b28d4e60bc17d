use Rattle.std.proofs.Common.{rules}
use Rattle.dspec.specs.Words.{EnabledRows, words_of, AllReturned, PassesOn, ThenServed}
use Rattle.dspec.proofs.Returning.{all_callable, session_again}
use Rattle.dspec.proofs.running.run.Goals as goal

pub join_mut-requires-after_bounds : goal.join_mut-requires-after_bounds
join_mut-requires-after_bounds g c =
    let mine = c.requires.session.consumer in
    let all = all_callable c.args.schema.now c.args.session.now c.requires.session in
    search rules

pub returns-clause-lent : goal.returns-clause-lent
returns-clause-lent g c =
    let was = c.args.session.now in
    let consumer = c.join_mut.new.f.4.now in
    let cpus = c.join_mut.new.g.4.now in
    let does = λ (s : EnabledRows). ThenServed (g.W.Work.does s c.args.work.now) in
    let passes : PassesOn (g.K.Sink.gets c.args.schema.now) (words_of was.shared) was.consumer c.args.sink.now consumer c.join_mut.new.f.5.now = search rules in
    let returned : AllReturned does was.cpus.items cpus.items = search rules in
    session_again does c.args.schema.now was (record { shared = was.shared; cpus = cpus; consumer = consumer }) c.requires.session returned passes.stays

use Rattle.std.proofs.Common.{rules}
use Rattle.fuzz.proofs.Lending.{all_can, back_again}
use Rattle.fuzz.proofs.racing.race.Goals as goal

pub join-consumed-requires-after_bounds : goal.join-consumed-requires-after_bounds
join-consumed-requires-after_bounds g c =
    let mine = c.requires.consumer in
    let all = all_can c.args.board.now.schema c.args.session c.requires in
    search rules

pub returns : goal.returns
returns g c = back_again c.args.board.now.schema c.args.session
    (record { shared = c.args.session.shared; cpus = c.join-consumed.result.1; consumer = c.in_ok-consumer.consumer }) c.requires (search rules) (search rules)

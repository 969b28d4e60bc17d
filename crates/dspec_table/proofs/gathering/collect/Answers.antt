use Rattle.std.proofs.Common.{◌∙◌, ap}
use Rattle.dspec_table.proofs.{AtEnd.at_last, AtEnd.at_rest, AtEnd.joined_rest, AtEnd.recalled_rest, Joining.gathers}
use Rattle.dspec_table.proofs.gathering.collect.Goals as goal

pub join_seat-requires : goal.join_seat-requires
join_seat-requires c =
    let next = c.in-Some.next in
    let left = c.pop.new.self.items in
    let at = c.loop-next.invariant in (
      at.gatherer.0,
      at_last c.args.board.now.shared.table_id c.loop-next.seats.items left next c.in-Some.ensures.items at.seats,
      next.bare,
      c.requires.words,
      gathers c.args.board.now.shared.key c.loop-next.gatherer.id c.loop-next.gatherer.me.0 next.seat.id next.seat.me.0,
    )

pub loop-next-preserved : goal.loop-next-preserved
loop-next-preserved c =
    let next = c.in-Some.next in
    let left = c.pop.new.self.items in
    let at = c.loop-next.invariant in
    let step = c.join_seat.ensures in
    let z = c.args.board.now.shared.table_id in
    record {
      gatherer = (step.0 ∙ at.gatherer.0, ap (λ m. m.0.who) step.2 ∙ at.gatherer.1, ap (λ m. m.0.own) step.2 ∙ at.gatherer.2);
      knows = (ap (λ m. m.0.seen) step.2 ∙ at.knows.0, ap (λ m. m.0.asks) step.2 ∙ at.knows.1);
      seats = at_rest z c.loop-next.seats.items left next c.in-Some.ensures.items at.seats;
      joined = joined_rest z c.loop-next.seats.items left next c.in-Some.ensures.items c.args.seats.items c.loop-next.gatherer.me.0 c.join_seat.new.seat.me.0 (ap (λ m. m.0.also) step.2) at.joined;
      recalled = recalled_rest z c.loop-next.seats.items left next c.in-Some.ensures.items c.args.seats.items c.loop-next.gatherer.me.0 c.join_seat.new.seat.me.0
          (ap (λ m. m.0.past) step.2) at.recalled;
    }

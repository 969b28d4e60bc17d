use Rattle.bench.proofs.LastSeats.{last_is, next_is}
use Rattle.bench.proofs.loads.answer.Goals as goal

pub time_all-requires-clause-seat : goal.time_all-requires-clause-seat
time_all-requires-clause-seat g c =
    let r = next_is c.in-Ok.words c.in-Ok.seats.items c.pop.new.self.items c.in-Some.other c.in-Some.ensures.items c.in-Ok.ensures.seats.1 c.pop-2.new.self.items
    c.in-Some-pop.seat c.in-Some-pop.ensures.items in
    (r.0, r.1.0)

pub time_all-requires-clause-other : goal.time_all-requires-clause-other
time_all-requires-clause-other g c = last_is c.in-Ok.words c.in-Ok.seats.items c.pop.new.self.items c.in-Some.other c.in-Some.ensures.items c.in-Ok.ensures.seats.1

pub load_all-requires-clause-seat : goal.load_all-requires-clause-seat
load_all-requires-clause-seat g c = (next_is c.in-Ok.words c.in-Ok.seats.items c.pop.new.self.items c.in-Some.other c.in-Some.ensures.items c.in-Ok.ensures.seats.1
    c.pop-2.new.self.items c.in-Some-pop.seat c.in-Some-pop.ensures.items).0

pub load_all-requires-clause-idle : goal.load_all-requires-clause-idle
load_all-requires-clause-idle g c = (next_is c.in-Ok.words c.in-Ok.seats.items c.pop.new.self.items c.in-Some.other c.in-Some.ensures.items c.in-Ok.ensures.seats.1
    c.pop-2.new.self.items c.in-Some-pop.seat c.in-Some-pop.ensures.items).1.0

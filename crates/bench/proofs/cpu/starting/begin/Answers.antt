use Rattle.std.proofs.Common.{ap, ◌∙◌}
use Rattle.bench.specs.Words.{View, fresh_seat}
use Rattle.bench.proofs.Alone.{first_is}
use Rattle.bench.proofs.cpu.starting.begin.Goals as goal

pub make-requires-clause-seat : goal.make-requires-clause-seat
make-requires-clause-seat g c = (c.in-Ok.ensures.seats.1 0 c.in-Some.seat
    (first_is c.in-Ok.seats.items c.pop.new.self.items c.in-Some.seat c.in-Some.ensures.items (c.in-Ok.ensures.seats.0 ∙ c.requires.one))).1

pub make-requires-clause-unused : goal.make-requires-clause-unused
make-requires-clause-unused g c = (c.in-Ok.ensures.seats.1 0 c.in-Some.seat
    (first_is c.in-Ok.seats.items c.pop.new.self.items c.in-Some.seat c.in-Some.ensures.items (c.in-Ok.ensures.seats.0 ∙ c.requires.one))).2 ∙ ap (λ k. fresh_seat k 0) c.in-Ok.ensures.config

pub returns-clause-of : goal.returns-clause-of
returns-clause-of g c =
    let fresh = c.in-Ok.ensures.seats.1 0 c.in-Some.seat (first_is c.in-Ok.seats.items c.pop.new.self.items c.in-Some.seat c.in-Some.ensures.items (c.in-Ok.ensures.seats.0 ∙ c.requires.one)) in
    rw c.make-2.ensures (c.in-Ok-make.ensures.of c.in-Ok.words (fresh.0, ap (λ (v : View). v.config) fresh.2))

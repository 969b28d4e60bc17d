use Rattle.std.proofs.Common.{◌<◌, ◌∙◌, List, length, sym, ap, subst, arith}
use Rattle.std.specs.Prelude.{Some, All}
use Rattle.dspec_session_core.specs.Words.{CpuKnows, ConsumerKnows, IsUnusedCpu, IsUnusedConsumer, known_there}
use Rattle.dspec_session_core.proofs.Begins.{none_begun, one_begun, next_seat, all_begun, seats_wait}
use Rattle.dspec_session_core.proofs.session.Session.on_words.Goals as goal

pub loop-cpu-init : goal.loop-cpu-init
loop-cpu-init g c =
    none_begun _ c.args.schema.now c.args.words c.args.config.now c.args.seats.items c.in_ok-cpus.cpus.items c.in_ok-ends.ends.items c.requires.seats.0
    (seats_wait c.args.words c.args.config.now c.args.seats.items c.requires.config c.requires.seats.1) c.in_ok-cpus.ensures.items c.in_ok-ends.ensures.items

pub make-requires-clause-seat : goal.make-requires-clause-seat
make-requires-clause-seat g c =
    let left = c.loop-cpu.invariant.left in
    let here = c.loop-cpu-test.true in
    (next_seat _ c.args.schema.now c.args.words c.args.config.now c.loop-cpu.cpu c.loop-cpu.seats.items c.loop-cpu.cpus.items c.loop-cpu.ends.items c.remove.result
    c.loop-cpu.invariant (omega arith) c.remove.ensures.value).number

pub make-requires-clause-unused : goal.make-requires-clause-unused
make-requires-clause-unused g c =
    let left = c.loop-cpu.invariant.left in
    let here = c.loop-cpu-test.true in
    (next_seat _ c.args.schema.now c.args.words c.args.config.now c.loop-cpu.cpu c.loop-cpu.seats.items c.loop-cpu.cpus.items c.loop-cpu.ends.items c.remove.result
    c.loop-cpu.invariant (omega arith) c.remove.ensures.value).fresh

pub loop-cpu-preserved : goal.loop-cpu-preserved
loop-cpu-preserved g c =
    let left = c.loop-cpu.invariant.left in
    let here = c.loop-cpu-test.true in
    let some : 0 < length c.loop-cpu.seats.items = omega arith in
    let seat = next_seat _ c.args.schema.now c.args.words c.args.config.now c.loop-cpu.cpu c.loop-cpu.seats.items c.loop-cpu.cpus.items c.loop-cpu.ends.items c.remove.result
    c.loop-cpu.invariant some c.remove.ensures.value in
    let made = c.in_ok-made.ensures in
    one_begun _ c.args.schema.now c.args.words c.args.config.now c.loop-cpu.cpu c.loop-cpu.seats.items c.remove.new.self.items c.loop-cpu.cpus.items c.push.new.self.items
    c.loop-cpu.ends.items c.push-in-loop-cpu.new.self.items
    c.in_ok-made.made c.in_ok-end.other c.loop-cpu.invariant some c.remove.ensures.items c.in_ok-push.ensures.items c.in_ok-push-2.ensures.items
    (λ p e. record { belongs = made.of c.args.words seat.at; number = made.config.1; one = made.config.2; pair = ap Some e })
    (c.in_ok-end.ensures.one ∙ sym (ap (λ (x : CpuKnows). x.pair) made.parts.1))
    record { list = made.list; worn = made.parts.2; end = subst (λ (x : CpuKnows). IsUnusedCpu x) (sym made.parts.1) c.in_ok-end.ensures.cpu; spare = made.spare }
    c.in_ok-end.ensures.consumer

pub returns-clause-session : goal.returns-clause-session
returns-clause-session g c =
    let most = c.loop-cpu.auto.cpu-end in
    let least = c.loop-cpu-test.false in
    all_begun _ c.args.schema.now c.args.words c.args.config.now _ c.args.seat c.loop-cpu.cpu c.loop-cpu.seats.items c.loop-cpu.ends.items c.make-3.ensures
    c.in_ok-consumer.ensures.seat c.requires.consumer.0
    c.in_ok-consumer.ensures.ends c.requires.config c.requires.fine (omega arith) c.loop-cpu.invariant

pub returns-clause-fresh : goal.returns-clause-fresh
returns-clause-fresh g c = λ n cpu e. (c.loop-cpu.invariant.each n cpu e).1

pub returns-clause-consumer : goal.returns-clause-consumer
returns-clause-consumer g c =
    (ap known_there c.in_ok-consumer.ensures.seat ∙ c.requires.consumer.1, subst (λ (es : List ConsumerKnows). All IsUnusedConsumer es) (sym c.in_ok-consumer.ensures.ends) c.loop-cpu.invariant.unused)

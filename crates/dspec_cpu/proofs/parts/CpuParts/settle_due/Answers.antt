use Rattle.std.proofs.Common.{◌<◌, ◌^◌, arith}
use Rattle.dspec_cpu.specs.Words.{cpu_of, set_up, batches_of}
use Rattle.dspec_cpu.proofs.{DueSettlements.can, DueSettlements.due_settled, DueSettlements.may_settle, DueSettlements.ready_now, Limits.limits}
use Rattle.dspec_cpu.proofs.parts.CpuParts.settle_due.Goals as goal

pub settle_block-doing-requires : goal.settle_block-doing-requires
settle_block-doing-requires g c =
    let cpu = c.args.self.now in
    let ready = c.requires.ready in
    let small : cpu.side.calls < 2 ^ 64 = omega arith in
    let specs = (limits cpu.config ready.steady.checked).specs.most in
    let within = c.requires.slot.1 in
    record {
      slot = omega arith;
      some = (
        cpu.schema,
        cpu.cpu,
        batches_of cpu,
        ready.steady.list,
        can _ _ _ c.args.words.now cpu ready c.args.slot c.requires.slot.0 c.requires.slot.1 c.args.word c.requires.due small ready.steady.list ready.steady.listed,
      );
    }

pub store_ack-requires-clause-call : goal.store_ack-requires-clause-call
store_ack-requires-clause-call g c =
    let cpu = c.args.self.now in
    let ready = c.requires.ready in
    let small : cpu.side.calls < 2 ^ 64 = omega arith in
    may_settle _ _ _ c.args.words.now cpu ready c.args.slot c.requires.slot.0 c.requires.slot.1 c.args.word c.requires.due small
    (set_up c.args.words.now) (cpu_of cpu.seat) c.issue.result ready.config ready.steady.seat c.issue.ensures.value

pub returns-clause-ready : goal.returns-clause-ready
returns-clause-ready g c =
    let cpu = c.args.self.now in
    let small : cpu.side.calls < 2 ^ 64 = omega arith in
    ready_now _ _ _ c.args.words.now cpu c.requires.ready c.args.slot c.requires.slot.0 c.requires.slot.1 c.args.word c.requires.due small
    c.settle_block-doing.result c.settle_block-doing.ensures.op c.store_ack.new.self c.issue.result c.issue.ensures.value c.store_ack.ensures.step
    c.settle_block-doing.new.side
    (λ p may. c.settle_block-doing.ensures.settled cpu.schema cpu.cpu (batches_of cpu) p may) c.store_ack.ensures.seat

pub returns-clause-settled : goal.returns-clause-settled
returns-clause-settled g c =
    let cpu = c.args.self.now in
    let small : cpu.side.calls < 2 ^ 64 = omega arith in
    due_settled _ _ _ c.args.words.now cpu c.requires.ready c.args.slot c.requires.slot.0 c.requires.slot.1 c.args.word c.requires.due small
    c.settle_block-doing.result c.settle_block-doing.ensures.op c.store_ack.new.self c.issue.result c.issue.ensures.value c.store_ack.ensures.step
    c.settle_block-doing.new.side
    (λ p may. c.settle_block-doing.ensures.settled cpu.schema cpu.cpu (batches_of cpu) p may)

use Rattle.std.proofs.Common.{sym}
use Rattle.dspec_c.proofs.Handing.{cpu_is_in, cpu_is_out, no_cpu}
use Rattle.dspec_c.proofs.session_calls.hand_out_cpu.Goals as goal

pub returns-then-not-has_cpu : goal.returns-then-not-has_cpu
returns-then-not-has_cpu c = no_cpu c.args.number c.args.session.now c.args.cpu.now (sym c.if-not-has_cpu.ensures)

pub returns-then-not-has_cpu_in : goal.returns-then-not-has_cpu_in
returns-then-not-has_cpu_in c = cpu_is_out c.args.number c.args.session.now c.has_cpu_in.new.self c.args.cpu.now (sym c.if-not-has_cpu.ensures) c.if-not-has_cpu_in.ensures.looked
    (sym c.if-not-has_cpu_in.ensures.inside)

pub returns : goal.returns
returns c = cpu_is_in c.args.number c.args.session.now c.has_cpu_in.new.self c.give_cpu.new.session c.give_cpu.result c.args.cpu.now c.give_cpu.new.cpu (sym c.if-not-has_cpu.ensures)
    c.if-not-has_cpu_in.ensures.looked (sym c.if-not-has_cpu_in.ensures.inside) c.give_cpu.ensures

use Rattle.std.proofs.Common.{refl}
use Rattle.dspec_c.specs.Words.{CpuOfAnswers}
use Rattle.dspec_c.specs.declared.held.HandleValue.TheVariants as held_as
use Rattle.dspec_c.proofs.Calls.{lent_so}
use Rattle.dspec_c.proofs.session_calls.dspec_cpu_of.Goals as goal

pub returns-in-Session-clause-answers : goal.returns-in-Session-clause-answers
returns-in-Session-clause-answers c = λ _.
    lent_so (λ was now. CpuOfAnswers c.args.number was c.hand_out_cpu.result now c.args.cpu.now c.hand_out_cpu.new.cpu) c.args.session.now _ _ (held_as.Session c.hand_out_cpu.new.session)
    c.lend.ensures.value c.in-Session.is refl (c.hand_out_cpu.new.session, refl, c.hand_out_cpu.ensures)

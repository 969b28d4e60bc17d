use Rattle.std.proofs.Common.{refl}
use Rattle.dspec_c.specs.Words.{TendAnswers}
use Rattle.dspec_c.specs.declared.held.HandleValue.TheVariants as held_as
use Rattle.dspec_c.proofs.Calls.{lent_so}
use Rattle.dspec_c.proofs.session_calls.dspec_tend.Goals as goal

pub returns-in-Session-clause-answers : goal.returns-in-Session-clause-answers
returns-in-Session-clause-answers c = lent_so (λ was now. TendAnswers was 0 c.args.settled.now c.tend.result now) c.args.session.now _ _
    (held_as.Session c.tend.new.self) c.lend.ensures.value c.in-Session.is refl (c.tend.new.self, refl, refl, c.tend.ensures)

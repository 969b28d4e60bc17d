use Rattle.std.proofs.Common.{refl}
use Rattle.dspec_c.specs.Words.{ConsumerOfAnswers}
use Rattle.dspec_c.specs.declared.held.HandleValue.TheVariants as held_as
use Rattle.dspec_c.proofs.Calls.{lent_so}
use Rattle.dspec_c.proofs.session_calls.dspec_consumer_of.Goals as goal

pub returns-in-Session-clause-answers : goal.returns-in-Session-clause-answers
returns-in-Session-clause-answers c = λ _.
    lent_so (λ was now. ConsumerOfAnswers was c.hand_out_consumer.result now c.args.consumer.now c.hand_out_consumer.new.consumer) c.args.session.now _ _
    (held_as.Session c.hand_out_consumer.new.session) c.lend.ensures.value c.in-Session.is refl (c.hand_out_consumer.new.session, refl, c.hand_out_consumer.ensures)

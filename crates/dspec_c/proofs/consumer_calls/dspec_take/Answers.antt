use Rattle.dspec_c.proofs.Calls.{on_lent_consumer}
use Rattle.dspec_c.proofs.consumer_calls.dspec_take.Goals as goal

pub returns-in-Consumer-clause-answers : goal.returns-in-Consumer-clause-answers
returns-in-Consumer-clause-answers c = on_lent_consumer _ _ c.args.consumer.now _ _ _ _ c.lend.ensures.value c.in-Consumer.is c.take.ensures

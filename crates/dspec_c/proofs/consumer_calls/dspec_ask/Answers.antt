use Rattle.std.proofs.Common.{refl}
use Rattle.dspec_c.proofs.Calls.{on_lent_consumer}
use Rattle.dspec_c.proofs.consumer_calls.dspec_ask.Goals as goal

pub returns-in-Consumer-clause-answers : goal.returns-in-Consumer-clause-answers
returns-in-Consumer-clause-answers c = on_lent_consumer _ _ c.args.consumer.now _ _ _ _ c.lend.ensures.value c.in-Consumer.is
    (record { answer = c.ask.result; numbered = c.of_asked.ensures; done = record { out = c.ask.ensures.did; taken = refl } })

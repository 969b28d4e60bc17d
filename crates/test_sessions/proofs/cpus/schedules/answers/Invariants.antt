use Rattle.std.proofs.Common.{◌≡◌}
use Rattle.test_sessions.specs.Words.{IsConsumerAt, schema_of, words_of, Belongs, identity}
use Rattle.test_sessions.proofs.cpus.schedules.answers.Given as goal

abbrev pub invariant-loop-turn : goal.invariant-loop-turn
invariant-loop-turn g l = record {
  first : Belongs (words_of l.cpus.shared) (identity l.cpus.first);
  second : Belongs (words_of l.cpus.shared) (identity l.cpus.second);
  schemas : (schema_of l.cpus.first ≡ l.fn.schema) × (schema_of l.cpus.second ≡ l.fn.schema);
  consumer : IsConsumerAt (words_of l.cpus.shared) l.cpus.consumer;
}

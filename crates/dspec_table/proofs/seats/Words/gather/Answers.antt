use Rattle.std.proofs.Common.{◌∙◌}
use Rattle.dspec_table.proofs.AtEnd.{ends, ends_in_words}
use Rattle.dspec_table.proofs.seats.Words.gather.Goals as goal

pub invariant_of-result : goal.invariant_of-result
invariant_of-result c = record {
  full = c.close_with-closed.ensures.values.0;
  words_is = c.close_with-closed.ensures.counts.0 ∙ c.args.self.words_is;
  no_slots = c.close_with-closed.ensures.counts.1 ∙ c.args.self.no_slots;
  places = (c.args.self.few_cpus, c.args.self.few_slots);
  shown = ends_in_words c.args.self.board.shared.key c.args.self.config _ c.collect.new.gatherer.me.0 _ _ c.args.self.key_is c.args.self.issues c.close_with-closed.ensures.values.2;
}

pub returns-clause-ended : goal.returns-clause-ended
returns-clause-ended c =
    ends c.args.self.board.shared.key c.args.self.config c.args.self.board.shared.table_id _ c.collect.new.gatherer.me.0 c.args.consumer.seat.me.0 c.args.seats.items _ _ c.args.self.key_is
    c.collect.ensures.gatherer.1 c.collect.ensures.gatherer.2 c.args.consumer.who_is c.collect.ensures.knows.0 c.collect.ensures.knows.1 (λ x s e. (c.requires.seats.each x s e).1)
    c.collect.ensures.joined c.collect.ensures.recalled c.close_with-closed.ensures.values.2

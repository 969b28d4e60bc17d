use Rattle.std.proofs.Common.{◌≡◌, ℕ, List, inl, inr, refl, subst}
use Rattle.dspec_session.specs.Words.{enabled, table_shape, table_accepts, table_text, Asked, set_up_of, FollowsText}
use Rattle.dspec_session.proofs.Visited.{asked_there, back_or_refused}
use Rattle.dspec_session.proofs.demonstration.rounds.visit.Goals as goal

pub returns-in_default-clause-visited : goal.returns-in_default-clause-visited
returns-in_default-clause-visited c = record {
  asked = c.ask.new.self;
  asks = asked_there (Asked c.args.cpu c.args.consumer.now c.ask.new.self) (c.ask.new.self ≡ c.args.consumer.now) c.ask.result (set_up_of c.args.consumer.now).cpus c.args.cpu c.ask.ensures.asked;
  takes = inl (c.in_default.ensures.none, refl);
}

pub returns-clause-visited : goal.returns-clause-visited
returns-clause-visited c =
    let s = c.args.schema.now in
    record {
      asked = c.ask.new.self;
      asks = asked_there (Asked c.args.cpu c.args.consumer.now c.ask.new.self) (c.ask.new.self ≡ c.args.consumer.now) c.ask.result (set_up_of c.args.consumer.now).cpus c.args.cpu c.ask.ensures.asked;
      takes = inr (
        c.in-Some.batch,
        c.take.new.self,
        c.in-Some.ensures.took,
        subst (λ (text : List ℕ). FollowsText (table_shape s.header (enabled s.rows)) (table_accepts s.header (enabled s.rows)) (table_text s.header (enabled s.rows)) text
            c.args.order.now c.read.new.self) c.bytes.ensures c.read.ensures,
        back_or_refused c.give_back.result c.in-Some.batch c.take.new.self c.give_back.new.self c.give_back.ensures.given c.give_back.ensures.why,
      );
    }

use Rattle.std.proofs.Common.{◌≡◌, ◌<◌, ◌≤◌, inl, inr, refl}
use Rattle.dspec.specs.Words.{words_of, Asked, set_up_of}
use Rattle.dspec.proofs.Passing.{ask_ends, ask_own, back_own, back_taken, ends_taken, none_own, none_taken, passes_both, passes_none, passes_one}
use Rattle.dspec.proofs.Visiting.{was_asked, went_back}
use Rattle.dspec.proofs.running.visit.Goals as goal

pub returns-in_default-clause-passes : goal.returns-in_default-clause-passes
returns-in_default-clause-passes g c =
    let gets = g.K.Sink.gets c.args.schema.now in
    let words = words_of c.args.shared.now in
    let x = c.args.consumer.now in
    let k = c.args.sink.now in
    let ends = ask_ends c.ask.result (c.args.cpu < (set_up_of x).cpus) ((set_up_of x).cpus ≤ c.args.cpu) c.args.cpu x c.ask.new.self c.ask.ensures.asked in
    let own = ask_own c.ask.result (c.args.cpu < (set_up_of x).cpus) ((set_up_of x).cpus ≤ c.args.cpu) c.args.cpu x c.ask.new.self c.ask.ensures.asked in
    passes_both gets words x c.ask.new.self c.take.new.self k k k
    (passes_none gets words x c.ask.new.self k (record { session = c.ask.ensures.session; same = c.ask.ensures.same }) (ends_taken x c.ask.new.self ends) own)
    (passes_none gets words c.ask.new.self c.take.new.self k (record { session = c.take.ensures.session; same = c.take.ensures.same })
    (λ d. none_taken c.args.cpu c.ask.new.self c.take.new.self d c.in_default.ensures.none) (none_own c.args.cpu c.ask.new.self c.take.new.self c.in_default.ensures.none))

pub returns-clause-passes : goal.returns-clause-passes
returns-clause-passes g c =
    let gets = g.K.Sink.gets c.args.schema.now in
    let words = words_of c.args.shared.now in
    let x = c.args.consumer.now in
    let k = c.args.sink.now in
    let l = c.batch.new.self in
    let ends = ask_ends c.ask.result (c.args.cpu < (set_up_of x).cpus) ((set_up_of x).cpus ≤ c.args.cpu) c.args.cpu x c.ask.new.self c.ask.ensures.asked in
    let own = ask_own c.ask.result (c.args.cpu < (set_up_of x).cpus) ((set_up_of x).cpus ≤ c.args.cpu) c.args.cpu x c.ask.new.self c.ask.ensures.asked in
    let asked = passes_none gets words x c.ask.new.self k (record { session = c.ask.ensures.session; same = c.ask.ensures.same }) (ends_taken x c.ask.new.self ends) own in
    let took = passes_one gets words c.args.cpu c.in-Some.batch c.ask.new.self c.take.new.self k l (record { session = c.take.ensures.session; same = c.take.ensures.same })
    c.in-Some.ensures.took c.batch.ensures in
    let back = passes_none gets words c.take.new.self c.give_back.new.self l (record { session = c.give_back.ensures.session; same = c.give_back.ensures.same })
    (λ d. back_taken c.give_back.result c.in-Some.batch c.take.new.self c.give_back.new.self d c.give_back.ensures.given c.give_back.ensures.why)
    (back_own c.give_back.result c.in-Some.batch c.take.new.self c.give_back.new.self c.give_back.ensures.given c.give_back.ensures.why) in
    passes_both gets words x c.take.new.self c.give_back.new.self k l l (passes_both gets words x c.ask.new.self c.take.new.self k k l asked took) back

pub returns-in_default-clause-visited : goal.returns-in_default-clause-visited
returns-in_default-clause-visited g c =
    let x = c.args.consumer.now in
    record {
      asked = c.ask.new.self;
      asks = was_asked (Asked c.args.cpu x c.ask.new.self) (c.ask.new.self ≡ x) c.ask.result (set_up_of x).cpus c.args.cpu c.ask.ensures.asked;
      fetches = inl (c.in_default.ensures.none, refl);
    }

pub returns-clause-visited : goal.returns-clause-visited
returns-clause-visited g c =
    let x = c.args.consumer.now in
    record {
      asked = c.ask.new.self;
      asks = was_asked (Asked c.args.cpu x c.ask.new.self) (c.ask.new.self ≡ x) c.ask.result (set_up_of x).cpus c.args.cpu c.ask.ensures.asked;
      fetches = inr (
        c.in-Some.batch,
        c.take.new.self,
        c.in-Some.ensures.took,
        c.batch.ensures,
        went_back c.give_back.result c.in-Some.batch c.take.new.self c.give_back.new.self c.give_back.ensures.given c.give_back.ensures.why,
      );
    }

use Rattle.std.proofs.Common.{◌<◌, ◌+◌, ◌∙◌, ℕ, length, refl, ap, sym, subst}
use Rattle.dspec_session_core.specs.Words.{Config, View, StoredAsk, known_there, taken_from}
use Rattle.dspec_session_core.proofs.{Asks.stored_asks, Asks.none_beyond, Ends.taken_is}
use Rattle.dspec_session_core.proofs.consumer.Consumer.ask.Goals as goal

pub invariant_of-self : goal.invariant_of-self
invariant_of-self c =
    let v = known_there c.self.inside.seat in
    let w = known_there c.store_ask.new.self in
    let step = c.store_ask.ensures.step in
    let end = c.index.result.now in
    let stored : StoredAsk c.args.cpu (length end.taken + 1) v w = subst (λ (n : ℕ). StoredAsk c.args.cpu (n + 1) v w) c.taken-count.ensures.number step in
    record {
      config = ap (λ (x : View). x.config) step.2 ∙ c.self.invariant.config;
      all = c.self.invariant.all;
      seats = c.self.invariant.seats;
      parted = c.self.invariant.parted;
      left = c.self.invariant.left;
      asked = none_beyond v w c.args.cpu c.self.inside.ends.items end c.index.ensures stored c.self.invariant.asked;
    }

pub returns-clause-asked : goal.returns-clause-asked
returns-clause-asked c =
    let v = known_there c.self.inside.seat in
    let w = known_there c.store_ask.new.self in
    let step = c.store_ask.ensures.step in
    let ends = c.self.inside.ends.items in
    let within : c.args.cpu < length ends = subst (λ (n : ℕ). c.args.cpu < n) (sym c.self.invariant.all) c.if-cpu-self.false in
    let number = c.taken-count.ensures.number ∙ sym (taken_is ends c.args.cpu c.index.result.now within c.index.ensures) in
    let stored : StoredAsk c.args.cpu (taken_from c.args.cpu (record { seat = c.self.inside.seat; ends = ends }) + 1) v w = subst (λ (n : ℕ). StoredAsk c.args.cpu (n + 1) v w) number step in
    rw (← c.self.view_is) (
      subst (λ (k : Config). c.args.cpu < k.cpus) (sym c.self.invariant.config) c.if-cpu-self.false,
      record { stored = stored; asks = stored_asks v w c.args.cpu (taken_from c.args.cpu (record { seat = c.self.inside.seat; ends = ends }) + 1) stored; ends = refl },
    )

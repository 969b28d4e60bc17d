use Rattle.std.proofs.Common.{None, refl, sym, ap, ◌∙◌, rules, arith, subst}
use Rattle.std.specs.Prelude.{replicate}
use Rattle.dspec_c.specs.Words.{Theirs, GivesConsumer, consumer_due, TheyGoOut}
use Rattle.dspec_c.proofs.Handing.{given, theirs_none}
use Rattle.dspec_c.proofs.session_calls.hand_out_consumer.Goals as goal

pub returns : goal.returns
returns c = given GivesConsumer (consumer_due c.args.session.now) c.args.session.now 0 c.consumer.new.self c.args.consumer.now c.put.new.self
    (theirs_none c.args.session.now (first_of (cc, search rules, grind arith))) refl
    (record {
      side = c.new.result;
      go = subst (λ (t : Theirs). TheyGoOut c.args.session.now t c.consumer.new.self) (sym c.new.ensures.out) c.in-Some.ensures.go;
      none_out = c.new.ensures.taken ∙ c.in-Ok-places_for_batches.ensures ∙ ap (λ n. replicate n None) c.count.ensures;
      full = c.put.ensures.full;
      holds = c.put.ensures.holds;
    })

use Rattle.std.proofs.Common.{rules, arith, ◌≡◌, ◌<◌, ◌+◌, ◌++◌, ◌∷◌, [], Some, length, length-append, option_map, ap, sym, subst, ◌∙◌}
use Rattle.std.proofs.lemmas.List.Elements.{All-push}
use Rattle.std.specs.Prelude.{All}
use Rattle.dspec_ctf_reading.specs.Words.{read_event, read_events, Fits, as_read, told_layout, after_events}
use Rattle.dspec_ctf_reading.proofs.EventLemmas.{after-one-more, events-more}
use Rattle.dspec_ctf_reading.proofs.events.read_events.Goals as goal

pub loop-rest-preserved : goal.loop-rest-preserved
loop-rest-preserved c =
    let some : 0 < length c.loop-rest.rest.now = search rules in
    let read : read_event (told_layout c.args.metadata.now) c.loop-rest.rest.now ≡ Some (as_read (told_layout c.args.metadata.now) c.in-Ok.event, c.in-Ok.next.now) = search rules in
    let after : option_map (λ p. p.1) (read_event (told_layout c.args.metadata.now) c.loop-rest.rest.now) ≡ Some c.in-Ok.next.now = ap (option_map (λ p. p.1)) read in
    let grown : c.push.new.self.items ≡ c.loop-rest.events.items ++ c.in-Ok.event ∷ [] = search rules in
    let longer : length c.push.new.self.items ≡ length c.loop-rest.events.items + 1 = ap length grown ∙ length-append c.loop-rest.events.items (c.in-Ok.event ∷ []) in
    record {
      so_far =
          events-more (told_layout c.args.metadata.now) (as_read (told_layout c.args.metadata.now)) c.loop-rest.events.items c.push.new.self.items c.in-Ok.event
          (read_events (told_layout c.args.metadata.now) c.args.body.now) c.loop-rest.rest.now c.in-Ok.next.now some c.loop-rest.invariant.so_far read grown;
      fit =
          subst (All (Fits (told_layout c.args.metadata.now))) (sym grown)
          (All-push (Fits (told_layout c.args.metadata.now)) c.loop-rest.events.items c.in-Ok.event c.loop-rest.invariant.fit c.in-Ok.ensures.fits);
      reached =
          subst (λ n. after_events n (told_layout c.args.metadata.now) c.args.body.now ≡ Some c.in-Ok.next.now) (sym longer)
          (after-one-more (told_layout c.args.metadata.now) (length c.loop-rest.events.items) c.args.body.now c.loop-rest.rest.now c.in-Ok.next.now c.loop-rest.invariant.reached after);
      within = omega (arith, c.in-Ok.ensures.shorter);
    }

use Rattle.std.proofs.Common.{◌≡◌, ◌+◌, ◌++◌, ◌∷◌, ◌∙◌, [], length, map, take, drop, subst, sym, rules}
use Rattle.dspec_ctf.specs.Words.{AreEvents, kinds_in, texts_in}
use Rattle.dspec_ctf.proofs.InMemory.Events.{of_part, one_more, some_after, some_numbers}
use Rattle.dspec_ctf.proofs.in_memory.naming.events_of.Goals as goal

pub returns-in-Err-clause-fault : goal.returns-in-Err-clause-fault
returns-in-Err-clause-fault c = of_part c.loop-place.number c.args.numbers.now c.in-Err.fault c.in-Err.ensures.fault

pub loop-place-preserved : goal.loop-place-preserved
loop-place-preserved c =
    let n = c.field_count-count.result in
    let names = map (λ t. t.now) c.args.texts.now in
    let kinds = c.args.numbers.now in
    let event = c.in-Ok.event in
    let named = length event.fields.now in
    let texts : texts_in event ≡ take (1 + named) (drop c.loop-place.text names) = c.in-Ok.ensures.texts ∙ some_after (λ t. t.now) c.args.texts.now c.loop-place.text (1 + named) in
    let numbers : kinds_in event ≡ take n (drop c.loop-place.number kinds) = c.in-Ok.ensures.kinds ∙ some_numbers kinds c.loop-place.number n in
    let items : c.push.new.self.items ≡ c.loop-place.events.items ++ event ∷ [] = search rules in
    record {
      texts_within = search rules;
      numbers_within = search rules;
      are = subst (λ es. AreEvents (take (c.loop-place.text + (1 + named)) names) (take (c.loop-place.number + n) kinds) es) (sym items)
          (one_more names kinds c.loop-place.events.items event c.loop-place.text (1 + named) c.loop-place.number n
          c.loop-place.invariant.are texts numbers c.in-Ok.ensures.bare);
    }

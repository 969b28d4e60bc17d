use Rattle.std.proofs.Common.{◌≡◌, ◌≤◌, if◌then◌else◌, ◌∷◌, ◌∙◌, ◌++◌, IfOk, Ok, Err, [], map, reverse, take, refl, ap, sym, arith}
use Rattle.std.proofs.lemmas.{Bool.Decides.nat_tests, List.map-append, List.length-reverse, List.length-take-le}
use Rattle.specview.specs.Words.{is_drop, shown_share, last_share, shares}
use Rattle.dspec_interleaving.proofs.Counts.{drops_counted}
use Rattle.specview.proofs.Cutting.{begins_at, enough, sealed_at, grown_at, grown_within, ended_at}
use Rattle.specview.proofs.batches.shares_of.Goals as goal

pub split_at-requires : goal.split_at-requires
split_at-requires c =
    enough c.args.cpu c.args.records.now (reverse (take c.loop-deed.deed-index c.args.deeds.now)) (map shown_share c.loop-deed.found.items) c.loop-deed.rest.now
    c.loop-deed.count c.loop-deed.drops c.loop-deed.invariant (begins_at c.args.cpu c.args.deeds.now c.loop-deed.deed-index c.args.records.now c.requires.accepted)

pub loop-deed-preserved-then-is_seal_of : goal.loop-deed-preserved-then-is_seal_of
loop-deed-preserved-then-is_seal_of c =
    sealed_at c.args.cpu c.args.records.now c.args.deeds.now c.loop-deed.deed-index c.deed-item.result (map shown_share c.loop-deed.found.items) (map shown_share c.push.new.self.items)
    c.split_at.result.0.now c.loop-deed.rest.now c.split_at.result.1.now c.loop-deed.count c.loop-deed.drops c.requires.accepted c.loop-deed.invariant
    c.loop-deed-test.true c.deed-item.is (sym c.is_seal_of.ensures ∙ c.if-is_seal_of.true) c.split_at.ensures.front c.split_at.ensures.back
    (ap (map shown_share) c.in_ok-push.ensures.items ∙ map-append shown_share c.loop-deed.found.items (record { drops = c.loop-deed.drops; records = c.split_at.result.0 } ∷ []))

pub overflow_add-count : goal.overflow_add-count
overflow_add-count c =
    let most = grown_within c.args.cpu c.args.records.now c.args.deeds.now c.loop-deed.deed-index c.deed-item.result (map shown_share c.loop-deed.found.items) c.loop-deed.rest.now
    c.loop-deed.count c.loop-deed.drops c.accepted_by-count.result _ c.requires.told c.requires.accepted c.loop-deed.invariant c.loop-deed-test.true c.deed-item.is
    (sym c.is_seal_of.ensures ∙ c.if-is_seal_of.false) c.accepted_by-count.ensures refl in
    omega arith

pub overflow_add-drops : goal.overflow_add-drops
overflow_add-drops c =
    let few = drops_counted c.args.cpu (reverse (take c.loop-deed.deed-index c.args.deeds.now)) in
    let long = length-reverse (take c.loop-deed.deed-index c.args.deeds.now) ∙ length-take-le c.loop-deed.deed-index c.args.deeds.now c.loop-deed.auto.deed-index-end in
    let told = c.loop-deed.invariant.dropped in
    let one : (if is_drop c.args.cpu c.deed-item.result then 1 else 0) ≤ 1 = grind (arith, nat_tests) in
    let here = c.dropped_by-drops.ensures in
    omega arith

pub loop-deed-preserved : goal.loop-deed-preserved
loop-deed-preserved c =
    grown_at c.args.cpu c.args.records.now c.args.deeds.now c.loop-deed.deed-index c.deed-item.result (map shown_share c.loop-deed.found.items) c.loop-deed.rest.now
    c.loop-deed.count c.loop-deed.drops c.accepted_by-count.result c.dropped_by-drops.result c.requires.told c.loop-deed.invariant c.loop-deed-test.true c.deed-item.is
    (sym c.is_seal_of.ensures ∙ c.if-is_seal_of.false) c.accepted_by-count.ensures c.dropped_by-drops.ensures

pub returns : goal.returns
returns c = elim c.with_last.result as (λ r. IfOk r (λ all. map shown_share all.items ≡ map shown_share c.loop-deed.found.items
    ++ last_share (record { drops = c.loop-deed.drops; records = c.loop-deed.rest.now }))
    → IfOk r (λ found. map shown_share found.items ≡ shares c.args.cpu (reverse c.args.deeds.now))) [
      | Ok found ↦ λ last. ended_at c.args.cpu c.args.records.now c.args.deeds.now c.loop-deed.deed-index (map shown_share c.loop-deed.found.items) (map shown_share found.items)
          c.loop-deed.rest.now c.loop-deed.count c.loop-deed.drops c.requires.accepted c.loop-deed.invariant c.loop-deed-test.false last
      | Err fault ↦ λ _. tt
    ] c.with_last.ensures

use Rattle.std.proofs.{Common.◌≡◌, Common.◌∙◌, Common.[], Common.Some, Common.ap, Common.below_more, Common.arith, lemmas.Option.slice_get-get_or}
use Rattle.std.specs.List.{slice_get}
use Rattle.dspec_folder_view.proofs.Uuids.{nowhere}
use Rattle.dspec_folder_view.proofs.judging.place_of.Goals as goal

pub returns-then-is_one_uuid : goal.returns-then-is_one_uuid
returns-then-is_one_uuid c =
    (slice_get-get_or c.args.uuids.now c.loop-place.place [] c.loop-place-test.true ∙ ap Some (c.is_one_uuid.ensures.same c.if-is_one_uuid.true), c.loop-place.invariant)

pub loop-place-preserved : goal.loop-place-preserved
loop-place-preserved c =
    let there = slice_get-get_or c.args.uuids.now c.loop-place.place [] c.loop-place-test.true in
    below_more (λ k. slice_get c.args.uuids.now k ≡ Some c.args.uuid.now → ⊥) c.loop-place.place c.loop-place.invariant
    (λ q. c.is_one_uuid.ensures.other c.if-is_one_uuid.false cc)

pub returns : goal.returns
returns c = nowhere c.args.uuids.now c.args.uuid.now c.loop-place.place (omega arith) c.loop-place.invariant

use Rattle.std.proofs.{Common.rules, Common.subst, Common.All, lemmas.List.take_all as take_all_of, lemmas.List.Elements.All-more}
use Rattle.dspec_ctf.specs.Words.{Accepts}
use Rattle.dspec_ctf.proofs.records.first_refused.Goals as goal

pub loop-place-preserved : goal.loop-place-preserved
loop-place-preserved c =
    let r = c.index-records-place.result in
    let here : Accepts c.args.enablings.now r = search rules in
    All-more (Accepts c.args.enablings.now) c.args.records.now c.loop-place.place r c.loop-place-test.true c.loop-place.invariant
    (subst (Accepts c.args.enablings.now) c.index-records-place.is here)

pub returns-clause-accepted : goal.returns-clause-accepted
returns-clause-accepted c = λ _.
    subst (All (Accepts c.args.enablings.now)) (take_all_of c.loop-place.place c.args.records.now c.loop-place-test.false) c.loop-place.invariant

use Rattle.std.proofs.Common.{◌≡◌, ◌<◌, ◌∙◌, length, refl, ap, sym, subst, arith}
use Rattle.std.proofs.lemmas.Option.{get_or_from_slice_get, slice_get_within}
use Rattle.dspec_ctf.specs.Words.{GoesToFile}
use Rattle.dspec_ctf.proofs.Spreading.{run-more}
use Rattle.dspec_ctf.proofs.rows.Rows.take_all_on.Goals as goal

pub returns-then-not-take_on-clause-whole : goal.returns-then-not-take_on-clause-whole
returns-then-not-take_on-clause-whole c = λ r after there goes.
    let file = c.args.file in
    let one = c.index-records-place.result in
    let is : one ≡ r = c.index-records-place.is ∙ get_or_from_slice_get c.args.records.now c.loop-place.place r one there in
    let stamp : r.stamp ≡ c.stamp.result = sym (c.stamp.ensures ∙ ap (λ q. q.stamp) is) in
    let of_stamp = subst (λ s. GoesToFile c.take_on.new.self s file after) stamp goes in
    c.if-not-take_on.ensures.elsewhere refl after (subst (λ l. GoesToFile l c.stamp.result file after) (c.if-not-take_on.ensures.same refl) of_stamp)

pub loop-place-preserved : goal.loop-place-preserved
loop-place-preserved c = record {
  files = c.if-not-take_on.ensures.files ∙ c.loop-place.invariant.files;
  goes = run-more c.args.self.now c.loop-place.self c.take_on.new.self c.args.records.now c.args.from c.loop-place.place c.args.file c.index-records-place.result
      c.loop-place.auto.place c.loop-place-test.true c.index-records-place.is c.loop-place.invariant.goes
      (subst (λ s. GoesToFile c.loop-place.self s c.args.file c.take_on.new.self) c.stamp.ensures (c.if-not-take_on.ensures.goes refl));
}

pub returns-clause-whole : goal.returns-clause-whole
returns-clause-whole c = λ r after there goes.
    let within : length c.args.records.now < length c.args.records.now = slice_get_within c.args.records.now (length c.args.records.now) r there in
    absurd (omega (arith, within))

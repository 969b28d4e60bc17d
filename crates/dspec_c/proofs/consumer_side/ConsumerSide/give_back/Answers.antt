use Rattle.std.proofs.Common.{Some, refl, inl, inr, sym, ap, ◌∙◌, arith}
use Rattle.std.specs.Prelude.{slice_set}
use Rattle.dspec_c.proofs.Taken.{none_out, put_back, was_out}
use Rattle.dspec_c.proofs.consumer_side.ConsumerSide.give_back.Goals as goal

pub returns-in_default : goal.returns-in_default
returns-in_default c =
    let p = none_out c.args.self.now.taken.items c.args.cpu c.take.result c.index_mut.result.now c.take.new.self (omega arith) c.index_mut.ensures.value c.take.ensures.value c.in_default.is
    c.take.ensures.after in
    inr (inl (refl, p.0, refl, p.1))

pub returns-in-Ok : goal.returns-in-Ok
returns-in-Ok c = inr (inr (inr (
  refl,
  (
    c.in-Some.batch,
    was_out c.args.self.now.taken.items c.args.cpu c.take.result c.index_mut.result.now c.in-Some.batch (omega arith) c.index_mut.ensures.value c.take.ensures.value c.in-Some.is,
    c.in-Ok.ensures.did,
    ap (λ o. slice_set c.args.self.now.taken.items c.args.cpu o) c.take.ensures.after,
  ),
)))

pub returns-in-Err : goal.returns-in-Err
returns-in-Err c = inr (inr (inl (
  refl,
  (
    c.in-Some.batch,
    was_out c.args.self.now.taken.items c.args.cpu c.take.result c.index_mut.result.now c.in-Some.batch (omega arith) c.index_mut.ensures.value c.take.ensures.value c.in-Some.is,
    record {
      out = c.in-Err.ensures.did.1;
      taken = put_back c.args.self.now.taken.items c.args.cpu c.index_mut.result.now c.take.new.self (Some c.in-Err.batch) c.index_mut.ensures.value
          (ap Some c.in-Err.ensures.did.0 ∙ sym c.in-Some.is ∙ c.take.ensures.value);
    },
  ),
)))

use Rattle.std.proofs.Common.{◌≡◌, ◌<◌, length, Some, sym, ap, ◌∙◌, subst, rules, get_or}
use Rattle.std.proofs.lemmas.Option.{slice_get-get_or, slice_get_within, get_or_from_slice_get}
use Rattle.dspec.specs.{Words.AllWorked, Words.WorkedOne, declared.workers.Working.Working}
use Rattle.dspec.proofs.Working.{pair_callable, all_worked}
use Rattle.dspec.proofs.workers.work_pairs.Goals as goal

pub for_each_mut-requires-clause-accepts : goal.for_each_mut-requires-clause-accepts
for_each_mut-requires-clause-accepts g c κs within = λ i p lt at.
    let e = c.as_mut_slice.ensures.value in (
      pair_callable c.args.shared.now c.args.pairs.now.items i p.now c.requires (subst (λ xs. i < length xs) e lt) (subst (λ xs. p.now ≡ get_or xs i p.now) e at),
      (search rules),
    )

pub returns : goal.returns
returns g c =
    let does = g.W.Worker.does in
    let old = c.as_mut_slice.result.now in
    let new = c.for_each_mut.new.s in
    let same : length new ≡ length old = search rules in
    let size : c.args.pairs.now.len ≡ length new = search rules in
    let worked : AllWorked does old new = record {
      all = same;
      each = λ i pair at.
          let lt = subst (λ n. i < n) same (slice_get_within new i pair at) in
          let made = (c.for_each_mut.ensures i pair lt).1 in
          let left : made.after_call.now ≡ pair = made.left ∙ get_or_from_slice_get new i pair pair at in
          let done : WorkedOne does made.argument.now made.after_call.now = search rules in
          (made.argument.now, slice_get-get_or old i pair lt ∙ ap Some (sym made.argument_is), subst (λ (x : Working g.row.W.Denot). WorkedOne does made.argument.now x) left done);
    } in
    all_worked does c.args.pairs.now.len old new c.args.pairs.now.items worked c.as_mut_slice.ensures.value size

use Rattle.std.proofs.Common.{◌≡◌, ◌<◌, length, Some, sym, ap, ◌∙◌, subst, rules, get_or}
use Rattle.std.proofs.lemmas.Option.{slice_get-get_or, slice_get_within, get_or_from_slice_get}
use Rattle.dspec.specs.Words.{EnabledRows, identity, called, number_in, schema_of, AllReturned, Returned, ThenServed, Cpu}
use Rattle.dspec.proofs.Returning.{there, all_returned}
use Rattle.dspec.proofs.running.work_all.Goals as goal

pub for_each_mut-requires-clause-accepts : goal.for_each_mut-requires-clause-accepts
for_each_mut-requires-clause-accepts g c κs within = λ i p lt at.
    let e = c.as_mut_slice.ensures.value in
    there c.args.shared.now c.args.cpus.now.items i p.now c.requires (subst (λ xs. i < length xs) e lt) (subst (λ xs. p.now ≡ get_or xs i p.now) e at)

pub returns : goal.returns
returns g c =
    let does = λ (schema : EnabledRows). ThenServed (g.W.Work.does schema c.args.work.now) in
    let old = c.as_mut_slice.result.now in
    let new = c.for_each_mut.new.s in
    let same : length new ≡ length old = search rules in
    let size : c.args.cpus.now.len ≡ length new = search rules in
    let returned : AllReturned does old new = record {
      all = same;
      each = λ i cpu at.
          let lt = subst (λ n. i < n) same (slice_get_within new i cpu at) in
          let made = (c.for_each_mut.ensures i cpu lt).1 in
          let left : made.after_call.now ≡ cpu = made.left ∙ get_or_from_slice_get new i cpu cpu at in
          let kept : identity made.after_call.now ≡ identity made.argument.now = search rules in
          let worked : does (schema_of made.argument.now) (number_in made.argument.now) (called made.argument.now) (called made.after_call.now) = search rules in
          let done : Returned does made.argument.now made.after_call.now = record { same = kept; did = worked } in
          (made.argument.now, slice_get-get_or old i cpu lt ∙ ap Some (sym made.argument_is), subst (λ (x : Cpu EnabledRows). Returned does made.argument.now x) left done);
    } in
    all_returned does c.args.cpus.now.len old new c.args.cpus.now.items returned c.as_mut_slice.ensures.value size

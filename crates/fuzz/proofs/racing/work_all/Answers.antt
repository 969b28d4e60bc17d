use Rattle.std.proofs.Common.{◌≡◌, ◌<◌, length, Some, sym, ap, ◌∙◌, subst, rules, get_or}
use Rattle.std.proofs.lemmas.Option.{slice_get-get_or, slice_get_within, get_or_from_slice_get}
use Rattle.fuzz.specs.Words.{EnabledRows, identity, AllWereCalled, Cpu}
use Rattle.fuzz.proofs.Lending.{at_place, all_called}
use Rattle.fuzz.proofs.racing.work_all.Goals as goal

pub for_each_mut-requires-clause-accepts : goal.for_each_mut-requires-clause-accepts
for_each_mut-requires-clause-accepts g c κs within = λ i p lt at.
    let e = c.as_mut_slice.ensures.value in
    at_place c.args.shared.now c.args.board.now.schema c.args.cpus.items i p.now c.requires (subst (λ xs. i < length xs) e lt) (subst (λ xs. p.now ≡ get_or xs i p.now) e at)

pub returns : goal.returns
returns g c =
    let old = c.as_mut_slice.result.now in
    let new = c.for_each_mut.new.s in
    let same : length new ≡ length old = search rules in
    let size : c.args.cpus.len ≡ length new = search rules in
    let called : AllWereCalled old new = record {
      count = same;
      each = λ i cpu at.
          let lt = subst (λ n. i < n) same (slice_get_within new i cpu at) in
          let made = (c.for_each_mut.ensures i cpu lt).1 in
          let left : made.after_call.now ≡ cpu = made.left ∙ get_or_from_slice_get new i cpu cpu at in
          let done : identity made.after_call.now ≡ identity made.argument.now = search rules in
          (made.argument.now, slice_get-get_or old i cpu lt ∙ ap Some (sym made.argument_is), subst (λ (x : Cpu EnabledRows). identity x ≡ identity made.argument.now) left done);
    } in
    all_called c.args.cpus.len old new c.args.cpus.items called c.as_mut_slice.ensures.value size

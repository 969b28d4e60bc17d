use Rattle.std.proofs.Common.{ap, ◌∙◌, arith}
use Rattle.std.specs.Arc.{arc_value}
use Rattle.dspec_c.specs.Words.{Theirs, they_wait_so}
use Rattle.dspec_c.proofs.EndingPlaces.{whole_at_first}
use Rattle.dspec_c.proofs.under_way.UnderWay.of.Goals as goal

pub invariant_of-result : goal.invariant_of-result
invariant_of-result c = (
  whole_at_first (arc_value c.args.common) (arc_value c.in_ok-shared.shared) _ _ _ _ _ c.requires.started
      (c.in_ok-place.ensures ∙ ap (λ (t : Theirs). they_wait_so t.shared t.consumer) c.of.ensures) c.in_ok-shared.ensures c.in_ok-places.ensures,
  record {
    empty = c.in_ok-room.ensures.items;
    fits = omega (arith, c.requires.started.count, c.requires.started.all, c.args.cpus.ok.0, c.in_ok-room.ensures.len, c.in_ok-room.ensures.capacity, c.len.ensures);
    none = c.in_ok-counts.ensures.items;
    counts_fit = omega (arith, c.requires.started.count, c.requires.started.all, c.args.cpus.ok.0, c.in_ok-counts.ensures.len, c.in_ok-counts.ensures.capacity, c.len-2.ensures);
  },
)

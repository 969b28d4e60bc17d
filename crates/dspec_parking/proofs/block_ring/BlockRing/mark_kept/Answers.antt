use Rattle.std.proofs.Common.{◌≡◌, refl, sym, subst, ap, ◌∙◌}
use Rattle.std.specs.{Option.option_copied_mut, Prelude.None, Prelude.Some, Prelude.length, Prelude.slice_get, Prelude.◌<◌}
use Rattle.dspec_parking.specs.Words.{ParkingRing, with_kept, IsRing, ring_shown}
use Rattle.dspec_parking.proofs.{Finding.is_there, Finding.place_there, Finding.some_there, Rings.kept_shows, block_ring.BlockRing.mark_kept.Goals.in-Some}
use Rattle.dspec_parking.proofs.{block_ring.BlockRing.mark_kept.Goals.in_default}
use Rattle.dspec_parking.proofs.block_ring.BlockRing.mark_kept.Goals as goal

pub invariant_of-self : goal.invariant_of-self
invariant_of-self c =
    let r = c.self.inside in
    let i = c.args.place in
    elim c.match-get_mut.branch [
      | in-Some w ↦
          let e = w.in-Some.entry.now in
          let found = sym w.in-Some.ensures.value in
          subst IsRing (sym w.self-inside-is) (kept_shows r c.self.invariant i e (place_there r c.self.invariant i e found) _ found (is_there r c.self.invariant i e found) refl).0
      | in_default w ↦ subst IsRing (sym w.self-inside-is) c.self.invariant
    ]

pub returns : goal.returns
returns c p stands =
    let r = c.self.inside in
    let i = c.args.place in
    let at = subst (λ (v : ParkingRing). slice_get v.places i ≡ Some p) (sym c.self.view_is) stands.0 in
    elim c.match-get_mut.branch [
      | in-Some w ↦
          ap ring_shown w.self-inside-is ∙ (kept_shows r c.self.invariant i w.in-Some.entry.now p _ (sym w.in-Some.ensures.value) at refl).1 ∙ ap (with_kept i p) c.self.view_is
      | in_default w ↦
          let none : slice_get r.entries.items i ≡ None = sym (ap option_copied_mut (sym w.in_default.is) ∙ c.get_mut.ensures.value) in
          absurd (some_there r c.self.invariant i none (subst (λ (v : ParkingRing). i < length v.places) (sym c.self.view_is) c.requires))
    ]

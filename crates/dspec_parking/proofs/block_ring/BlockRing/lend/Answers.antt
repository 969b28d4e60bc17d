use Rattle.std.proofs.Common.{◌≡◌, ◌+◌, ◌<◌, ◌++◌, List, ℕ, length, subst, sym, ap, ◌∙◌, arith, length-append}
use Rattle.std.specs.{Option.option_copied, Prelude.None, Prelude.Some, Prelude.slice_get, Prelude.slice_range}
use Rattle.dspec_parking.specs.Words.{ParkingPlace, ParkingRing}
use Rattle.dspec_parking.proofs.Finding.{bytes_there, ends_in_ring, ends_in_word, some_there, starts}
use Rattle.dspec_parking.proofs.block_ring.BlockRing.lend.Goals as goal

pub unreachable-requires : goal.unreachable-requires
unreachable-requires c =
    let none : slice_get c.self.inside.entries.items c.args.place ≡ None = sym (ap option_copied (sym c.in_default.is) ∙ c.get.ensures) in
    some_there c.self.inside c.self.invariant c.args.place none (subst (λ (v : ParkingRing). c.args.place < length v.places) (sym c.self.view_is) c.requires)

pub overflow_add-from : goal.overflow_add-from
overflow_add-from c = record { fits = ends_in_word c.self.inside c.self.invariant c.args.place c.in-Some.entry.now (sym c.in-Some.ensures) }

pub parts_of-requires-clause-within : goal.parts_of-requires-clause-within
parts_of-requires-clause-within c =
    let all = length-append c.as_slices.result.0.now c.as_slices.result.1.now in
    omega (arith, all, ap length c.as_slices.ensures, ends_in_ring c.self.inside c.self.invariant c.args.place c.in-Some.entry.now (sym c.in-Some.ensures))

pub returns : goal.returns
returns c =
    let e = c.in-Some.entry.now in
    let from : ℕ = starts c.self.inside c.self.invariant c.args.place e (sym c.in-Some.ensures) in
    subst (λ (v : ParkingRing). (p : ParkingPlace) → slice_get v.places c.args.place ≡ Some p → c.parts_of.result.0.now ++ c.parts_of.result.1.now ≡ p.block.bytes) c.self.view_is
    (λ p at. c.parts_of.ensures ∙ ap (λ (l : List ℕ). slice_range l from (from + e.length)) c.as_slices.ensures
    ∙ bytes_there c.self.inside c.self.invariant c.args.place e (sym c.in-Some.ensures) p at)

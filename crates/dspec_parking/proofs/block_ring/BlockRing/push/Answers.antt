use Rattle.std.proofs.Common.{◌≡◌, ◌+◌, ◌-◌, ◌<◌, ◌≤◌, false, List, ℕ, length, refl, sym, subst, ap, ◌∙◌, arith}
use Rattle.dspec_parking.specs.Words.{FitsBeside, ParkingRing, StoredBlock, with_block, IsRing, ring_shown, wrapped}
use Rattle.dspec_parking.specs.declared.{block_ring.BlockRing.TheInside.Inside, parking_entry.ParkingEntry.ParkingEntry}
use Rattle.dspec_parking.proofs.{Rings.inside, Rings.push_shows, Rings.room_left, block_ring.BlockRing.push.Goals.In-Ok}
use Rattle.dspec_parking.proofs.block_ring.BlockRing.push.Goals as goal

-- what fits beside what is shown fits beside what is there
room_in : (r : Inside) (v : ParkingRing) (n : ℕ) → IsRing r → ring_shown r ≡ v → FitsBeside v n → (n ≤ r.bytes.capacity - length r.bytes.items) × (length r.entries.items < r.entries.capacity)
room_in r v n is shown room = room_left r is n (subst (λ (w : ParkingRing). FitsBeside w n) (sym shown) room)

pub extend-requires : goal.extend-requires
extend-requires c =
    let r = c.self.inside in
    let fit : length r.bytes.items ≤ r.bytes.capacity = c.self.invariant.bytes in
    let room : length c.args.bytes.now ≤ r.bytes.capacity - length r.bytes.items = (room_in r _ (length c.args.bytes.now) c.self.invariant c.self.view_is c.requires).0 in
    omega arith

pub unreachable-requires : goal.unreachable-requires
unreachable-requires c = absurd (cc (c.in_default.ensures.variant.1 (room_in c.self.inside _ (length c.args.bytes.now) c.self.invariant c.self.view_is c.requires).1))

-- the block that was pushed
abbrev pushed_block : In-Ok → StoredBlock
pushed_block c = record { key = c.args.key; stamp = c.args.stamp; bytes = c.args.bytes.now }

-- the ring after both pushes
abbrev after : In-Ok → Inside
after c = inside c.extend.new.self c.try_push_back.new.self c.self.inside.passed

pushed : (c : In-Ok) → IsRing (after c) × (ring_shown (after c) ≡ with_block (pushed_block c) (ring_shown c.self.inside))
pushed c =
    let r = c.self.inside in
    let bytes : List ℕ = c.args.bytes.now in
    let e : ParkingEntry = record { key = c.args.key; stamp = c.args.stamp; start = wrapped (r.passed + c.len.result); length = length bytes; is_kept = false } in
    let room = subst (λ (v : ParkingRing). FitsBeside v (length bytes)) (sym c.self.view_is) c.requires in
    push_shows r c.self.invariant e bytes _ _ room refl (ap (λ (n : ℕ). wrapped (r.passed + n)) c.len.ensures.len) refl c.extend.ensures c.in-Ok.ensures.ok

pub invariant_of-self : goal.invariant_of-self
invariant_of-self c = (pushed c).0

pub returns : goal.returns
returns c = (pushed c).1 ∙ ap (with_block (pushed_block c)) c.self.view_is

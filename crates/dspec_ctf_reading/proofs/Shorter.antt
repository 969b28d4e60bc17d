-- After a front there are no more bytes than there were; and a packet that is read is one that is split.
use Rattle.std.proofs.Common.{◌≡◌, ◌≤◌, ◌-◌, ◌/◌, ℕ, Bool, true, false, cond, List, [], ◌++◌, length, take, drop, Option, Some, None, option_map, refl, sym, subst, arith}
use Rattle.std.specs.Prelude.{option_and_then}
use Rattle.dspec_ctf_reading.specs.Words.{Layout, PacketRead, FrontRead, PartRead, read_front, sizes_agree, with_events, read_body, read_packet, PacketSplit, split_after, split_packet}
use Rattle.dspec_ctf_reading.proofs.Bounds.{Goes, front-goes}

pub front-within : (timed : Bool) (bytes : List ℕ) (front : FrontRead) (rest : List ℕ) → Some (front, rest) ≡ read_front timed bytes → length rest ≤ length bytes
unfolding Goes
front-within timed bytes front rest is =
    let few : length rest ≤ length bytes - 4 = (subst (λ part. Goes [] (length bytes - 4) part (read_front timed (bytes ++ []))) (sym is) (front-goes timed [] bytes)).0 in
    omega (arith, few)

module _ (layout : Layout) (bytes : List ℕ) where
  go_on : Option PacketSplit → PartRead PacketRead
  go_on split = option_and_then (λ s. option_map (λ packet. (packet, s.after)) (with_events layout s.front s.body)) split

  test-split : (front : FrontRead) (rest : List ℕ) (agree : Bool)
      → cond agree (option_map (λ packet. (packet, drop (front.packet_size / 8) bytes)) (with_events layout front (take (front.content_size / 8 - (length bytes - length rest)) rest))) None
      ≡ go_on (cond agree (Some (record { front = front; body = take (front.content_size / 8 - (length bytes - length rest)) rest; after = drop (front.packet_size / 8) bytes })) None)
  unfolding go_on
  test-split front rest true = refl
  test-split front rest false = refl

  part-split : (part : PartRead FrontRead) → option_and_then (λ p. read_body layout bytes p.0 p.1) part ≡ go_on (option_and_then (λ p. split_after bytes p.0 p.1) part)
  unfolding go_on
  part-split None = refl
  part-split (Some p) = test-split p.0 p.1 (sizes_agree p.0 (length bytes - length p.1) (length bytes))

  pub packet-split : read_packet layout bytes ≡ option_and_then (λ s. option_map (λ packet. (packet, s.after)) (with_events layout s.front s.body)) (split_packet layout.timed bytes)
  unfolding go_on
  packet-split = part-split (read_front layout.timed bytes)

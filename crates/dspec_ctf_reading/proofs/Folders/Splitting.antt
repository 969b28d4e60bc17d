-- A packet that is split off leaves fewer bytes, those from its end on.
use Rattle.std.proofs.Common.{◌≡◌, ◌≤◌, ◌<◌, ◌+◌, ◌-◌, ◌++◌, ℕ, Bool, List, [], ◌∷◌, length, drop, Some, None, refl, ap, sym, ◌∙◌, arith, length-drop}
use Rattle.std.proofs.lemmas.{Bool.Decides.nat_tests, List.drop-drop}
use Rattle.std.specs.Prelude.{option_and_then}
use Rattle.dspec_ctf_reading.specs.Words.{FrontRead, PartRead, read_front, PacketSplit, split_after, split_packet, SplitsInto, AreWholeBefore}
use Rattle.dspec_ctf_reading.proofs.{Agreeing.Agrees, Agreeing.agrees, Bounds.Goes, Bounds.front-goes}

-- what a packet leaves
pub record Left (bytes after : List ℕ) : Type 0 where
  pub end : ℕ
  pub some : 0 < end
  pub within : end ≤ length bytes
  pub is : after ≡ drop end bytes

go-split : (bytes : List ℕ) (front : FrontRead) (rest : List ℕ) (s : PacketSplit) → length rest ≤ length bytes - 4 → 0 < length bytes → split_after bytes front rest ≡ Some s → Left bytes s.after
go-split bytes front rest s few some is = grind (arith, nat_tests, Agrees, agrees)

pub left : (timed : Bool) (bytes : List ℕ) (s : PacketSplit) → split_packet timed bytes ≡ Some s → Left bytes s.after
unfolding Goes
left timed [] s is = absurd (cc)
left timed (b ∷ bytes) s is = go (read_front timed (b ∷ bytes)) (front-goes timed [] (b ∷ bytes)) is
  where
    go : (part : PartRead FrontRead) → Goes [] (length (b ∷ bytes) - 4) part (read_front timed ((b ∷ bytes) ++ []))
        → option_and_then (λ p. split_after (b ∷ bytes) p.0 p.1) part ≡ Some s → Left (b ∷ bytes) s.after
    go None goes same = absurd (cc)
    go (Some p) goes same = go-split (b ∷ bytes) p.0 p.1 s goes.0 (omega arith) same

-- these bytes are the others from some place on
pub record IsTail (bytes rest : List ℕ) : Type 0 where
  pub from : ℕ
  pub within : from ≤ length bytes
  pub is : rest ≡ drop from bytes

pub tail-on : (bytes rest after : List ℕ) → IsTail bytes rest → Left rest after → IsTail bytes after
tail-on bytes rest after tail left = record {
  from = tail.from + left.end;
  within = omega (arith, tail.within, left.within, ap length tail.is, length-drop tail.from bytes);
  is = left.is ∙ ap (drop left.end) tail.is ∙ drop-drop left.end tail.from bytes;
}

pub tail-whole : (bytes : List ℕ) → IsTail bytes bytes
tail-whole bytes = record { from = 0; within = omega arith; is = refl }

pub tail-dropped : (bytes rest : List ℕ) → IsTail bytes rest → drop (length bytes - length rest) bytes ≡ rest
tail-dropped bytes rest tail =
    let same : length bytes - length rest ≡ tail.from = omega (arith, tail.within, ap length tail.is, length-drop tail.from bytes) in
    ap (λ k. drop k bytes) same ∙ sym tail.is

pub shorter : (bytes after : List ℕ) → Left bytes after → length after < length bytes
shorter bytes after left = omega (arith, left.some, left.within, ap length left.is, length-drop left.end bytes)

-- one packet more
more-split : (timed : Bool) (bytes : List ℕ) (packets : List PacketSplit) (rest : List ℕ) (s : PacketSplit) → SplitsInto timed bytes packets rest → split_packet timed rest ≡ Some s
    → SplitsInto timed bytes (packets ++ s ∷ []) s.after
more-split timed bytes [] rest s are is = (ap (split_packet timed) are ∙ is, refl)
more-split timed bytes (packet ∷ packets) rest s are is = (are.0, more-split timed packet.after packets rest s are.1 is)

pub whole-more : (timed : Bool) (bytes rest : List ℕ) (s : PacketSplit) → AreWholeBefore timed bytes rest → split_packet timed rest ≡ Some s → AreWholeBefore timed bytes s.after
whole-more timed bytes rest s before is = record { packets = before.packets ++ s ∷ []; are = more-split timed bytes before.packets rest s before.are is }

pub whole-none : (timed : Bool) (bytes : List ℕ) → AreWholeBefore timed bytes bytes
whole-none timed bytes = record { packets = []; are = refl }

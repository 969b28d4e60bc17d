-- What shows a list of a CPU: its side, and the batches that it sealed.
use Rattle.std.proofs.Common.{arith, ◌≡◌, ℕ, Bool, true, false, List, ◌∷◌, Option, refl, sym, true≢false}
use Rattle.std.proofs.lemmas.Bool.Decides.{nat_tests}
use Rattle.dspec_cpu.specs.Words.{Record, Piece, Stored, HasPieces, is_seal, CpuRow, is_of, growing, calls, missed_busy, ShowsList, parts_of_side, counts_of, AreSealed, AreShown, IsShown, Shape}
use Rattle.dspec_cpu.specs.Words.{Batch, Config, Deed, Seal, CpuSeat, Counts, CpuState}
use Rattle.dspec_cpu.specs.declared.parts.CpuParts.{CpuParts as Cpu}
use Rattle.dspec_cpu_state.proofs.Quiet as side
use Rattle.dspec_cpu_state.proofs.Quiet.{quiet}

-- a quiet deed is no Seal
quiet_unsealed : (d : Deed) → quiet d ≡ true → is_seal d ≡ false
quiet_unsealed (Seal a) e = absurd (true≢false (sym e))
quiet_unsealed d e = refl

-- a deed that is no Seal seals nothing
sealed_on : (shape : ℕ → Option Shape) (accepted : Record → Bool) (text : Record → List ℕ) (k : Config) (c : ℕ) (d : Deed) (p : List Deed) (bs : List Batch)
    → is_seal d ≡ false → AreSealed shape accepted text k c p bs → AreSealed shape accepted text k c (d ∷ p) bs
sealed_on shape accepted text k c (Seal a) p bs e x = absurd (true≢false e)
sealed_on shape accepted text k c d p bs e x = x

module _ (shape : ℕ → Option Shape) (accepted : Record → Bool) (text : Record → List ℕ) {k : Config} {c : ℕ} {batches : List Batch} (side : CpuState Stored) (p : List Deed)
    (was : AreShown shape accepted text k c (parts_of_side side) batches side.counts p) where
  abbrev pub stores : Stored → List Piece → Type 0
  stores = HasPieces shape accepted text

  abbrev pub size_of : Stored → ℕ
  size_of = λ b. b.size

  -- what a side shows of the list
  pub shows : ShowsList stores size_of k c p side
  shows = record { parts = was.side; counted = was.counted }

  -- a side that shows a deed of the CPU's in front, which is no Seal, and the batches show it
  pub shown_after : (d : Deed) → is_seal d ≡ false → is_of c d ≡ true → CpuRow shape k p d → (now : CpuState Stored) → ShowsList stores size_of k c (d ∷ p) now
      → AreShown shape accepted text k c (parts_of_side now) batches now.counts (d ∷ p)
  shown_after d unsealed mine row now shown = grind (arith, nat_tests, sealed_on)

module _ (shape : ℕ → Option Shape) (accepted : Record → Bool) (text : Record → List ℕ) {S : Type 0} (cpu : Cpu S) (p : List Deed) (was : IsShown shape accepted text cpu p) where
  -- what shows the list shows it with a quiet deed in front, once numbers and counts are those of the longer list
  pub quiet_shown : (d : Deed) → quiet d ≡ true → is_of cpu.cpu d ≡ true → CpuRow shape cpu.config p d → (seat : CpuSeat) (n : ℕ) (missed : Bool) (drops : ℕ) (counts : Counts)
      → n ≡ calls cpu.cpu (d ∷ p) → missed ≡ missed_busy cpu.cpu (d ∷ p) → drops ≡ (growing cpu.cpu (d ∷ p)).drops → counts ≡ counts_of cpu.config cpu.cpu counts.worn (d ∷ p)
      → IsShown shape accepted text (record cpu { seat = seat; side = record cpu.side { calls = n; missed_busy = missed; drops = drops; counts = counts } }) (d ∷ p)
  quiet_shown d e mine row seat n missed drops counts call_is missed_is drops_is counts_is =
      shown_after shape accepted text cpu.side p was d (quiet_unsealed d e) mine row (record cpu.side { calls = n; missed_busy = missed; drops = drops; counts = counts })
      (side.quiet_shown (HasPieces shape accepted text) (λ b. b.size) p (shows shape accepted text cpu.side p was) d e n missed drops counts call_is missed_is drops_is counts_is)

-- A batch's packet is handed to the place, or counted.
use Rattle.std.proofs.{Common.arith, Common.◌≡◌, Common.ℕ, Common.◌+◌, Common.inr, Common.List, Common.refl, Common.subst, lemmas.Bool.Decides.nat_tests}
use Rattle.std.specs.Prelude.{slice_get, slice_index, slice_set, Option, Some, None}
use Rattle.dspec_ctf_sink.specs.Words.{EnabledRows, FileWrite, Refuses, Takes, AddsPacket, AreNextOf, CountsLost, IsBatchFault, IsNextPacket, LosesPacket, Tracing, cpu_name, Batch}
use Rattle.dspec_ctf_sink.specs.declared.{fault.FolderFault.FolderFault, losing.Loss.Loss}

-- the trace, by its parts
abbrev pub tracing : List ℕ → List ℕ → List ℕ → Option (List FileWrite) → Option Loss → Option Loss → Tracing
tracing uuid missed told written lost last = record { uuid = uuid; missed = missed; told = told; written = written; lost = lost; last = last }

module _ (e : EnabledRows) (uuid missed told : List ℕ) (was is : Option (List FileWrite)) (lost last : Option Loss) (old : Tracing) (b : Batch) where
  abbrev pub IsNext : ℕ → List ℕ → Type 0
  IsNext n bytes = AreNextOf e uuid n b.cpu b.buffer.text (slice_index told b.cpu) bytes

  next : (before total : ℕ) (bytes packet : List ℕ) → slice_get missed b.cpu ≡ Some before → total ≡ before + b.drops → IsNext (before + b.drops) packet
      → bytes ≡ packet → IsNextPacket e (tracing uuid missed told was lost last) b total bytes
  next before total bytes packet there sum is_packet same = grind (arith, nat_tests)

  -- and taken
  pub adds : (before total : ℕ) (name bytes packet : List ℕ) → tracing uuid missed told was lost last ≡ old → slice_get missed b.cpu ≡ Some before → total ≡ before + b.drops
      → IsNext (before + b.drops) packet → bytes ≡ packet → name ≡ cpu_name b.cpu → Takes was name bytes is
      → AddsPacket e old b (tracing uuid (slice_set missed b.cpu total) (slice_set told b.cpu total) is lost None)
  adds before total name bytes packet view there sum is_packet same named takes =
      subst (λ o. AddsPacket e o b (tracing uuid (slice_set missed b.cpu total) (slice_set told b.cpu total) is lost None)) view
      (record {
        total = total;
        bytes = bytes;
        packet_is = next before total bytes packet there sum is_packet same;
        written = subst (λ n. Takes was n bytes is) named takes;
        missed = refl;
        told = refl;
        lost = refl;
        last = refl;
      })

  -- or refused
  pub refuses : (before total : ℕ) (name bytes packet : List ℕ) (why : FolderFault) → tracing uuid missed told was lost last ≡ old → slice_get missed b.cpu ≡ Some before → total ≡ before + b.drops
      → IsNext (before + b.drops) packet → bytes ≡ packet → name ≡ cpu_name b.cpu → Refuses was name bytes is why
      → IsBatchFault e old b is why
  refuses before total name bytes packet why view there sum is_packet same named refused =
      subst (λ o. IsBatchFault e o b is why) view
      (inr (record {
        total = total;
        bytes = bytes;
        packet_is = next before total bytes packet there sum is_packet same;
        refused = subst (λ n. Refuses was n bytes is why) named refused;
      }))

-- what isn't written is counted
pub loses : (e : EnabledRows) (old mid new : Tracing) (b : Batch) (fault : FolderFault) → IsBatchFault e old b mid.written fault → mid.missed ≡ old.missed → mid.told ≡ old.told
    → mid.lost ≡ old.lost → new.written ≡ mid.written → CountsLost e mid b fault new → LosesPacket e old b new
loses e old mid new b fault why missed told lost written counts = grind (arith, nat_tests)

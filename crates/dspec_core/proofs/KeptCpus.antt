-- What is kept of a CPU shows the list after a deed: the CPU's own, another's, or a release by whomever.
use Rattle.std.proofs.Common.{[], ◌≡◌, ℕ, ◌<◌, ◌≤◌, ◌^◌, false, List, ◌∷◌, length, reverse, take, refl, sym, ap, ◌∙◌, subst, arith}
use Rattle.std.proofs.lemmas.{Bool.Decides.nat_tests, List.reverse-append, List.length-reverse, List.take-append-le}
use Rattle.dspec_core.specs.Words.{Record, Piece, Speculation, author, part, same_actor, active, batches, batch_records, contents, growing, seals, seals_now, stream, OwnState, ShowsOwnState}
use Rattle.dspec_core.specs.Words.{own_side, ReadsApart, counts_of, IsFilledWith, ShowsList, parts_of_side, HasRecords, ShowsCpu, first_or_empty, Config, CpuActor, Deed, Opened, Release, Seal}
use Rattle.dspec_core.specs.Words.{Report, Counts, CpuState, CpuProgress}
use Rattle.dspec_core.specs.declared.machine.cpu.Cpu.{Cpu}
use Rattle.dspec_deeds.proofs.{OwnReads.apart_other, OwnReads.reads, OwnStates.side_part, StayingOwn.accepted_other, StayingOwn.batches_other, TestLemmas.number_is_itself}
use Rattle.dspec_cpu_state.proofs.{Quiet.quiet_shown, Tallies.released_counts}
use Rattle.dspec_core.proofs.Batches.{active_grows, batches_sealed}

-- the counts of which a report tells
abbrev told_counts : Report → Counts
told_counts p = record {
  offered = p.offered;
  accepted = p.accepted;
  dropped = p.dropped;
  specdropped = p.specdropped;
  lost = p.lost;
  discarded = p.discarded;
  void = p.void;
  drops = p.drops;
  unavailable = p.unavailable;
  busy = p.busy;
  stopped = p.stopped;
  worn = p.worn;
}

counts_alike : (k : Config) (c w : ℕ) (g h : List Deed) → ReadsApart k c g h → counts_of k c w g ≡ counts_of k c w h
counts_alike k c w g h e = ap told_counts (e.reporting w)

-- a slot given out counts nothing
opened_counts : (k : Config) (c w : ℕ) (a : ℕ) (id : Speculation) (p : List Deed) → counts_of k c w (Opened a id ∷ p) ≡ counts_of k c w p
opened_counts k c w a id p = grind (arith, nat_tests)

module _ {B : Type 0} (keeps : B → List Piece → Type 0) (capacity : B → ℕ) (k : Config) (c : ℕ) (side : CpuState B) where
  -- it shows the CPU's own list where it shows the list of all
  pub own_list : (h : List Deed) → ShowsList keeps capacity k c h side → ShowsList keeps capacity k c (part (CpuActor c) h) side
  own_list h was = record {
    parts = subst (λ (x : OwnState). ShowsOwnState (IsFilledWith keeps capacity) k x (parts_of_side side)) (sym (side_part c h)) was.parts;
    counted = was.counted ∙ sym (counts_alike k c side.counts.worn (part (CpuActor c) h) h (reads k c h).apart);
  }

  -- another's deed
  other_list : (d : Deed) (h : List Deed) → same_actor (CpuActor c) (author d h) ≡ false → ShowsList keeps capacity k c h side → ShowsList keeps capacity k c (d ∷ h) side
  other_list d h other was =
      let same : own_side c (d ∷ h) ≡ own_side c h = sym (side_part c (d ∷ h)) ∙ (rw other refl ∙ side_part c h) in
      record {
        parts = subst (λ (x : OwnState). ShowsOwnState (IsFilledWith keeps capacity) k x (parts_of_side side)) (sym same) was.parts;
        counted = was.counted ∙ sym (counts_alike k c side.counts.worn (d ∷ h) h (apart_other k c d h other));
      }

module _ {S B : Type 0} (has : B → S → List Piece → Type 0) (capacity : B → ℕ) (schema : S) (k : Config) (c : ℕ) (h : List Deed) (own : Cpu B) (was : ShowsCpu has capacity schema k c h own) where
  -- the CPU's own deed, but a Seal: its side shows it, and the stream is that of the longer list
  pub own_deed : (d : Deed) (side : CpuState B) (rs : List Record) → seals_now c d ≡ false → ShowsList (λ b. has b schema) capacity k c (d ∷ h) side
      → side.counts.worn ≡ own.side.counts.worn → rs ≡ stream c (d ∷ h) → ShowsCpu has capacity schema k c (d ∷ h) (record own { side = side; accepted = rs })
  own_deed d side rs unsealed shows worn accepts = grind (arith, nat_tests)

  -- another's deed
  pub other_deed : (d : Deed) → same_actor (CpuActor c) (author d h) ≡ false → ShowsCpu has capacity schema k c (d ∷ h) own
  other_deed d other = record {
    side = other_list (λ b. has b schema) capacity k c own.side d h other was.side;
    worn = was.worn;
    few_worn = was.few_worn;
    second = subst (λ bs. HasRecords has capacity schema k.bufsize (contents (first_or_empty bs).offers) own.second) (sym (batches_other c d h other)) was.second;
    accepted = was.accepted ∙ ap (λ os. reverse (contents os)) (sym (accepted_other c d h other));
    took = was.took ∙ ap (λ bs. batch_records (take own.progress.takes (reverse bs))) (sym (batches_other c d h other));
    sealed_drops = was.sealed_drops ∙ ap (λ bs. (first_or_empty bs).drops) (sym (batches_other c d h other));
  }

  -- a slot given out
  pub opening : (a : ℕ) (id : Speculation) → ShowsCpu has capacity schema k c (Opened a id ∷ h) own
  opening a id = grind (arith, nat_tests, quiet_shown, opened_counts)

  -- a slot released
  pub releasing : (s : ℕ) → ShowsCpu has capacity schema k c (Release s ∷ h) own
  releasing s = grind (arith, nat_tests, quiet_shown, released_counts)

  -- a batch sealed, of whose CPU no more were taken than were sealed before
  pub sealing : (side : CpuState B) (b : B) (n : ℕ) → ShowsList (λ x. has x schema) capacity k c (Seal c ∷ h) side → side.counts.worn ≡ own.side.counts.worn → b ≡ own.side.active → n ≡ own.side.drops
      → own.progress.takes ≤ seals c h → ShowsCpu has capacity schema k c (Seal c ∷ h) (record own { side = side; second = b; sealed_drops = n })
  sealing side b n shows worn sealed drops takes = record {
    side = shows;
    worn = worn ∙ was.worn;
    few_worn = was.few_worn;
    second = subst (HasRecords has capacity schema k.bufsize (contents (first_or_empty (batches c (Seal c ∷ h))).offers)) (sym sealed)
        (record { sized = was.side.parts.principal.sized; pieces = active c h; has_pieces = was.side.parts.principal.has; are = rw (number_is_itself c) (active_grows c h) });
    accepted = was.accepted;
    took = rw (number_is_itself c) (was.took ∙ ap batch_records (sym taken_before));
    sealed_drops = rw (number_is_itself c) (drops ∙ was.side.parts.drops);
  }
    where
      taken_before : take own.progress.takes (reverse (growing c h ∷ batches c h)) ≡ take own.progress.takes (reverse (batches c h))
      taken_before =
          let count = length-reverse (batches c h) ∙ batches_sealed c h in
          let within : own.progress.takes ≤ length (reverse (batches c h)) = omega arith in
          ap (take own.progress.takes) (reverse-append (growing c h ∷ []) (batches c h)) ∙ take-append-le own.progress.takes (reverse (batches c h)) (growing c h ∷ []) within

  -- whatever its progress is next
  pub calling : (me : CpuProgress) → me.takes ≡ own.progress.takes → me.worn ≡ own.progress.worn → ShowsCpu has capacity schema k c h (record own { progress = me })
  calling me takes worn = grind (arith, nat_tests)

  -- a batch more was taken
  pub taking : (me : CpuProgress) (rs : List Record) → rs ≡ batch_records (take me.takes (reverse (batches c h))) → me.worn ≡ own.progress.worn
      → ShowsCpu has capacity schema k c h (record own { progress = me; taken = rs })
  taking me rs took worn = grind (arith, nat_tests)

  -- a step of the CPU, which counts the worn calls in both places
  pub moving : (counts : Counts) (me : CpuProgress) → counts ≡ record own.side.counts { worn = me.worn } → me.takes ≡ own.progress.takes → me.worn < 2 ^ 64
      → ShowsCpu has capacity schema k c h (record own { progress = me; side = record own.side { counts = counts } })
  moving counts me is takes few = grind (arith, nat_tests)

-- How many batches a CPU's own list seals, and the list after one Seal more.
use Rattle.std.proofs.Common.{◌≡◌, ℕ, ◌+◌, ◌<◌, ◌≤◌, ◌^◌, Bool, false, List, [], ◌∷◌, ◌++◌, length, reverse, if◌then◌else◌, Option, None, refl, sym, ap, ◌∙◌, subst, arith, add-zero}
use Rattle.std.proofs.lemmas.Bool.Decides.{nat_tests}
use Rattle.dspec_cpu.specs.Words.{Record, Stored, CpuKnows, scan, active, seals, IsOwn, is_fill, known, counts_of, HasList, IsReady, batches_of, HasSized, AreSealed, waiting, batch_of, buffers_of}
use Rattle.dspec_cpu.specs.Words.{Shape, Batch, Config, Deed, Seal, CpuSeat}
use Rattle.dspec_cpu.specs.declared.parts.CpuParts.{CpuParts as Cpu}
use Rattle.dspec_deeds.proofs.{OwnReads.apart_bare, TestLemmas.number_is_itself, TestLemmas.same_number}
use Rattle.dspec_table.specs.declared.seats.Words.{Words}
use Rattle.dspec_cpu_state.proofs.Tallies.{same_counts}
use Rattle.dspec_cpu.proofs.Limits.{limits}

sealed_counts : (k : Config) (c w : ℕ) (p : List Deed) → counts_of k c w (Seal c ∷ p) ≡ counts_of k c w p
sealed_counts k c w p = same_counts (add-zero _) (add-zero _) (add-zero _) (add-zero _) (add-zero _) (add-zero _) (add-zero _) (add-zero _) (add-zero _) (add-zero _) (add-zero _) refl

module _ (shape : ℕ → Option Shape) (accepted : Record → Bool) (text : Record → List ℕ) where
  -- there are as many batches as Seals, and no more than the most calls
  abbrev IsTold : Config → ℕ → List Batch → Type 0
  IsTold k n bs = (length bs ≡ n) × (n ≤ k.max_calls)

  on : (k : Config) (n : ℕ) (bs : List Batch) → IsTold k n bs → IsTold k (n + 0) bs
  on k n bs t = subst (λ m. IsTold k m bs) (sym (add-zero n)) t

  pub sealed_count : (k : Config) (c : ℕ) (p : List Deed) (bs : List Batch) → IsOwn shape k c p → AreSealed shape accepted text k c p bs → IsTold k (seals c p) bs
  sealed_count k c [] bs own x = (ap length x, omega arith)
  sealed_count k c (Seal a ∷ p) bs own x = grind (arith, nat_tests, sealed_count k c p x.1 own.0 x.4, same_number)
  sealed_count k c (d ∷ p) bs own x = on k (seals c p) bs (sealed_count k c p bs own.0 x)

  module _ {S : Type 0} (words : Words) (cpu : Cpu S) (ready : IsReady shape accepted text words cpu) where
    pub batch_count : length (batches_of cpu) ≡ cpu.side.seals
    batch_count = (sealed_count cpu.config cpu.cpu ready.steady.list (batches_of cpu) ready.steady.listed.shown.legal ready.steady.listed.shown.sealed).0 ∙ sym ready.steady.listed.shown.side.sealed

    pub most_calls : cpu.config.max_calls ≤ 2 ^ 62
    most_calls = (limits cpu.config ready.steady.checked).calls

    pub few_batches : length (batches_of cpu) ≤ 2 ^ 62
    few_batches =
        let told = sealed_count cpu.config cpu.cpu ready.steady.list (batches_of cpu) ready.steady.listed.shown.legal ready.steady.listed.shown.sealed in
        let count = told.0 in
        let most = told.1 in
        let all = most_calls in
        omega arith

    module _ (seat : CpuSeat) (same : (known seat).own ≡ (known cpu.seat).own) (p : List Deed) (had : HasList shape accepted text cpu p) where
      -- the batches are where they were, or one of them went into the ring
      pub kept_list : (end : CpuKnows) (held_back : Option Batch) (spare : Option Stored) → waiting held_back ++ reverse end.handed ≡ batches_of cpu
          → HasList shape accepted text (record cpu { seat = seat; end = end; held_back = held_back; spare = spare }) p
      kept_list end held_back spare batches = record {
        own = had.own ∙ sym same;
        shown = record {
          legal = had.shown.legal;
          side = had.shown.side;
          sealed = subst (AreSealed shape accepted text cpu.config cpu.cpu p) (sym batches) had.shown.sealed;
          counted = had.shown.counted;
        };
      }

      -- the active buffer is the latest batch, and an empty one is active
      pub sealed_list : (end : CpuKnows) (held_back : Option Batch) (next : Stored) → waiting held_back ++ reverse end.handed ≡ batch_of cpu.cpu (buffers_of cpu) ∷ batches_of cpu
          → HasSized shape accepted text cpu.config.bufsize [] next → cpu.side.seals < cpu.config.max_calls → is_fill cpu.config.policy ≡ false
          → HasList shape accepted text (record cpu
          { seat = seat; end = end; held_back = held_back; spare = None; side = record cpu.side { active = next; drops = 0; seals = cpu.side.seals + 1 } }) (Seal cpu.cpu ∷ p)
      sealed_list end held_back next batches empty lt unfilled =
          let itself = number_is_itself cpu.cpu in
          let side = had.shown.side in
          let idle : scan cpu.config cpu.cpu p ≡ 0 = (apart_bare cpu.config cpu.cpu p).scanning ∙ (ap (scan cpu.config cpu.cpu) had.own ∙ ready.steady.idle) in
          record {
            own = had.own ∙ sym same;
            shown = record {
              legal = (had.shown.legal, itself, (subst (λ n. n < cpu.config.max_calls) side.sealed lt, idle, unfilled));
              side = record {
                called = side.called ∙ sym (add-zero _);
                sealed = ap (λ n. n + 1) side.sealed ∙ ap (λ b. seals cpu.cpu p + (if b then 1 else 0)) (sym itself);
                missed = side.missed;
                ack_count = side.ack_count;
                acks = side.acks;
                mark_count = side.mark_count;
                marks = side.marks;
                specdrop_count = side.specdrop_count;
                specdrops = side.specdrops;
                buffer_count = side.buffer_count;
                speculative = side.speculative;
                principal = subst (λ ps. HasSized shape accepted text cpu.config.bufsize ps next) (ap (λ b. if b then [] else active cpu.cpu p) (sym itself)) empty;
                drops = rw itself refl;
              };
              sealed = (batch_of cpu.cpu (buffers_of cpu), batches_of cpu, batches, record { of_cpu = refl; drops = side.drops; buffer = side.principal }, had.shown.sealed);
              counted = had.shown.counted ∙ sym (sealed_counts cpu.config cpu.cpu cpu.side.counts.worn p);
            };
          }

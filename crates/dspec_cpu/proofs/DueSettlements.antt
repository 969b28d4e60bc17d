-- The settlement of one slot that is due: the step, the list and the CPU after it.
use Rattle.std.proofs.Common.{arith, ◌≡◌, ℕ, ◌≤◌, ◌<◌, ◌^◌, Bool, true, List, [], ◌∷◌, Option, refl, sym, ap, ◌∙◌, subst, inl}
use Rattle.std.proofs.lemmas.Bool.Decides.{nat_tests}
use Rattle.dspec_cpu.specs.Words.{Record, Stored, Speculation, SlotState, settle_at, is_granted, ack, word_at, settled_fate, MaySettle, known, IsAt, cpu_of, number_of, ack_place, Entered}
use Rattle.dspec_cpu.specs.Words.{SettledWord, rests, steps, AreShown, HasList, IsReady, side_of, batches_of, Stands, BlockSettled, CanSettle, DueSettled, IsDueAt, IsPartOf, shown_at, Shape, Config}
use Rattle.dspec_cpu.specs.Words.{Deed, Settle, Doing, View, CpuSeat, CpuState}
use Rattle.dspec_cpu.specs.declared.parts.CpuParts.{CpuParts as Cpu}
use Rattle.dspec_deeds.specs.declared.calls.CpuOp.TheVariants as op
use Rattle.dspec_deeds.proofs.OwnReads.{apart_bare}
use Rattle.dspec_table.specs.declared.seats.Words.{Words}
use Rattle.dspec_table.proofs.OwnReading.{scan_part}
use Rattle.dspec_cpu.proofs.{Ready.few, Ready.holder, Ready.number, Ready.ready_after, Ready.set_up_is, Ready.stands_after, Settlements.can_settle}

module _ (shape : ℕ → Option Shape) (accepted : Record → Bool) (text : Record → List ℕ) {S : Type 0} (words : Words) (cpu : Cpu S)
    (ready : IsReady shape accepted text words cpu) (slot : ℕ) (low : 1 ≤ slot) (high : slot ≤ cpu.config.nspec)
    (word : SlotState) (due : IsDueAt cpu.cpu slot word (known cpu.seat)) (small : cpu.side.calls < 2 ^ 64) where
  abbrev v : View
  v = known cpu.seat

  abbrev pub id : Speculation
  id = shown_at slot word

  -- every list that the CPU has is its part of what its seat has seen
  its_part : (p : List Deed) → HasList shape accepted text cpu p → IsPartOf cpu.config cpu.cpu v.seen p
  its_part p had = grind (arith, nat_tests, scan_part)

  granted : (p : List Deed) → HasList shape accepted text cpu p → is_granted (settle_at word (ack cpu.cpu slot p)) ≡ true
  granted p had = ap (λ n. is_granted (settle_at word n)) ((apart_bare cpu.config cpu.cpu p).acks slot ∙ ap (ack cpu.cpu slot) had.own) ∙ ap is_granted due.granted

  pub can : (p : List Deed) → HasList shape accepted text cpu p → CanSettle shape accepted text cpu.config cpu.cpu cpu.side (batches_of cpu) id word.code p
  can p had = can_settle shape cpu.config cpu.cpu v.seen p (its_part p had) slot word due.here (granted p had) accepted text cpu.side (batches_of cpu)
      had.shown low high (few shape accepted text words cpu ready) small

  pub may_settle : (k : Config) (c i : ℕ) → k ≡ cpu.config → c ≡ cpu.cpu → i ≡ word.issue → MaySettle k v c record { issue = i; slot = slot }
  may_settle k c i config number issue = grind (arith, nat_tests, granted)

  module _ (own : Doing) (service : own.op ≡ op.Service) (last : CpuSeat) (i : ℕ) (i_is : i ≡ word.issue)
      (stored : SettledWord own record { issue = i; slot = slot } (word_at slot v.seen).code v (known last))
      (now : CpuState Stored) (block : (p : List Deed) → CanSettle shape accepted text cpu.config cpu.cpu cpu.side (batches_of cpu) id word.code p
      → BlockSettled shape accepted text cpu.config cpu.cpu now (batches_of cpu) id word.code own p) where
    abbrev pub new : Cpu S
    new = record cpu { seat = last; side = now }

    abbrev w : View
    w = known last

    abbrev deed : Deed
    deed = Settle cpu.cpu id (settled_fate word.code own.fits own.count)

    stores : SettledWord own id word.code v w
    stores = subst (λ (x : ℕ × SlotState). SettledWord own record { issue = x.0; slot = slot } x.1.code v w) (λ j. (i_is j, due.here j)) stored

    entered : Entered (ack_place v.config (number_of v.who) slot) v stores.0 (deed ∷ []) w
    entered = subst (λ n. Entered (ack_place v.config (number_of v.who) slot) v stores.0 (Settle n id (settled_fate word.code own.fits own.count) ∷ []) w)
        (number shape accepted text words cpu ready) stores.2

    stands : Stands cpu.config cpu.cpu v (deed ∷ []) w
    stands = stands_after cpu.config cpu.cpu v w stores.0 (deed ∷ []) (set_up_is shape accepted text words cpu ready) (holder shape accepted text words cpu ready) entered

    list_now : (p : List Deed) → HasList shape accepted text cpu p → HasList shape accepted text new (deed ∷ p)
    list_now p had =
        let done = block p (can p had) in
        record {
          own = ap (λ l. deed ∷ l) had.own ∙ sym stands.own;
          shown = subst (λ f. AreShown shape accepted text cpu.config cpu.cpu (side_of new) (batches_of cpu) now.counts (Settle cpu.cpu id f ∷ p)) (sym done.fate) done.shown;
        }

    pub ready_now : IsAt words last × (cpu_of last ≡ cpu_of cpu.seat) → IsReady shape accepted text words new
    ready_now at = ready_after shape accepted text words cpu ready new (deed ∷ []) refl refl at.0 at.1 stands ready.steady.idle refl ready.steady.spare ready.steady.few
        (deed ∷ ready.steady.list) (list_now ready.steady.list ready.steady.listed)

    pub due_settled : DueSettled cpu.cpu slot word (HasList shape accepted text cpu) v (HasList shape accepted text new) w
    due_settled = record {
      settles = deed ∷ [];
      after = (own, service, refl, stores);
      goes = steps w (deed ∷ []) (deed ∷ []) stores.0 rests stores.1 (inl entered) refl;
      list = list_now;
    }

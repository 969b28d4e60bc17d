-- A CPU after the deeds of a call that has ended.
use Rattle.std.proofs.Common.{◌≡◌, ℕ, Bool, false, true, List, [], ◌∷◌, ◌++◌, Option, None, if◌then◌else◌, refl, sym, ap, ◌∙◌}
use Rattle.dspec_cpu.specs.Words.{Record, Stored, HasPieces, scan, is_seal, CpuRow, is_of, bare, flight_after, known, IsAt, cpu_of, ShowsList, Goes, HasList, IsReady, IsShown, Stands, Shape, Deed}
use Rattle.dspec_cpu.specs.Words.{CpuSeat, CpuState}
use Rattle.dspec_cpu.specs.declared.parts.CpuParts.{CpuParts as Cpu}
use Rattle.dspec_table.specs.declared.seats.Words.{Words}
use Rattle.dspec_cpu.proofs.{Ready.ready_after, Shown.shows, Shown.shown_after}

module _ (shape : ℕ → Option Shape) (accepted : Record → Bool) (text : Record → List ℕ) {S : Type 0} (words : Words) (cpu : Cpu S) where
  -- the CPU can be called again, and did these deeds, which come in front of every list that it had
  pub record DeedsAfter (ds : List Deed) (new : Cpu S) : Type 0 where
    pub ready : IsReady shape accepted text words new
    pub did : Goes (known cpu.seat) ds (known new.seat)
    pub list : (p : List Deed) → HasList shape accepted text cpu p → HasList shape accepted text new (ds ++ p)

  module _ (ready : IsReady shape accepted text words cpu) (seat : CpuSeat) (at : IsAt words seat × (cpu_of seat ≡ cpu_of cpu.seat)) (now : CpuState Stored) where
    abbrev Shows : List Deed → CpuState Stored → Type 0
    Shows p side = ShowsList (HasPieces shape accepted text) (λ b. b.size) cpu.config cpu.cpu p side

    abbrev new : Cpu S
    new = record cpu { seat = seat; side = now }

    -- deeds that end their call, with no Seal among them
    pub deeds_after : (ds : List Deed) → Goes (known cpu.seat) ds (known seat) → Stands cpu.config cpu.cpu (known cpu.seat) ds (known seat)
        → ((p : List Deed) → bare (ds ++ p) ≡ ds ++ bare p) → scan cpu.config cpu.cpu (ds ++ (known cpu.seat).own) ≡ 0 → flight_after cpu.config (known cpu.seat).flight ds ≡ None
        → ((p : List Deed) → HasList shape accepted text cpu p → IsShown shape accepted text new (ds ++ p)) → DeedsAfter ds new
    deeds_after ds goes stands bared idle over shown =
        let list : (p : List Deed) → HasList shape accepted text cpu p → HasList shape accepted text new (ds ++ p) =
        λ p had. record { own = bared p ∙ (ap (λ l. ds ++ l) had.own ∙ sym stands.own); shown = shown p had } in
        record {
          ready = ready_after shape accepted text words cpu ready new ds refl refl at.0 at.1 stands idle over ready.steady.spare ready.steady.few (ds ++ ready.steady.list)
              (list ready.steady.list ready.steady.listed);
          did = goes;
          list = list;
        }

    -- one deed, which the side shows in front of each list
    pub one_after : (d : Deed) → Goes (known cpu.seat) (d ∷ []) (known seat) → Stands cpu.config cpu.cpu (known cpu.seat) (d ∷ []) (known seat)
        → is_seal d ≡ false → is_of cpu.cpu d ≡ true → scan cpu.config cpu.cpu (d ∷ (known cpu.seat).own) ≡ 0
        → flight_after cpu.config (known cpu.seat).flight (d ∷ []) ≡ None
        → ((p : List Deed) → HasList shape accepted text cpu p → Shows p cpu.side → CpuRow shape cpu.config p d × Shows (d ∷ p) now) → DeedsAfter (d ∷ []) new
    one_after d goes stands unsealed its idle over shown =
        deeds_after (d ∷ []) goes stands (λ p. ap (λ b. if b then bare p else d ∷ bare p) unsealed) idle over (λ p had.
        let there = shown p had (shows shape accepted text cpu.side p had.shown) in shown_after shape accepted text cpu.side p had.shown d unsealed its there.0 now there.1)

-- Cited by calls. What the close of a session does with what is left of a CPU, by which lists that has.
use Rattle.std.specs.Prelude.{ℕ, ◌≡◌, Bool, List, ◌++◌, reverse, Option}
use Rattle.dspec_cpu.specs.{Rests.CanCloseAfter, Rests.IsLegalPart, Rests.config_of_rest, Rests.number_of_rest, Rests.schema_of_rest, Rests.worn_of_rest, Sealed.AreSealed, Sealed.IsSealed}
use Rattle.dspec_cpu.specs.{Sealed.waiting, Settled.IsPartOf, Words.Outside.Record, Words.Outside.word_at, Words.Outside.report, Words.Outside.own_closed, Words.Outside.own_closed_slot}
use Rattle.dspec_cpu.specs.{Words.Outside.Shows, Words.Outside.Shape, Words.Outside.Batch, Words.Outside.Deed, Words.Outside.Report, declared.rest.CpuRest.CpuRest}

-- by which lists it has, where its end had handed on these batches, and the shapes of each schema's records
module _ {S : Type 0} (has : CpuRest S → List Batch → List Deed → Type 0) (shape_of : S → ℕ → Option Shape) where
  -- it has a list that is its part of one that the words show
  abbrev pub CanSettleAll : List ℕ → CpuRest S → Type 0
  CanSettleAll words rest =
      (handed : List Batch) × (p : List Deed) × (log : List Deed) × has rest handed p
      × Shows (config_of_rest rest) words log × IsPartOf (config_of_rest rest) (number_of_rest rest) log p

  -- each such list goes on by what is still to settle, slots upwards
  abbrev pub SettlesAll : List ℕ → CpuRest S → CpuRest S → Type 0
  SettlesAll words old new =
      (handed : List Batch) (p log : List Deed) → has old handed p
      → Shows (config_of_rest old) words log → IsPartOf (config_of_rest old) (number_of_rest old) log p
      → has new handed (own_closed (shape_of (schema_of_rest old)) (config_of_rest old) (λ s. word_at s log) (number_of_rest old) (config_of_rest old).nspec p)

  -- the same of one slot, the slots below being settled
  abbrev pub CanSettleSlot : ℕ → List ℕ → CpuRest S → Type 0
  CanSettleSlot slot words rest =
      (handed : List Batch) × (p : List Deed) × (log : List Deed) × (now : List Deed) × has rest handed p
      × CanCloseAfter (config_of_rest rest) (number_of_rest rest) slot words log now p

  abbrev pub SettlesSlot : ℕ → List ℕ → CpuRest S → CpuRest S → Type 0
  SettlesSlot slot words old new =
      (handed : List Batch) (p log now : List Deed) → has old handed p
      → CanCloseAfter (config_of_rest old) (number_of_rest old) slot words log now p
      → has new handed (own_closed_slot (shape_of (schema_of_rest old)) (config_of_rest old) (λ s. word_at s log) (number_of_rest old) slot p)

  -- it has a list that is the CPU's part of a legal one
  abbrev pub HasLegalList : CpuRest S → Type 0
  HasLegalList rest =
      (handed : List Batch) × (p : List Deed) × (g : List Deed) × has rest handed p
      × IsLegalPart (shape_of (schema_of_rest rest)) (config_of_rest rest) (number_of_rest rest) g p

  -- the report is that of each such list
  abbrev pub ReportsLists : CpuRest S → Report → Type 0
  ReportsLists rest answer =
      (handed : List Batch) (p g : List Deed) → has rest handed p
      → IsLegalPart (shape_of (schema_of_rest rest)) (config_of_rest rest) (number_of_rest rest) g p
      → answer ≡ report (config_of_rest rest) (number_of_rest rest) (worn_of_rest rest) p

  -- by which records each schema accepts, and their text
  module _ (accepted : S → Record → Bool) (text : S → Record → List ℕ) where
    -- the batches are those that each of its lists seals, and the last the one that the next Seal would make
    abbrev pub GivesBatches : CpuRest S → Option Batch → Batch → Type 0
    GivesBatches rest waits last =
        (handed : List Batch) (p : List Deed) → has rest handed p
        → AreSealed (shape_of (schema_of_rest rest)) (accepted (schema_of_rest rest)) (text (schema_of_rest rest))
        (config_of_rest rest) (number_of_rest rest) p (waiting waits ++ reverse handed)
        × IsSealed (shape_of (schema_of_rest rest)) (accepted (schema_of_rest rest)) (text (schema_of_rest rest))
        (config_of_rest rest) (number_of_rest rest) p last

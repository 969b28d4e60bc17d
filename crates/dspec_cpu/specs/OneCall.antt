-- Cited by calls. One call of a CPU: what it did, first in the words of the page, and what it kept.
use Rattle.std.specs.Prelude.{ℕ, ◌≡◌, ◌≤◌, ◌+◌, ◌*◌, ◌&&◌, ◌||◌, ◌↔◌, nat_le, Bool, true, false, List, length, Option, IsSome, IfSome, IfNone, IsTrue}
use Rattle.dspec_cpu.specs.{Between.cpu_block_fits, Called.called, Called.with_trace, Called.with_speculate, Called.with_decision, Called.with_speculation, Called.WithService, Calls.Decides}
use Rattle.dspec_cpu.specs.{Calls.Does, Calls.is_worn_decided, Calls.is_worn_spoken, Calls.is_worn_trace, Calls.spoken_deeds, Calls.traced_deeds, Keeping.CallLeaves, Lists.calls_of, Lists.config_of}
use Rattle.dspec_cpu.specs.{Lists.end_of, Lists.held_back_of, Lists.number_in, Lists.schema_of, Lists.seat_of, Lists.worn_of, Scans.Opens, Scans.is_worn_opening, Serving.Serves}
use Rattle.dspec_cpu.specs.{Stops.is_stopped_decided, Stops.is_stopped_spoken, Stops.is_stopped_trace, Switching.buffers_of, Switching.most_moves, Touching.Touches, Touching.last_looked}
use Rattle.dspec_cpu.specs.{Touching.of_activity, Touching.of_service, Touching.of_slot, Touching.of_slots, Words.Outside.Record, Words.Outside.Speculation, Words.Outside.By, Words.Outside.commit}
use Rattle.dspec_cpu.specs.{Words.Outside.discard, Words.Outside.service, Words.Outside.is_stopped_opening, Words.Outside.known, Words.Outside.Shape, Words.Outside.Decided, Words.Outside.Opening}
use Rattle.dspec_cpu.specs.{Words.Outside.Served, Words.Outside.Spoken, Words.Outside.Traced, Words.Outside.DecideFate, Words.Outside.Deed, Words.Outside.Commit, Words.Outside.Discard}
use Rattle.dspec_cpu.specs.{Words.Outside.Settle, declared.parts.CpuParts.CpuParts as Cpu}
use Rattle.dspec_deeds.specs.declared.calls.Decided.TheVariants as decided

-- the deed of a decision, by the call that made it
abbrev pub decision_deed : By → ℕ → Speculation → DecideFate → Deed
decision_deed commit = Commit
decision_deed discard = Discard
decision_deed service = Settle

-- the record of an enabling with these values
abbrev pub with_values : ℕ → ℕ → List ℕ → Record
with_values epid stamp values = record { epid = epid; stamp = stamp; values = values }

-- the CPU made all its calls
abbrev pub made_all_calls : {S : Type 0} → Cpu S → Bool
made_all_calls cpu = nat_le (config_of cpu).max_calls (calls_of cpu)

-- the answer tells of a block that was lost
abbrev pub is_lost_block : Decided → Bool
is_lost_block (decided.Lost n) = true
is_lost_block a = false

-- by which lists each CPU has
module _ {S : Type 0} (has : Cpu S → List Deed → Type 0) where
  -- a record was traced
  pub record TracesOne (r : Record) (a : Traced) (old new : Cpu S) : Type 0 where
    pub tells : called new ≡ with_trace r a (called old)
    pub leaves : CallLeaves (is_worn_trace a) (is_stopped_trace a) 1 of_activity old new
    pub does : Does (traced_deeds (number_in old) r a) (has old) (known (seat_of old)) (has new) (known (seat_of new))

  -- a record was offered to a speculation
  pub record SpeculatesOne (id : Speculation) (r : Record) (a : Spoken) (old new : Cpu S) : Type 0 where
    pub tells : called new ≡ with_speculate id r a (called old)
    pub leaves : CallLeaves (is_worn_spoken a) (is_stopped_spoken a) 4 (of_slot (config_of old) id) old new
    pub does : Does (spoken_deeds (number_in old) id r a) (has old) (known (seat_of old)) (has new) (known (seat_of new))

  -- a speculation was asked for
  pub record OpensOne (a : Opening) (old new : Cpu S) : Type 0 where
    pub tells : called new ≡ with_speculation a (called old)
    pub leaves : CallLeaves (is_worn_opening a) (is_stopped_opening a) (1 + 2 * (config_of old).nspec) (of_slots (last_looked (config_of old).nspec a)) old new
    pub opens : Opens (config_of old) (number_in old) a (has old) (known (seat_of old)) (has new) (known (seat_of new))

  -- a speculation was committed or discarded
  pub record DecidesOne (b : By) (id : Speculation) (a : Decided) (old new : Cpu S) : Type 0 where
    pub tells : called new ≡ with_decision b id a (called old)
    pub leaves : CallLeaves (is_worn_decided a) (is_stopped_decided a) 5 (of_slot (config_of old) id) old new
    pub decides : Decides (decision_deed b (number_in old) id) id a (has old) (known (seat_of old)) (has new) (known (seat_of new))

  -- the CPU did what it owed
  pub record ServesOnce (a : Served) (old new : Cpu S) : Type 0 where
    pub tells : WithService a (called old) (called new)
    pub wears : worn_of new ≡ worn_of old
    pub bounded : (known (seat_of new)).steps ≤ (known (seat_of old)).steps + 1 + 2 * (config_of old).nspec
    pub touches : Touches (of_service (config_of old) (number_in old)) (known (seat_of old)) (known (seat_of new))
    pub moves : (end_of new).moves ≤ (end_of old).moves + most_moves (held_back_of old)
    pub serves : Serves (config_of old) (number_in old) a (has old) (known (seat_of old)) (buffers_of old) (has new) (known (seat_of new)) (buffers_of new)

  -- by which records each schema accepts
  module _ (accepted : S → Record → Bool) where
    -- there are eight values at the most, and the CPU's schema accepts the record with them
    abbrev pub takes_values : Cpu S → ℕ → ℕ → List ℕ → Bool
    takes_values cpu epid stamp values = nat_le (length values) 8 && accepted (schema_of cpu) (with_values epid stamp values)

    -- a record was traced by its values; where there is no answer, nothing was done
    pub record RecordsValues (epid stamp : ℕ) (values : List ℕ) (a : Option Traced) (old new : Cpu S) : Type 0 where
      pub due : IsSome a ↔ IsTrue (takes_values old epid stamp values)
      pub refused : IfNone a (new ≡ old)
      pub one : IfSome a (λ t. TracesOne (with_values epid stamp values) t old new)

    -- a record was offered by its values; where there is no answer, nothing was done
    pub record OffersValues (id : Speculation) (epid stamp : ℕ) (values : List ℕ) (a : Option Spoken) (old new : Cpu S) : Type 0 where
      pub due : IsSome a ↔ IsTrue (takes_values old epid stamp values)
      pub refused : IfNone a (new ≡ old)
      pub one : IfSome a (λ s. SpeculatesOne id (with_values epid stamp values) s old new)

  -- by the shapes of each schema's records
  module _ (shape_of : S → ℕ → Option Shape) where
    -- A speculation was committed, but not where that would lose the CPU's block: there is an answer where the call is worn or the
    -- principal buffer would take the block, by each list that the CPU has, and only there. It never tells of a lost block. Where
    -- there is none, nothing was done.
    pub record CommitsIfRoom (id : Speculation) (a : Option Decided) (old new : Cpu S) : Type 0 where
      pub due : (p : List Deed) → has old p → IsSome a ↔ IsTrue (made_all_calls old || cpu_block_fits (shape_of (schema_of old)) old id p)
      pub refused : IfNone a (new ≡ old)
      pub kept : IfSome a (λ d. is_lost_block d ≡ false)
      pub one : IfSome a (λ d. DecidesOne commit id d old new)

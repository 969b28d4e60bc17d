-- Serves proofs. A call of a CPU of a session by its kind: why none is made, what one answered and did, and what else of the session moved.
use Rattle.std.specs.Prelude.{ℕ, ◌≡◌, Bool, nat_lt, List, Option, Some, None, if◌then◌else◌, slice_get, slice_set}
use Rattle.dspec_replay.specs.Words.Outside.{Record, record_passes, commit, discard, number_in, TracesOne, SpeculatesOne, OpensOne, DecidesOne, ServesOnce, Answer, CpuOp, Deed, Cpu, Session}
use Rattle.dspec_replay.specs.declared.whole_calls.Uncalled.{Uncalled, TheVariants.BadRecord, TheVariants.NoSuchCpu}
use Rattle.dspec_deeds.specs.declared.calls.Answer.TheVariants as answer
use Rattle.dspec_deeds.specs.declared.calls.CpuOp.TheVariants as op

-- the refusal that is due, if one is: the CPU is looked for before the record is looked at
abbrev pub uncalled : (Record → Bool) → ℕ → ℕ → CpuOp → Option Uncalled
uncalled accepted cpus c o = if nat_lt c cpus then (if record_passes accepted o then None else Some BadRecord) else Some NoSuchCpu

module _ {S : Type 0} (has : Cpu S → List Deed → Type 0) where
  -- the call answered so, as one of its kind, and did what that answer tells
  abbrev pub Calls : CpuOp → Answer → Cpu S → Cpu S → Type 0
  Calls (op.Trace r) (answer.Traced a) old new = TracesOne has r a old new
  Calls op.Speculation (answer.Opening a) old new = OpensOne has a old new
  Calls (op.Speculate id r) (answer.Spoken a) old new = SpeculatesOne has id r a old new
  Calls (op.Commit id) (answer.Decided a) old new = DecidesOne has commit id a old new
  Calls (op.Discard id) (answer.Decided a) old new = DecidesOne has discard id a old new
  Calls op.Service (answer.Served a) old new = ServesOnce has a old new
  Calls o a old new = ⊥

  -- the CPU of this number made the call, and nothing else of the session moved
  pub record IsCalled (c : ℕ) (o : CpuOp) (a : Answer) (old new : Session S) : Type 0 where
    pub was : Cpu S
    pub now : Cpu S
    pub there : slice_get old.cpus.items c ≡ Some was
    pub number : number_in was ≡ c
    pub calls : Calls o a was now
    pub cpus : new.cpus.items ≡ slice_set old.cpus.items c now
    pub shared : new.shared ≡ old.shared
    pub consumer : new.consumer ≡ old.consumer

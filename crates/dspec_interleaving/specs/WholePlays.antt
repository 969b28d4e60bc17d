-- Serves proofs. A schedule of whole calls: its turns, and what it answers.
use Rattle.std.specs.Prelude.{◌≡◌, ℕ, Bool, true, List, [], ◌∷◌, Option}
use Rattle.dspec_interleaving.specs.{Calls.record_passes, Coherent.PlayState, Plays.EndedCall, Whole.Call, Whole.of_cpu, Whole.of_consumer, Whole.once_called, Whole.whole_answer}
use Rattle.dspec_interleaving.specs.{Words.Outside.Shape, Words.Outside.Record, Words.Outside.Actor, Words.Outside.Op, Words.Outside.Turn, Words.Outside.RunCpu, Words.Outside.RunConsumer}
use Rattle.dspec_deeds.specs.declared.calls.Actor.TheVariants as actor
use Rattle.dspec_deeds.specs.declared.calls.Op.TheVariants as op

-- the turn that begins a call and runs it to its end
abbrev pub turn_of : Call → Turn
turn_of (of_cpu c o) = RunCpu c o
turn_of (of_consumer o) = RunConsumer o

abbrev pub actor_of : Call → Actor
actor_of (of_cpu c o) = actor.Cpu c
actor_of (of_consumer o) = actor.Consumer

abbrev pub operation_of : Call → Op
operation_of (of_cpu c o) = op.Cpu o
operation_of (of_consumer o) = op.Consumer o

-- the record of the call, if it has one, passes the test
abbrev pub HasAcceptedRecord : (Record → Bool) → Call → Type 0
HasAcceptedRecord accepts (of_cpu c o) = record_passes accepts o ≡ true
HasAcceptedRecord accepts (of_consumer o) = Unit {0}

abbrev pub AreAccepted : (Record → Bool) → List Call → Type 0
AreAccepted accepts [] = Unit {0}
AreAccepted accepts (x ∷ xs) = HasAcceptedRecord accepts x × AreAccepted accepts xs

-- whole calls with their answers, the first at the head
abbrev pub all_ended : (ℕ → Option Shape) → List Call → PlayState → List EndedCall
all_ended shape [] st = []
all_ended shape (x ∷ xs) st = (actor_of x, operation_of x, whole_answer shape x st) ∷ all_ended shape xs (once_called shape x st)

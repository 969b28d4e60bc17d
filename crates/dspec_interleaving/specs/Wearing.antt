-- Serves proofs. Which calls are answered Worn: those of a CPU that has entered as many calls as it may make.
use Rattle.std.specs.Prelude.{ℕ, ◌≡◌, ◌+◌, nat_le, Bool, true, false, not, ◌&&◌, List, [], ◌∷◌, if◌then◌else◌, Option, Some, None}
use Rattle.dspec_interleaving.specs.{Plays.EndedCall, Plays.is_by, Plays.is_worn_answer, Words.Outside.Config, Words.Outside.Actor, Words.Outside.Answer, Words.Outside.Op}
use Rattle.dspec_interleaving.specs.{declared.flight.CallPlace.CallPlace}
use Rattle.dspec_deeds.specs.declared.calls.Actor.TheVariants as actor
use Rattle.dspec_deeds.specs.declared.calls.CpuOp.TheVariants as cpu_op
use Rattle.dspec_deeds.specs.declared.calls.Op.TheVariants as op
use Rattle.dspec_interleaving.specs.declared.flight.CallPlace.TheVariants as cpu

-- a call that counts towards the most that a CPU makes: each of a CPU's but a service
abbrev pub is_counted : Op → Bool
is_counted (op.Cpu cpu_op.Service) = false
is_counted (op.Cpu o) = true
is_counted (op.Consumer o) = false

-- the next step is the first of such a call
abbrev pub is_first : Option CallPlace → Bool
is_first (Some (cpu.Begun o)) = is_counted (op.Cpu o)
is_first f = false

-- a step has answered Worn
abbrev pub is_told_worn : Option Answer → Bool
is_told_worn None = false
is_told_worn (Some a) = is_worn_answer a

-- a call that was answered so entered a deed that counts
abbrev pub enters_call : Op → Answer → Bool
enters_call o a = is_counted o && not (is_worn_answer a)

-- how many of the CPU's ended calls did
abbrev pub entered_calls : ℕ → List EndedCall → ℕ
entered_calls c [] = 0
entered_calls c (e ∷ es) = entered_calls c es + (if is_by c e.0 && enters_call e.1 e.2 then 1 else 0)

-- a call after these is worn
abbrev pub is_worn_after : Config → Actor → Op → List EndedCall → Bool
is_worn_after k (actor.Cpu c) o es = is_counted o && nat_le k.max_calls (entered_calls c es)
is_worn_after k actor.Consumer o es = false

-- of ended calls, the latest first, exactly those are answered Worn whose CPU had entered as many before as it may make
abbrev pub AreWornRightly : Config → List EndedCall → Type 0
AreWornRightly k [] = Unit {0}
AreWornRightly k (e ∷ es) = (is_worn_answer e.2 ≡ is_worn_after k e.0 e.1 es) × AreWornRightly k es

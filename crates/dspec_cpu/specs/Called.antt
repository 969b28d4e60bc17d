-- Believed. What a CPU's calls did, in the words of the page, and what one call more adds to it by its answer.
use Rattle.std.specs.Prelude.{ℕ, ◌≡◌, List, [], ◌∷◌, ◌++◌, length, map, if◌then◌else◌}
use Rattle.dspec_cpu.specs.{Calls.is_worn_decided, Calls.is_worn_spoken, Calls.is_worn_trace, Lists.number_in, Lists.seat_of, Lists.worn_of, Scans.is_worn_opening, Words.Outside.Record}
use Rattle.dspec_cpu.specs.{Words.Outside.Speculation, Words.Outside.did, Words.Outside.By, Words.Outside.service, Words.Outside.Did, Words.Outside.traced, Words.Outside.speculated}
use Rattle.dspec_cpu.specs.{Words.Outside.emptied, Words.Outside.known, Words.Outside.one_more_worn, Words.Outside.Decided, Words.Outside.Opening, Words.Outside.Served, Words.Outside.Spoken}
use Rattle.dspec_cpu.specs.{Words.Outside.Traced, Words.Outside.DecideFate, declared.parts.CpuParts.CpuParts as Cpu}
use Rattle.dspec_deeds.specs.declared.calls.Decided.TheVariants as decided
use Rattle.dspec_deeds.specs.declared.calls.Spoken.TheVariants as spoken
use Rattle.dspec_deeds.specs.declared.calls.Traced.TheVariants as answer
use Rattle.dspec_deeds.specs.declared.deed.DecideFate.TheVariants as decide_fate
use Rattle.dspec_deeds.specs.declared.deed.SpeculateFate.TheVariants as speculate_fate
use Rattle.dspec_deeds.specs.declared.deed.TraceFate.TheVariants as trace_fate

-- what a CPU's calls did, the latest first, and how many more were answered Worn, and did nothing
pub record CallsMade : Type 0 where
  pub done : List Did
  pub worn : ℕ

-- of a CPU that made no calls
abbrev pub no_calls : CallsMade
no_calls = record { done = []; worn = 0 }

-- of this CPU
abbrev pub called : {S : Type 0} → Cpu S → CallsMade
called cpu = record { done = did (number_in cpu) (known (seat_of cpu)).own; worn = worn_of cpu }

-- what a call of trace did that answered so
abbrev pub trace_did : Record → Traced → List Did
trace_did r answer.Worn = []
trace_did r answer.Kept = traced r trace_fate.Kept ∷ []
trace_did r answer.Dropped = traced r trace_fate.Dropped ∷ []
trace_did r answer.Stopped = traced r trace_fate.Stopped ∷ []

-- what a call of speculate did
abbrev pub speculate_did : Speculation → Record → Spoken → List Did
speculate_did id r spoken.Worn = []
speculate_did id r spoken.Kept = speculated id r speculate_fate.Kept ∷ []
speculate_did id r spoken.Dropped = speculated id r speculate_fate.Dropped ∷ []
speculate_did id r spoken.Void = speculated id r speculate_fate.Void ∷ []
speculate_did id r spoken.Stopped = speculated id r speculate_fate.Stopped ∷ []

-- what a call of commit or discard did
abbrev pub decision_did : By → Speculation → Decided → List Did
decision_did b id decided.Worn = []
decision_did b id (decided.Copied n) = emptied b id (decide_fate.Copied n) ∷ []
decision_did b id (decided.Lost n) = emptied b id (decide_fate.Lost n) ∷ []
decision_did b id (decided.Thrown n) = emptied b id (decide_fate.Thrown n) ∷ []
decision_did b id decided.Void = emptied b id decide_fate.Void ∷ []
decision_did b id decided.Stopped = emptied b id decide_fate.Stopped ∷ []

-- what a service, or the close, did of others' decisions
abbrev pub settled_did : List (Speculation × DecideFate) → List Did
settled_did ss = map (λ (s : Speculation × DecideFate). emptied service s.0 s.1) ss

-- one call more, with its answer
abbrev pub with_trace : Record → Traced → CallsMade → CallsMade
with_trace r a x = record { done = trace_did r a ++ x.done; worn = if is_worn_trace a then one_more_worn x.worn else x.worn }

abbrev pub with_speculate : Speculation → Record → Spoken → CallsMade → CallsMade
with_speculate id r a x = record { done = speculate_did id r a ++ x.done; worn = if is_worn_spoken a then one_more_worn x.worn else x.worn }

abbrev pub with_decision : By → Speculation → Decided → CallsMade → CallsMade
with_decision b id a x = record { done = decision_did b id a ++ x.done; worn = if is_worn_decided a then one_more_worn x.worn else x.worn }

-- a call of speculation touches no record
abbrev pub with_speculation : Opening → CallsMade → CallsMade
with_speculation a x = record { done = x.done; worn = if is_worn_opening a then one_more_worn x.worn else x.worn }

-- a service settles as many decisions of others as it answers, and is never Worn
pub record WithService (a : Served) (x y : CallsMade) : Type 0 where
  pub settled : List (Speculation × DecideFate)
  pub number : a.settled ≡ length settled
  pub after : y ≡ record { done = settled_did settled ++ x.done; worn = x.worn }

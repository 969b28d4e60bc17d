-- Cited by calls. Which call of a seat is in flight: a load of activity showed it that the session runs, and it hasn't ended.
use Rattle.std.specs.Prelude.{◌≡◌, ◌==◌, true, List, [], ◌∷◌, Option, Some, None, if◌then◌else◌}
use Rattle.dspec_table.specs.Words.Outside.{Config, CpuOp, Deed, Trace, Scan, Opened, Miss, Speculate, Commit, Discard}
use Rattle.dspec_table.specs.declared.rule.View.{View}
use Rattle.dspec_deeds.specs.declared.calls.CpuOp.TheVariants as op

-- the call that a deed is of; a settlement, a seal, a release and a stop are of none that a stop ends
abbrev pub call_of_deed : Deed → Option CpuOp
call_of_deed (Trace c r f) = Some (op.Trace r)
call_of_deed (Scan c running) = Some op.Speculation
call_of_deed (Opened c id) = Some op.Speculation
call_of_deed (Miss c s busy) = Some op.Speculation
call_of_deed (Speculate c id r f) = Some (op.Speculate id r)
call_of_deed (Commit c id f) = Some (op.Commit id)
call_of_deed (Discard c id f) = Some (op.Discard id)
call_of_deed d = None

abbrev pub IsOf : Option CpuOp → Option CpuOp → Type 0
IsOf flight None = Unit {0}
IsOf flight (Some o) = flight ≡ Some o

-- each of the deeds that is of a call is of the one in flight
abbrev pub AreOf : Option CpuOp → List Deed → Type 0
AreOf flight [] = Unit {0}
AreOf flight (d ∷ ds) = IsOf flight (call_of_deed d) × AreOf flight ds

-- what is in flight after a step: one that enters no deed leaves it, a call of speculation goes on up to a slot that it opens
-- or to the last, and after any other deed the call has ended
abbrev pub flight_after : Config → Option CpuOp → List Deed → Option CpuOp
flight_after k flight [] = flight
flight_after k flight (Scan c true ∷ ds) = Some op.Speculation
flight_after k flight (Miss c s busy ∷ ds) = if s == k.nspec then None else Some op.Speculation
flight_after k flight (d ∷ ds) = None

-- the seat, whose call is in flight
abbrev pub calling : CpuOp → View → View
calling o v = record v { flight = Some o }

use Rattle.std.proofs.Common.{◌≡◌, map, take}
use Rattle.dspec_ctf.proofs.checking.event_names.Given as goal

abbrev pub invariant-loop-event : goal.invariant-loop-event
invariant-loop-event l =
    map (λ name. name.now) l.names.items ≡ map (λ event. event.event.now) (take l.event-index l.given)

-- A scan is on its CPU's side, and leaves the words.
use Rattle.std.proofs.Common.{refl, rules}
use Rattle.dspec_core.proofs.OwnDeeds.{deed_room, own_shows, quiet_entered, same_worn}
use Rattle.dspec_core.proofs.machine.Machine.enter_scan.Goals as goal

pub scan-requires : goal.scan-requires
scan-requires g c =
    let room = deed_room c.requires.may c.index_mut-own.ensures.value c.in_ok-push.ensures.ok c.in_ok-push.ensures.countable in
    record { calls = room.call; counts = room.counts c.requires.few }

pub returns : goal.returns
returns g c =
    let was = own_shows c.requires.may c.index_mut-own.ensures.value in
    let e = quiet_entered c.requires.may c.index_mut-own.ensures.value c.in_ok-push.ensures.ok (refl, refl, refl) was.accepted
    (c.scan.ensures.shows _ _ _ _ was.side) (same_worn c.scan.ensures.rest) (λ t. refl) in
    record { shown = e.shown; entered = e.entered; refused = search rules }

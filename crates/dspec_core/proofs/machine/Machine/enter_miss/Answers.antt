-- A missed slot is on its CPU's side, and leaves the words.
use Rattle.std.proofs.Common.{refl, rules}
use Rattle.dspec_core.proofs.OwnDeeds.{deed_room, own_shows, quiet_entered, same_worn}
use Rattle.dspec_core.proofs.machine.Machine.enter_miss.Goals as goal

pub miss-requires : goal.miss-requires
miss-requires g c =
    record { counts = (deed_room c.requires.may c.index_mut-own.ensures.value c.in_ok-push.ensures.ok c.in_ok-push.ensures.countable).counts c.requires.few }

pub returns : goal.returns
returns g c =
    let was = own_shows c.requires.may c.index_mut-own.ensures.value in
    let e = quiet_entered c.requires.may c.index_mut-own.ensures.value c.in_ok-push.ensures.ok (refl, refl, refl) was.accepted
    (c.miss.ensures.shows _ _ _ was.side) (same_worn c.miss.ensures.rest) (λ t. refl) in
    record { shown = e.shown; entered = e.entered; refused = search rules }

use Rattle.std.proofs.Common.{◌+◌, ◌≤◌, vec_len}
use Rattle.std.specs.Prelude.{vec_capacity}
use Rattle.dspec_session.proofs.{Fours.all_free, Fours.four_pushed, Fours.has_place, Fours.one_less, demonstration.team.put_all.Goals.After-put, demonstration.team.put_all.Goals.After-put-2}
use Rattle.dspec_session.proofs.demonstration.team.put_all.Goals as goal

-- with each put one place less is free
three_free : (c : After-put) → 3 + vec_len c.put.new.cpus ≤ vec_capacity c.put.new.cpus
three_free c =
    let at = c.args.cpus.now in
    one_less _ _ _ _ 3 (all_free at.items (vec_len at) (vec_capacity at) at.ok.0 c.requires.none c.requires.room) c.put.ensures.len c.put.ensures.capacity

two_free : (c : After-put-2) → 2 + vec_len c.put-2.new.cpus ≤ vec_capacity c.put-2.new.cpus
two_free c = one_less _ _ _ _ 2 (three_free c.before.before) c.put-2.ensures.len c.put-2.ensures.capacity

pub put-requires : goal.put-requires
put-requires c =
    let at = c.args.cpus.now in
    has_place (vec_len at) (vec_capacity at) 3 (all_free at.items (vec_len at) (vec_capacity at) at.ok.0 c.requires.none c.requires.room)

pub put-requires-2 : goal.put-requires-2
put-requires-2 c = has_place _ _ 2 (three_free (goal.at.put-requires-2 c).After-put)

pub put-requires-3 : goal.put-requires-3
put-requires-3 c = has_place _ _ 1 (two_free (goal.at.put-requires-3 c).After-put-2)

pub put-requires-4 : goal.put-requires-4
put-requires-4 c = has_place _ _ 0 (one_less _ _ _ _ 1 (two_free (goal.at.put-requires-4 c).After-put-2) c.put-3.ensures.len c.put-3.ensures.capacity)

pub returns : goal.returns
returns c =
    four_pushed c.args.cpus.now.items c.put.new.cpus.items c.put-2.new.cpus.items c.put-3.new.cpus.items c.put-4.new.cpus.items c.args.first c.args.second c.args.third c.args.fourth
    c.requires.none c.put.ensures.items c.put-2.ensures.items c.put-3.ensures.items c.put-4.ensures.items

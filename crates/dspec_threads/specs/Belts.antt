-- Cited by calls. What went over a belt, by its ends.
use Rattle.std.specs.Prelude.{ℕ, List}
use Rattle.rtrb.specs.Ring.{known_free, known_items, received, sent}
use Rattle.dspec_threads.specs.Words.Outside.{id_given, popped_from, pushed_into, Ring, Handed, Path}
use Rattle.dspec_threads.specs.declared.ends.{Giver.Giver, Taker.Taker}

-- a path as a word
abbrev pub handed_of : Path → Handed
handed_of p = record { id = id_given p.opening }

-- what this end gave so far, the oldest first
abbrev pub given_by : Giver → List Handed
given_by g = sent g.going

-- onto which belt: the end that takes from it has the same
abbrev pub given_onto : Giver → Ring
given_onto g = pushed_into g.going

-- how many places of the belt this end knows to be free
abbrev pub room_of_belt : Giver → ℕ
room_of_belt g = known_free g.going

-- what this end took so far, the oldest first
abbrev pub taken_by : Taker → List Handed
taken_by t = received t.coming

abbrev pub taken_from_belt : Taker → Ring
taken_from_belt t = popped_from t.coming

-- what this end knows to be on the belt: it comes next
abbrev pub coming_to : Taker → List Handed
coming_to t = known_items t.coming

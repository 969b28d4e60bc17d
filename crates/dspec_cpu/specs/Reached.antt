-- Serves proofs. What stands after the steps of a call.
use Rattle.std.specs.Prelude.{ℕ, ◌≡◌, ◌≤◌, ◌+◌, true, false, List, ◌++◌}
use Rattle.dspec_cpu.specs.{Calls.Goes, Reaching.IsPresentAt, Reaching.act_of, Reaching.act_reached, Reaching.is_reached, Reaching.reached_deeds, Reaching.releases_next, Reaching.turns}
use Rattle.dspec_cpu.specs.{Stops.StopsWhereMet, Stops.is_stopped_reach, Touching.Touches, Touching.of_slot, Words.Outside.Speculation, Words.Outside.SlotState, Words.Outside.in_range}
use Rattle.dspec_cpu.specs.{Words.Outside.owed, Words.Outside.part, Words.Outside.IsSound, Words.Outside.flight_after, Words.Outside.Config, Words.Outside.CpuActor, Words.Outside.Deed}
use Rattle.dspec_cpu.specs.{Words.Outside.View, Words.Outside.Doing, declared.reaching.Reach.Reach}

-- after the steps of a call that entered these deeds: what the seat has seen is legal, its list is its part of that, and in
-- flight is what the deeds leave
pub record Stands (k : Config) (c : ℕ) (v : View) (ds : List Deed) (w : View) : Type 0 where
  pub sound : IsSound k w.seen
  pub part_is : part (CpuActor c) w.seen ≡ w.own
  pub own : w.own ≡ ds ++ v.own
  pub config : w.config ≡ v.config
  pub who : w.who ≡ v.who
  pub rests : owed w.seen ≡ 0
  pub flight : w.flight ≡ flight_after k v.flight ds

-- a call on an identifier came so far
pub record Reached (k : Config) (c : ℕ) (doing : Doing) (id : Speculation) (v : View) (r : Reach) (w : View) : Type 0 where
  pub goes : Goes v (reached_deeds c doing doing.op r) w
  pub stands : Stands k c v (reached_deeds c doing doing.op r) w
  pub stops : StopsWhereMet v false (is_stopped_reach r) w
  pub bounded : w.steps + releases_next (act_reached r) ≤ v.steps + 1 + turns doing.op
  pub touches : Touches (of_slot k id) v w
  pub acts : is_reached r ≡ true → (word : SlotState) × (act_of doing.op word doing.mine ≡ act_reached r)
  pub present : is_reached r ≡ true → IsPresentAt k c id v.own × (in_range k id ≡ true)

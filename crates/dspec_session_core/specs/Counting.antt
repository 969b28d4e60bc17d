-- Cited by calls. The consumer's end of one CPU's rings, counted.
use Rattle.std.specs.Prelude.{◌≡◌, ◌≤◌, ◌^◌, length}
use Rattle.dspec_session_core.specs.{Words.Outside.ConsumerKnows, declared.counted.CountedEnd.TheInside.Inside}

abbrev pub counted_end_of : Inside → ConsumerKnows
counted_end_of i = i.end

-- the counts are of the batches that went through the end, and no more were given back than taken
pub record IsCounted (i : Inside) : Type 0 where
  pub taken : i.taken ≡ length i.end.taken
  pub given : i.given ≡ length i.end.given
  pub order : i.given ≤ i.taken
  pub few : i.taken ≤ 2 ^ 62

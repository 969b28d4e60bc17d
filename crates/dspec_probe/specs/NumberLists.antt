-- Cited by calls. How a `NumberList` holds numbers.
use Rattle.std.specs.Prelude.{◌≡◌, ◌≤◌, ℕ, List, length, take}
use Rattle.dspec_probe.specs.declared.number_list.NumberList.TheInside.{Inside}

abbrev pub listed_numbers : Inside → List ℕ
listed_numbers a = take a.len a.held

pub record IsNumberList (a : Inside) : Type 0 where
  pub eight : length a.held ≡ 8
  pub few : a.len ≤ 8

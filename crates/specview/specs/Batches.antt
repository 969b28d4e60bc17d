-- Cited by calls. The batches of a CPU, read off the deeds of a play: what was sealed, and what its buffer has at the end.
use Rattle.std.specs.Prelude.{ℕ, ◌≡◌, ◌==◌, ◌&&◌, List, [], ◌∷◌, ◌++◌, length, map, reverse, if◌then◌else◌}
use Rattle.specview.specs.Words.Outside.{Record, contents, accepts, Sealing, growing, batches, accepts_now, Deed}
use Rattle.specview.specs.declared.batches.Share.{Share}

-- the records of a batch in order of time, and how often the buffer had no room
pub record ShareOf : Type 0 where
  pub drops : ℕ
  pub records : List Record

abbrev pub shown_share : Share → ShareOf
shown_share s = record { drops = s.drops; records = s.records.now }

abbrev pub share_of : Sealing → ShareOf
share_of b = record { drops = b.drops; records = reverse (contents b.offers) }

-- what a CPU's buffer has at the end, where there is something
abbrev pub last_share : ShareOf → List ShareOf
last_share s = if s.drops == 0 && length s.records == 0 then [] else s ∷ []

-- all batches of a CPU, in order of time
abbrev pub shares : ℕ → List Deed → List ShareOf
shares c h = map share_of (reverse (batches c h)) ++ last_share (share_of (growing c h))

-- each deed of the list tells how many records the CPU's principal buffer took by it
abbrev pub TellsCounts : ℕ → List Deed → Type 0
TellsCounts c [] = Unit {0}
TellsCounts c (d ∷ h) = TellsCounts c h × (accepts_now c d ≡ length (accepts c d h))

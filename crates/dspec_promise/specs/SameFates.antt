-- Serves proofs. The page's fates are those of the list of deeds, record by record.
use Rattle.std.specs.Prelude.{ℕ, ◌≡◌, suc, List, [], ◌∷◌, Option, Some, None}
use Rattle.dspec_promise.specs.Promise.{RecordFate, taken, dropped, specdropped, lost, discarded, void, held, HandedRecord}
use Rattle.dspec_promise.specs.Words.Outside.{Speculation, Deed}
use Rattle.dspec_deeds.specs.Fates as told

-- the fate is the same but for what it waits for, which is what it was offered to, and for where it was dropped
abbrev pub IsFate : RecordFate → Option Speculation → told.Fate → Type 0
IsFate taken x f = f ≡ told.taken
IsFate dropped x f = f ≡ told.dropped
IsFate specdropped x f = f ≡ told.dropped
IsFate lost x f = f ≡ told.dropped
IsFate discarded x f = f ≡ told.discarded
IsFate void x f = f ≡ told.void
IsFate held (Some id) f = f ≡ told.waiting id
IsFate held None f = ⊥

-- the CPU's record of that number
pub record IsOffer (c : ℕ) (h : List Deed) (j : ℕ) (o : HandedRecord) : Type 0 where
  pub fate : told.Fate
  pub has : told.fate c j h ≡ Some fate
  pub same : IsFate o.fate o.to fate
  pub content : told.content_of c j h ≡ Some o.content
  pub to : told.destination c j h ≡ o.to

-- these are the CPU's first records, so many of them, the latest at the head
abbrev pub AreOffers : ℕ → List Deed → ℕ → List HandedRecord → Type 0
AreOffers c h n [] = n ≡ 0
AreOffers c h n (o ∷ os) = (j : ℕ) × (n ≡ suc j) × IsOffer c h j o × AreOffers c h j os

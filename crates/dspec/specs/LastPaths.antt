-- Cited by calls. What calls did of a path of which the last records are kept.
use Rattle.std.specs.Prelude.{ℕ, ◌≡◌, ◌+◌, ◌-◌, ◌^◌, min, Bool, List, Option, Some, None, Result, IsOk, IfOk, IfErr, ◌↔◌, IsTrue}
use Rattle.dspec.specs.LaneCalls.{DecisionOn, OpeningOn, SpeculateOn}
use Rattle.dspec.specs.Words.Outside.{Record, Speculation, id_given, By, discard, takes_values, with_values, Ghosts, Decided, Opening, Spoken, Kept, Dropped, Deed, Cpu}
use Rattle.dspec.specs.declared.{bad_record.BadRecord.BadRecord, lane.Lane.Lane, last_path.LastPath.LastPath}
use Rattle.dspec_deeds.specs.declared.calls.Decided.TheVariants as decided
use Rattle.dspec_deeds.specs.declared.calls.Opening.TheVariants as opening

-- of one speculation, and nothing was cut
abbrev pub path_begun : Opening → LastPath
path_begun answer = record { older = None; newer = answer; cut = 0 }

-- how many records went with a discard, where there was one
abbrev pub records_thrown : Option Decided → ℕ
records_thrown (Some (decided.Thrown n)) = n
records_thrown x = 0

-- The older speculation is gone, with what its discard answered, the newer one stands in its place, and this one in that of the newer.
-- What went is counted, to the largest number that the count can tell.
abbrev pub moved_on : Opening → Option Decided → LastPath → LastPath
moved_on answer gone p = record { older = Some (id_given p.newer); newer = answer; cut = min (p.cut + records_thrown gone) (2 ^ 32 - 1) }

module _ {S : Type 0} {g : Ghosts S} (has : Cpu S → List Deed → Type 0) where
  -- a speculation was decided, and the answer; nothing was done where there was none
  abbrev pub DecidesIfThere : By → Option Speculation → Option Decided → Lane S g → Lane S g → Type 0
  DecidesIfThere b None a old new = (a ≡ None) × (new ≡ old)
  DecidesIfThere b (Some id) a old new = (d : Decided) × (a ≡ Some d) × DecisionOn has b id d old new

  -- A new speculation answered so to the record. Where it took that, the older one was discarded, and the path moves on; else the new one
  -- was, and the path is as it was.
  abbrev pub SettlesOn : Spoken → Opening → LastPath → LastPath → Lane S g → Lane S g → Type 0
  SettlesOn Kept answer p q old new = (gone : Option Decided) × DecidesIfThere discard p.older gone old new × (q ≡ moved_on answer gone p)
  SettlesOn a answer p q old new = (q ≡ p) × ((d : Decided) × DecisionOn has discard (id_given answer) d old new)

  -- A new speculation was asked for, with this answer. Where one was given, the record was offered to it; else the record is dropped, and
  -- nothing more was done.
  abbrev pub OffersNextOn : Opening → Record → Spoken → LastPath → LastPath → Lane S g → Lane S g → Type 0
  OffersNextOn (opening.Id id) r a p q old new = (offered : Lane S g) × SpeculateOn has id r a old offered × SettlesOn a (opening.Id id) p q offered new
  OffersNextOn answer r a p q old new = (a ≡ Dropped) × (q ≡ p) × (new ≡ old)

  abbrev pub TurnsOn : Record → Spoken → LastPath → LastPath → Lane S g → Lane S g → Type 0
  TurnsOn r a p q old new = (answer : Opening) × (opened : Lane S g) × OpeningOn has answer old opened × OffersNextOn answer r a p q opened new

  -- the newer speculation answered so to the record: where it dropped it, a new one was asked for; else that is the answer, and nothing more
  -- was done
  abbrev pub FollowsOn : Spoken → Record → Spoken → LastPath → LastPath → Lane S g → Lane S g → Type 0
  FollowsOn Dropped r a p q old new = TurnsOn r a p q old new
  FollowsOn first r a p q old new = (a ≡ first) × (q ≡ p) × (new ≡ old)

  -- a record was offered to the path
  pub record LastRecordOn (r : Record) (a : Spoken) (p q : LastPath) (old new : Lane S g) : Type 0 where
    pub first : Spoken
    pub offered : Lane S g
    pub offers : SpeculateOn has (id_given p.newer) r first old offered
    pub follows : FollowsOn first r a p q offered new

  -- the end of the path: the newer speculation was decided, then the older one, if there is one
  abbrev pub LastEndOn : By → LastPath → Option Decided → Decided → Lane S g → Lane S g → Type 0
  LastEndOn b p older newer old new =
      (between : Lane S g) × DecisionOn has b (id_given p.newer) newer old between × DecidesIfThere b p.older older between new

  module _ (accepted : S → Record → Bool) where
    -- a record was offered by its values; an error says that the schema doesn't accept it, and nothing was done
    pub record LastValuesOn (epid stamp : ℕ) (values : List ℕ) (a : Result Spoken BadRecord) (p q : LastPath) (old new : Lane S g) : Type 0 where
      pub due : IsOk a ↔ IsTrue (takes_values has accepted old.cpu.now epid stamp values)
      pub refused : IfErr a (λ why. (q ≡ p) × (new ≡ old))
      pub one : IfOk a (λ s. LastRecordOn (with_values epid stamp values) s p q old new)

-- Cited by calls. A reader that checks a text as it goes: how far it has come, and what one call makes of that.
use Rattle.std.specs.Prelude.{◌≡◌, ◌<◌, ◌≤◌, ℕ, Bool, List, [], ◌∷◌, ◌++◌, length, Option, Some, None, Result, Ok, Err}
use Rattle.dspec_buffer.specs.{Faults.StopsAfter, Remaining.IsOneText, Words.Outside.Record, Words.Outside.Shape, declared.read_fault.ReadFault.ReadFault}

-- the text, the place in bytes up to which it was read, and the records that it was given up to there
pub record Progress (D : Type 0) : Type 0 where
  pub schema : D
  pub text : List ℕ
  pub place : ℕ
  pub read : List Record

module _ {D : Type 0} (shape : ℕ → Option Shape) (accepted : Record → Bool) (text : Record → List ℕ) where
  -- one record more; at the end the records so far are those of the whole text, and it is the text of no others; at the first
  -- fault they are those before it. At both nothing changes
  abbrev pub Advances : Progress D → Result (Option Record) ReadFault → Progress D → Type 0
  Advances old (Ok (Some r)) new =
      (new ≡ record old { place = new.place; read = old.read ++ r ∷ [] }) × (old.place < new.place) × (new.place ≤ length old.text)
  Advances old (Ok None) new = (new ≡ old) × IsOneText shape accepted text old.text 0 old.read
  Advances old (Err fault) new = (new ≡ old) × ∥ StopsAfter shape accepted text old.text old.read fault ∥₁

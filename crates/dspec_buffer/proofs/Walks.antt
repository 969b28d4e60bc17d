-- A walk over the text of a `ByteBuffer`.
use Rattle.std.proofs.Common.{◌≡◌, ℕ, Bool, Option, List, [], ◌∷◌, reverse, inr, sym, subst, arith}
use Rattle.std.proofs.lemmas.Bool.Decides.{nat_tests}
use Rattle.std.specs.Prelude.{Result, Ok, Err, IfOk, OnErr, IsOkAnd}
use Rattle.dspec_buffer.specs.Words.{Record, Piece, records, BufferText, Stored, HasPieces, HasAhead, StepsAhead, IsAhead, Shape}
use Rattle.dspec_buffer.specs.declared.read_fault.ReadFault.{ReadFault}
use Rattle.dspec_buffer.proofs.{OneReading.one_reading, PiecesRead.pieces_read, SchemaLaws.SchemaLaws}

-- where more can be ahead, a step says as much
steps_weaker : (P Q : ℕ → List Record → Type 0) (rs : List Record) (step : Option (Record × ℕ)) → ((o : ℕ) (qs : List Record) → P o qs → Q o qs) → StepsAhead P rs step → StepsAhead Q rs step
steps_weaker P Q [] step f s = s
steps_weaker P Q (r ∷ rs) step f s = (s.0, (s.1.0, f s.0 rs s.1.1))

module _ (shape : ℕ → Option Shape) (accepted : Record → Bool) (text : Record → List ℕ) (laws : SchemaLaws shape accepted text) where
  -- what a buffer has is its text
  pub reads_back : (b : Stored) (ps : List Piece) → HasPieces shape accepted text b ps → BufferText shape accepted text 0 b.text (reverse (records ps))
  reads_back b ps h =
      subst (λ z. BufferText shape accepted text 0 z (reverse (records ps))) (sym h.text_is) (pieces_read shape accepted text laws ps h.all_accepted)

  ahead_at_start : (b : Stored) (ps : List Piece) → HasPieces shape accepted text b ps → HasAhead shape accepted text b.text 0 (reverse (records ps))
  ahead_at_start b ps h = record { within = omega arith; ahead = reads_back b ps h }

  is_ahead : (b : Stored) (place : ℕ) (rs : List Record) → IsAhead (HasPieces shape accepted text b) (HasAhead shape accepted text b.text) place rs → HasAhead shape accepted text b.text place rs
  is_ahead b place rs h = grind (arith, nat_tests, ahead_at_start)

  pub walk_from : (b : Stored) (place : ℕ) (rs : List Record) (step : Option (Record × ℕ))
      → ((qs : List Record) → HasAhead shape accepted text b.text place qs → StepsAhead (HasAhead shape accepted text b.text) qs step)
      → IsAhead (HasPieces shape accepted text b) (HasAhead shape accepted text b.text) place rs → StepsAhead (IsAhead (HasPieces shape accepted text b) (HasAhead shape accepted text b.text)) rs step
  walk_from b place rs step read h =
      steps_weaker (HasAhead shape accepted text b.text) (IsAhead (HasPieces shape accepted text b) (HasAhead shape accepted text b.text)) rs step (λ o qs k. inr k) (read rs (is_ahead b place rs h))

  -- bytes that are a text are read as its records
  pub read_all_reads : (bs : List ℕ) (rs : List Record) (result : Result (List Record) ReadFault) → BufferText shape accepted text 0 bs rs
      → IfOk result (λ qs. BufferText shape accepted text 0 bs qs) → OnErr result ((qs : List Record) → ¬ BufferText shape accepted text 0 bs qs) → IsOkAnd result (λ qs. qs ≡ rs)
  read_all_reads bs rs (Ok qs) h k l = one_reading shape accepted text laws 0 bs qs rs k h
  read_all_reads bs rs (Err f) h k l = absurd (l rs h)

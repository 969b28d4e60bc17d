-- Cited by calls. What a sink writes of the batches that it gets: a line for each record.
use Rattle.std.specs.Prelude.{ℕ, ◌≡◌, ◌++◌, List, [], ◌∷◌, Option, Some, None, codes, decimal, option_and_then, option_map}
use Rattle.dspec.specs.Words.Outside.{Record, EnabledRows, enabled, table_shape, table_accepts, table_text, BufferText, StopsAt, Declared, told_record, told_text, Header, Batch}
use Rattle.dspec.specs.declared.text_sink.{TextSink.TextSink, TextSinkFault.TextSinkFault, TextSinkFault.TheVariants.Text, TextSinkFault.TheVariants.Write, ToldLine.ToldLine}
use Rattle.dspec_record.specs.declared.header.Header.TheVariants as header

-- what stands in front of a record that is told
abbrev pub line_front : ℕ → Option ℕ → List ℕ
line_front cpu (Some stamp) = codes "cpu " ++ decimal cpu ++ codes " at " ++ decimal stamp ++ codes ": "
line_front cpu None = codes "cpu " ++ decimal cpu ++ codes ": "

abbrev pub told_line_text : ToldLine → Option (List ℕ)
told_line_text l = option_map (λ text. line_front l.cpu l.stamp ++ text ++ codes "\n") (told_text l.told)

-- the stamp that a line tells
abbrev pub stamp_in_line : Header → ℕ → Option ℕ
stamp_in_line header.One stamp = None
stamp_in_line header.Two stamp = Some stamp

-- the line of a record of one of these probes
abbrev pub told_line : Declared → Header → ℕ → Record → Option (List ℕ)
told_line probes h cpu r = option_and_then (λ told. told_line_text (record { cpu = cpu; stamp = stamp_in_line h r.stamp; told = told })) (told_record probes r)

-- each of these records was written, one after the other
abbrev pub ToldInTurn : {W : Type 0} → (W → Record → W → Type 0) → W → List Record → W → Type 0
ToldInTurn tells w [] v = v ≡ w
ToldInTurn {W = W} tells w (r ∷ rs) v = (m : W) × tells w r m × ToldInTurn tells m rs v

-- why the records of a batch weren't told: it has a text that stops there, or what takes the text refused it
abbrev pub IsTextSinkFault : EnabledRows → Batch → TextSinkFault → Type 0
IsTextSinkFault e b (Text cpu fault) =
    (cpu ≡ b.cpu) × StopsAt (table_shape e.header (enabled e.rows)) (table_accepts e.header (enabled e.rows)) (table_text e.header (enabled e.rows)) b.buffer.text fault
IsTextSinkFault e b Write = Unit

-- by what it is to write a text, if that is said
module _ {W : Type 0} (writes : W → Option (List ℕ) → W → Type 0) where
  -- the records of the batch were written, a line each
  abbrev pub TellsText : Declared → EnabledRows → Batch → W → W → Type 0
  TellsText probes e b old new = (records : List Record)
      × BufferText (table_shape e.header (enabled e.rows)) (table_accepts e.header (enabled e.rows)) (table_text e.header (enabled e.rows)) 0 b.buffer.text records
      × ToldInTurn (λ w r v. writes w (told_line probes e.header b.cpu r) v) old records new

  -- All records of the batch are told, or why not; after a fault nothing more is.
  pub record TellsWhole (e : EnabledRows) (old : TextSink W) (b : Batch) (new : TextSink W) : Type 0 where
    pub probes : new.probes.now ≡ old.probes.now
    pub stopped : (fault : TextSinkFault) → old.fault ≡ Some fault → new ≡ old
    pub told : old.fault ≡ None → new.fault ≡ None → TellsText old.probes.now e b old.out new.out
    pub why : (fault : TextSinkFault) → old.fault ≡ None → new.fault ≡ Some fault → IsTextSinkFault e b fault

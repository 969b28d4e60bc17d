-- Cited by calls. A packed record as contracts see it: the record that its words stand for, and what it says itself of its shape and
-- its bytes.
use Rattle.std.specs.Prelude.{ℕ, List, take, Option, Some}
use Rattle.dspec_record.specs.{LaidOut.Laid, Layout.layout, Packing.packed_record, Record.Record, RecordText.record_text, declared.field.Field.Field, declared.header.Header.Header}
use Rattle.dspec_record.specs.{declared.known_header.KnownHeader.Ghosts, declared.packed.Packed.Packed}

abbrev pub packed_fields : {H : Type 0} {g : Ghosts H} → Packed H g → List Field
packed_fields p = take p.len p.fields

-- those that hold the text
abbrev pub packed_words : {H : Type 0} {g : Ghosts H} → Packed H g → List ℕ
packed_words p = take p.count p.words

abbrev pub packed_of : {H : Type 0} {g : Ghosts H} → Packed H g → Record
packed_of p = packed_record p.epid p.stamp (packed_fields p) (packed_words p)

abbrev pub laid_of : {H : Type 0} {g : Ghosts H} → Header → Packed H g → Option Laid
laid_of h p = Some (record { shape = layout h (packed_fields p); text = record_text h (packed_fields p) (packed_of p) })

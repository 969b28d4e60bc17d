-- A folder by time in which the metadata was written, and no packet yet.
use Rattle.std.proofs.Common.{◌≡◌, ◌<◌, ◌≤◌, ◌^◌, ◌∙◌, ℕ, get_or, List, [], None, refl, sym, ap, subst, arith, length, slice_index}
use Rattle.dspec_trace_reading.specs.Words.{ReadsPackets, EnabledRows, form_fault, metadata_fault, origin_fault, TimedTracing, row_name, TimedBegunNew, Header, ByTime, Names, Origin}
use Rattle.dspec_record.specs.declared.header.Header.TheVariants as header
use Rattle.dspec_ctf_reading.proofs.AllowedWords.{earlier-none}
use Rattle.dspec_filing_reading.proofs.Packets.{reads_none}
use Rattle.dspec_trace_reading.proofs.{Begun.asked, Begun.begun_with, Begun.none_yet, Begun.nothing_yet, Begun.same_at, RowNaming.row_named, RowNaming.row_not_metadata, TimedAsking.lasts_of}
use Rattle.dspec_trace_reading.proofs.{TimedFronts.StandsInPart}

module _ (origin : Origin) (hertz : ℕ) (e : EnabledRows) (names : Names) where
  -- where it could be written, records have stamps
  without_stamps : (h : Header) → e.header ≡ h → origin_fault origin (ByTime hertz) e names ≡ None → e.header ≡ header.Two
  unfolding origin_fault metadata_fault form_fault
  without_stamps header.Two is none = is
  without_stamps header.One is none =
      let form : form_fault (ByTime hertz) e.header ≡ None = (earlier-none (form_fault (ByTime hertz) e.header) _ (earlier-none (metadata_fault (ByTime hertz) e names) _ none).0).0 in
      let clash : form_fault (ByTime hertz) header.One ≡ None = subst (λ h. form_fault (ByTime hertz) h ≡ None) is form in
      absurd (cc (clash))

  pub stamped : origin_fault origin (ByTime hertz) e names ≡ None → e.header ≡ header.Two
  stamped none = without_stamps e.header refl none

  module _ (begun : TimedTracing) (is : TimedBegunNew origin hertz e names begun) where
    no_lasts : (c : ℕ) → lasts_of begun c ≡ []
    no_lasts c = ap (λ (xs : List (List ℕ)). get_or xs c []) is.begins.lasts ∙ same_at 64 c []

    -- no file tells anything
    pub begins : (uuid : List ℕ) (c : ℕ) → StandsInPart uuid e names hertz c begun []
    begins uuid c = record {
      told = omega (arith, none_yet begun.told is.begins.told c);
      filed = record {
        writes = begun_with origin (ByTime hertz) e names is.before;
        asked = asked origin (ByTime hertz) e names is.before is.new begun.written is.begins.written;
        few = subst (λ (xs : List ℕ). length xs ≤ 64) (sym (no_lasts c)) (omega arith);
        first = subst (λ (xs : List ℕ). slice_index xs 0 < 2 ^ 64) (sym (no_lasts c)) (omega arith);
        packets = [];
        reads = subst (λ n. ReadsPackets uuid e names hertz c [] [] n) (sym (none_yet begun.told is.begins.told c)) (reads_none uuid e names hertz c);
        have = λ file few. nothing_yet origin (ByTime hertz) e names is.before is.new (row_name c file) (row_named c file) (row_not_metadata c file);
      };
    }

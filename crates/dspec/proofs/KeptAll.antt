-- What a sink keeps of a session of one CPU is what that CPU's batches hold.
use Rattle.std.proofs.Common.{◌≡◌, ◌<◌, ◌==◌, true, if◌then◌else◌, List, [], ◌∷◌, ◌++◌, Option, Some, None, refl, sym, ap, ◌∙◌, subst, arith}
use Rattle.std.proofs.lemmas.{Bool.Decides.nat_tests, List.append-nil, List.append_assoc, List.Elements.All-head, List.Elements.All-tail}
use Rattle.dspec.specs.Words.{Record, EnabledRows, enabled, table_shape, table_accepts, table_text, enabled-IsLimited, table-shapes_fit, table-texts_fit, table-texts_differ, HoldRecords}
use Rattle.dspec.specs.Words.{SinkRecords, KeepsBatch, Passed, AreFrom, GotAll, passed_from}
use Rattle.dspec.specs.declared.record_sink.RecordSinkFault.{RecordSinkFault}
use Rattle.dspec_buffer.proofs.{OneReading.one_reading, SchemaLaws.SchemaLaws}

module _ (e : EnabledRows) where
  laws : SchemaLaws (table_shape e.header (enabled e.rows)) (table_accepts e.header (enabled e.rows)) (table_text e.header (enabled e.rows))
  laws = record {
    zero_has_none = refl;
    shapes_fit = table-shapes_fit e.header (enabled e.rows) (enabled-IsLimited e.rows);
    texts_fit = table-texts_fit e.header (enabled e.rows);
    texts_differ = table-texts_differ e.header (enabled e.rows);
  }

  abbrev pub Hold : List Passed → List Record → Type 0
  Hold xs seen = HoldRecords (table_shape e.header (enabled e.rows)) (table_accepts e.header (enabled e.rows)) (table_text e.header (enabled e.rows)) (passed_from 0 xs) seen

  -- after a fault nothing changes
  fault_stays : (xs : List Passed) (k l : SinkRecords) (fault : RecordSinkFault) → k.fault ≡ Some fault → GotAll (KeepsBatch e) k xs l → l ≡ k
  fault_stays [] k l fault is got = sym got
  fault_stays (x ∷ xs) k l fault is (m, keeps, rest) =
      let same = keeps.stopped fault is in
      fault_stays xs m l fault (ap (λ (r : SinkRecords). r.fault) same ∙ is) rest ∙ same

  -- so there was none where there is none in the end
  unfaulted : (o : Option RecordSinkFault) (xs : List Passed) (k l : SinkRecords) → k.fault ≡ o → l.fault ≡ None → GotAll (KeepsBatch e) k xs l → k.fault ≡ None
  unfaulted None xs k l is none got = is
  unfaulted (Some fault) xs k l is none got = ap (λ (r : SinkRecords). r.fault) (sym (fault_stays xs k l fault is got)) ∙ none

  pub kept_all : (xs : List Passed) (old new : SinkRecords) (seen : List Record) → old.fault ≡ None → new.fault ≡ None → AreFrom 1 xs
      → GotAll (KeepsBatch e) old xs new → Hold xs seen → new.records ≡ old.records ++ seen
  kept_all [] old new seen fine none from got hold =
      ap (λ (r : SinkRecords). r.records) (sym got) ∙ (sym (append-nil old.records) ∙ ap (λ s. old.records ++ s) (sym hold))
  kept_all (x ∷ xs) old new seen fine none from (m, keeps, rest) hold =
      let first : x.from < 1 = All-head (λ (p : Passed). p.from < 1) x xs from in
      let same : (x.from == 0) ≡ true = grind (arith, nat_tests) in
      let (held, more, has, many, is, holds) = subst (λ q. HoldRecords (table_shape e.header (enabled e.rows)) (table_accepts e.header (enabled e.rows))
      (table_text e.header (enabled e.rows)) (if q then x.batch ∷ passed_from 0 xs else passed_from 0 xs) seen) same hold in
      let went = unfaulted m.fault xs m new refl none rest in
      let added = keeps.kept fine went in
      let one = one_reading (table_shape e.header (enabled e.rows)) (table_accepts e.header (enabled e.rows)) (table_text e.header (enabled e.rows)) laws
      0 x.batch.buffer.text added.added held added.is_text has in
      kept_all xs m new more went none (All-tail (λ (p : Passed). p.from < 1) x xs from) rest holds
      ∙ (ap (λ rs. rs ++ more) added.grown ∙ (append_assoc old.records added.added more ∙ ap (λ rs. old.records ++ rs) (ap (λ a. a ++ more) one ∙ sym is)))

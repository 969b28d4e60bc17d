-- The claimed row is the record's, and the header the enablings' own.
use Rattle.std.proofs.Common.{◌≡◌, IsTrue, List, length, Some, sym, ◌∙◌, ap, subst}
use Rattle.dspec_record.specs.{Words.packed_fields, Words.packed_of, Words.claimed, Words.Record, Words.stamp_fits, Words.enabled, Words.table_accepts, declared.field.Field.Field}
use Rattle.dspec_record.proofs.PackedClaims.{claimed-enabled, claimed-accepted, laid-enabled}
use Rattle.dspec_record.proofs.enabling.Enablings.packed.Goals as goal

pub returns-clause-accepted : goal.returns-clause-accepted
returns-clause-accepted g c =
    let rows : List (List Field) = c.args.self.now.rows in
    let row : Some c.in_ok-row.row.now ≡ claimed rows c.args.claim (length c.args.words.now) = c.in_ok-row.ensures in
    let same : c.header.result ≡ c.header-2.result = c.is.ensures.0 c.if-not-is.false in
    let own : c.args.self.now.header ≡ c.header-else-not-is.result = sym c.header.ensures ∙ same ∙ c.header-2.ensures ∙ sym c.header-else-not-is.ensures in
    let fit : IsTrue (stamp_fits c.args.self.now.header c.args.stamp) =
    ap (λ h. stamp_fits h c.args.stamp) own ∙ sym c.fits_header.ensures ∙ c.if-not-fits_header.false in
    let Accepted : Record → Type 0 = λ r. IsTrue (table_accepts c.args.self.now.header (enabled rows) r) in
    subst Accepted (sym c.of.ensures.holds) (
    claimed-accepted c.args.self.now.header rows c.args.claim c.args.stamp (length c.args.words.now) c.in_ok-row.row.now c.args.words.now (sym row) c.of.ensures.few fit)

pub returns-clause-laid : goal.returns-clause-laid
returns-clause-laid g c =
    let rows : List (List Field) = c.args.self.now.rows in
    let row : Some c.in_ok-row.row.now ≡ claimed rows c.args.claim (length c.args.words.now) = c.in_ok-row.ensures in
    let same : c.header.result ≡ c.header-2.result = c.is.ensures.0 c.if-not-is.false in
    let r : Record = packed_of c.of.result in
    let own : enabled rows r.epid ≡ Some (packed_fields c.of.result) =
    ap (λ q. enabled rows q.epid) c.of.ensures.holds ∙ claimed-enabled rows c.args.claim (length c.args.words.now) c.in_ok-row.row.now (sym row) c.of.ensures.few ∙ ap Some (sym c.of.ensures.fields) in
    laid-enabled c.args.self.now.header g.H.KnownHeader.header_is rows (packed_fields c.of.result) r own (sym c.header.ensures ∙ same ∙ c.header-2.ensures)

-- The row of the EPID at the front decides what can be read.
use Rattle.std.proofs.Common.{◌≡◌, ◌≤◌, ◌<◌, ◌^◌, ℕ, List, Some, length, take, get_or, option_map, sym, ◌∙◌, ap, subst, arith}
use Rattle.std.proofs.lemmas.List.{take-take}
use Rattle.dspec_record.specs.Words.{layout, little_endian, front_epid, BeginsWith, NamesShape, HasNoText, enabled, table_shape, table_accepts, table_text, layout-IsShape}
use Rattle.dspec_record.specs.declared.{field.Field.Field, field.Shape.Shape, header.Header.Header}
use Rattle.dspec_record.proofs.{Fronts.little_endian-front_epid, Fronts.front_epid-lt, Gets.enabled-row, Gets.BeginsWith-read, Gets.no_text-unread}
use Rattle.dspec_record.proofs.enabled.EnablingsSchema.get.Goals as goal

-- the first four bytes of the part that is read are the EPID's
front : (bytes : List ℕ) (size epid : ℕ) → 4 ≤ size → 4 ≤ length bytes → ((i : ℕ) → get_or bytes i 0 < 256) → epid ≡ front_epid bytes → take 4 (take size bytes) ≡ little_endian 4 epid
front bytes size epid low long small is =
    take-take 4 size bytes low ∙ little_endian-front_epid bytes long small ∙ ap (little_endian 4) (sym is)

pub read_record-requires-clause-epid : goal.read_record-requires-clause-epid
read_record-requires-clause-epid c =
    let shape = layout-IsShape c.header-header.result c.in-Some.enabling.now c.shape-size.ensures.few in
    front c.args.bytes.now c.shape-size.result.size c.in_ok-epid.epid (omega (arith, ap (λ h. h.size) c.shape-size.ensures.layout)) c.in_ok-epid.ensures.read.0
    (λ i. (c.type_inv.bytes i).fits) c.in_ok-epid.ensures.read.1

pub returns-in-Some-read_record : goal.returns-in-Some-read_record
returns-in-Some-read_record c =
    let h : Header = c.header-header.result in
    let fs : List Field = c.fields.result.now in
    let row : enabled c.args.self.now.rows c.in_ok-epid.epid ≡ Some fs =
    enabled-row c.args.self.now.rows c.in_ok-epid.epid c.in-Some.enabling.now fs c.in-Some.ensures c.fields.ensures.fields c.fields.ensures.few in
    let size : c.shape-size.result.size ≡ (layout h fs).size =
    ap (λ h. h.size) c.shape-size.ensures.layout ∙ ap (λ gs. (layout h gs).size) (sym c.fields.ensures.fields) in
    let small : c.in_ok-epid.epid < 2 ^ 32 =
    omega (arith, front_epid-lt c.args.bytes.now (λ i. (c.type_inv.bytes i).fits), c.in_ok-epid.ensures.read.1) in
    let Read : Header → Type 0 = λ d.
    BeginsWith (table_accepts d (enabled c.args.self.now.rows)) (table_text d (enabled c.args.self.now.rows)) c.args.bytes.now c.in-Some-read_record.rec c.shape-size.result.size in
    subst Read c.header-header.ensures (
    BeginsWith-read h (enabled c.args.self.now.rows) fs c.in_ok-epid.epid c.args.bytes.now c.in-Some-read_record.rec c.shape-size.result.size row small size c.in-Some-read_record.ensures.read)

pub returns-in-None : goal.returns-in-None
returns-in-None c =
    let h : Header = c.header-header.result in
    let fs : List Field = c.fields.result.now in
    let row : enabled c.args.self.now.rows c.in_ok-epid.epid ≡ Some fs =
    enabled-row c.args.self.now.rows c.in_ok-epid.epid c.in-Some.enabling.now fs c.in-Some.ensures c.fields.ensures.fields c.fields.ensures.few in
    let size : c.shape-size.result.size ≡ (layout h fs).size =
    ap (λ h. h.size) c.shape-size.ensures.layout ∙ ap (λ gs. (layout h gs).size) (sym c.fields.ensures.fields) in
    let small : c.in_ok-epid.epid < 2 ^ 32 =
    omega (arith, front_epid-lt c.args.bytes.now (λ i. (c.type_inv.bytes i).fits), c.in_ok-epid.ensures.read.1) in
    let at_front : enabled c.args.self.now.rows (front_epid c.args.bytes.now) ≡ Some fs =
    ap (enabled c.args.self.now.rows) (sym c.in_ok-epid.ensures.read.1) ∙ row in
    let header : take 4 (take c.shape-size.result.size c.args.bytes.now) ≡ little_endian 4 c.in_ok-epid.epid =
    front c.args.bytes.now c.shape-size.result.size c.in_ok-epid.epid (omega (arith, size, (layout-IsShape h fs c.fields.ensures.few).with_epid)) c.in_ok-epid.ensures.read.0
    (λ i. (c.type_inv.bytes i).fits) c.in_ok-epid.ensures.read.1 in
    let Unread : Header → Type 0 = λ d.
    (s : Shape) × NamesShape (table_shape d (enabled c.args.self.now.rows)) c.args.bytes.now s
    × HasNoText (table_accepts d (enabled c.args.self.now.rows)) (table_text d (enabled c.args.self.now.rows)) c.args.bytes.now s in
    let unread : Unread h = (
      layout h fs,
      record {
        four = c.in_ok-epid.ensures.read.0;
        epid = λ e. c.in_ok-epid.ensures.read.2 (c.in_ok-epid.ensures.read.1 ∙ e);
        has_shape = ap (option_map (layout h)) at_front;
      },
      record {
        long = omega (arith, size);
        none = λ r accepted e.
            no_text-unread h (enabled c.args.self.now.rows) fs c.in_ok-epid.epid (take c.shape-size.result.size c.args.bytes.now) row small header c.in-None.ensures.unread r
            accepted (ap (λ n. take n c.args.bytes.now) size ∙ e);
      },
    ) in
    subst Unread c.header-header.ensures unread

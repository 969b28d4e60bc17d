-- Every EPID but zero has a shape, and no record of twelve bytes has a gap.
use Rattle.std.proofs.Common.{◌≡◌, ◌≢◌, ◌<◌, ◌^◌, ℕ, zero, suc, List, [], Some, take, option_map, inr, refl, sym, ◌∙◌, ap, arith}
use Rattle.std.proofs.lemmas.List.{take-take}
use Rattle.dspec_record.specs.{Words.layout, Words.little_endian, Words.front_epid, Words.default_fields, declared.field.Field.Field, declared.header.Header.TheVariants.Two}
use Rattle.dspec_record.proofs.{Fronts.little_endian-front_epid, Fronts.front_epid-lt, Gets.no_text-unread}
use Rattle.dspec_record.proofs.stamped_action.StampedActionSchema.get.Goals as goal

row-is : (epid : ℕ) → epid ≢ 0 → default_fields epid ≡ Some []
row-is zero some = absurd (some refl)
row-is (suc n) some = refl

pub returns-then-bytes-lt-SIZE : goal.returns-then-bytes-lt-SIZE
returns-then-bytes-lt-SIZE c =
    let some : front_epid c.args.bytes.now ≢ 0 = λ e. c.in_ok-epid.ensures.read.2 (c.in_ok-epid.ensures.read.1 ∙ e) in
    inr (
      layout Two [],
      record {
        four = c.in_ok-epid.ensures.read.0;
        epid = some;
        has_shape = ap (option_map (layout Two)) (row-is (front_epid c.args.bytes.now) some);
      },
      c.if-bytes-lt-SIZE.true,
    )

pub returns-in-None : goal.returns-in-None
returns-in-None c =
    let bytes : List ℕ = c.args.bytes.now in
    let none : List Field = [] in
    let some : front_epid bytes ≢ 0 = λ e. c.in_ok-epid.ensures.read.2 (c.in_ok-epid.ensures.read.1 ∙ e) in
    let small : c.in_ok-epid.epid < 2 ^ 32 =
    omega (arith, front_epid-lt bytes (λ i. (c.type_inv.bytes i).fits), c.in_ok-epid.ensures.read.1) in
    let front : take 4 (take 12 bytes) ≡ little_endian 4 c.in_ok-epid.epid =
    take-take 4 12 bytes (omega arith) ∙ little_endian-front_epid bytes c.in_ok-epid.ensures.read.0 (λ i. (c.type_inv.bytes i).fits)
    ∙ ap (little_endian 4) (sym c.in_ok-epid.ensures.read.1) in (
      layout Two none,
      record {
        four = c.in_ok-epid.ensures.read.0;
        epid = some;
        has_shape = ap (option_map (layout Two)) (row-is (front_epid bytes) some);
      },
      record {
        long = c.if-bytes-lt-SIZE.false;
        none = no_text-unread Two default_fields none c.in_ok-epid.epid (take 12 bytes) (row-is c.in_ok-epid.epid c.in_ok-epid.ensures.read.2) small front c.in-None.ensures.unread;
      },
    )

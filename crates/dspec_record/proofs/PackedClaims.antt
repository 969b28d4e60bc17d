-- A record whose claim is true of an enabling is accepted, and laid out as the schema lays it out.
use Rattle.std.proofs.Common.{◌≡◌, ◌≤◌, ◌%◌, ◌^◌, ℕ, IsTrue, List, length, Some, arith}
use Rattle.std.proofs.lemmas.Bool.{lt-ltb, and_from, Decides.nat_tests}
use Rattle.dspec_record.specs.Words.{IsSaid, layout, Record, record_text, stamp_fits, packed_record, claimed, enabled, table_accepts, table_shape, table_text}
use Rattle.dspec_record.specs.declared.{field.Field.Field, header.Header.Header}
use Rattle.dspec_record.proofs.{Claiming.IsClaimed, Claiming.claimed-is, Cutting.cuts_fit, Gets.enabled-row, Gets.table_text-is}

-- the claimed row is enabled
pub claimed-enabled : (rows : List (List Field)) (claim n : ℕ) (fs : List Field) → claimed rows claim n ≡ Some fs → length fs ≤ 8 → enabled rows (claim % 2 ^ 32) ≡ Some fs
claimed-enabled rows claim n fs is few = grind (arith, nat_tests, IsClaimed, claimed-is, enabled-row)

pub claimed-accepted : (h : Header) (rows : List (List Field)) (claim stamp n : ℕ) (fs : List Field) (ws : List ℕ) → claimed rows claim n ≡ Some fs → length fs ≤ 8
    → IsTrue (stamp_fits h stamp) → IsTrue (table_accepts h (enabled rows) (packed_record (claim % 2 ^ 32) stamp fs ws))
claimed-accepted h rows claim stamp n fs ws is few fit = grind (arith, nat_tests, and_from, lt-ltb, claimed-enabled, cuts_fit)

pub laid-enabled : (h k : Header) (rows : List (List Field)) (fs : List Field) (r : Record) → enabled rows r.epid ≡ Some fs → h ≡ k
    → IsSaid (table_shape h (enabled rows)) (table_text h (enabled rows)) r (record { shape = layout k fs; text = record_text k fs r })
laid-enabled h k rows fs r row same = grind (arith, nat_tests, table_text-is)

-- What `get` answers for a table of fields.
use Rattle.std.proofs.Common.{◌≡◌, ◌≢◌, ◌≤◌, ◌<◌, ◌^◌, ◌&&◌, ℕ, Bool, false, cond, IsTrue, List, [], length, take, Option, Some, None, sym, ◌∙◌, ap, arith}
use Rattle.std.proofs.lemmas.Bool.{lt-ltb, le-leb, Decides.nat_tests}
use Rattle.std.specs.{Option.option_map_or, Prelude.unwrap_or, Prelude.option_and_then}
use Rattle.dspec_record.specs.Words.{Record, layout, little_endian, record_text, stamp_fits, fits, IsRead, BeginsWith, FieldTable, table_accepts, table_text, within_limit, enabling_of, enabled}
use Rattle.dspec_record.specs.Words.{length-record_text}
use Rattle.dspec_record.specs.declared.{field.Field.Field, header.Header.Header}

enabled-is : (rows : List (List Field)) (epid : ℕ) (fs : List Field) → enabling_of rows epid ≡ Some fs → length fs ≤ 8 → enabled rows epid ≡ Some fs
enabled-is rows epid fs is few =
    ap (option_and_then within_limit) is ∙ ap (λ b. cond b (Some fs) None) (le-leb (length fs) 8 few)

-- the table's row of an EPID, from the enabling that was found and the fields that it gave
pub enabled-row : (rows : List (List Field)) (epid : ℕ) (found fs : List Field) → Some found ≡ enabling_of rows epid → fs ≡ found → length fs ≤ 8 → enabled rows epid ≡ Some fs
enabled-row rows epid found fs is same few = enabled-is rows epid fs (sym is ∙ ap Some (sym same)) few

row-accepts : (o : Option (List Field)) (fs : List Field) (r : Record) → o ≡ Some fs → option_map_or (λ gs. fits gs r.values) o false ≡ fits fs r.values
row-accepts o fs r is = ap (λ p. option_map_or (λ gs. fits gs r.values) p false) is

pub table_text-is : (h : Header) (fields : FieldTable) (fs : List Field) (r : Record) → fields r.epid ≡ Some fs → table_text h fields r ≡ record_text h fs r
table_text-is h fields fs r is = ap (λ o. record_text h (unwrap_or o []) r) is

pub BeginsWith-read : (h : Header) (fields : FieldTable) (fs : List Field) (epid : ℕ) (bytes : List ℕ) (r : Record) (size : ℕ) → fields epid ≡ Some fs → epid < 2 ^ 32
    → size ≡ (layout h fs).size → IsRead h fs epid (take size bytes) r → BeginsWith (table_accepts h fields) (table_text h fields) bytes r size
BeginsWith-read h fields fs epid bytes r size is fits32 size_is read =
    let row : fields r.epid ≡ Some fs = ap fields read.epid_is ∙ is in
    let small : r.epid < 2 ^ 32 = omega (arith, read.epid_is) in
    let values : Bool = option_map_or (λ gs. fits gs r.values) (fields r.epid) false in
    record {
      is_accepted =
          ap (λ b. b && (stamp_fits h r.stamp && values)) (lt-ltb r.epid (2 ^ 32) small)
          ∙ ap (λ b. b && values) read.stamp_fit
          ∙ row-accepts (fields r.epid) fs r row ∙ read.fit;
      size = size_is ∙ sym (length-record_text h fs r read.fit) ∙ ap length (sym (table_text-is h fields fs r row));
      front = sym read.text_is ∙ sym (table_text-is h fields fs r row);
    }

pub fits-accepted : (h : Header) (fields : FieldTable) (fs : List Field) (r : Record) → fields r.epid ≡ Some fs → IsTrue (table_accepts h fields r) → IsTrue (fits fs r.values)
fits-accepted h fields fs r row accepted = grind (arith, nat_tests, row-accepts)

-- where no record of the EPID's fields has the text, no accepted record has it
pub no_text-unread : (h : Header) (fields : FieldTable) (fs : List Field) (epid : ℕ) (text : List ℕ) → fields epid ≡ Some fs → epid < 2 ^ 32
    → take 4 text ≡ little_endian 4 epid → ((r : Record) → IsTrue (stamp_fits h r.stamp) → IsTrue (fits fs r.values) → text ≢ record_text h fs r) → (r : Record)
    → IsTrue (table_accepts h fields r) → text ≢ table_text h fields r
no_text-unread h fields fs epid text is fits32 front unread r accepted = grind (arith, nat_tests, fits-accepted, table_text-is)

pub length-accepted : (h : Header) (fields : FieldTable) (fs : List Field) (r : Record) → fields r.epid ≡ Some fs → IsTrue (table_accepts h fields r)
    → length (table_text h fields r) ≡ (layout h fs).size
length-accepted h fields fs r row accepted =
    ap length (table_text-is h fields fs r row) ∙ length-record_text h fs r (fits-accepted h fields fs r row accepted)

-- What stands before the fields, written in words of eight bytes.
use Rattle.std.proofs.{Common.◌≡◌, Common.◌≤◌, Common.◌<◌, Common.◌+◌, Common.◌*◌, Common.◌/◌, Common.◌%◌, Common.◌^◌, Common.◌++◌, Common.ℕ, Common.List, Common.length, Common.take, Common.sym}
use Rattle.std.proofs.{Common.◌∙◌, Common.ap, Common.subst, Common.arith, Math.Seq.take-append-add, lemmas.Bool.Decides.nat_tests, lemmas.List.take-take}
use Rattle.dspec_record.specs.{Words.fields_start, Words.Record, Words.little_endian, Words.header_text, Words.IsClearAfter, declared.field.Field.TheVariants.Four, declared.header.Header.Header}
use Rattle.dspec_record.specs.declared.header.Header.TheVariants as header
use Rattle.dspec_record.proofs.{Clearing.written-clear, LittleEndian.little_endian-parts, LittleEndian.take-little_endian}

-- the EPID alone
front-one : (epid : ℕ) (out : List ℕ) → take 8 out ≡ little_endian 8 epid → take 4 out ≡ little_endian 4 epid
front-one epid out put =
    sym (take-take 4 8 out (omega arith)) ∙ ap (take 4) put ∙ take-little_endian 4 8 epid (omega arith)

-- the EPID, and after it the stamp's two words
front-two : (epid stamp word : ℕ) (begun out : List ℕ) → epid < 2 ^ 32 → word ≡ epid + stamp % 2 ^ 32 * 2 ^ 32 → length (take 8 begun) ≡ 8 → take 8 begun ≡ little_endian 8 word
    → take 16 out ≡ take 8 begun ++ little_endian 8 (stamp / 2 ^ 32)
    → take 12 out ≡ little_endian 4 epid ++ (little_endian 4 (stamp % 2 ^ 32) ++ little_endian 4 (stamp / 2 ^ 32))
front-two epid stamp word begun out small is long first put = grind (arith, nat_tests, take-take, take-append-add, take-little_endian, little_endian-parts)

-- the same under a header that is one of the two, with the zeros after it
pub one-put : (h : Header) (r : Record) (word : ℕ) (out : List ℕ) → h ≡ header.One → word ≡ r.epid → take 8 out ≡ little_endian 8 word → take (fields_start h) out ≡ header_text h r
one-put h r word out is same put = grind (arith, nat_tests, front-one)

pub one-clear : (h : Header) (word : ℕ) (old out : List ℕ) → h ≡ header.One → word < 2 ^ 32 → 8 ≤ length old → take 8 out ≡ little_endian 8 word → IsClearAfter (fields_start h) out
one-clear h word old out is small room put = grind (arith, nat_tests, written-clear)

pub two-put : (h : Header) (r : Record) (epid stamp word : ℕ) (begun out : List ℕ) → h ≡ header.Two → epid ≡ r.epid → stamp ≡ r.stamp → epid < 2 ^ 32 → word ≡ epid + stamp % 2 ^ 32 * 2 ^ 32
    → length (take 8 begun) ≡ 8 → take 8 begun ≡ little_endian 8 word → take 16 out ≡ take 8 begun ++ little_endian 8 (stamp / 2 ^ 32) → take (fields_start h) out ≡ header_text h r
two-put h r epid stamp word begun out is same_epid same_stamp small made long first put = grind (arith, nat_tests, front-two)

pub two-clear : (h : Header) (stamp : ℕ) (begun out : List ℕ) → h ≡ header.Two → stamp < 2 ^ 64 → 16 ≤ length begun → take 16 out ≡ take 8 begun ++ little_endian 8 (stamp / 2 ^ 32)
    → IsClearAfter (fields_start h) out
two-clear h stamp begun out is small room put =
    let Clear : Header → Type 0 = λ k. IsClearAfter (fields_start k) out in
    subst Clear (sym is) (written-clear Four (stamp / 2 ^ 32) 8 8 begun out put (omega arith) (omega arith) (omega arith))

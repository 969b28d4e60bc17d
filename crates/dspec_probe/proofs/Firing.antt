-- A record of a probe, written by the probe's own fields.
use Rattle.std.proofs.{Common.◌≡◌, Common.◌≤◌, Common.◌<◌, Common.◌+◌, Common.◌*◌, Common.◌/◌, Common.◌%◌, Common.◌^◌, Common.◌∙◌, Common.ℕ, Common.List, Common.IsTrue, Common.length, Common.take}
use Rattle.std.proofs.{Common.get_or, Common.replicate, Common.sym, Common.ap, Common.subst, Common.arith, Math.Nat.pow-le-pow_right, lemmas.List.length-take-le}
use Rattle.dspec_probe.specs.Words.{fields_start, fields_end, layout, rounded_up, number_of_words, value_number, packed_record, ArePacked, IsClean, Record, record_text, fits, fields_end-ge}
use Rattle.dspec_probe.specs.Words.{length-record_text, Field, Header}
use Rattle.dspec_record.specs.declared.header.Header.TheVariants as header
use Rattle.dspec_record.proofs.{Cutting.packed, Masking.pow256, Masking.ends-within, PackedRecords.first-zeros, PackedRecords.room-of, PackedValues.value_number-packed}
use Rattle.dspec_record.proofs.{PackedValues.value_number-below, PackedValues.record-of_number, PackedValues.clean-of_number, PackedValues.taken-number}

-- the last field ends within nine words
pub end-near : (fs : List Field) (end : ℕ) → length fs ≤ 8 → end ≡ fields_end 4 fs → end ≤ 72
end-near fs end few is = omega (arith, is, ends-within fs few)

-- the words that hold a probe's values: as many as the last field needs
pub record AreWords (fs : List Field) (vs : List ℕ) (n : ℕ) (ws : List ℕ) : Type 0 where
  pub some : 0 < n
  pub few : n ≤ 9
  pub long : length (take n ws) ≡ n
  pub whole : rounded_up (layout header.One fs).size 8 ≡ 8 * n
  pub room : (layout header.One fs).size ≤ 8 * length (take n ws)
  pub clean : IsClean fs (take n ws)
  pub zeros : get_or (take n ws) 0 0 % 2 ^ 32 ≡ 0
  pub record_is : (epid stamp : ℕ) → packed_record epid stamp fs (take n ws) ≡ record { epid = epid; stamp = stamp; values = vs }

pub words-of_values : (fs : List Field) (vs ws : List ℕ) (end : ℕ) → length fs ≤ 8 → IsTrue (fits fs vs) → length ws ≡ 9 → ArePacked 4 fs vs (replicate 9 0) end ws
    → AreWords fs vs ((end + 7) / 8) ws
words-of_values fs vs ws end few fit nine packed_in =
    let n : ℕ = (end + 7) / 8 in
    let last : ℕ = fields_end 4 fs in
    let at : end ≡ last = packed_in.end_is in
    let past : 4 ≤ last = fields_end-ge 4 fs in
    let short : n ≤ 9 = omega (arith, end-near fs end few at) in
    let long : length (take n ws) ≡ n = length-take-le n ws (omega (arith, short, nine)) in
    let is : number_of_words ws ≡ value_number 4 fs vs = omega (arith, packed_in.added) in
    let bits : 8 * (8 * n) ≡ 64 * n = omega arith in
    let most : 256 ^ last ≤ 2 ^ (64 * n) =
    subst (λ p. 256 ^ last ≤ p) (pow256 (8 * n) ∙ ap (λ b. 2 ^ b) bits) (pow-le-pow_right {n = 256} (omega arith) {i = last} {j = 8 * n} (omega (arith, at))) in
    let number : number_of_words (take n ws) ≡ packed 4 fs vs * 256 ^ 4 =
    taken-number n ws (omega (arith, is, value_number-below fs vs fit, most)) ∙ is ∙ value_number-packed 4 fs vs in
    let room : (layout header.One fs).size ≤ 8 * length (take n ws) = omega (arith, at, long) in
    let clean : IsClean fs (take n ws) = clean-of_number fs vs (take n ws) fit room number in
    record {
      some = omega (arith, at, past);
      few = short;
      long = long;
      whole = omega (arith, at);
      room = room;
      clean = clean;
      zeros = first-zeros fs (take n ws) (omega (arith, long, at, past)) clean;
      record_is = λ epid stamp. record-of_number epid stamp fs vs (take n ws) fit number;
    }

-- there is room for them, and for the stamp's before them
pub room-for_words : (h k : Header) (fs : List Field) (vs : List ℕ) (n room : ℕ) (ws : List ℕ) (r : Record) → k ≡ h → IsTrue (fits fs r.values) → AreWords fs vs n ws
    → rounded_up (length (record_text h fs r)) 8 ≤ room → fields_start k + 8 * length (take n ws) ≤ room + 4
room-for_words h k fs vs n room ws r is fit words enough =
    let Room : ℕ → Type 0 = λ size. rounded_up size 8 ≤ room in
    let Start : Header → Type 0 = λ d. fields_start d + 8 * n ≤ room + 4 in
    let own : fields_start k + 8 * n ≤ room + 4 = subst Start (sym is) (room-of h fs n room words.whole (subst Room (length-record_text h fs r fit) enough)) in
    omega (arith, own, words.long)

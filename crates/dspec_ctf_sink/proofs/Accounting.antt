-- Nothing is lost uncounted.
use Rattle.std.proofs.Common.{◌≡◌, ◌≢◌, ◌⊎◌, ◌<◌, ◌+◌, ◌^◌, ◌∙◌, ℕ, List, [], ap, arith, inl, inr, length, refl}
use Rattle.std.proofs.lemmas.{List.get_or-set_same, List.get_or-set_other, Option.get_or_from_slice_get}
use Rattle.std.specs.Prelude.{None, slice_index, slice_set}
use Rattle.dspec_ctf_sink.specs.Words.{Record, EnabledRows, IsText, HasSoManyRecords, capped, missed_more, AddsPacket, AreNextOf, GetsPacket, IsNothing, LosesPacket, Tracing, Accounts, missed_on}
use Rattle.dspec_ctf_sink.specs.Words.{Batch}

-- what fits isn't capped
pub capped_below : (n : ℕ) → n < 2 ^ 64 → capped n ≡ n
capped_below n below = omega arith

-- the next packets are those of a text
text_of : (e : EnabledRows) (uuid : List ℕ) (missed cpu told : ℕ) (text bytes : List ℕ) → AreNextOf e uuid missed cpu text told bytes → (rs : List Record) × IsText e text rs
text_of e uuid missed cpu told text bytes (inl (first, grown)) = (grown.are_packets.read, grown.are_packets.is_text)
text_of e uuid missed cpu told text bytes (inr (later, are)) = (are.read, are.is_text)

-- what is counted of a CPU whose count was changed, and of the others
module _ (old new : List ℕ) (cpu : ℕ) (there : cpu < length old) where
  pub changed : (n : ℕ) → new ≡ slice_set old cpu n → slice_index new cpu ≡ n
  changed n is = ap (λ ms. slice_index ms cpu) is ∙ get_or-set_same old cpu n 0 there

  pub other : (n : ℕ) → new ≡ slice_set old cpu n → (c : ℕ) → c ≢ cpu → slice_index new c ≡ slice_index old c
  other n is c differs = ap (λ ms. slice_index ms c) is ∙ get_or-set_other old cpu c n 0 differs

  pub counted : (n : ℕ) → slice_index old cpu + n < 2 ^ 64 → new ≡ missed_more old cpu n → slice_index new cpu ≡ slice_index old cpu + n
  counted n fits is = changed (capped (slice_index old cpu + n)) is ∙ capped_below (slice_index old cpu + n) fits

module _ (e : EnabledRows) (old new : Tracing) (b : Batch) (there : b.cpu < length old.missed) where
  of_nothing : IsNothing old b → new ≡ record old { last = None } → Accounts e old b new
  of_nothing (text, drops, told) is =
      let same : missed_on new b.cpu ≡ missed_on old b.cpu = ap (λ t. missed_on t b.cpu) is in
      record {
        read = [];
        is_text = text;
        packed = 0;
        packed_is = inr refl;
        sum = omega (arith, same, drops);
        others = λ c differs. ap (λ t. missed_on t c) is;
      }

  of_added : AddsPacket e old b new → Accounts e old b new
  of_added adds =
      let now : missed_on new b.cpu ≡ adds.total = changed old.missed new.missed b.cpu there adds.total adds.missed in
      let was : missed_on old b.cpu ≡ adds.packet_is.before = get_or_from_slice_get old.missed b.cpu adds.packet_is.before 0 adds.packet_is.there in
      let sum : adds.total ≡ adds.packet_is.before + b.drops = adds.packet_is.missed_is in
      let read = text_of e old.uuid adds.total b.cpu (slice_index old.told b.cpu) b.buffer.text adds.bytes adds.packet_is.packet_is in
      record {
        read = read.0;
        is_text = read.1;
        packed = length read.0;
        packed_is = inl (adds, refl);
        sum = omega (arith, now, was, sum);
        others = other old.missed new.missed b.cpu there adds.total adds.missed;
      }

  module _ (is_one : (rs : List Record) × IsText e b.buffer.text rs)
      (fits : (rs : List Record) → IsText e b.buffer.text rs → missed_on old b.cpu + b.drops + length rs < 2 ^ 64) where
    of_lost : (n : ℕ) → HasSoManyRecords e b n → new.missed ≡ slice_set old.missed b.cpu (capped (missed_on old b.cpu + (b.drops + n))) → Accounts e old b new
    of_lost n (inl (rs, (text, is))) missed =
        let below : missed_on old b.cpu + b.drops + length rs < 2 ^ 64 = fits rs text in
        let all : n ≡ length rs = is ∙ capped_below (length rs) (omega (arith, below)) in
        let now : missed_on new b.cpu ≡ missed_on old b.cpu + (b.drops + n) = counted old.missed new.missed b.cpu there (b.drops + n) (omega (arith, below, all)) missed in
        record {
          read = rs;
          is_text = text;
          packed = 0;
          packed_is = inr refl;
          sum = omega (arith, now, all);
          others = other old.missed new.missed b.cpu there (capped (missed_on old b.cpu + (b.drops + n))) missed;
        }
    of_lost n (inr (unread, is)) missed = elim (unread is_one.0 is_one.1) [ ]

    came : (IsNothing old b × (new ≡ record old { last = None })) ⊎ ((IsNothing old b → ⊥) × (AddsPacket e old b new ⊎ LosesPacket e old b new)) → Accounts e old b new
    came (inl (nothing, is)) = of_nothing nothing is
    came (inr (some, inl adds)) = of_added adds
    came (inr (some, inr loses)) = of_lost loses.counted.records loses.counted.has loses.counted.missed

    pub accounts : GetsPacket e old b new → Accounts e old b new
    accounts gets = came gets.came

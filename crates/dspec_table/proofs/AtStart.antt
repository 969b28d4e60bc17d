-- The rule holds at the start.
use Rattle.std.proofs.Common.{◌≡◌, ◌≢◌, ℕ, zero, suc, ◌+◌, ◌≤◌, ◌<◌, true, false, ◌==◌, List, [], ◌∷◌, length, replicate, refl, sym, ap, ◌∙◌, subst, ⊎_elim, inr, arith}
use Rattle.std.proofs.Math.ListN.{length-replicate}
use Rattle.std.proofs.lemmas.Bool.Decides.{nat_tests}
use Rattle.std.specs.Prelude.{slice_index}
use mathlib.Core.Option.{some, some-injective, some-ne-none}
use lib.ListN.{get_elem?}
use Rattle.atomic_table.specs.Table.{opening}
use Rattle.dspec_table.specs.{Words.Config, Words.of_cpu, Words.of_consumer, Words.here, Words.times_among, Words.Parts, Words.HaveSeats, Words.Knows, Words.KnowsAsks, Words.WordsRule}
use Rattle.dspec_table.specs.{Words.cpus_from, Words.newcomer, Words.slot_place, Words.word_count, Words.activity_place, Words.ack_place, declared.rule.View.View}
use Rattle.dspec_deeds.proofs.TestLemmas.{either_way, same_number, numbers_differ}

zeros_at : (n i : ℕ) → slice_index (replicate n 0) i ≡ 0
zeros_at zero i = refl
zeros_at (suc n) zero = refl
zeros_at (suc n) (suc i) = zeros_at n i

none_below : (c a n : ℕ) → c < a → times_among (of_cpu c) (cpus_from a n) ≡ 0
none_below c a zero lt = refl
none_below c a (suc n) lt =
    let apart : (c == a) ≡ false = grind (arith, nat_tests) in
    let r = none_below c (suc a) n (omega arith) in
    rw (apart, r) (omega arith)

cpu_once : (c a n : ℕ) → a ≤ c → c < a + n → times_among (of_cpu c) (cpus_from a n) ≡ 1
cpu_once c a zero le lt = absurd (omega arith)
cpu_once c a (suc n) le lt = ⊎_elim
    (λ (t : (c == a) ≡ true). let e = same_number c a t in let r = none_below c (suc a) n (omega arith) in rw (t, r) (omega arith))
    (λ (f : (c == a) ≡ false). let apart : c ≢ a = numbers_differ c a f in let r = cpu_once c (suc a) n (omega arith) (omega arith) in rw f (omega arith))
    (either_way (c == a))

none_beyond : (c a n : ℕ) → a + n ≤ c → times_among (of_cpu c) (cpus_from a n) ≡ 0
none_beyond c a zero le = refl
none_beyond c a (suc n) le =
    let apart : (c == a) ≡ false = grind (arith, nat_tests) in
    let r = none_beyond c (suc a) n (omega arith) in
    rw (apart, r) (omega arith)

no_consumer : (a n : ℕ) → times_among of_consumer (cpus_from a n) ≡ 0
no_consumer a zero = refl
no_consumer a (suc n) = let r = no_consumer (suc a) n in omega arith

new_seats : (k : Config) → HaveSeats k (newcomer k ∷ [])
new_seats k = grind (arith, nat_tests, cpu_once, no_consumer, none_beyond)

no_parts : (a n : ℕ) → Parts [] (cpus_from a n)
no_parts a zero = tt
no_parts a (suc n) = (refl, no_parts (suc a) n)

new_known : (k : Config) (by : ℕ) (v : View) → get_elem? (newcomer k ∷ []) by ≡ some v → Knows k [] v
new_known k zero v e = subst (Knows k []) (some-injective (newcomer k) v e) (record { config = inr refl; parts = (refl, no_parts 0 k.cpus); since = here; told = here; calm = refl; past = tt })
new_known k (suc by) v e = absurd (some-ne-none v (sym e))

new_asks : (k : Config) (ws : List ℕ) → ws ≡ replicate (word_count k) 0 → (by : ℕ) (v : View) → get_elem? (newcomer k ∷ []) by ≡ some v → KnowsAsks k ws v
new_asks k ws is zero v e = grind (arith, nat_tests, zeros_at)
new_asks k ws is (suc by) v e = absurd (some-ne-none v (sym e))

pub starts : (k : Config) (ws : List ℕ) → ws ≡ replicate (word_count k) 0 → WordsRule k (opening ws [] (newcomer k))
starts k ws is = record {
  log = [];
  sound = tt;
  rests = refl;
  shows = record {
    count = ap length is ∙ length-replicate (word_count k) 0;
    active = ap (λ l. slice_index l activity_place) is ∙ zeros_at (word_count k) activity_place;
    slots = λ s a b. ap (λ l. slice_index l (slot_place s)) is ∙ zeros_at (word_count k) (slot_place s);
    acks = λ c s x a b. ap (λ l. slice_index l (ack_place k c s)) is ∙ zeros_at (word_count k) (ack_place k c s);
  };
  knows = new_known k;
  authors = tt;
  seats = new_seats k;
  asks = new_asks k ws is;
}

-- No two words lie at one place.
use Rattle.std.proofs.{Common.◌≡◌, Common.◌≢◌, Common.ℕ, Common.◌+◌, Common.◌*◌, Common.◌≤◌, Common.◌<◌, Common.arith, lemmas.Bool.Decides.nat_tests}
use Rattle.dspec_table.specs.Words.{Config, slot_place, slot_at, group_width, group_place, ask_place, ack_place, word_count}

-- activity and the slots' words lie before the groups
pub before_groups : (k : Config) (c : ℕ) → k.nspec * 8 + 16 ≤ group_place k c
before_groups k c = let x : ℕ = c * group_width k in let goal : k.nspec * 8 + 16 ≤ k.nspec * 8 + 16 + x = omega arith in goal

pub ack_within : (k : Config) (c s : ℕ) → c < k.cpus → s ≤ k.nspec → ack_place k c s < word_count k
ack_within = grind (arith, nat_tests)

pub ask_within : (k : Config) (c : ℕ) → c < k.cpus → ask_place k c < word_count k
ask_within = grind (arith, nat_tests)

pub one_group : (k : Config) (c d s t : ℕ) → s ≤ k.nspec → t ≤ k.nspec → group_place k c + s ≡ group_place k d + t → c ≡ d
one_group k c d s t a b e = grind (arith, nat_tests)

pub one_ask : (k : Config) (c d : ℕ) → ask_place k c ≡ ask_place k d → c ≡ d
one_ask k c d e = one_group k c d 0 0 (omega arith) (omega arith) (let x : ℕ = group_place k c in let y : ℕ = group_place k d in let e' : x ≡ y = e in let goal : x + 0 ≡ y + 0 = omega arith in goal)

pub no_ask : (k : Config) (c d s : ℕ) → 1 ≤ s → s ≤ k.nspec → ack_place k c s ≢ ask_place k d
no_ask k c d s one most e =
    let x : ℕ = group_place k c in
    let y : ℕ = group_place k d in
    let e' : x + s ≡ y = e in
    let level : x + s ≡ y + 0 = omega arith in
    let same : c ≡ d = one_group k c d s 0 most (omega arith) level in
    let here : x ≡ y = (λ i. group_place k (same i)) in
    let one' : 1 ≤ s = one in
    absurd (omega arith)

-- what lies in the group of one CPU lies eight places or more before what lies in a later one
pub far_apart : (k : Config) (c d s t : ℕ) → c < d → s ≤ k.nspec → group_place k c + s + 8 ≤ group_place k d + t
far_apart = grind (arith, nat_tests)

-- the slot of a slot's place
pub slot_there : (s : ℕ) → slot_at (slot_place s) ≡ s
slot_there s = grind (arith, nat_tests)

pub slot_within : (k : Config) (s : ℕ) → s ≤ k.nspec → slot_place s < word_count k
slot_within = grind (arith, nat_tests)

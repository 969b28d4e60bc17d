-- Cited by calls. What the steps on the asks do.
use Rattle.std.specs.Prelude.{ℕ, zero, suc, ◌≡◌, ◌≤◌, List, [], ◌∷◌, slice_index}
use Rattle.dspec_table.specs.{Layout.ask_place, Steps.Found, Steps.with_asks, Words.Outside.Deed, declared.rule.View.View}

-- the asks with a new one of the CPU c; a CPU that the list doesn't reach has 0
abbrev pub with_ask : List ℕ → ℕ → ℕ → List ℕ
with_ask [] zero n = n ∷ []
with_ask [] (suc c) n = 0 ∷ with_ask [] c n
with_ask (x ∷ xs) zero n = n ∷ xs
with_ask (x ∷ xs) (suc c) n = x ∷ with_ask xs c n

-- the consumer asks
abbrev pub StoredAsk : ℕ → ℕ → View → View → Type 0
StoredAsk c n v w = (log : List Deed) × Found v log × (w ≡ with_asks (ask_place v.config c) v log [] (with_ask v.asks c n))

-- the same, of whichever CPU the word is of
abbrev pub StoredAskAt : ℕ → View → ℕ → View → Type 0
StoredAskAt place v n w =
    (log : List Deed) × (asks : List ℕ) × Found v log × ((c : ℕ) → place ≡ ask_place v.config c → asks ≡ with_ask v.asks c n)
    × (w ≡ with_asks place v log [] asks)

-- a CPU is shown an ask that is no less than any that it knew
abbrev pub LoadedAsk : ℕ → View → ℕ → View → Type 0
LoadedAsk c v n w = (log : List Deed) × Found v log × (slice_index v.asks c ≤ n) × (w ≡ with_asks (ask_place v.config c) v log [] (with_ask v.asks c n))

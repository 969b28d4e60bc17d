-- What a deed does for a CPU: nothing, it offers a record, or it empties a speculative buffer; other CPUs' deeds, and the CPU's own offers.
use Rattle.std.proofs.Common.{arith, ◌≡◌, ℕ, ◌+◌, Bool, false, ◌==◌, if◌then◌else◌, List, [], ◌∷◌, length, Option, None, Some}
use Rattle.dspec_deeds.specs.Words.{Record, Speculation, same_id, Offer, offered_by, offers, empties, held, accepts, accepts_now, traces_dropped_now, specdrops_now, loses_now, discards_now}
use Rattle.dspec_deeds.specs.Words.{voids_now, adds_now, Spoken, Fate, taken, waiting, first_fate, fate_by, is_taken, is_dropped, is_discarded, is_void, is_waiting, offered_to}
use Rattle.dspec_deeds.specs.declared.deed.{DecideFate.DecideFate, Deed.Deed, Deed.TheVariants.Trace, Deed.TheVariants.Speculate, Deed.TheVariants.Commit, Deed.TheVariants.Discard}
use Rattle.dspec_deeds.specs.declared.deed.{Deed.TheVariants.Settle, SpeculateFate.SpeculateFate, TraceFate.TraceFate}
use Rattle.dspec_deeds.proofs.TestLemmas.{number_is_itself}

-- the record that the CPU offers next
abbrev pub next_offer : ℕ → Record → List Deed → Offer
next_offer c r h = record { number = offers c h; content = r }

-- the record waits for this speculation
abbrev pub waits_for : Speculation → Fate → Bool
waits_for id (waiting j) = same_id id j
waits_for id f = false

-- the entry that a record with this fate gets in the speculative buffers
abbrev pub spoken_as : Fate → Offer → List Spoken
spoken_as (waiting id) o = (id, o) ∷ []
spoken_as f o = []

-- a record taken at once was offered to no speculation, and a waiting one to that which it waits for
abbrev pub Sent : Fate → Option Speculation → Type 0
Sent taken x = x ≡ None
Sent (waiting id) x = x ≡ Some id
Sent f x = Unit {0}

-- what a deed adds to the counts of a report when so many records get a fate
pub record Counts (c : ℕ) (d : Deed) (f : Fate) (n : ℕ) : Type 0 where
  pub accepts : accepts_now c d ≡ (if is_taken f then n else 0)
  pub drops : traces_dropped_now c d + specdrops_now c d + loses_now c d ≡ (if is_dropped f then n else 0)
  pub discards : discards_now c d ≡ (if is_discarded f then n else 0)
  pub voids : voids_now c d ≡ (if is_void f then n else 0)

-- the deed does nothing to the CPU's records
pub record Idle (c : ℕ) (d : Deed) (h : List Deed) : Type 0 where
  pub offered : offered_by c d ≡ None
  pub empty : (id : Speculation) → empties c id d ≡ false
  pub holds : (id : Speculation) → held c id (d ∷ h) ≡ held c id h
  pub accepted : accepts c d h ≡ []
  pub added : adds_now c d h ≡ []
  pub counts : Counts c d taken 0

-- the deed offers a record, which gets this fate
pub record Offers (c : ℕ) (d : Deed) (h : List Deed) (r : Record) (f : Fate) : Type 0 where
  pub offered : offered_by c d ≡ Some r
  pub first : first_fate d ≡ f
  pub sent : Sent f (offered_to d)
  pub empty : (id : Speculation) → empties c id d ≡ false
  pub holds : (id : Speculation) → held c id (d ∷ h) ≡ (if waits_for id f then next_offer c r h ∷ held c id h else held c id h)
  pub accepted : accepts c d h ≡ (if is_taken f then next_offer c r h ∷ [] else [])
  pub added : adds_now c d h ≡ spoken_as f (next_offer c r h)
  pub counts : Counts c d f 1

-- the deed empties the buffer of this speculation, and its records get this fate
pub record Empties (c : ℕ) (d : Deed) (h : List Deed) (id : Speculation) (f : Fate) : Type 0 where
  pub offered : offered_by c d ≡ None
  pub gone : is_waiting f ≡ false
  pub fates : (j : Speculation) → fate_by d j ≡ f
  pub empty : (j : Speculation) → empties c j d ≡ same_id j id
  pub holds : (j : Speculation) → held c j (d ∷ h) ≡ (if same_id j id then [] else held c j h)
  pub accepted : accepts c d h ≡ (if is_taken f then held c id h else [])
  pub added : adds_now c d h ≡ []
  pub counts : Counts c d f (length (held c id h))

-- what a deed does: nothing, an offer or an emptying
pub data Effect (c : ℕ) (d : Deed) (h : List Deed) : Type 0 where
  idle : Idle c d h → Effect c d h
  offering : (r : Record) (f : Fate) → Offers c d h r f → Effect c d h
  emptying : (id : Speculation) (f : Fate) → Empties c d h id f → Effect c d h

-- the deeds of another CPU
pub other_trace : (c a : ℕ) (r : Record) (f : TraceFate) (h : List Deed) → (c == a) ≡ false → Idle c (Trace a r f) h
other_trace c a r f h e = grind arith

-- a speculative record of another CPU
pub other_speculate : (c a : ℕ) (id : Speculation) (r : Record) (f : SpeculateFate) (h : List Deed) → (c == a) ≡ false → Idle c (Speculate a id r f) h
other_speculate c a id r f h e = grind arith

-- a commit by another CPU
pub other_commit : (c a : ℕ) (id : Speculation) (f : DecideFate) (h : List Deed) → (c == a) ≡ false → Idle c (Commit a id f) h
other_commit c a id f h e = grind arith

-- a discard by another CPU
pub other_discard : (c a : ℕ) (id : Speculation) (f : DecideFate) (h : List Deed) → (c == a) ≡ false → Idle c (Discard a id f) h
other_discard c a id f h e = grind arith

-- a settlement by another CPU
pub other_settle : (c a : ℕ) (id : Speculation) (f : DecideFate) (h : List Deed) → (c == a) ≡ false → Idle c (Settle a id f) h
other_settle c a id f h e = grind arith

-- the deeds of the CPU
pub own_trace : (c : ℕ) (r : Record) (f : TraceFate) (h : List Deed) → Offers c (Trace c r f) h r (first_fate (Trace c r f))
own_trace c r f h = let e = number_is_itself c in grind arith

-- the CPU's own speculative record
pub own_speculate : (c : ℕ) (id : Speculation) (r : Record) (f : SpeculateFate) (h : List Deed) → Offers c (Speculate c id r f) h r (first_fate (Speculate c id r f))
own_speculate c id r f h = let e = number_is_itself c in grind arith

-- Believed. What is read off a CPU's own deeds: its offers, its buffers and its batches. The latest is at the head.
use Rattle.std.specs.Prelude.{ℕ, ◌+◌, ◌==◌, Bool, false, ◌&&◌, ◌||◌, List, [], ◌∷◌, ◌++◌, reverse, take, if◌then◌else◌, Option, Some, None}
use Rattle.dspec_deeds.specs.FateKinds.{trace_kept, trace_dropped, spoken_granted, spoken_kept, spoken_dropped, is_commit, is_discard, is_copied, is_lost}
use Rattle.dspec_deeds.specs.History.{same_id}
use Rattle.dspec_deeds.specs.Words.Outside.{Record, Piece, one, block, Speculation}
use Rattle.dspec_deeds.specs.declared.deed.Deed.{Deed, TheVariants.Trace, TheVariants.Scan, TheVariants.Speculate, TheVariants.Commit, TheVariants.Discard, TheVariants.Settle, TheVariants.Seal}

-- an offered record; the CPU's number of it, counted from 0, tells equal records apart
pub record Offer : Type 0 where
  pub number : ℕ
  pub content : Record

abbrev pub contents : List Offer → List Record
contents [] = []
contents (o ∷ os) = o.content ∷ contents os

-- the record that a deed of the CPU offers
abbrev pub offered_by : ℕ → Deed → Option Record
offered_by c (Trace a r f) = if c == a then Some r else None
offered_by c (Speculate a id r f) = if c == a then Some r else None
offered_by c d = None

abbrev pub one_if_record : Option Record → ℕ
one_if_record None = 0
one_if_record (Some r) = 1

-- how many records the CPU offered
abbrev pub offers : ℕ → List Deed → ℕ
offers c [] = 0
offers c (d ∷ h) = offers c h + one_if_record (offered_by c d)

-- whether a call counts towards the most that a CPU makes
abbrev pub is_call : ℕ → Deed → Bool
is_call c (Trace a r f) = c == a
is_call c (Scan a running) = c == a
is_call c (Speculate a id r f) = c == a
is_call c (Commit a id f) = c == a
is_call c (Discard a id f) = c == a
is_call c d = false

abbrev pub calls : ℕ → List Deed → ℕ
calls c [] = 0
calls c (d ∷ h) = calls c h + (if is_call c d then 1 else 0)

-- the record kept into the speculation, or none
abbrev pub keeps : ℕ → Speculation → Deed → Bool
keeps c id (Speculate a j r f) = spoken_kept f && ((c == a) && same_id id j)
keeps c id d = false

-- the CPU's own decision of the speculation, or its settlement, empties its buffer
abbrev pub empties : ℕ → Speculation → Deed → Bool
empties c id (Commit a j f) = is_commit f && ((c == a) && same_id id j)
empties c id (Discard a j f) = is_discard f && ((c == a) && same_id id j)
empties c id (Settle a j f) = (c == a) && same_id id j
empties c id d = false

-- the records in the CPU's buffer of the speculation
abbrev pub held_after : ℕ → Speculation → Deed → List Deed → List Offer → List Offer
held_after c id (Speculate a j r f) h os = if keeps c id (Speculate a j r f) then record { number = offers c h; content = r } ∷ os else os
held_after c id d h os = if empties c id d then [] else os

abbrev pub held : ℕ → Speculation → List Deed → List Offer
held c id [] = []
held c id (d ∷ h) = held_after c id d h (held c id h)

-- the records dropped from the CPU's buffer of the speculation since the CPU became a caller; none any more from where another
-- issue of the slot was granted to it
abbrev pub dropped_after : ℕ → Speculation → Deed → ℕ → ℕ
dropped_after c id (Speculate a j r f) n =
    if spoken_granted f && ((c == a) && (id.slot == j.slot)) then (if id.issue == j.issue then n + (if spoken_dropped f then 1 else 0) else 0) else n
dropped_after c id d n = n

abbrev pub dropped_in : ℕ → Speculation → List Deed → ℕ
dropped_in c id [] = 0
dropped_in c id (d ∷ h) = dropped_after c id d (dropped_in c id h)

-- the records that a deed takes into the CPU's principal buffer
abbrev pub accepts : ℕ → Deed → List Deed → List Offer
accepts c (Trace a r f) h = if trace_kept f && (c == a) then record { number = offers c h; content = r } ∷ [] else []
accepts c (Commit a id f) h = if is_copied f && (c == a) then held c id h else []
accepts c (Settle a id f) h = if is_copied f && (c == a) then held c id h else []
accepts c d h = []

-- what the CPU's principal buffers accepted
abbrev pub accepted : ℕ → List Deed → List Offer
accepted c [] = []
accepted c (d ∷ h) = accepts c d h ++ accepted c h

-- the accepted records in order of time: the CPU's stream
abbrev pub stream : ℕ → List Deed → List Record
stream c h = reverse (contents (accepted c h))

abbrev pub seals_now : ℕ → Deed → Bool
seals_now c (Seal a) = c == a
seals_now c d = false

abbrev pub seals : ℕ → List Deed → ℕ
seals c [] = 0
seals c (d ∷ h) = seals c h + (if seals_now c d then 1 else 0)

-- the pieces in the active principal buffer: those accepted since the last Seal, a copied buffer as one block
abbrev pub active_after : ℕ → Deed → List Deed → List Piece → List Piece
active_after c (Trace a r f) h ps = if trace_kept f && (c == a) then one r ∷ ps else ps
active_after c (Commit a id f) h ps = if is_copied f && (c == a) then block (contents (held c id h)) ∷ ps else ps
active_after c (Settle a id f) h ps = if is_copied f && (c == a) then block (contents (held c id h)) ∷ ps else ps
active_after c (Seal a) h ps = if c == a then [] else ps
active_after c d h ps = ps

abbrev pub active : ℕ → List Deed → List Piece
active c [] = []
active c (d ∷ h) = active_after c d h (active c h)

-- a refused reservation in the CPU's principal buffer
abbrev pub is_drop : ℕ → Deed → Bool
is_drop c (Trace a r f) = trace_dropped f && (c == a)
is_drop c (Commit a id f) = is_lost f && (c == a)
is_drop c (Settle a id f) = is_lost f && (c == a)
is_drop c d = false

-- a reservation in the CPU's principal buffer was refused before
abbrev pub full : ℕ → List Deed → Bool
full c [] = false
full c (d ∷ h) = is_drop c d || full c h

-- a batch: what was accepted, and the drops counted, between two Seals
pub record Sealing : Type 0 where
  pub offers : List Offer
  pub drops : ℕ

abbrev pub empty_batch : Sealing
empty_batch = record { offers = []; drops = 0 }

-- the batch that the next Seal seals
abbrev pub growing_after : ℕ → Deed → List Deed → Sealing → Sealing
growing_after c d h b =
    if seals_now c d then empty_batch
    else record { offers = accepts c d h ++ b.offers; drops = b.drops + (if is_drop c d then 1 else 0) }

abbrev pub growing : ℕ → List Deed → Sealing
growing c [] = empty_batch
growing c (d ∷ h) = growing_after c d h (growing c h)

-- the batches sealed
abbrev pub batches : ℕ → List Deed → List Sealing
batches c [] = []
batches c (d ∷ h) = if seals_now c d then growing c h ∷ batches c h else batches c h

-- the records of batches in order of time
abbrev pub batch_records : List Sealing → List Record
batch_records [] = []
batch_records (b ∷ bs) = reverse (contents b.offers) ++ batch_records bs

-- what was taken once the consumer has taken so many batches of the CPU, in order of time
abbrev pub taken : ℕ → ℕ → List Deed → List Record
taken n c h = batch_records (take n (reverse (batches c h)))

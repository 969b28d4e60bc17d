-- The batches of a CPU: how many were sealed, and the records of the one that grows.
use Rattle.std.proofs.Common.{◌≡◌, ℕ, Bool, true, false, if◌then◌else◌, List, [], ◌∷◌, ◌++◌, length, map, reverse, refl, sym, ap, ◌∙◌, arith, append-nil}
use Rattle.std.proofs.lemmas.{Bool.Decides.nat_tests, List.reverse-append}
use Rattle.dspec_core.specs.Words.{Record, one, records, Offer, accepted, active, contents, growing, batches, seals, stream, Deed}

-- the records of pieces that are records
pub records_of_ones : (rs : List Record) → records (map one rs) ≡ rs
records_of_ones [] = refl
records_of_ones (r ∷ rs) = ap (λ xs. r ∷ xs) (records_of_ones rs)

-- the records of offers put together
contents_append : (os more : List Offer) → contents (os ++ more) ≡ contents os ++ contents more
contents_append [] more = refl
contents_append (o ∷ os) more = ap (λ rs. o.content ∷ rs) (contents_append os more)

-- records that are accepted, or not, go after the stream
pub stream_more : (c : ℕ) (b : Bool) (os : List Offer) (h : List Deed)
    → stream c h ++ (if b then reverse (contents os) else []) ≡ reverse (contents ((if b then os else []) ++ accepted c h))
stream_more c true os h = sym (ap reverse (contents_append os (accepted c h)) ∙ reverse-append (contents os) (contents (accepted c h)))
stream_more c false os h = append-nil (stream c h)

-- the active buffer has the records of the batch that grows
pub active_grows : (c : ℕ) (h : List Deed) → records (active c h) ≡ contents (growing c h).offers
active_grows c [] = refl
active_grows c (d ∷ h) = grind (arith, nat_tests, active_grows c h, contents_append)

-- as many batches as seals
pub batches_sealed : (c : ℕ) (h : List Deed) → length (batches c h) ≡ seals c h
batches_sealed c [] = refl
batches_sealed c (d ∷ h) = grind (arith, nat_tests, batches_sealed c h)

-- What was taken from a CPU is a prefix of what its principal buffers accepted.
use Rattle.std.proofs.Common.{arith, ◌≡◌, ℕ, Bool, true, false, List, [], ◌∷◌, ◌++◌, reverse, take, drop, refl, sym, ap, ◌∙◌, append_assoc, true≢false}
use Rattle.std.proofs.lemmas.{Bool.Decides.nat_tests, List.reverse-append, List.append-nil, List.take-append-drop}
use Rattle.dspec_deeds.specs.Words.{Offer, contents, accepts, accepted, stream, seals_now, Sealing, growing, batches, batch_records, PrefixLaw}
use Rattle.dspec_deeds.specs.declared.deed.Deed.{Deed, TheVariants.Seal}

-- the offers of batches, the latest first
abbrev batch_offers : List Sealing → List Offer
batch_offers [] = []
batch_offers (b ∷ bs) = b.offers ++ batch_offers bs

-- a Seal accepts nothing
seal_accepts : (c : ℕ) (d : Deed) (h : List Deed) → seals_now c d ≡ true → accepts c d h ≡ []
seal_accepts c (Seal a) h e = refl
seal_accepts c d h e = absurd (true≢false (sym e))

-- what was accepted is in the growing batch and in those sealed
pub accepted_in_batches : (c : ℕ) (h : List Deed) → accepted c h ≡ (growing c h).offers ++ batch_offers (batches c h)
accepted_in_batches c [] = refl
accepted_in_batches c (d ∷ h) = step (seals_now c d) refl (accepted_in_batches c h)
  where
    step : (b : Bool) → seals_now c d ≡ b → accepted c h ≡ (growing c h).offers ++ batch_offers (batches c h) → accepted c (d ∷ h) ≡ (growing c (d ∷ h)).offers ++ batch_offers (batches c (d ∷ h))
    step true e i = rw (e, seal_accepts c d h e) i
    step false e i = rw (e, i) (sym (append_assoc (accepts c d h) (growing c h).offers (batch_offers (batches c h))))

-- the contents of two lists, one after the other
contents_append : (xs ys : List Offer) → contents (xs ++ ys) ≡ contents xs ++ contents ys
contents_append [] ys = refl
contents_append (x ∷ xs) ys = ap (λ zs. x.content ∷ zs) (contents_append xs ys)

-- the records of two lists of batches, one after the other
records_append : (xs ys : List Sealing) → batch_records (xs ++ ys) ≡ batch_records xs ++ batch_records ys
records_append [] ys = refl
records_append (b ∷ xs) ys = rw (records_append xs ys) (sym (append_assoc (reverse (contents b.offers)) (batch_records xs) (batch_records ys)))

-- the batches in order of time have what they took in, in order of time
sealed_records : (bs : List Sealing) → reverse (contents (batch_offers bs)) ≡ batch_records (reverse bs)
sealed_records [] = refl
sealed_records (b ∷ bs) =
    rw (
      contents_append b.offers (batch_offers bs),
      reverse-append (contents b.offers) (contents (batch_offers bs)),
      reverse-append (b ∷ []) bs,
      records_append (reverse bs)
          (b ∷ []),
      append-nil (reverse (contents b.offers)),
      sealed_records bs,
    ) refl

-- the stream is the records of all batches, then those of the growing one
pub stream_in_batches : (c : ℕ) (h : List Deed) → stream c h ≡ batch_records (reverse (batches c h)) ++ reverse (contents (growing c h).offers)
stream_in_batches c h = grind (arith, nat_tests, accepted_in_batches, contents_append, reverse-append, sealed_records)

-- however many batches were taken, they are a prefix of the stream
pub prefix_law : (c : ℕ) (h : List Deed) → PrefixLaw c h
prefix_law c h n =
    let bs = reverse (batches c h) in
    let rest = reverse (contents (growing c h).offers) in (
      batch_records (drop n bs) ++ rest,
      stream_in_batches c h
          ∙ (ap (λ xs. batch_records xs ++ rest) (sym (take-append-drop n bs))
          ∙ (ap (λ xs. xs ++ rest) (records_append (take n bs) (drop n bs))
          ∙ append_assoc (batch_records (take n bs)) (batch_records (drop n bs)) rest)),
    )

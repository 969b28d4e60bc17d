-- The batch sealed last is the one that the next take gives.
use Rattle.std.proofs.Common.{◌≡◌, ℕ, ◌+◌, List, [], ◌∷◌, ◌++◌, length, reverse, take, get_or, refl, sym, ap, ◌∙◌, arith, append-nil, take_all, take_at}
use Rattle.std.proofs.Math.Seq.{get_or-append_seam}
use Rattle.std.proofs.lemmas.List.{append_assoc, length-reverse, reverse-append}
use Rattle.dspec_core.specs.Words.{Record, Sealing, empty_batch, batches, batch_records, contents, seals, taken, first_or_empty, batch_of_last_seal, Deed}
use Rattle.dspec_core.proofs.Batches.{batches_sealed}

-- the records of batches put together
records_append : (xs ys : List Sealing) → batch_records (xs ++ ys) ≡ batch_records xs ++ batch_records ys
records_append [] ys = refl
records_append (x ∷ xs) ys = ap (λ (rs : List Record). reverse (contents x.offers) ++ rs) (records_append xs ys)
    ∙ sym (append_assoc (reverse (contents x.offers)) (batch_records xs) (batch_records ys))

last_of : (bs : List Sealing) (n : ℕ) → length bs ≡ n + 1 → get_or (reverse bs) n empty_batch ≡ first_or_empty bs
last_of [] n e = absurd (omega arith)
last_of (b ∷ bs) n e =
    let turned = length-reverse bs in
    let count : length (reverse bs) ≡ n = omega arith in
    ap (λ xs. get_or xs n empty_batch) (reverse-append (b ∷ []) bs) ∙ (ap (λ i. get_or (reverse bs ++ b ∷ []) i empty_batch) (sym count) ∙ get_or-append_seam (reverse bs) b [] empty_batch)

more_of : (bs : List Sealing) (n : ℕ) → length bs ≡ n + 1 → batch_records (take (n + 1) (reverse bs)) ≡ batch_records (take n (reverse bs)) ++ reverse (contents (first_or_empty bs).offers)
more_of [] n e = absurd (omega arith)
more_of (b ∷ bs) n e =
    let turned = length-reverse bs in
    let all = length-reverse (b ∷ bs) in
    let count : length (reverse bs) ≡ n = omega arith in
    let last = reverse-append (b ∷ []) bs in
    let whole : take (n + 1) (reverse (b ∷ bs)) ≡ reverse bs ++ b ∷ [] = take_all (n + 1) (reverse (b ∷ bs)) (omega arith) ∙ last in
    let before : take n (reverse (b ∷ bs)) ≡ reverse bs = ap (take n) last ∙ take_at (reverse bs) (b ∷ []) n count in
    ap batch_records whole
    ∙ (records_append (reverse bs) (b ∷ [])
    ∙ (ap (λ (rs : List Record). batch_records (reverse bs) ++ rs) (append-nil (reverse (contents b.offers)))
    ∙ ap (λ xs. batch_records xs ++ reverse (contents b.offers)) (sym before)))

module _ (c : ℕ) (h : List Deed) (takes : ℕ) (sealed : seals c h ≡ takes + 1) where
  -- the next batch is the one sealed last
  pub next_batch : get_or (reverse (batches c h)) takes empty_batch ≡ batch_of_last_seal c h
  next_batch = last_of (batches c h) takes (batches_sealed c h ∙ sealed)

  -- what is taken once it is
  pub taken_more : taken (takes + 1) c h ≡ taken takes c h ++ reverse (contents (batch_of_last_seal c h).offers)
  taken_more = more_of (batches c h) takes (batches_sealed c h ∙ sealed)

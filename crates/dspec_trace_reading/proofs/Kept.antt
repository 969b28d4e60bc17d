-- What is kept of a CPU's batches, of folders of either form.
use Rattle.std.proofs.Common.{◌≡◌, ◌+◌, ◌++◌, ◌⊎◌, ℕ, inl, inr, List, [], ◌∷◌, refl, sym, ap, subst, ◌∙◌, arith, length}
use Rattle.std.proofs.lemmas.List.{append-nil, nil_from_length}
use Rattle.dspec_trace_reading.specs.Words.{IsText, Record, EnabledRows, enabled, table_accepts, table_shape, table_text, FileWrite, IsBare, drops_carried, KeptOf, Reads, ReadsKept, Batch, Form}
use Rattle.dspec_trace_reading.specs.Words.{AsTaken, ByTime, Names}
use Rattle.dspec_buffer.proofs.OneReading.{one_reading}
use Rattle.dspec_trace_reading.proofs.Folding.{Holds, one_text}
use Rattle.dspec_ctf_sink.proofs.Silent.{laws}

-- of no records, those in front are none, and those after too
both_none : (front back : List Record) → front ++ back ≡ [] → (front ≡ []) × (back ≡ [])
both_none [] back is = (refl, is)
both_none (r ∷ rs) back is = absurd (cc (is))

module _ (e : EnabledRows) where
  -- a text of no bytes has no records
  bare_none : (b : Batch) (rs : List Record) → IsText e b.buffer.text rs → IsBare b → rs ≡ []
  bare_none b rs text bare =
      one_reading (table_shape e.header (enabled e.rows)) (table_accepts e.header (enabled e.rows)) (table_text e.header (enabled e.rows)) (laws e) 0 b.buffer.text rs [] text bare.0

  -- where none are lost, all that the batches hold are kept
  pub kept_whole : (form : Form) (bs : List Batch) (kept rs : List Record) (lost : ℕ) → lost ≡ 0 → KeptOf form e bs kept lost → Holds e bs rs → kept ≡ rs
  kept_whole AsTaken [] kept rs lost none are hold = are.0 ∙ sym hold
  kept_whole AsTaken (b ∷ bs) kept rs lost none (ps, more, rest, text, later, which) (qs, after, has, many, sum, holds) =
      go (λ none_more. kept_whole AsTaken bs more after rest none_more later holds) which where
        same : ps ≡ qs
        same = one_text e b qs ps has text

        go : (rest ≡ 0 → more ≡ after) → ((kept ≡ ps ++ more) × (lost ≡ rest)) ⊎ ((kept ≡ more) × (lost ≡ length ps + rest)) → kept ≡ rs
        go whole (inl (is, so_many)) = is ∙ ap (λ xs. xs ++ more) same ∙ ap (λ xs. qs ++ xs) (whole (sym so_many ∙ none)) ∙ sym sum
        go whole (inr (is, so_many)) =
            let empty : qs ≡ [] = sym same ∙ nil_from_length ps (omega (arith, none, so_many)) in
            is ∙ whole (omega (arith, none, so_many)) ∙ sym (sum ∙ ap (λ xs. xs ++ after) empty)
  kept_whole (ByTime hertz) [] kept rs lost none are hold = are.0 ∙ sym hold
  kept_whole (ByTime hertz) (b ∷ bs) kept rs lost none (front, back, more, rest, text, later, is, so_many) (qs, after, has, many, sum, holds) =
      let empty : back ≡ [] = nil_from_length back (omega (arith, none, so_many)) in
      let same : front ≡ qs = sym (append-nil front) ∙ ap (λ xs. front ++ xs) (sym empty) ∙ one_text e b qs (front ++ back) has text in
      is ∙ ap (λ xs. xs ++ more) same ∙ ap (λ xs. qs ++ xs) (kept_whole (ByTime hertz) bs more after rest (omega (arith, none, so_many)) later holds) ∙ sym sum

  -- the batch that tells the end has no records, so none of it are kept or lost
  pub kept_before : (form : Form) (bs : List Batch) (b : Batch) (kept : List Record) (lost : ℕ) → IsBare b → KeptOf form e (bs ++ b ∷ []) kept lost → KeptOf form e bs kept lost
  kept_before AsTaken [] b kept lost bare (rs, more, rest, text, later, which) = go which where
    none : rs ≡ []
    none = bare_none b rs text bare

    go : ((kept ≡ rs ++ more) × (lost ≡ rest)) ⊎ ((kept ≡ more) × (lost ≡ length rs + rest)) → (kept ≡ []) × (lost ≡ 0)
    go (inl (is, so_many)) = (is ∙ ap (λ xs. xs ++ more) none ∙ later.0, so_many ∙ later.1)
    go (inr (is, so_many)) = let few : length rs ≡ 0 = ap length none in (is ∙ later.0, omega (arith, so_many, few, later.1))
  kept_before AsTaken (x ∷ bs) b kept lost bare (rs, more, rest, text, later, which) = (rs, more, rest, text, kept_before AsTaken bs b more rest bare later, which)
  kept_before (ByTime hertz) [] b kept lost bare (front, back, more, rest, text, later, is, so_many) =
      let none = both_none front back (bare_none b (front ++ back) text bare) in
      let few : length back ≡ 0 = ap length none.1 in
      (is ∙ ap (λ xs. xs ++ more) none.0 ∙ later.0, omega (arith, so_many, few, later.1))
  kept_before (ByTime hertz) (x ∷ bs) b kept lost bare (front, back, more, rest, text, later, is, so_many) =
      (front, back, more, rest, text, kept_before (ByTime hertz) bs b more rest bare later, is, so_many)

  -- where nothing of a CPU is lost, its whole stream is read
  pub whole_read : (form : Form) (uuid : List ℕ) (names : Names) (c : ℕ) (bs : List Batch) (writes : List FileWrite) (told missed : ℕ) (rs : List Record)
      → ReadsKept form uuid e names c bs writes told missed → Holds e bs rs → (missed ≡ drops_carried bs) × (told ≡ missed) → Reads form uuid e names c rs (drops_carried bs) writes
  whole_read form uuid names c bs writes told missed rs r hold all =
      let none : r.lost ≡ 0 = omega (arith, r.counted, all.0) in
      subst (λ n. Reads form uuid e names c rs n writes) (all.1 ∙ all.0)
      (subst (λ xs. Reads form uuid e names c xs told writes) (kept_whole form bs r.kept rs r.lost none r.are_kept hold) r.tells)

-- What a buffer that closes comes to over a whole list.
use Rattle.std.proofs.Common.{◌≡◌, ℕ, ◌+◌, true, false, ◌&&◌, if◌then◌else◌, List, [], ◌∷◌, Option, refl, sym, ap, ◌∙◌, subst, ⊎_elim, arith, true≢false}
use Rattle.std.proofs.lemmas.Bool.Decides.{nat_tests}
use Rattle.std.specs.Prelude.{nat_lt}
use Rattle.dspec_deeds.specs.Words.{Shape, Piece, one, block, piece_fits, Record, Speculation, is_fill, trace_stopped, is_commit, Offer, contents, held, active, accepts, is_drop, full, growing}
use Rattle.dspec_deeds.specs.Words.{batches, seals, seals_now, IsOwn, is_empty, fits_principal, CpuLegal, IsFitting, total, one_if}
use Rattle.dspec_deeds.specs.declared.config.Config.{Config}
use Rattle.dspec_deeds.specs.declared.deed.{DecideFate.DecideFate, Deed.Deed, Deed.TheVariants.Trace, Deed.TheVariants.Commit, Deed.TheVariants.Settle, Deed.TheVariants.Seal, TraceFate.TraceFate}
use Rattle.dspec_deeds.proofs.{ReportBounds.fitting_fitted, ReportBounds.active_within, TestLemmas.and_false, TestLemmas.either_way, TestLemmas.same_number, WholeLists.drops_add_up}

-- a test that holds is counted
pub full_counted : (c : ℕ) (h : List Deed) → full c h ≡ nat_lt 0 (total (λ d. one_if (is_drop c d)) h)
full_counted c [] = refl
full_counted c (d ∷ h) = grind (arith, nat_tests, full_counted c h)

-- no batch is there where none was sealed
no_batches : (c : ℕ) (h : List Deed) → seals c h ≡ 0 → batches c h ≡ []
no_batches c [] e = refl
no_batches c (d ∷ h) e = ⊎_elim
    (λ (t : seals_now c d ≡ true). let one : seals c h + 1 ≡ 0 = subst (λ b. seals c h + (if b then 1 else 0) ≡ 0) t e in absurd (omega arith))
    (λ (f : seals_now c d ≡ false). let none : seals c h + 0 ≡ 0 = subst (λ b. seals c h + (if b then 1 else 0) ≡ 0) f e in let before : seals c h ≡ 0 = omega arith in rw f (no_batches c h before))
    (either_way (seals_now c d))

-- so what grows has all drops
full_grown : (c : ℕ) (h : List Deed) → seals c h ≡ 0 → full c h ≡ nat_lt 0 (growing c h).drops
full_grown c h e = grind (arith, nat_tests, no_batches c h e, drops_add_up c h, full_counted c h)

module _ (shape : ℕ → Option Shape) (k : Config) (c : ℕ) where
  -- in a CPU's own list
  pub own_unsealed : (p : List Deed) → is_fill k.policy ≡ true → IsOwn shape k c p → seals c p ≡ 0
  own_unsealed [] fill own = refl
  own_unsealed (Seal a ∷ p) fill own = absurd (true≢false (sym fill ∙ own.2.2))
  own_unsealed (d ∷ p) fill own = let before = own_unsealed p fill own.0 in omega arith

  -- in the list of all
  pub all_unsealed : (h : List Deed) → is_fill k.policy ≡ true → IsFitting shape k h → seals c h ≡ 0
  all_unsealed [] fill fitting = refl
  all_unsealed (Seal a ∷ h) fill fitting = absurd (true≢false (sym fill ∙ fitting.1.2))
  all_unsealed (d ∷ h) fill fitting = let before = all_unsealed h fill fitting.0 in omega arith

  pub own_full : (p : List Deed) → is_fill k.policy ≡ true → IsOwn shape k c p → full c p ≡ nat_lt 0 (growing c p).drops
  own_full p fill own = full_grown c p (own_unsealed p fill own)

  pub all_full : (h : List Deed) → is_fill k.policy ≡ true → IsFitting shape k h → full c h ≡ nat_lt 0 (growing c h).drops
  all_full h fill fitting = full_grown c h (all_unsealed h fill fitting)

  -- a closed buffer takes a piece without records alone
  closed_takes : (p : Piece) (h : List Deed) → is_fill k.policy ≡ true → full c h ≡ true → is_empty p ≡ false → fits_principal shape k c p h ≡ false
  closed_takes p h fill was some = rw (some, fill, was) (and_false (piece_fits shape (active c h) p k.bufsize))

  -- a buffer that is copied though closed has no record
  copies_none : (os : List Offer) (h : List Deed) → is_fill k.policy ≡ true → full c h ≡ true → true ≡ fits_principal shape k c (block (contents os)) h → os ≡ []
  copies_none [] h fill was e = refl
  copies_none (o ∷ os) h fill was e = absurd (true≢false (e ∙ closed_takes (block (contents (o ∷ os))) h fill was refl))

  -- an empty block always fits
  pub empty_piece : (h : List Deed) → IsFitting shape k h → fits_principal shape k c (block []) h ≡ true
  empty_piece h fitting = ap (λ b. b && true) (active_within shape k c h (fitting_fitted shape k h fitting))

-- a closed buffer accepts nothing
pub accepts_none : (shape : ℕ → Option Shape) (k : Config) (c : ℕ) (d : Deed) (h : List Deed) → is_fill k.policy ≡ true → full c h ≡ true → IsFitting shape k (d ∷ h) → accepts c d h ≡ []
accepts_none shape k c d h fill was fitting = grind (arith, nat_tests, same_number, closed_takes, copies_none)

module _ (shape : ℕ → Option Shape) (k : Config) (c : ℕ) (h : List Deed) where
  -- a trace that is refused
  pub trace_refused : (r : Record) (f : TraceFate) → CpuLegal shape k h (Trace c r f) → trace_stopped f ≡ false → fits_principal shape k c (one r) h ≡ false → full c (Trace c r f ∷ h) ≡ true
  trace_refused r f h1 h2 h3 = grind arith

  -- a commit's block that is refused
  pub commit_refused : (id : Speculation) (f : DecideFate) → CpuLegal shape k h (Commit c id f) → is_commit f ≡ true
      → fits_principal shape k c (block (contents (held c id h))) h ≡ false → full c (Commit c id f ∷ h) ≡ true
  commit_refused id f h1 h2 h3 = grind arith

  -- a settlement's
  pub settle_refused : (id : Speculation) (f : DecideFate) → CpuLegal shape k h (Settle c id f) → is_commit f ≡ true
      → fits_principal shape k c (block (contents (held c id h))) h ≡ false → full c (Settle c id f ∷ h) ≡ true
  settle_refused id f h1 h2 h3 = grind arith

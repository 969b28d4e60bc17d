-- What a call of speculation adds to the counts, deed by deed.
use Rattle.std.proofs.Common.{◌≡◌, ℕ, ◌+◌, ◌==◌, Bool, true, false, not, ◌&&◌, List, ◌∷◌, refl, ap, ◌∙◌, add-zero}
use Rattle.dspec_cpu.specs.Words.{Speculation, missed_busy, one_if, counts_of, with_opening, Config, Deed, Scan, Opened, Miss, Counts}
use Rattle.dspec_deeds.specs.declared.calls.Opening.TheVariants as opening
use Rattle.dspec_deeds.proofs.TestLemmas.{number_is_itself}
use Rattle.dspec_cpu_state.proofs.Tallies.{same_counts}

-- what the deeds of a scan add to the counts
module _ (k : Config) (c w : ℕ) where
  -- a deed of a scan that ends no call
  pub scan_counts : (p : List Deed) → counts_of k c w (Scan c true ∷ p) ≡ counts_of k c w p
  scan_counts p = same_counts (add-zero _) (add-zero _) (add-zero _) (add-zero _) (add-zero _) (add-zero _) (add-zero _) (add-zero _) (add-zero _) (add-zero _) (add-zero _) refl

  pub stop_counts : (p : List Deed) → counts_of k c w (Scan c false ∷ p) ≡ with_opening opening.Stopped (counts_of k c w p)
  stop_counts p = rw (number_is_itself c) (same_counts (add-zero _) (add-zero _) (add-zero _) (add-zero _) (add-zero _) (add-zero _) (add-zero _) (add-zero _) refl refl refl refl)

  pub given_counts : (id : Speculation) (p : List Deed) → counts_of k c w (Opened c id ∷ p) ≡ with_opening (opening.Id id) (counts_of k c w p)
  given_counts id p = same_counts (add-zero _) (add-zero _) (add-zero _) (add-zero _) (add-zero _) (add-zero _) (add-zero _) (add-zero _) refl refl refl refl

  module _ (s : ℕ) (b : Bool) (p : List Deed) where
    abbrev n : Counts
    n = counts_of k c w p

    abbrev pub misses_now : Bool
    misses_now = missed_busy c (Miss c s b ∷ p)

    -- the Miss of a slot that isn't the last
    pub miss_counts : (s == k.nspec) ≡ false → counts_of k c w (Miss c s b ∷ p) ≡ n
    miss_counts at = same_counts (add-zero _) (add-zero _) (add-zero _) (add-zero _) (add-zero _) (add-zero _) (add-zero _) (add-zero _)
        (ap (λ x. n.unavailable + one_if ((x && (c == c)) && not misses_now)) at ∙ add-zero n.unavailable)
        (ap (λ x. n.busy + one_if ((x && (c == c)) && misses_now)) at ∙ add-zero n.busy) (add-zero _) refl

    -- the Miss of the last slot
    pub last_busy : (s == k.nspec) ≡ true → misses_now ≡ true → counts_of k c w (Miss c s b ∷ p) ≡ with_opening opening.Busy n
    last_busy at was = same_counts (add-zero _) (add-zero _) (add-zero _) (add-zero _) (add-zero _) (add-zero _) (add-zero _) (add-zero _)
        (λ i. n.unavailable + one_if ((at i && number_is_itself c i) && not (was i))) (λ i. n.busy + one_if ((at i && number_is_itself c i) && was i)) refl refl

    pub last_unavailable : (s == k.nspec) ≡ true → misses_now ≡ false → counts_of k c w (Miss c s b ∷ p) ≡ with_opening opening.Unavailable n
    last_unavailable at was = same_counts (add-zero _) (add-zero _) (add-zero _) (add-zero _) (add-zero _) (add-zero _) (add-zero _) (add-zero _)
        (λ i. n.unavailable + one_if ((at i && number_is_itself c i) && not (was i))) (λ i. n.busy + one_if ((at i && number_is_itself c i) && was i)) refl refl

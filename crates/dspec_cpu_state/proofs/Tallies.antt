-- What an offer to a speculation, a decision, a settlement and a release add to the counts; how drops are counted.
use Rattle.std.proofs.{Common.◌≡◌, Common.ℕ, Common.◌≤◌, Common.false, Common.List, Common.[], Common.◌∷◌, Common.arith, Common.refl, Common.add-zero, lemmas.Bool.Decides.nat_tests}
use Rattle.dspec_cpu_state.specs.Words.{Record, Speculation, is_commit, is_discard, decided_stopped, growing, is_drop, total, one_if, counts_of, with_decided, with_spoken, Config, DecideFate}
use Rattle.dspec_cpu_state.specs.Words.{SpeculateFate, Deed, Speculate, Commit, Discard, Settle, Release}
use Rattle.dspec_cpu_state.specs.declared.counts.Counts.{Counts}
use Rattle.dspec_deeds.specs.declared.deed.SpeculateFate.TheVariants as spoken
use Rattle.dspec_deeds.proofs.TestLemmas.{number_is_itself}

-- counts are the same, number by number
pub same_counts : {n m : Counts} → n.offered ≡ m.offered → n.accepted ≡ m.accepted → n.dropped ≡ m.dropped → n.specdropped ≡ m.specdropped → n.lost ≡ m.lost → n.discarded ≡ m.discarded
    → n.void ≡ m.void → n.drops ≡ m.drops → n.unavailable ≡ m.unavailable → n.busy ≡ m.busy → n.stopped ≡ m.stopped → n.worn ≡ m.worn → n ≡ m
same_counts offered accepted dropped specdropped lost discarded void drops unavailable busy stopped worn = grind (arith, nat_tests)

module _ (k : Config) (c w : ℕ) (p : List Deed) where
  abbrev n : Counts
  n = counts_of k c w p

  -- a commit is never thrown
  pub commit_counts : (id : Speculation) (f : DecideFate) → is_discard f ≡ false → counts_of k c w (Commit c id f ∷ p) ≡ with_decided f n
  commit_counts id f h1 = grind (arith, nat_tests, same_counts, number_is_itself)

  -- and a discard never a commit
  pub discard_counts : (id : Speculation) (f : DecideFate) → is_commit f ≡ false → counts_of k c w (Discard c id f ∷ p) ≡ with_decided f n
  discard_counts id f h1 = grind (arith, nat_tests, same_counts, number_is_itself)

  -- a settlement is never stopped
  pub settle_counts : (id : Speculation) (f : DecideFate) → decided_stopped f ≡ false → counts_of k c w (Settle c id f ∷ p) ≡ with_decided f n
  settle_counts id f h1 = grind (arith, nat_tests, same_counts, number_is_itself)

  -- an offer to a speculation
  pub spoken_counts : (id : Speculation) (r : Record) (f : SpeculateFate) → counts_of k c w (Speculate c id r f ∷ p) ≡ with_spoken f n
  spoken_counts id r spoken.Kept = rw (number_is_itself c) (same_counts refl (add-zero _) (add-zero _) refl (add-zero _) (add-zero _) refl (add-zero _) (add-zero _) (add-zero _) refl refl)
  spoken_counts id r f = rw (number_is_itself c) (same_counts refl (add-zero _) (add-zero _) refl (add-zero _) (add-zero _) refl (add-zero _) (add-zero _) (add-zero _) refl refl)

  -- a release counts nothing
  pub released_counts : (s : ℕ) → counts_of k c w (Release s ∷ p) ≡ n
  released_counts s = same_counts (add-zero _) (add-zero _) (add-zero _) (add-zero _) (add-zero _) (add-zero _) (add-zero _) (add-zero _) (add-zero _) (add-zero _) (add-zero _) refl

-- the drops since the last Seal are among all drops
pub drops_since : (c : ℕ) (p : List Deed) → (growing c p).drops ≤ total (λ d. one_if (is_drop c d)) p
drops_since c [] = omega arith
drops_since c (d ∷ p) = grind (arith, nat_tests, drops_since c p)

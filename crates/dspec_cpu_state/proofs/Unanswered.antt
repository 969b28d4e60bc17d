-- A call that decided nothing, and a record that was granted nothing.
use Rattle.std.proofs.{Common.arith, Common.◌≡◌, Common.ℕ, Common.◌+◌, Common.◌||◌, Common.false, Common.List, Common.◌∷◌, Common.true≢false, lemmas.Bool.Decides.nat_tests}
use Rattle.dspec_cpu_state.specs.Words.{Record, Piece, Speculation, is_commit, is_discard, spoken_granted, counts_of, with_decided, with_spoken, ShowsList, Config, DecideFate, SpeculateFate, Deed}
use Rattle.dspec_cpu_state.specs.Words.{Speculate, Commit, Discard}
use Rattle.dspec_cpu_state.specs.declared.{counts.Counts.Counts, cpu_state.CpuState.CpuState}
use Rattle.dspec_deeds.specs.declared.deed.DecideFate.TheVariants as decided
use Rattle.dspec_deeds.specs.declared.deed.SpeculateFate.TheVariants as spoken
use Rattle.dspec_cpu_state.proofs.{Ones.one_call, Quiet.quiet_shown, Tallies.commit_counts, Tallies.discard_counts, Tallies.spoken_counts}

module _ {B : Type 0} (keeps : B → List Piece → Type 0) (capacity : B → ℕ) {k : Config} {c : ℕ} {side : CpuState B} (p : List Deed) (was : ShowsList keeps capacity k c p side)
    (id : Speculation) (now : Counts) where
  counted : (deed : Deed) → (x : Counts → Counts) → ((n : Counts) → (x n).worn ≡ n.worn) → now ≡ x side.counts
      → counts_of k c side.counts.worn (deed ∷ p) ≡ x (counts_of k c side.counts.worn p) → now ≡ counts_of k c now.worn (deed ∷ p)
  counted deed x worn plus adds = grind (arith, nat_tests)

  pub commit_left : (f : DecideFate) → (is_commit f || is_discard f) ≡ false → now ≡ with_decided f side.counts
      → ShowsList keeps capacity k c (Commit c id f ∷ p) (record side { calls = side.calls + 1; counts = now })
  commit_left (decided.Copied n) e plus = absurd (true≢false e)
  commit_left (decided.Lost n) e plus = absurd (true≢false e)
  commit_left (decided.Thrown n) e plus = absurd (true≢false e)
  commit_left f e plus = grind (arith, nat_tests, quiet_shown, one_call, counted, commit_counts)

  pub discard_left : (f : DecideFate) → (is_commit f || is_discard f) ≡ false → now ≡ with_decided f side.counts
      → ShowsList keeps capacity k c (Discard c id f ∷ p) (record side { calls = side.calls + 1; counts = now })
  discard_left (decided.Copied n) e plus = absurd (true≢false e)
  discard_left (decided.Lost n) e plus = absurd (true≢false e)
  discard_left (decided.Thrown n) e plus = absurd (true≢false e)
  discard_left f e plus = grind (arith, nat_tests, quiet_shown, one_call, counted, discard_counts)

  pub spoken_left : (r : Record) (f : SpeculateFate) → spoken_granted f ≡ false → now ≡ with_spoken f side.counts
      → ShowsList keeps capacity k c (Speculate c id r f ∷ p) (record side { calls = side.calls + 1; counts = now })
  spoken_left r spoken.Kept e plus = absurd (true≢false e)
  spoken_left r spoken.Dropped e plus = absurd (true≢false e)
  spoken_left r f e plus = grind (arith, nat_tests, quiet_shown, one_call, counted, spoken_counts)

-- What a commit or a discard leaves of a CPU, said of both as one.
use Rattle.std.proofs.Common.{arith, ◌≡◌, ℕ, ◌-◌, Bool, true, false, ◌||◌, List, ◌∷◌, ◌++◌, [], reverse, set, if◌then◌else◌, Option, refl}
use Rattle.std.proofs.lemmas.Bool.Decides.{nat_tests}
use Rattle.dspec_core.specs.Words.{Shape, Speculation, SlotState, is_commit, is_copied, is_discard, is_open, word_at, IsSound, CpuLegal, contents, held, stream, IsSlot, decides, deed_of, ShowsWords}
use Rattle.dspec_core.specs.Words.{Config, DecideFate, Deed}
use Rattle.dspec_core.specs.declared.machine.decision.Decision.{Decision, TheVariants.Commit, TheVariants.Discard}
use Rattle.dspec_deeds.specs.declared.deed.Deed.TheVariants as deed
use Rattle.dspec_deeds.proofs.WordChanges.{commit_open, discard_open}
use Rattle.dspec_core.proofs.{OwnDeeds.IsOwnDeed, OwnSlots.stream_commits, OwnSlots.stream_discards, WordsShown.words_set, WordsShown.words_stay}

module _ (k : Config) (c : ℕ) (id : Speculation) (f : DecideFate) (h : List Deed) where
  -- what is decided was open
  pub decided_open : (x : Decision) → decides x f ≡ true → IsSound k (deed_of x c id f ∷ h) → is_open id h ≡ true
  decided_open Commit e sound = commit_open k c id f h sound e
  decided_open Discard e sound = discard_open k c id f h sound e

  -- the words
  pub decided_words : (x : Decision) (words : List SlotState) (w : SlotState) → IsSlot k id.slot → w ≡ word_at id.slot (deed_of x c id f ∷ h) → ShowsWords k h words
      → ShowsWords k (deed_of x c id f ∷ h) (set words (id.slot - 1) w)
  decided_words Commit words w slot is was = words_set k (deed.Commit c id f) h words w slot.0 slot.1 is was
  decided_words Discard words w slot is was = words_set k (deed.Discard c id f) h words w slot.0 slot.1 is was

  -- the stream
  pub decided_stream : (x : Decision) → decides x f ≡ true → stream c h ++ (if is_copied f then reverse (contents (held c id h)) else []) ≡ stream c (deed_of x c id f ∷ h)
  decided_stream Commit e = stream_commits c id f h
  decided_stream Discard e = stream_discards c id f h e

  -- what is said of either deed, where it decides
  pub decided_either : (shape : ℕ → Option Shape) (P : Deed → Type 0) (x : Decision) → decides x f ≡ true → CpuLegal shape k h (deed_of x c id f)
      → (is_commit f ≡ true → CpuLegal shape k h (deed.Commit c id f) → P (deed.Commit c id f)) → (is_discard f ≡ true → CpuLegal shape k h (deed.Discard c id f) → P (deed.Discard c id f))
      → P (deed_of x c id f)
  decided_either shape P Commit e row commits discards = commits e row
  decided_either shape P Discard e row commits discards = discards e row

  -- and where it decides nothing
  pub undecided_either : (P : Deed → Type 0) (x : Decision) → P (deed.Commit c id f) → P (deed.Discard c id f) → P (deed_of x c id f)
  undecided_either P Commit commits discards = commits
  undecided_either P Discard commits discards = discards

  pub undecided_stream : (x : Decision) → decides x f ≡ false → stream c h ≡ stream c (deed_of x c id f ∷ h)
  undecided_stream Commit e = grind (arith, nat_tests)
  undecided_stream Discard e = refl

  undecided_is : (a b : Bool) → a ≡ false → b ≡ false → (a || b) ≡ false
  undecided_is a b e g = rw (e, g) refl

  pub nothing_decided : (x : Decision) → decides x f ≡ false → IsSound k (deed_of x c id f ∷ h) → (is_commit f || is_discard f) ≡ false
  nothing_decided Commit e sound = undecided_is (is_commit f) (is_discard f) e sound.1.1.1
  nothing_decided Discard e sound = undecided_is (is_commit f) (is_discard f) sound.1.1.1 e

-- the deed is the CPU's own
pub decided_own : (d : Decision) (c : ℕ) (id : Speculation) (f : DecideFate) (h : List Deed) → IsOwnDeed c (deed_of d c id f) h
decided_own Commit c id f h = (refl, refl, refl)
decided_own Discard c id f h = (refl, refl, refl)

-- the words after a call that decided nothing
pub undecided_words : (d : Decision) (k : Config) (c : ℕ) (id : Speculation) (f : DecideFate) (h : List Deed) (words : List SlotState) → decides d f ≡ false
    → ShowsWords k h words → ShowsWords k (deed_of d c id f ∷ h) words
undecided_words Commit k c id f h words none was = words_stay k (deed_of Commit c id f) h words (λ t. rw none refl) was
undecided_words Discard k c id f h words none was = words_stay k (deed_of Discard c id f) h words (λ t. rw none refl) was

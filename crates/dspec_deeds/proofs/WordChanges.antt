-- What each deed makes of the words and the acknowledgements that the list shows.
use Rattle.std.proofs.{Common.◌≡◌, Common.◌≢◌, Common.ℕ, Common.true, Common.false, Common.List, Common.◌∷◌, Common.Some, Common.refl, Common.arith, lemmas.Bool.Decides.nat_tests}
use Rattle.dspec_deeds.specs.Words.{Speculation, released, Record, spoken_granted, spoken_stopped, is_commit, is_discard, decided_stopped, issue, present, undecided, committed, is_open, callers}
use Rattle.dspec_deeds.specs.Words.{joined, standing, code_at, word_at, acks, ack, IsSound, Code, Active, Discarding}
use Rattle.dspec_deeds.specs.declared.{config.Config.Config, deed.DecideFate.DecideFate, deed.Deed.Deed, deed.Deed.TheVariants.Opened, deed.Deed.TheVariants.Speculate, deed.Deed.TheVariants.Commit}
use Rattle.dspec_deeds.specs.declared.{deed.Deed.TheVariants.Discard, deed.Deed.TheVariants.Release, deed.SpeculateFate.SpeculateFate}
pub use Rattle.dspec_deeds.specs.WordSteps.{touches}
use Rattle.dspec_deeds.proofs.{PresentIds.open_present, PresentIds.present_is, PresentIds.later_unopened, SoundLists.unseen, SoundLists.answered_open, SoundLists.granted_goes}
use Rattle.dspec_deeds.proofs.{SoundLists.commit_goes, SoundLists.discard_goes, TestLemmas.not_false, TestLemmas.number_is_itself, TestLemmas.id_is_itself}

-- a deed that does not touch the slot leaves its word
pub untouched : (t : ℕ) (d : Deed) (h : List Deed) → touches t d ≡ false → word_at t (d ∷ h) ≡ word_at t h
untouched t d h h1 = grind arith

-- the slot that a deed is about
abbrev pub slot_of : Deed → ℕ
slot_of (Opened c id) = id.slot
slot_of (Speculate c id r f) = id.slot
slot_of (Commit c id f) = id.slot
slot_of (Discard c id f) = id.slot
slot_of (Release s) = s
slot_of d = 0

-- a deed leaves the words of other slots
pub elsewhere : (t : ℕ) (d : Deed) (h : List Deed) → t ≢ slot_of d → word_at t (d ∷ h) ≡ word_at t h
elsewhere t d h apart = grind arith

-- a deed's work was done to an open speculation
pub granted_open : (k : Config) (c : ℕ) (id : Speculation) (r : Record) (f : SpeculateFate) (h : List Deed) → IsSound k (Speculate c id r f ∷ h) → spoken_granted f ≡ true → is_open id h ≡ true
granted_open k c id r f h s t = answered_open h c id (spoken_stopped f) (spoken_granted f) (granted_goes f t) t s.1.1.1

-- a commit that decides
pub commit_open : (k : Config) (c : ℕ) (id : Speculation) (f : DecideFate) (h : List Deed) → IsSound k (Commit c id f ∷ h) → is_commit f ≡ true → is_open id h ≡ true
commit_open k c id f h s t = answered_open h c id (decided_stopped f) (is_commit f) (commit_goes f t) t s.1.1.2

-- a discard that decides
pub discard_open : (k : Config) (c : ℕ) (id : Speculation) (f : DecideFate) (h : List Deed) → IsSound k (Discard c id f ∷ h) → is_discard f ≡ true → is_open id h ≡ true
discard_open k c id f h s t = answered_open h c id (decided_stopped f) (is_discard f) (discard_goes f t) t s.1.1.2

-- the word of a slot, by the code of its present speculation
word_by : (id : Speculation) (new h : List Deed) (w : Code) → present id.slot h ≡ id → issue id.slot new ≡ issue id.slot h → code_at id new ≡ w
    → word_at id.slot new ≡ record { issue = issue id.slot h; code = w }
word_by id new h w h1 h2 h3 = grind arith

-- the word of a slot that was given out just now
pub opened_word : (k : Config) (c : ℕ) (id : Speculation) (h : List Deed) → IsSound k (Opened c id ∷ h) → word_at id.slot (Opened c id ∷ h) ≡ record { issue = issue id.slot h; code = Active }
opened_word k c id h s = grind (arith, nat_tests, present_is, not_false, unseen, word_by, id_is_itself)

-- a granted record makes its CPU a caller
pub granted_word : (k : Config) (c : ℕ) (id : Speculation) (r : Record) (f : SpeculateFate) (h : List Deed) → IsSound k (Speculate c id r f ∷ h) → spoken_granted f ≡ true
    → word_at id.slot (Speculate c id r f ∷ h) ≡ record { issue = issue id.slot h; code = standing undecided (joined (Some c) (callers id h)) }
granted_word k c id r f h s t = grind (arith, nat_tests, open_present, granted_open, word_by, id_is_itself)

-- a commit that decides
pub committed_word : (k : Config) (c : ℕ) (id : Speculation) (f : DecideFate) (h : List Deed) → IsSound k (Commit c id f ∷ h) → is_commit f ≡ true
    → word_at id.slot (Commit c id f ∷ h) ≡ record { issue = issue id.slot h; code = standing (committed c) (callers id h) }
committed_word k c id f h s t = grind (arith, nat_tests, open_present, commit_open, word_by, id_is_itself)

-- a discard that decides
pub discarded_word : (k : Config) (c : ℕ) (id : Speculation) (f : DecideFate) (h : List Deed) → IsSound k (Discard c id f ∷ h) → is_discard f ≡ true
    → word_at id.slot (Discard c id f ∷ h) ≡ record { issue = issue id.slot h; code = Discarding }
discarded_word k c id f h s t = grind (arith, nat_tests, open_present, discard_open, word_by, id_is_itself)

-- a released slot is free again, with the next issue
pub released_word : (k : Config) (s : ℕ) (h : List Deed) → IsSound k h → word_at s (Release s ∷ h) ≡ released (issue s h)
released_word k s h sound = grind (arith, nat_tests, number_is_itself, later_unopened)

-- an acknowledgement changes by its CPU's settlement of its slot only
pub ack_stays : (c s : ℕ) (d : Deed) (h : List Deed) → acks c s d ≡ false → ack c s (d ∷ h) ≡ ack c s h
ack_stays c s d h e = rw e refl

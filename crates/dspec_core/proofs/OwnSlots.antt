-- What a CPU's side tells of a slot's present speculation: whether the CPU is a caller, and its records.
use Rattle.std.proofs.Common.{◌≡◌, ℕ, ◌+◌, ◌-◌, ◌<◌, ◌≤◌, ◌==◌, Bool, true, false, ◌&&◌, ◌||◌, List, [], ◌∷◌, ◌++◌, length, map, reverse, if◌then◌else◌, Option, Some, None, refl, sym, ap, ◌∙◌}
use Rattle.std.proofs.Common.{subst, arith, append-nil, true≢false}
use Rattle.std.proofs.lemmas.{Bool.Decides.nat_tests, List.reverse-append}
use Rattle.std.specs.Prelude.{Result, Ok, Err, OnErr, slice_get}
use Rattle.dspec_core.specs.Words.{Record, Piece, one, Speculation, decided_stopped, is_commit, is_copied, is_discard, spoken_granted, trace_kept, Ruling, undecided, committed, discarded, verdict}
use Rattle.dspec_core.specs.Words.{is_undecided, is_open, issue, IsSound, CpuLegal, SettlesAs, fits_principal, fits_speculative, mark, accepted, contents, held, stream, last_called, start_fault}
use Rattle.dspec_core.specs.Words.{IsCaller, ShowsList, IsSlot, callers, is_among, Shape, Config, DecideFate, SpeculateFate, TraceFate, Deed, Trace, Speculate, Commit, Discard, Settle, CpuState}
use Rattle.dspec_deeds.specs.declared.deed.DecideFate.TheVariants as decided
use Rattle.dspec_deeds.specs.declared.deed.SpeculateFate.TheVariants as spoken
use Rattle.dspec_deeds.specs.declared.deed.TraceFate.TheVariants as traced
use Rattle.dspec_deeds.proofs.{Marks.mark_tells, OwnStates.tells_present, PresentIds.decided_given, PresentIds.open_present, PresentIds.present_is, SetUp.set_up, SoundLists.opened_in_range}
use Rattle.dspec_deeds.proofs.{TestLemmas.number_is_itself}
use Rattle.dspec_core.proofs.Batches.{stream_more}

-- what holds on a failure holds of each result
pub on_err : {T E P : Type 0} (r : Result T E) → P → OnErr r P
on_err (Ok x) p = cc
on_err (Err x) p = p

-- an open speculation is of a slot of the session
pub open_slot : (k : Config) (h : List Deed) (id : Speculation) → start_fault k ≡ None → IsSound k h → is_open id h ≡ true → IsSlot k id.slot
open_slot k h id fine sound opens = opened_in_range k h id (set_up k fine).1 sound (open_present k h id sound opens).given

-- a settlement is of a decided speculation
settles_decided : (v : Ruling) (f : DecideFate) → SettlesAs v f → is_undecided v ≡ false
settles_decided undecided f e = absurd e
settles_decided (committed c) f e = refl
settles_decided (discarded c) f e = refl

-- so it is of a slot of the session
pub settled_slot : (k : Config) (c : ℕ) (id : Speculation) (f : DecideFate) (h : List Deed) → start_fault k ≡ None → IsSound k (Settle c id f ∷ h) → IsSlot k id.slot
settled_slot k c id f h fine sound =
    opened_in_range k h id (set_up k fine).1 sound.0 (decided_given k h id sound.0 (settles_decided (verdict id h) f sound.1.1.1.1))

-- a test of the CPU itself
own_test : (c : ℕ) (b : Bool) → (b && (c == c)) ≡ b
own_test c true = number_is_itself c
own_test c false = refl

-- the stream after a commit, and after a settlement: a copied block is after it
pub stream_commits : (c : ℕ) (id : Speculation) (f : DecideFate) (h : List Deed) → stream c h ++ (if is_copied f then reverse (contents (held c id h)) else []) ≡ stream c (Commit c id f ∷ h)
stream_commits c id f h = stream_more c (is_copied f) (held c id h) h ∙ ap (λ b. reverse (contents ((if b then held c id h else []) ++ accepted c h))) (sym (own_test c (is_copied f)))

pub stream_settles : (c : ℕ) (id : Speculation) (f : DecideFate) (h : List Deed) → stream c h ++ (if is_copied f then reverse (contents (held c id h)) else []) ≡ stream c (Settle c id f ∷ h)
stream_settles c id f h = stream_more c (is_copied f) (held c id h) h ∙ ap (λ b. reverse (contents ((if b then held c id h else []) ++ accepted c h))) (sym (own_test c (is_copied f)))

-- and after a discard, which copies nothing
pub stream_discards : (c : ℕ) (id : Speculation) (f : DecideFate) (h : List Deed) → is_discard f ≡ true
    → stream c h ++ (if is_copied f then reverse (contents (held c id h)) else []) ≡ stream c (Discard c id f ∷ h)
stream_discards c id (decided.Thrown n) h e = append-nil (stream c h)
stream_discards c id (decided.Copied n) h e = absurd (true≢false (sym e))
stream_discards c id f h e = append-nil (stream c h)

-- the stream after a traced record: one that is kept is after it
pub stream_traces : (c : ℕ) (r : Record) (f : TraceFate) (h : List Deed) (rs : List Record) → rs ≡ stream c h → rs ++ (if trace_kept f then r ∷ [] else []) ≡ stream c (Trace c r f ∷ h)
stream_traces c r traced.Kept h rs e = rw (number_is_itself c, e) (sym (reverse-append (r ∷ []) (contents (accepted c h))))
stream_traces c r traced.Dropped h rs e = append-nil rs ∙ e
stream_traces c r traced.Stopped h rs e = append-nil rs ∙ e

-- what was told of a record that was traced is its fate
pub traced_as : (shape : ℕ → Option Shape) (k : Config) (c : ℕ) (r : Record) (f : TraceFate) (fits : Bool) (h : List Deed) → (f ≡ traced.Stopped → ⊥) → CpuLegal shape k h (Trace c r f)
    → fits ≡ fits_principal shape k c (one r) h → (if fits then traced.Kept else traced.Dropped) ≡ f
traced_as shape k c r f fits h h1 h2 h3 = grind (arith, nat_tests)

-- and of one that was granted
pub spoken_as : (shape : ℕ → Option Shape) (k : Config) (c : ℕ) (id : Speculation) (r : Record) (f : SpeculateFate) (fits : Bool) (h : List Deed) → spoken_granted f ≡ true
    → CpuLegal shape k h (Speculate c id r f) → fits ≡ fits_speculative shape k c id r h → (if fits then spoken.Kept else spoken.Dropped) ≡ f
spoken_as shape k c id r f fits h h1 h2 h3 = grind (arith, nat_tests)

-- a settlement commits or discards
pub settles_as : (k : Config) (c : ℕ) (id : Speculation) (f : DecideFate) (h : List Deed) → IsSound k (Settle c id f ∷ h) → (is_commit f || is_discard f) ≡ true
settles_as k c id f h sound = grind (arith, nat_tests)

pub settles_on : (f : DecideFate) → (is_commit f || is_discard f) ≡ true → decided_stopped f ≡ false
settles_on decided.Stopped e = absurd (true≢false (sym e))
settles_on f e = refl

module _ {B : Type 0} (keeps : B → List Piece → Type 0) (capacity : B → ℕ) (k : Config) (c : ℕ) (h : List Deed) (side : CpuState B) (was : ShowsList keeps capacity k c h side)
    (id : Speculation) (slot : IsSlot k id.slot) where
  -- what is asked of an identifier at its slot
  pub place_there : (1 ≤ id.slot) × (id.slot ≤ length side.speculative.items)
  place_there = let count = was.parts.buffer_count in let low = slot.0 in let high = slot.1 in (low, omega arith)

  pub mark_there : (1 ≤ id.slot) × (id.slot ≤ length side.marks)
  mark_there = let count = was.parts.mark_count in let low = slot.0 in let high = slot.1 in (low, omega arith)

  pub specdrop_there : (1 ≤ id.slot) × (id.slot ≤ length side.specdrops.items)
  specdrop_there = let count = was.parts.specdrop_count in let low = slot.0 in let high = slot.1 in (low, omega arith)

  pub ack_there : (1 ≤ id.slot) × (id.slot ≤ length side.acks.items)
  ack_there = let count = was.parts.ack_count in let low = slot.0 in let high = slot.1 in (low, omega arith)

module _ {B : Type 0} (keeps : B → List Piece → Type 0) (capacity : B → ℕ) (k : Config) (c : ℕ) (h : List Deed) (side : CpuState B) (was : ShowsList keeps capacity k c h side)
    (id : Speculation) (slot : IsSlot k id.slot) (lt : c < k.cpus) (sound : IsSound k h) (now : issue id.slot h ≡ id.issue) where
  -- the mark tells whether the CPU is a caller
  pub among_is : (mine : Bool) → ((m : ℕ) → slice_get side.marks (id.slot - 1) ≡ Some m → mine ≡ (m == id.issue + 1)) → mine ≡ is_among c (callers id h)
  among_is mine tells = grind (arith, nat_tests, mark_tells, present_is)

  pub caller_is : (mine : Bool) → ((m : ℕ) → slice_get side.marks (id.slot - 1) ≡ Some m → mine ≡ (m == id.issue + 1)) → IsCaller c id mine h
  caller_is mine tells =
      let marked = tells (mark c id.slot h) (was.parts.marks id.slot slot.0 slot.1) in
      record {
        marked = marked;
        empty = λ e. subst (λ j. held c j h ≡ []) (present_is id h now)
            ((tells_present k c id.slot h lt sound).unmarked (ap (λ n. mark c id.slot h == n + 1) now ∙ (sym marked ∙ e)));
      }

  -- the slot's buffer has the records that the CPU holds of it
  pub block_there : (b : B) → slice_get side.speculative.items (id.slot - 1) ≡ Some b → keeps b (map one (contents (held c id h)))
  block_there b got =
      let holds : held c (last_called c id.slot h) h ≡ held c id h = (tells_present k c id.slot h lt sound).holds ∙ ap (λ j. held c j h) (present_is id h now) in
      subst (λ os. keeps b (map one (contents os))) holds (was.parts.speculative id.slot b slot.0 slot.1 got).has

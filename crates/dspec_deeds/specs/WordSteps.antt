-- Serves proofs. Which word, which acknowledgement each deed changes, and to what.
use Rattle.std.specs.Prelude.{ℕ, ◌+◌, ◌==◌, Bool, false, ◌&&◌, List, if◌then◌else◌, Some}
use Rattle.dspec_deeds.specs.FateKinds.{spoken_granted, is_commit, is_discard}
use Rattle.dspec_deeds.specs.History.{issue, callers, joined, is_sole_or_none, active_code, word_at, acks, ack}
use Rattle.dspec_deeds.specs.Words.Outside.{Inactive, Active, Committing, CommittingMany, Discarding, SlotState, released}
use Rattle.dspec_deeds.specs.declared.deed.Deed.{Deed, TheVariants.Opened, TheVariants.Speculate, TheVariants.Commit, TheVariants.Discard, TheVariants.Release}

-- the deed may change the word of the slot: it gives a speculation out, has one more caller, decides or releases
abbrev pub touches : ℕ → Deed → Bool
touches t (Opened c id) = t == id.slot
touches t (Speculate c id r f) = spoken_granted f && (t == id.slot)
touches t (Commit c id f) = is_commit f && (t == id.slot)
touches t (Discard c id f) = is_discard f && (t == id.slot)
touches t (Release s) = t == s
touches t d = false

-- what such a deed makes of the word; of another deed nobody asks
abbrev pub word_made : Deed → List Deed → SlotState
word_made (Opened c id) h = record { issue = id.issue; code = Active }
word_made (Speculate c id r f) h = record { issue = id.issue; code = active_code (joined (Some c) (callers id h)) }
word_made (Commit c id f) h = record { issue = id.issue; code = if is_sole_or_none c (callers id h) then Committing else CommittingMany }
word_made (Discard c id f) h = record { issue = id.issue; code = Discarding }
word_made (Release s) h = released (issue s h)
word_made d h = record { issue = 0; code = Inactive }

abbrev pub word_after : ℕ → Deed → List Deed → SlotState
word_after s d h = if touches s d then word_made d h else word_at s h

-- a settlement acknowledges the slot's present issue
abbrev pub ack_after : ℕ → ℕ → Deed → List Deed → ℕ
ack_after c s d h = if acks c s d then issue s h + 1 else ack c s h

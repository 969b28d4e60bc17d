-- Serves proofs. The two calls that decide a speculation, said as one, and the words that steps leave.
use Rattle.std.specs.Prelude.{ℕ, Bool}
use Rattle.dspec_core.specs.Words.Outside.{Act, Attempt, Discarding, Speculation, SlotState, commit_at, is_commit, is_discard, DecideFate, Deed}
use Rattle.dspec_core.specs.declared.machine.decision.Decision.{Decision, TheVariants.Commit, TheVariants.Discard}
use Rattle.dspec_deeds.specs.declared.deed.Deed.TheVariants as deed

-- the deed that the call enters
abbrev pub deed_of : Decision → ℕ → Speculation → DecideFate → Deed
deed_of Commit c id f = deed.Commit c id f
deed_of Discard c id f = deed.Discard c id f

-- a fate with which it decides
abbrev pub decides : Decision → DecideFate → Bool
decides Commit f = is_commit f
decides Discard f = is_discard f

-- the word after a table's act: the one that it attempts, or the one that stands
abbrev pub word_left : SlotState → Act → SlotState
word_left w (Attempt to) = to
word_left w act = w

-- the word after a call that decides, and releases nothing
abbrev pub decided_left : Decision → SlotState → Speculation → Bool → SlotState
decided_left Commit w id mine = word_left w (commit_at w id mine)
decided_left Discard w id mine = record { issue = w.issue; code = Discarding }

-- Serves proofs. What a call asks of its seat, by the seat's own list and by what it was shown.
use Rattle.std.specs.Prelude.{ℕ, ◌≡◌, ◌<◌, ◌≤◌, ◌+◌, true, false, Some, IsTrue}
use Rattle.dspec_table.specs.Words.Outside.{Speculation, SlotState, awaits, open_at, speculate_at, commit_at, discard_at, settle_at, is_among, callers, late, scan, word_at, opened, solo, ack, mark}
use Rattle.dspec_table.specs.Words.Outside.{Code, Active, Committing, Granted, Attempt, Config, CpuOp}
use Rattle.dspec_table.specs.declared.{doing.Doing.Doing, rule.View.View}
use Rattle.dspec_deeds.specs.declared.calls.CpuOp.TheVariants as op

-- A call in flight on an identifier's slot: a load of activity of this very call showed that the session runs. Whether the CPU is a caller is as its own
-- list has it, where the identifier isn't older than the last speculation of the slot that was granted to it: an older one's
-- word has another issue by then, and the tables don't ask.
abbrev pub IsInFlight : Config → View → ℕ → Doing → Speculation → ℕ → Type 0
IsInFlight k v c doing id slot =
    (id.slot ≡ slot) × (scan k c v.own ≡ 0) × (late c v.seen ≡ false) × (v.flight ≡ Some doing.op)
    × (mark c id.slot v.own ≤ id.issue + 1 → doing.mine ≡ is_among c (callers id v.own))

-- the call is on the identifier
abbrev pub IsOn : Speculation → CpuOp → Type 0
IsOn id (op.Speculate j r) = j ≡ id
IsOn id (op.Commit j) = j ≡ id
IsOn id (op.Discard j) = j ≡ id
IsOn id o = ⊥

-- a load of a slot's word: in a call of speculation in flight of the slot that it has come to, else of the identifier's slot
abbrev pub MayLoad : Config → View → ℕ → Doing → ℕ → CpuOp → Type 0
MayLoad k v c doing slot (op.Trace r) = Unit {0}
MayLoad k v c doing slot op.Speculation = (scan k c v.own ≡ slot) × (v.flight ≡ Some op.Speculation)
MayLoad k v c doing slot (op.Speculate id r) = IsInFlight k v c doing id slot
MayLoad k v c doing slot (op.Commit id) = IsInFlight k v c doing id slot
MayLoad k v c doing slot (op.Discard id) = IsInFlight k v c doing id slot
MayLoad k v c doing slot op.Service = Unit {0}

-- the word from was shown last to a call of speculation in flight, and the table attempts to
abbrev pub MayOpen : Config → View → ℕ → ℕ → SlotState → SlotState → Type 0
MayOpen k v c slot from to =
    (scan k c v.own ≡ slot) × (from ≡ word_at slot v.seen) × (open_at from k.max_issues ≡ Attempt to)
    × (v.flight ≡ Some op.Speculation)

abbrev pub as_active : SlotState → SlotState
as_active w = record { issue = w.issue; code = Active }

abbrev pub Attempts : Doing → SlotState → SlotState → CpuOp → Type 0
Attempts doing from to (op.Trace r) = ⊥
Attempts doing from to op.Speculation = ⊥
Attempts doing from to (op.Speculate id r) = speculate_at from id doing.mine ≡ Attempt to
Attempts doing from to (op.Commit id) = commit_at from id doing.mine ≡ Attempt to
Attempts doing from to (op.Discard id) = discard_at from id doing.mine ≡ Attempt to
Attempts doing from to op.Service = ⊥

abbrev pub MayTry : Config → View → ℕ → Doing → ℕ → SlotState → SlotState → Type 0
MayTry k v c doing slot from to = MayLoad k v c doing slot doing.op × Attempts doing from to doing.op × (from ≡ word_at slot v.seen)

-- the call is a commit or a discard
abbrev pub IsDeciding : CpuOp → Type 0
IsDeciding (op.Commit id) = Unit {0}
IsDeciding (op.Discard id) = Unit {0}
IsDeciding o = ⊥

-- the seat's own commit stands in the slot, and waits for no other CPU
pub record OwnCommit (k : Config) (v : View) (c : ℕ) (id : Speculation) : Type 0 where
  pub idle : scan k c v.own ≡ 0
  pub below : id.issue < k.max_issues
  pub given : opened id v.seen ≡ true
  pub word : word_at id.slot v.seen ≡ record { issue = id.issue; code = Committing }
  pub alone : solo id v.seen ≡ Some c

-- the seat was shown a word in this issue that waits for it
pub record MaySettle (k : Config) (v : View) (c : ℕ) (id : Speculation) : Type 0 where
  pub idle : scan k c v.own ≡ 0
  pub low : 1 ≤ id.slot
  pub high : id.slot ≤ k.nspec
  pub issue : (word_at id.slot v.seen).issue ≡ id.issue
  pub granted : settle_at (word_at id.slot v.seen) (ack c id.slot v.own) ≡ Granted

-- the word waits for every CPU, and each was seen to have acknowledged its issue
pub record MayReap (k : Config) (v : View) (slot : ℕ) (from : SlotState) : Type 0 where
  pub low : 1 ≤ slot
  pub high : slot ≤ k.nspec
  pub waits : IsTrue (awaits from.code)
  pub acked : (c : ℕ) → c < k.cpus → from.issue < ack c slot v.seen

-- the call in flight is the commit that stands in the slot
abbrev pub CommitsNow : Config → View → ℕ → ℕ → CpuOp → Type 0
CommitsNow k v c slot (op.Commit id) = (id.slot ≡ slot) × OwnCommit k v c id
CommitsNow k v c slot o = ⊥

-- what holds of an exchange to Committing
abbrev pub IfCommitting : Code → Type 0 → Type 0
IfCommitting Committing P = P
IfCommitting w P = Unit {0}

-- A call of commit: what its exchange tells, and the lists after its answers.
use Rattle.std.proofs.Common.{arith, ◌≡◌, ◌≢◌, ◌⊎◌, ℕ, Bool, true, false, List, ◌∷◌, Option, None, if◌then◌else◌, refl, sym, ◌∙◌, subst, ⊎_elim, inl, inr, add-zero}
use Rattle.std.proofs.lemmas.Bool.Decides.{nat_tests}
use Rattle.dspec_cpu.specs.Words.{Record, Speculation, SlotState, awaits, commit_act, commit_at, is_commit, is_copied, count_of, issue, owed, solo, word_at, IsSound, sealed_last, CommitsNow}
use Rattle.dspec_cpu.specs.Words.{decision, decided_deeds, committed_fate, IsShown, OwnsCommit, Shape, Code, Active, ActiveOne, ActiveMany, Committing, CommittingMany, Attempt, Config, Decided}
use Rattle.dspec_cpu.specs.Words.{DecideFate, Deed, Release, View, CpuSeat, Counts}
use Rattle.dspec_cpu.specs.declared.parts.CpuParts.{CpuParts as Cpu}
use Rattle.dspec_deeds.specs.declared.calls.CpuOp.TheVariants as op
use Rattle.dspec_deeds.specs.declared.calls.Decided.TheVariants as decided
use Rattle.dspec_deeds.proofs.{Awaiting.awaiting, PresentIds.present_is, TestLemmas.same_number}
use Rattle.dspec_cpu_state.proofs.Tallies.{released_counts}
use Rattle.dspec_cpu.proofs.{Retries.here_or_void, Retries.attempt_is, Retries.to_is, Shown.quiet_shown}

-- the answer that tells what becomes of a block
abbrev pub block_answer : Bool → ℕ → Decided
block_answer fit n = if fit then decided.Copied n else decided.Lost n

-- the fate of a block that a commit measured
pub fate_tells : (fit : Bool) (n : ℕ) → (is_commit (committed_fate fit n) ≡ true) × (is_copied (committed_fate fit n) ≡ fit) × (count_of (committed_fate fit n) ≡ n)
fate_tells true n = (refl, refl, refl)
fate_tells false n = (refl, refl, refl)

pub block_deeds : (of : DecideFate → Deed) (slot : ℕ) (alone fit : Bool) (n : ℕ) → decided_deeds of slot alone (block_answer fit n) ≡ decision alone slot (of (committed_fate fit n))
block_deeds of slot alone true n = refl
block_deeds of slot alone false n = refl

-- an exchange of commit leaves the issue, and the code of a commit
pub record IsCommitWord (i : ℕ) (to : SlotState) : Type 0 where
  pub issue : to.issue ≡ i
  pub code : (to.code ≡ Committing) ⊎ (to.code ≡ CommittingMany)

word_of : (i : ℕ) (a b : SlotState) → Attempt a ≡ Attempt b → IsCommitWord i a → IsCommitWord i b
word_of i a b e w = subst (λ x. IsCommitWord i x) (to_is e) w

commit_leaves : (i : ℕ) (mine : Bool) (code : Code) (to : SlotState) → commit_act i mine code ≡ Attempt to → IsCommitWord i to
commit_leaves i mine Active to e = word_of i _ to e record { issue = refl; code = inl refl }
commit_leaves i true ActiveOne to e = word_of i _ to e record { issue = refl; code = inl refl }
commit_leaves i false ActiveOne to e = word_of i _ to e record { issue = refl; code = inr refl }
commit_leaves i mine ActiveMany to e = word_of i _ to e record { issue = refl; code = inr refl }
commit_leaves i mine code to e = absurd (cc (e))

pub left_by_commit : (id : Speculation) (mine : Bool) (word to : SlotState) → commit_at word id mine ≡ Attempt to → IsCommitWord id.issue to
left_by_commit id mine word to e = grind (arith, nat_tests, here_or_void, attempt_is, same_number, commit_leaves)

-- the commit that stands is the one in flight
pub commits_now : (k : Config) (c slot : ℕ) (id : Speculation) (w : View) (to : SlotState) → slot ≡ id.slot → IsCommitWord id.issue to → to.code ≡ Committing
    → OwnsCommit k c id.slot w (Attempt to) → CommitsNow k w c slot (op.Commit id)
commits_now k c slot id w to at word is owns = grind (arith, nat_tests)

-- after an exchange that waits for others, no CPU decided alone
pub waits_at : (k : Config) (id : Speculation) (h : List Deed) (to : SlotState) (c : Code) → IsSound k h → owed h ≡ 0 → word_at id.slot h ≡ to → to.issue ≡ id.issue
    → to.code ≡ c → awaits c ≡ true → solo id h ≡ None
waits_at k id h to c sound rests now same is waits = grind (arith, nat_tests, present_is, awaiting)

pub waits_many : (k : Config) (id : Speculation) (h : List Deed) (to : SlotState) → IsSound k h → owed h ≡ 0 → word_at id.slot h ≡ to → IsCommitWord id.issue to
    → to.code ≢ Committing → solo id h ≡ None
waits_many k id h to sound rests now word n =
    waits_at k id h to CommittingMany sound rests now word.issue (⊎_elim (λ (e : to.code ≡ Committing). absurd (n e)) (λ (e : to.code ≡ CommittingMany). e) word.code) refl

module _ (shape : ℕ → Option Shape) (accepted : Record → Bool) (text : Record → List ℕ) {S : Type 0} (cpu : Cpu S) (p : List Deed) (was : IsShown shape accepted text cpu p) where
  -- a slot that the CPU released
  pub released_shown : (slot : ℕ) → sealed_last p ≡ false → (seat : CpuSeat) → IsShown shape accepted text (record cpu { seat = seat }) (Release slot ∷ p)
  released_shown slot last seat = quiet_shown shape accepted text cpu p was (Release slot) refl refl last seat cpu.side.calls cpu.side.missed_busy cpu.side.drops cpu.side.counts
      (was.side.called ∙ sym (add-zero _)) was.side.missed (was.side.drops ∙ sym (add-zero _)) (was.counted ∙ sym (released_counts cpu.config cpu.cpu cpu.side.counts.worn p slot))

  -- a call that was answered Worn
  pub worn_shown : (m : ℕ) (counts : Counts) → counts ≡ record cpu.side.counts { worn = m } → IsShown shape accepted text (record cpu { side = record cpu.side { counts = counts } }) p
  worn_shown m counts is = grind (arith, nat_tests)

-- A commit that waits for no other CPU stands, and is its seat's own.
use Rattle.std.proofs.{Common.arith, Common.◌≡◌, Common.ℕ, Common.Bool, Common.true, Common.List, Common.[], Common.◌∷◌, Common.refl, lemmas.Bool.Decides.nat_tests}
use Rattle.dspec_table.specs.Words.{Speculation, SlotState, speculate_at, commit_at, discard_at, is_commit, scan, committed, word_at, committed_fate, of_cpu, number_of, MayLoad, Attempts}
use Rattle.dspec_table.specs.Words.{IsDeciding, OwnCommit, IfCommitting, slot_place, Entered, at_exchange, Code, Committing, Attempt, Config, CpuOp, Deed, Commit}
use Rattle.dspec_table.specs.declared.{doing.Doing.Doing, rule.View.View}
use Rattle.dspec_deeds.proofs.{TestLemmas.id_is_itself, WordCodes.committing_tells}
use Rattle.dspec_interleaving.proofs.StepDeeds.{committed_deeds}
use Rattle.dspec_table.proofs.Limits.{issue_below}

-- a commit is attempted at the identifier's issue, which stays
committed_issue : (from to : SlotState) (id : Speculation) (mine : Bool) → commit_at from id mine ≡ Attempt to → to.issue ≡ id.issue
committed_issue from to id mine e = grind (arith, nat_tests)

discards_apart : (from to : SlotState) (id : Speculation) (mine : Bool) → discard_at from id mine ≡ Attempt to → to.code ≡ Committing → ⊥
discards_apart from to id mine e w = grind (arith, nat_tests)

joins_apart : (from to : SlotState) (id : Speculation) (mine : Bool) → speculate_at from id mine ≡ Attempt to → to.code ≡ Committing → ⊥
joins_apart from to id mine e w = grind (arith, nat_tests)

committed_is : (a b : ℕ) → committed a ≡ committed b → a ≡ b
committed_is a b e = cc

fate_commits : (doing : Doing) → is_commit (committed_fate doing.fits doing.count) ≡ true
fate_commits doing = grind (arith, nat_tests)

if_committing : (x : Code) (P : Type 0) → (x ≡ Committing → P) → IfCommitting x P
if_committing Committing P holds = holds refl
if_committing x P holds = tt

module _ (k : Config) (c slot : ℕ) (v w : View) (doing : Doing) (from to : SlotState) (log : List Deed) (who : v.who ≡ of_cpu c) (same : v.config ≡ k) (now_shown : word_at slot w.seen ≡ to) where
  own_commit : (id : Speculation) → Entered (slot_place slot) v log (Commit (number_of v.who) id (committed_fate doing.fits doing.count) ∷ []) w → id.slot ≡ slot
      → scan k c v.own ≡ 0 → to.issue ≡ id.issue → to.code ≡ Committing → OwnCommit k w c record { issue = to.issue; slot = slot }
  own_commit id entered at idle issues is = grind (arith, nat_tests, committing_tells, fate_commits, id_is_itself, committed_is, issue_below)

  decides_next : (o : CpuOp) → Entered (slot_place slot) v log (at_exchange v.config (number_of v.who) doing slot from true o) w → MayLoad k v c doing slot o → Attempts doing from to o
      → IsDeciding o
      → IfCommitting to.code (OwnCommit k w c record { issue = to.issue; slot = slot })
  decides_next = grind (arith, nat_tests, if_committing, own_commit, committed_deeds, committed_issue, discards_apart)

  pub releases_next : (o : CpuOp) → Entered (slot_place slot) v log (at_exchange v.config (number_of v.who) doing slot from true o) w → MayLoad k v c doing slot o → Attempts doing from to o
      → IfCommitting to.code (OwnCommit k w c record { issue = to.issue; slot = slot })
  releases_next = grind (arith, nat_tests, if_committing, joins_apart, decides_next)

-- A call of commit that decided: the list and the deeds after it.
use Rattle.std.proofs.Common.{◌≡◌, ◌≢◌, ℕ, ◌+◌, ◌==◌, Bool, true, false, List, [], ◌∷◌, length, Option, refl, sym, ap, ◌∙◌, subst, inl, true≢false}
use Rattle.dspec_cpu.specs.Words.{Record, Stored, HasPieces, Speculation, SlotState, is_commit, CpuLegal, fits_principal, mark, contents, held, known, set_up, IsAt, cpu_of, ReleasedWord, IsCaller}
use Rattle.dspec_cpu.specs.Words.{ShowsList, committed_fate, steps, decision, decided_deeds, HasList, IsReady, IsShown, Reached, OwnsCommit, Shape, Committing, Attempt, Decided, DecideFate, Deed}
use Rattle.dspec_cpu.specs.Words.{Commit, Release, View, CpuSeat, CpuState}
use Rattle.dspec_cpu.specs.declared.parts.CpuParts.{CpuParts as Cpu}
use Rattle.dspec_buffer.specs.Extent as extent
use Rattle.dspec_deeds.proofs.TestLemmas.{number_is_itself}
use Rattle.dspec_table.specs.declared.seats.Words.{Words}
use Rattle.dspec_cpu.specs.declared.reaching.Reach.TheVariants as reach
use Rattle.dspec_cpu.proofs.{Decided.Ended, Decided.deciding, Decided.deed_of, Decided.ended, Decisions.block_answer, Decisions.block_deeds, Decisions.fate_tells, Decisions.IsCommitWord}
use Rattle.dspec_cpu.proofs.{Decisions.left_by_commit, Decisions.released_shown, Decisions.waits_many, DeedsAfter.DeedsAfter, DeedsAfter.deeds_after, Ready.few, Ready.holder, Ready.set_up_is}
use Rattle.dspec_cpu.proofs.{Ready.stands_after, Shown.shows, Shown.shown_after, Slots.stands_more, Speculates.caller_of}

module _ (shape : ℕ → Option Shape) (accepted : Record → Bool) (text : Record → List ℕ) {S : Type 0} (words : Words) (cpu : Cpu S)
    (ready : IsReady shape accepted text words cpu) {id : Speculation} {fit mine : Bool} {n : ℕ} {to : SlotState} (seat : CpuSeat) (commits : Bool) (is : commits ≡ true)
    (got : Reached cpu.config cpu.cpu (deciding true id fit n mine) id (known cpu.seat) (reach.Done to) (known seat)) where
  abbrev v : View
  v = known cpu.seat

  abbrev w : View
  w = known seat

  abbrev f : DecideFate
  f = committed_fate fit n

  abbrev d : Deed
  d = Commit cpu.cpu id f

  pub left : IsCommitWord id.issue to
  left = let a = got.acts refl in left_by_commit id mine a.0 to a.1

  -- the block was copied or lost, as the call measured it
  module _ (at : IsAt words seat × (cpu_of seat ≡ cpu_of cpu.seat)) (now : CpuState Stored) (a : Decided) (answers : a ≡ block_answer fit n)
      (marked : (p : List Deed) → IsShown shape accepted text cpu p → mine ≡ (mark cpu.cpu id.slot p == id.issue + 1))
      (fitting : (p : List Deed) → IsShown shape accepted text cpu p → IsCaller cpu.cpu id mine p
      → fit ≡ fits_principal shape cpu.config cpu.cpu (extent.block (contents (held cpu.cpu id p))) p)
      (counting : (p : List Deed) → IsShown shape accepted text cpu p → IsCaller cpu.cpu id mine p → n ≡ length (held cpu.cpu id p)) (fate : DecideFate) (its : fate ≡ f)
      (shown : (p : List Deed) → ShowsList (HasPieces shape accepted text) (λ b. b.size) cpu.config cpu.cpu p cpu.side → IsCaller cpu.cpu id mine p → is_commit fate ≡ true
      → CpuLegal shape cpu.config p (Commit cpu.cpu id fate) → ShowsList (HasPieces shape accepted text) (λ b. b.size) cpu.config cpu.cpu (Commit cpu.cpu id fate ∷ p) now) where
    abbrev new : Cpu S
    new = record cpu { seat = seat; side = now }

    block_shown : (p : List Deed) → HasList shape accepted text cpu p → IsShown shape accepted text new (d ∷ p)
    block_shown p had =
        let caller = caller_of cpu.config cpu.cpu id v.own mine (few shape accepted text words cpu ready) (got.present refl).0 p had.own (marked p had.shown) in
        let allows : CpuLegal shape cpu.config p d = rw ((fate_tells fit n).0) ((fate_tells fit n).2 ∙ counting p had.shown caller, (fate_tells fit n).1 ∙ fitting p had.shown caller) in
        let was = shown p (shows shape accepted text cpu.side p had.shown) caller (ap is_commit its ∙ (fate_tells fit n).0)
        (subst (λ x. CpuLegal shape cpu.config p (Commit cpu.cpu id x)) (sym its) allows) in
        shown_after shape accepted text cpu.side p had.shown d refl (number_is_itself cpu.cpu) allows now
        (subst (λ x. ShowsList (HasPieces shape accepted text) (λ b. b.size) cpu.config cpu.cpu (Commit cpu.cpu id x ∷ p) now) its was)

    -- its deeds are those of the answer
    answered : (alone : Bool) → decision alone id.slot d ≡ decided_deeds (Commit cpu.cpu id) id.slot alone a
    answered alone = sym (ap (decided_deeds (Commit cpu.cpu id) id.slot alone) answers ∙ block_deeds (Commit cpu.cpu id) id.slot alone fit n)

    commits_by : Commit cpu.cpu id ≡ deed_of commits cpu.cpu id
    commits_by = ap (λ b. deed_of b cpu.cpu id) (sym is)

    -- it released nothing
    pub left_open : OwnsCommit (set_up words) (cpu_of seat) id.slot w (Attempt to) → to.code ≢ Committing → Ended shape accepted text words cpu (deed_of commits cpu.cpu id) id a new
    left_open owns several = ended shape accepted text words cpu commits_by id a false new
        (λ d e. waits_many cpu.config id w.seen to got.stands.sound got.stands.rests owns.0 left several) (subst (λ ds. DeedsAfter shape accepted text words cpu ds new) (answered false)
        (deeds_after shape accepted text words cpu ready seat at now (d ∷ []) got.goes got.stands (λ p. refl) ready.steady.idle refl block_shown))

    -- it released the slot
    pub released : (after : CpuSeat) (slot : ℕ) → slot ≡ id.slot → ReleasedWord slot w (known after) → IsAt words after × (cpu_of after ≡ cpu_of seat)
        → Ended shape accepted text words cpu (deed_of commits cpu.cpu id) id a (record cpu { seat = after; side = now })
    released after slot there step at_last =
        let u = known after in
        let step : ReleasedWord id.slot w u = subst (λ s. ReleasedWord s w u) there step in
        let last = stands_after cpu.config cpu.cpu w u step.0 (Release id.slot ∷ []) (got.stands.config ∙ set_up_is shape accepted text words cpu ready)
        (got.stands.who ∙ holder shape accepted text words cpu ready) step.2 in
        let stands = stands_more cpu.config cpu.cpu v w u (Release id.slot) (d ∷ []) got.stands last in
        ended shape accepted text words cpu commits_by id a true (record cpu { seat = after; side = now }) (λ d e. absurd (true≢false e))
        (subst (λ ds. DeedsAfter shape accepted text words cpu ds (record cpu { seat = after; side = now })) (answered true)
        (deeds_after shape accepted text words cpu ready after (at_last.0, at_last.1 ∙ at.1) now (Release id.slot ∷ d ∷ [])
        (steps u (Release id.slot ∷ []) _ step.0 got.goes step.1 (inl step.2) refl) stands (λ p. refl) ready.steady.idle refl
        (λ p had. released_shown shape accepted text new (d ∷ p) (block_shown p had) id.slot refl after)))

-- The CPU's own block of a speculation that was decided, settled.
use Rattle.std.proofs.Common.{◌≡◌, ℕ, ◌+◌, ◌-◌, ◌==◌, ◌<◌, ◌≤◌, ◌^◌, ◌||◌, Bool, true, false, List, ◌∷◌, length, Option, Some, if◌then◌else◌, refl, sym, ap, ◌∙◌, subst, arith}
use Rattle.std.proofs.lemmas.Bool.Decides.{nat_tests}
use Rattle.std.specs.Prelude.{slice_get}
use Rattle.dspec_cpu.specs.Words.{Record, Stored, HasPieces, Speculation, is_commit, is_discard, is_lost, decided_stopped, CpuLegal, fits_principal, mark, contents, held, CpuRow, HasRoom, IsCaller}
use Rattle.dspec_cpu.specs.Words.{ShowsList, settled_fate, BlockSettled, CanSettle, serving, Shape, Batch, Code, Discarding, Config, DecideFate, Settle, Deed, Doing, CpuState}
use Rattle.dspec_buffer.specs.Extent as extent
use Rattle.dspec_deeds.specs.Settling as settling
use Rattle.dspec_deeds.proofs.TestLemmas.{number_is_itself}
use Rattle.dspec_cpu.proofs.Shown.{shows, shown_after}

-- what becomes of a block is lawful, and never stopped
pub lawful : (shape : ℕ → Option Shape) (k : Config) (c : ℕ) (p : List Deed) (id : Speculation) (code : Code) → CpuRow shape k p (Settle c id (settling.settle_fate shape k c p id code))
lawful shape k c p id Discarding = refl
lawful shape k c p id code = grind (arith, nat_tests)

-- a settlement ends the block, and isn't one that was stopped
ends : (fit : Bool) (n : ℕ) (code : Code) → ((is_commit (settled_fate code fit n) || is_discard (settled_fate code fit n)) ≡ true) × (decided_stopped (settled_fate code fit n) ≡ false)
ends fit n Discarding = (refl, refl)
ends true n code = (refl, refl)
ends false n code = (refl, refl)

pub goes_on : (shape : ℕ → Option Shape) (k : Config) (c : ℕ) (p : List Deed) (id : Speculation) (code : Code) → decided_stopped (settling.settle_fate shape k c p id code) ≡ false
goes_on shape k c p id code = (ends (fits_principal shape k c (extent.block (contents (held c id p))) p) (length (held c id p)) code).1

module _ (shape : ℕ → Option Shape) (accepted : Record → Bool) (text : Record → List ℕ) {k : Config} {c : ℕ} {side : CpuState Stored} {batches : List Batch} {id : Speculation} {code : Code}
    (p : List Deed) (can : CanSettle shape accepted text k c side batches id code p) (j : Speculation) (named : j ≡ id) where
  -- the slot is one of the session's, and so of the CPU's
  pub there : (1 ≤ j.slot) × (j.slot ≤ length side.marks) × (j.slot ≤ length side.speculative.items) × (j.slot ≤ length side.acks.items)
  there = grind (arith, nat_tests)

  module _ (mine : Bool) (tells : (m : ℕ) → slice_get side.marks (j.slot - 1) ≡ Some m → mine ≡ (m == j.issue + 1)) where
    -- whether the CPU is a caller
    pub caller : IsCaller c j mine p
    caller =
        let told = subst (λ (x : Speculation). (m : ℕ) → slice_get side.marks (x.slot - 1) ≡ Some m → mine ≡ (m == x.issue + 1)) named tells in
        let marked = told (mark c id.slot p) (can.shown.side.marks id.slot can.low can.high) in
        subst (λ x. IsCaller c x mine p) (sym named) (record { marked = marked; empty = λ none. can.unmarked (sym marked ∙ none) })

    module _ (fit : Bool) (n : ℕ)
        (fits_all : ShowsList (HasPieces shape accepted text) (λ b. b.size) k c p side → IsCaller c j mine p → fit ≡ fits_principal shape k c (extent.block (contents (held c j p))) p)
        (counts_all : ShowsList (HasPieces shape accepted text) (λ b. b.size) k c p side → IsCaller c j mine p → n ≡ length (held c j p)) where
      -- the fate by what was measured is the one by the CPU's own list
      pub fate_is : settled_fate code fit n ≡ settling.settle_fate shape k c p id code
      fate_is = λ i. settled_fate code (room i) (all i)
        where
          all : n ≡ length (held c id p)
          all = counts_all (shows shape accepted text side p can.shown) caller ∙ ap (λ x. length (held c x p)) named

          room : fit ≡ fits_principal shape k c (extent.block (contents (held c id p))) p
          room = fits_all (shows shape accepted text side p can.shown) caller ∙ ap (λ x. fits_principal shape k c (extent.block (contents (held c x p))) p) named

      module _ (fate : DecideFate) (is : fate ≡ settled_fate code fit n) where
        same : fate ≡ settling.settle_fate shape k c p id code
        same = is ∙ fate_is

        -- it can be counted
        pub room : HasRoom fate side.counts
        room = subst (λ f. HasRoom f side.counts) (sym same) can.room

        pub drops : side.drops + (if is_lost fate then 1 else 0) < 2 ^ 64
        drops = subst (λ f. side.drops + (if is_lost f then 1 else 0) < 2 ^ 64) (sym same) can.drops

        -- so the Settle is shown
        pub block_settled : (now : CpuState Stored)
            → (ShowsList (HasPieces shape accepted text) (λ b. b.size) k c p side → IsCaller c j mine p → (is_commit fate || is_discard fate) ≡ true → CpuLegal shape k p (Settle c j fate)
            → ShowsList (HasPieces shape accepted text) (λ b. b.size) k c (Settle c j fate ∷ p) now)
            → (doing : Doing) → doing ≡ serving fit n mine → BlockSettled shape accepted text k c now batches id code doing p
        block_settled now shown doing served =
            let f = settling.settle_fate shape k c p id code in
            let allows : CpuLegal shape k p (Settle c j fate) =
            subst (λ (x : Speculation × DecideFate). CpuLegal shape k p (Settle c x.0 x.1)) (λ i. (sym named i, sym same i)) (lawful shape k c p id code) in
            let was = shown (shows shape accepted text side p can.shown) caller (ap (λ g. is_commit g || is_discard g) is ∙ (ends fit n code).0) allows in
            record {
              fate = ap (λ (d : Doing). settled_fate code d.fits d.count) served ∙ fate_is;
              shown = shown_after shape accepted text side p can.shown (Settle c id f) refl (number_is_itself c) (lawful shape k c p id code) now
                  (subst (λ (x : Speculation × DecideFate). ShowsList (HasPieces shape accepted text) (λ b. b.size) k c (Settle c x.0 x.1 ∷ p) now) (λ i. (named i, same i)) was);
            }

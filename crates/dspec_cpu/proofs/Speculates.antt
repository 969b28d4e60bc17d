-- A call of speculate.
use Rattle.std.proofs.Common.{◌≡◌, ◌⊎◌, ℕ, ◌+◌, ◌==◌, ◌<◌, Bool, true, false, List, [], ◌∷◌, map, Option, if◌then◌else◌, refl, sym, ap, ◌∙◌, subst, ⊎_elim}
use Rattle.dspec_cpu.specs.Words.{Record, Stored, Speculation, SlotState, fits_speculative, mark, CpuRow, bare, IsCaller, ShowsList, parts_of_side, AreShown, IsPresentAt, is_reached, reached_deeds}
use Rattle.dspec_cpu.specs.Words.{one, piece_fits, contents, held, Offer, Shape, Batch, Config, Deed, Speculate, Doing, CpuState}
use Rattle.dspec_cpu.specs.declared.reaching.Reach.{Reach}
use Rattle.dspec_deeds.specs.declared.calls.CpuOp.TheVariants as op
use Rattle.dspec_deeds.specs.declared.deed.SpeculateFate.TheVariants as spoken
use Rattle.dspec_deeds.proofs.{OwnReads.apart_bare, TestLemmas.number_is_itself}
use Rattle.dspec_cpu.specs.declared.reaching.Reach.TheVariants as reach
use Rattle.dspec_cpu.proofs.{Mine.unmarked_empty, Shown.stores, Shown.size_of, Shown.shown_after}

abbrev pub asked : Speculation → Record → Bool → Bool → Doing
asked id r fit mine = record { op = op.Speculate id r; fits = fit; count = 0; mine = mine }

-- granted by a load or an exchange
abbrev pub IsGrant : Reach → Type 0
IsGrant x = (x ≡ reach.Granted) ⊎ ((to : SlotState) × (x ≡ reach.Done to))

pub grants : (x : Reach) → IsGrant x → is_reached x ≡ true
grants x g = ⊎_elim (λ (e : x ≡ reach.Granted). ap is_reached e) (λ (e : (to : SlotState) × (x ≡ reach.Done to)). ap is_reached e.1) g

pub grant_deeds : (c : ℕ) (doing : Doing) (id : Speculation) (r : Record) (x : Reach) (b : Bool) → IsGrant x → doing.fits ≡ b
    → reached_deeds c doing (op.Speculate id r) x ≡ Speculate c id r (if b then spoken.Kept else spoken.Dropped) ∷ []
grant_deeds c doing id r x b g is = ⊎_elim (λ (e : x ≡ reach.Granted). ap (reached_deeds c doing (op.Speculate id r)) e)
    (λ (e : (to : SlotState) × (x ≡ reach.Done to)). ap (reached_deeds c doing (op.Speculate id r)) e.1) g ∙ ap (λ y. Speculate c id r (if y then spoken.Kept else spoken.Dropped) ∷ []) is

-- what the mark tells of a speculation that is the slot's present one, and that of one that it isn't marked for the CPU holds nothing
pub caller_of : (k : Config) (c : ℕ) (id : Speculation) (own : List Deed) (mine : Bool) → c < k.cpus → IsPresentAt k c id own → (p : List Deed) → bare p ≡ own
    → mine ≡ (mark c id.slot p == id.issue + 1) → IsCaller c id mine p
caller_of k c id own mine few at p is marked = record { marked = marked; empty = λ none. unmarked_empty k c id at.log own p few at.sound at.its is (sym marked ∙ none) }

-- the mark as the seat's own list has it
pub own_mark : (c s : ℕ) (own p : List Deed) (k : Config) → bare p ≡ own → mark c s p ≡ mark c s own
own_mark c s own p k is = (apart_bare k c p).marking s ∙ ap (mark c s) is

-- whether a record fits, as the seat's own list has it
pub own_fits : (shape : ℕ → Option Shape) (k : Config) (c : ℕ) (id : Speculation) (r : Record) (own p : List Deed) → bare p ≡ own
    → fits_speculative shape k c id r p ≡ fits_speculative shape k c id r own
own_fits shape k c id r own p is = ap (λ (os : List Offer). piece_fits shape (map one (contents os)) (one r) k.specsize) ((apart_bare k c p).buffers id ∙ ap (held c id) is)

module _ (shape : ℕ → Option Shape) (accepted : Record → Bool) (text : Record → List ℕ) {k : Config} {c : ℕ} {batches : List Batch} (side : CpuState Stored) (p : List Deed)
    (was : AreShown shape accepted text k c (parts_of_side side) batches side.counts p) where
  -- a record that was granted, and kept or dropped
  pub granted_shown : (id : Speculation) (r : Record) (kept b : Bool) → kept ≡ b → kept ≡ fits_speculative shape k c id r p → (now : CpuState Stored)
      → ShowsList (stores shape accepted text side p was) (size_of shape accepted text side p was) k c (Speculate c id r (if kept then spoken.Kept else spoken.Dropped) ∷ p) now
      → AreShown shape accepted text k c (parts_of_side now) batches now.counts (Speculate c id r (if b then spoken.Kept else spoken.Dropped) ∷ p)
  granted_shown id r kept b is fitting now shown =
      subst (λ x. AreShown shape accepted text k c (parts_of_side now) batches now.counts (Speculate c id r (if x then spoken.Kept else spoken.Dropped) ∷ p)) is
      (shown_after shape accepted text side p was (Speculate c id r (if kept then spoken.Kept else spoken.Dropped)) refl (number_is_itself c) (row kept fitting) now shown)
    where
      row : (x : Bool) → x ≡ fits_speculative shape k c id r p → CpuRow shape k p (Speculate c id r (if x then spoken.Kept else spoken.Dropped))
      row true e = e
      row false e = e

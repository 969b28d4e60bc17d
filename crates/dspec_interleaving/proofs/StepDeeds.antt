-- What a row of the table of steps enters, whichever step comes next.
use Rattle.std.proofs.Common.{◌≡◌, ℕ, ◌==◌, Bool, true, false, List, [], ◌∷◌, if◌then◌else◌, refl, ⊎_elim}
use Rattle.dspec_interleaving.specs.Words.{Record, is_inactive, is_decided, Speculation, SlotState, committed_fate, CpuStep, Measured, spoken_at, committed_by, discarded_by, is_alone, missed}
use Rattle.dspec_interleaving.specs.Words.{served, Act, Attempt, Config, Served, Deed, Speculate, Commit, Discard, Miss, Release}
use Rattle.dspec_interleaving.specs.declared.flight.CpuProgress.{CpuProgress}
use Rattle.dspec_deeds.specs.declared.deed.DecideFate.TheVariants as decided
use Rattle.dspec_deeds.specs.declared.deed.SpeculateFate.TheVariants as spoken
use Rattle.dspec_deeds.proofs.TestLemmas.{either_way}

-- by a test, whichever way it falls
pub by_test : (P : List Deed → Type 0) (b : Bool) (x y : CpuStep) → (b ≡ true → P x.deeds) → (b ≡ false → P y.deeds) → P (if b then x else y).deeds
by_test P true x y p q = p refl
by_test P false x y p q = q refl

module _ (k : Config) (c : ℕ) (m : Measured) (me : CpuProgress) where
  pub spoken_deeds : (id : Speculation) (r : Record) → (spoken_at k c m me id r).deeds ≡ Speculate c id r (if m.keeps id r then spoken.Kept else spoken.Dropped) ∷ []
  spoken_deeds id r = ⊎_elim (λ (t : m.keeps id r ≡ true). rw t refl) (λ (f : m.keeps id r ≡ false). rw f refl) (either_way (m.keeps id r))

  pub committed_deeds : (id : Speculation) (act : Act) → (committed_by k c m me id act).deeds ≡ Commit c id (committed_fate (m.copies id) (m.count id)) ∷ []
  committed_deeds id act = by_test (λ ds. ds ≡ Commit c id (committed_fate (m.copies id) (m.count id)) ∷ []) (is_alone act) _ _ (λ t. refl) (λ f. refl)

  pub discarded_deeds : (id : Speculation) (to : SlotState) → (discarded_by k c m me id (Attempt to)).deeds
      ≡ (if is_inactive to.code then Release id.slot ∷ Discard c id (decided.Thrown (m.count id)) ∷ [] else Discard c id (decided.Thrown (m.count id)) ∷ [])
  discarded_deeds id to = ⊎_elim (λ (t : is_inactive to.code ≡ true). rw t refl) (λ (f : is_inactive to.code ≡ false). rw f refl) (either_way (is_inactive to.code))

  pub missed_deeds : (s : ℕ) (w : SlotState) → (missed k c m me s w).deeds ≡ Miss c s (is_decided w.code) ∷ []
  missed_deeds s w = by_test (λ ds. ds ≡ Miss c s (is_decided w.code) ∷ []) (s == k.nspec) _ _ (λ t. refl) (λ f. refl)

  pub served_deeds : (s : ℕ) (ds : List Deed) (sum : Served) → (served k c m me s ds sum).deeds ≡ ds
  served_deeds s ds sum = by_test (λ es. es ≡ ds) (s == k.nspec) _ _ (λ t. refl) (λ f. refl)

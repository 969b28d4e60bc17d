-- A Release that is owed is its decider's own.
use Rattle.std.proofs.Common.{arith, ◌≡◌, ◌⊎◌, ℕ, true, false, ◌&&◌, if◌then◌else◌, List, [], ◌∷◌, refl, sym, ap, ◌∙◌, subst, ⊎_elim, inl, inr}
use Rattle.std.proofs.lemmas.Bool.Decides.{nat_tests}
use Rattle.dspec_deeds.specs.Words.{Speculation, is_discard, author, owed, callers, is_sole, IsSound, IsLastOf}
use Rattle.dspec_deeds.specs.declared.{calls.Actor.TheVariants.Cpu, config.Config.Config, deed.DecideFate.DecideFate, deed.Deed.Deed, deed.Deed.TheVariants.Discard, deed.Deed.TheVariants.Release}
use Rattle.dspec_deeds.proofs.{PresentIds.open_is_now, PresentIds.present_is, SoundLists.answered_open, SoundLists.discard_goes, TestLemmas.either_way, TestLemmas.and_tells, TestLemmas.id_is_itself}

-- the Release of a slot, by the CPU that did the deed before it
abbrev pub IsOwnRelease : Deed → List Deed → Type 0
IsOwnRelease d h = (s : ℕ) × (d ≡ Release s) × ((c : ℕ) → IsLastOf c h → author d h ≡ Cpu c)

-- after a discard by the one caller the Release of its slot is that caller's
released_by : (k : Config) (a : ℕ) (id : Speculation) (f : DecideFate) (h : List Deed) → IsSound k (Discard a id f ∷ h) → is_discard f ≡ true
    → is_sole a (callers id h) ≡ true → author (Release id.slot) (Discard a id f ∷ h) ≡ Cpu a
released_by k a id f h sound throws sole = grind (arith, nat_tests, answered_open, discard_goes, open_is_now, present_is, id_is_itself)

-- the deed after one that owes a Release is that Release
pub owed_is_own : (k : Config) (d : Deed) (h : List Deed) → IsSound k (d ∷ h) → (owed h ≡ 0) ⊎ IsOwnRelease d h
owed_is_own k (Release s) h sound = ⊎_elim (λ (none : owed h ≡ 0). inl none) (λ (owes : owed h ≡ s). go h sound.0 owes) sound.1.0
  where
    go : (h : List Deed) → IsSound k h → owed h ≡ s → (owed h ≡ 0) ⊎ IsOwnRelease (Release s) h
    go (Discard a id f ∷ h) before owes = ⊎_elim
        (λ (t : (is_discard f && is_sole a (callers id h)) ≡ true).
        let both = and_tells (is_discard f) (is_sole a (callers id h)) t in
        let slot : id.slot ≡ s = subst (λ b. (if b then id.slot else 0) ≡ s) t owes in
        let by = released_by k a id f h before both.0 both.1 in
        inr (s, refl, λ c last. ap (λ x. author (Release x) (Discard a id f ∷ h)) (sym slot) ∙ (by ∙ last)))
        (λ (miss : (is_discard f && is_sole a (callers id h)) ≡ false). inl (rw miss refl))
        (either_way (is_discard f && is_sole a (callers id h)))
    go [] before owes = inl refl
    go (e ∷ h) before owes = inl refl
owed_is_own k d h sound = inl sound.1.0

-- A list whose Seals are placed is legal, where it is without them and each CPU's own list is.
use Rattle.std.proofs.Common.{arith, ◌≡◌, ◌⊎◌, ℕ, ◌<◌, true, false, if◌then◌else◌, List, [], ◌∷◌, Option, refl, sym, ap, ◌∙◌, subst, ⊎_elim, inl, inr, true≢false}
use Rattle.std.proofs.lemmas.Bool.Decides.{nat_tests}
use Rattle.dspec_deeds.specs.Words.{Shape, owed, author, part, HasAuthors, CpuLegal, IsSound, IsFitting, IsAllowed, is_seal, sealed_last, IsOwn, bare, IsLastOf, MayStand, IsPlaced, ArePlaced}
use Rattle.dspec_deeds.specs.declared.{calls.Actor.TheVariants.Cpu, config.Config.Config, deed.Deed.Deed, deed.Deed.TheVariants.Discard, deed.Deed.TheVariants.Seal, deed.Deed.TheVariants.Release}
use Rattle.dspec_deeds.proofs.{BareReads.seal_is, BareReads.halted_bare, BareReads.author_bare, BareSound.IsNoLater, BareSound.MayPut, BareSound.ArePut, BareSound.owed_bare}
use Rattle.dspec_deeds.proofs.{BareSound.sound_with_seals, OwnParts.fitting_of_own, SoloOwed.IsOwnRelease, SoloOwed.owed_is_own, TestLemmas.either_way, TestLemmas.off, TestLemmas.number_is_itself}

-- after a deed of its own a CPU is late where the session was stopped
no_later_after : (c : ℕ) (d : Deed) (h : List Deed) → author d h ≡ Cpu c → IsNoLater c (d ∷ h)
no_later_after c d h is = grind arith

-- where a Seal may stand it makes nobody later
no_later : (c : ℕ) (h : List Deed) → MayStand c h → IsNoLater c h
no_later c h h1 = grind (arith, nat_tests, halted_bare, no_later_after)

-- without the Seals, too, the CPU's deed is the latest
bare_last : (c : ℕ) (h : List Deed) → ArePlaced h → MayStand c h → MayStand c (bare h)
bare_last c [] placed stands = stands
bare_last c (d ∷ h) placed stands = ⊎_elim
    (λ (front : bare (d ∷ h) ≡ []). inl (ap bare front))
    (λ (last : author d h ≡ Cpu c). ⊎_elim
    (λ (t : is_seal d ≡ true).
    let s = seal_is d t in
    let is : Cpu s.0 ≡ Cpu c = ap (λ x. author x h) (sym s.1) ∙ last in
    let same : s.0 ≡ c = cc in
    let stands : MayStand c h = subst (λ a. MayStand a h) same (subst (λ x. IsPlaced x h) s.1 placed.1) in
    rw t (bare_last c h placed.0 stands))
    (λ (f : is_seal d ≡ false). inr (rw f (sym (author_bare d h) ∙ last)))
    (either_way (is_seal d)))
    stands

-- no Seal needs a place
may_put : (d : Deed) (h : List Deed) → is_seal d ≡ false → MayPut d h
may_put (Seal c) h e = absurd (true≢false e)
may_put d h e = tt

module _ (shape : ℕ → Option Shape) (k : Config) where
  -- no Release is owed where a Seal stands
  abbrev IsClear : List Deed → Type 0
  IsClear h = (owed (bare h) ≡ 0) ⊎ (sealed_last h ≡ false)

  -- what is owed leaves no Seal before the Release
  clear_before : (d : Deed) (h : List Deed) → ArePlaced h → IsSound k (d ∷ bare h) → CpuLegal shape k h d → IsClear h
  clear_before d [] placed sound row = inr refl
  clear_before d (e ∷ h) placed sound row = ⊎_elim
      (λ (t : is_seal e ≡ true). ⊎_elim
      (λ (none : owed (bare (e ∷ h)) ≡ 0). inl none)
      (λ (own : IsOwnRelease d (bare (e ∷ h))).
      let s = seal_is e t in
      let stands : MayStand s.0 (bare (e ∷ h)) = bare_last s.0 (e ∷ h) placed (inr (ap (λ x. author x h) s.1)) in
      ⊎_elim
      (λ (front : bare (bare (e ∷ h)) ≡ []). inl (owed_nothing (bare (e ∷ h)) front))
      (λ (last : IsLastOf s.0 (bare (e ∷ h))).
      let by : author (Release own.0) (e ∷ h) ≡ Cpu s.0 = author_bare (Release own.0) (e ∷ h) ∙ (ap (λ x. author x (bare (e ∷ h))) (sym own.1) ∙ own.2 s.0 last) in
      let release : CpuLegal shape k (e ∷ h) (Release own.0) = subst (λ x. CpuLegal shape k (e ∷ h) x) own.1 row in
      let unsealed : sealed_last (part (Cpu s.0) (e ∷ h)) ≡ false = release s.0 by in
      off (sealed_last (part (Cpu s.0) (Seal s.0 ∷ h))) (rw (number_is_itself s.0) refl) (subst (λ x. sealed_last (part (Cpu s.0) (x ∷ h)) ≡ false) s.1 unsealed))
      stands)
      (owed_is_own k d (bare (e ∷ h)) sound))
      (λ (f : is_seal e ≡ false). inr f)
      (either_way (is_seal e))
    where
      owed_nothing : (g : List Deed) → bare g ≡ [] → owed g ≡ 0
      owed_nothing [] none = refl
      owed_nothing (Discard a id f ∷ g) none = absurd (cc none)
      owed_nothing (d ∷ g) none = refl

  -- placed so, each Seal may be put
  put_there : (w : List Deed) → ArePlaced w → IsSound k (bare w) → IsFitting shape k w → IsClear w → ArePut w
  put_there [] placed sound fitting clear = tt
  put_there (d ∷ h) placed sound fitting clear = ⊎_elim
      (λ (t : is_seal d ≡ true).
      let s = seal_is d t in
      let before : IsSound k (bare h) = subst (λ b. IsSound k (if b then bare h else d ∷ bare h)) t sound in
      let none : owed (bare h) ≡ 0 = ⊎_elim
      (λ (e : owed (bare (d ∷ h)) ≡ 0). subst (λ b. owed (if b then bare h else d ∷ bare h) ≡ 0) t e)
      (λ (e : is_seal d ≡ false). off (is_seal d) t e)
      clear in
      let rest = put_there h placed.0 before fitting.0 (inl none) in
      let stands : MayStand s.0 h = subst (λ x. IsPlaced x h) s.1 placed.1 in
      (rest, subst (λ x. MayPut x h) (sym s.1) (no_later s.0 h stands, owed_bare h rest ∙ none)))
      (λ (f : is_seal d ≡ false).
      let now : IsSound k (d ∷ bare h) = subst (λ b. IsSound k (if b then bare h else d ∷ bare h)) f sound in
      (put_there h placed.0 now.0 fitting.0 (clear_before d h placed.0 now fitting.1), may_put d h f))
      (either_way (is_seal d))

  -- so the list is legal, and owes nothing
  pub placed_legal : (w : List Deed) → ArePlaced w → IsSound k (bare w) → owed (bare w) ≡ 0 → HasAuthors k w → ((c : ℕ) → c < k.cpus → IsOwn shape k c (part (Cpu c) w))
      → IsAllowed shape k w × (owed w ≡ 0)
  placed_legal w placed sound none authors own = grind (arith, nat_tests, fitting_of_own, put_there, sound_with_seals, owed_bare)

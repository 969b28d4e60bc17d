-- The settlements of the close stand in front of the list before it, CPU by CPU.
use Rattle.std.proofs.Common.{◌≡◌, ℕ, zero, suc, ◌<◌, ◌≤◌, true, false, ◌==◌, List, [], ◌++◌, Option, refl, sym, ap, ◌∙◌, subst, ⊎_elim, arith}
use Rattle.std.proofs.lemmas.Bool.Decides.{nat_tests}
use Rattle.dspec_session_core.specs.Words.{Shape, Speculation, closed_slots, closed_cpus, closing, did, settled_did, settle_deeds, closed_up, Config, DecideFate, Deed}
use Rattle.dspec_deeds.proofs.TestLemmas.{either_way, same_number, other_number}
use Rattle.dspec_session_core.proofs.ClosedDeeds.{AddsSettlements, did_settlements, did_others, settles}

module _ (shape : ℕ → Option Shape) (k : Config) where
  -- what the slots add
  slots_add : (c n : ℕ) (h : List Deed) → AddsSettlements c h (closed_slots shape k c n h)
  slots_add c zero h = ([], refl)
  slots_add c (suc n) h = settles c _ _ _ h (closed_slots shape k c n h) (slots_add c n h)

  -- what the close settles for a CPU
  pub closed_for : List Deed → ℕ → List (Speculation × DecideFate)
  closed_for h c = (slots_add c k.nspec (closed_cpus shape k c h)).0

  cpus_said : (n : ℕ) (h : List Deed) → closed_cpus shape k n h ≡ closed_up (closed_for h) n h
  unfolding closed_for
  cpus_said zero h = refl
  cpus_said (suc n) h = (slots_add n k.nspec (closed_cpus shape k n h)).1 ∙ ap (λ p. settle_deeds n (closed_for h n) ++ p) (cpus_said n h)

  pub closing_said : (h : List Deed) → closing shape k h ≡ closed_up (closed_for h) k.cpus h
  closing_said h = cpus_said k.cpus h

module _ (closed : ℕ → List (Speculation × DecideFate)) where
  -- what a CPU did, with what the close settled for it
  did_beyond : (n c : ℕ) (h : List Deed) → n ≤ c → did c (closed_up closed n h) ≡ did c h
  did_beyond zero c h le = refl
  did_beyond (suc n) c h le = did_others c n (closed n) (closed_up closed n h) (other_number c n (omega arith)) ∙ did_beyond n c h (omega arith)

  pub did_closed : (n c : ℕ) (h : List Deed) → c < n → did c (closed_up closed n h) ≡ settled_did (closed c) ++ did c h
  did_closed zero c h lt = absurd (omega arith)
  did_closed (suc n) c h lt = ⊎_elim
      (λ (t : (c == n) ≡ true).
      let is = same_number c n t in
      subst (λ x. did x (closed_up closed (suc n) h) ≡ settled_did (closed x) ++ did x h) (sym is)
      (did_settlements n (closed n) (closed_up closed n h) ∙ ap (λ ds. settled_did (closed n) ++ ds) (did_beyond n n h (omega arith))))
      (λ (f : (c == n) ≡ false).
      let below : c < n = grind (arith, nat_tests) in
      did_others c n (closed n) (closed_up closed n h) f ∙ did_closed n c h below)
      (either_way (c == n))

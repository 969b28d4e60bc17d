-- The close adds settlements to a CPU's list.
use Rattle.std.proofs.Common.{◌≡◌, ℕ, zero, suc, Bool, true, false, ◌==◌, if◌then◌else◌, List, [], ◌∷◌, ◌++◌, Option, refl, ap, ◌∙◌}
use Rattle.dspec_session_core.specs.Words.{Record, Speculation, SlotState, own_closed, did, service, emptied, settled_did, AreSealed, settle_deeds, Shape, Config, DecideFate, Deed, Settle, Batch}
use Rattle.dspec_promise.proofs.OwnDid.{did_own}

-- the second list has more settlements in front
abbrev pub AddsSettlements : ℕ → List Deed → List Deed → Type 0
AddsSettlements c p q = (ss : List (Speculation × DecideFate)) × (q ≡ settle_deeds c ss ++ p)

pub settles : (c : ℕ) (b : Bool) (id : Speculation) (f : DecideFate) (p q : List Deed) → AddsSettlements c p q → AddsSettlements c p (if b then Settle c id f ∷ q else q)
settles c true id f p q a = ((id, f) ∷ a.0, ap (λ ds. Settle c id f ∷ ds) a.1)
settles c false id f p q a = a

pub close_adds : (shape : ℕ → Option Shape) (k : Config) (words : ℕ → SlotState) (c n : ℕ) (p : List Deed) → AddsSettlements c p (own_closed shape k words c n p)
close_adds shape k words c zero p = ([], refl)
close_adds shape k words c (suc n) p = settles c _ _ _ p (own_closed shape k words c n p) (close_adds shape k words c n p)

-- what they did
pub did_settlements : (c : ℕ) (ss : List (Speculation × DecideFate)) (p : List Deed) → did c (settle_deeds c ss ++ p) ≡ settled_did ss ++ did c p
did_settlements c [] p = refl
did_settlements c (s ∷ ss) p =
    did_own c (Settle c s.0 s.1) (emptied service s.0 s.1) (settle_deeds c ss ++ p) refl ∙ ap (λ ds. emptied service s.0 s.1 ∷ ds) (did_settlements c ss p)

-- another's did nothing for it
pub did_others : (c a : ℕ) (ss : List (Speculation × DecideFate)) (p : List Deed) → (c == a) ≡ false → did c (settle_deeds a ss ++ p) ≡ did c p
did_others c a [] p other = refl
did_others c a (s ∷ ss) p other =
    ap (λ b. (if b then emptied service s.0 s.1 ∷ [] else []) ++ did c (settle_deeds a ss ++ p)) other ∙ did_others c a ss p other

-- they seal nothing
pub sealed_before : (shape : ℕ → Option Shape) (accepted : Record → Bool) (text : Record → List ℕ) (k : Config) (c : ℕ) (ss : List (Speculation × DecideFate)) (p : List Deed)
    (bs : List Batch) → AreSealed shape accepted text k c (settle_deeds c ss ++ p) bs → AreSealed shape accepted text k c p bs
sealed_before shape accepted text k c [] p bs are = are
sealed_before shape accepted text k c (s ∷ ss) p bs are = sealed_before shape accepted text k c ss p bs are

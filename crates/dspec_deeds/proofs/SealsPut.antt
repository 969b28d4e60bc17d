-- Seals of one CPU put on top of a list.
use Rattle.std.proofs.Common.{◌≡◌, ℕ, zero, suc, ◌≤◌, ◌<◌, true, false, ◌==◌, if◌then◌else◌, List, [], ◌∷◌, ◌++◌, refl, sym, ap, ◌∙◌, subst, ⊎_elim, inl, arith}
use Rattle.std.proofs.lemmas.Bool.Decides.{nat_tests}
use Rattle.dspec_deeds.specs.Words.{part, same_actor, HasAuthors, bare, front, MayStand, ArePlaced}
use Rattle.dspec_deeds.specs.declared.{calls.Actor.Actor, calls.Actor.TheVariants.Cpu, calls.Actor.TheVariants.Consumer, config.Config.Config, deed.Deed.Deed, deed.Deed.TheVariants.Seal}
use Rattle.dspec_deeds.proofs.TestLemmas.{either_way, same_number, other_number}

-- all are Seals of the CPU
abbrev pub AreSeals : ℕ → List Deed → Type 0
AreSeals c [] = Unit {0}
AreSeals c (d ∷ ss) = AreSeals c ss × (d ≡ Seal c)

-- they are not there in the bare list
pub bare_on : (c : ℕ) (ss v : List Deed) → AreSeals c ss → bare (ss ++ v) ≡ bare v
bare_on c [] v seals = refl
bare_on c (d ∷ ss) v seals = ap (λ x. bare (x ∷ ss ++ v)) seals.1 ∙ bare_on c ss v seals.0

-- they stand in their CPU's part
pub own_on : (c : ℕ) (ss v : List Deed) → AreSeals c ss → part (Cpu c) (ss ++ v) ≡ ss ++ part (Cpu c) v
own_on c [] v seals = refl
own_on c (d ∷ ss) v seals = grind (arith, nat_tests, own_on c ss v seals.0)

-- and in no other's
pub other_on : (w : Actor) (c : ℕ) (ss v : List Deed) → same_actor w (Cpu c) ≡ false → AreSeals c ss → part w (ss ++ v) ≡ part w v
other_on w c [] v other seals = refl
other_on w c (d ∷ ss) v other seals =
    ap (λ x. part w (x ∷ ss ++ v)) seals.1 ∙ (ap (λ b. if b then Seal c ∷ part w (ss ++ v) else part w (ss ++ v)) other ∙ other_on w c ss v other seals.0)

-- they are of a CPU of the session
pub authors_on : (k : Config) (c : ℕ) (ss v : List Deed) → c < k.cpus → AreSeals c ss → HasAuthors k v → HasAuthors k (ss ++ v)
authors_on k c [] v lt seals authors = authors
authors_on k c (d ∷ ss) v lt seals authors = grind (arith, nat_tests, authors_on k c ss v lt seals.0 authors)

-- where they may stand
pub record HavePlace (c : ℕ) (v : List Deed) : Type 0 where
  pub placed : ArePlaced v
  pub here : MayStand c v

-- they may stand one after another
pub placed_on : (c : ℕ) (ss v : List Deed) → AreSeals c ss → HavePlace c v → HavePlace c (ss ++ v)
placed_on c [] v seals place = place
placed_on c (d ∷ ss) v seals place = grind (arith, nat_tests, placed_on c ss v seals.0 place)

-- the lists of CPUs that have done nothing but seal, one after another
module _ (p : ℕ → List Deed) where
  abbrev HasSealsBelow : ℕ → Type 0
  HasSealsBelow n = (c : ℕ) → c < n → AreSeals c (p c)

  fewer : (n : ℕ) → HasSealsBelow (suc n) → HasSealsBelow n
  fewer n s c lt = s c (omega arith)

  last_one : (n : ℕ) → HasSealsBelow (suc n) → AreSeals n (p n)
  last_one n s = s n (omega arith)

  pub front_bare : (n : ℕ) → HasSealsBelow n → bare (front n p) ≡ []
  front_bare zero s = refl
  front_bare (suc n) s = bare_on n (p n) (front n p) (last_one n s) ∙ front_bare n (fewer n s)

  pub front_consumer : (n : ℕ) → HasSealsBelow n → part Consumer (front n p) ≡ []
  front_consumer zero s = refl
  front_consumer (suc n) s = other_on Consumer n (p n) (front n p) refl (last_one n s) ∙ front_consumer n (fewer n s)

  front_beyond : (n c : ℕ) → HasSealsBelow n → n ≤ c → part (Cpu c) (front n p) ≡ []
  front_beyond zero c s le = refl
  front_beyond (suc n) c s le = other_on (Cpu c) n (p n) (front n p) (other_number c n (omega arith)) (last_one n s) ∙ front_beyond n c (fewer n s) (omega arith)

  pub front_own : (n c : ℕ) → HasSealsBelow n → c < n → part (Cpu c) (front n p) ≡ p c
  front_own zero c s lt = absurd (omega arith)
  front_own (suc n) c s lt = ⊎_elim
      (λ (t : (c == n) ≡ true).
      let is = same_number c n t in
      let le : n ≤ c = omega arith in
      subst (λ x. part (Cpu x) (p n ++ front n p) ≡ p x) (sym is)
      (own_on n (p n) (front n p) (last_one n s) ∙ (ap (λ q. p n ++ q) (front_beyond n n (fewer n s) (omega arith)) ∙ append_nil (p n))))
      (λ (f : (c == n) ≡ false).
      let below : c < n = grind (arith, nat_tests) in
      other_on (Cpu c) n (p n) (front n p) f (last_one n s) ∙ front_own n c (fewer n s) below)
      (either_way (c == n))
    where
      append_nil : (q : List Deed) → q ++ [] ≡ q
      append_nil [] = refl
      append_nil (d ∷ q) = ap (λ x. d ∷ x) (append_nil q)

  pub front_authors : (k : Config) (n : ℕ) → n ≤ k.cpus → HasSealsBelow n → HasAuthors k (front n p)
  front_authors k zero le s = tt
  front_authors k (suc n) le s = authors_on k n (p n) (front n p) (omega arith) (last_one n s) (front_authors k n (omega arith) (fewer n s))

  pub front_placed : (n : ℕ) → HasSealsBelow n → ArePlaced (front n p)
  front_placed zero s = tt
  front_placed (suc n) s = (placed_on n (p n) (front n p) (last_one n s) record { placed = front_placed n (fewer n s); here = inl (front_bare n (fewer n s)) }).placed

-- A list of deeds is made of the parts that its actors have in it, and a CPU's list of what its seat entered and its Seals.
use Rattle.std.proofs.Common.{◌≡◌, ◌≢◌, ℕ, ◌<◌, ◌≤◌, if◌then◌else◌, List, [], ◌∷◌, Option, refl, sym, ap, ◌∙◌, arith}
use Rattle.std.proofs.lemmas.Bool.Decides.{nat_tests}
use Rattle.std.specs.Prelude.{Bool}
use Rattle.dspec_session_core.specs.Words.{Record, author, part, HasAuthors, bare, AreSealed, IsMixOf, IsWithSeals, deeds_by, Shape, Config, Actor, Consumer, Deed, Seal, Batch}
use Rattle.dspec_deeds.specs.declared.calls.Actor.TheVariants.{Cpu}
use Rattle.dspec_deeds.proofs.TestLemmas.{actor_is_itself, same_actor_tells}

-- a deed is in no other's part
not_there : (v : Actor) (d : Deed) (h : List Deed) → v ≢ author d h → part v (d ∷ h) ≡ part v h
not_there v d h other = grind (arith, nat_tests, same_actor_tells)

-- it is in its author's
here : (d : Deed) (h : List Deed) → part (author d h) (d ∷ h) ≡ d ∷ part (author d h) h
here d h = ap (λ b. if b then d ∷ part (author d h) h else part (author d h) h) (actor_is_itself (author d h))

pub mix_of_parts : (g : List Deed) (lists : Actor → List Deed) → ((w : Actor) → part w g ≡ lists w) → IsMixOf lists g
mix_of_parts [] lists are = λ w. sym (are w)
mix_of_parts (d ∷ h) lists are = (
  author d h,
  (λ v. part v h),
  sym (are (author d h)) ∙ here d h,
  (λ v other. sym (are v) ∙ not_there v d h other),
  mix_of_parts h (λ v. part v h) (λ v. refl),
)

-- a CPU that the session hasn't has no deeds
none_of : (k : Config) (g : List Deed) → HasAuthors k g → (c : ℕ) → k.cpus ≤ c → part (Cpu c) g ≡ []
none_of k [] authors c past = refl
none_of k (d ∷ h) authors c past = grind (arith, nat_tests, none_of k h authors.0 c past, not_there)

-- a list whose parts are those of the CPUs and the consumer's
pub mix_of_all : (k : Config) (g : List Deed) (own : ℕ → List Deed) (consumer : List Deed) → HasAuthors k g
    → ((c : ℕ) → c < k.cpus → part (Cpu c) g ≡ own c) → part Consumer g ≡ consumer
    → IsMixOf (deeds_by k.cpus own consumer) g
mix_of_all k g own consumer authors each last = grind (arith, nat_tests, mix_of_parts, none_of)

-- a list that seals the batches is what it is without its Seals, with them
pub with_seals : (shape : ℕ → Option Shape) (accepted : Record → Bool) (text : Record → List ℕ) (k : Config) (c : ℕ) (entered : List Deed) (bs : List Batch) (p : List Deed)
    → bare p ≡ entered → AreSealed shape accepted text k c p bs → IsWithSeals shape accepted text k c entered bs p
with_seals shape accepted text k c entered bs [] is sealed = (sym is, sealed)
with_seals shape accepted text k c entered bs (Seal a ∷ p) is sealed =
    (sealed.0, sealed.1, sealed.2, sealed.3, with_seals shape accepted text k c entered sealed.1 p is sealed.4)
with_seals shape accepted text k c entered bs (d ∷ p) is sealed = (bare p, sym is, with_seals shape accepted text k c (bare p) bs p refl sealed)

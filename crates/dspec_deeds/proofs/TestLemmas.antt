-- What tests tell.
use Rattle.std.proofs.Common.{◌≡◌, ◌≢◌, ◌⊎◌, ℕ, Bool, true, false, not, ◌&&◌, ◌||◌, ◌==◌, List, Some, refl, sym, ◌∙◌, subst, inl, inr, true≢false, arith}
use Rattle.std.proofs.lemmas.Bool.Decides.{nat_tests}
use Rattle.dspec_deeds.specs.Words.{Speculation, same_id, same_actor, is_among, joined}
use Rattle.dspec_deeds.specs.declared.calls.Actor.{Actor, TheVariants.Cpu, TheVariants.Consumer}

-- a test is true or false
pub either_way : (b : Bool) → (b ≡ true) ⊎ (b ≡ false)
either_way true = inl refl
either_way false = inr refl

-- a test is not both
pub off : {P : Type 0} (b : Bool) → b ≡ true → b ≡ false → P
off b t f = absurd (true≢false (sym t ∙ f))

-- both hold
pub and_tells : (a b : Bool) → (a && b) ≡ true → (a ≡ true) × (b ≡ true)
and_tells true b e = (refl, e)
and_tells false b e = absurd (true≢false (sym e))

-- neither holds
pub or_none : (a b : Bool) → (a || b) ≡ false → (a ≡ false) × (b ≡ false)
or_none true b e = absurd (true≢false e)
or_none false b e = (refl, e)

-- one of the two holds
pub or_tells : (a b : Bool) → (a || b) ≡ true → (a ≡ true) ⊎ (b ≡ true)
or_tells true b e = inl refl
or_tells false b e = inr e

-- or true
pub or_true : (b : Bool) → (b || true) ≡ true
or_true true = refl
or_true false = refl

-- or false
pub or_false : (b : Bool) → (b || false) ≡ b
or_false true = refl
or_false false = refl

-- and false
pub and_false : (b : Bool) → (b && false) ≡ false
and_false true = refl
and_false false = refl

-- what is not there, and more
pub not_false : (a b : Bool) → (not a && b) ≡ true → a ≡ false
not_false true b e = absurd (true≢false (sym e))
not_false false b e = refl

-- equal numbers
pub same_number : (a b : ℕ) → (a == b) ≡ true → a ≡ b
same_number a b e = grind (arith, nat_tests)

-- a number equals itself
pub number_is_itself : (a : ℕ) → (a == a) ≡ true
number_is_itself a = grind (arith, nat_tests)

-- unequal numbers
pub other_number : (a b : ℕ) → a ≢ b → (a == b) ≡ false
other_number a b n = grind (arith, nat_tests)

-- what unequal numbers tell
pub numbers_differ : (a b : ℕ) → (a == b) ≡ false → a ≢ b
numbers_differ a b e same = off (a == b) (subst (λ x. (a == x) ≡ true) same (number_is_itself a)) e

-- equal identifiers
pub same_id_tells : (a b : Speculation) → same_id a b ≡ true → a ≡ b
same_id_tells a b h1 = grind arith

-- an identifier equals itself
pub id_is_itself : (a : Speculation) → same_id a a ≡ true
id_is_itself a = rw (number_is_itself a.issue, number_is_itself a.slot)

-- identifiers of another slot
pub other_slot : (a b : Speculation) → a.slot ≢ b.slot → same_id a b ≡ false
other_slot a b n = grind (arith, nat_tests)

-- equal actors
pub same_actor_tells : (v w : Actor) → same_actor v w ≡ true → v ≡ w
same_actor_tells v w h1 = grind arith

-- a CPU is itself
pub cpu_is_itself : (c : ℕ) → same_actor (Cpu c) (Cpu c) ≡ true
cpu_is_itself c = number_is_itself c

-- an actor is itself
pub actor_is_itself : (w : Actor) → same_actor w w ≡ true
actor_is_itself (Cpu c) = number_is_itself c
actor_is_itself Consumer = refl

-- the callers once one more has joined
pub has_joined : (c a : ℕ) (cs : List ℕ) → is_among c (joined (Some a) cs) ≡ ((c == a) || is_among c cs)
has_joined c a cs = grind arith

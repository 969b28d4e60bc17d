-- The records in a CPU's buffers are those that it offered.
use Rattle.std.proofs.{Common.◌≡◌, Common.ℕ, Common.◌<◌, Common.List, Common.[], Common.◌∷◌, Common.◌++◌, Common.Some, Common.refl, Common.arith, lemmas.Bool.Decides.nat_tests}
use Rattle.std.specs.List.{AllByRecursion}
use Rattle.dspec_deeds.specs.{Words.Record, Words.Speculation, Words.Offer, Words.offered_by, Words.offers, Words.held, Words.accepted, Words.content_of, declared.deed.Deed.Deed}
use Rattle.dspec_deeds.proofs.{DeedEffects.Accounts, DeedOffers.waits_for, DeedOffers.next_offer, DeedOffers.Effect, DeedOffers.idle, DeedOffers.offering, DeedOffers.emptying}
use Rattle.dspec_deeds.proofs.{TestLemmas.number_is_itself}

-- it has the number and the content of an offered record
pub record IsOffered (c : ℕ) (h : List Deed) (o : Offer) : Type 0 where
  pub number : o.number < offers c h
  pub content : content_of c o.number h ≡ Some o.content

-- each of them is an offered record
abbrev pub AllOffered : ℕ → List Deed → List Offer → Type 0
AllOffered c h os = AllByRecursion (IsOffered c h) os

-- an offered record stays one
offered_still : (c : ℕ) (d : Deed) (h : List Deed) (o : Offer) → IsOffered c h o → IsOffered c (d ∷ h) o
offered_still c d h o i = grind arith

-- offered records stay offered
all_still : (c : ℕ) (d : Deed) (h : List Deed) (os : List Offer) → AllOffered c h os → AllOffered c (d ∷ h) os
all_still c d h [] a = tt
all_still c d h (o ∷ os) a = (offered_still c d h o a.0, all_still c d h os a.1)

-- two lists of offered records
all_append : (c : ℕ) (h : List Deed) (xs ys : List Offer) → AllOffered c h xs → AllOffered c h ys → AllOffered c h (xs ++ ys)
all_append c h [] ys a b = b
all_append c h (x ∷ xs) ys a b = (a.0, all_append c h xs ys a.1 b)

-- the deed's own record is offered
offered_now : (c : ℕ) (d : Deed) (h : List Deed) (r : Record) → offered_by c d ≡ Some r → IsOffered c (d ∷ h) (next_offer c r h)
offered_now c d h r e = record { number = rw e (omega arith); content = rw (e, number_is_itself (offers c h)) refl }

-- a speculative buffer has offered records only
pub held_offered : (c : ℕ) (id : Speculation) (h : List Deed) → Accounts c h → AllOffered c h (held c id h)
held_offered c id [] l = tt
held_offered c id (d ∷ h) l = grind (arith, nat_tests, held_offered c id h l.0, all_still, Effect, idle, offering, waits_for, next_offer, offered_now, emptying)

-- what was accepted was offered
pub accepted_offered : (c : ℕ) (h : List Deed) → Accounts c h → AllOffered c h (accepted c h)
accepted_offered c [] l = tt
accepted_offered c (d ∷ h) l = grind (arith, nat_tests, accepted_offered c h l.0, all_append, all_still, Effect, idle, offering, next_offer, offered_now, emptying, held_offered)

-- offered records have their contents
contents_only : (c : ℕ) (h : List Deed) (os : List Offer) → AllOffered c h os → AllByRecursion (λ o. content_of c o.number h ≡ Some o.content) os
contents_only c h [] a = tt
contents_only c h (o ∷ os) a = (a.0.content, contents_only c h os a.1)

-- each accepted record has the content of the offered one of its number
pub accepted_contents : (c : ℕ) (h : List Deed) → Accounts c h → AllByRecursion (λ o. content_of c o.number h ≡ Some o.content) (accepted c h)
accepted_contents c h l = contents_only c h (accepted c h) (accepted_offered c h l)

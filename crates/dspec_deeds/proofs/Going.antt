-- A list of deeds that goes on by deeds of one actor.
use Rattle.std.proofs.Common.{◌≡◌, ◌<◌, ℕ, true, List, [], ◌∷◌, ◌++◌, Option, ◌∙◌}
use Rattle.dspec_deeds.specs.Words.{Shape, author, same_actor, owed, HasAuthors, IsAllowed}
use Rattle.dspec_deeds.specs.declared.{calls.Actor.Actor, calls.Actor.TheVariants.Cpu, config.Config.Config, deed.Deed.Deed}
use Rattle.dspec_deeds.proofs.TestLemmas.{same_actor_tells}

-- each of the deeds is of that actor
abbrev pub AllBy : Actor → List Deed → List Deed → Type 0
AllBy w [] h = Unit {0}
AllBy w (d ∷ ds) h = AllBy w ds h × (same_actor w (author d (ds ++ h)) ≡ true)

-- the list goes on by deeds of one actor, stays legal, and no slot has to be released next
pub record GoesOn (shape : ℕ → Option Shape) (k : Config) (w : Actor) (ds h : List Deed) : Type 0 where
  pub legal : IsAllowed shape k (ds ++ h)
  pub rests : owed (ds ++ h) ≡ 0
  pub by : AllBy w ds h

-- deeds of an actor of the session leave the list's deeds those of its CPUs
pub authors_go_on : (k : Config) (w : Actor) (ds h : List Deed) → ((c : ℕ) → w ≡ Cpu c → c < k.cpus) → HasAuthors k h → AllBy w ds h → HasAuthors k (ds ++ h)
authors_go_on k w [] h within authors all = authors
authors_go_on k w (d ∷ ds) h within authors all = (authors_go_on k w ds h within authors all.0, λ c by. within c (same_actor_tells w (author d (ds ++ h)) all.1 ∙ by))

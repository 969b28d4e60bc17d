-- What calls of a path that keeps its last records come to.
use Rattle.std.proofs.Common.{arith, ◌≡◌, ◌∙◌, ◌&&◌, ℕ, nat_le, length, Bool, List, Option, Ok, IsTrue, subst, sym}
use Rattle.std.proofs.lemmas.Bool.Decides.{nat_tests}
use Rattle.dspec.specs.Words.{Record, Speculation, id_given, By, schema_of, with_values, DecisionOn, SpeculateOn, DecidesIfThere, FollowsOn, LastEndOn, LastRecordOn, LastValuesOn, OffersNextOn}
use Rattle.dspec.specs.Words.{SettlesOn, Ghosts, Decided, Opening, Spoken, Deed, Cpu}
use Rattle.dspec.specs.declared.{lane.Lane.Lane, last_path.LastPath.LastPath}
use Rattle.dspec_deeds.specs.declared.calls.Opening.TheVariants as opening

module _ {S : Type 0} {g : Ghosts S} (has : Cpu S → List Deed → Type 0) where
  pub ends_so : (b : By) (p : LastPath) (id : Speculation) (older : Option Decided) (newer : Decided) (old mid new : Lane S g)
      → id ≡ id_given p.newer → DecisionOn has b id newer old mid → DecidesIfThere has b p.older older mid new → LastEndOn has b p older newer old new
  ends_so b p id older newer old mid new is first second = (mid, subst (λ i. DecisionOn has b i newer old mid) is first, second)

  pub offers_next_so : (answer : Opening) (id : Speculation) (r : Record) (a : Spoken) (p q : LastPath) (old mid new : Lane S g)
      → answer ≡ opening.Id id → SpeculateOn has id r a old mid → SettlesOn has a (opening.Id id) p q mid new → OffersNextOn has answer r a p q old new
  offers_next_so answer id r a p q old mid new is offers settles = subst (λ o. OffersNextOn has o r a p q old new) (sym is) (mid, offers, settles)

  pub records_so : (id : Speculation) (r : Record) (first a : Spoken) (p q : LastPath) (old mid new : Lane S g)
      → id ≡ id_given p.newer → SpeculateOn has id r first old mid → FollowsOn has first r a p q mid new → LastRecordOn has r a p q old new
  records_so id r first a p q old mid new is offers follows = record {
    first = first;
    offered = mid;
    offers = subst (λ i. SpeculateOn has i r first old mid) is offers;
    follows = follows;
  }

  pub values_so : (accepted : S → Record → Bool) (schema : S) (r : Record) (epid stamp : ℕ) (values : List ℕ) (a : Spoken) (p q : LastPath) (old new : Lane S g)
      → schema ≡ schema_of old.cpu.now → r ≡ with_values epid stamp values → IsTrue (nat_le (length values) 8 && accepted schema (with_values epid stamp values))
      → LastRecordOn has r a p q old new → LastValuesOn has accepted epid stamp values (Ok a) p q old new
  values_so accepted schema r epid stamp values a p q old new of is due one = grind (arith, nat_tests)

  pub same_record_so : (r s t : Record) (a : Spoken) (p q : LastPath) (old new : Lane S g)
      → r ≡ s → s ≡ t → LastRecordOn has r a p q old new → LastRecordOn has t a p q old new
  same_record_so r s t a p q old new first second did = subst (λ x. LastRecordOn has x a p q old new) (first ∙ second) did

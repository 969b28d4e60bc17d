-- Where a CPU has no deed, no call of it is in flight, and it is no caller.
use Rattle.std.proofs.Common.{◌≡◌, ℕ, List, [], refl, sym, subst}
use Rattle.test_words.specs.Words.{Unused, Config, Deed}

pub none_unused : (k : Config) (c : ℕ) (own : List Deed) → own ≡ [] → Unused k c own
none_unused k c own e = subst (Unused k c) (sym e) (refl, (λ id. refl), refl)

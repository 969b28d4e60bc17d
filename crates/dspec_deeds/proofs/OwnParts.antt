-- A list is legal in the own part exactly where each CPU's own list is.
use Rattle.std.proofs.Common.{arith, ◌≡◌, ◌<◌, ℕ, Bool, true, false, List, [], ◌∷◌, Option, refl}
use Rattle.std.proofs.lemmas.Bool.Decides.{nat_tests}
use Rattle.dspec_deeds.specs.Words.{Shape, same_actor, author, part, HasAuthors, CpuLegal, IsFitting, is_of, CpuRow, IsOwn, ReadsAlike}
use Rattle.dspec_deeds.specs.declared.{calls.Actor.TheVariants.Cpu, config.Config.Config, deed.Deed.Deed, deed.Deed.TheVariants.Trace, deed.Deed.TheVariants.Speculate, deed.Deed.TheVariants.Commit}
use Rattle.dspec_deeds.specs.declared.{deed.Deed.TheVariants.Discard, deed.Deed.TheVariants.Settle, deed.Deed.TheVariants.Seal, deed.Deed.TheVariants.Release}
use Rattle.dspec_deeds.proofs.{OwnReads.alike_back, OwnReads.reads, TestLemmas.number_is_itself}

-- what a CPU does names it, or is a Release
pub author_of : (c : ℕ) (d : Deed) (h : List Deed) → same_actor (Cpu c) (author d h) ≡ true → is_of c d ≡ true
author_of c d h h1 = grind arith

-- whether a deed is a Release
abbrev is_release : Deed → Bool
is_release (Release s) = true
is_release d = false

module _ (shape : ℕ → Option Shape) (k : Config) where
  -- what a row says of one list it says of one that reads alike
  carry : (c : ℕ) (d : Deed) (g h : List Deed) → is_of c d ≡ true → is_release d ≡ false → ReadsAlike k c g h → CpuLegal shape k g d → CpuLegal shape k h d
  carry c d g h h1 h2 h3 h4 = grind (arith, nat_tests)

  -- what a row says of the list of all it says of the CPU's own list
  down : (c : ℕ) (d : Deed) (h : List Deed) → same_actor (Cpu c) (author d h) ≡ true → CpuLegal shape k h d → CpuRow shape k (part (Cpu c) h) d
  down c d h h1 h2 = grind (arith, nat_tests, alike_back k c (part (Cpu c) h) h (reads k c h), reads k c h)

  -- what each author's own row says, the row of the list of all says
  up : (d : Deed) (h : List Deed) → ((c : ℕ) → author d h ≡ Cpu c → CpuRow shape k (part (Cpu c) h) d) → CpuLegal shape k h d
  up (Release s) h rows = rows
  up (Trace a r f) h rows = carry a (Trace a r f) (part (Cpu a) h) h (number_is_itself a) refl (reads k a h) (rows a refl)
  up (Speculate a id r f) h rows = carry a (Speculate a id r f) (part (Cpu a) h) h (number_is_itself a) refl (reads k a h) (rows a refl)
  up (Commit a id f) h rows = carry a (Commit a id f) (part (Cpu a) h) h (number_is_itself a) refl (reads k a h) (rows a refl)
  up (Discard a id f) h rows = carry a (Discard a id f) (part (Cpu a) h) h (number_is_itself a) refl (reads k a h) (rows a refl)
  up (Settle a id f) h rows = carry a (Settle a id f) (part (Cpu a) h) h (number_is_itself a) refl (reads k a h) (rows a refl)
  up (Seal a) h rows = carry a (Seal a) (part (Cpu a) h) h (number_is_itself a) refl (reads k a h) (rows a refl)
  up d h rows = tt

  -- the part of a CPU in a list that is legal in the own part
  pub own_of_fitting : (c : ℕ) (h : List Deed) → IsFitting shape k h → IsOwn shape k c (part (Cpu c) h)
  own_of_fitting c [] fitting = tt
  own_of_fitting c (d ∷ h) fitting = grind (arith, nat_tests, own_of_fitting c h fitting.0, author_of, down)

  -- without its latest deed a CPU's own part stays legal
  own_before : (c : ℕ) (d : Deed) (h : List Deed) → IsOwn shape k c (part (Cpu c) (d ∷ h)) → IsOwn shape k c (part (Cpu c) h)
  own_before c d h own = grind arith

  -- the row of its latest deed
  own_latest : (c : ℕ) (d : Deed) (h : List Deed) → author d h ≡ Cpu c → IsOwn shape k c (part (Cpu c) (d ∷ h)) → CpuRow shape k (part (Cpu c) h) d
  own_latest c d h h1 h2 = grind arith

  -- a list each of whose parts is legal in the own part
  pub fitting_of_own : (h : List Deed) → HasAuthors k h → ((c : ℕ) → c < k.cpus → IsOwn shape k c (part (Cpu c) h)) → IsFitting shape k h
  fitting_of_own [] authors own = tt
  fitting_of_own (d ∷ h) authors own = (
    fitting_of_own h authors.0 (λ c lt. own_before c d h (own c lt)),
    up d h (λ c by. own_latest c d h by (own c (authors.1 c by))),
  )

-- Nothing is held and nothing was dropped of a speculation that isn't one of the session's slots.
use Rattle.std.proofs.Common.{◌≡◌, ℕ, ◌+◌, ◌≤◌, ◌<◌, ◌==◌, true, false, ◌&&◌, List, [], sym, ap, ◌∙◌, ⊎_elim, arith, true≢false}
use Rattle.std.proofs.lemmas.Bool.Decides.{nat_tests}
use Rattle.std.specs.Prelude.{nat_le}
use Rattle.dspec_cpu.specs.Words.{Speculation, in_range, is_among, opened, part, IsSound, mark, dropped_in, held, bare, Config, Cpu, Deed}
use Rattle.dspec_deeds.proofs.{Dropping.unmarked_drops, Marks.mark_part, OwnReads.apart_bare, SoundLists.opened_in_range, SoundLists.unseen, TestLemmas.either_way, TestLemmas.same_number}
use Rattle.dspec_cpu.proofs.Mine.{marked_among, unmarked_empty}

pub inside_of : (k : Config) (id : Speculation) → 1 ≤ id.slot → id.slot ≤ k.nspec → in_range k id ≡ true
inside_of k id low high = let a : nat_le 1 id.slot ≡ true = grind (arith, nat_tests) in let b : nat_le id.slot k.nspec ≡ true = grind (arith, nat_tests) in
    ap (λ x. x && nat_le id.slot k.nspec) a ∙ b

-- of a list that is legal in its common part
outside_unmarked : (k : Config) (c : ℕ) (id : Speculation) (h : List Deed) → 1 ≤ k.nspec → IsSound k h → in_range k id ≡ false → (mark c id.slot h == id.issue + 1) ≡ false
outside_unmarked k c id h some sound out = ⊎_elim
    (λ (t : (mark c id.slot h == id.issue + 1) ≡ true).
    let called = marked_among c id h (same_number (mark c id.slot h) (id.issue + 1) t) in
    absurd (⊎_elim
    (λ (o : opened id h ≡ true).
    let within = opened_in_range k h id some sound o in
    true≢false (sym (inside_of k id within.0 within.1) ∙ out))
    (λ (un : opened id h ≡ false). true≢false (sym called ∙ ap (is_among c) (unseen k h id sound un).1))
    (either_way (opened id h))))
    (λ (f : (mark c id.slot h == id.issue + 1) ≡ false). f)
    (either_way (mark c id.slot h == id.issue + 1))

-- of the CPU's own list, which without its Seals is its part of one
module _ (k : Config) (c : ℕ) (id : Speculation) (h own p : List Deed) (some : 1 ≤ k.nspec) (sound : IsSound k h) (its : part (Cpu c) h ≡ own) (is : bare p ≡ own)
    (out : in_range k id ≡ false) where
  unmarked : (mark c id.slot p == id.issue + 1) ≡ false
  unmarked = ap (λ m. m == id.issue + 1) ((apart_bare k c p).marking id.slot ∙ (ap (mark c id.slot) (is ∙ sym its) ∙ mark_part c id.slot h)) ∙ outside_unmarked k c id h some sound out

  pub outside_drops : dropped_in c id p ≡ 0
  outside_drops = unmarked_drops c id p unmarked

  pub outside_holds : c < k.cpus → held c id p ≡ []
  outside_holds few = unmarked_empty k c id h own p few sound its is unmarked

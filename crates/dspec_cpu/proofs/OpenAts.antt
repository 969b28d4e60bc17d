-- Of which speculation of a slot a CPU has records: of the one that the slot's mark is of, or of none.
use Rattle.std.proofs.Common.{◌≡◌, ◌≢◌, ℕ, zero, suc, ◌+◌, ◌-◌, ◌<◌, ◌≤◌, Bool, List, [], ◌∷◌, length, Option, Some, sym, ap, ◌∙◌, refl, arith}
use Rattle.std.proofs.lemmas.Bool.Decides.{nat_tests}
use Rattle.std.specs.Prelude.{slice_get}
use Rattle.dspec_cpu.specs.Words.{Record, Speculation, last_called, part, IsSound, mark, Offer, held, bare, known, HasList, IsSteady, IsOpenAt, Shape, Config, CpuActor, Deed}
use Rattle.dspec_cpu.specs.declared.parts.CpuParts.{CpuParts as Cpu}
use Rattle.dspec_deeds.proofs.{Marks.mark_part, Marks.mark_tells, OwnReads.apart_bare, TestLemmas.same_number}
use Rattle.dspec_table.proofs.Limits.{issue_within}
use Rattle.dspec_cpu_state.proofs.{Ones.last_is, Places.same_inside}
use Rattle.dspec_cpu.proofs.{Mine.unmarked_empty, Ready.steady_few}

at_least : (n : ℕ) → n ≢ 0 → 1 ≤ n
at_least zero f = absurd (f refl)
at_least (suc n) f = omega arith

no_length : (os : List Offer) → length os ≡ 0 → os ≡ []
no_length [] e = refl
no_length (o ∷ os) e = absurd (omega arith)

-- a mark by which a speculation of the slot is told
pub record FoundAt (k : Config) (c slot m : ℕ) (p : List Deed) : Type 0 where
  pub least : 1 ≤ m
  pub most : m ≤ k.max_issues + 1
  pub is_open : IsOpenAt c slot p (Some (record { issue = m - 1; slot = slot }))

-- by the CPU's own list, which without its Seals is its part of one that is legal in its common part
module _ (k : Config) (c : ℕ) (h own p : List Deed) (few : c < k.cpus) (sound : IsSound k h) (its : part (CpuActor c) h ≡ own) (is : bare p ≡ own) (slot : ℕ) where
  abbrev pub last : Speculation
  last = last_called c slot p

  -- where it has no record of that one, it has none of the slot
  pub none_there : length (held c last p) ≡ 0 → (id : Speculation) → id.slot ≡ slot → held c id p ≡ []
  none_there none id at = grind (arith, nat_tests, last_is, same_number, no_length, unmarked_empty)

  -- where it has one, the mark is one more than the issue
  pub marked_there : 1 ≤ length (held c last p) → mark c slot p ≡ (mark c slot p - 1) + 1
  marked_there some = grind (arith, nat_tests, same_number, unmarked_empty)

  pub mark_within : mark c slot p ≤ k.max_issues + 1
  mark_within =
      let marks : mark c slot p ≡ mark c slot h = (apart_bare k c p).marking slot ∙ (ap (mark c slot) (is ∙ sym its) ∙ mark_part c slot h) in
      let bound = (mark_tells k c slot h sound).bound in
      let most = issue_within k slot h sound in
      omega arith

  -- where it has one, the slot's mark tells which
  found : (m n : ℕ) (marks : List ℕ) → slice_get marks (slot - 1) ≡ Some m → slice_get marks (slot - 1) ≡ Some (mark c slot p) → n ≡ length (held c last p) → n ≢ 0 → FoundAt k c slot m p
  found m n marks got at count some = grind (arith, nat_tests, same_inside, at_least, marked_there, mark_within)

-- what a CPU's side tells of a slot that the session has
module _ (shape : ℕ → Option Shape) (accepted : Record → Bool) (text : Record → List ℕ) {S : Type 0} (cpu : Cpu S) (steady : IsSteady shape accepted text cpu) (slot n : ℕ)
    (count : (p : List Deed) → HasList shape accepted text cpu p → n ≡ length (held cpu.cpu (last_called cpu.cpu slot p) p)) where
  pub none_in : n ≡ 0 → (p : List Deed) → HasList shape accepted text cpu p → (id : Speculation) → id.slot ≡ slot → held cpu.cpu id p ≡ []
  none_in none p had = none_there cpu.config cpu.cpu (known cpu.seat).seen (known cpu.seat).own p (steady_few shape accepted text cpu steady) steady.sound steady.part_is had.own slot
      (sym (count p had) ∙ none)

  pub found_in : n ≢ 0 → (m : ℕ) → slot ≢ 0 → slot ≤ cpu.config.nspec → slice_get cpu.side.marks (slot - 1) ≡ Some m → (p : List Deed) → HasList shape accepted text cpu p
      → FoundAt cpu.config cpu.cpu slot m p
  found_in some m low high got p had =
      found cpu.config cpu.cpu (known cpu.seat).seen (known cpu.seat).own p (steady_few shape accepted text cpu steady) steady.sound steady.part_is had.own slot m n cpu.side.marks got
      (had.shown.side.marks slot (at_least slot low) high) (count p had) some

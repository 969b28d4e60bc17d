-- A list of records as a list of pieces, and a cell of a list.
use Rattle.std.proofs.Common.{◌≡◌, ℕ, ◌+◌, ◌-◌, ◌==◌, Bool, true, false, List, [], ◌∷◌, set, map, Option, Some, if◌then◌else◌, refl, sym, ap, ◌∙◌, arith}
use Rattle.std.proofs.lemmas.{List.set-get_or, Option.get_or_from_slice_get}
use Rattle.std.specs.Prelude.{slice_get}
use Rattle.dspec_cpu_state.specs.Words.{Record, one, records, extent, extent_of_records, reserved, align_of, size_of, Speculation, mark, contents, held, last_called, Shape, Deed}
use Rattle.dspec_deeds.proofs.TestLemmas.{number_is_itself}

pub extent_ones : (shape : ℕ → Option Shape) (rs : List Record) → extent shape (map one rs) ≡ extent_of_records shape rs
extent_ones shape [] = refl
extent_ones shape (r ∷ rs) = ap (λ n. reserved n (align_of shape r) (size_of shape r)) (extent_ones shape rs)

pub records_ones : (rs : List Record) → records (map one rs) ≡ rs
records_ones [] = refl
records_ones (r ∷ rs) = ap (λ l. r ∷ l) (records_ones rs)

pub set_same : {A : Type 0} (xs : List A) (i : ℕ) (b : A) → slice_get xs i ≡ Some b → xs ≡ set xs i b
set_same xs i b at = sym (set-get_or xs i b) ∙ ap (set xs i) (get_or_from_slice_get xs i b b at)

pub last_is : (c : ℕ) (id : Speculation) (p : List Deed) → mark c id.slot p ≡ id.issue + 1 → last_called c id.slot p ≡ id
last_is c id p m = let issues : mark c id.slot p - 1 ≡ id.issue = omega arith in λ i. record { issue = issues i; slot = id.slot }

-- what the buffer of the slot has of the speculation
pub mine_last : (c : ℕ) (id : Speculation) (p : List Deed) (mine : Bool) → (mine ≡ true → mark c id.slot p ≡ id.issue + 1)
    → (if mine then contents (held c (last_called c id.slot p) p) else []) ≡ (if mine then contents (held c id p) else [])
mine_last c id p true m = ap (λ j. contents (held c j p)) (last_is c id p (m refl))
mine_last c id p false m = refl

-- a call of the CPU's own is one more
pub one_call : (c n : ℕ) → n + 1 ≡ n + (if c == c then 1 else 0)
one_call c n = rw (number_is_itself c) refl

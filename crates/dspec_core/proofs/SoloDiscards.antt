-- What a discard by the one caller leaves of a machine: two deeds in one step.
use Rattle.std.proofs.Common.{◌≡◌, ℕ, zero, suc, ◌-◌, List, [], ◌∷◌, ◌++◌, map, set, Option, refl, ap, subst}
use Rattle.dspec_core.specs.Words.{Shape, Piece, MayEnterOn, Speculation, SlotState, word_at, IsSlot, ShowsWords, Adds, history, Config, DecideFate, Deed, Discard, Release}
use Rattle.dspec_core.specs.declared.machine.Machine.{Machine}
use Rattle.dspec_core.proofs.WordsShown.{words_set}

-- the later of two writes at a place
set_again : {A : Type 0} (xs : List A) (i : ℕ) (x y : A) → set (set xs i x) i y ≡ set xs i y
set_again [] i x y = refl
set_again (z ∷ xs) zero x y = refl
set_again (z ∷ xs) (suc i) x y = ap (λ zs. z ∷ zs) (set_again xs i x y)

-- the words after both deeds
pub solo_words : (k : Config) (c : ℕ) (id : Speculation) (f : DecideFate) (h : List Deed) (words : List SlotState) (w : SlotState) → IsSlot k id.slot
    → w ≡ word_at id.slot (Release id.slot ∷ Discard c id f ∷ h) → ShowsWords k h words → ShowsWords k (Release id.slot ∷ Discard c id f ∷ h) (set words (id.slot - 1) w)
solo_words k c id f h words w slot is was =
    let first = words_set k (Discard c id f) h words (word_at id.slot (Discard c id f ∷ h)) slot.0 slot.1 refl was in
    let both = words_set k (Release id.slot) (Discard c id f ∷ h) (set words (id.slot - 1) (word_at id.slot (Discard c id f ∷ h))) w slot.0 slot.1 is first in
    subst (ShowsWords k (Release id.slot ∷ Discard c id f ∷ h)) (set_again words (id.slot - 1) (word_at id.slot (Discard c id f ∷ h)) w) both

-- the discard may be entered alone
pub may_first : {S B : Type 0} {has : B → S → List Piece → Type 0} {capacity : B → ℕ} {shape_of : S → ℕ → Option Shape} {m : Machine S B} {c : ℕ} {d e : Deed}
    → MayEnterOn has capacity shape_of m c (e ∷ d ∷ []) → MayEnterOn has capacity shape_of m c (d ∷ [])
may_first may = record { shown = may.shown; ranges = may.ranges; legal = (may.legal.0.0, may.legal.1.0); cpu = may.cpu }

-- what a play knows of a machine with more deeds
pub adds_all : {S B : Type 0} (m n : Machine S B) (ds : List Deed) → n.config ≡ m.config → n.schema ≡ m.schema → n.consumer ≡ m.consumer → history n ≡ ds ++ history m
    → map (λ s. s.progress) n.cpus.items ≡ map (λ s. s.progress) m.cpus.items → Adds ds m n
adds_all m n ds config schema consumer deeds progresses = record { state = λ i. record { config = config i; deeds = deeds i; progresses = progresses i; side = consumer i }; schema = schema }

-- What a machine shows before its first deed, and how its parts are made one by one.
use Rattle.std.proofs.Common.{◌≡◌, ℕ, zero, suc, ◌-◌, ◌<◌, Bool, false, List, [], ◌∷◌, length, map, reverse, get_or, Option, Some, None, refl, sym, ap, subst, arith}
use Rattle.std.proofs.lemmas.{Bool.Decides.nat_tests, Option.slice_get-get_or}
use Rattle.std.specs.Prelude.{slice_get}
use Rattle.dspec_core.specs.Words.{Shape, Record, Piece, SlotState, progress_of, idle_progress, start_fault, idle_cpus, at_start, ShowsCpu, IsShownMachine, state_of, IsWithin, Inactive, Config}
use Rattle.dspec_core.specs.declared.machine.{Machine.Machine, cpu.Cpu.Cpu}
use Rattle.dspec_cpu_state.proofs.Starts.{Made}
use Rattle.dspec_interleaving.proofs.Coherence.{start_coherent}
use Rattle.dspec_core.proofs.{Keepings.KeepsState, OneMore.shown_as}

module _ {A : Type 0} (P : A → Type 0) where
  -- an element that stands there
  pub made_at : (n i : ℕ) (xs : List A) (d : A) → Made P n xs → i < n → (x : A) × (slice_get xs i ≡ Some x) × P x
  made_at n i xs d made lt =
      let count = made.count in
      let there = slice_get-get_or xs i d (omega arith) in
      (get_or xs i d, there, made.each i (get_or xs i d) there)

-- the progress of so many CPUs that have made no call
pub progresses_idle : {B : Type 0} (n : ℕ) (cpus : List (Cpu B)) → length cpus ≡ n → ((i : ℕ) (own : Cpu B) → slice_get cpus i ≡ Some own → own.progress ≡ idle_progress)
    → map (λ own. own.progress) cpus ≡ idle_cpus n
progresses_idle zero [] count each = refl
progresses_idle zero (s ∷ cpus) count each = absurd (omega arith)
progresses_idle (suc n) [] count each = absurd (omega arith)
progresses_idle (suc n) (s ∷ cpus) count each =
    let first = each 0 s refl in
    let rest = progresses_idle n cpus (omega arith) (λ i. each (suc i)) in
    cc

-- no call is in flight before the first
idle_flight : (n c : ℕ) → (progress_of (idle_cpus n) c).flight ≡ None
idle_flight zero c = refl
idle_flight (suc n) zero = refl
idle_flight (suc n) (suc c) = idle_flight n c

module _ {S B : Type 0} (has : B → S → List Piece → Type 0) (capacity : B → ℕ) (shape_of : S → ℕ → Option Shape) (accepted : S → Record → Bool) where
  -- what is kept before the first call
  pub start_keeps : (schema : S) (k : Config) → start_fault k ≡ None → KeepsState has capacity shape_of accepted schema (at_start k)
  start_keeps schema k fine = record {
    coherent = start_coherent (shape_of schema) k fine;
    accepted_records = λ c f lt e. absurd (let idle = idle_flight k.cpus c in cc);
    within = λ c lt. let idle : (progress_of (idle_cpus k.cpus) c).flight ≡ None = idle_flight k.cpus c in subst (λ x. IsWithin k c [] x) (sym idle) (omega arith);
    about = λ f e. absurd (cc (e));
  }

-- a word before the first deed
abbrev pub IsFree : SlotState → Type 0
IsFree w = w ≡ record { issue = 0; code = Inactive }

module _ {S B : Type 0} (has : B → S → List Piece → Type 0) (capacity : B → ℕ) where
  -- what is kept of a CPU before the first deed
  abbrev pub HasBegun : Config → Cpu B → Type 0
  HasBegun k own = ((schema : S) (c : ℕ) → ShowsCpu has capacity schema k c [] own) × (own.progress ≡ idle_progress)

  -- a machine before the first deed
  pub machine_at_start : (m : Machine S B) → m.deeds ≡ [] → m.halted ≡ false → Made IsFree m.config.nspec m.words.items → Made (HasBegun m.config) m.config.cpus m.cpus.items
      → IsShownMachine has capacity m
  machine_at_start m none runs words cpus =
      shown_as has capacity m [] (ap reverse none) record {
        words = record {
          count = words.count;
          slots = λ s at.
              let word = made_at IsFree m.config.nspec (s - 1) m.words.items record { issue = 0; code = Inactive } words (let low = at.0 in let high = at.1 in omega arith) in
              subst (λ w. slice_get m.words.items (s - 1) ≡ Some w) word.2 word.1;
        };
        active = runs;
        cpu_count = cpus.count;
        cpus = λ c own got. (cpus.each c own got).0 m.schema c;
      }

  pub state_at_start : (m : Machine S B) → m.deeds ≡ [] → m.consumer ≡ record { flight = None; steps = 0 } → Made (HasBegun m.config) m.config.cpus m.cpus.items → state_of m ≡ at_start m.config
  state_at_start m none idle cpus = grind (arith, nat_tests, progresses_idle)

-- Serves proofs. How a session ends, CPU by CPU.
use Rattle.std.specs.Prelude.{ℕ, ◌≡◌, ◌+◌, Bool, List, [], ◌∷◌, length, map, slice_get, Option, Some}
use Rattle.dspec_session_core.specs.Closing.{IsAtRest, LeftShows}
use Rattle.dspec_session_core.specs.Sessions.{IsCpuOf}
use Rattle.dspec_session_core.specs.Words.Outside.{Record, owed, part, scan, word_at, IsLegal, IsSound, bare, own_closed, known, cpu_of, set_up, IsAt, Shows, ConsumerKnows, CpuKnows, rest_with}
use Rattle.dspec_session_core.specs.Words.Outside.{HasList, IsSteady, config_of, end_of, held_back_of, number_in, schema_of, worn_of, RestHasList, config_of_rest, held_back_of_rest, number_of_rest}
use Rattle.dspec_session_core.specs.Words.Outside.{schema_of_rest, worn_of_rest, identity, Shape, Config, CpuActor, Deed, CpuSeat, Batch, Cpu, CpuRest}
use Rattle.dspec_session_core.specs.declared.{left.Left.Left, parted.Parted.Parted}
use Rattle.dspec_table.specs.declared.seats.Words.{Words}

-- The last words show the log, of which the CPU's list is its part, but for the Seals; and a legal list has, as its part of the CPU,
-- that list and what the CPU has still to settle.
pub record IsClosing (shape : ℕ → Option Shape) (k : Config) (words : List ℕ) (c : ℕ) (p log g : List Deed) : Type 0 where
  pub shows : Shows k words log
  pub sound : IsSound k log
  pub rests : owed log ≡ 0
  pub idle : scan k c log ≡ 0
  pub part_is : bare p ≡ part (CpuActor c) log
  pub legal : IsLegal shape k g
  pub closed : part (CpuActor c) g ≡ own_closed shape k (λ s. word_at s log) c k.nspec p

-- one of these lists, of a CPU that was parted into this, can be closed by the last words
abbrev pub CanLeave : {S : Type 0} → (ℕ → Option Shape) → (List Deed → Type 0) → List ℕ → CpuRest S → Type 0
CanLeave shape had words rest =
    (p : List Deed) × (log : List Deed) × (g : List Deed) × had p × IsClosing shape (config_of_rest rest) words (number_of_rest rest) p log g

-- the seat of a CPU that has the list, no call of which is under way
pub record IsParted (shape : ℕ → Option Shape) (words : Words) (c : ℕ) (p : List Deed) (s : CpuSeat) : Type 0 where
  pub at : IsAt words s
  pub number : cpu_of s ≡ c
  pub rest : IsAtRest shape (set_up words) c (known s).own p

-- what is left of a CPU is of the same, with the same end of the rings
pub record IsRestOf {S : Type 0} (cpu : Cpu S) (end : CpuKnows) (rest : CpuRest S) : Type 0 where
  pub end_is : end ≡ end_of cpu
  pub schema : schema_of_rest rest ≡ schema_of cpu
  pub config : config_of_rest rest ≡ config_of cpu
  pub number : number_of_rest rest ≡ number_in cpu
  pub held_back : held_back_of_rest rest ≡ held_back_of cpu
  pub worn : worn_of_rest rest ≡ worn_of cpu

module _ {S : Type 0} (shape_of : S → ℕ → Option Shape) (accepted : S → Record → Bool) (text : S → Record → List ℕ) where
  -- the lists that a CPU has, and that none of its calls is under way
  abbrev pub Has : Cpu S → List Deed → Type 0
  Has cpu p = HasList (shape_of cpu.schema) (accepted cpu.schema) (text cpu.schema) cpu p

  abbrev pub Steady : Cpu S → Type 0
  Steady cpu = IsSteady (shape_of cpu.schema) (accepted cpu.schema) (text cpu.schema) cpu

  -- of each of them
  abbrev pub AllSteady : List (Cpu S) → Type 0
  AllSteady cpus = (c : ℕ) (cpu : Cpu S) → slice_get cpus c ≡ Some cpu → Steady cpu

  -- The CPU has parted from its seat: with its schema this is what is left of it, and that has each list that the CPU had.
  pub record HasParted (cpu : Cpu S) (x : Parted) : Type 0 where
    pub rest : IsRestOf cpu x.end (rest_with (schema_of cpu) x.rest)
    pub lists : (q : List Deed) → Has cpu q
        → RestHasList (shape_of (schema_of cpu)) (accepted (schema_of cpu)) (text (schema_of cpu)) (rest_with (schema_of cpu) x.rest) x.end.handed q

  -- So has each of them, in order.
  abbrev pub AllParted : List (Cpu S) → List Parted → Type 0
  AllParted [] [] = Unit {0}
  AllParted [] (x ∷ xs) = ⊥
  AllParted (cpu ∷ cpus) [] = ⊥
  AllParted (cpu ∷ cpus) (x ∷ xs) = HasParted cpu x × AllParted cpus xs

  -- Whichever of these lists a CPU has, of this schema, configuration and number, this is left of it, with what it has still to
  -- settle.
  abbrev pub Leaves : (List Deed → Type 0) → List ℕ → List Batch → Left → S → Config → ℕ → ℕ → Type 0
  Leaves had words taken l schema k c worn = (p log g : List Deed) → had p → IsClosing (shape_of schema) k words c p log g
      → LeftShows (shape_of schema) (accepted schema) (text schema) k c worn taken (own_closed (shape_of schema) k (λ s. word_at s log) c k.nspec p) l

  -- the same, of what a CPU was parted into
  abbrev pub LeavesRest : (List Deed → Type 0) → List ℕ → List Batch → Left → CpuRest S → Type 0
  LeavesRest had words taken l rest = Leaves had words taken l (schema_of_rest rest) (config_of_rest rest) (number_of_rest rest) (worn_of_rest rest)

  -- this is left of the CPU
  abbrev pub IsLeft : Config → List ℕ → ℕ → Cpu S → List Batch → Left → Type 0
  IsLeft k words c cpu taken l = Leaves (Has cpu) words taken l cpu.schema k c (worn_of cpu)

  -- and of each of these CPUs, from that number on
  abbrev pub AreLeft : Config → List ℕ → ℕ → List (Cpu S) → List ConsumerKnows → List Left → Type 0
  AreLeft k words n cpus ends lefts = (i : ℕ) (cpu : Cpu S) (end : ConsumerKnows) (l : Left) → slice_get cpus i ≡ Some cpu → slice_get ends i ≡ Some end
      → slice_get lefts i ≡ Some l → IsLeft k words (n + i) cpu end.taken l

  -- The CPUs of the first numbers have parted from their seats; the others, with the consumer's ends of their rings, have not yet.
  pub record AreParting (schema : S) (words : Words) (p : ℕ → List Deed) (seats : List CpuSeat) (cpus : List (Cpu S)) (ends : List ConsumerKnows) : Type 0 where
    pub all : length seats + length cpus ≡ (set_up words).cpus
    pub ends_all : length ends ≡ length cpus
    pub parted : (c : ℕ) (s : CpuSeat) → slice_get seats c ≡ Some s → IsParted (shape_of schema) words c (p c) s
    pub each : (i : ℕ) (cpu : Cpu S) → slice_get cpus i ≡ Some cpu
        → IsCpuOf schema words (length seats + i) (slice_get (map (λ (e : ConsumerKnows). e.pair) ends) i) (identity cpu) × Steady cpu × Has cpu (p (length seats + i))

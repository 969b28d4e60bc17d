-- Cited by calls. What the demonstration traces, and what its calls leave of a CPU.
use Rattle.std.specs.Prelude.{ℕ, ◌≡◌, ◌≤◌, ◌+◌, ◌%◌, ◌==◌, Bool, true, List, [], ◌∷◌, ◌++◌, if◌then◌else◌}
use Rattle.dspec_session.specs.Words.Outside.{Record, EnabledRows, Speculation, offers, id_given, known, decided_deeds, spoken_deeds, traced_deeds, opening_deeds, Serves, buffers_of, Has, calls_of}
use Rattle.dspec_session.specs.Words.Outside.{config_of, number_in, schema_of, seat_of, worn_of, IsCallable, identity, Four, One, Traced, Opening, Spoken, Decided, ServedSo, DecideFate, Deed}
use Rattle.dspec_session.specs.Words.Outside.{Commit, Discard, Cpu, Shared}

-- EPID 1 and EPID 2, each with one field of four bytes
abbrev pub demonstrated : EnabledRows
demonstrated = record { header = One; rows = (Four ∷ []) ∷ (Four ∷ []) ∷ [] }

-- the record with one value
abbrev pub valued : ℕ → ℕ → Record
valued epid value = record { epid = epid; stamp = 0; values = value ∷ [] }

-- the CPU can make so many calls more, of what is demonstrated
pub record CanWork (shared : Shared) (n : ℕ) (cpu : Cpu EnabledRows) : Type 0 where
  pub ready : IsCallable shared cpu
  pub schema : schema_of cpu ≡ demonstrated
  pub unworn : calls_of cpu + n ≤ (config_of cpu).max_calls

-- it is the same CPU, and none of its calls was worn
pub record IsBack (old new : Cpu EnabledRows) : Type 0 where
  pub same : identity new ≡ identity old
  pub worn : worn_of new ≡ worn_of old

-- for every list that the CPU had there is one that it has, with so many offers more
abbrev pub Offers : ℕ → Cpu EnabledRows → Cpu EnabledRows → Type 0
Offers n old new = (p : List Deed) → Has old p → (q : List Deed) × Has new q × (offers (number_in old) q ≡ offers (number_in old) p + n)

-- a call that counts was made, with so many offers
pub record Called (n : ℕ) (old new : Cpu EnabledRows) : Type 0 where
  pub back : IsBack old new
  pub called : calls_of new ≡ calls_of old + 1
  pub offered : Offers n old new

-- so many calls were made, with so many offers; where the gate was shut there may be fewer
pub record Worked (calls n : ℕ) (old new : Cpu EnabledRows) (finished : Bool) : Type 0 where
  pub back : IsBack old new
  pub called : calls_of new ≤ calls_of old + calls
  pub offered : finished ≡ true → Offers n old new

-- a service was done, which counts as no call
pub record WorkerServed (old new : Cpu EnabledRows) : Type 0 where
  pub back : IsBack old new
  pub called : calls_of new ≡ calls_of old
  pub offered : Offers 0 old new

-- these deeds came in front of every list that the CPU had
abbrev pub WorkerAdds : List Deed → Cpu EnabledRows → Cpu EnabledRows → Type 0
WorkerAdds ds old new = (p : List Deed) → Has old p → Has new (ds ++ p)

-- those of a trace of record 1 with this value, by its answer
abbrev pub Traces : ℕ → Cpu EnabledRows → Cpu EnabledRows → Type 0
Traces value old new = (a : Traced) × WorkerAdds (traced_deeds (number_in old) (valued 1 value) a) old new

-- of a call of speculation, by its answer, which tells this identifier, or none
abbrev pub WorkerOpens : Speculation → Cpu EnabledRows → Cpu EnabledRows → Type 0
WorkerOpens id old new = (missed : List Bool) × (a : Opening) × (id ≡ id_given a) × WorkerAdds (opening_deeds (number_in old) missed a) old new

-- of record 2 with this value, offered to this speculation
abbrev pub Speculates : Speculation → ℕ → Cpu EnabledRows → Cpu EnabledRows → Type 0
Speculates id value old new = (a : Spoken) × WorkerAdds (spoken_deeds (number_in old) id (valued 2 value) a) old new

-- of its commit, or of its discard
abbrev pub decision_of : Bool → ℕ → Speculation → DecideFate → Deed
decision_of commits c id = if commits then Commit c id else Discard c id

abbrev pub WorkerDecides : Bool → Speculation → Cpu EnabledRows → Cpu EnabledRows → Type 0
WorkerDecides commits id old new = (alone : Bool) × (a : Decided) × WorkerAdds (decided_deeds (decision_of commits (number_in old) id) id.slot alone a) old new

-- a service, whole
abbrev pub Serviced : Cpu EnabledRows → Cpu EnabledRows → Type 0
Serviced old new = (a : ServedSo) × Serves (config_of old) (number_in old) a (Has old) (known (seat_of old)) (buffers_of old) (Has new) (known (seat_of new)) (buffers_of new)

-- The calls of the round with this number, one after the other. The record is offered to the speculation that was told, and
-- that is decided: committed in every other round.
pub record MadeRound (k : ℕ) (old new : Cpu EnabledRows) : Type 0 where
  pub id : Speculation
  pub traced : Cpu EnabledRows
  pub opened : Cpu EnabledRows
  pub spoken : Cpu EnabledRows
  pub decided : Cpu EnabledRows
  pub traces : Traces k old traced
  pub opens : WorkerOpens id traced opened
  pub speculates : Speculates id k opened spoken
  pub decides : WorkerDecides (k % 2 == 1) id spoken decided
  pub services : Serviced decided new

-- so many rounds since it was this CPU, one after the other, numbered from 0
pub data CpuRounds (first : Cpu EnabledRows) : ℕ → Cpu EnabledRows → Type 0 where
  no_round : CpuRounds first 0 first
  one_round : {n : ℕ} {old : Cpu EnabledRows} (m : ℕ) (new : Cpu EnabledRows) → CpuRounds first n old → MadeRound n old new → m ≡ n + 1 → CpuRounds first m new

-- a worker is back; where it finished it made a hundred rounds
pub record CameBack (old new : Cpu EnabledRows) (finished : Bool) : Type 0 where
  pub worked : Worked 400 200 old new finished
  pub rounds : finished ≡ true → CpuRounds old 100 new

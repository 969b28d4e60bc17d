-- Believed. What a session promises of the records that its calls were handed: this page, and what it names of Record, Speculation, Report and the fates in
-- the answers. Of every list but `seen` the latest is at the head. `specs/Deeds.antt` and `specs/SameFates.antt` tie it to the list of deeds.
use Rattle.std.specs.Prelude.{ℕ, ◌≡◌, ◌<◌, ◌+◌, ◌==◌, Bool, true, false, ◌&&◌, ◌||◌, List, [], ◌∷◌, ◌++◌, length, map, reverse, if◌then◌else◌, Option, Some, None}
use Rattle.std.specs.List.{AllByRecursion}
use Rattle.dspec_record.specs.Record.{Record}
use Rattle.dspec_word.specs.SpecId.{Speculation}
use Rattle.dspec_deeds.specs.declared.deed.TraceFate.{TraceFate}
use Rattle.dspec_deeds.specs.declared.deed.TraceFate.TheVariants as trace
use Rattle.dspec_deeds.specs.declared.deed.SpeculateFate.{SpeculateFate}
use Rattle.dspec_deeds.specs.declared.deed.SpeculateFate.TheVariants as speculate
use Rattle.dspec_deeds.specs.declared.deed.DecideFate.{DecideFate}
use Rattle.dspec_deeds.specs.declared.deed.DecideFate.TheVariants as decide
use Rattle.dspec_deeds.specs.declared.report.Report.{Report}

-- 1. THE CALLS. What the calls of one CPU did to records, each with its answer: `trace` was handed a record; `speculate` was handed
-- one for a speculation; `commit`, `discard`, or a `service` that did what another CPU had decided, emptied the CPU's buffer of a
-- speculation, unless the answer is Void or Stopped. No other call touches a record, and none that was answered Worn.
-- which call emptied the buffer
pub data By : Type 0 where
  commit : By
  discard : By
  service : By

-- what a call did
pub data Did : Type 0 where
  traced : Record → TraceFate → Did
  speculated : Speculation → Record → SpeculateFate → Did
  emptied : By → Speculation → DecideFate → Did

-- 2. THE FATES, named as the report's counts. A `held` record waits in a buffer for the decision of its speculation.
pub data RecordFate : Type 0 where
  taken : RecordFate
  dropped : RecordFate
  specdropped : RecordFate
  lost : RecordFate
  discarded : RecordFate
  void : RecordFate
  held : RecordFate

-- the fate of a traced record, by the answer
abbrev pub traced_fate : TraceFate → RecordFate
traced_fate trace.Kept = taken
traced_fate trace.Dropped = dropped
traced_fate trace.Stopped = void

-- the fate of a record for a speculation at first, by the answer: kept, it waits
abbrev pub speculated_fate : SpeculateFate → RecordFate
speculated_fate speculate.Kept = held
speculated_fate speculate.Dropped = specdropped
speculated_fate speculate.Void = void
speculated_fate speculate.Stopped = void

-- the fate of the records of an emptied buffer; Void and Stopped empty nothing
abbrev pub emptied_fate : DecideFate → RecordFate
emptied_fate (decide.Copied n) = taken
emptied_fate (decide.Lost n) = lost
emptied_fate (decide.Thrown n) = discarded
emptied_fate decide.Void = held
emptied_fate decide.Stopped = held

-- the two fates are the same
abbrev pub same_fate : RecordFate → RecordFate → Bool
same_fate taken taken = true
same_fate dropped dropped = true
same_fate specdropped specdropped = true
same_fate lost lost = true
same_fate discarded discarded = true
same_fate void void = true
same_fate held held = true
same_fate f g = false

-- 3. THE RECORDS. Each record that a CPU's calls were handed, the speculation that it was for, and what has become of it.
pub record HandedRecord : Type 0 where
  pub content : Record
  pub to : Option Speculation
  pub fate : RecordFate

-- the two identifiers are the same
abbrev pub is_same_id : Speculation → Speculation → Bool
is_same_id a b = (a.issue == b.issue) && (a.slot == b.slot)

-- a record with this destination is for the speculation
abbrev pub is_for : Speculation → Option Speculation → Bool
is_for id None = false
is_for id (Some j) = is_same_id id j

-- the record stands in the buffer of the speculation
abbrev pub waits_for : Speculation → HandedRecord → Bool
waits_for id o = is_for id o.to && same_fate held o.fate

-- what becomes of a record where the buffer of the speculation is emptied: in the buffer it gets its fate, elsewhere it stays
abbrev pub once_emptied : Speculation → DecideFate → HandedRecord → HandedRecord
once_emptied id f o = if waits_for id o then record o { fate = emptied_fate f } else o

-- all records that were handed over, with their fates: a call hands one over, or changes what has become of earlier ones
abbrev pub handed : List Did → List HandedRecord
handed [] = []
handed (traced r f ∷ ds) = record { content = r; to = None; fate = traced_fate f } ∷ handed ds
handed (speculated id r f ∷ ds) = record { content = r; to = Some id; fate = speculated_fate f } ∷ handed ds
handed (emptied b id f ∷ ds) = map (once_emptied id f) (handed ds)

-- 4. THE ORDER. A kept record enters the CPU's stream as it is traced, a copied buffer as it is emptied, its records as they were handed.
-- the records in the buffer of the speculation
abbrev pub held_for : Speculation → List HandedRecord → List Record
held_for id [] = []
held_for id (o ∷ os) = if waits_for id o then o.content ∷ held_for id os else held_for id os

-- the CPU's stream: what its calls accepted
abbrev pub cpu_stream : List Did → List Record
cpu_stream [] = []
cpu_stream (traced r trace.Kept ∷ ds) = r ∷ cpu_stream ds
cpu_stream (emptied b id (decide.Copied n) ∷ ds) = held_for id (handed ds) ++ cpu_stream ds
cpu_stream (d ∷ ds) = cpu_stream ds

-- 5. THE DECISIONS. A commit that copied or lost its CPU's buffer, however many records that had, and a discard that threw it away.
abbrev pub is_commit_of : Speculation → Did → Bool
is_commit_of id (emptied commit j (decide.Copied n)) = is_same_id id j
is_commit_of id (emptied commit j (decide.Lost n)) = is_same_id id j
is_commit_of id x = false

abbrev pub is_discard_of : Speculation → Did → Bool
is_discard_of id (emptied discard j (decide.Thrown n)) = is_same_id id j
is_discard_of id x = false

-- one call of the list, or more, passes the test
abbrev pub some : (Did → Bool) → List Did → Bool
some test [] = false
some test (x ∷ ds) = test x || some test ds

-- 6. THE NUMBERS. How many of a list pass a test, and the test of records that asks for a fate.
abbrev pub number : {X : Type 0} → (X → Bool) → List X → ℕ
number test [] = 0
number test (x ∷ xs) = number test xs + (if test x then 1 else 0)

abbrev pub of : RecordFate → HandedRecord → Bool
of f o = same_fate f o.fate

-- the answer tells this number, if it tells one
abbrev pub Tells : DecideFate → ℕ → Type 0
Tells (decide.Copied n) m = n ≡ m
Tells (decide.Lost n) m = n ≡ m
Tells (decide.Thrown n) m = n ≡ m
Tells f m = Unit {0}

-- each answer tells how many records were in the buffer that it emptied
abbrev pub TellNumbers : List Did → Type 0
TellNumbers [] = Unit {0}
TellNumbers (emptied b id f ∷ ds) = TellNumbers ds × Tells f (length (held_for id (handed ds)))
TellNumbers (d ∷ ds) = TellNumbers ds

-- In a session of so many CPUs, each of which, by its number, did what `all` says:
module _ (cpus : ℕ) (all : ℕ → List Did) where
  -- some CPU made a call that passes the test
  abbrev pub Happened : (Did → Bool) → Type 0
  Happened test = (c : ℕ) × (c < cpus) × (some test (all c) ≡ true)

  -- no CPU did
  abbrev pub Never : (Did → Bool) → Type 0
  Never test = (c : ℕ) → c < cpus → some test (all c) ≡ false

  -- what must have been decided of a speculation where a record for it has such a fate
  abbrev pub WasDecided : Speculation → RecordFate → Type 0
  WasDecided id taken = Happened (is_commit_of id)
  WasDecided id lost = Happened (is_commit_of id)
  WasDecided id discarded = Happened (is_discard_of id)
  WasDecided id f = Unit {0}

  -- of these records each has a fate of which that has been decided
  abbrev pub AllDecided : List HandedRecord → Type 0
  AllDecided os = AllByRecursion (λ o. (id : Speculation) → o.to ≡ Some id → WasDecided id o.fate) os

  -- 7. AT EVERY MOMENT, of CPU c: `seen` are its records that came out so far, the first one first.
  pub record KeepsPromise (c : ℕ) (seen : List Record) : Type 0 where
    -- in order and without a gap: what came out is the beginning of the stream
    pub in_order : (rest : List Record) × (reverse (cpu_stream (all c)) ≡ seen ++ rest)
    -- each once: any test passes as many records of the stream as taken ones
    pub once : (test : Record → Bool) → number test (cpu_stream (all c)) ≡ number (λ o. of taken o && test o.content) (handed (all c))
    -- no leak: a record for a speculation was taken, or lost, only after its commit, and thrown away only after its discard
    pub decided : AllDecided (handed (all c))
    -- no speculation has both a commit and a discard
    pub one_decision : (id : Speculation) → Happened (is_commit_of id) → Never (is_discard_of id)
    -- the numbers in the answers are right
    pub numbers : TellNumbers (all c)

  -- 8. ONCE THE SESSION IS CLOSED, of each of its CPUs, with its report.
  pub record Promise (c : ℕ) (seen : List Record) (report : Report) : Type 0 where
    pub keeps : KeepsPromise c seen
    -- nothing is left behind: all of the stream came out
    pub whole : seen ≡ reverse (cpu_stream (all c))
    -- a record waits only where nobody decided
    pub waits : AllByRecursion (λ o. (id : Speculation) → o.to ≡ Some id → o.fate ≡ held → Never (is_commit_of id) × Never (is_discard_of id)) (handed (all c))
    -- nothing is lost uncounted: every record has one fate, and the report has the number of each
    pub offered : report.offered ≡ length (handed (all c))
    pub accepts : report.accepted ≡ number (of taken) (handed (all c))
    pub drops : report.dropped ≡ number (of dropped) (handed (all c))
    pub specdrops : report.specdropped ≡ number (of specdropped) (handed (all c))
    pub loses : report.lost ≡ number (of lost) (handed (all c))
    pub discarding : report.discarded ≡ number (of discarded) (handed (all c))
    pub voids : report.void ≡ number (of void) (handed (all c))
    pub holds : report.held ≡ number (of held) (handed (all c))

-- 9. NOT HERE: when an answer may refuse, that a record is kept only into an open speculation, and that no identifier is given out
-- twice (`specs/Reasons.antt`); how bytes hold records; calls that were answered Worn; the report's counts of events; any order between
-- CPUs; that a service, or the end, ever comes. A session that did nothing keeps this promise: so see that `all` is what your calls answered.

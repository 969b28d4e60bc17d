-- Cited by calls. The numbers of the statuses, by what the library answered, and what goes out beside them.
use Rattle.std.specs.Prelude.{ℕ, Bool, true, false, Option, Some, None}
use Rattle.dspec_c.specs.Words.Outside.{Decided, Opening, Spoken, Traced, StartFault, Speculation, id_number}
use Rattle.dspec_deeds.specs.declared.calls.Decided.TheVariants as decided
use Rattle.dspec_deeds.specs.declared.calls.Opening.TheVariants as opening
use Rattle.dspec_deeds.specs.declared.calls.Spoken.TheVariants as spoken
use Rattle.dspec_deeds.specs.declared.calls.Traced.TheVariants as traced
use Rattle.dspec_deeds.specs.declared.config.StartFault.TheVariants as start

-- the numbers that aren't a library's answer's: memory was refused; there is no such policy; the handle is empty, or holds another
-- kind; it is full; there is no such CPU; a part isn't home; there is no batch; it was
-- handed out already; what is asked for isn't free yet
abbrev pub no_memory : ℕ
no_memory = 7

abbrev pub bad_policy : ℕ
bad_policy = 8

abbrev pub bad_handle : ℕ
bad_handle = 17

abbrev pub no_such_cpu : ℕ
no_such_cpu = 19

abbrev pub not_home : ℕ
not_home = 20

abbrev pub no_batch : ℕ
no_batch = 21

abbrev pub already_out : ℕ
already_out = 22

abbrev pub busy : ℕ
busy = 37

abbrev pub start_status : StartFault → ℕ
start_status start.Cpus = 1
start_status start.Specs = 2
start_status start.BufSize = 3
start_status start.SpecSize = 4
start_status start.Issues = 5
start_status start.Calls = 6
start_status start.Memory = 7

abbrev pub traced_status : Option Traced → ℕ
traced_status None = 16
traced_status (Some traced.Kept) = 0
traced_status (Some traced.Dropped) = 32
traced_status (Some traced.Stopped) = 33
traced_status (Some traced.Worn) = 34

abbrev pub spoken_status : Option Spoken → ℕ
spoken_status None = 16
spoken_status (Some spoken.Kept) = 0
spoken_status (Some spoken.Dropped) = 32
spoken_status (Some spoken.Stopped) = 33
spoken_status (Some spoken.Worn) = 34
spoken_status (Some spoken.Void) = 35

abbrev pub opening_status : Opening → ℕ
opening_status (opening.Id id) = 0
opening_status opening.Stopped = 33
opening_status opening.Worn = 34
opening_status opening.Unavailable = 36
opening_status opening.Busy = 37

-- the number that goes out, where one is given; else what was there stays
abbrev pub opened_number : Opening → ℕ → ℕ
opened_number (opening.Id id) was = id_number id
opened_number a was = was

abbrev pub decided_status : Decided → ℕ
decided_status (decided.Copied n) = 0
decided_status (decided.Thrown n) = 0
decided_status decided.Stopped = 33
decided_status decided.Worn = 34
decided_status decided.Void = 35
decided_status (decided.Lost n) = 38

abbrev pub decided_number : Decided → ℕ → ℕ
decided_number (decided.Copied n) was = n
decided_number (decided.Lost n) was = n
decided_number (decided.Thrown n) was = n
decided_number a was = was

-- of a commit that isn't made where it would lose the CPU's block
abbrev pub committed_status : Option Decided → ℕ
committed_status None = 37
committed_status (Some a) = decided_status a

abbrev pub committed_number : Option Decided → ℕ → ℕ
committed_number None was = was
committed_number (Some a) was = decided_number a was

-- the number of an identifier; 0 where there is none, which names no speculation
abbrev pub id_or_zero : Option Speculation → ℕ
id_or_zero None = 0
id_or_zero (Some id) = id_number id

abbrev pub asked_status : Bool → ℕ
asked_status true = 0
asked_status false = 19

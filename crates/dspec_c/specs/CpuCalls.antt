-- Cited by calls. The calls on a CPU's handle: each did what the library's call says of its answer.
use Rattle.std.specs.Option.{option_map}
use Rattle.std.specs.Prelude.{ℕ, ◌≡◌, ◌<◌, ◌+◌, ◌-◌, ◌%◌, ◌^◌, min, Bool, true, false, List, length, Option, None, is_none, is_some, IfNone, IfSome, ⊤, if◌then◌else◌}
use Rattle.dspec_c.specs.Answered.{Answered, AnsweredWith}
use Rattle.dspec_c.specs.Homes.{CpuSide}
use Rattle.dspec_c.specs.Shows.{TellsReport}
use Rattle.dspec_c.specs.Statuses.{bad_handle, committed_number, committed_status, decided_number, decided_status, id_or_zero, opened_number, opening_status, spoken_status, traced_status}
use Rattle.dspec_c.specs.Words.Outside.{Speculation, id_number, Record, EnabledRows, claimed, packed_record, stamp_fits, enabled, table_accepts, table_shape, dropped_in, report, By, commit, discard}
use Rattle.dspec_c.specs.Words.Outside.{drops_told, config_of, number_in, schema_of, worn_of, CommitsIfRoom, OpensOne, DecidesOne, ServesOnce, RecordsValues, OffersValues, SpeculatesOne, TracesOne}
use Rattle.dspec_c.specs.Words.Outside.{IsOpenAt, identity, Has, Shape, Decided, Opening, Served, Spoken, Traced, Deed, Report, Cpu, Header}
use Rattle.dspec_c.specs.declared.{held.HandleValue.HandleValue, reports.CReport.CReport}
use Rattle.dspec_c.specs.declared.held.HandleValue.TheVariants as held

-- which records a CPU's schema accepts
abbrev pub accepts_at : EnabledRows → Record → Bool
accepts_at e = table_accepts e.header (enabled e.rows)

-- the record that a claim's words stand for, where it is true of an enabling of so many words, and the stamp is one that records have
abbrev pub put_record : EnabledRows → ℕ → ℕ → List ℕ → Option Record
put_record e claim stamp ws =
    if stamp_fits e.header stamp then option_map (λ fs. packed_record (claim % 2 ^ 32) stamp fs ws) (claimed e.rows claim (length ws)) else None

-- that record was handed over so; where there is none, there is no answer, and nothing was done
pub record PutBy {A : Type 0} (Does : Record → A → Cpu EnabledRows → Cpu EnabledRows → Type 0) (claim stamp : ℕ) (ws : List ℕ) (a : Option A) (old new : Cpu EnabledRows) : Type 0 where
  pub due : is_some a ≡ is_some (put_record (schema_of old) claim stamp ws)
  pub refused : IfNone a (new ≡ old)
  pub one : IfSome a (λ t. IfSome (put_record (schema_of old) claim stamp ws) (λ r. Does r t old new))

-- it was traced, or offered to a speculation
abbrev pub Put : ℕ → ℕ → List ℕ → Option Traced → Cpu EnabledRows → Cpu EnabledRows → Type 0
Put = PutBy (λ r t. TracesOne Has r t)

abbrev pub PutIn : Speculation → ℕ → ℕ → List ℕ → Option Spoken → Cpu EnabledRows → Cpu EnabledRows → Type 0
PutIn id = PutBy (λ r s. SpeculatesOne Has id r s)

-- by the shapes of a CPU's schema
abbrev pub shape_at : EnabledRows → ℕ → Option Shape
shape_at e = table_shape e.header (enabled e.rows)

-- `Cpu::report`: it counts whichever list the CPU has
abbrev pub Reports : Cpu EnabledRows → Report → Type 0
Reports cpu r = (p : List Deed) → Has cpu p → r ≡ report (config_of cpu) (number_in cpu) (worn_of cpu) p

-- how many records were refused once one more was, or none: the count stays at the largest that it can tell
abbrev pub one_refused : Bool → ℕ → ℕ
one_refused true n = min (n + 1) (2 ^ 64 - 1)
one_refused false n = n

-- `Cpu::dropped_in`
abbrev pub Drops : Speculation → Cpu EnabledRows → ℕ → Type 0
Drops id cpu n = (p : List Deed) → Has cpu p → n ≡ drops_told (dropped_in (number_in cpu) id p)

-- `Cpu::open_at`
abbrev pub OpensAt : ℕ → Cpu EnabledRows → Option Speculation → Type 0
OpensAt slot cpu a = (p : List Deed) → Has cpu p → IsOpenAt (number_in cpu) slot p a

-- it is the same CPU of the same session, to which this was done, and the call's record was refused, or none was
pub record OnSide (refuses : Bool) (did : Cpu EnabledRows → Cpu EnabledRows → Type 0) (old new : CpuSide) : Type 0 where
  pub shared : new.shared ≡ old.shared
  pub same : identity new.cpu ≡ identity old.cpu
  pub cpu : did old.cpu new.cpu
  pub refused : new.refused ≡ one_refused refuses old.refused

-- A call of a CPU, on what a handle holds: where that is a CPU, it stays one, and this was done on it; else the status is
-- BAD_HANDLE, what is held stays as it was, and so do the out parameters.
abbrev pub OnCpu : (CpuSide → CpuSide → Type 0) → Type 0 → HandleValue → ℕ → HandleValue → Type 0
OnCpu did stays (held.Cpu old) status now = (new : CpuSide) × (now ≡ held.Cpu new) × did old new
OnCpu did stays was status now = (status ≡ bad_handle) × (now ≡ was) × stays

-- the identifier of the number
pub record IsNumberOf (number : ℕ) (id : Speculation) : Type 0 where
  pub numbered : id_number id ≡ number
  pub slot : id.slot < 64

-- these words stand for no record of the CPU's schema, if its records have this header
abbrev pub IsRefusedAs : Header → CpuSide → ℕ → ℕ → List ℕ → Type 0
IsRefusedAs header side claim stamp ws = (schema_of side.cpu).header ≡ header → is_some (put_record (schema_of side.cpu) claim stamp ws) ≡ false

-- what each call told of what it did on a CPU, by its status and its out parameters
abbrev pub TraceTold : ℕ → ℕ → List ℕ → ℕ → CpuSide → CpuSide → Type 0
TraceTold epid stamp values status old new = Answered traced_status (λ a. OnSide (is_none a) (RecordsValues Has accepts_at epid stamp values a) old new) status

abbrev pub PutTold : ℕ → ℕ → List ℕ → ℕ → CpuSide → CpuSide → Type 0
PutTold claim stamp ws status old new = Answered traced_status (λ a. OnSide (is_none a) (Put claim stamp ws a) old new) status

abbrev pub OpeningTold : ℕ → ℕ → ℕ → CpuSide → CpuSide → Type 0
OpeningTold status before id old new = AnsweredWith opening_status opened_number (λ a. OnSide false (OpensOne Has a) old new) status before id

abbrev pub SpeculateTold : ℕ → ℕ → ℕ → List ℕ → ℕ → CpuSide → CpuSide → Type 0
SpeculateTold number epid stamp values status old new =
    (id : Speculation) × IsNumberOf number id × Answered spoken_status (λ a. OnSide (is_none a) (OffersValues Has accepts_at id epid stamp values a) old new) status

abbrev pub PutInAs : Speculation → ℕ → ℕ → List ℕ → ℕ → CpuSide → CpuSide → Type 0
PutInAs id claim stamp ws status old new = Answered spoken_status (λ a. OnSide (is_none a) (PutIn id claim stamp ws a) old new) status

abbrev pub PutInTold : ℕ → ℕ → ℕ → List ℕ → ℕ → CpuSide → CpuSide → Type 0
PutInTold number claim stamp ws status old new = (id : Speculation) × IsNumberOf number id × PutInAs id claim stamp ws status old new

abbrev pub DecideTold : By → ℕ → ℕ → ℕ → ℕ → CpuSide → CpuSide → Type 0
DecideTold b number status before count old new =
    (id : Speculation) × IsNumberOf number id × AnsweredWith decided_status decided_number (λ a. OnSide false (DecidesOne Has b id a) old new) status before count

abbrev pub CommitIfRoomTold : ℕ → ℕ → ℕ → ℕ → CpuSide → CpuSide → Type 0
CommitIfRoomTold number status before count old new =
    (id : Speculation) × IsNumberOf number id × AnsweredWith committed_status committed_number (λ a. OnSide false (CommitsIfRoom Has shape_at id a) old new) status before count

abbrev pub served_so : Bool → ℕ → Served
served_so sealed settled = record { sealed = sealed; settled = settled }

abbrev pub ServiceTold : ℕ → Served → CpuSide → CpuSide → Type 0
ServiceTold status told old new = (status ≡ 0) × OnSide false (ServesOnce Has told) old new

abbrev pub ReportTold : ℕ → CReport → CpuSide → CpuSide → Type 0
ReportTold status told old new = (status ≡ 0) × (new ≡ old) × ((r : Report) × Reports old.cpu r × TellsReport told r old.refused)

abbrev pub DroppedInTold : ℕ → ℕ → ℕ → CpuSide → CpuSide → Type 0
DroppedInTold number status count old new = (status ≡ 0) × (new ≡ old) × ((id : Speculation) × IsNumberOf number id × Drops id old.cpu count)

abbrev pub OpenAtTold : ℕ → ℕ → ℕ → CpuSide → CpuSide → Type 0
OpenAtTold slot status id old new = (status ≡ 0) × (new ≡ old) × ((a : Option Speculation) × OpensAt slot old.cpu a × (id ≡ id_or_zero a))

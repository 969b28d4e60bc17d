-- Cited by calls. What a call on a lane, or of a path on a lane, did: what the call of the lane's CPU did.
use Rattle.std.specs.{Prelude.ℕ, Prelude.◌≡◌, Prelude.Bool, Prelude.List, Prelude.Option, Prelude.MatchOption, Prelude.Result, Result.result_ok}
use Rattle.dspec.specs.Words.Outside.{Record, Speculation, dropped_in, report, id_given, By, cpu_block_fits, drops_told, config_of, number_in, schema_of, worn_of, IsOpenAt, CommitsIfRoom, TracesOne}
use Rattle.dspec.specs.Words.Outside.{SpeculatesOne, OpensOne, DecidesOne, ServesOnce, RecordsValues, OffersValues, Shape, Ghosts, Decided, Opening, Served, Spoken, Traced, Deed, Report, Cpu}
use Rattle.dspec.specs.declared.{bad_record.BadRecord.BadRecord, lane.Lane.Lane, path.Path.Path}

module _ {S : Type 0} {g : Ghosts S} (has : Cpu S → List Deed → Type 0) where
  abbrev pub TraceOn : Record → Traced → Lane S g → Lane S g → Type 0
  TraceOn r a old new = TracesOne has r a old.cpu.now new.cpu.now

  abbrev pub SpeculateOn : Speculation → Record → Spoken → Lane S g → Lane S g → Type 0
  SpeculateOn id r a old new = SpeculatesOne has id r a old.cpu.now new.cpu.now

  abbrev pub OpeningOn : Opening → Lane S g → Lane S g → Type 0
  OpeningOn a old new = OpensOne has a old.cpu.now new.cpu.now

  abbrev pub DecisionOn : By → Speculation → Decided → Lane S g → Lane S g → Type 0
  DecisionOn b id a old new = DecidesOne has b id a old.cpu.now new.cpu.now

  abbrev pub ServiceOn : Served → Lane S g → Lane S g → Type 0
  ServiceOn a old new = ServesOnce has a old.cpu.now new.cpu.now

  -- a record of a probe was traced, or offered to a speculation; or nothing was done, since the schema doesn't have the probe
  abbrev pub TraceIfOf : Record → Option Traced → Lane S g → Lane S g → Type 0
  TraceIfOf r a old new = MatchOption a (new ≡ old) (λ traced. TraceOn r traced old new)

  abbrev pub SpeculateIfOf : Speculation → Record → Option Spoken → Lane S g → Lane S g → Type 0
  SpeculateIfOf id r a old new = MatchOption a (new ≡ old) (λ spoken. SpeculateOn id r spoken old new)

  -- how many records the CPU dropped from its buffer of a speculation, by every list that it has
  abbrev pub DropsOn : Speculation → ℕ → Lane S g → Type 0
  DropsOn id n lane = (p : List Deed) → has lane.cpu.now p → n ≡ drops_told (dropped_in (number_in lane.cpu.now) id p)

  -- of which speculation of a slot the CPU has records, by every list that it has
  abbrev pub OpenOn : ℕ → Option Speculation → Lane S g → Type 0
  OpenOn slot a lane = (p : List Deed) → has lane.cpu.now p → IsOpenAt (number_in lane.cpu.now) slot p a

  -- its counts, by every list that it has
  abbrev pub ReportOn : Report → Lane S g → Type 0
  ReportOn r lane = (p : List Deed) → has lane.cpu.now p → r ≡ report (config_of lane.cpu.now) (number_in lane.cpu.now) (worn_of lane.cpu.now) p

  -- the end of a path, kept or thrown away, and how many of the CPU's records of it were dropped
  abbrev pub EndOn : By → Path → Decided → Lane S g → Lane S g → Type 0
  EndOn b path a old new = DecisionOn b (id_given path.opening) a old new

  abbrev pub PathDropsOn : Path → ℕ → Lane S g → Type 0
  PathDropsOn path n lane = DropsOn (id_given path.opening) n lane

  module _ (shape_of : S → ℕ → Option Shape) where
    -- whether the CPU's block of a speculation would fit, by every list that it has
    abbrev pub RoomOn : Speculation → Bool → Lane S g → Type 0
    RoomOn id room lane = (p : List Deed) → has lane.cpu.now p → room ≡ cpu_block_fits (shape_of (schema_of lane.cpu.now)) lane.cpu.now id p

    -- a speculation is committed where that loses nothing of the CPU's
    abbrev pub IfRoomOn : Speculation → Option Decided → Lane S g → Lane S g → Type 0
    IfRoomOn id a old new = CommitsIfRoom has shape_of id a old.cpu.now new.cpu.now

    -- or a path
    abbrev pub EndIfRoomOn : Path → Result Decided Path → Lane S g → Lane S g → Type 0
    EndIfRoomOn path a old new = IfRoomOn (id_given path.opening) (result_ok a) old new

  module _ (accepted : S → Record → Bool) where
    -- a record by its values is traced; an error says that the schema doesn't accept it
    abbrev pub RecordOn : ℕ → ℕ → List ℕ → Result Traced BadRecord → Lane S g → Lane S g → Type 0
    RecordOn epid stamp values a old new = RecordsValues has accepted epid stamp values (result_ok a) old.cpu.now new.cpu.now

    -- or offered to a speculation
    abbrev pub OfferOn : Speculation → ℕ → ℕ → List ℕ → Result Spoken BadRecord → Lane S g → Lane S g → Type 0
    OfferOn id epid stamp values a old new = OffersValues has accepted id epid stamp values (result_ok a) old.cpu.now new.cpu.now

    -- or to a path
    abbrev pub PathRecordOn : Path → ℕ → ℕ → List ℕ → Result Spoken BadRecord → Lane S g → Lane S g → Type 0
    PathRecordOn path epid stamp values a old new = OfferOn (id_given path.opening) epid stamp values a old new

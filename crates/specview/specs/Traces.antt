-- Cited by calls. The trace of a play: its metadata, and the bytes of each CPU's file.
use Rattle.std.specs.Prelude.{◌≡◌, ℕ, ◌+◌, ◌^◌, ◌<◌, ◌≤◌, ◌==◌, ◌++◌, List, [], ◌∷◌, length, map, reverse, replicate, min, max, fold, take, slice_get, slice_index_or, Some, unwrap_or, false}
use Rattle.std.specs.Prelude.{if◌then◌else◌, string_bytes, All}
use Rattle.specview.specs.Batches.{ShareOf, last_share, shares}
use Rattle.specview.specs.Clocks.{IsClockFault, IsTakenByReaders}
use Rattle.specview.specs.Words.Outside.{Record, EnabledRows, enabled, table_accepts, numbers_below, stream, Plan, header_of, IsPlayedText, IsTextFault, ArePacketsOfRecords, metadata_text}
use Rattle.specview.specs.Words.Outside.{fault_of_metadata, events, packet, Accepts, Deed, Report, Outcome, Form, AsTaken, ByTime, Numbered, MetadataFault}
use Rattle.specview.specs.declared.fault.ViewFault.{ViewFault}
use Rattle.specview.specs.declared.fault.ViewFault.TheVariants.{Line, NoStamp, LateStamp, NoFrequency, GreatestFrequency, NoEvent, Memory}
use Rattle.specview.specs.declared.trace.Trace.{Trace}
use Rattle.dspec_schedule.specs.declared.fault.ScheduleFault.TheVariants as schedule
use Rattle.dspec_ctf.specs.declared.fault.MetadataFault.TheVariants as metadata_fault
use Rattle.sha1.specs.Sha1.{sha1}
use Rattle.uuid.specs.{Parts.with_variant, Parts.with_version, Uuid.namespace_oid, declared.Variant.TheVariants.RFC4122, declared.Version.TheVariants.Sha1}

-- the greatest EPID of records, 0 where there is none
abbrev pub greatest_of : List Record → ℕ
greatest_of rs = fold (λ n r. max n r.epid) 0 rs

abbrev pub greatest_epid : List (List Record) → ℕ
greatest_epid rss = fold (λ n rs. max n (greatest_of rs)) 0 rss

-- The events of a play: the enablings of its schedule; of the default action, events without fields as far as the greatest EPID, 64
-- at the most.
abbrev pub event_rows : Plan → List (List Record) → EnabledRows
event_rows p rss = unwrap_or p.enablings (record { header = header_of p; rows = replicate (min (greatest_epid rss) 64) [] })

-- how many records a CPU missed, by its report
abbrev pub missed_by : Report → ℕ
missed_by p = p.dropped + p.specdropped + p.lost

-- what a CPU's file as taken has packets of: its batches; of a CPU without records one, where reservations were refused
abbrev pub written_shares : ℕ → List Deed → ℕ → List ShareOf
written_shares cpu h drops =
    if length (stream cpu h) == 0 then last_share (record { drops = drops; records = [] }) else shares cpu h

module _ (uuid : List ℕ) (e : EnabledRows) (cpu : ℕ) where
  -- a packet for each batch, where so many reservations were refused before
  abbrev pub packets_following : ℕ → List ShareOf → List ℕ
  packets_following missed [] = []
  packets_following missed (s ∷ ss) = packet uuid e (missed + s.drops) cpu s.records ++ packets_following (missed + s.drops) ss

  -- a CPU's file as taken
  abbrev pub file_as_taken : List Deed → ℕ → List ℕ
  file_as_taken h drops = packets_following 0 (written_shares cpu h drops)

  -- The bytes of a CPU's file; none where it has no file.
  abbrev pub IsFile : Form → List Deed → Report → List ℕ → Type 0
  IsFile AsTaken h p bytes = bytes ≡ file_as_taken h p.drops
  IsFile (ByTime hertz) h p bytes = ArePacketsOfRecords e uuid (missed_by p) cpu (stream cpu h) bytes

-- what stands at the place of each of so many CPUs is its file
abbrev pub AreFiles : List ℕ → EnabledRows → Form → List Deed → List Report → List (List ℕ) → ℕ → Type 0
AreFiles uuid e form h reps files n =
    (c : ℕ) (p : Report) → c < n → p ≡ slice_index_or reps c p → IsFile uuid e c form h p (slice_index_or files c [])

-- the records that each of so many CPUs accepted
abbrev pub AreStreams : ℕ → List Deed → List (List Record) → Type 0
AreStreams cpus deeds rss = rss ≡ map (λ c. stream c (reverse deeds)) (numbers_below cpus)

-- the trace of a play, with this uuid
pub record IsPlayTrace (uuid : List ℕ) (form : Form) (p : Plan) (outcome : Outcome) (t : Trace) : Type 0 where
  pub clock : IsTakenByReaders form outcome.close.accepted
  pub metadata : string_bytes t.metadata ≡ metadata_text uuid form (event_rows p outcome.close.accepted) Numbered
  pub count : length t.files.items ≡ p.config.cpus
  pub files : AreFiles uuid (event_rows p outcome.close.accepted) form (reverse outcome.close.deeds) outcome.close.reports (map (λ f. f.items) t.files.items) p.config.cpus

-- how many reservations were refused by these batches
abbrev pub refused_in : List ShareOf → ℕ
refused_in [] = 0
refused_in (s ∷ ss) = s.drops + refused_in ss

-- The events of each of these batches have less than 2^60 bytes, so that their bits are a number of 64 bits.
abbrev pub HaveShortEvents : EnabledRows → List ShareOf → Type 0
HaveShortEvents e ss = All (λ s. length (events e s.records) < 2 ^ 60) ss

-- What a CPU's file tells is of 64 bits: what was refused and missed is among what its report counts, and the events of each packet are short.
pub record TellsSmall (e : EnabledRows) (cpu : ℕ) (h : List Deed) (p : Report) : Type 0 where
  pub missed : missed_by p ≤ p.offered
  pub refused : refused_in (written_shares cpu h p.drops) ≤ p.drops
  pub short : HaveShortEvents e (written_shares cpu h p.drops)

-- so it is of each CPU whose records the events have
abbrev pub AllTellSmall : EnabledRows → List Deed → List Report → Type 0
AllTellSmall e h reports = (c : ℕ) (p : Report) → slice_get reports c ≡ Some p → All (Accepts e) (stream c h) → TellsSmall e c h p

-- a record that the events don't have, with this EPID, is among these
abbrev pub HasUnknown : EnabledRows → ℕ → List Record → Type 0
HasUnknown e epid rs = (i : ℕ) × ((r : Record) × ((slice_get rs i ≡ Some r) × ((r.epid ≡ epid) × (table_accepts e.header (enabled e.rows) r ≡ false))))

-- why there is no file of these records
abbrev pub IsFileFault : Form → EnabledRows → List Record → ViewFault → Type 0
IsFileFault form e rs NoStamp = fault_of_metadata form e Numbered ≡ Some metadata_fault.NoStamp
IsFileFault form e rs (NoEvent epid) = HasUnknown e epid rs
IsFileFault form e rs Memory = Unit {0}
IsFileFault form e rs fault = ⊥

-- a record that the events don't have, with this EPID, is among those of a CPU
abbrev pub IsUnknown : EnabledRows → ℕ → List (List Record) → Type 0
IsUnknown e epid rss = (c : ℕ) × HasUnknown e epid (slice_index_or rss c [])

-- why a play has no trace
abbrev pub IsPlayTraceFault : Form → EnabledRows → List (List Record) → ViewFault → Type 0
IsPlayTraceFault form e rss NoStamp = fault_of_metadata form e Numbered ≡ Some metadata_fault.NoStamp
IsPlayTraceFault form e rss NoFrequency = fault_of_metadata form e Numbered ≡ Some metadata_fault.NoFrequency
IsPlayTraceFault form e rss GreatestFrequency = IsClockFault form rss GreatestFrequency
IsPlayTraceFault form e rss LateStamp = IsClockFault form rss LateStamp
IsPlayTraceFault form e rss (NoEvent epid) = IsUnknown e epid rss
IsPlayTraceFault form e rss Memory = Unit {0}
IsPlayTraceFault form e rss fault = ⊥

-- What is told of a fault of the metadata. None is of names, since they are numbered, nor of a process, since none is told.
abbrev pub IsFormFault : MetadataFault → ViewFault → Type 0
IsFormFault metadata_fault.NoStamp told = told ≡ NoStamp
IsFormFault metadata_fault.NoFrequency told = told ≡ NoFrequency
IsFormFault metadata_fault.Memory told = told ≡ Memory
IsFormFault fault told = ⊥

-- a fault that there may be
abbrev pub IsOfNumbered : MetadataFault → Type 0
IsOfNumbered metadata_fault.NoStamp = Unit {0}
IsOfNumbered metadata_fault.NoFrequency = Unit {0}
IsOfNumbered metadata_fault.Memory = Unit {0}
IsOfNumbered fault = ⊥

-- the uuid of a text's trace, by the text's bytes (version 5 of RFC 4122)
abbrev pub trace_uuid : List ℕ → List ℕ
trace_uuid text = with_version (with_variant (take 16 (sha1 (namespace_oid ++ text))) RFC4122) Sha1

-- the trace of a text's play
pub record IsTraceOf (form : Form) (text : List ℕ) (t : Trace) : Type 0 where
  pub plan : Plan
  pub outcome : Outcome
  pub played : IsPlayedText text plan outcome
  pub trace : IsPlayTrace (trace_uuid text) form plan outcome t

-- a text's play has no trace, for this fault
pub record HasNoTrace (form : Form) (text : List ℕ) (fault : ViewFault) : Type 0 where
  pub plan : Plan
  pub outcome : Outcome
  pub played : IsPlayedText text plan outcome
  pub because : IsPlayTraceFault form (event_rows plan outcome.close.accepted) outcome.close.accepted fault

-- why a text has no trace: it says no schedule, or the play of its schedule is refused or has none
abbrev pub IsTraceFault : Form → List ℕ → ViewFault → Type 0
IsTraceFault form text (Line line kind) = IsTextFault text (schedule.Line line kind)
IsTraceFault form text Memory = Unit {0}
IsTraceFault form text fault = HasNoTrace form text fault

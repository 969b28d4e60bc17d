-- Cited by calls. What a play prints: a line for each ended call, then a report and a stream for each CPU.
use Rattle.std.specs.List.{flat_map, join_by, enumerate_from, zip}
use Rattle.std.specs.Prelude.{ℕ, Bool, true, false, List, [], ◌∷◌, ◌++◌, take, drop, slice_index_or, codes, decimal}
use Rattle.dspec_schedule.specs.Words.Outside.{Actor, Op, CpuOp, ConsumerOp, Answer, Traced, Opening, Spoken, Decided, Served, Report, Outcome, Record, id_number, Header}
use Rattle.dspec_deeds.specs.declared.calls.Actor.TheVariants as actor
use Rattle.dspec_deeds.specs.declared.calls.Op.TheVariants as op
use Rattle.dspec_deeds.specs.declared.calls.CpuOp.TheVariants as cpu_op
use Rattle.dspec_deeds.specs.declared.calls.ConsumerOp.TheVariants as consumer_op
use Rattle.dspec_deeds.specs.declared.calls.Answer.TheVariants as answer
use Rattle.dspec_deeds.specs.declared.calls.Traced.TheVariants as traced
use Rattle.dspec_deeds.specs.declared.calls.Opening.TheVariants as opening
use Rattle.dspec_deeds.specs.declared.calls.Spoken.TheVariants as spoken
use Rattle.dspec_deeds.specs.declared.calls.Decided.TheVariants as decided
use Rattle.dspec_record.specs.declared.header.Header.TheVariants as header

-- who makes a call
abbrev pub actor_text : Actor → List ℕ
actor_text (actor.Cpu c) = codes "cpu " ++ decimal c
actor_text actor.Consumer = codes "consumer"

-- a call of a CPU, with the number of the identifier that it was given
abbrev pub cpu_op_text : CpuOp → List ℕ
cpu_op_text (cpu_op.Trace _) = codes "trace"
cpu_op_text cpu_op.Speculation = codes "speculation"
cpu_op_text (cpu_op.Speculate id _) = codes "speculate " ++ decimal (id_number id)
cpu_op_text (cpu_op.Commit id) = codes "commit " ++ decimal (id_number id)
cpu_op_text (cpu_op.Discard id) = codes "discard " ++ decimal (id_number id)
cpu_op_text cpu_op.Service = codes "service"

-- a call of the consumer, with the CPU that it is about
abbrev pub consumer_op_text : ConsumerOp → List ℕ
consumer_op_text (consumer_op.Ask c) = codes "ask " ++ decimal c
consumer_op_text (consumer_op.Take c) = codes "take " ++ decimal c
consumer_op_text (consumer_op.GiveBack c) = codes "giveback " ++ decimal c
consumer_op_text consumer_op.Clean = codes "clean"
consumer_op_text consumer_op.Stop = codes "stop"

abbrev pub op_text : Op → List ℕ
op_text (op.Cpu o) = cpu_op_text o
op_text (op.Consumer o) = consumer_op_text o

abbrev pub traced_word : Traced → List ℕ
traced_word traced.Kept = codes "kept"
traced_word traced.Dropped = codes "dropped"
traced_word traced.Stopped = codes "stopped"
traced_word traced.Worn = codes "worn"

-- the number of the speculation that was opened, or 0 and why none was
abbrev pub opening_text : Opening → List ℕ
opening_text (opening.Id id) = decimal (id_number id)
opening_text opening.Unavailable = codes "0 unavailable"
opening_text opening.Busy = codes "0 busy"
opening_text opening.Stopped = codes "0 stopped"
opening_text opening.Worn = codes "0 worn"

abbrev pub spoken_word : Spoken → List ℕ
spoken_word spoken.Kept = codes "kept"
spoken_word spoken.Dropped = codes "dropped"
spoken_word spoken.Void = codes "void"
spoken_word spoken.Stopped = codes "stopped"
spoken_word spoken.Worn = codes "worn"

-- what became of a speculation, with the number of its records
abbrev pub decided_text : Decided → List ℕ
decided_text (decided.Copied n) = codes "copied " ++ decimal n
decided_text (decided.Lost n) = codes "lost " ++ decimal n
decided_text (decided.Thrown n) = codes "thrown " ++ decimal n
decided_text decided.Void = codes "void"
decided_text decided.Stopped = codes "stopped"
decided_text decided.Worn = codes "worn"

abbrev pub yes_no : Bool → List ℕ
yes_no true = codes "yes"
yes_no false = codes "no"

-- whether a batch was sealed, and how many speculations were settled
abbrev pub served_text : Served → List ℕ
served_text s = codes "sealed " ++ yes_no s.sealed ++ codes " settled " ++ decimal s.settled

-- the values of a record, in parentheses where there are any
abbrev pub values_text : List ℕ → List ℕ
values_text [] = []
values_text (v ∷ vs) = codes "(" ++ join_by decimal (codes ",") (v ∷ vs) ++ codes ")"

-- the stamp of a record, after an `@`, where its header has one
abbrev pub printed_stamp : Header → ℕ → List ℕ
printed_stamp header.One stamp = []
printed_stamp header.Two stamp = codes "@" ++ decimal stamp

-- a record: its probe identifier, its stamp, and its values
unfoldable pub printed_record : Header → Record → List ℕ
printed_record h r = decimal r.epid ++ printed_stamp h r.stamp ++ values_text r.values

-- records, each after a space
abbrev pub records_text : Header → List Record → List ℕ
records_text h rs = flat_map (λ r. codes " " ++ printed_record h r) rs

-- a batch taken: the drops counted since the one before, and its records, which are a part of the stream of its CPU
abbrev pub batch_text : Header → List Record → ℕ → ℕ → ℕ → List ℕ
batch_text h stream drops from count = codes "batch drops " ++ decimal drops ++ codes " records " ++ decimal count
    ++ codes ":" ++ records_text h (take count (drop from stream))

-- what a call answered; `stream` has the records that the CPU which it is about accepted in the whole play
abbrev pub answer_text : Header → List Record → Answer → List ℕ
answer_text h stream (answer.Traced t) = traced_word t
answer_text h stream (answer.Opening o) = opening_text o
answer_text h stream (answer.Spoken s) = spoken_word s
answer_text h stream (answer.Decided d) = decided_text d
answer_text h stream (answer.Served s) = served_text s
answer_text h stream answer.AskDone = codes "done"
answer_text h stream answer.TookNone = codes "none"
answer_text h stream (answer.Took drops from count) = batch_text h stream drops from count
answer_text h stream (answer.GaveBack b) = yes_no b
answer_text h stream (answer.Cleaned n) = decimal n
answer_text h stream answer.StopDone = codes "done"

-- the records accepted of the CPU that a call takes a batch of; other calls need none
abbrev pub stream_for : List (List Record) → Op → List Record
stream_for streams (op.Consumer (consumer_op.Take c)) = slice_index_or streams c []
stream_for streams _ = []

-- the line of an ended call
abbrev pub call_line : Header → List (List Record) → Actor × Op × Answer → List ℕ
call_line h streams ended = actor_text ended.0 ++ codes " " ++ op_text ended.1 ++ codes " "
    ++ answer_text h (stream_for streams ended.1) ended.2 ++ codes "\n"

-- a count after its name
abbrev pub count_text : List ℕ → ℕ → List ℕ
count_text name count = codes " " ++ name ++ codes " " ++ decimal count

-- the offered records, and those of each fate
abbrev pub fates_text : Report → List ℕ
fates_text r = count_text (codes "offered") r.offered
    ++ count_text (codes "accepted") r.accepted
    ++ count_text (codes "dropped") r.dropped
    ++ count_text (codes "specdropped") r.specdropped
    ++ count_text (codes "lost") r.lost
    ++ count_text (codes "discarded") r.discarded
    ++ count_text (codes "void") r.void
    ++ count_text (codes "held") r.held

-- the counts of what else befell a CPU
abbrev pub events_text : Report → List ℕ
events_text r = count_text (codes "drops") r.drops
    ++ count_text (codes "unavailable") r.unavailable
    ++ count_text (codes "busy") r.busy
    ++ count_text (codes "stopped") r.stopped
    ++ count_text (codes "worn") r.worn

-- the counts of a CPU
abbrev pub report_line : ℕ → Report → List ℕ
report_line c r = codes "report cpu " ++ decimal c ++ fates_text r ++ events_text r ++ codes "\n"

-- the records that a CPU accepted
abbrev pub stream_line : Header → ℕ → List Record → List ℕ
stream_line h c rs = codes "stream cpu " ++ decimal c ++ codes ":" ++ records_text h rs ++ codes "\n"

-- the report and the stream of a CPU
abbrev pub cpu_lines : Header → ℕ × (Report × List Record) → List ℕ
cpu_lines h cpu = report_line cpu.0 cpu.1.0 ++ stream_line h cpu.0 cpu.1.1

-- what a play prints
abbrev pub printed_text : Header → Outcome → List ℕ
printed_text h o = flat_map (call_line h o.close.accepted) o.answers
    ++ flat_map (cpu_lines h) (enumerate_from 0 (zip o.close.reports o.close.accepted))

-- Room for batches of a size is enough for each of them.
use Rattle.std.proofs.Common.{◌≡◌, ◌<◌, ◌≤◌, ◌+◌, ◌-◌, ◌*◌, ◌==◌, ◌⊎◌, ℕ, true, List, [], inl, inr, length, All, ap, sym, subst, ◌∙◌, arith, cond, drop}
use Rattle.std.proofs.lemmas.{Bool.Decides.nat_tests, List.Elements.All-drop, List.Elements.All-take}
use Rattle.std.specs.Prelude.{slice_range}
use Rattle.dspec_ctf.specs.Words.{Record, EnabledRows, Accepts, IsText, events, filled_size, portions, run_packet, told_by, most_bytes, most_records, CpuFiling, HasNoBatch, HasNoRun, HasRoomFor}
use Rattle.dspec_ctf.specs.Words.{HandsNone, HasNoRunPacket, LacksBytes, FindsAlone, FindsNone, OpensWithoutMemory, PutsWithoutMemory, as_written, run_bytes}
use Rattle.dspec_ctf.specs.declared.{in_memory.fault.PutFault.PutFault, rows.Run.Run, stream.PacketFault.PacketFault, stream.PacketFault.TheVariants.Memory}
use Rattle.dspec_ctf.specs.declared.in_memory.fault.PutFault.TheVariants as put
use Rattle.dspec_ctf.proofs.{Filling.packets-whole, FillingRoom.portions-few, Texts.part-long, Texts.text-accepted, Texts.text-long}

pub opens : OpensWithoutMemory
opens f size drops text room few (counted, lacks) = omega (arith, few, room.0, lacks)

-- the packets of a run have room
run-fits : (uuid : List ℕ) (e : EnabledRows) (missed cpu size file from to : ℕ) (text : List ℕ) (rs : List Record) → length uuid ≡ 16 → IsText e text rs → length text ≤ size
    → length (run_packet uuid e missed cpu file (slice_range rs from to)) ≤ most_bytes size
run-fits uuid e missed cpu size file from to text rs long is few =
    let part : List Record = slice_range rs from to in
    let of_part : All (Accepts e) part = All-take (Accepts e) (to - from) (drop from rs) (All-drop (Accepts e) from rs (text-accepted e text rs is)) in
    let sized = (packets-whole true e uuid (told_by file missed) cpu part long of_part).1 in
    omega (arith, few, sized, portions-few e [] part of_part, part-long e from to rs, text-long e text rs is)

has-room : (room : CpuFiling) (size needed : ℕ) → HasRoomFor size room.room → needed ≤ most_bytes size → LacksBytes room.room.bytes room.room.body needed → ⊥
has-room f size needed there few (inl bytes) = omega (arith, bytes, there.1, few)
has-room f size needed there few (inr body) = omega (arith, body, there.2)

run-lacks : (f new : CpuFiling) (size : ℕ) (text room : List ℕ) → length f.uuid ≡ 16 → HasRoomFor size f.room → IsText f.schema text f.records → length text ≤ size
    → FindsAlone (as_written f) room (put.Packet Memory) new → ⊥
run-lacks f new size text room long there is few alone =
    let run : Run = alone.run in
    let lacks : LacksBytes f.room.bytes f.room.body (length (run_packet f.uuid f.schema f.missed f.cpu run.file (slice_range f.records f.place run.end))) =
    subst (λ (g : CpuFiling). LacksBytes g.room.bytes g.room.body (length (run_bytes g run))) alone.finds.is alone.why.1 in
    has-room f size _ there (run-fits f.uuid f.schema f.missed f.cpu size run.file f.place run.end text f.records long is few) lacks

none-lacks : (f new : CpuFiling) → FindsNone f (put.Packet Memory) new → ⊥
none-lacks f new none =
    let is : none.why ≡ Memory = cc (none.fault_is) in
    subst (HasNoRun f.lasts f.records f.place) is none.none

pub puts : PutsWithoutMemory
puts f new size text room long there is few (inl (to_tell, lacks, roomy)) = omega (arith, lacks.1, there.1)
puts f new size text room long there is few (inr (inl alone)) = run-lacks f new size text room long there is few alone
puts f new size text room long there is few (inr (inr none)) = none-lacks (as_written f) new none

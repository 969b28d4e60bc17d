use Rattle.std.proofs.Common.{◌≡◌, ℕ, List, Option, Some, None, rules, ap, ◌∙◌, option_map}
use Rattle.std.specs.Prelude.{option_and_then}
use Rattle.dspec_ctf_reading.specs.Words.{Layout, PartRead, FrontRead, EventRead, PacketRead, with_events, PacketSplit, front_of, split_packet, told_layout, told_packet}
use Rattle.dspec_ctf_reading.proofs.{Folders.Splitting.left, Folders.Splitting.shorter, Shorter.packet-split}
use Rattle.dspec_ctf_reading.proofs.folder.packet.read_packet.Goals as goal

-- a packet of these events
abbrev whole : FrontRead → Option (List EventRead) → Option PacketRead
whole front events = option_map (λ es. record { uuid = front.uuid; cpu = front.cpu; discarded = front.discarded; span = front.span; events = es }) events

-- a packet with what is after it
abbrev beside : List ℕ → Option PacketRead → PartRead PacketRead
beside after packet = option_map (λ p. (p, after)) packet

abbrev of_split : Layout → Option PacketSplit → PartRead PacketRead
of_split layout split = option_and_then (λ s. beside s.after (with_events layout s.front s.body)) split

pub returns-in-Ok-read_events-clause-read : goal.returns-in-Ok-read_events-clause-read
returns-in-Ok-read_events-clause-read c =
    let layout : Layout = told_layout c.args.metadata.now in
    let timed : layout.timed ≡ c.is_some.result = search rules in
    let split : split_packet layout.timed c.args.bytes.now ≡ Some (told_packet c.in-Ok.packet) = ap (λ t. split_packet t c.args.bytes.now) timed ∙ c.in-Ok.ensures.read in
    packet-split layout c.args.bytes.now ∙ ap (of_split layout) split
    ∙ ap (λ events. beside c.in-Ok.packet.after.now (whole (front_of c.in-Ok.packet.front) events)) c.in-Ok-read_events.ensures.read

pub returns-in-Err-clause-none : goal.returns-in-Err-clause-none
returns-in-Err-clause-none c = λ _.
    let layout : Layout = told_layout c.args.metadata.now in
    let timed : layout.timed ≡ c.is_some.result = search rules in
    let none : split_packet layout.timed c.args.bytes.now ≡ None = ap (λ t. split_packet t c.args.bytes.now) timed ∙ c.in-Err.ensures.none in
    packet-split layout c.args.bytes.now ∙ ap (of_split layout) none

pub returns-in-Ok-read_events-clause-shorter : goal.returns-in-Ok-read_events-clause-shorter
returns-in-Ok-read_events-clause-shorter c = shorter _ _ (left _ _ _ c.in-Ok.ensures.read)

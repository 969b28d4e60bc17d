use Rattle.std.proofs.Common.{◌≡◌, ◌<◌, ◌^◌, ◌+◌, length, ◌++◌, ◌∙◌, subst, sym, ap, All, arith, drop, map}
use Rattle.specview.specs.Words.{packet, events, Accepts, HasNoRecordPacket, shown_share, packets_following, refused_in}
use Rattle.specview.proofs.Parts.{HasRecords, memory_alone, packet_next, refused_next, share_at}
use Rattle.specview.proofs.trace.put_shares.Goals as goal

pub packet_of-requires : goal.packet_of-requires
packet_of-requires c =
    subst (λ e. All (Accepts e.now) c.share-item.result.records.now) (sym c.loop-share.invariant.events)
    (share_at (HasRecords c.args.stream.enablings.now) c.args.shares.now c.loop-share.share-index c.share-item.result c.requires.known c.loop-share-test.true c.share-item.is)

pub no_memory-requires : goal.no_memory-requires
no_memory-requires c =
    let e = c.args.stream.enablings.now in
    let share = c.share-item.result in
    let before = c.loop-share.stream.missed in
    let next = refused_next e before c.args.shares.now c.loop-share.share-index share c.loop-share-test.true c.share-item.is in
    let held = c.loop-share.invariant.counted in
    let few = c.requires.counted in
    memory_alone e before share.drops share.records.now c.in-Err.fault (omega arith)
    (share_at (λ s. length (events e s.records) < 2 ^ 60) c.args.shares.now c.loop-share.share-index share c.requires.short c.loop-share-test.true c.share-item.is)
    (subst (λ known. HasNoRecordPacket known.now before share.drops share.records.now c.in-Err.fault) c.loop-share.invariant.events c.in-Err.ensures.fault)

pub loop-share-preserved : goal.loop-share-preserved
loop-share-preserved c =
    let e = c.args.stream.enablings.now in
    let share = c.share-item.result in
    let before = c.loop-share.stream in
    let held = c.loop-share.invariant in
    let told = c.in-Ok.ensures in
    let rest = map shown_share (drop (c.loop-share.share-index + 1) c.args.shares.now) in
    let all = packets_following c.args.stream.uuid e c.args.stream.cpu c.args.stream.missed (map shown_share c.args.shares.now) in
    let now = before.missed + share.drops in
    record {
      uuid = told.same.0 ∙ held.uuid;
      events = told.same.1 ∙ held.events;
      cpu = told.same.2 ∙ held.cpu;
      ahead =
          subst (λ m. c.extend_from_slice.new.self.items ++ packets_following c.args.stream.uuid e c.args.stream.cpu m rest ≡ all) (sym told.counted)
          (packet_next e before.missed c.args.shares.now c.loop-share.share-index share c.loop-share-test.true c.share-item.is c.args.stream.uuid c.args.stream.cpu
          c.loop-share.bytes.items c.extend_from_slice.new.self.items c.in-Ok.packet.items all
          (c.in_ok-extend_from_slice.ensures.items ∙ ap (λ l. c.loop-share.bytes.items ++ l) c.as_slice.ensures.value)
          (told.packet ∙ (ap (λ u. packet u before.enablings.now now before.cpu share.records.now) held.uuid
          ∙ (ap (λ known. packet c.args.stream.uuid known.now now before.cpu share.records.now) held.events
          ∙ ap (λ cpu. packet c.args.stream.uuid e now cpu share.records.now) held.cpu)))
          held.ahead);
      counted = ap (λ m. m + refused_in rest) told.counted
          ∙ (sym (refused_next e before.missed c.args.shares.now c.loop-share.share-index share c.loop-share-test.true c.share-item.is) ∙ held.counted);
    }

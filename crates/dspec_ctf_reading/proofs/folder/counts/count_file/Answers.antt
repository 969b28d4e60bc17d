use Rattle.std.proofs.Common.{◌≡◌, ◌<◌, ◌^◌, true, rules, arith, length, ap, subst}
use Rattle.dspec_ctf_reading.specs.Words.{told_layout, CountsPacket}
use Rattle.dspec_ctf_reading.proofs.Folders.Counting.{counted-begin, counted-more}
use Rattle.dspec_ctf_reading.proofs.folder.counts.count_file.Goals as goal

pub loop-rest-init : goal.loop-rest-init
loop-rest-init c =
    let packets : c.begin_file-before.result.0 ≡ c.args.counts.now.packets = ap (λ p. p.0) c.begin_file-before.ensures.before in
    let missed : c.begin_file-before.result.1 ≡ c.args.counts.now.missed = ap (λ p. p.1) c.begin_file-before.ensures.before in
    let few : c.args.counts.now.packets < 2 ^ 64 = omega (arith, packets, c.begin_file-before.type_inv) in
    let low : c.args.counts.now.missed < 2 ^ 64 = omega (arith, missed, c.begin_file-before.type_inv) in
    counted-begin (told_layout c.args.metadata.now) c.args.bytes.now c.args.counts.now c.begin_file-before.new.counts few low c.begin_file-before.ensures.begun

pub loop-rest-preserved : goal.loop-rest-preserved
loop-rest-preserved c =
    let some : 0 < length c.loop-rest.rest.now = search rules in
    let counted : c.count_packet.result ≡ true = c.if-not-count_packet.false in
    let missed : c.begin_file-before.result.1 ≡ c.args.counts.now.missed = ap (λ p. p.1) c.begin_file-before.ensures.before in
    counted-more (told_layout c.args.metadata.now) c.args.bytes.now c.loop-rest.rest.now c.in_ok-packet.packet.after.now c.in_ok-packet.packet c.args.counts.now
    c.loop-rest.counts c.count_packet.new.counts some c.loop-rest.invariant c.in_ok-packet.ensures.read c.in_ok-packet.ensures.fit
    (subst (λ n. CountsPacket n c.in_ok-packet.packet c.loop-rest.counts c.count_packet.new.counts) missed (c.count_packet.ensures counted))

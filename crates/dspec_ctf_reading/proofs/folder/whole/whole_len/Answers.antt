use Rattle.std.proofs.Common.{ap, sym, subst, ◌∙◌}
use Rattle.dspec_ctf_reading.specs.Words.{packet_split, AreWholeBefore}
use Rattle.dspec_ctf_reading.proofs.Folders.Splitting.{left, shorter, tail-on, tail-dropped, whole-more}
use Rattle.dspec_ctf_reading.proofs.folder.whole.whole_len.Goals as goal

pub loop-packet-smaller : goal.loop-packet-smaller
loop-packet-smaller c = shorter _ _ (left c.args.timed _ _ (sym c.in-Some.ensures))

pub loop-packet-preserved : goal.loop-packet-preserved
loop-packet-preserved c = record {
  whole = whole-more c.args.timed _ _ _ c.loop-packet.invariant.whole (sym c.in-Some.ensures);
  tail = tail-on _ _ _ c.loop-packet.invariant.tail (left c.args.timed _ _ (sym c.in-Some.ensures));
}

pub returns-clause-whole : goal.returns-clause-whole
returns-clause-whole c =
    subst (AreWholeBefore c.args.timed c.args.bytes.now) (sym (tail-dropped c.args.bytes.now c.loop-packet.rest.now c.loop-packet.invariant.tail)) c.loop-packet.invariant.whole

pub returns-clause-no_more : goal.returns-clause-no_more
returns-clause-no_more c =
    ap (packet_split c.args.timed) (tail-dropped c.args.bytes.now c.loop-packet.rest.now c.loop-packet.invariant.tail) ∙ sym c.in_default.ensures

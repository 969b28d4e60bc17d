use Rattle.std.proofs.Common.{◌<◌, ◌^◌, refl, sym, ap, arith}
use Rattle.dspec_cpu.specs.Words.{is_granted, batches_of_rest, Config}
use Rattle.dspec_cpu.proofs.Rests.{can, closed, released, unsettled}
use Rattle.dspec_cpu.proofs.rest.CpuRest.settle_slot.Goals as goal

pub settle_at-requires : goal.settle_at-requires
settle_at-requires g c =
    let some = c.requires.some in
    released (g.S.Schema.shape_of c.args.self.now.schema) (g.S.Schema.accepted c.args.self.now.schema) (g.S.Schema.text c.args.self.now.schema) c.args.self.now c.args.last.now
    c.requires.words c.args.slot c.requires.slot.0 c.requires.slot.1 c.word-word.result c.word-word.ensures some.2 some.3 some.1 some.5

pub returns-in_default : goal.returns-in_default
returns-in_default g c = record {
  same = record { schema = refl; config = refl; number = refl; held_back = refl; worn = refl };
  list = λ handed p log now had closes. unsettled _ _ _ c.args.self.now c.args.last.now c.requires.words c.args.slot c.requires.slot.0 c.requires.slot.1
      c.word-word.result c.word-word.ensures c.ack.result c.ack.ensures c.settle_at.result c.settle_at.ensures c.in_default.not-Granted handed log now p had closes;
}

pub settle_block-requires : goal.settle_block-requires
settle_block-requires g c =
    let rest = c.args.self.now in
    let some = c.requires.some in
    let small : rest.side.calls < 2 ^ 64 = omega arith in
    let grants = sym (ap is_granted c.in-Granted.ensures) in
    let places = c.args.last.now.places.1 in
    let same = ap (λ (k : Config). k.nspec) c.requires.words.set_up in
    let within = c.requires.slot.1 in
    record {
      slot = omega arith;
      some = (
        rest.schema,
        rest.cpu,
        batches_of_rest rest some.0,
        some.1,
        can _ _ _ rest c.args.last.now c.requires.words c.args.slot c.requires.slot.0 c.requires.slot.1 c.word-word.result c.word-word.ensures c.ack.result c.ack.ensures
            grants small some.0 some.2 some.3 some.1 some.4 some.5,
      );
    }

pub returns-clause-list : goal.returns-clause-list
returns-clause-list g c = λ handed p log now had closes.
    let rest = c.args.self.now in
    let small : rest.side.calls < 2 ^ 64 = omega arith in
    let grants = sym (ap is_granted c.in-Granted.ensures) in
    let may = can _ _ _ rest c.args.last.now c.requires.words c.args.slot c.requires.slot.0 c.requires.slot.1 c.word-word.result c.word-word.ensures c.ack.result
    c.ack.ensures grants small handed log now p had closes in
    let done = c.settle_block.ensures.settled rest.schema rest.cpu (batches_of_rest rest handed) p may in
    closed _ _ _ rest c.args.last.now c.requires.words c.args.slot c.requires.slot.0 c.requires.slot.1 c.word-word.result c.word-word.ensures c.ack.result c.ack.ensures
    grants small handed log now p closes c.settle_block.new.side done.shown

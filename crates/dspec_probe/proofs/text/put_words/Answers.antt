-- One word more, after those so far.
use Rattle.std.proofs.{Common.length, Common.◌∙◌, lemmas.List.length-set}
use Rattle.dspec_probe.specs.Words.{text_word, filled_words}
use Rattle.dspec_probe.proofs.Words.{word-on}
use Rattle.dspec_probe.proofs.text.put_words.Goals as goal

pub loop-place-preserved : goal.loop-place-preserved
loop-place-preserved c =
    let n = length c.args.words.now in
    record {
      long = length-set c.loop-place.words c.loop-place.place c.text_word.result ∙ c.loop-place.invariant.long;
      so_far = word-on (text_word c.args.bytes.now c.args.fill) c.loop-place.words (filled_words n c.args.bytes.now c.args.fill) c.loop-place.place n c.text_word.result
          c.loop-place-test.true c.loop-place.invariant.long c.loop-place.invariant.so_far c.text_word.ensures;
    }

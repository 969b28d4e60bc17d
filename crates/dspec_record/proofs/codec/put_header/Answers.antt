-- Each store has zeros after what it is for.
use Rattle.std.proofs.{Common.◌∙◌, Common.refl, Common.ap, Common.arith, lemmas.List.length-take-le}
use Rattle.dspec_record.specs.Words.{fields_start}
use Rattle.dspec_record.proofs.Headers.{one-put, one-clear, two-put, two-clear}
use Rattle.dspec_record.proofs.codec.put_header.Goals as goal

pub returns-in-One-clause-put : goal.returns-in-One-clause-put
returns-in-One-clause-put g c =
    one-put c.args.header (g.R.Recorded.as_record c.args.rec) c.from-epid.result c.put_word.new.out c.in-One.is (c.from-epid.ensures ∙ c.epid.ensures) c.put_word.ensures

pub returns-in-One-clause-clear : goal.returns-in-One-clause-clear
returns-in-One-clause-clear g c =
    one-clear c.args.header c.from-epid.result c.args.out.now c.put_word.new.out c.in-One.is (omega (arith, c.from-epid.ensures, c.epid.type_inv))
    (omega (arith, c.requires.room, ap fields_start c.in-One.is)) c.put_word.ensures

pub returns-in-Two-clause-put : goal.returns-in-Two-clause-put
returns-in-Two-clause-put g c =
    two-put c.args.header (g.R.Recorded.as_record c.args.rec) c.from-epid.result c.stamp-stamp.result _ c.put_word-in-Two.new.out c.put_word-in-Two-2.new.out c.in-Two.is
    (c.from-epid.ensures ∙ c.epid.ensures) c.stamp-stamp.ensures (omega (arith, c.from-epid.ensures, c.epid.type_inv)) refl
    (length-take-le 8 c.put_word-in-Two.new.out (omega (arith, c.put_word-in-Two.auto.out, c.requires.room, ap fields_start c.in-Two.is)))
    c.put_word-in-Two.ensures c.put_word-in-Two-2.ensures

pub returns-in-Two-clause-clear : goal.returns-in-Two-clause-clear
returns-in-Two-clause-clear g c =
    two-clear c.args.header c.stamp-stamp.result c.put_word-in-Two.new.out c.put_word-in-Two-2.new.out c.in-Two.is c.stamp-stamp.type_inv
    (omega (arith, c.put_word-in-Two.auto.out, c.requires.room, ap fields_start c.in-Two.is)) c.put_word-in-Two-2.ensures

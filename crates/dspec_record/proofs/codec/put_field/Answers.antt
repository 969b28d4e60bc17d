-- The value is written over what is clear, and leaves what is after it clear.
use Rattle.std.proofs.Common.{◌+◌, ℕ, take, sym, subst, ap, ◌∙◌}
use Rattle.dspec_record.specs.Words.{IsClearAfter}
use Rattle.dspec_record.proofs.Clearing.{written-put, written-clear}
use Rattle.dspec_record.proofs.codec.put_field.Goals as goal

pub returns-clause-put : goal.returns-clause-put
returns-clause-put c =
    ap (λ n. take (c.args.place + n) c.put_word.new.out) c.width.ensures
    ∙ written-put c.args.field c.args.value c.args._end c.args.place c.args.out.now c.put_word.new.out c.put_word.ensures c.requires.place c.requires.room c.requires.clear

pub returns-clause-clear : goal.returns-clause-clear
returns-clause-clear c =
    let After : ℕ → Type 0 = λ n. IsClearAfter (c.args.place + n) c.put_word.new.out in
    subst After (sym c.width.ensures)
    (written-clear c.args.field c.args.value c.args._end c.args.place c.args.out.now c.put_word.new.out c.put_word.ensures c.requires.holds c.requires.place c.requires.room)

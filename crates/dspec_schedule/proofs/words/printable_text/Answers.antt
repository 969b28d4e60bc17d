use Rattle.std.proofs.Common.{rules, ◌≡◌, true}
use Rattle.std.specs.List.{list_all}
use Rattle.dspec_schedule.specs.Words.{is_printable}
use Rattle.dspec_schedule.proofs.PrintableLemmas.{IsUtf8-printable}
use Rattle.dspec_schedule.proofs.words.printable_text.Goals as goal

pub returns-then-has_printable_bytes-clause-told : goal.returns-then-has_printable_bytes-clause-told
returns-then-has_printable_bytes-clause-told c =
    let printable : list_all is_printable c.args.line.now ≡ true = search rules in
    let text = IsUtf8-printable c.args.line.now printable in
    search (rules, text, printable)

use Rattle.std.proofs.Common.{rules, arith, ◌≡◌, None, codes, refl, length}
use Rattle.std.specs.Prelude.{IsTrue}
use Rattle.dspec_ctf_reading.specs.Words.{read_field, read_fields, is_unread, told_field}
use Rattle.dspec_ctf_reading.proofs.LoopLemmas.{lines-on, lines-end, lines-stop}
use Rattle.dspec_ctf_reading.proofs.entries.fields.Goals as goal

pub returns-in-Some : goal.returns-in-Some
returns-in-Some c =
    lines-end told_field (codes "\t};\n};\n") read_field read_fields (λ m bytes. refl) (length c.args.bytes.now) c.loop.counter c.loop.found.items
    (read_fields (length c.args.bytes.now) c.args.bytes.now) c.loop.rest.now c.in-Some.end.now (omega arith) c.loop.invariant (search rules)

pub returns-in_err-line : goal.returns-in_err-line
returns-in_err-line c =
    let none : IsTrue (is_unread c.in_err-line.field-0.0) → read_fields (length c.args.bytes.now) c.args.bytes.now ≡ None =
    λ unread. lines-stop told_field (codes "\t};\n};\n") read_field read_fields (λ m bytes. refl) (length c.args.bytes.now) c.loop.counter c.loop.found.items
    (read_fields (length c.args.bytes.now) c.args.bytes.now) c.loop.rest.now (omega arith) c.loop.invariant (search rules) (c.in_err-line.ensures unread) in
    search (rules, none)

pub loop-preserved : goal.loop-preserved
loop-preserved c =
    lines-on told_field (codes "\t};\n};\n") read_field read_fields (λ m bytes. refl) (length c.args.bytes.now) c.loop.counter c.loop.found.items c.append.new.self.items c.in_ok-line.line.items
    (read_fields (length c.args.bytes.now) c.args.bytes.now) c.loop.rest.now c.in_ok-line.next.now (omega arith) c.loop.invariant (search rules) (search rules) (search rules)

use Rattle.std.proofs.Common.{rules, arith, ◌≡◌, None, codes, refl, length}
use Rattle.std.specs.Prelude.{IsTrue}
use Rattle.dspec_ctf_reading.specs.Words.{read_label, read_labels, is_unread, told_label}
use Rattle.dspec_ctf_reading.proofs.LoopLemmas.{many-on, many-end, many-stop}
use Rattle.dspec_ctf_reading.proofs.kinds.labels.Goals as goal

pub returns-in-Some : goal.returns-in-Some
returns-in-Some c =
    many-end told_label (codes "}") read_label read_labels (λ m bytes. refl) (length c.args.bytes.now) c.loop.counter c.loop.found.items
    (read_labels (length c.args.bytes.now) c.args.bytes.now) c.loop.rest.now c.in-Some.end.now (omega arith) c.loop.invariant (search rules)

pub returns-in_err-one : goal.returns-in_err-one
returns-in_err-one c =
    let none : IsTrue (is_unread c.in_err-one.field-0.0) → read_labels (length c.args.bytes.now) c.args.bytes.now ≡ None =
    λ unread. many-stop told_label (codes "}") read_label read_labels (λ m bytes. refl) (length c.args.bytes.now) c.loop.counter c.loop.found.items
    (read_labels (length c.args.bytes.now) c.args.bytes.now) c.loop.rest.now (omega arith) c.loop.invariant (search rules) (c.in_err-one.ensures unread) in
    search (rules, none)

pub loop-preserved : goal.loop-preserved
loop-preserved c =
    many-on told_label (codes "}") read_label read_labels (λ m bytes. refl) (length c.args.bytes.now) c.loop.counter c.loop.found.items c.push.new.self.items
    (record { text = c.in_ok-one.one.text; number = c.in_ok-one.one.number })
    (read_labels (length c.args.bytes.now) c.args.bytes.now) c.loop.rest.now c.in_ok-one.next.now (omega arith) c.loop.invariant (search rules) (search rules) (search rules)

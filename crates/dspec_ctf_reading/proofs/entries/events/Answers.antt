use Rattle.std.proofs.Common.{rules, arith, ◌≡◌, ◌<◌, ◌∙◌, sym, None, length}
use Rattle.std.specs.Prelude.{IsTrue}
use Rattle.dspec_ctf_reading.specs.Words.{read_event_texts, is_unread, told_event}
use Rattle.dspec_ctf_reading.proofs.LoopLemmas.{texts-on, texts-stop, some-left}
use Rattle.dspec_ctf_reading.proofs.entries.events.Goals as goal

pub returns-in_err-one : goal.returns-in_err-one
returns-in_err-one c =
    let some : 0 < length c.loop.rest.now = some-left (length c.loop.rest.now) (sym c.is_empty.ensures ∙ c.if-is_empty.false) in
    let none : IsTrue (is_unread c.in_err-one.field-0.0) → read_event_texts (length c.args.bytes.now) c.args.bytes.now ≡ None =
    λ unread. texts-stop told_event (length c.args.bytes.now) c.loop.counter c.loop.found.items
    (read_event_texts (length c.args.bytes.now) c.args.bytes.now) c.loop.rest.now (omega arith) some c.loop.invariant (c.in_err-one.ensures unread) in
    search (rules, none)

pub loop-preserved : goal.loop-preserved
loop-preserved c =
    let some : 0 < length c.loop.rest.now = some-left (length c.loop.rest.now) (sym c.is_empty.ensures ∙ c.if-is_empty.false) in
    texts-on told_event (length c.args.bytes.now) c.loop.counter c.loop.found.items c.push.new.self.items c.in_ok-one.one
    (read_event_texts (length c.args.bytes.now) c.args.bytes.now) c.loop.rest.now c.in_ok-one.next.now (omega arith) some c.loop.invariant (search rules) (search rules)

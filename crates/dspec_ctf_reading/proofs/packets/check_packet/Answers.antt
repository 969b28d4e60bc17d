use Rattle.std.proofs.Common.{◌≡◌, None, rules, ap, ◌∙◌}
use Rattle.std.specs.Prelude.{option_and_then}
use Rattle.dspec_ctf_reading.specs.Words.{Layout, split_packet, with_its_events, told_layout}
use Rattle.dspec_ctf_reading.proofs.Shorter.{packet-split}
use Rattle.dspec_ctf_reading.proofs.packets.check_packet.Goals as goal

pub returns-in-Err-clause-none : goal.returns-in-Err-clause-none
returns-in-Err-clause-none c =
    let layout : Layout = told_layout c.args.metadata.now in
    let timed : layout.timed ≡ c.is_some.result = search rules in
    let none : split_packet layout.timed c.args.bytes.now ≡ None = ap (λ t. split_packet t c.args.bytes.now) timed ∙ c.in-Err.ensures.none in
    packet-split layout c.args.bytes.now ∙ ap (λ split. option_and_then (λ s. with_its_events layout s) split) none

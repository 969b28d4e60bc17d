use Rattle.std.proofs.Common.{◌≡◌, ◌+◌, ◌-◌, ◌∙◌, [], length, map, take, drop, ap, sym, arith}
use Rattle.std.proofs.lemmas.List.{length-drop, length-take-le}
use Rattle.dspec_ctf.proofs.InMemory.Events.{first_and_some}
use Rattle.dspec_ctf.proofs.in_memory.naming.event_of.Goals as goal

pub returns-clause-texts : goal.returns-clause-texts
returns-clause-texts c =
    let named = c.in-Some.named in
    let texts = c.args.texts.now in
    let long : length (take ((1 + named) - 1) (drop 1 texts)) ≡ named =
    length-take-le ((1 + named) - 1) (drop 1 texts) (omega (arith, c.if-texts-named.false, length-drop 1 texts)) ∙ omega arith in
    first_and_some (λ t. t.now) (record { ref_ptr = (0, 0); now = [] }) named texts c.if-texts-named.false
    ∙ sym (ap (λ k. take (1 + k) (map (λ t. t.now) texts)) long)

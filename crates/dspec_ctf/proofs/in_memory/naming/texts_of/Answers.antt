use Rattle.std.proofs.Common.{◌≡◌, ◌++◌, ◌∷◌, ◌∙◌, [], map, ap, rules}
use Rattle.std.specs.Str.{IsUtf8}
use Rattle.dspec_ctf.proofs.InMemory.Events.{all_at, map_more}
use Rattle.dspec_ctf.proofs.in_memory.naming.texts_of.Goals as goal

pub returns-in_default-clause-fault : goal.returns-in_default-clause-fault
returns-in_default-clause-fault c = λ all. c.in_default.ensures.cases.0
    (all_at (λ n. n.now) IsUtf8 c.args.names.now c.loop-name.name-index (record { ref_ptr = (0, 0); now = [] }) c.loop-name-test.true all)

pub loop-name-preserved : goal.loop-name-preserved
loop-name-preserved c =
    let items : c.push.new.self.items ≡ c.loop-name.texts.items ++ c.in-Ok.text ∷ [] = search rules in
    ap (λ ts. map (λ t. t.now) ts) items ∙ map_more (λ t. t.now) (λ n. n.now) c.loop-name.texts.items c.in-Ok.text c.args.names.now c.loop-name.name-index
    (record { ref_ptr = (0, 0); now = [] }) c.loop-name-test.true c.loop-name.invariant c.in-Ok.ensures.cases.0

-- One field more, over the first of the places that hold none.
use Rattle.std.proofs.Common.{◌≡◌, ◌<◌, ◌+◌, ◌-◌, length, take, drop, replicate, ap, sym, ◌∙◌, arith}
use Rattle.std.proofs.lemmas.List.{length-set, length-take-le, drop-drop, drop-set-lt, drop-replicate}
use Rattle.dspec_probe.specs.Words.{One}
use Rattle.dspec_probe.proofs.field_list.FieldList.with.Goals as goal

pub invariant_of-result : goal.invariant_of-result
invariant_of-result c =
    let a = c.self.inside in
    let is = c.self.invariant in
    let long : length (take a.len a.held) ≡ a.len = length-take-le a.len a.held (omega (arith, is.few, is.eight)) in
    let less : a.len < 8 = omega (arith, c.requires, ap length c.self.view_is, long) in
    record {
      eight = length-set a.held a.len c.args.field ∙ is.eight;
      few = omega (arith, less);
      rest =
          drop-set-lt (a.len + 1) a.held a.len c.args.field (omega arith)
          ∙ (sym (drop-drop 1 a.len a.held) ∙ (ap (drop 1) is.rest ∙ (drop-replicate 1 (8 - a.len) One ∙ ap (λ n. replicate n One) (omega arith))));
    }

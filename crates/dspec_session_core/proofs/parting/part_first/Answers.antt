use Rattle.std.proofs.Common.{◌<◌, ◌∙◌, ◌∷◌, sym, ap, subst, arith}
use Rattle.dspec_session_core.specs.Words.{CpuKnows, rest_with, RestHasList, schema_of_rest, IsRestOf}
use Rattle.dspec_session_core.proofs.Ends.{first_and_rest}
use Rattle.dspec_session_core.proofs.parting.part_first.Goals as goal

pub returns-clause-parted : goal.returns-clause-parted
returns-clause-parted g c =
    let cpus = c.args.cpus.now.items in
    let cpu = c.remove.result in
    let some : 0 < _ = c.requires in
    let cpus_are = ap (λ xs. cpu ∷ xs) c.remove.ensures.items ∙ first_and_rest cpus cpu (let ok = c.args.cpus.now.ok.0 in omega arith) c.remove.ensures.value in
    let part = c.part-seat.ensures in
    let end = c.part-seat.result.1 in
    let rest = c.part-seat.result.2 in
    let whole = c.without_schema-rest.ensures ∙ ap (λ s. rest_with s c.without_schema-rest.result) part.same.0 in
    let is : IsRestOf cpu end rest =
    record { end_is = part.end; schema = part.same.0; config = part.same.1; number = part.same.2; held_back = part.rest.0; worn = part.rest.1 } in (
      cpu,
      cpus_are,
      part.seat,
      record {
        rest = subst (λ r. IsRestOf cpu end r) whole is;
        lists = λ q has.
            subst (λ r. RestHasList (g.S.Schema.shape_of (schema_of_rest r)) (g.S.Schema.accepted (schema_of_rest r)) (g.S.Schema.text (schema_of_rest r)) r end.handed q) whole
            (subst (λ (e : CpuKnows). RestHasList (g.S.Schema.shape_of (schema_of_rest rest)) (g.S.Schema.accepted (schema_of_rest rest)) (g.S.Schema.text (schema_of_rest rest)) rest e.handed q)
            (sym part.end) (part.list q has.shown));
      },
    )

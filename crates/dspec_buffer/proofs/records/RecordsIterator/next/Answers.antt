use Rattle.std.proofs.Common.{◌≡◌, [], length, sym, ap, ◌∙◌, rules}
use Rattle.dspec_buffer.proofs.{Insides.same_inside, Left.within_next, Left.remaining_next, Left.first_left, Left.none_left, SchemaLaws.laws_from}
use Rattle.dspec_buffer.proofs.records.RecordsIterator.next.Goals as goal

pub same-self : goal.same-self
same-self g c =
    same_inside c.self.inside.schema c.self.inside.text c.self.inside.place _ c.self.inside.within _ c.self.inside.readable

pub returns-in_err-found-clause-steps : goal.returns-in_err-found-clause-steps
returns-in_err-found-clause-steps g c =
    let s = c.self.inside.schema.now in
    let laws = laws_from (g.met.S.Schema.zero_has_none s) (g.met.S.Schema.shapes_fit s) (g.met.S.Schema.texts_fit s) (g.met.S.Schema.texts_differ s) in
    let none : c.args.self.now ≡ [] = sym c.self.view_is ∙ none_left _ _ _ laws c.self.inside.text.now c.self.inside.place c.self.inside.readable c.in_err-found.ensures in
    rw c.from_residual.ensures (none, none)

pub invariant_of-self-inside : goal.invariant_of-self-inside
invariant_of-self-inside g c =
    let s = c.self.inside.schema.now in
    let laws = laws_from (g.met.S.Schema.zero_has_none s) (g.met.S.Schema.shapes_fit s) (g.met.S.Schema.texts_fit s) (g.met.S.Schema.texts_differ s) in (
      within_next _ _ _ laws c.self.inside.text.now c.self.inside.place c.in_ok-found.found c.self.inside.readable c.in_ok-found.ensures,
      (
        remaining_next _ _ _ laws c.self.inside.text.now c.self.inside.place c.in_ok-found.found c.self.inside.readable c.in_ok-found.ensures,
        tt,
      ),
    )

pub returns-clause-steps : goal.returns-clause-steps
returns-clause-steps g c =
    let s = c.self.inside.schema.now in
    let laws = laws_from (g.met.S.Schema.zero_has_none s) (g.met.S.Schema.shapes_fit s) (g.met.S.Schema.texts_fit s) (g.met.S.Schema.texts_differ s) in
    sym c.self.view_is ∙ first_left _ _ _ laws c.self.inside.text.now c.self.inside.place c.in_ok-found.found c.self.inside.readable c.self-1.given.1.0 c.in_ok-found.ensures

pub returns-clause-goes : goal.returns-clause-goes
returns-clause-goes g c = let shorter = ap length (returns-clause-steps g c) in search rules

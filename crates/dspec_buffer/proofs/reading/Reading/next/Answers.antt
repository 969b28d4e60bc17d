use Rattle.std.proofs.Common.{Ok, Err, [], ◌∷◌, ◌++◌, ◌≡◌, ◌<◌, ◌≤◌, length, take, refl, subst, ap}
use Rattle.std.proofs.lemmas.Result.{err_from_is_err_and}
use Rattle.dspec_buffer.specs.Words.{Progress, Advances, ReadsNext}
use Rattle.dspec_buffer.proofs.{SchemaLaws.laws_from, Taken.one_given, Taken.given_before, Taken.given_are, Taken.goes_further}
use Rattle.dspec_buffer.proofs.reading.Reading.next.Goals as goal

pub returns-in_err-found : goal.returns-in_err-found
returns-in_err-found g c =
    let s = c.self.inside.schema.now in
    let laws = laws_from (g.met.S.Schema.zero_has_none s) (g.met.S.Schema.shapes_fit s) (g.met.S.Schema.texts_fit s) (g.met.S.Schema.texts_differ s) in
    let p = err_from_is_err_and c.from_residual.result c.from_residual.ensures.1 in
    rw (p.1, p.2)
    (subst (λ v. Advances (g.S.Schema.shape_of v.schema) (g.S.Schema.accepted v.schema) (g.S.Schema.text v.schema) v (Err c.in_err-found.field-0.0) v) c.self.view_is (
      refl,
      given_before _ _ _ laws c.self.inside.text.now c.self.inside.place c.in_err-found.field-0.0 c.self.inside.given.0 c.self.inside.within c.self.inside.given.1 c.in_err-found.ensures,
    ))

pub invariant_of-self-inside : goal.invariant_of-self-inside
invariant_of-self-inside g c =
    let s = c.self.inside.schema.now in
    let laws = laws_from (g.met.S.Schema.zero_has_none s) (g.met.S.Schema.shapes_fit s) (g.met.S.Schema.texts_fit s) (g.met.S.Schema.texts_differ s) in
    let next = subst (λ o. ReadsNext (g.S.Schema.shape_of s) (g.S.Schema.accepted s) (g.S.Schema.text s) c.self.inside.text.now c.self.inside.place (Ok o)) c.in-Some.is c.in_ok-found.ensures in
    let rs = c.self.inside.given.0 ++ c.in-Some.found.0 ∷ [] in (
      next.within,
      (
        (
          rs,
          one_given _ _ _ laws c.self.inside.text.now c.self.inside.place c.in-Some.found.0 c.in-Some.found.1 c.self.inside.given.0 c.self.inside.within c.self.inside.given.1 next,
        ),
        tt,
      ),
    )

pub returns : goal.returns
returns g c =
    let s = c.self.inside.schema.now in
    let laws = laws_from (g.met.S.Schema.zero_has_none s) (g.met.S.Schema.shapes_fit s) (g.met.S.Schema.texts_fit s) (g.met.S.Schema.texts_differ s) in
    let next = subst (λ o. ReadsNext (g.S.Schema.shape_of s) (g.S.Schema.accepted s) (g.S.Schema.text s) c.self.inside.text.now c.self.inside.place (Ok o)) c.in-Some.is c.in_ok-found.ensures in
    let more = one_given _ _ _ laws c.self.inside.text.now c.self.inside.place c.in-Some.found.0 c.in-Some.found.1 c.self.inside.given.0 c.self.inside.within c.self.inside.given.1 next in
    let given = given_are _ _ _ laws (take c.in-Some.found.1 c.self.inside.text.now) (c.self.inside.given.0 ++ c.in-Some.found.0 ∷ []) c.self-1.given.1.0 more in
    let Now : _ → Progress _ = λ rs. record { schema = s; text = c.self.inside.text.now; place = c.in-Some.found.1; read = rs } in
    subst (λ v. (Now c.self-1.given.1.0.0 ≡ record v { place = c.in-Some.found.1; read = v.read ++ c.in-Some.found.0 ∷ [] }) × (v.place < c.in-Some.found.1) ×
    (c.in-Some.found.1 ≤ length v.text)) c.self.view_is (
      ap Now given,
      goes_further _ _ _ laws c.self.inside.text.now c.self.inside.place c.in-Some.found.0 c.in-Some.found.1 next,
      next.within,
    )

use Rattle.std.proofs.Common.{refl}
use Rattle.dspec_ctf_reading.specs.Words.{names_by, named_values}
use Rattle.dspec_ctf_reading.proofs.Named.{values-of, stamped-values, plain-values, event-called, fields-called}
use Rattle.dspec_ctf_reading.proofs.laws.event_is_its_record.Goals as goal

pub returns-clause-timed : goal.returns-clause-timed
returns-clause-timed c = λ e names frequency r. (refl, refl, values-of ((names_by names).field r.epid) 0 r.values)

pub returns-clause-taken : goal.returns-clause-taken
returns-clause-taken c = λ e names r.
    let vs = named_values ((names_by names).field r.epid) r.values in
    let of_vs = values-of ((names_by names).field r.epid) 0 r.values in
    (refl, refl, λ one. plain-values e.header r.stamp vs r.values of_vs one, λ two. stamped-values e.header r.stamp vs r.values of_vs two)

pub returns-clause-named : goal.returns-clause-named
returns-clause-named c = λ e names frequency r n is. (event-called names r.epid n is, fields-called names r.epid n r.values is)

use Rattle.std.proofs.Common.{Option, sym, ap, ◌∙◌, subst}
use Rattle.std.specs.{Arc.arc_value, Prelude.IsSome, Prelude.is_some}
use Rattle.dspec_c.specs.Words.{Shared, words_of, Consuming, IsConsumerOf, IsSameConsumer, TheirStay, Theirs, AreHomeOf, IsSameTheirs}
use Rattle.dspec_c.proofs.{ConsumerHomes.goes_out, ConsumerHomes.leaves_from, ConsumerHomes.same_there, Homes.is_unused, Homes.left_so, Homes.not_waiting}
use Rattle.dspec_c.proofs.consumer_place.ConsumerPlace.hand_out.Goals as goal

pub unwrap-consumer-requires : goal.unwrap-consumer-requires
unwrap-consumer-requires c = subst (λ (o : Option Consuming). IsSome o) (sym c.take-2.ensures.value)
    (is_unused IsSameTheirs AreHomeOf _ _ c.in-Some.way _ c.self.invariant (sym c.take.ensures.value ∙ c.in-Some.is)).is

pub of-requires : goal.of-requires
of-requires c =
    let first = ap (λ (s : TheirStay). s.first) (sym c.self.view_is) ∙ c.self.invariant.1 in
    subst (λ (m : Shared). IsConsumerOf (words_of m) c.unwrap-consumer.result) (sym (c.requires c.self.invariant.0 first))
    (same_there c.self.invariant.0 _ _ c.unwrap-consumer.result c.self.invariant.2 (sym c.take-2.ensures.value ∙ c.unwrap-consumer.ensures)).1

pub of-requires-2-clause-out : goal.of-requires-2-clause-out
of-requires-2-clause-out c =
    let first = ap (λ (s : TheirStay). s.first) (sym c.self.view_is) ∙ c.self.invariant.1 in
    let used = is_unused IsSameTheirs AreHomeOf _ _ c.in-Some.way _ c.self.invariant (sym c.take.ensures.value ∙ c.in-Some.is) in
    goes_out _ c.self.invariant.0 _ used.went (ap (λ (t : Theirs). t.shared) c.of.ensures ∙ c.requires c.self.invariant.0 first)
    (subst (λ (t : Theirs). IsSameConsumer c.self.invariant.0.consumer t.consumer) (sym c.of.ensures)
    (same_there c.self.invariant.0 _ _ c.unwrap-consumer.result c.self.invariant.2 (sym c.take-2.ensures.value ∙ c.unwrap-consumer.ensures)).0)

pub of-requires-2-clause-room : goal.of-requires-2-clause-room
of-requires-2-clause-room c = (is_unused IsSameTheirs AreHomeOf _ _ c.in-Some.way _ c.self.invariant (sym c.take.ensures.value ∙ c.in-Some.is)).room

pub invariant_of-self : goal.invariant_of-self
invariant_of-self c = not_waiting IsSameTheirs AreHomeOf _ c.self.inside.way c.take.new.self c.self.inside.back c.self.invariant c.take.ensures.after

pub invariant_of-self-2 : goal.invariant_of-self-2
invariant_of-self-2 c = left_so IsSameTheirs AreHomeOf _ c.self.inside.way c.take.new.self c.in-Some.way c.self.inside.back c.take-2.new.self c.self.invariant
    (sym c.take.ensures.value ∙ c.in-Some.is)
    c.take.ensures.after c.take-2.ensures.after

pub returns-clause-leave : goal.returns-clause-leave
returns-clause-leave c =
    leaves_from (arc_value c.args.shared) _ _ _ _ _ _ c.self.invariant.0 c.of-2.result c.unwrap-consumer.result c.self.view_is c.self.invariant.1 c.self.invariant.2
    (sym c.take-2.ensures.value ∙ c.unwrap-consumer.ensures)
    (ap (λ o. is_some o) (sym c.take.ensures.value ∙ c.in-Some.is)) c.take-2.ensures.after (ap (λ o. is_some o) c.take.ensures.after) (c.of-2.ensures ∙ c.of.ensures)

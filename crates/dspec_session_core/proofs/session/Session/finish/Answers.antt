use Rattle.std.proofs.{Common.◌<◌, Common.◌≤◌, Common.◌∙◌, Common.length, Common.sym, Common.ap, Common.subst, lemmas.List.length-reverse}
use Rattle.dspec_buffer.proofs.SchemaLaws.{SchemaLaws}
use Rattle.dspec_deeds.proofs.SetUp.{most_cpus}
use Rattle.dspec_session_core.specs.Words.{set_up, words_of, CallsMade, view_of, called_at, entered_at, taken_at, worn_at}
use Rattle.dspec_session_core.proofs.{Ending.some_lists, Ending.begins_parting, Ending.finished, Ends.none_in, PromisedBy.there_is, PromisedBy.called_there, PromisedBy.entered_there}
use Rattle.dspec_session_core.proofs.{PromisedBy.same_worn, PromisedBy.had_tells, PromisedBy.page_alone, PromisedBy.promised_with}
use Rattle.dspec_session_core.proofs.session.Session.finish.Goals as goal

pub part_all-last-requires-clause-parting : goal.part_all-last-requires-clause-parting
part_all-last-requires-clause-parting g c =
    let s = c.requires.session in
    let consumer = c.consumer.inside in
    let lists = some_lists g.S.Schema.shape_of g.S.Schema.accepted g.S.Schema.text s.0 c.args.self s.1 c.all_stand.ensures in
    let none = none_in consumer.seats.items consumer.seats.len consumer.seats.ok.0 c.consumer.invariant.seats.0 in (
      s.0,
      lists.0,
      begins_parting g.S.Schema.shape_of g.S.Schema.accepted g.S.Schema.text s.0 c.args.self s.1 c.all_stand.ensures c.into_words.result consumer.seats.items record
          { seat = consumer.seat; ends = consumer.ends.items } consumer.config
          c.into_words.ensures none c.consumer.view_is c.consumer.invariant.all c.consumer.invariant.config lists.0 lists.1,
    )

pub returns-clause-closed : goal.returns-clause-closed
returns-clause-closed g c = λ schema is.
    let consumer = c.consumer.inside in
    let none = none_in consumer.seats.items consumer.seats.len consumer.seats.ok.0 c.consumer.invariant.seats.0 in
    let last = c.part_all-last in
    finished g.S.Schema.shape_of g.S.Schema.accepted g.S.Schema.text schema c.args.self is c.all_stand.ensures c.into_words.result consumer.seats.items record
    { seat = consumer.seat; ends = consumer.ends.items } consumer.config
    c.into_words.ensures none c.consumer.view_is c.consumer.invariant.all c.consumer.invariant.config _ last.result.1.items c.reverse.new.self.items last.ensures.ended
    (sym last.result.1.ok.0 ∙ (last.ensures.count ∙ c.args.self.cpus.ok.0)) last.ensures.left c.reverse.ensures.items

pub returns-clause-one_list : goal.returns-clause-one_list
returns-clause-one_list g c = λ schema is p had.
    let shape_of = g.S.Schema.shape_of in
    let accepted = g.S.Schema.accepted in
    let text = g.S.Schema.text in
    let k = set_up (words_of c.args.self.shared) in
    let cpus = c.args.self.cpus.items in
    let laws : SchemaLaws (shape_of schema) (accepted schema) (text schema) = record {
      zero_has_none = g.met.S.Schema.zero_has_none schema;
      shapes_fit = g.met.S.Schema.shapes_fit schema;
      texts_fit = g.met.S.Schema.texts_fit schema;
      texts_differ = g.met.S.Schema.texts_differ schema;
    } in
    let closed = returns-clause-closed g c schema is p had in (
      closed.0,
      closed.1,
      promised_with (shape_of schema) (accepted schema) (text schema) laws k (worn_at cpus) (taken_at c.args.self.consumer) (view_of c.args.self.consumer).own _ p closed.0 closed.1
          (entered_at cpus) (called_at cpus)
          (λ n lt.
          let (cpu, at) = there_is cpus n (subst (λ m. n < m) (sym is.all) lt) in
          (had n lt cpu at).own ∙ sym (entered_there cpus n cpu at))
          (λ n lt.
          let (cpu, at) = there_is cpus n (subst (λ m. n < m) (sym is.all) lt) in
          had_tells shape_of accepted text n cpu (p n) (is.each n cpu at).number (had n lt cpu at) ∙ sym (ap (λ (x : CallsMade). x.done) (called_there cpus n cpu at)))
          (λ n lt.
          let (cpu, at) = there_is cpus n (subst (λ m. n < m) (sym is.all) lt) in
          same_worn cpus n cpu at),
    )

pub returns-clause-promised : goal.returns-clause-promised
returns-clause-promised g c = λ schema is.
    let lists = some_lists g.S.Schema.shape_of g.S.Schema.accepted g.S.Schema.text schema c.args.self is c.all_stand.ensures in
    (returns-clause-one_list g c schema is lists.0 (λ n lt cpu at. lists.1 n cpu at)).2.0

pub returns-clause-keeps : goal.returns-clause-keeps
returns-clause-keeps g c = λ schema is.
    let s = c.args.self in
    page_alone (g.S.Schema.shape_of schema) (g.S.Schema.accepted schema) (g.S.Schema.text schema) (set_up (words_of s.shared)) (entered_at s.cpus.items)
    (view_of s.consumer).own (called_at s.cpus.items) (taken_at s.consumer) _ (returns-clause-promised g c schema is)

pub invariant_of-result : goal.invariant_of-result
invariant_of-result g c =
    let session = c.requires.session.1 in
    let last = c.part_all-last in
    let count = sym last.result.1.ok.0 ∙ (last.ensures.count ∙ c.args.self.cpus.ok.0) in
    let all = ap length c.reverse.ensures.items ∙ (length-reverse last.result.1.items ∙ (count ∙ session.all)) in
    (subst (λ n. n ≤ 64) (sym all) (most_cpus (set_up (words_of c.args.self.shared)) session.checked), tt)

use Rattle.std.proofs.Common.{◌≡◌, ◌<◌, ℕ, List, ap, sym, ◌∙◌, subst}
use Rattle.dspec.specs.Words.{EnabledRows, enabled, table_shape, table_accepts, table_text, set_up, words_of, ClosesAs, view_of, Has, IsPromisedBy, called_at, entered_at, HasAt, taken_at, worn_at}
use Rattle.dspec.specs.Words.{ThenServed, Config, Deed, Shared, View}
use Rattle.dspec.proofs.{Returning.worked, Tracing.by_one_list, Tracing.fresh_none, Tracing.kept_alone}
use Rattle.dspec.proofs.running.trace.Goals as goal

pub run-requires-clause-count : goal.run-requires-clause-count
run-requires-clause-count g c = λ κs outlives. sym (ap (λ (v : View). v.config.cpus) c.in_ok-session.ensures.consumer.0)

pub returns-clause-one_list : goal.returns-clause-one_list
returns-clause-one_list g c =
    let started = c.in_ok-session.ensures in
    let s = c.in_ok-session.session in
    let back = c.run.new.session in
    let schema = c.args.schema in
    let shape : EnabledRows → _ = λ e. table_shape e.header (enabled e.rows) in
    let accepts : EnabledRows → _ = λ e. table_accepts e.header (enabled e.rows) in
    let text : EnabledRows → _ = λ e. table_text e.header (enabled e.rows) in
    let same = ap (λ (w : Shared). set_up (words_of w)) c.run.ensures.words ∙ started.config in
    let does = λ (x : EnabledRows). ThenServed (g.W.Work.does x c.args.work.now) in
    let lent = c.run.ensures.lent in
    by_one_list shape accepts text (g.K.Sink.gets schema) schema (words_of s.shared) s.consumer back.consumer c.args.sink.now c.run.new.sink c.pass_rests.new.sink
    c.finish-closed.result started.consumer.1 c.run.ensures.passes c.pass_rests.ensures (does schema) c.args.config.now back.cpus.items
    (ap (λ (v : View). v.config) started.consumer.0) (c.finish-closed.ensures.all ∙ ap (λ (k : Config). k.cpus) same)
    (lent.all ∙ ap (λ (k : Config). k.cpus) same) (ap (λ (v : View). v.own) started.consumer.0) (λ n cpu at. (lent.each n cpu at).number)
    (worked (Has shape accepts text) (fresh_none shape accepts text) does schema s back started.session started.fresh c.run.ensures.returned)
    (worn_at back.cpus.items) c.all_stand.ensures
    (subst (λ (k : Config). (p : ℕ → List Deed) → ((n : ℕ) → n < k.cpus → HasAt (Has shape accepts text) back.cpus.items n (p n))
    → (h : List Deed) × ClosesAs (shape schema) (accepts schema) (text schema) k (worn_at back.cpus.items) (taken_at back.consumer) (view_of back.consumer).own c.finish-closed.result p h
    × ((promised : IsPromisedBy (shape schema) (accepts schema) (text schema) k (entered_at back.cpus.items) (view_of back.consumer).own (called_at back.cpus.items)
    (taken_at back.consumer) c.finish-closed.result) × (promised.deeds ≡ h))) same
    (c.finish-closed.ensures.one_list schema lent))

pub returns-clause-traced : goal.returns-clause-traced
returns-clause-traced g c = (returns-clause-one_list g c).0

pub returns-clause-listed : goal.returns-clause-listed
returns-clause-listed g c = (returns-clause-one_list g c).1

pub returns-clause-keeps : goal.returns-clause-keeps
returns-clause-keeps g c =
    let schema = c.args.schema in
    kept_alone (g.K.Sink.gets schema) _ (table_shape schema.header (enabled schema.rows)) (table_accepts schema.header (enabled schema.rows))
    (table_text schema.header (enabled schema.rows)) c.args.config.now c.args.sink.now c.finish-closed.result c.pass_rests.new.sink (returns-clause-traced g c)

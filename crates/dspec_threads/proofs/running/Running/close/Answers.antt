use Rattle.std.proofs.Common.{◌≡◌, ◌<◌, ℕ, zero, suc, List, [], ◌∷◌, map, slice_get, Some, sym, ap, ◌∙◌, subst}
use Rattle.std.specs.Arc.{arc_value}
use Rattle.dspec_threads.specs.Words.{EnabledRows, enabled, table_shape, table_accepts, table_text, set_up, words_of, ClosesAs, view_of, Has, IsPromisedBy, called_at, entered_at, HasAt, IsSession}
use Rattle.dspec_threads.specs.Words.{taken_at, worn_at, IsOneList, AllIn, ByThoseHome, called_home, who_is_in, all_whereabouts, called, Cpu, RunningSession, Config, Deed, View, Shared, Session}
use Rattle.dspec.proofs.Tracing.{by_one_list, kept_alone}
use Rattle.dspec_threads.proofs.Runs.{less_done, session_again, stands}
use Rattle.dspec_threads.proofs.running.Running.close.Goals as goal

pub cpus_of-cpus-requires-clause-inside : goal.cpus_of-cpus-requires-clause-inside
cpus_of-cpus-requires-clause-inside g c = subst (λ (r : RunningSession g.row.K.Denot). AllIn r.home) (sym c.self.view_is) c.requires

pub finish-closed-requires : goal.finish-closed-requires
finish-closed-requires g c =
    let s = c.self.inside in
    record {
      session = (
        s.schema,
        session_again (g.K.Sink.gets s.schema) g.D.Duty.done (arc_value s.common.shared) s.schema _ _
            (record { shared = c.in-Ok.shared; cpus = c.cpus_of-cpus.result; consumer = s.consumer }) _ _ c.self.invariant.0 c.cpus_of-cpus.ensures c.in-Ok.ensures.ok,
      );
    }

-- what the calls did of a CPU that is at home
home_at : (cpus : List (Cpu EnabledRows)) (n : ℕ) (cpu : Cpu EnabledRows) → slice_get cpus n ≡ Some cpu → called cpu ≡ called_home (map Some cpus) n
home_at [] n cpu at = absurd (cc (at))
home_at (x ∷ xs) zero cpu at = let same : cpu ≡ x = cc (at) in ap (λ (y : Cpu EnabledRows). called y) same
home_at (x ∷ xs) (suc n) cpu at = home_at xs n cpu at

pub returns-clause-home : goal.returns-clause-home
returns-clause-home g c =
    let s = c.self.inside in
    let run = c.self.invariant.0 in
    let schema = s.schema in
    let back = c.cpus_of-cpus.result.items in
    let shape : EnabledRows → _ = λ e. table_shape e.header (enabled e.rows) in
    let accepts : EnabledRows → _ = λ e. table_accepts e.header (enabled e.rows) in
    let text : EnabledRows → _ = λ e. table_text e.header (enabled e.rows) in
    let gets = g.K.Sink.gets schema in
    let done = g.D.Duty.done in
    let places = all_whereabouts s.places.items in
    let does = ByThoseHome done (who_is_in places) in
    let session : Session EnabledRows = record { shared = c.in-Ok.shared; cpus = c.cpus_of-cpus.result; consumer = s.consumer } in
    let is : IsSession schema session = session_again gets done (arc_value s.common.shared) schema _ _ session _ _ run c.cpus_of-cpus.ensures c.in-Ok.ensures.ok in
    let stand = stands gets done (arc_value s.common.shared) schema _ _ back _ _ _ run c.cpus_of-cpus.ensures in
    let same : set_up (words_of c.in-Ok.shared) ≡ set_up (words_of (arc_value s.common.shared)) = ap (λ (w : Shared). set_up (words_of w)) c.in-Ok.ensures.ok in
    let here = by_one_list shape accepts text gets schema (words_of (arc_value s.common.shared)) run.first s.consumer s.began.value s.sink c.pass_rests.new.sink
    c.finish-closed.result run.unused run.passes c.pass_rests.ensures does (set_up (words_of (arc_value s.common.shared))) back
    (ap (λ (v : View). v.config) run.first_view) (c.finish-closed.ensures.all ∙ ap (λ (k : Config). k.cpus) same)
    (is.all ∙ ap (λ (k : Config). k.cpus) same) (ap (λ (v : View). v.own) run.first_view) (λ n cpu at. (stand n cpu at).0.number)
    (λ n cpu at. ((stand n cpu at).1, subst (λ os. called cpu ≡ called_home os n) (sym c.cpus_of-cpus.ensures) (home_at back n cpu at)))
    (worn_at back) c.tell_all.ensures
    (subst (λ (k : Config). (p : ℕ → List Deed) → ((n : ℕ) → n < k.cpus → HasAt (Has shape accepts text) back n (p n))
    → (h : List Deed) × ClosesAs (shape schema) (accepts schema) (text schema) k (worn_at back) (taken_at s.consumer) (view_of s.consumer).own c.finish-closed.result p h
    × ((promised : IsPromisedBy (shape schema) (accepts schema) (text schema) k (entered_at back) (view_of s.consumer).own (called_at back)
    (taken_at s.consumer) c.finish-closed.result) × (promised.deeds ≡ h))) same
    (c.finish-closed.ensures.one_list schema is)) in
    subst (λ (r : RunningSession g.row.K.Denot). IsOneList (g.K.Sink.gets r.schema) (ByThoseHome done r.home) (shape r.schema) (accepts r.schema) (text r.schema) r.config r.began
    c.finish-closed.result c.pass_rests.new.sink) c.self.view_is here

pub returns-clause-one_list : goal.returns-clause-one_list
returns-clause-one_list g c = less_done _ _ _ _ _ _ _ _ _ _ (λ n x y p. p.0) (returns-clause-home g c)

pub returns-clause-traced : goal.returns-clause-traced
returns-clause-traced g c = (returns-clause-one_list g c).0

pub returns-clause-keeps : goal.returns-clause-keeps
returns-clause-keeps g c = kept_alone _ _ _ _ _ _ _ _ _ (returns-clause-traced g c)

-- The close of a session with no call in flight.
use Rattle.std.proofs.{Common.◌≡◌, Common.ℕ, Common.true, Common.IfOk, Common.sym, Common.subst, lemmas.Result.IfOk-weaker}
use Rattle.std.specs.Prelude.{reverse}
use Rattle.dspec_core.specs.Words.{Actor, is_actor, is_idle, reports, streams, closing, PlayState, progress_of, Headline, IsLegal, history, state_of, WorldView}
use Rattle.dspec_deeds.proofs.Headlines.{headline}
use Rattle.dspec_interleaving.proofs.SessionCloses.{closes_legally, idle_closes, told_in_order}
use Rattle.dspec_core.proofs.world.World.finish.Goals as goal

pub finish-requires : goal.finish-requires
finish-requires g c =
    let m = c.self.inside.machine in
    let same : state_of m ≡ c.args.self.state = λ i. (c.self.view_is i).state in
    let can_close = idle_closes (g.S.Schema.shape_of m.schema) (state_of m) c.self.invariant.coherent
    (subst (λ (st : PlayState). (a : Actor) → is_actor st.config a ≡ true → is_idle a st ≡ true) (sym same) c.requires.idle) in
    record { closable = record { shown = c.self.invariant.shown; fine = c.self.invariant.coherent.ranges; can_close = can_close } }

pub returns : goal.returns
returns g c =
    let m = c.self.inside.machine in
    let shape = g.S.Schema.shape_of m.schema in
    let last = closing shape m.config (history m) in
    let same : state_of m ≡ c.args.self.state = λ i. (c.self.view_is i).state in
    let told = c.finish.ensures.deeds in
    let legal = closes_legally shape (state_of m) c.self.invariant.coherent (subst (λ (st : PlayState). (a : Actor) → is_actor st.config a ≡ true → is_idle a st ≡ true) (sym same) c.requires.idle) in
    record {
      deeds = subst (λ (w : WorldView g.row.S.Denot). IfOk c.finish.result (λ close. close.deeds ≡ reverse (closing (g.S.Schema.shape_of w.schema) w.state.config w.state.deeds))) c.self.view_is told;
      accepted = subst (λ (st : PlayState). IfOk c.finish.result (λ close. close.accepted ≡ streams st.config (reverse close.deeds))) same
          (told_in_order (λ ds close. close.accepted ≡ streams m.config ds) last c.finish.result told c.finish.ensures.accepted);
      reports = subst (λ (st : PlayState). IfOk c.finish.result (λ close. close.reports ≡ reports st.config (λ a. (progress_of st.progresses a).worn) (reverse close.deeds))) same
          (told_in_order (λ ds close. close.reports ≡ reports m.config (λ a. (progress_of (state_of m).progresses a).worn) ds) last c.finish.result told c.finish.ensures.reports);
      legal = subst (λ (w : WorldView g.row.S.Denot). IfOk c.finish.result (λ close. IsLegal (g.S.Schema.shape_of w.schema) w.state.config (reverse close.deeds))) c.self.view_is
          (told_in_order (λ ds close. IsLegal shape m.config ds) last c.finish.result told (IfOk-weaker c.finish.result (λ close. close.deeds ≡ reverse last) _ (λ close e. legal) told));
      headline = subst (λ (st : PlayState). IfOk c.finish.result (λ close. (a : ℕ) → Headline st.config a (reverse close.deeds))) same
          (told_in_order (λ ds close. (a : ℕ) → Headline m.config a ds) last c.finish.result told
          (IfOk-weaker c.finish.result (λ close. close.deeds ≡ reverse last) _ (λ close e a. headline shape m.config a last legal.0) told));
    }

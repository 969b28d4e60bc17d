use Rattle.std.proofs.Common.{◌≡◌, ◌+◌, ◌==◌, ◌≤◌, ◌∙◌, ℕ, Bool, if◌then◌else◌, true, false, [], ◌∷◌, arith, refl, sym, ap, subst}
use Rattle.dspec_cpu.specs.Words.{fits_speculative, mark, known, Goes, Stands, Reached, words_of, CallLeaves, of_slot, TakesTurn, IsOn, Speculate, Config, Doing, Counts}
use Rattle.dspec_deeds.specs.declared.deed.SpeculateFate.TheVariants as spoken
use Rattle.dspec_cpu.specs.declared.reaching.Reach.TheVariants as reach
use Rattle.dspec_cpu.specs.declared.reaching.SlotTurn.TheVariants as turn
use Rattle.dspec_cpu.proofs.{Decided.reached_as, DeedsAfter.DeedsAfter, DeedsAfter.deeds_after, DeedsAfter.one_after, Leaves.reached_leaves, Limits.limits, ReachDeeds.unstopped, Reaches.slot_inside}
use Rattle.dspec_cpu.proofs.{Reaches.is_running, Ready.roomy, Ready.few, Shown.shows, Speculates.asked, Speculates.grants, Speculates.grant_deeds, Speculates.caller_of, Speculates.own_fits}
use Rattle.dspec_cpu.proofs.{Speculates.own_mark, Speculates.granted_shown, parts.CpuParts.offer.Given.Over, parts.CpuParts.offer.Goals.After-grant-kept}
use Rattle.dspec_deeds.proofs.TestLemmas.{number_is_itself}
use Rattle.dspec_cpu.proofs.parts.CpuParts.offer.Goals as goal

pub go_on-reached-requires-clause-on : goal.go_on-reached-requires-clause-on
go_on-reached-requires-clause-on g c = subst (λ (d : Doing). IsOn c.args.id d.op) (sym c.requires.doing) refl

pub go_on-reached-requires-clause-turn : goal.go_on-reached-requires-clause-turn
go_on-reached-requires-clause-turn g c = subst (λ (d : Doing). TakesTurn turn.Speculate c.args.id c.args.mine d) (sym c.requires.doing) (λ w. refl)

pub go_on-reached-requires-clause-mine : goal.go_on-reached-requires-clause-mine
go_on-reached-requires-clause-mine g c = λ within.
    let cpu = c.args.self.now in
    let ready = c.requires.ready in
    ap (λ (d : Doing). d.mine) c.requires.doing
    ∙ (c.requires.mine within ready.steady.list ready.steady.listed.shown
    ∙ (ap (λ m. m == c.args.id.issue + 1) (own_mark cpu.cpu c.args.id.slot (known cpu.seat).own ready.steady.list cpu.config ready.steady.listed.own)
    ∙ ap (λ n. mark n c.args.id.slot (known cpu.seat).own == c.args.id.issue + 1) (sym ready.steady.seat)))

pub speculate_nowhere-requires : goal.speculate_nowhere-requires
speculate_nowhere-requires g c =
    let most = (limits c.args.self.now.config c.requires.ready.steady.checked).calls in
    let lt = c.requires.calls in
    record { nowhere = refl; calls = omega arith; counts = roomy _ _ _ (words_of c.args.shared.now) c.args.self.now c.requires.ready c.requires.calls }

pub speculate_nowhere-requires-in-Void : goal.speculate_nowhere-requires-in-Void
speculate_nowhere-requires-in-Void g c =
    let most = (limits c.args.self.now.config c.requires.ready.steady.checked).calls in
    let lt = c.requires.calls in
    record { nowhere = refl; calls = omega arith; counts = roomy _ _ _ (words_of c.args.shared.now) c.args.self.now c.requires.ready c.requires.calls }

pub grant-kept-requires-clause-slot : goal.grant-kept-requires-clause-slot
grant-kept-requires-clause-slot g c =
    let cpu = c.args.self.now in
    let ready = c.requires.ready in
    let w = known c.go_on-reached.new.seat in
    let got = subst (λ (x : Config × ℕ × Doing). Reached x.0 x.1 x.2 c.args.id (known cpu.seat) c.go_on-reached.result w)
    (λ i. (ready.config i, ready.steady.seat i, c.requires.doing i)) c.go_on-reached.ensures.reached in
    let slot = slot_inside cpu.config c.args.id (got.present (grants c.go_on-reached.result c.in-Granted.is)).1 in
    let side = ready.steady.listed.shown.side in
    (slot.0, within slot.1 (sym side.buffer_count), within slot.1 (sym side.mark_count), within slot.1 (sym side.specdrop_count))
  where
    within : {i n m : ℕ} → i ≤ n → n ≡ m → i ≤ m
    within {i} le is = subst (λ x. i ≤ x) is le

pub grant-kept-requires-clause-calls : goal.grant-kept-requires-clause-calls
grant-kept-requires-clause-calls g c =
    let most = (limits c.args.self.now.config c.requires.ready.steady.checked).calls in
    let lt = c.requires.calls in
    omega arith

pub grant-kept-requires-clause-counts : goal.grant-kept-requires-clause-counts
grant-kept-requires-clause-counts g c = roomy _ _ _ (words_of c.args.shared.now) c.args.self.now c.requires.ready c.requires.calls

-- exits

pub returns-in-Stopped : goal.returns-in-Stopped
returns-in-Stopped g c =
    let cpu = c.args.self.now in
    let ready = c.requires.ready in
    let id = c.args.id in
    let r = g.R.Recorded.as_record c.args.rec in
    let seat = c.go_on-reached.new.seat in
    let side = c.speculate_nowhere in
    let got = reached_as _ _ _ (words_of c.args.shared.now) cpu ready c.requires.doing c.in-Stopped.ensures.reached in
    let ended = one_after _ _ _ (words_of c.args.shared.now) cpu ready seat c.go_on-reached.ensures.seat side.new.self (Speculate cpu.cpu id r spoken.Stopped) got.goes got.stands refl
    (number_is_itself cpu.cpu) ready.steady.idle refl (λ p had was. (tt, side.ensures.shows cpu.schema cpu.config cpu.cpu p id r was)) in
    record {
      ready = ended.ready;
      same = record { schema = refl; config = refl; number = refl; pair = refl };
      leaves = reached_leaves cpu c.requires.calls seat side.new.self _ side.ensures.rest refl refl reach.Stopped 4 got refl refl;
      did = ended.did;
      list = ended.list;
    }

pub returns-in-Void : goal.returns-in-Void
returns-in-Void g c =
    let cpu = c.args.self.now in
    let ready = c.requires.ready in
    let id = c.args.id in
    let r = g.R.Recorded.as_record c.args.rec in
    let seat = c.go_on-reached.new.seat in
    let side = c.speculate_nowhere-in-Void in
    let got = reached_as _ _ _ (words_of c.args.shared.now) cpu ready c.requires.doing c.in-Void.ensures.reached in
    let ended = one_after _ _ _ (words_of c.args.shared.now) cpu ready seat c.go_on-reached.ensures.seat side.new.self (Speculate cpu.cpu id r spoken.Void) got.goes got.stands refl
    (number_is_itself cpu.cpu) ready.steady.idle refl (λ p had was. (tt, side.ensures.shows cpu.schema cpu.config cpu.cpu p id r was)) in
    record {
      ready = ended.ready;
      same = record { schema = refl; config = refl; number = refl; pair = refl };
      leaves = reached_leaves cpu c.requires.calls seat side.new.self _ side.ensures.rest refl refl reach.Void 4 got refl refl;
      did = ended.did;
      list = ended.list;
    }

-- the record was granted, and kept or dropped
granted : (g : Over) (c : After-grant-kept g) (b : Bool) → c.grant-kept.result ≡ b
    → (DeedsAfter (g.S.Schema.shape_of c.args.self.now.schema) (g.S.Schema.accepted c.args.self.now.schema) (g.S.Schema.text c.args.self.now.schema) (words_of c.args.shared.now) c.args.self.now
    (Speculate c.args.self.now.cpu c.args.id (g.R.Recorded.as_record c.args.rec) (if b then spoken.Kept else spoken.Dropped) ∷ [])
    (record c.args.self.now { seat = c.go_on-reached.new.seat; side = c.grant-kept.new.self }))
    × CallLeaves false false 4 (of_slot c.args.self.now.config c.args.id) c.args.self.now (record c.args.self.now { seat = c.go_on-reached.new.seat; side = c.grant-kept.new.self })
granted g c b is =
    let words = words_of c.args.shared.now in
    let cpu = c.args.self.now in
    let ready = c.requires.ready in
    let id = c.args.id in
    let r = g.R.Recorded.as_record c.args.rec in
    let shape = g.S.Schema.shape_of cpu.schema in
    let fit = fits_speculative shape cpu.config cpu.cpu id r (known cpu.seat).own in
    let mine = c.args.mine in
    let seat = c.go_on-reached.new.seat in
    let reached = c.go_on-reached.result in
    let side = c.grant-kept in
    let got = reached_as _ _ _ words cpu ready c.requires.doing c.go_on-reached.ensures.reached in
    let present = got.present (grants reached c.in-Granted.is) in
    let inside = c.requires.inside ∙ present.1 in
    let caller = caller_of cpu.config cpu.cpu id (known cpu.seat).own mine (few _ _ _ words cpu ready) present.0 in
    let caller_now = caller ready.steady.list ready.steady.listed.own (c.requires.mine inside ready.steady.list ready.steady.listed.shown) in
    let fit_is : fit ≡ b = sym (own_fits shape cpu.config cpu.cpu id r (known cpu.seat).own ready.steady.list ready.steady.listed.own)
    ∙ (sym (side.ensures.answer cpu.config cpu.cpu ready.steady.list (shows _ _ _ cpu.side ready.steady.list ready.steady.listed.shown) caller_now) ∙ is) in
    let deeds = grant_deeds cpu.cpu (asked id r fit mine) id r reached b c.in-Granted.is fit_is in (
      deeds_after _ _ _ words cpu ready seat c.go_on-reached.ensures.seat side.new.self (Speculate cpu.cpu id r (if b then spoken.Kept else spoken.Dropped) ∷ [])
          (subst (λ ds. Goes (known cpu.seat) ds (known seat)) deeds got.goes) (subst (λ ds. Stands cpu.config cpu.cpu (known cpu.seat) ds (known seat)) deeds got.stands)
          (λ p. refl) ready.steady.idle refl (λ p had.
          let caller_then = caller p had.own (c.requires.mine inside p had.shown) in
          let shown = shows _ _ _ cpu.side p had.shown in
          granted_shown _ _ _ cpu.side p had.shown id r side.result b is (side.ensures.answer cpu.config cpu.cpu p shown caller_then) side.new.self
          (side.ensures.shows cpu.config cpu.cpu p shown caller_then)),
      subst (λ e. CallLeaves false e 4 (of_slot cpu.config id) cpu (record cpu { seat = seat; side = side.new.self })) (unstopped reached (is_running reached (grants reached c.in-Granted.is)))
          (reached_leaves cpu c.requires.calls seat side.new.self _ side.ensures.rest refl (ap (λ (x : Counts). x.worn) side.ensures.counts) reached 4 got refl refl),
    )

pub returns-then-not-kept : goal.returns-then-not-kept
returns-then-not-kept g c =
    let ended = granted g c.before false c.if-not-kept.true in
    record { ready = ended.0.ready; same = record { schema = refl; config = refl; number = refl; pair = refl }; leaves = ended.1; did = ended.0.did; list = ended.0.list }

pub returns-else-not-kept : goal.returns-else-not-kept
returns-else-not-kept g c =
    let ended = granted g c.before true c.if-not-kept.false in
    record { ready = ended.0.ready; same = record { schema = refl; config = refl; number = refl; pair = refl }; leaves = ended.1; did = ended.0.did; list = ended.0.list }

use Rattle.std.proofs.Common.{◌≡◌, ◌∙◌, Bool, true, false, not, [], ◌∷◌, if◌then◌else◌, arith, refl, sym, ap, subst}
use Rattle.dspec_deeds.specs.declared.deed.TraceFate.TheVariants as traced
use Rattle.dspec_cpu.specs.Words.{Trace, Stored, HasPieces, LoadedActivity, known, ShowsList, CallLeaves, of_activity, rests, words_of, worn_of, Counts}
use Rattle.dspec_deeds.proofs.TestLemmas.{number_is_itself}
use Rattle.dspec_cpu.proofs.{DeedsAfter.DeedsAfter, DeedsAfter.one_after, Leaves.worn_leaves, Leaves.loaded_leaves, Limits.limits, Ready.roomy, Ready.few_drops, Ready.set_up_is, Ready.holder}
use Rattle.dspec_cpu.proofs.{Shown.shows, Traces.traces, Traces.trace_row, Traces.asked, parts.CpuParts.trace.Given.Over, parts.CpuParts.trace.Goals.After-trace}
use Rattle.dspec_cpu.proofs.parts.CpuParts.trace.Goals as goal

pub returns-then-self-clause-did : goal.returns-then-self-clause-did
returns-then-self-clause-did g c = rests

pub trace_stopped-requires : goal.trace_stopped-requires
trace_stopped-requires g c =
    let most = (limits c.args.self.now.config c.requires.ready.steady.checked).calls in
    let lt = c.if-self.false in
    record { calls = omega arith; counts = roomy _ _ _ (words_of c.args.shared.now) c.args.self.now c.requires.ready c.if-self.false }

pub trace-requires : goal.trace-requires
trace-requires g c =
    let few = few_drops _ _ _ (words_of c.args.shared.now) c.args.self.now c.requires.ready c.if-self.false in
    let most = (limits c.args.self.now.config c.requires.ready.steady.checked).calls in
    let lt = c.if-self.false in
    let room = roomy _ _ _ (words_of c.args.shared.now) c.args.self.now c.requires.ready c.if-self.false in
    record { accepted = c.requires.accepted; laid = c.requires.laid; calls = omega arith; drops = omega arith; counts = room }

pub returns-then-self-clause-leaves : goal.returns-then-self-clause-leaves
returns-then-self-clause-leaves g c = worn_leaves c.args.self.now 1 c.wear.new.self c.if-self.true c.wear.ensures

pub returns-then-not-runs : goal.returns-then-not-runs
returns-then-not-runs g c =
    let words = words_of c.args.shared.now in
    let cpu = c.args.self.now in
    let ready = c.requires.ready in
    let r = g.R.Recorded.as_record c.args.rec in
    let fit = c.fits-fits.result in
    let seat = c.load_for-runs.new.seat in
    let side = c.trace_stopped in
    let step = subst (λ x. LoadedActivity (asked r fit) (known cpu.seat) (not x) (known seat)) c.if-not-runs.true
    c.load_for-runs.ensures.step in
    let did = traces cpu.config cpu.cpu (known cpu.seat) (known seat) r fit true traced.Stopped (set_up_is _ _ _ words cpu ready) (holder _ _ _ words cpu ready) step refl in
    let ended = one_after _ _ _ words cpu ready seat c.load_for-runs.ensures.seat side.new.self (Trace cpu.cpu r traced.Stopped) did.goes did.stands refl (number_is_itself cpu.cpu)
    ready.steady.idle refl (λ p had was. (tt, side.ensures.shows cpu.schema cpu.config cpu.cpu p r was)) in
    record {
      ready = ended.ready;
      same = record { schema = refl; config = refl; number = refl; pair = refl };
      leaves = loaded_leaves cpu c.if-self.false seat side.new.self _ side.ensures.rest refl refl (asked r fit) true step;
      did = ended.did;
      list = ended.list;
    }

-- the record was kept or dropped
ran : (g : Over) (c : After-trace g) (b : Bool) → c.trace.result ≡ b
    → (DeedsAfter (g.S.Schema.shape_of c.args.self.now.schema) (g.S.Schema.accepted c.args.self.now.schema) (g.S.Schema.text c.args.self.now.schema) (words_of c.args.shared.now) c.args.self.now
    (Trace c.args.self.now.cpu (g.R.Recorded.as_record c.args.rec) (if b then traced.Kept else traced.Dropped) ∷ [])
    (record c.args.self.now { seat = c.load_for-runs.new.seat; side = c.trace.new.self }))
    × CallLeaves false false 1 of_activity c.args.self.now (record c.args.self.now { seat = c.load_for-runs.new.seat; side = c.trace.new.self })
ran g c b is =
    let words = words_of c.args.shared.now in
    let cpu = c.args.self.now in
    let ready = c.requires.ready in
    let r = g.R.Recorded.as_record c.args.rec in
    let fit = c.fits-fits.result in
    let seat = c.load_for-runs.new.seat in
    let side = c.trace in
    let fit_is : fit ≡ b = c.fits-fits.ensures cpu.cpu ready.steady.list (shows _ _ _ cpu.side ready.steady.list ready.steady.listed.shown)
    ∙ (sym (side.ensures.answer cpu.config cpu.cpu ready.steady.list (shows _ _ _ cpu.side ready.steady.list ready.steady.listed.shown)
    (c.is_closed-closed.ensures cpu.cpu (worn_of cpu) ready.steady.list ready.steady.listed.shown.counted)) ∙ is) in
    let step = subst (λ x. LoadedActivity (asked r fit) (known cpu.seat) (not x) (known seat)) c.if-not-runs.false
    c.load_for-runs.ensures.step in
    let did = traces cpu.config cpu.cpu (known cpu.seat) (known seat) r fit false (if b then traced.Kept else traced.Dropped) (set_up_is _ _ _ words cpu ready) (holder _ _ _ words cpu ready) step
    (ap (λ x. if x then traced.Kept else traced.Dropped) fit_is) in (
      one_after _ _ _ words cpu ready seat c.load_for-runs.ensures.seat side.new.self (Trace cpu.cpu r (if b then traced.Kept else traced.Dropped)) did.goes did.stands refl
          (number_is_itself cpu.cpu) ready.steady.idle refl (λ p had was. (
            trace_row (g.S.Schema.shape_of cpu.schema) cpu.config cpu.cpu r p b (sym (sym (c.fits-fits.ensures cpu.cpu p was) ∙ fit_is)),
            subst (λ x. ShowsList (HasPieces (g.S.Schema.shape_of cpu.schema) (g.S.Schema.accepted cpu.schema) (g.S.Schema.text cpu.schema)) (λ (s : Stored). s.size) cpu.config cpu.cpu
                (Trace cpu.cpu r (if x then traced.Kept else traced.Dropped) ∷ p) side.new.self) is (side.ensures.shows cpu.config cpu.cpu p was),
          )),
      loaded_leaves cpu c.if-self.false seat side.new.self _ side.ensures.rest refl (ap (λ (x : Counts). x.worn) side.ensures.counts) (asked r fit) false step,
    )

pub returns-then-not-trace : goal.returns-then-not-trace
returns-then-not-trace g c =
    let ended = ran g c.before false c.if-not-trace.true in
    record { ready = ended.0.ready; same = record { schema = refl; config = refl; number = refl; pair = refl }; leaves = ended.1; did = ended.0.did; list = ended.0.list }

pub returns : goal.returns
returns g c =
    let kept = ran g c.before true c.if-not-trace.false in
    record { ready = kept.0.ready; same = record { schema = refl; config = refl; number = refl; pair = refl }; leaves = kept.1; did = kept.0.did; list = kept.0.list }

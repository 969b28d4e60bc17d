use Rattle.std.proofs.Common.{◌+◌, ℕ, [], refl, ap, subst}
use Rattle.dspec_cpu.specs.Words.{Config, known, rests, words_of, Scanned, opening_deeds, Counts}
use Rattle.dspec_cpu.proofs.{Decisions.worn_shown, DeedsAfter.deeds_after, Leaves.worn_leaves, Leaves.scanned_leaves, Limits.limits, Openings.bare_opening, Openings.opening_shown, Ready.roomy}
use Rattle.dspec_cpu.proofs.{Scans.idle_again, Scans.none_flies}
use Rattle.dspec_cpu.proofs.parts.CpuParts.speculation.Goals as goal

pub returns-then-self-clause-opens : goal.returns-then-self-clause-opens
returns-then-self-clause-opens g c = record
    { missed = []; answer = refl; did = rests; list = λ p had. record { own = had.own; shown = worn_shown _ _ _ c.args.self.now p had.shown _ c.wear.new.self c.wear.ensures } }

pub open-requires : goal.open-requires
open-requires g c = record { room = roomy _ _ _ (words_of c.args.shared.now) c.args.self.now c.requires.ready c.if-self.false }

pub returns-then-self-clause-leaves : goal.returns-then-self-clause-leaves
returns-then-self-clause-leaves g c = worn_leaves c.args.self.now _ c.wear.new.self c.if-self.true c.wear.ensures

pub returns : goal.returns
returns g c =
    let words = words_of c.args.shared.now in
    let cpu = c.args.self.now in
    let ready = c.requires.ready in
    let a = c.scan_slots-answer.result.0 in
    let busy = c.scan_slots-answer.result.1 in
    let seat = c.scan_slots-answer.new.seat in
    let side = record cpu.side { calls = cpu.side.calls + 1; missed_busy = busy; counts = c.open.new.self } in
    let got = subst (λ (x : Config × ℕ). Scanned x.0 x.1 (known cpu.seat) a busy (known seat)) (λ i. (ready.config i, ready.steady.seat i)) c.scan_slots-answer.ensures.scanned in
    let some = (limits cpu.config ready.steady.checked).specs.least in
    let ended = deeds_after _ _ _ words cpu ready seat c.scan_slots-answer.ensures.seat side (opening_deeds cpu.cpu got.missed a) got.goes got.stands
    (λ p. bare_opening cpu.cpu p got.missed a) (idle_again cpu.config cpu.cpu (known cpu.seat).own got.missed a some got.answer got.unworn)
    (none_flies cpu.config cpu.cpu (known cpu.seat).flight got.missed a some got.answer got.unworn)
    (λ p had. opening_shown _ _ _ cpu p had.shown seat got.missed a busy c.open.new.self some got.answer got.unworn got.any c.open.ensures) in
    record {
      ready = ended.ready;
      same = record { schema = refl; config = refl; number = refl; pair = refl };
      leaves = scanned_leaves cpu c.if-self.false seat side side refl refl (ap (λ (x : Counts). x.worn) c.open.ensures) a cpu.config.nspec c.scan_slots-answer.ensures.scanned
          (ap (λ (k : Config). k.nspec) ready.config);
      opens = record { missed = got.missed; answer = got.answer; did = ended.did; list = ended.list };
    }

use Rattle.std.proofs.Common.{◌≡◌, ◌∙◌, ◌∷◌, [], true, false, sym, ap}
use Rattle.dspec_cpu.specs.Words.{Opened, Miss, known, set_up, cpu_of, Speculation, open_at, nothing, shown, idle_progress}
use Rattle.dspec_cpu.specs.declared.scanning.Look.TheVariants as look
use Rattle.dspec_interleaving.proofs.StepDeeds.{missed_deeds}
use Rattle.dspec_cpu.proofs.Slots.{passes, passed, tried}
use Rattle.dspec_cpu.proofs.scanning.look_at.Goals as goal

pub returns-in_default : goal.returns-in_default
returns-in_default c =
    let k = set_up c.args.words.now in
    let seat = c.args.seat.now in
    let word = c.load_word-word.result in
    let w = known c.load_word-word.new.self in
    let step = c.load_word-word.ensures.step in
    let most = c.requires.most.0 in
    let void = passes word k.max_issues (λ to e. c.in_default.not-Attempt to (c.open_at.ensures ∙ (ap (open_at word) most ∙ e))) in
    record {
      seat = c.load_word-word.ensures.seat;
      looked = passed k (cpu_of seat) c.args.slot (known seat) c.requires.seat.1 seat.who_is word c.is_decided.result w step void
          c.is_decided.ensures;
    }

pub returns-in-Ok-clause-looked : goal.returns-in-Ok-clause-looked
returns-in-Ok-clause-looked c =
    let k = set_up c.args.words.now in
    let seat = c.args.seat.now in
    let word = c.load_word-word.result in
    let u = known c.load_word-word.new.self in
    let step = c.load_word-word.ensures.step in
    let most = c.requires.most.0 in
    let free = sym (c.open_at.ensures ∙ ap (open_at word) most) ∙ c.in-Attempt.is in
    let id : c.of.result ≡ record { issue = word.issue; slot = c.args.slot } = c.of.ensures ∙ ap (λ n. record { issue = n; slot = c.args.slot }) c.issue.ensures.value in
    tried k (cpu_of seat) c.args.slot (known seat) c.requires.seat.1 seat.who_is word c.in-Attempt.field-0 word true u (known c.open_word.new.self) step free
    c.in-Ok.ensures.step (look.Given c.of.result)
    (ap (λ (x : Speculation). Opened (cpu_of seat) x ∷ []) (sym id)) (ap (λ (x : Speculation). x.slot) id)

pub returns-in-Err-clause-looked : goal.returns-in-Err-clause-looked
returns-in-Err-clause-looked c =
    let k = set_up c.args.words.now in
    let seat = c.args.seat.now in
    let word = c.load_word-word.result in
    let u = known c.load_word-word.new.self in
    let step = c.load_word-word.ensures.step in
    let most = c.requires.most.0 in
    let free = sym (c.open_at.ensures ∙ ap (open_at word) most) ∙ c.in-Attempt.is in
    tried k (cpu_of seat) c.args.slot (known seat) c.requires.seat.1 seat.who_is word c.in-Attempt.field-0 c.in-Err.shown false u (known c.open_word.new.self) step free
    c.in-Err.ensures.step (look.Missed c.is_decided-in-Err.result)
    (missed_deeds k (cpu_of seat) (shown nothing c.in-Err.shown false) idle_progress c.args.slot c.in-Err.shown ∙ ap (λ b. Miss (cpu_of seat) c.args.slot b ∷ []) (sym c.is_decided-in-Err.ensures)) tt

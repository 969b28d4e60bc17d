-- The exchange succeeds where the word is the one that was shown.
use Rattle.std.proofs.Common.{◌≡◌, ◌+◌, ◌∙◌, true, false, not, [], ◌∷◌, if◌then◌else◌, sym, ap, subst}
use Rattle.std.proofs.lemmas.Bool.{not-false, not-true}
use Rattle.dspec_core.specs.Words.{Release, word_at, ConsumerMakes, history, state_of, next_slot, same_word}
use Rattle.dspec_interleaving.specs.declared.flight.ConsumerFlight.TheVariants as flight
use Rattle.dspec_interleaving.proofs.{CleanReads.clean_stands, CleanReads.reap_legal, StepsWords.words_test}
use Rattle.dspec_core.proofs.OneMore.{word_there}
use Rattle.dspec_core.proofs.machine.Machine.step_clean_reap.Goals as goal

pub enter_release-requires-clause-may : goal.enter_release-requires-clause-may
enter_release-requires-clause-may g c =
    let m = c.args.self.now in
    let s = c.args.slot in
    let from = c.args.word in
    let shape = g.S.Schema.shape_of m.schema in
    let at = clean_stands shape (state_of m) c.requires.stands.coherent (flight.CleanReap s from c.args.released) c.requires.stands.flight in
    let w = c.index.result.now in
    let word = word_there m.config (history m) m.words.items s w at.0.0 at.0.1 c.requires.stands.shown.words c.index.ensures in
    let test : not (same_word w from) ≡ false = ap not (sym (words_test w from)) ∙ (sym c.ne.ensures ∙ c.if-ne.false) in
    let same = not-false (same_word w from) test in
    record {
      shown = c.requires.stands.shown;
      ranges = c.requires.stands.coherent.ranges;
      legal = reap_legal shape (state_of m) c.requires.stands.coherent s c.args.released from c.requires.stands.flight (ap (λ x. same_word x from) (sym word) ∙ same);
    }

pub returns-then-ne-clause-cleans : goal.returns-then-ne-clause-cleans
returns-then-ne-clause-cleans g c =
    let m = c.args.self.now in
    let s = c.args.slot in
    let from = c.args.word in
    let at = clean_stands (g.S.Schema.shape_of m.schema) (state_of m) c.requires.stands.coherent (flight.CleanReap s from c.args.released) c.requires.stands.flight in
    let w = c.index.result.now in
    let word = word_there m.config (history m) m.words.items s w at.0.0 at.0.1 c.requires.stands.shown.words c.index.ensures in
    let test : not (same_word w from) ≡ true = ap not (sym (words_test w from)) ∙ (sym c.ne.ensures ∙ c.if-ne.true) in
    let other : same_word (word_at s (history m)) from ≡ false = ap (λ x. same_word x from) (sym word) ∙ not-true (same_word w from) test in
    subst (λ b. ConsumerMakes g.B.TraceBuffer.has g.B.TraceBuffer.capacity m c.clean_next.new.self
    (if b then next_slot m.config (history m) m.consumer (state_of m).progresses s (Release s ∷ []) (c.args.released + 1) else next_slot m.config (history m) m.consumer
    (state_of m).progresses s [] c.args.released)
    c.clean_next.result) (sym other) c.clean_next.ensures

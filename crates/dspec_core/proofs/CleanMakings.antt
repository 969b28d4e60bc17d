-- How an atomic step of the consumer is put together that changes what is kept of one CPU, and then its own side.
use Rattle.std.proofs.{Common.arith, Common.◌≡◌, Common.ℕ, Common.List, Common.[], Common.set, Common.Option, lemmas.Bool.Decides.nat_tests}
use Rattle.dspec_core.specs.{Words.Piece, Words.changes, Words.stops, Words.ConsumerMakes, Words.history, Words.state_of, Words.Answer, Words.CpuProgress, declared.machine.Machine.Machine}

module _ {S B : Type 0} (has : B → S → List Piece → Type 0) (capacity : B → ℕ) where
  -- a step that changed what is kept of one CPU, and ended
  pub puts_stops : (m n left : Machine S B) (c : ℕ) (me : CpuProgress) (last : Answer) (a : Option Answer)
      → state_of n ≡ record (state_of m) { progresses = set (state_of m).progresses c me } → n.schema ≡ m.schema
      → ConsumerMakes has capacity n left (stops n.config (history n) n.consumer (state_of n).progresses [] last) a
      → ConsumerMakes has capacity m left (changes m.config (history m) m.consumer (state_of m).progresses c me last) a
  puts_stops m n left c me last a state schema done = grind (arith, nat_tests)

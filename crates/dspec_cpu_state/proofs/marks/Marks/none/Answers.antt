-- Zeros alone, of which as many are marks as there are slots.
use Rattle.std.proofs.{Common.refl, lemmas.List.take-replicate}
use Rattle.dspec_cpu_state.proofs.Starts.{zero_everywhere}
use Rattle.dspec_cpu_state.proofs.marks.Marks.none.Goals as goal

pub invariant_of-result : goal.invariant_of-result
invariant_of-result c = record { places = refl; few = c.requires.few; first = refl; rest = λ s after. zero_everywhere 64 s }

pub returns : goal.returns
returns c = take-replicate c.args.count 63 0 c.requires.few

use Rattle.std.proofs.Common.{◌≡◌, ◌++◌, length}
use Rattle.std.specs.Prelude.{All}
use Rattle.dspec_session_core.specs.Words.{IsUnusedConsumer}
use Rattle.dspec_session_core.proofs.making.counted.Given as goal

-- those counted, then the rest, are the ends that were given
abbrev pub invariant-loop-all : goal.invariant-loop-all
invariant-loop-all l =
    record {
      order : l.all.items ++ l.rest.items ≡ l.fn.ends.items;
      unused : All IsUnusedConsumer l.rest.items;
    }

abbrev pub decreases-loop-all : goal.decreases-loop-all
decreases-loop-all l = length l.rest.items

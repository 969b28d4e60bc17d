-- The consumer that was handed out stays the one that went through its ring.
use Rattle.std.proofs.Common.{arith, ◌≡◌, ℕ, List, [], ◌∷◌, Bool, true, false, Option, Some, None, ap, ◌∙◌}
use Rattle.std.proofs.lemmas.Bool.Decides.{nat_tests}
use Rattle.std.specs.Prelude.{slice_get}
use Rattle.rtrb.specs.Ring.{sent}
use Rattle.dspec_c.specs.Words.{Shared, words_of, Consuming, IsConsumerOf, IsSameConsumer, pairs_of, set_up_of, AreHomeOf, IsDesk, IsOut, IsSameTheirs, LeaveTheirs, TheirStay, Theirs, theirs_of}
use Rattle.dspec_c.proofs.Homes.{inside_same, one_first}

-- it stays out, as the same consumer of that session
pub stays_out : (sent : List Theirs) (shared : Shared) (old new : Consuming) → IsOut IsSameTheirs sent (theirs_of shared old) → IsSameConsumer old new
    → IsOut IsSameTheirs sent (theirs_of shared new)
stays_out sent shared old new is same = record {
  first = is.first;
  was = is.was;
  same = record { shared = is.same.shared; consumer = record { config = same.config ∙ is.same.consumer.config; pairs = same.pairs ∙ is.same.consumer.pairs } };
}

-- so it is of the one that is home again
pub are_home : (a : Theirs) (home : Consuming) → home ≡ a.consumer → IsConsumerOf (words_of a.shared) home → AreHomeOf a home
are_home a home is theirs = (record { config = ap (λ (x : Consuming). set_up_of x) is; pairs = ap (λ (x : Consuming). pairs_of x) is }, theirs)

pub came_so : (a : Theirs) (home : Consuming) → home ≡ a.consumer → IsConsumerOf (words_of a.shared) home → (first : Theirs) → IsSameTheirs first a → AreHomeOf first home
came_so a home f theirs first same = grind (arith, nat_tests)

pub same_there : (first : Theirs) (received : List Theirs) (inside : Option Consuming) (x : Consuming) → IsDesk AreHomeOf first received inside → inside ≡ Some x → AreHomeOf first x
same_there first received inside x is at = inside_same AreHomeOf first received inside x is at

pub goes_out : (went : List Theirs) (first side : Theirs) → went ≡ first ∷ [] → side.shared ≡ first.shared → IsSameConsumer first.consumer side.consumer → IsOut IsSameTheirs went side
goes_out went first side e f g = record { first = first; was = e; same = record { shared = f; consumer = g } }

abbrev stay_of : Option Theirs → Option Consuming → Bool → TheirStay
stay_of first inside waits = record { first = first; inside = inside; waits = waits }

-- what waited leaves its place
leaves_so : (shared : Shared) (received : List Theirs) (inside left : Option Consuming) (waits after : Bool) (first out : Theirs) (x : Consuming) → slice_get received 0 ≡ Some first
    → IsDesk AreHomeOf first received inside → inside ≡ Some x → waits ≡ true → left ≡ None → after ≡ false → out ≡ record { shared = shared; consumer = x }
    → LeaveTheirs shared (stay_of (slice_get received 0) inside waits) out (stay_of (slice_get received 0) left after)
leaves_so shared received inside left waits after first out x at desk is w e f o = grind (arith, nat_tests, one_first, same_there)

-- so it is of a place as it was seen
pub leaves_from : (shared : Shared) (old : TheirStay) (received : List Theirs) (inside left : Option Consuming) (waits after : Bool) (first out : Theirs) (x : Consuming)
    → stay_of (slice_get received 0) inside waits ≡ old → slice_get received 0 ≡ Some first
    → IsDesk AreHomeOf first received inside → inside ≡ Some x → waits ≡ true → left ≡ None → after ≡ false → out ≡ record { shared = shared; consumer = x }
    → LeaveTheirs shared old out (stay_of (slice_get received 0) left after)
leaves_from shared old received inside left waits after first out x seen at desk is w e f o = grind (arith, nat_tests, leaves_so)

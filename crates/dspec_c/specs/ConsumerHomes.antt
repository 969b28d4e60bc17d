-- Cited by calls. How the consumer comes home, as a CPU does.
use Rattle.std.specs.Prelude.{◌≡◌, true, Option, Some}
use Rattle.dspec_c.specs.{Homes.Stay, Homes.handed_out, Words.Outside.Shared, Words.Outside.words_of, Words.Outside.Consuming, Words.Outside.IsConsumerOf, Words.Outside.IsSameConsumer}

-- a consumer, and what it shares
pub record Theirs : Type 0 where
  pub shared : Shared
  pub consumer : Consuming

abbrev pub theirs_of : Shared → Consuming → Theirs
theirs_of shared consumer = record { shared = shared; consumer = consumer }

-- the same consumer of the same session
pub record IsSameTheirs (old new : Theirs) : Type 0 where
  pub shared : new.shared ≡ old.shared
  pub consumer : IsSameConsumer old.consumer new.consumer

abbrev pub TheirStay : Type 0
TheirStay = Stay Theirs Consuming

-- the consumer that is inside is the same as this
abbrev pub AreHomeOf : Theirs → Consuming → Type 0
AreHomeOf first x = IsSameConsumer first.consumer x × IsConsumerOf (words_of first.shared) x

-- the consumer leaves its place with what it shares
pub record LeaveTheirs (shared : Shared) (old : TheirStay) (side : Theirs) (new : TheirStay) : Type 0 where
  pub waits : old.waits ≡ true
  pub inside : old.inside ≡ Some side.consumer
  pub shares : side.shared ≡ shared
  pub same : (first : Theirs) → old.first ≡ Some first → IsSameConsumer first.consumer side.consumer
  pub gone : new ≡ handed_out old

-- the place is of the consumer of those words
abbrev pub IsTheirPlaceWith : Shared → Option Theirs → Type 0
IsTheirPlaceWith shared place = (first : Theirs) → place ≡ Some first → shared ≡ first.shared

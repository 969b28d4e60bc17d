-- The same of the consumer's steps.
use Rattle.std.proofs.{Common.arith, Common.◌≡◌, Common.ℕ, Common.Bool, Common.List, Common.[], Common.ap, Common.◌∙◌, lemmas.Bool.Decides.nat_tests}
use Rattle.dspec_table.specs.{Words.SlotState, Words.halted, Words.word_at, Words.bare, Words.consumer_step, Words.Found, Words.LookedWord, Words.slot_there, Words.consumer_deeds}
use Rattle.dspec_table.specs.{Words.ConsumerSeatStep, Words.IsStepOfPlay, Words.Config, Words.Deed, Words.CpuProgress, Words.ConsumerFlight, Words.ConsumerProgress, declared.rule.View.View}
use Rattle.dspec_deeds.specs.declared.calls.ConsumerOp.TheVariants as consumer_op
use Rattle.dspec_deeds.proofs.BareReads.{shows_bare}
use Rattle.dspec_interleaving.specs.declared.flight.ConsumerFlight.TheVariants as consumer
use Rattle.dspec_table.proofs.SeatsDid.{IsAfter, bare_joined}

module _ (k : Config) (h : List Deed) (side : ConsumerProgress) (all : List CpuProgress) where
  cleans_by_place : (f : ConsumerFlight) → (consumer_step k h side all f).deeds ≡ consumer_deeds (halted h) (word_at (slot_there f) h) f
  cleans_by_place f = grind (arith, nat_tests)

  pub same_cleans : (f : ConsumerFlight) → (consumer_step k h side all f).deeds ≡ consumer_deeds (halted (bare h)) (word_at (slot_there f) (bare h)) f
  same_cleans f = cleans_by_place f ∙ (λ i. consumer_deeds ((shows_bare h).halts i) ((shows_bare h).words (slot_there f) i) f)

cleans_bare : (b : Bool) (w : SlotState) (f : ConsumerFlight) → bare (consumer_deeds b w f) ≡ consumer_deeds b w f
cleans_bare b w f = grind (arith, nat_tests)

-- a step that enters nothing
looked : (slot : ℕ) (v w : View) → (shown : SlotState) × LookedWord slot v shown w → (log : List Deed) × Found v log × IsAfter [] v.own log w
looked slot v w (shown, (log, found, is, view)) = (log, found, record { own = ap (λ (x : View). x.own) view; seen = ap (λ (x : View). x.seen) view })

consumer_did : (v w : View) (f : ConsumerFlight) → ConsumerSeatStep v f w → (log : List Deed) × Found v log × IsAfter (consumer_deeds (halted log) (word_at (slot_there f) log) f) v.own log w
consumer_did v w (consumer.Begun (consumer_op.Ask c)) (n, (log, found, view)) = (log, found, record { own = ap (λ (x : View). x.own) view; seen = ap (λ (x : View). x.seen) view })
consumer_did v w (consumer.Begun (consumer_op.Take c)) step = absurd step
consumer_did v w (consumer.Begun (consumer_op.GiveBack c)) step = absurd step
consumer_did v w (consumer.Begun consumer_op.Clean) step = looked 1 v w step
consumer_did v w (consumer.Begun consumer_op.Stop) (log, found, entered) = (log, found, record { own = ap (λ (x : View). x.own) entered.view; seen = ap (λ (x : View). x.seen) entered.view })
consumer_did v w (consumer.CleanLoad s n) step = looked s v w step
consumer_did v w (consumer.CleanAck s from c n) (acked, (log, found, is, view)) = (log, found, record { own = ap (λ (x : View). x.own) view; seen = ap (λ (x : View). x.seen) view })
consumer_did v w (consumer.CleanReap s from n) (log, found, is, entered) = grind (arith, nat_tests)

pub consumer_plays : (v w : View) (f : ConsumerFlight) → ConsumerSeatStep v f w
    → (log : List Deed) × Found v log × ((h : List Deed) (side : ConsumerProgress) (all : List CpuProgress) → bare h ≡ log → IsStepOfPlay (consumer_step v.config h side all f).deeds h v w)
consumer_plays v w f step = grind (arith, nat_tests, consumer_did, same_cleans, cleans_bare, bare_joined)

-- A play with no call in flight can close, and what its close leaves, told of the deeds in order of time.
use Rattle.std.proofs.Common.{◌≡◌, ℕ, ◌<◌, true, List, Option, sym, ap, ◌∙◌, subst, arith}
use Rattle.std.proofs.lemmas.{Bool.Decides.nat_tests, List.reverse-reverse}
use Rattle.std.specs.Prelude.{Result, Ok, Err, IfOk, reverse}
use Rattle.dspec_interleaving.specs.Words.{Shape, Actor, Config, Deed, is_actor, is_idle, CanClose, closing, progress_of, PlayState, IsCoherent, IsLegal}
use Rattle.dspec_interleaving.specs.declared.outcome.Close.{Close}
use Rattle.dspec_deeds.specs.declared.calls.Actor.TheVariants as actor
use Rattle.dspec_interleaving.proofs.{ClosedParts.closing_authors, Closing.can_close, Closing.closing_closes, Tests.is_nothing}

is_there : (k : Config) (c : ℕ) → c < k.cpus → is_actor k (actor.Cpu c) ≡ true
is_there k c lt = grind (arith, nat_tests)

-- where every actor is idle
pub idle_closes : (shape : ℕ → Option Shape) (st : PlayState) → IsCoherent shape st → ((a : Actor) → is_actor st.config a ≡ true → is_idle a st ≡ true) → CanClose shape st.config st.deeds
idle_closes shape st ok idle = can_close shape st ok (λ c lt. is_nothing (progress_of st.progresses c).flight (idle (actor.Cpu c) (is_there st.config c lt)))

-- what is so of the list at the close is so of the deeds that are handed out
pub told_in_order : {E : Type 0} (P : List Deed → Close → Type 0) (ds : List Deed) (r : Result Close E) → IfOk r (λ close. close.deeds ≡ reverse ds) → IfOk r (P ds)
    → IfOk r (λ close. P (reverse close.deeds) close)
told_in_order P ds (Ok close) e p = subst (λ xs. P xs close) (sym (ap reverse e ∙ reverse-reverse ds)) p
told_in_order P ds (Err x) e p = tt

-- the list at the close is legal
pub closes_legally : (shape : ℕ → Option Shape) (st : PlayState) → IsCoherent shape st → ((a : Actor) → is_actor st.config a ≡ true → is_idle a st ≡ true)
    → IsLegal shape st.config (closing shape st.config st.deeds)
closes_legally shape st ok idle =
    ((closing_closes shape st.config st.deeds ok.ranges (idle_closes shape st ok idle)).rest.legal, closing_authors shape st.config st.deeds ok.authors)

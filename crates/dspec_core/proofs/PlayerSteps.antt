-- What a player's step finds, and what it leaves of the call in flight.
use Rattle.std.proofs.Common.{arith, ◌≡◌, ℕ, ◌+◌, ◌<◌, Bool, true, false, not, if◌then◌else◌, List, Option, Some, None, refl, sym, subst, ⊎_elim}
use Rattle.std.proofs.lemmas.Bool.Decides.{nat_tests}
use Rattle.std.specs.Prelude.{Result, Ok, Err, OnOk, is_err}
use Rattle.dspec_core.specs.Words.{Shape, Actor, Answer, StepFault, NoSuchActor, IdleStep, is_actor, is_idle, IsCoherent, PlayState, step, EndedCall, IsPlayingAt, Playing, stepped}
use Rattle.dspec_interleaving.proofs.{PlayerMoves.RunsOn, PlayerMoves.runs_on, StepCounts.Ends, StepCounts.StaysOn, StepCounts.step_ends}

-- the fault of a step, by whether there is the actor and whether it is idle
abbrev pub fault : Bool → Bool → Option StepFault
fault there idle = if not there then Some NoSuchActor else if idle then Some IdleStep else None

is_busy : (b i : Bool) → fault b i ≡ None → i ≡ false
is_busy false i e = absurd (cc (e))
is_busy true true e = absurd (cc (e))
is_busy true false e = refl

rests : (b i : Bool) → fault b i ≡ Some IdleStep → i ≡ true
rests false i e = absurd (cc (e))
rests true true e = refl
rests true false e = absurd (cc (e))

-- an actor of which a step can be made is busy
pub busy_there : (a : Actor) (st : PlayState) → fault (is_actor st.config a) (is_idle a st) ≡ None → is_idle a st ≡ false
busy_there a st e = is_busy (is_actor st.config a) (is_idle a st) e

-- and one of which none can be made, since no call is in flight, is idle
pub idle_there : (a : Actor) (st : PlayState) → fault (is_actor st.config a) (is_idle a st) ≡ Some IdleStep → is_idle a st ≡ true
idle_there a st e = rests (is_actor st.config a) (is_idle a st) e

-- after a step with an answer no call of the actor is in flight
pub ends_idle : (shape : ℕ → Option Shape) (st now : PlayState) (a : Actor) (x : Answer) → IsCoherent shape st → is_actor st.config a ≡ true → is_idle a st ≡ false
    → now ≡ (step shape a st).state → Some x ≡ (step shape a st).answer → is_idle a now ≡ true
ends_idle shape st now a x ok there busy is told = ⊎_elim
    (λ (e : Ends a (step shape a st)). subst (λ s. is_idle a s ≡ true) (sym is) e.idle)
    (λ (g : StaysOn a st (step shape a st)). let none = g.answers in absurd (cc (told, none)))
    (step_ends shape st a ok there busy)

-- no step changes the configuration
pub step_config : (shape : ℕ → Option Shape) (a : Actor) (st : PlayState) → (step shape a st).state.config ≡ st.config
step_config shape a st = grind (arith, nat_tests)

-- one more step of a run
pub more_runs : {S : Type 0} (shape_of : S → ℕ → Option Shape) (old schema : S) (a : Actor) (total done : ℕ) (st : PlayState) (before : List EndedCall) (now new : PlayState)
    (answers after : List EndedCall) → schema ≡ old → done < total → fault (is_actor now.config a) (is_idle a now) ≡ None
    → ((p : Playing) → IsPlayingAt now answers p → IsPlayingAt new after (stepped (shape_of schema) a p))
    → RunsOn (shape_of old) a total done st before now answers → RunsOn (shape_of old) a total (done + 1) st before new after
more_runs shape_of old schema a total done st before now new answers after same lt may next runs =
    runs_on (shape_of old) a total done st before now new answers after lt (busy_there a now may)
    (subst (λ s. (p : Playing) → IsPlayingAt now answers p → IsPlayingAt new after (stepped (shape_of s) a p)) same next) runs

-- what holds after what wasn't refused
pub not_refused : {T E P : Type 0} (r : Result T E) → is_err r ≡ false → OnOk r P → P
not_refused (Ok x) e p = p
not_refused (Err x) e p = absurd (cc (e))

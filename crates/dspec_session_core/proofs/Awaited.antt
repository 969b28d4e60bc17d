-- What looks at the slots that wait for a CPU leave the consumer's seat.
use Rattle.std.proofs.Common.{◌≡◌, ℕ, zero, suc, ◌+◌, ◌*◌, ◌≤◌, Bool, true, false, if◌then◌else◌, ◌∙◌, subst, arith}
use Rattle.std.proofs.lemmas.Bool.Decides.{nat_tests}
use Rattle.dspec_session_core.specs.Words.{Config, View, AwaitedIn, AwaitedSlots, Awaited}
use Rattle.dspec_session_core.proofs.Acknowledging.{Idled, idled_none, idled_more, idled_load}

-- so many steps at most, and nothing entered
pub record Looked (most : ℕ) (v w : View) : Type 0 where
  pub who : w.who ≡ v.who
  pub config : w.config ≡ v.config
  pub own : w.own ≡ v.own
  pub asks : w.asks ≡ v.asks
  pub steps : w.steps ≤ v.steps + most

looked : (n most : ℕ) (v w : View) → n ≤ most → Idled n v w → Looked most v w
looked n most v w le i = record { who = i.who; config = i.config; own = i.own; asks = i.asks; steps = let e = i.steps in omega arith }

slot_looked : (cpu slot : ℕ) (v w : View) (hit : Bool) → AwaitedIn cpu slot v hit w → Looked 2 v w
slot_looked cpu slot v w hit h1 = grind (arith, nat_tests, looked, idled_load, idled_more)

pub slots_looked : (cpu : ℕ) (v : View) (n count : ℕ) (w : View) → AwaitedSlots cpu v n count w → Looked (n * 2) v w × (count ≤ n)
slots_looked cpu v zero count w h =
    (subst (λ (x : View). Looked (0 * 2) v x) h.1 (looked 0 (0 * 2) v v (omega arith) (idled_none v)), (let e = h.0 in omega arith))
slots_looked cpu v (suc n) count w h =
    let before = h.0 in
    let u = h.1 in
    let was = slots_looked cpu v n before u h.3 in
    let now = slot_looked cpu (suc n) u w h.2 h.4 in (
      record {
        who = now.who ∙ was.0.who;
        config = now.config ∙ was.0.config;
        own = now.own ∙ was.0.own;
        asks = now.asks ∙ was.0.asks;
        steps = let a = now.steps in let b = was.0.steps in omega arith;
      },
      go before h.2 was.1 h.5,
    )
  where
    go : (before : ℕ) (hit : Bool) → before ≤ n → count ≡ (if hit then before + 1 else before) → count ≤ suc n
    go before true le e = omega arith
    go before false le e = omega arith

-- all of them
pub all_looked : (v : View) (k : Config) (cpu count : ℕ) (w : View) → v.config ≡ k → AwaitedSlots cpu v k.nspec count w → Awaited cpu count v w
all_looked v k cpu count w same chain = grind (arith, nat_tests, slots_looked)

-- one slot more
pub one_more_looked : (cpu : ℕ) (v u w : View) (n before : ℕ) (hit : Bool) → AwaitedSlots cpu v n before u → AwaitedIn cpu (n + 1) u hit w
    → AwaitedSlots cpu v (n + 1) (if hit then before + 1 else before) w
one_more_looked cpu v u w n before hit chain step = grind (arith, nat_tests)

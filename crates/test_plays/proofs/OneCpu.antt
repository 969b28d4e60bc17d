-- A session of one CPU has two actors.
use Rattle.std.proofs.{Common.◌≡◌, Common.◌<◌, Common.true, Common.arith, Common.subst, lemmas.Bool.ltb-true}
use Rattle.test_plays.specs.Words.{Config, Actor, Cpu, Consumer, is_actor, is_idle, PlayState}

-- where both are idle, all are
pub all_idle : (k : Config) (st : PlayState) → k.cpus ≡ 1 → is_idle (Cpu 0) st ≡ true → is_idle Consumer st ≡ true
    → (actor : Actor) → is_actor k actor ≡ true → is_idle actor st ≡ true
all_idle k st one cpu consumer (Cpu c) is =
    let below : c < k.cpus = ltb-true c k.cpus is in
    let zero : 0 ≡ c = omega (arith, below, one) in
    subst (λ n. is_idle (Cpu n) st ≡ true) zero cpu
all_idle k st one cpu consumer Consumer is = consumer

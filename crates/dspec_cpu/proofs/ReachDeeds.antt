-- The deeds of a call on a slot, by what it was shown.
use Rattle.std.proofs.Common.{arith, ◌≡◌, ◌≢◌, ℕ, ◌==◌, Bool, true, false, List, ◌++◌, if◌then◌else◌, Option, None, refl, ap, ◌∙◌, append_assoc}
use Rattle.std.proofs.lemmas.Bool.Decides.{nat_tests}
use Rattle.dspec_cpu.specs.Words.{Speculation, SlotState, speculate_act, commit_act, discard_act, in_range, at_activity, at_exchange, IsOn, flight_after, Goes, rests, steps, act_of, act_reached}
use Rattle.dspec_cpu.specs.Words.{is_reached, is_attempt, reached_deeds, is_stopped_reach, Code, Inactive, ActiveOne, Act, Void, Granted, Idle, Config, CpuOp, Deed, View, Doing}
use Rattle.dspec_cpu.specs.declared.reaching.Reach.{Reach}
use Rattle.dspec_deeds.specs.declared.calls.CpuOp.TheVariants as op
use Rattle.dspec_deeds.proofs.TestLemmas.{same_number, off}
use Rattle.dspec_interleaving.proofs.StepDeeds.{by_test, spoken_deeds, committed_deeds, discarded_deeds}
use Rattle.dspec_cpu.specs.declared.reaching.Reach.TheVariants as reach
use Rattle.dspec_cpu.proofs.Retries.{here_or_void, attempt_is}

-- steps after steps
pub goes_on : {v u w : View} {ds es : List Deed} → Goes v ds u → Goes u es w → Goes v (es ++ ds) w
goes_on g rests = g
goes_on {ds = ds} g (steps {ds = es} w new all log h f e q) = steps w new (all ++ ds) log (goes_on g h) f e (ap (λ l. l ++ ds) q ∙ append_assoc new es ds)

pub stopped_deeds : (k : Config) (c : ℕ) (doing : Doing) (id : Speculation) (o : CpuOp) → IsOn id o → at_activity k c doing o true ≡ reached_deeds c doing o reach.Stopped
stopped_deeds = grind (arith, nat_tests)

pub outside_deeds : (k : Config) (c : ℕ) (doing : Doing) (id : Speculation) (o : CpuOp) → IsOn id o → in_range k id ≡ false → at_activity k c doing o false ≡ reached_deeds c doing o reach.Void
outside_deeds = grind (arith, nat_tests, by_test, off)

-- a decision is granted by no load
commit_grants_none : (i : ℕ) (mine : Bool) (code : Code) → commit_act i mine code ≢ Granted
commit_grants_none i mine Inactive e = absurd (cc (e))
commit_grants_none i true ActiveOne e = absurd (cc (e))
commit_grants_none i mine code e = absurd (cc (e))

discard_grants_none : (i : ℕ) (mine : Bool) (code : Code) → discard_act i mine code ≢ Granted
discard_grants_none i mine Inactive e = absurd (cc (e))
discard_grants_none i true ActiveOne e = absurd (cc (e))
discard_grants_none i mine code e = absurd (cc (e))

speculate_acts : (i : ℕ) (mine : Bool) (code : Code) → speculate_act i mine code ≢ Idle
speculate_acts i mine Inactive e = absurd (cc (e))
speculate_acts i true ActiveOne e = absurd (cc (e))
speculate_acts i mine code e = absurd (cc (e))

commit_acts : (i : ℕ) (mine : Bool) (code : Code) → commit_act i mine code ≢ Idle
commit_acts i mine Inactive e = absurd (cc (e))
commit_acts i true ActiveOne e = absurd (cc (e))
commit_acts i mine code e = absurd (cc (e))

discard_acts : (i : ℕ) (mine : Bool) (code : Code) → discard_act i mine code ≢ Idle
discard_acts i mine Inactive e = absurd (cc (e))
discard_acts i true ActiveOne e = absurd (cc (e))
discard_acts i mine code e = absurd (cc (e))

idle_is : Idle ≢ Void
idle_is q = absurd (cc (q))

-- the tables of the calls on an identifier are never idle
pub never_idle : (o : CpuOp) (id : Speculation) (word : SlotState) (mine : Bool) → IsOn id o → act_of o word mine ≢ Idle
never_idle = grind (arith, nat_tests, speculate_acts, here_or_void, idle_is, commit_acts, discard_acts)

granted_is : Granted ≢ Void
granted_is q = absurd (cc (q))

-- a commit or a discard is granted by its exchange alone
pub decision_grants_none : (commits : Bool) (id : Speculation) (word : SlotState) (mine : Bool) → act_of (if commits then op.Commit id else op.Discard id) word mine ≡ Granted → ⊥
decision_grants_none true id word mine e = commit_grants_none word.issue mine word.code (here_or_void (word.issue == id.issue) _ Granted e granted_is).1
decision_grants_none false id word mine e = discard_grants_none word.issue mine word.code (here_or_void (word.issue == id.issue) _ Granted e granted_is).1

-- the deeds of the last step
pub ended_deeds : (k : Config) (c slot : ℕ) (doing : Doing) (id : Speculation) (word : SlotState) (o : CpuOp) (r : Reach) → IsOn id o → act_of o word doing.mine ≡ act_reached r
    → (r ≡ reach.Stopped → ⊥) → at_exchange k c doing slot word (is_attempt (act_reached r)) o ≡ reached_deeds c doing o r
ended_deeds = grind (arith, nat_tests, spoken_deeds, commit_grants_none, here_or_void, granted_is, discard_grants_none, committed_deeds, discarded_deeds)

-- what isn't void was shown in the identifier's issue
pub reached_now : (o : CpuOp) (id : Speculation) (word : SlotState) (mine : Bool) (a : Act) → IsOn id o → act_of o word mine ≡ a → a ≢ Void → word.issue ≡ id.issue
reached_now = grind (arith, nat_tests, same_number, here_or_void)

pub is_no_void : (r : Reach) → is_reached r ≡ true → act_reached r ≢ Void
is_no_void = grind (arith, nat_tests, attempt_is, granted_is)

pub unstopped : (r : Reach) → (r ≡ reach.Stopped → ⊥) → is_stopped_reach r ≡ false
unstopped reach.Stopped n = absurd (n refl)
unstopped r n = refl

-- where it ended no call is in flight
pub reached_ends : (k : Config) (c : ℕ) (doing : Doing) (id : Speculation) (f : Option CpuOp) (o : CpuOp) (r : Reach) → IsOn id o
    → (r ≡ reach.Granted → (word : SlotState) × (act_of o word doing.mine ≡ Granted)) → flight_after k f (reached_deeds c doing o r) ≡ None
reached_ends = grind (arith, nat_tests, discard_grants_none, here_or_void, granted_is)

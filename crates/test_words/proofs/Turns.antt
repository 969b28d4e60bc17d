-- What a CPU may do next on the first slot, and what its own list tells then.
use Rattle.std.proofs.Common.{◌≡◌, ℕ, zero, suc, ◌<◌, ◌&&◌, ◌≤◌, Bool, true, false, if◌then◌else◌, List, [], ◌++◌, sym, ap, ◌∙◌, subst, arith, refl}
use Rattle.std.proofs.lemmas.Bool.Decides.{nat_tests}
use Rattle.test_words.specs.Words.{Record, Speculation, SlotState, released, awaits, commit_at, discard_at, reap_at, in_range, is_among, callers, ack, number_of, at_activity, IsOn, View, Doing}
use Rattle.test_words.specs.Words.{IsInFlight, MayLoad, MayTry, Attempts, IsDeciding, calling, activity_place, acted, LoadedActivity, TriedWord, LoadedAck, Unused, Next, at_exchange, shown}
use Rattle.test_words.specs.Words.{idle_progress, shown_commit, shown_discard, is_alone, is_release, at_word, Entered, LoadedWord, slot_place, Act, Void, Granted, Attempt, Idle, Config, CpuOp, Deed}
use Rattle.dspec_deeds.specs.declared.calls.CpuOp.TheVariants as op
use Rattle.dspec_table.proofs.{Flights.quiet_activity, Flights.loads_next, Flights.in_flight, Reaping.acked_since}
use Rattle.dspec_interleaving.proofs.StepDeeds.{by_test}

first_in_range : (k : Config) (id : Speculation) → 1 ≤ k.nspec → id.slot ≡ 1 → in_range k id ≡ true
first_in_range k id low is = grind (arith, nat_tests)

-- after a load of activity that is running
pub begins : (k : Config) (v w : View) (c : ℕ) (doing : Doing) (id : Speculation) → v.config ≡ k → 1 ≤ k.nspec → id.slot ≡ 1 → IsOn id doing.op → Unused k c v.own → doing.mine ≡ false
    → LoadedActivity doing v false w → MayLoad k w c doing 1 doing.op × Unused k c w.own
begins k v w c doing id config low is on unused mine step =
    let inside = first_in_range k id low is in
    let none : at_activity v.config (number_of v.who) doing doing.op false ≡ [] =
    quiet_activity v.config (number_of v.who) doing id doing.op (subst (λ (x : Config). in_range x id ≡ true) (sym config) inside) on in
    let own : w.own ≡ v.own = ap (λ (x : View). x.own) (step.3.view ∙ ap (acted activity_place (calling doing.op v) step.0) none) in
    let no_caller : doing.mine ≡ is_among c (callers id v.own) = mine ∙ sym (ap (is_among c) (unused.1 id)) in
    let flight : IsInFlight k w c doing id id.slot = in_flight k v w c doing id config inside on unused.0 (λ recent. no_caller) step in
    (subst (λ (s : ℕ). MayLoad k w c doing s doing.op) is (loads_next k w c id.slot doing id on flight), subst (Unused k c) (sym own) unused)

-- an exchange of a call on a record that finds another word shows it as a load does
pub shows_word : (v w : View) (doing : Doing) (id : Speculation) (r : Record) (word : SlotState) → doing.op ≡ op.Speculate id r → TriedWord doing 1 v word false w → LoadedWord doing 1 v word w
shows_word v w doing id r word is step =
    let same : at_exchange v.config (number_of v.who) doing 1 word false doing.op ≡ at_word v.config (number_of v.who) doing 1 word doing.op =
    subst (λ (o : CpuOp). at_exchange v.config (number_of v.who) doing 1 word false o ≡ at_word v.config (number_of v.who) doing 1 word o) (sym is) refl in
    (step.0, step.1, step.2, subst (λ ds. Entered (slot_place 1) v step.0 ds w) same step.3)

-- what the table attempts at the word that was shown may be tried
pub attempted : (k : Config) (v w : View) (c : ℕ) (doing : Doing) (o : CpuOp) (from to : SlotState) → doing.op ≡ o → Attempts doing from to o → Next k v w c doing from
    → MayTry k w c doing 1 from to × (w.own ≡ v.own)
attempted k v w c doing o from to is attempts next = next to (subst (Attempts doing from to) (sym is) attempts)

-- a decision, had or missed, leaves the CPU in no call, a caller of nothing, with nothing settled
module _ (k j : Config) (x c : ℕ) (doing : Doing) (w : SlotState) (own : List Deed) (u : Unused k x own) where
  void_commit_rests : (id : Speculation) (a : Act) → Unused k x ((shown_commit j c (shown doing w false) idle_progress id w a).deeds ++ own)
  void_commit_rests id Void = u
  void_commit_rests id Granted = u
  void_commit_rests id (Attempt to) = u
  void_commit_rests id Idle = u

  void_discard_rests : (id : Speculation) (a : Act) → Unused k x ((shown_discard j c (shown doing w false) idle_progress id w a).deeds ++ own)
  void_discard_rests id Void = u
  void_discard_rests id Granted = u
  void_discard_rests id (Attempt to) = u
  void_discard_rests id Idle = u

  hit_rests : (o : CpuOp) → IsDeciding o → Unused k x (at_exchange j c doing 1 w true o ++ own)
  hit_rests (op.Commit id) d = by_test (λ ds. Unused k x (ds ++ own)) (is_alone (commit_at w id doing.mine)) _ _ (λ t. u) (λ f. u)
  hit_rests (op.Discard id) d = by_test (λ ds. Unused k x (ds ++ own)) (is_release (discard_at w id doing.mine)) _ _ (λ t. u) (λ f. u)
  hit_rests (op.Trace r) d = absurd d
  hit_rests op.Speculation d = absurd d
  hit_rests (op.Speculate id r) d = absurd d
  hit_rests op.Service d = absurd d

  word_rests : (o : CpuOp) → IsDeciding o → Unused k x (at_exchange j c doing 1 w false o ++ own)
  word_rests (op.Commit id) d = void_commit_rests id (commit_at w id doing.mine)
  word_rests (op.Discard id) d = void_discard_rests id (discard_at w id doing.mine)
  word_rests (op.Trace r) d = absurd d
  word_rests op.Speculation d = absurd d
  word_rests (op.Speculate id r) d = absurd d
  word_rests op.Service d = absurd d

pub tried_rests : (k : Config) (x : ℕ) (v w : View) (doing : Doing) (w0 : SlotState) (hit : Bool) → IsDeciding doing.op → Unused k x v.own → TriedWord doing 1 v w0 hit w → Unused k x w.own
tried_rests k x v w doing w0 true d u step =
    subst (Unused k x) (sym (ap (λ (y : View). y.own) step.3.view)) (hit_rests k v.config x (number_of v.who) doing w0 v.own u doing.op d)
tried_rests k x v w doing w0 false d u step =
    subst (Unused k x) (sym (ap (λ (y : View). y.own) step.3.view)) (word_rests k v.config x (number_of v.who) doing w0 v.own u doing.op d)

-- both acknowledgements that were shown stand
pub both_acked : (k : Config) (v w u : View) (i a b : ℕ) → k.cpus ≡ 2 → LoadedAck 0 1 v a w → LoadedAck 1 1 w b u → i < a → i < b → (c : ℕ) → c < k.cpus → i < ack c 1 u.seen
both_acked k v w u i a b two one other first second zero lt =
    let before : a ≡ ack 0 1 w.seen = one.2 ∙ ap (λ (x : View). ack 0 1 x.seen) (sym one.3) in
    let since = acked_since w.config w.who 0 1 w.seen other.0 other.1.sound other.1.since in
    let now : ack 0 1 u.seen ≡ ack 0 1 other.0 = ap (λ (x : View). ack 0 1 x.seen) other.3 in
    omega arith
both_acked k v w u i a b two one other first second (suc zero) lt =
    let now : b ≡ ack 1 1 u.seen = other.2 ∙ ap (λ (x : View). ack 1 1 x.seen) (sym other.3) in
    omega arith
both_acked k v w u i a b two one other first second (suc (suc c)) lt = absurd (omega arith)

pub reaps_waits : (w to : SlotState) → reap_at w true ≡ Attempt to → awaits w.code ≡ true
reaps_waits w to e = go (awaits w.code) e
  where
    go : (b : Bool) → (if (b && true) then Attempt (released w.issue) else Idle) ≡ Attempt to → b ≡ true
    go true e = refl
    go false e = absurd (cc (e))

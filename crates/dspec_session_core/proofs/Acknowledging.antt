-- What a clean's loads and exchanges leave its seat.
use Rattle.std.proofs.Common.{true≢false, ◌≡◌, ℕ, zero, suc, ◌+◌, ◌*◌, ◌<◌, ◌≤◌, ◌==◌, Bool, true, false, if◌then◌else◌, List, [], ◌∷◌, ◌++◌, length, map, refl, sym, ap, ◌∙◌, subst, arith}
use Rattle.std.proofs.Common.{append_assoc}
use Rattle.std.proofs.lemmas.{Bool.Decides.nat_tests, List.map-append}
use Rattle.std.specs.Prelude.{Result, Ok, Err, MatchResult, IsOk, is_ok}
use Rattle.dspec_session_core.specs.Words.{SlotState, awaits, word_at, ack, of_consumer, Since, MayReap, acted, LookedWord, LoadedAck, ReapedWord, Acknowledged, MissesOne, CleanedSlot}
use Rattle.dspec_session_core.specs.Words.{waits_for_none, waits_for_one, released, CleanedSlots, Cleaned, Config, Deed, Release, View}
use Rattle.dspec_deeds.proofs.Awaiting.{awaiting}
use Rattle.dspec_table.proofs.Reaping.{acked_since}
use Rattle.dspec_session_core.proofs.Waiting.{Waits, awaited_waits, waits_since}

-- n steps that entered nothing
pub record Idled (n : ℕ) (v w : View) : Type 0 where
  pub who : w.who ≡ v.who
  pub config : w.config ≡ v.config
  pub own : w.own ≡ v.own
  pub asks : w.asks ≡ v.asks
  pub steps : w.steps ≡ v.steps + n

pub idled_none : (v : View) → Idled 0 v v
idled_none v = record { who = refl; config = refl; own = refl; asks = refl; steps = omega arith }

pub idled_more : {place : ℕ} (n : ℕ) (v u w : View) (log : List Deed) → Idled n v u → w ≡ acted place u log [] → Idled (suc n) v w
idled_more n v u w log i is = grind (arith, nat_tests)

pub idled_load : (slot : ℕ) (v w : View) (shown : SlotState) → LookedWord slot v shown w → Idled 1 v w
idled_load slot v w shown step = idled_more 0 v v w step.0 (idled_none v) step.3

pub idled_acks : (slot issue n : ℕ) (v w : View) → Acknowledged slot issue v n w → Idled n v w
idled_acks slot issue zero v w e = subst (λ x. Idled 0 v x) e (idled_none v)
idled_acks slot issue (suc n) v w step = idled_more n v step.0 w step.3.0 (idled_acks slot issue n v step.0 step.2) step.3.3

-- a word that waits, as it was loaded
pub shown_waits : (slot : ℕ) (v w : View) (shown : SlotState) → LookedWord slot v shown w → awaits shown.code ≡ true → Waits slot w.seen × (shown ≡ word_at slot w.seen)
shown_waits slot v w shown step waits = grind (arith, nat_tests, awaiting, Waits, awaited_waits)

-- it stands while acknowledgements are loaded, and those shown stand too
pub record Stood (slot issue n : ℕ) (v w : View) : Type 0 where
  pub waits : Waits slot w.seen
  pub word : word_at slot w.seen ≡ word_at slot v.seen
  pub acked : (c : ℕ) → c < n → issue < ack c slot w.seen

stood_more : (slot issue n a : ℕ) (v u w : View) → u.who ≡ of_consumer → Stood slot issue n v u → LoadedAck n slot u a w → issue < a → Stood slot issue (suc n) v w
stood_more slot issue n a v u w who was step less =
    let log = step.0 in
    let found = step.1 in
    let seen : w.seen ≡ log = ap (λ (x : View). x.seen) step.3 in
    let since : Since of_consumer u.seen log = subst (λ x. Since x u.seen log) who found.since in
    let still = waits_since u.config slot u.seen log found.sound since was.waits in
    let now : (c : ℕ) → c < suc n → issue < ack c slot log = λ c lt. go log since found.sound step.2 c lt (c == n) refl in
    record {
      waits = subst (λ h. Waits slot h) (sym seen) still.0;
      word = ap (λ h. word_at slot h) seen ∙ (still.1 ∙ was.word);
      acked = subst (λ h. (c : ℕ) → c < suc n → issue < ack c slot h) (sym seen) now;
    }
  where
    go : (log : List Deed) → Since of_consumer u.seen log → Rattle.dspec_deeds.specs.Legal.IsSound u.config log → a ≡ ack n slot log → (c : ℕ) → c < suc n → (b : Bool)
        → (c == n) ≡ b → issue < ack c slot log
    go log since sound is c lt true e = let same = Rattle.dspec_deeds.proofs.TestLemmas.same_number c n e in let it : ack c slot log ≡ ack n slot log =
        ap (λ (x : ℕ). ack x slot log) same in omega arith
    go log since sound is c lt false e =
        let apart = Rattle.dspec_deeds.proofs.TestLemmas.numbers_differ c n e in
        let before = was.acked c (omega arith) in
        let up = acked_since u.config of_consumer c slot u.seen log sound since in
        omega arith

pub stood_acks : (slot issue n : ℕ) (v w : View) → v.who ≡ of_consumer → Waits slot v.seen → Acknowledged slot issue v n w → Stood slot issue n v w
stood_acks slot issue zero v w who waits e = subst (λ (x : View). Stood slot issue 0 v x) e (record { waits = waits; word = refl; acked = λ c lt. absurd (omega arith) })
stood_acks slot issue (suc n) v w who waits step =
    stood_more slot issue n step.1 v step.0 w ((idled_acks slot issue n v step.0 step.2).who ∙ who) (stood_acks slot issue n v step.0 who waits step.2) step.3 step.4

-- so the slot may be released
pub may_reap : (k : Config) (slot : ℕ) (v u w : View) (shown : SlotState) → v.who ≡ of_consumer → 1 ≤ slot → slot ≤ k.nspec → LookedWord slot v shown u → awaits shown.code ≡ true
    → Acknowledged slot shown.issue u k.cpus w → (shown ≡ word_at slot w.seen) × MayReap k w slot shown
may_reap k slot v u w shown who low high step waits acks =
    let first = shown_waits slot v u shown step waits in
    let stood = stood_acks slot shown.issue k.cpus u w ((idled_load slot v u shown step).who ∙ who) first.0 acks in (
      first.1 ∙ sym stood.word,
      record { low = low; high = high; waits = waits; acked = stood.acked },
    )

-- and the exchange, which always succeeds, releases it
pub reaped : {T : Type 0} (k : Config) (slot : ℕ) (v u w x : View) (shown : SlotState) (r : Result T SlotState) → LookedWord slot v shown u → awaits shown.code ≡ true
    → Acknowledged slot shown.issue u k.cpus w → MatchResult r (λ _. ReapedWord slot w shown true x) (λ s. ReapedWord slot w s false x) → IsOk r
    → CleanedSlot k slot v (is_ok r) x
reaped k slot v u w x shown (Ok t) step waits acks done always = released step waits acks done
reaped k slot v u w x shown (Err s) step waits acks missed always = absurd (true≢false (sym always))

-- a slot's cleaning enters the Release of that slot or nothing, in so many steps at most
pub record Done (most : ℕ) (slots : List ℕ) (v w : View) : Type 0 where
  pub who : w.who ≡ v.who
  pub config : w.config ≡ v.config
  pub own : w.own ≡ map Release slots ++ v.own
  pub asks : w.asks ≡ v.asks
  pub steps : w.steps ≤ v.steps + most

idled_done : (n most : ℕ) (v w : View) → n ≤ most → Idled n v w → Done most [] v w
idled_done n most v w le i = record { who = i.who; config = i.config; own = i.own; asks = i.asks; steps = let e = i.steps in omega arith }

-- steps after steps
done_on : {m n : ℕ} {ss ts : List ℕ} (most : ℕ) (v u w : View) → m + n ≤ most → Done m ss v u → Done n ts u w → Done most (ts ++ ss) v w
done_on {ss = ss} {ts = ts} most v u w le a b = record {
  who = b.who ∙ a.who;
  config = b.config ∙ a.config;
  own = b.own ∙ (ap (λ l. map Release ts ++ l) a.own ∙ (sym (append_assoc (map Release ts) (map Release ss) v.own) ∙ ap (λ l. l ++ v.own) (sym (map-append Release ts ss))));
  asks = b.asks ∙ a.asks;
  steps = let f = a.steps in let g = b.steps in omega arith;
}

missed_done : (k : Config) (slot : ℕ) (v u w : View) (shown : SlotState) → LookedWord slot v shown u → MissesOne k slot shown.issue u w → Done (k.cpus + 2) [] v w
missed_done k slot v u w shown step m = grind (arith, nat_tests, idled_more, idled_acks, done_on, idled_done, idled_load)

reaped_done : (k : Config) (slot : ℕ) (v u x w : View) (shown : SlotState) → LookedWord slot v shown u → Acknowledged slot shown.issue u k.cpus x
    → ReapedWord slot x shown true w → Done (k.cpus + 2) (slot ∷ []) v w
reaped_done k slot v u x w shown step acks done = grind (arith, nat_tests, idled_load, idled_acks)

slot_done : (k : Config) (slot : ℕ) (v w : View) (hit : Bool) → CleanedSlot k slot v hit w → Done (k.cpus + 2) (if hit then slot ∷ [] else []) v w
slot_done k slot v w _ (waits_for_none step none) = idled_done 1 (k.cpus + 2) v w (omega arith) (idled_load slot v w _ step)
slot_done k slot v w _ (waits_for_one step waits m) = missed_done k slot v _ w _ step m
slot_done k slot v w _ (released step waits acks done) = reaped_done k slot v _ _ w _ step acks done

pub slots_done : (k : Config) (v : View) (n : ℕ) (slots : List ℕ) (w : View) → CleanedSlots k v n slots w → Done (n * (k.cpus + 2)) slots v w × (length slots ≤ n)
slots_done k v zero slots w h = grind (arith, nat_tests, idled_done, idled_none)
slots_done k v (suc n) slots w h = grind (arith, nat_tests, slots_done k v n h.0 h.1 h.3, done_on, slot_done)

-- a whole clean
pub all_cleaned : (v : View) (k : Config) (count : ℕ) (slots : List ℕ) (w : View) → v.config ≡ k → count ≡ length slots → CleanedSlots k v k.nspec slots w → Cleaned count v w
all_cleaned v k count slots w same number chain = grind (arith, nat_tests, slots_done)

-- one slot more
pub one_more : (k : Config) (v u w : View) (n count : ℕ) (slots : List ℕ) (hit : Bool) → CleanedSlots k v n slots u → CleanedSlot k (n + 1) u hit w → count ≡ length slots
    → (after : List ℕ) × CleanedSlots k v (n + 1) after w × ((if hit then count + 1 else count) ≡ length after)
one_more k v u w n count slots hit chain step number =
    let e : n + 1 ≡ suc n = omega arith in
    subst (λ m. (after : List ℕ) × CleanedSlots k v m after w × ((if hit then count + 1 else count) ≡ length after)) (sym e)
    ((if hit then suc n ∷ slots else slots), (slots, u, hit, chain, subst (λ m. CleanedSlot k m u hit w) e step, refl), counts hit)
  where
    counts : (hit : Bool) → (if hit then count + 1 else count) ≡ length (if hit then suc n ∷ slots else slots)
    counts true = omega arith
    counts false = number

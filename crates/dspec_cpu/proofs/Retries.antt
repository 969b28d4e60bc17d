-- The steps of a call on the word of its identifier's slot.
use Rattle.std.proofs.Common.{◌≡◌, ◌≢◌, ℕ, ◌+◌, ◌-◌, ◌==◌, ◌<◌, ◌≤◌, ◌&&◌, Bool, true, false, [], if◌then◌else◌, refl, sym, ap, ◌∙◌, subst, inl, arith}
use Rattle.std.proofs.lemmas.Bool.Decides.{nat_tests}
use Rattle.std.specs.Prelude.{nat_le}
use Rattle.dspec_cpu.specs.Words.{Speculation, SlotState, word_number, code_number, speculate_act, commit_act, discard_act, of_cpu, number_of, IsOn, IsInFlight, MayLoad, MayTry, Attempts}
use Rattle.dspec_cpu.specs.Words.{slot_place, Entered, LoadedWord, TriedWord, rests, steps, act_of, turns, is_attempt, releases_next, OwnsCommit, Shown, at_slot, at_word, at_exchange, Code, Active}
use Rattle.dspec_cpu.specs.Words.{ActiveOne, ActiveMany, Act, Void, Attempt, Config, CpuOp, View, Doing}
use Rattle.dspec_deeds.specs.declared.calls.CpuOp.TheVariants as op
use Rattle.dspec_deeds.proofs.TestLemmas.{same_number}
use Rattle.dspec_table.proofs.Flights.{quiet_word, loads_next, tries_next}
use Rattle.dspec_cpu.proofs.Touching.{none_touched, touched_more}

-- how many exchanges may come yet
abbrev pub left : ℕ → Speculation → SlotState → ℕ
left n id w = if (w.issue == id.issue) && nat_le 1 (code_number w.code) then n - code_number w.code else 0

-- an exchange is attempted where a table's turns are left, and one more where a release is to come
pub record IsTurn (n : ℕ) (code : Code) (to : SlotState) : Type 0 where
  pub low : 1 ≤ code_number code
  pub high : code_number code + 1 + releases_next (Attempt to) ≤ n

pub to_is : {a b : SlotState} → Attempt a ≡ Attempt b → a ≡ b
to_is e = cc (e)

turn_by : (n : ℕ) (code : Code) (a b : SlotState) → Attempt a ≡ Attempt b → 1 ≤ code_number code → code_number code + 1 + releases_next (Attempt a) ≤ n → IsTurn n code b
turn_by n code a b e low high = record { low = low; high = subst (λ (x : SlotState). code_number code + 1 + releases_next (Attempt x) ≤ n) (to_is e) high }

speculate_turn : (i : ℕ) (mine : Bool) (code : Code) (to : SlotState) → speculate_act i mine code ≡ Attempt to → IsTurn 3 code to
speculate_turn i mine Active to e = turn_by 3 Active _ to e (omega arith) (omega arith)
speculate_turn i false ActiveOne to e = turn_by 3 ActiveOne _ to e (omega arith) (omega arith)
speculate_turn i mine code to e = absurd (cc (e))

commit_turn : (i : ℕ) (mine : Bool) (code : Code) (to : SlotState) → commit_act i mine code ≡ Attempt to → IsTurn 4 code to
commit_turn i mine Active to e = turn_by 4 Active _ to e (omega arith) (omega arith)
commit_turn i true ActiveOne to e = turn_by 4 ActiveOne _ to e (omega arith) (omega arith)
commit_turn i false ActiveOne to e = turn_by 4 ActiveOne _ to e (omega arith) (omega arith)
commit_turn i mine ActiveMany to e = turn_by 4 ActiveMany _ to e (omega arith) (omega arith)
commit_turn i mine code to e = absurd (cc (e))

discard_turn : (i : ℕ) (mine : Bool) (code : Code) (to : SlotState) → discard_act i mine code ≡ Attempt to → IsTurn 4 code to
discard_turn i mine Active to e = turn_by 4 Active _ to e (omega arith) (omega arith)
discard_turn i true ActiveOne to e = turn_by 4 ActiveOne _ to e (omega arith) (omega arith)
discard_turn i false ActiveOne to e = turn_by 4 ActiveOne _ to e (omega arith) (omega arith)
discard_turn i mine ActiveMany to e = turn_by 4 ActiveMany _ to e (omega arith) (omega arith)
discard_turn i mine code to e = absurd (cc (e))

-- and only at a word of the identifier's issue; nor is anything granted elsewhere
pub here_or_void : (b : Bool) (a x : Act) → (if b then a else Void) ≡ x → x ≢ Void → (b ≡ true) × (a ≡ x)
here_or_void true a x e n = (refl, e)
here_or_void false a x e n = absurd (n (sym e))

pub attempt_is : (to : SlotState) → Attempt to ≢ Void
attempt_is to q = absurd (cc (q))

pub record IsAttempted (n : ℕ) (id : Speculation) (word to : SlotState) : Type 0 where
  pub now : (word.issue == id.issue) ≡ true
  pub turn : IsTurn n word.code to

pub attempted : (id : Speculation) (o : CpuOp) (word to : SlotState) (mine : Bool) → IsOn id o → act_of o word mine ≡ Attempt to → IsAttempted (turns o) id word to
attempted = grind (arith, nat_tests, here_or_void, attempt_is, speculate_turn, commit_turn, discard_turn)

pub attempts : (doing : Doing) (id : Speculation) (o : CpuOp) (word to : SlotState) → IsOn id o → act_of o word doing.mine ≡ Attempt to → Attempts doing word to o
attempts = grind (arith, nat_tests)

-- turns that are left at a word
left_here : (n : ℕ) (id : Speculation) (word to : SlotState) → IsAttempted n id word to → left n id word ≡ n - code_number word.code
left_here n id word to a = grind (arith, nat_tests)

left_by : (n : ℕ) (w : SlotState) (b c : Bool) → (c ≡ true → 1 ≤ code_number w.code) → 1 ≤ n → (if b && c then n - code_number w.code else 0) + 1 ≤ n
left_by n w true true low most = let l = low refl in omega arith
left_by n w b c low most = omega arith

pub left_bound : (n : ℕ) (id : Speculation) (w : SlotState) → 1 ≤ n → left n id w + 1 ≤ n
left_bound n id w most = left_by n w (w.issue == id.issue) (nat_le 1 (code_number w.code)) (λ t. grind (arith, nat_tests)) most

-- an exchange that failed leaves fewer
pub fewer : (n : ℕ) (id : Speculation) (word to shown : SlotState) → IsAttempted n id word to → word_number word < word_number shown → left n id shown + 1 ≤ left n id word
fewer n id word to shown a greater = grind (arith, nat_tests, left_here, same_number)

pub turns_some : (o : CpuOp) → 1 ≤ turns o
turns_some (op.Speculate id r) = omega arith
turns_some o = omega arith

flies : (k : Config) (v : View) (c slot : ℕ) (doing : Doing) (id : Speculation) (o : CpuOp) → IsOn id o → MayLoad k v c doing slot o → IsInFlight k v c doing id slot
flies = grind (arith, nat_tests)

-- a word enters the same, loaded or shown by an exchange that failed
missed_as_loaded : (k : Config) (c slot : ℕ) (doing : Doing) (w : SlotState) (id : Speculation) (o : CpuOp) → IsOn id o → at_exchange k c doing slot w false o ≡ at_word k c doing slot w o
missed_as_loaded = grind (arith, nat_tests)

pub loaded_steps : (doing : Doing) (id : Speculation) (slot : ℕ) (v : View) (shown : SlotState) (w : View) → LoadedWord doing slot v shown w
    → w.steps + left (turns doing.op) id shown ≤ v.steps + turns doing.op
loaded_steps doing id slot v shown w step = grind (arith, nat_tests, left_bound, turns_some)

module _ {k : Config} {c : ℕ} {doing : Doing} {id : Speculation} {slot : ℕ} {v : View} (config : v.config ≡ k) (who : v.who ≡ of_cpu c) where
  -- the first load
  pub loaded : (shown : SlotState) (w : View) → IsOn id doing.op → IsInFlight k v c doing id slot → LoadedWord doing slot v shown w → Shown k c doing id slot v shown false w
  loaded shown w on flight step = record {
    before = v;
    waited = rests;
    stays = refl;
    who = refl;
    config = refl;
    flight = flight;
    last =
        (step.0, step.1, step.2, subst (λ ds. Entered (slot_place slot) v step.0 ds w) (sym (missed_as_loaded v.config (number_of v.who) slot doing shown id doing.op on)) step.3);
    worked = none_touched (at_slot slot) v;
  }

  module _ {word to : SlotState} {w : View} (on : IsOn id doing.op) (shows : Shown k c doing id slot v word false w) (e : act_of doing.op word doing.mine ≡ Attempt to) where
    shows_word : LoadedWord doing slot shows.before word w
    shows_word = (
      shows.last.0,
      shows.last.1,
      shows.last.2,
      subst (λ ds. Entered (slot_place slot) shows.before shows.last.0 ds w) (missed_as_loaded shows.before.config (number_of shows.before.who) slot doing word id doing.op on) shows.last.3,
    )

    pub may_try : MayTry k w c doing slot word to
    may_try = tries_next k shows.before w c slot doing id word to (shows.who ∙ who) on shows.flight shows_word (attempts doing id doing.op word to on e)

    none_yet : Entered (slot_place slot) shows.before shows.last.0 [] w
    none_yet = subst (λ ds. Entered (slot_place slot) shows.before shows.last.0 ds w)
        (missed_as_loaded shows.before.config (number_of shows.before.who) slot doing word id doing.op on
        ∙ quiet_word shows.before.config (number_of shows.before.who) slot doing word to doing.op (attempts doing id doing.op word to on e)) shows.last.3

    -- an exchange
    pub tried : (shown : SlotState) (hit : Bool) (new : View) → TriedWord doing slot w shown hit new → Shown k c doing id slot v shown hit new
    tried shown hit new step = record {
      before = w;
      waited = steps w [] [] shows.last.0 shows.waited shows.last.1 (inl none_yet) refl;
      stays = ap (λ (x : View). x.own) none_yet.view ∙ shows.stays;
      who = ap (λ (x : View). x.who) none_yet.view ∙ shows.who;
      config = ap (λ (x : View). x.config) none_yet.view ∙ shows.config;
      flight = flies k w c slot doing id doing.op on may_try.0;
      last = step;
      worked = touched_more (at_slot slot) v shows.before w (slot_place slot) shows.worked (ap (λ (x : View). x.touched) none_yet.view) refl;
    }

    -- one that failed leaves fewer, and no more steps than were left
    pub fewer_left : (shown : SlotState) → word_number word < word_number shown → left (turns doing.op) id shown + 1 ≤ left (turns doing.op) id word
    fewer_left shown greater = fewer (turns doing.op) id word to shown (attempted id doing.op word to doing.mine on e) greater

    pub hit_steps : (new : View) → TriedWord doing slot w word true new → w.steps + left (turns doing.op) id word ≤ v.steps + turns doing.op
        → new.steps + releases_next (Attempt to) ≤ v.steps + turns doing.op
    hit_steps new step le =
        let a = attempted id doing.op word to doing.mine on e in
        let here = left_here (turns doing.op) id word to a in
        let high = a.turn.high in
        let one : new.steps ≡ w.steps + 1 = ap (λ (x : View). x.steps) step.3.view in
        omega arith

pub no_attempt : (a : Act) → ((x : SlotState) → a ≡ Attempt x → ⊥) → is_attempt a ≡ false
no_attempt (Attempt x) n = absurd (n x refl)
no_attempt a n = refl

pub no_release : (a : Act) → ((x : SlotState) → a ≡ Attempt x → ⊥) → releases_next a ≡ 0
no_release (Attempt x) n = absurd (n x refl)
no_release a n = refl

pub step_made : (doing : Doing) (slot : ℕ) (v : View) (shown : SlotState) (w : View) → TriedWord doing slot v shown false w → w.steps ≡ v.steps + 1
step_made doing slot v shown w step = ap (λ (x : View). x.steps) step.3.view

pub loads : (k : Config) (v : View) (c slot : ℕ) (doing : Doing) (id : Speculation) → IsOn id doing.op → IsInFlight k v c doing id slot → MayLoad k v c doing slot doing.op
loads = loads_next

pub none_owned : (k : Config) (c slot : ℕ) (w : View) (a : Act) → ((x : SlotState) → a ≡ Attempt x → ⊥) → OwnsCommit k c slot w a
none_owned k c slot w (Attempt x) n = absurd (n x refl)
none_owned k c slot w a n = tt

-- Cited by calls. What a step does to its seat's view: by what it showed, and the deeds that it entered.
use Rattle.std.specs.Prelude.{ℕ, ◌≡◌, ◌⊎◌, ◌<◌, ◌≤◌, ◌+◌, Bool, true, false, List, [], ◌∷◌, ◌++◌, if◌then◌else◌, Result, MatchResult, IfOk, IfErr}
use Rattle.dspec_table.specs.{Acts.at_activity, Acts.nothing, Acts.at_word, Acts.at_exchange, Acts.at_stop, Flights.AreOf, Flights.flight_after, Flights.calling, Holders.part_of, Holders.of_nobody}
use Rattle.dspec_table.specs.{Holders.number_of, Layout.activity_place, Layout.slot_place, Layout.ack_place, Seats.known, Seats.IsAt, Seats.cpu_of, Since.Since, Words.Outside.Speculation}
use Rattle.dspec_table.specs.{Words.Outside.SlotState, Words.Outside.word_number, Words.Outside.CanBeReleased, Words.Outside.owed, Words.Outside.halted, Words.Outside.word_at, Words.Outside.ack}
use Rattle.dspec_table.specs.{Words.Outside.IsSound, Words.Outside.settled_fate, Words.Outside.Code, Words.Outside.Deed, Words.Outside.Settle, Words.Outside.Release, declared.doing.Doing.Doing}
use Rattle.dspec_table.specs.{declared.rule.View.View, declared.seats.CpuSeat.CpuSeat, declared.seats.Words.Words}
use Rattle.dspec_deeds.specs.declared.calls.CpuOp.TheVariants as op

-- the view after a step on the word at that place, with deeds of its own after the list that the step found, where it then knows
-- these asks
abbrev pub with_asks : ℕ → View → List Deed → List Deed → List ℕ → View
with_asks place v log ds asks = record {
  config = v.config;
  who = v.who;
  own = ds ++ v.own;
  also = v.also;
  seen = ds ++ log;
  told = [];
  flight = flight_after v.config v.flight ds;
  steps = v.steps + 1;
  touched = place ∷ v.touched;
  asks = asks;
  past = v.past;
}

-- the same with the asks that it knew
abbrev pub acted : ℕ → View → List Deed → List Deed → View
acted place v log ds = with_asks place v log ds v.asks

-- the list that the step found: it is legal, it goes on from what the seat had seen and from what a note had told it, by
-- deeds of others, and the seat's part of it is the seat's list
pub record Found (v : View) (log : List Deed) : Type 0 where
  pub since : Since v.who v.seen log
  pub told : Since of_nobody v.told log
  pub sound : IsSound v.config log
  pub rests : owed log ≡ 0
  pub own : part_of v.who log ≡ v.own
  pub calm : owed v.seen ≡ 0

-- the list that the step left is legal and owes nothing, the seat's part of it is the seat's list, the deeds of a call are of
-- the one in flight, and the view is the one after its deeds, with the place of the step
pub record Entered (place : ℕ) (v : View) (log ds : List Deed) (w : View) : Type 0 where
  pub sound : IsSound v.config (ds ++ log)
  pub rests : owed (ds ++ log) ≡ 0
  pub own : part_of v.who (ds ++ log) ≡ ds ++ v.own
  pub call : AreOf v.flight ds
  pub view : w ≡ acted place v log ds

-- what a step of a chain enters: a load of activity enters its call's deeds with that call in flight, any other step what it
-- enters with the one that was
abbrev pub EnteredIn : ℕ → View → List Deed → List Deed → View → Type 0
EnteredIn place v log ds w =
    Entered place v log ds w
    ⊎ ((doing : Doing) × (ds ≡ at_activity v.config (number_of v.who) doing doing.op (halted log)) × Entered place (calling doing.op v) log ds w)

-- the steps of a CPU

abbrev pub LoadedActivity : Doing → View → Bool → View → Type 0
LoadedActivity doing v stopped w =
    (log : List Deed) × Found v log × (stopped ≡ halted log)
    × Entered activity_place (calling doing.op v) log (at_activity v.config (number_of v.who) doing doing.op stopped) w

abbrev pub LoadedWord : Doing → ℕ → View → SlotState → View → Type 0
LoadedWord doing slot v shown w =
    (log : List Deed) × Found v log × (shown ≡ word_at slot log)
    × Entered (slot_place slot) v log (at_word v.config (number_of v.who) doing slot shown doing.op) w

-- the same, of the number that was found
abbrev pub LoadedNumber : Doing → ℕ → View → ℕ → View → Type 0
LoadedNumber doing slot v n w = (shown : SlotState) × (n ≡ word_number shown) × LoadedWord doing slot v shown w

-- an exchange that hit or missed: shown is the word that it found
abbrev pub OpenedWord : ℕ → View → SlotState → Bool → View → Type 0
OpenedWord slot v shown hit w =
    (log : List Deed) × Found v log × (shown ≡ word_at slot log)
    × Entered (slot_place slot) v log (at_exchange v.config (number_of v.who) nothing slot shown hit op.Speculation) w

-- the same, of the number that was found; where the exchange for new hit, the list shows new now
abbrev pub OpenedNumber : ℕ → View → ℕ → ℕ → Bool → View → Type 0
OpenedNumber slot v new n hit w =
    (shown : SlotState) × (n ≡ word_number shown) × OpenedWord slot v shown hit w × (hit ≡ true → new ≡ word_number (word_at slot w.seen))

abbrev pub TriedWord : Doing → ℕ → View → SlotState → Bool → View → Type 0
TriedWord doing slot v shown hit w =
    (log : List Deed) × Found v log × (shown ≡ word_at slot log)
    × Entered (slot_place slot) v log (at_exchange v.config (number_of v.who) doing slot shown hit doing.op) w

abbrev pub TriedNumber : Doing → ℕ → View → ℕ → ℕ → Bool → View → Type 0
TriedNumber doing slot v new n hit w =
    (shown : SlotState) × (n ≡ word_number shown) × TriedWord doing slot v shown hit w × (hit ≡ true → new ≡ word_number (word_at slot w.seen))

-- What the seat's exchange of a slot's word from one to another came to, in a step of the call in flight. The seat stays that of
-- its CPU at these words. Where it hit, it found the one, and the list shows the other now; where it missed, it found a greater word,
-- from which the slot can be released.
pub record TriedExchange {T : Type 0} (words : Words) (doing : Doing) (slot : ℕ) (from to : SlotState) (old new : CpuSeat) (found : Result T SlotState) : Type 0 where
  pub seat : IsAt words new × (cpu_of new ≡ cpu_of old)
  pub step : MatchResult found (λ _. TriedWord doing slot (known old) from true (known new)) (λ shown. TriedWord doing slot (known old) shown false (known new))
  pub word : IfOk found (λ _. word_at slot (known new).seen ≡ to)
  pub greater : IfErr found (λ shown. word_number from < word_number shown)
  pub limit : IfErr found (λ shown. CanBeReleased shown)

abbrev pub ReleasedWord : ℕ → View → View → Type 0
ReleasedWord slot v w = (log : List Deed) × Found v log × Entered (slot_place slot) v log (Release slot ∷ []) w

abbrev pub SettledWord : Doing → Speculation → Code → View → View → Type 0
SettledWord doing id code v w =
    (log : List Deed) × Found v log
    × Entered (ack_place v.config (number_of v.who) id.slot) v log (Settle (number_of v.who) id (settled_fate code doing.fits doing.count) ∷ []) w

-- the same, of whichever speculation the word and the number stored are of
abbrev pub StoredAck : Doing → ℕ → View → ℕ → View → Type 0
StoredAck doing place v n w =
    (log : List Deed) × (d : Deed) × Found v log
    × ((id : Speculation) → place ≡ ack_place v.config (number_of v.who) id.slot → n ≡ id.issue + 1
    → d ≡ Settle (number_of v.who) id (settled_fate (word_at id.slot v.seen).code doing.fits doing.count))
    × Entered place v log (d ∷ []) w

-- the steps of the consumer

abbrev pub StoredActivity : View → View → Type 0
StoredActivity v w = (log : List Deed) × Found v log × Entered activity_place v log (at_stop (halted log)) w

-- a load of the word at that place that enters nothing
abbrev pub Looked : ℕ → View → View → Type 0
Looked place v w = (log : List Deed) × Found v log × (w ≡ acted place v log [])

abbrev pub LookedWord : ℕ → View → SlotState → View → Type 0
LookedWord slot v shown w = (log : List Deed) × Found v log × (shown ≡ word_at slot log) × (w ≡ acted (slot_place slot) v log [])

abbrev pub LookedNumber : ℕ → View → ℕ → View → Type 0
LookedNumber slot v n w = (shown : SlotState) × (n ≡ word_number shown) × LookedWord slot v shown w

abbrev pub LoadedAck : ℕ → ℕ → View → ℕ → View → Type 0
LoadedAck c s v n w = (log : List Deed) × Found v log × (n ≡ ack c s log) × (w ≡ acted (ack_place v.config c s) v log [])

-- the same, of whichever CPU and slot the word is of
abbrev pub LoadedAckAt : ℕ → View → ℕ → View → Type 0
LoadedAckAt place v n w =
    (log : List Deed) × Found v log
    × ((c s : ℕ) → c < v.config.cpus → 1 ≤ s → s ≤ v.config.nspec → place ≡ ack_place v.config c s → n ≡ ack c s log)
    × (w ≡ acted place v log [])

abbrev pub ReapedWord : ℕ → View → SlotState → Bool → View → Type 0
ReapedWord slot v shown hit w =
    (log : List Deed) × Found v log × (shown ≡ word_at slot log) × Entered (slot_place slot) v log (if hit then Release slot ∷ [] else []) w

abbrev pub ReapedNumber : ℕ → View → ℕ → Bool → View → Type 0
ReapedNumber slot v n hit w = (shown : SlotState) × (n ≡ word_number shown) × ReapedWord slot v shown hit w

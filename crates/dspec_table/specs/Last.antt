-- Cited by calls. What is known once all seats are back.
use Rattle.std.specs.Mem.Slots.{slots_items}
use Rattle.std.specs.Prelude.{ℕ, ◌≡◌, ◌⊎◌, ◌<◌, ◌≤◌, List, [], ◌∷◌, length, slice_get, slice_index, Some}
use Rattle.atomic_table.specs.Seated.{TableId}
use Rattle.dspec_table.specs.{Holders.of_cpu, Holders.of_consumer, Layout.ask_place, Notes.past_of, Seats.known, Seats.IsAt, Showing.Shows, Since.Since, Words.Outside.Config, Words.Outside.Cpu}
use Rattle.dspec_table.specs.{Words.Outside.Consumer, Words.Outside.Deed, Words.Outside.owed, Words.Outside.part, Words.Outside.IsSound, Words.Outside.HasAuthors, declared.last.LastWords.LastWords}
use Rattle.dspec_table.specs.{declared.rule.View.View, declared.seats.CpuSeat.CpuSeat, declared.seats.Words.Words}

-- the numbers that the words had last
abbrev pub last_words : LastWords → List ℕ
last_words last = slots_items last.closed.words

-- what they were started with
abbrev pub last_set_up : LastWords → Config
last_set_up last = last.config

abbrev pub In : {A : Type 0} → A → List A → Type 0
In p [] = ⊥
In p (q ∷ qs) = (p ≡ q) ⊎ In p qs

abbrev pub AllAt : TableId → List CpuSeat → Type 0
AllAt z seats = (c : ℕ) (s : CpuSeat) → slice_get seats c ≡ Some s → s.seat.table_id ≡ z

-- the view has the deeds of each of these seats
abbrev pub Joined : List CpuSeat → View → Type 0
Joined seats v = (c : ℕ) (s : CpuSeat) → slice_get seats c ≡ Some s → In ((known s).who, (known s).own) v.also

-- and what each of them knew
abbrev pub Recalled : List CpuSeat → View → Type 0
Recalled seats v = (c : ℕ) (s : CpuSeat) → slice_get seats c ≡ Some s → In (past_of (known s)) v.past

-- the seats of all CPUs, in order
pub record AreSeats (words : Words) (seats : List CpuSeat) : Type 0 where
  pub all : length seats ≡ words.config.cpus
  pub each : (c : ℕ) (s : CpuSeat) → slice_get seats c ≡ Some s → IsAt words s × (s.cpu ≡ c)

-- There is one list, legal in its common part, which the last words show. Each CPU's part of it is its seat's list, the
-- consumer's part is its seat's, and every deed of it is some seat's own. What each had seen begins it, and goes on by deeds of
-- others. The last asks are those that the consumer knows, and no CPU was told of more.
pub record Ended (k : Config) (words : List ℕ) (seats : List CpuSeat) (consumer : View) : Type 0 where
  pub log : List Deed
  pub sound : IsSound k log
  pub rests : owed log ≡ 0
  pub shows : Shows k words log
  pub authors : HasAuthors k log
  pub since_each : (c : ℕ) (s : CpuSeat) → slice_get seats c ≡ Some s → Since (of_cpu c) (known s).seen log
  pub since_consumer : Since of_consumer consumer.seen log
  pub of_each : (c : ℕ) (s : CpuSeat) → slice_get seats c ≡ Some s → part (Cpu c) log ≡ (known s).own
  pub of_consumer : part Consumer log ≡ consumer.own
  pub asks : (c : ℕ) → c < k.cpus → slice_index words (ask_place k c) ≡ slice_index consumer.asks c
  pub asked : (c : ℕ) (s : CpuSeat) → slice_get seats c ≡ Some s → (a : ℕ) → a < k.cpus → slice_index (known s).asks a ≤ slice_index consumer.asks a

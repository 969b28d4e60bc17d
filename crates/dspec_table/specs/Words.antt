-- Serves proofs. The words of this crate for its proofs and for the crates above, in one place. Declares nothing.
pub mod Outside
unfoldable pub use Outside.*
pub use Rattle.dspec_table.specs.Acts.{at_activity, at_exchange, at_stop, at_word, deeds_at, nothing, seen, shown, trying}
pub use Rattle.dspec_table.specs.Asks.{LoadedAsk, StoredAsk, StoredAskAt, with_ask}
pub use Rattle.dspec_table.specs.Conditions.{as_active, Attempts, CommitsNow, IfCommitting, IsDeciding, IsInFlight, IsOn, MayLoad, MayOpen, MayReap, MaySettle, MayTry, OwnCommit}
pub use Rattle.dspec_table.specs.Flights.{AreOf, calling, flight_after}
pub use Rattle.dspec_table.specs.Holders.{doer, Holder, number_of, of_consumer, of_cpu, of_nobody, part_of, same_holder}
pub use Rattle.dspec_table.specs.Last.{AllAt, AreSeats, Ended, In, Joined, last_set_up, last_words, Recalled}
pub use Rattle.dspec_table.specs.Layout.{ack_place, activity_place, ask_place, group_place, group_width, slot_at, slot_place, word_count}
pub use Rattle.dspec_table.specs.Notes.{answered, dealt, first_of_those, gathered, greater, heard, nobody, note, others, past_of, without}
pub use Rattle.dspec_table.specs.Owners.{HasOneSeat}
pub use Rattle.dspec_table.specs.Rule.{cpus_from, Each, HaveSeats, held_in_all, holdings, Knows, KnowsAsks, Least, newcomer, Parts, Remembers, times_among, WordsRule}
pub use Rattle.dspec_table.specs.SameSteps.{consumer_deeds, ConsumerSeatStep, Exchanges, IsMine, IsSameCall, IsStepOfPlay, Measures, seat_reads, SeatStep, slot_there}
pub use Rattle.dspec_table.specs.Seats.{cpu_of, dealing, DealtSeats, fresh_seat, FreshSeats, IsAt, IsConsumerAt, known, known_there, last_seat, set_up}
pub use Rattle.dspec_table.specs.Showing.{activity, AreWords, IsWordNumber, Shows, word}
pub use Rattle.dspec_table.specs.Since.{here, more, Since}
pub use Rattle.dspec_table.specs.Steps.{acted, Entered, EnteredIn, Found, LoadedAck, LoadedAckAt, LoadedActivity, LoadedNumber, LoadedWord, Looked, LookedNumber, LookedWord, OpenedNumber}
pub use Rattle.dspec_table.specs.Steps.{OpenedWord, ReapedNumber, ReapedWord, ReleasedWord, SettledWord, StoredAck, StoredActivity, TriedNumber, TriedWord, with_asks}

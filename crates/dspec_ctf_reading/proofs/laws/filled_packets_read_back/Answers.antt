use Rattle.std.proofs.Common.{◌≡◌, Bool, true, false, refl}
use Rattle.dspec_ctf_reading.specs.Words.{Header, is_timed, names_by}
use Rattle.dspec_record.specs.declared.header.Header.TheVariants as header
use Rattle.dspec_ctf_reading.proofs.{EventsRead.HasStamps, EventsRead.stamps-with-two, FilledRead.filled-all}
use Rattle.dspec_ctf_reading.proofs.laws.filled_packets_read_back.Goals as goal

stamps-if-timed : (timed : Bool) (h : Header) → (timed ≡ true → h ≡ header.Two) → HasStamps timed h
unfolding HasStamps
stamps-if-timed true h two = stamps-with-two h (two refl)
stamps-if-timed false h two = tt

pub returns : goal.returns
returns c = λ e names form uuid missed cpu rs two long low small of_rs.
    filled-all (names_by names) (is_timed form) e (stamps-if-timed (is_timed form) e.header two)
    uuid cpu long small missed rs low of_rs

-- Cited by calls. The numbers that a trace's metadata tells, as they are in memory: each has 64 bits at the most, and a uuid is made of bytes.
use Rattle.std.specs.{Option.option_map_or, Prelude.ℕ, Prelude.◌<◌, Prelude.◌≤◌, Prelude.◌^◌, Prelude.[], Prelude.All, Prelude.length, Prelude.unwrap_or}
use Rattle.dspec_ctf_reading.specs.Layouts.{given_for}
use Rattle.dspec_ctf_reading.specs.Words.Outside.{EnabledRows, event_fields, labels_at, Origin, Names, Form, AsTaken, ByTime}

abbrev pub ticks_of : Form → ℕ
ticks_of AsTaken = 0
ticks_of (ByTime frequency) = frequency

pub record HasNumbers (origin : Origin) (form : Form) (e : EnabledRows) (names : Names) : Type 0 where
  pub uuid : All (λ b. b < 256) origin.uuid
  pub pid : option_map_or (λ p. p.pid) origin.process 0 < 2 ^ 64
  pub frequency : ticks_of form < 2 ^ 64
  pub clock : All (λ b. b < 256) (option_map_or (λ s. unwrap_or s.clock []) origin.start [])
  pub seconds : option_map_or (λ s. s.seconds) origin.start 0 < 2 ^ 64
  pub ticks : option_map_or (λ s. s.ticks) origin.start 0 < 2 ^ 64
  pub events : length e.rows < 2 ^ 64
  pub fields : (epid : ℕ) → length (event_fields e epid) ≤ 8
  pub labels : (epid place : ℕ) → option_map_or (λ n. length (labels_at n place)) (given_for names epid) 0 ≤ 2 ^ 64

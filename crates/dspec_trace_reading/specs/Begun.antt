-- Serves proofs. A trace that is begun in a folder, and why none is.
use Rattle.std.specs.Option.{option_map_or}
use Rattle.std.specs.Prelude.{ℕ, ◌≡◌, ◌≢◌, ◌<◌, ◌^◌, List, [], ◌∷◌, All, length, unwrap_or, Option, Some, None}
use Rattle.dspec_trace_reading.specs.Folders.{AreNamesOf, TellsProgram}
use Rattle.dspec_trace_reading.specs.Words.Outside.{EnabledRows, start_fault, IsTimedBegun, TimedTracing, IsBegun, Tracing, FileWrite, LeaveNone, made_at, Config, StartFault, ProbeNames, Names}
use Rattle.dspec_trace_reading.specs.Words.Outside.{ClockStart, Origin}
use Rattle.dspec_trace_reading.specs.declared.fault.ToFolderFault.{ToFolderFault, TheVariants.Start, TheVariants.Folder}
use Rattle.dspec_deeds.specs.declared.config.StartFault.TheVariants as start

-- the numbers that an origin tells have 64 bits, and its uuids are made of bytes
pub record HasOriginNumbers (origin : Origin) : Type 0 where
  pub uuid : All (λ b. b < 256) origin.uuid
  pub pid : option_map_or (λ p. p.pid) origin.process 0 < 2 ^ 64
  pub clock : All (λ b. b < 256) (option_map_or (λ s. unwrap_or s.clock []) origin.start [])
  pub seconds : option_map_or (λ s. s.seconds) origin.start 0 < 2 ^ 64
  pub ticks : option_map_or (λ s. s.ticks) origin.start 0 < 2 ^ 64

-- the metadata was written into a folder that had no file, and no packet yet
pub record BegunNew (origin : Origin) (e : EnabledRows) (names : Names) (begun : Tracing) : Type 0 where
  pub before : List FileWrite
  pub new : LeaveNone before
  pub begins : IsBegun origin e names (Some before) begun

pub record TimedBegunNew (origin : Origin) (hertz : ℕ) (e : EnabledRows) (names : Names) (begun : TimedTracing) : Type 0 where
  pub before : List FileWrite
  pub new : LeaveNone before
  pub begins : IsTimedBegun origin hertz e names (Some before) begun

-- the metadata of these probes, and of a program of this name, was written into the folder of this path, which had no file, and no packet yet
pub record IsBegunTrace (e : EnabledRows) (ps : List ProbeNames) (path name uuid : List ℕ) (begun : Tracing) : Type 0 where
  pub origin : Origin
  pub names : Names
  pub named : AreNamesOf ps names
  pub whose : TellsProgram origin uuid name None
  pub is : IsBegun origin e names (Some (made_at path ∷ [])) begun
  pub long : length origin.uuid ≡ 16
  pub numbers : HasOriginNumbers origin

-- the same of a folder by time, with a clock that began so
pub record IsBegunByTime (e : EnabledRows) (ps : List ProbeNames) (path name : List ℕ) (hertz : ℕ) (start : Option ClockStart) (uuid : List ℕ) (begun : TimedTracing) : Type 0 where
  pub origin : Origin
  pub names : Names
  pub named : AreNamesOf ps names
  pub whose : TellsProgram origin uuid name start
  pub is : IsTimedBegun origin hertz e names (Some (made_at path ∷ [])) begun
  pub long : length origin.uuid ≡ 16
  pub numbers : HasOriginNumbers origin
  pub frequency : hertz < 2 ^ 64

-- no session starts: by the first number of the configuration that is out of range, or else for want of memory
pub record CantStart (k : Config) (fault : StartFault) : Type 0 where
  pub range : fault ≢ start.Memory → start_fault k ≡ Some fault
  pub memory : fault ≡ start.Memory → start_fault k ≡ None

-- the same, or the folder refused where the configuration is in range
abbrev pub RefusesFolder : Config → ToFolderFault → Type 0
RefusesFolder k (Start fault) = CantStart k fault
RefusesFolder k (Folder fault) = start_fault k ≡ None

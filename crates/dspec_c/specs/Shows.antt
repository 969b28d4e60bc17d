-- Cited by calls. What C reads of reports, batches, open paths and their counts, and parked blocks.
use Rattle.std.specs.Prelude.{ℕ, ◌≡◌, length}
use Rattle.dspec_c.specs.{Statuses.id_or_zero, Words.Outside.id_number, Words.Outside.Report, Words.Outside.Batch, Words.Outside.OpenPath, Words.Outside.PathCounts, Words.Outside.ParkedBlock}
use Rattle.dspec_c.specs.{Words.Outside.ParkingCounts, Words.Outside.PassedPlaces, declared.batches.CBatch.CBatch, declared.open_path.COpenPath.COpenPath, declared.parked.CParked.CParked}
use Rattle.dspec_c.specs.{declared.parked.CParkedCounts.CParkedCounts, declared.parked.CPassed.CPassed, declared.path_counts.CPathCounts.CPathCounts, declared.reports.CReport.CReport}

-- the same counts, each at its name, and how many records were refused
pub record TellsReport (c : CReport) (r : Report) (n : ℕ) : Type 0 where
  pub offered : c.offered ≡ r.offered
  pub accepted : c.accepted ≡ r.accepted
  pub dropped : c.dropped ≡ r.dropped
  pub specdropped : c.specdropped ≡ r.specdropped
  pub lost : c.lost ≡ r.lost
  pub discarded : c.discarded ≡ r.discarded
  pub void : c.void ≡ r.void
  pub held : c.held ≡ r.held
  pub drops : c.drops ≡ r.drops
  pub unavailable : c.unavailable ≡ r.unavailable
  pub busy : c.busy ≡ r.busy
  pub stopped : c.stopped ≡ r.stopped
  pub worn : c.worn ≡ r.worn
  pub refused : c.refused ≡ n

-- whose batch it is, its drops, and how many bytes it has
pub record TellsBatch (c : CBatch) (b : Batch) : Type 0 where
  pub cpu : c.cpu ≡ b.cpu
  pub drops : c.drops ≡ b.drops
  pub len : c.len ≡ length b.buffer.text

-- an open path, field by field
pub record TellsOpenPath (c : COpenPath) (p : OpenPath) : Type 0 where
  pub newest : c.newest ≡ id_number p.newest
  pub older : c.older ≡ id_or_zero p.older
  pub begun : c.begun ≡ p.begun
  pub number : c.number ≡ p.number
  pub thread : c.thread ≡ p.thread
  pub cut : c.cut ≡ p.cut
  pub is_kept : c.is_kept ≡ p.is_kept

-- the counts of a table, field by field
pub record TellsPathCounts (c : CPathCounts) (p : PathCounts) : Type 0 where
  pub began : c.began ≡ p.began
  pub kept : c.kept ≡ p.kept
  pub thrown_away : c.thrown_away ≡ p.thrown_away
  pub lost : c.lost ≡ p.lost

-- a parked block, what a ring's tail passed, and what became of the blocks
abbrev pub told_block : ParkedBlock → CParked
told_block b = record { key_high = b.key.high; key_low = b.key.low; stamp = b.stamp; length = b.length }

abbrev pub told_passed : PassedPlaces → CPassed
told_passed gone = record { places = gone.places; blocks = gone.blocks }

abbrev pub told_counts : ParkingCounts → CParkedCounts
told_counts c = record { parked = c.parked; kept = c.kept; evicted = c.evicted; expired = c.expired; standing = c.standing }

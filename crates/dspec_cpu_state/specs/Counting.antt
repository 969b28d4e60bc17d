-- Cited by calls. The counts that a CPU keeps, read off its own list. The records held are what is left of those offered.
use Rattle.std.specs.Prelude.{ℕ, ◌+◌, ◌-◌, ◌^◌, ◌<◌, Bool, true, false, not, ◌&&◌, nat_lt, List, if◌then◌else◌}
use Rattle.dspec_cpu_state.specs.Words.Outside.{Config, TraceFate, SpeculateFate, DecideFate, Deed, Opening, Report, trace_kept, trace_dropped, trace_stopped, spoken_dropped, spoken_nowhere}
use Rattle.dspec_cpu_state.specs.Words.Outside.{spoken_stopped, is_copied, is_lost, is_discard, count_of, decided_stopped, offers, is_drop, total, one_if, accepts_now, traces_dropped_now}
use Rattle.dspec_cpu_state.specs.Words.Outside.{specdrops_now, loses_now, discards_now, voids_now, stops_now, busy_fails, other_fails}
use Rattle.dspec_cpu_state.specs.declared.counts.Counts.{Counts}
use Rattle.dspec_deeds.specs.declared.calls.Opening.TheVariants as opening

-- the counts of a list, and of so many calls that were answered Worn
abbrev pub counts_of : Config → ℕ → ℕ → List Deed → Counts
counts_of k c worn p = record {
  offered = offers c p;
  accepted = total (accepts_now c) p;
  dropped = total (traces_dropped_now c) p;
  specdropped = total (specdrops_now c) p;
  lost = total (loses_now c) p;
  discarded = total (discards_now c) p;
  void = total (voids_now c) p;
  drops = total (λ d. one_if (is_drop c d)) p;
  unavailable = other_fails k c p;
  busy = busy_fails k c p;
  stopped = total (stops_now c) p;
  worn = worn;
}

-- one call more that was answered Worn; the count stays at the greatest number of 64 bits
abbrev pub one_more_worn : ℕ → ℕ
one_more_worn n = if nat_lt (n + 1) (2 ^ 64) then n + 1 else n

-- the counts with one record more that was traced
abbrev pub with_traced : TraceFate → Counts → Counts
with_traced f n = record n {
  offered = n.offered + 1;
  accepted = n.accepted + one_if (trace_kept f);
  dropped = n.dropped + one_if (trace_dropped f);
  void = n.void + one_if (trace_stopped f);
  drops = n.drops + one_if (trace_dropped f);
  stopped = n.stopped + one_if (trace_stopped f);
}

-- the counts with one record more that was offered to a speculation
abbrev pub with_spoken : SpeculateFate → Counts → Counts
with_spoken f n = record n {
  offered = n.offered + 1;
  specdropped = n.specdropped + one_if (spoken_dropped f);
  void = n.void + one_if (spoken_nowhere f);
  stopped = n.stopped + one_if (spoken_stopped f);
}

-- the counts with one decision more, or one settlement
abbrev pub with_decided : DecideFate → Counts → Counts
with_decided f n = record n {
  accepted = n.accepted + (if is_copied f then count_of f else 0);
  lost = n.lost + (if is_lost f then count_of f else 0);
  discarded = n.discarded + (if is_discard f then count_of f else 0);
  drops = n.drops + one_if (is_lost f);
  stopped = n.stopped + one_if (decided_stopped f);
}

abbrev pub is_unavailable : Opening → Bool
is_unavailable opening.Unavailable = true
is_unavailable a = false

abbrev pub is_busy_answer : Opening → Bool
is_busy_answer opening.Busy = true
is_busy_answer a = false

abbrev pub is_stopped_opening : Opening → Bool
is_stopped_opening opening.Stopped = true
is_stopped_opening a = false

-- the counts with one call of speculation more
abbrev pub with_opening : Opening → Counts → Counts
with_opening a n = record n {
  unavailable = n.unavailable + one_if (is_unavailable a);
  busy = n.busy + one_if (is_busy_answer a);
  stopped = n.stopped + one_if (is_stopped_opening a);
}

-- the counts with the beginning of one scan more
abbrev pub with_scanned : Bool → Counts → Counts
with_scanned running n = record n { stopped = n.stopped + one_if (not running) }

-- the counts with one slot more that was missed, the last of its scan or not, where a slot that the scan missed was decided or none was
abbrev pub with_missed : Bool → Bool → Counts → Counts
with_missed last busy n = record n {
  unavailable = n.unavailable + one_if (last && not busy);
  busy = n.busy + one_if (last && busy);
}

-- the records that are not held
abbrev pub with_fate : Counts → ℕ
with_fate n = n.accepted + n.dropped + n.specdropped + n.lost + n.discarded + n.void

-- the report of the counts: the records that have no other fate are held
abbrev pub report_of : Counts → Report
report_of n = record {
  offered = n.offered;
  accepted = n.accepted;
  dropped = n.dropped;
  specdropped = n.specdropped;
  lost = n.lost;
  discarded = n.discarded;
  void = n.void;
  held = n.offered - with_fate n;
  drops = n.drops;
  unavailable = n.unavailable;
  busy = n.busy;
  stopped = n.stopped;
  worn = n.worn;
}

-- one call more can be counted, of at most 2 ^ 32 records
pub record IsRoomy (n : Counts) : Type 0 where
  pub offered : n.offered < 2 ^ 63
  pub accepted : n.accepted < 2 ^ 63
  pub dropped : n.dropped < 2 ^ 63
  pub specdropped : n.specdropped < 2 ^ 63
  pub lost : n.lost < 2 ^ 63
  pub discarded : n.discarded < 2 ^ 63
  pub void : n.void < 2 ^ 63
  pub drops : n.drops < 2 ^ 63
  pub unavailable : n.unavailable < 2 ^ 63
  pub busy : n.busy < 2 ^ 63
  pub stopped : n.stopped < 2 ^ 63

-- a decision more can be counted, or a settlement
pub record HasRoom (f : DecideFate) (n : Counts) : Type 0 where
  pub accepted : (with_decided f n).accepted < 2 ^ 64
  pub lost : (with_decided f n).lost < 2 ^ 64
  pub discarded : (with_decided f n).discarded < 2 ^ 64
  pub drops : (with_decided f n).drops < 2 ^ 64
  pub stopped : (with_decided f n).stopped < 2 ^ 64

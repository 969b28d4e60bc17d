-- A CPU can be called again.
use Rattle.std.proofs.Common.{◌≡◌, ℕ, ◌+◌, ◌<◌, ◌≤◌, ◌^◌, Bool, List, ◌++◌, length, Option, Some, None, sym, ◌∙◌, ap, subst, arith}
use Rattle.std.proofs.lemmas.Bool.Decides.{nat_tests}
use Rattle.dspec_cpu.specs.Words.{report_of, Record, Stored, scan, offers, report, records_of_report, of_cpu, number_of, calling, flight_after, Entered, known, IsAt, cpu_of, counts_of, with_fate}
use Rattle.dspec_cpu.specs.Words.{IsRoomy, Stands, HasList, IsReady, IsSteady, batches_of, spare_count, Belongs, identity, Shape, Config, CpuOp, Deed, Report, View, Counts}
use Rattle.dspec_cpu.specs.declared.parts.CpuParts.{CpuParts as Cpu}
use Rattle.dspec_deeds.proofs.OwnAccounts.{own_report}
use Rattle.dspec_table.specs.declared.seats.Words.{Words}
use Rattle.dspec_cpu_state.proofs.Tallies.{drops_since}
use Rattle.dspec_cpu.proofs.Limits.{limits}

-- after the last of them
pub stands_after : {place : ℕ} (k : Config) (c : ℕ) (v w : View) (log ds : List Deed) → v.config ≡ k → v.who ≡ of_cpu c → Entered place v log ds w → Stands k c v ds w
stands_after k c v w log ds config who entered = grind (arith, nat_tests)

-- the same after a load of activity, which had its call in flight
pub stands_called : (k : Config) (c : ℕ) (o : CpuOp) (v w : View) (ds : List Deed) → Stands k c (calling o v) ds w → flight_after k (Some o) ds ≡ flight_after k v.flight ds → Stands k c v ds w
stands_called k c o v w ds s same = record { sound = s.sound; part_is = s.part_is; own = s.own; config = s.config; who = s.who; rests = s.rests; flight = s.flight ∙ same }

-- it is the report of the list whose counts they are, where that balances
module _ (k : Config) (c : ℕ) (counts : Counts) (p : List Deed) (counted : counts ≡ counts_of k c counts.worn p) (sum : offers c p ≡ records_of_report (report k c 0 p)) where
  pub fated_by : with_fate counts ≤ counts.offered
  fated_by = rw counted (omega arith)

  pub told_by : (answer : Report) → answer ≡ report_of counts → answer ≡ report k c counts.worn p
  told_by answer is = grind (arith, nat_tests)

-- a CPU that stands can be called by those whose words it belongs to
pub belonging : (shape : ℕ → Option Shape) (accepted : Record → Bool) (text : Record → List ℕ) {S : Type 0} (words : Words) (cpu : Cpu S) → Belongs words (identity cpu)
    → IsSteady shape accepted text cpu → IsReady shape accepted text words cpu
belonging shape accepted text words cpu of steady = record { at = (of.table, steady.config ∙ of.config); config = sym of.config; steady = steady }

-- it is one of the session's CPUs
pub steady_few : (shape : ℕ → Option Shape) (accepted : Record → Bool) (text : Record → List ℕ) {S : Type 0} (cpu : Cpu S) → IsSteady shape accepted text cpu → cpu.cpu < cpu.config.cpus
steady_few shape accepted text cpu steady = subst (λ (x : ℕ × Config). x.0 < x.1.cpus) (λ i. (steady.seat i, steady.config i)) cpu.seat.is_one

module _ (shape : ℕ → Option Shape) (accepted : Record → Bool) (text : Record → List ℕ) {S : Type 0} (words : Words) (cpu : Cpu S) (was : IsReady shape accepted text words cpu) where
  -- the CPU's number, as its steps read it off the seat
  pub number : number_of (known cpu.seat).who ≡ cpu.cpu
  number = ap number_of cpu.seat.who_is ∙ was.steady.seat

  pub holder : (known cpu.seat).who ≡ of_cpu cpu.cpu
  holder = cpu.seat.who_is ∙ ap of_cpu was.steady.seat

  pub set_up_is : (known cpu.seat).config ≡ cpu.config
  set_up_is = was.at.1 ∙ was.config

  -- no call of it is under way after steps that end its call
  pub ready_after : (new : Cpu S) (ds : List Deed) → cpu.cpu ≡ new.cpu → cpu.config ≡ new.config → IsAt words new.seat → cpu_of new.seat ≡ cpu_of cpu.seat
      → Stands cpu.config cpu.cpu (known cpu.seat) ds (known new.seat)
      → scan cpu.config cpu.cpu (ds ++ (known cpu.seat).own) ≡ 0 → flight_after cpu.config (known cpu.seat).flight ds ≡ None → ((b : Stored) → new.spare ≡ Some b → b.size ≡ new.config.bufsize)
      → length (batches_of new) + spare_count new.spare ≤ 1 + length new.end.spares → (p : List Deed) → HasList shape accepted text new p → IsReady shape accepted text words new
  ready_after new ds same_cpu same_config at seat stands idle over spare not_many p now = grind (arith, nat_tests)

  -- no count is too large to be raised where a call is left
  pub roomy : cpu.side.calls < cpu.config.max_calls → IsRoomy cpu.side.counts
  roomy lt =
      let p = was.steady.list in
      let within = (own_report shape cpu.config cpu.cpu 0 (known cpu.seat).seen p was.steady.sound was.steady.listed.shown.legal (was.steady.listed.own ∙ sym was.steady.part_is)).0 in
      let called = was.steady.listed.shown.side.called in
      let most = (limits cpu.config was.steady.checked).calls in
      rw was.steady.listed.shown.counted (record {
        offered = omega arith;
        accepted = omega arith;
        dropped = omega arith;
        specdropped = omega arith;
        lost = omega arith;
        discarded = omega arith;
        void = omega arith;
        drops = omega arith;
        unavailable = omega arith;
        busy = omega arith;
        stopped = omega arith;
      })

  -- nor are the drops since the last Seal
  pub few_drops : cpu.side.calls < cpu.config.max_calls → cpu.side.drops < 2 ^ 63
  few_drops lt = grind (arith, nat_tests, roomy, drops_since)

  -- the report of every list that it has balances
  balanced : (p : List Deed) → HasList shape accepted text cpu p → offers cpu.cpu p ≡ records_of_report (report cpu.config cpu.cpu 0 p)
  balanced p had = (own_report shape cpu.config cpu.cpu 0 (known cpu.seat).seen p was.steady.sound had.shown.legal (had.own ∙ sym was.steady.part_is)).1.sum

  pub fated_within : with_fate cpu.side.counts ≤ cpu.side.counts.offered
  fated_within = fated_by cpu.config cpu.cpu cpu.side.counts was.steady.list was.steady.listed.shown.counted (balanced was.steady.list was.steady.listed)

  pub told : (p : List Deed) → HasList shape accepted text cpu p → (answer : Report) → answer ≡ report_of cpu.side.counts → answer ≡ report cpu.config cpu.cpu cpu.side.counts.worn p
  told p had answer is = told_by cpu.config cpu.cpu cpu.side.counts p had.shown.counted (balanced p had) answer is

  pub few : cpu.cpu < cpu.config.cpus
  few = steady_few shape accepted text cpu was.steady

-- Runs that follow one another, their packets, and what stops them.
use Rattle.std.proofs.Common.{◌≡◌, ◌≤◌, ◌-◌, ◌+◌, ℕ, List, [], ◌∷◌, ◌∙◌, ap, arith, inl, inr, length, refl, sym, subst}
use Rattle.std.proofs.lemmas.Bool.Decides.{nat_tests}
use Rattle.std.specs.Prelude.{Option, Some, None, slice_range}
use Rattle.dspec_ctf_sink.specs.Words.{Record, EnabledRows, events, HasNoRun, IsFileRun, run_packet, HasNoRecords, IsTooLong, FileWrite, IsNotTaken, AddsRun, AddsAll, HasNoRuns, StopsRun, StopsRuns}
use Rattle.dspec_ctf_sink.specs.Words.{row_name, Batch, PacketFault}
use Rattle.dspec_ctf_sink.specs.declared.{fault.FolderFault.FolderFault, fault.FolderFault.TheVariants.Packet, losing.Loss.Loss}

-- what a CPU loses
abbrev pub of_cpu : ℕ → Option ℕ → FolderFault → ℕ → Loss
of_cpu cpu row fault records = record { cpu = cpu; row = row; fault = fault; records = records }

module _ (uuid : List ℕ) (e : EnabledRows) (missed cpu : ℕ) (rs : List Record) where
  -- a run's packet, and then those of the runs after it
  pub adds-more : (from to : ℕ) (lasts mid after : List ℕ) (old at new : Option (List FileWrite)) → AddsRun uuid e missed cpu rs from lasts old mid at to
      → AddsAll uuid e missed cpu rs to mid at after new → AddsAll uuid e missed cpu rs from lasts old after new
  adds-more from to lasts mid after old at new one more = record {
    runs = record { file = one.file; end = to } ∷ more.runs;
    are_runs = (mid, (one.is_run, more.are_runs));
    taken = (at, (one.taken, more.taken));
  }

  -- what stops after a run stops before it
  pub stops-more : (from to : ℕ) (lasts mid after : List ℕ) (old at new : Option (List FileWrite)) (loss : Loss) → AddsRun uuid e missed cpu rs from lasts old mid at to
      → StopsRuns uuid e missed cpu rs to mid at after new loss → StopsRuns uuid e missed cpu rs from lasts old after new loss
  stops-more from to lasts mid after old at new loss one more = record {
    runs = record { file = one.file; end = to } ∷ more.runs;
    to = more.to;
    mid = more.mid;
    between = more.between;
    are_runs = (mid, (one.is_run, more.are_runs));
    taken = (at, (one.taken, more.taken));
    stops = more.stops;
  }

  -- the first run stops
  pub stops-first : (from : ℕ) (lasts after : List ℕ) (old new : Option (List FileWrite)) (loss : Loss) → StopsRun uuid e missed cpu rs from lasts old after new loss
      → StopsRuns uuid e missed cpu rs from lasts old after new loss
  stops-first from lasts after old new loss stops =
      record { runs = []; to = from; mid = lasts; between = old; are_runs = (refl, refl); taken = refl; stops = stops }

  module _ (from rest : ℕ) (lasts : List ℕ) (old : Option (List FileWrite)) (loss : Loss) (within : from ≤ length rs) (is_rest : rest ≡ length rs - from) where
    remain : (row : Option ℕ) (fault : FolderFault) → loss ≡ of_cpu cpu row fault rest → loss.records + from ≡ length rs
    remain row fault is =
        let sum : rest + from ≡ length rs = omega (arith, within, is_rest) in
        ap (λ l. l.records + from) is ∙ sum

    -- the record at a place goes nowhere
    pub stops-nowhere : (f : PacketFault) (fault : FolderFault) → HasNoRun lasts rs from f → fault ≡ Packet cpu f → loss ≡ of_cpu cpu None fault rest
        → StopsRun uuid e missed cpu rs from lasts old lasts old loss
    stops-nowhere f fault none told is = record {
      whose = λ i. (is i).cpu;
      rest = remain None fault is;
      why = inl (record { fault = f; none = none; told = ap (λ l. l.fault) is ∙ told; row = λ i. (is i).row; lasts_same = refl; same = refl });
    }

    -- a run is too long for a packet
    pub stops-long : (file to : ℕ) (after : List ℕ) (f : PacketFault) (fault : FolderFault) → IsFileRun lasts rs from (record { file = file; end = to }) after
        → IsTooLong (events e (slice_range rs from to)) f → fault ≡ Packet cpu f → loss ≡ of_cpu cpu (Some file) fault rest
        → StopsRun uuid e missed cpu rs from lasts old after old loss
    stops-long file to after f fault run long told is = record {
      whose = λ i. (is i).cpu;
      rest = remain (Some file) fault is;
      why = inr (record { file = file; to = to; is_run = run; row = λ i. (is i).row; why = inl (f, (long, (ap (λ l. l.fault) is ∙ told, refl))) });
    }

    -- its packet isn't taken
    pub stops-refused : (file to : ℕ) (after : List ℕ) (new : Option (List FileWrite)) (fault : FolderFault) → IsFileRun lasts rs from (record { file = file; end = to }) after
        → IsNotTaken old (row_name cpu file) (run_packet uuid e missed cpu file (slice_range rs from to)) new fault → loss ≡ of_cpu cpu (Some file) fault rest
        → StopsRun uuid e missed cpu rs from lasts old after new loss
    stops-refused file to after new fault run refused is = record {
      whose = λ i. (is i).cpu;
      rest = remain (Some file) fault is;
      why = inr (record {
        file = file;
        to = to;
        is_run = run;
        row = λ i. (is i).row;
        why = inr (subst (λ f. IsNotTaken old (row_name cpu file) (run_packet uuid e missed cpu file (slice_range rs from to)) new f) (λ i. (sym is i).fault) refused);
      });
    }

-- a text that is none has no packets
pub no-records : (e : EnabledRows) (before : ℕ) (b : Batch) (f : PacketFault) → HasNoRecords e b.buffer.text f → HasNoRuns e before b f
no-records = grind (arith, nat_tests)

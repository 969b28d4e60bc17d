use Rattle.std.proofs.Common.{◌≡◌, ◌≤◌, ◌-◌, arith, length, refl, rules, subst}
use Rattle.std.specs.Prelude.{slice_range}
use Rattle.dspec_ctf_sink.specs.Words.{IsFileRun, run_packet, row_name, IsNotTaken}
use Rattle.dspec_ctf_sink.proofs.Following.{stops-refused}
use Rattle.dspec_ctf_sink.proofs.timed.add_run.Goals as goal

pub returns-clause-stopped : goal.returns-clause-stopped
returns-clause-stopped g c =
    let s = c.args.stream.now in
    let rs = c.args.records.now in
    let run = c.in-Ok-Some.run' in
    let old = g.F.Folder.written c.args.folder.now in
    let new = g.F.Folder.written c.add_bytes.new.folder in
    let fault = c.in-Err-add_bytes.fault in
    let within : c.args.place ≤ length rs = omega arith in
    let is_run : IsFileRun c.args.rows.now rs c.args.place run c.next_run.new.self = search rules in
    let same : c.as_slice.result.now ≡ run_packet s.uuid s.enablings.now s.missed s.cpu run.file (slice_range rs c.args.place run.end) = search rules in
    let refused = subst (λ bs. IsNotTaken old (row_name s.cpu run.file) bs new fault) same c.in-Err-add_bytes.ensures.fault in
    stops-refused s.uuid s.enablings.now s.missed s.cpu rs c.args.place (length rs - c.args.place) c.args.rows.now old c.lost_of-in-Err-add_bytes.result within refl
    run.file run.end c.next_run.new.self new fault is_run refused c.lost_of-in-Err-add_bytes.ensures

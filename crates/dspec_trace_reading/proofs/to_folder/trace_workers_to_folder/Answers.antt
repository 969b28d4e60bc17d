use Rattle.std.proofs.Common.{ℕ, IfOk, subst}
use Rattle.dspec_trace_reading.specs.Words.{EnabledRows, CallsMade, WorkedOn, one_for, GetsPacket, RanBegun}
use Rattle.dspec_trace_reading.proofs.InFolder.{first_if, taken_if}
use Rattle.dspec_trace_reading.proofs.to_folder.trace_workers_to_folder.Goals as goal

pub returns-clause-one_list : goal.returns-clause-one_list
returns-clause-one_list g c =
    let e = c.args.probes.now.schema in
    let k = one_for c.args.workers.now.items c.args.config.now in
    let begun = c.begin_for-begun.result in
    let ran = c.run_workers_in-sink.result in
    let back = c.run_workers_in-sink.new.workers.items in
    let does : EnabledRows → ℕ → CallsMade → CallsMade → Type 0 = λ s. WorkedOn (g.W.Worker.does s) c.args.workers.now.items back in
    let has =
    subst (λ (s : EnabledRows). IfOk ran.1 (λ r. RanBegun (GetsPacket s) (g.K.Sink.gets s) (does s) s k c.args.sink begun r ran.0)) c.enablings-schema.ensures
    c.run_workers_in-sink.ensures.ran in
    taken_if c.metadata_reads_back.ensures (g.K.Sink.gets e) (does e) e c.args.probes.now.names c.args.place.path.now
    c.args.place.name.now k c.args.sink ran.0 c.live_file_reads_back.ensures.taken begun
    ran.1 c.came.result c.run_workers_in-sink.ensures.started c.begin_for-begun.ensures.begun has c.came.ensures.traced c.came.ensures.ran

pub returns-clause-read : goal.returns-clause-read
returns-clause-read g c = first_if _ _ c.came.result (returns-clause-one_list g c)

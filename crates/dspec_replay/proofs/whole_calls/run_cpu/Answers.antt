use Rattle.std.proofs.{Common.◌<◌, Common.length, Common.refl, Common.arith, lemmas.Option.slice_get_read}
use Rattle.dspec_session_core.proofs.Callings.{cpu_there, met_there}
use Rattle.dspec_replay.proofs.whole_calls.run_cpu.Goals as goal

pub call_cpu-requires-clause-of : goal.call_cpu-requires-clause-of
call_cpu-requires-clause-of g c =
    let n = c.len.ensures in
    let inside = c.if-place-len.false in
    (cpu_there _ c.args.session.now c.args.cpu c.index_mut.result.now c.requires.session (omega arith) c.index_mut.ensures.value).belongs

pub call_cpu-requires-clause-schema : goal.call_cpu-requires-clause-schema
call_cpu-requires-clause-schema g c =
    let n = c.len.ensures in
    let inside = c.if-place-len.false in
    (cpu_there _ c.args.session.now c.args.cpu c.index_mut.result.now c.requires.session (omega arith) c.index_mut.ensures.value).one

pub returns-clause-session : goal.returns-clause-session
returns-clause-session g c =
    let n = c.len.ensures in
    let inside = c.if-place-len.false in
    met_there _ c.args.session.now _ c.args.cpu c.index_mut.result.now c.call_cpu.new.cpu c.requires.session (omega arith) c.index_mut.ensures.value
    c.call_cpu.ensures.same c.requires.session.consumer refl refl refl

pub returns-clause-called : goal.returns-clause-called
returns-clause-called g c =
    let n = c.len.ensures in
    let inside = c.if-place-len.false in
    let within : c.args.cpu < length c.args.session.now.cpus.items = omega arith in
    record {
      was = c.index_mut.result.now;
      now = c.call_cpu.new.cpu;
      there = slice_get_read c.args.session.now.cpus.items (length c.args.session.now.cpus.items) c.args.cpu c.index_mut.result.now refl within c.index_mut.ensures.value;
      number = (cpu_there _ c.args.session.now c.args.cpu c.index_mut.result.now c.requires.session within c.index_mut.ensures.value).number;
      calls = c.call_cpu.ensures.calls;
      cpus = refl;
      shared = refl;
      consumer = refl;
    }

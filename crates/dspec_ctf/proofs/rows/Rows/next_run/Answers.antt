use Rattle.std.proofs.{Common.◌<◌, Common.[], Common.get_or, Common.arith, lemmas.Option.slice_get-get_or}
use Rattle.dspec_ctf.specs.Words.{Record}
use Rattle.dspec_ctf.proofs.{Rising.goes-here, Spreading.run-first}
use Rattle.dspec_ctf.proofs.rows.Rows.next_run.Goals as goal

pub take_all_on-end-requires-clause-there : goal.take_all_on-end-requires-clause-there
take_all_on-end-requires-clause-there c =
    let none : Record = record { epid = 0; stamp = 0; values = [] } in
    let rs = c.args.records.now in
    let r : Record = get_or rs c.args.place none in
    let at = slice_get-get_or rs c.args.place none c.if-place-records.false in
    (goes-here c.args.self.now c.take.new.self r.stamp c.in_ok-file.file (c.in_ok-file.ensures.goes r at)).0

pub returns-clause-run : goal.returns-clause-run
returns-clause-run c =
    let end = c.take_all_on-end.result in
    let some : c.args.place < end = omega (arith, c.take_all_on-end.ensures.not_before) in
    record {
      some = some;
      within = c.take_all_on-end.ensures.within;
      goes = run-first c.args.self.now c.take.new.self c.take_all_on-end.new.self c.args.records.now c.args.place end c.in_ok-file.file c.if-place-records.false some
          (λ r at. c.in_ok-file.ensures.goes r at) c.take_all_on-end.ensures.goes;
      whole = c.take_all_on-end.ensures.whole;
    }

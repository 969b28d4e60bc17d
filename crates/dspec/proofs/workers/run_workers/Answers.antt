use Rattle.std.proofs.{Common.arith, Common.List, Common.length, Common.sym, Common.ap, Common.◌∙◌, Common.subst, lemmas.Bool.Decides.nat_tests}
use Rattle.dspec.specs.Words.{Cpu, EnabledRows, AllReturned, ThenServed, AllNumbered, WorkedBy, cpus_of, workers_of}
use Rattle.dspec.proofs.{Returning.all_callable, Returning.session_again, Working.all_numbered, Working.pairs_returned, Working.workers_all}
use Rattle.dspec.proofs.workers.run_workers.Goals as goal

pub run_pairs-requires-clause-callable : goal.run_pairs-requires-clause-callable
run_pairs-requires-clause-callable g c = grind (arith, nat_tests, all_callable, c.requires.session, c.pair_up-pairs.ensures.pairs.0)

pub returns-clause-all : goal.returns-clause-all
returns-clause-all g c =
    ap length c.part_again.ensures.1 ∙ (workers_all g.W.Worker.does c.pair_up-pairs.result.items c.run_pairs.new.pairs.items c.run_pairs.ensures.worked
    ∙ ap length c.pair_up-pairs.ensures.pairs.1)

pub returns-clause-returned : goal.returns-clause-returned
returns-clause-returned g c =
    let W = g.row.W.Denot in
    let does = g.W.Worker.does in
    let was = c.args.session.now.cpus.items in
    let pairs = c.pair_up-pairs in
    let old = pairs.result.items in
    let new = c.run_pairs.new.pairs.items in
    let numbered = all_numbered c.args.schema.now c.args.session.now c.requires.session in
    let numbers = subst (λ (xs : List (Cpu EnabledRows)). AllNumbered xs) (sym pairs.ensures.pairs.0) numbered in
    let back = c.part_again.ensures in
    let returned = pairs_returned does old new numbers c.run_pairs.ensures.worked in
    let of_cpus = subst (λ (xs : List (Cpu EnabledRows)). AllReturned (λ s. ThenServed (WorkedBy (does s) (workers_of old) (workers_of new))) xs (cpus_of new)) pairs.ensures.pairs.0 returned in
    let of_workers = subst (λ (us : List W). AllReturned (λ s. ThenServed (WorkedBy (does s) us (workers_of new))) was (cpus_of new)) pairs.ensures.pairs.1 of_cpus in
    let workers_back = subst (λ (vs : List W). AllReturned (λ s. ThenServed (WorkedBy (does s) c.args.workers.now.items vs)) was (cpus_of new)) (sym back.1) of_workers in
    subst (λ (ys : List (Cpu EnabledRows)). AllReturned (λ s. ThenServed (WorkedBy (does s) c.args.workers.now.items c.part_again.new.workers.items)) was ys) (sym back.0) workers_back

pub returns-clause-lent : goal.returns-clause-lent
returns-clause-lent g c =
    session_again (λ s. ThenServed (WorkedBy (g.W.Worker.does s) c.args.workers.now.items c.part_again.new.workers.items)) c.args.schema.now c.args.session.now
    (record { shared = c.args.session.now.shared; cpus = c.part_again.new.cpus; consumer = c.run_pairs.new.consumer }) c.requires.session (returns-clause-returned g c)
    c.run_pairs.ensures.passes.stays

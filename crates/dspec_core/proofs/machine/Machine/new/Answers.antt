-- The words are free, what is kept of each CPU shows the empty list, and all is idle.
use Rattle.std.proofs.Common.{◌≡◌, [], false, None, refl, subst, arith}
use Rattle.dspec_core.specs.{Words.at_start, declared.machine.Machine.Machine}
use Rattle.dspec_cpu_state.proofs.Starts.{Made, none_made, one_made}
use Rattle.dspec_core.proofs.{Keepings.kept_as, Starts.IsFree, Starts.HasBegun, Starts.machine_at_start, Starts.state_at_start, Starts.start_keeps}
use Rattle.dspec_core.proofs.machine.Machine.new.Goals as goal

pub loop-preserved : goal.loop-preserved
loop-preserved g c = one_made _ c.loop.counter c.loop.words.items c.push.new.self.items c.of.result c.in_ok-push.ensures.items c.loop.invariant c.of.ensures

pub loop-2-init : goal.loop-2-init
loop-2-init g c = none_made _ c.new-cpus.result.items c.new-cpus.ensures.items

pub loop-2-preserved : goal.loop-2-preserved
loop-2-preserved g c =
    one_made _ c.loop-2.counter c.loop-2.cpus.items c.push-in-loop-2.new.self.items _ c.in_ok-push-2.ensures.items c.loop-2.invariant (
      λ schema a. record {
        side = c.in_ok-make.ensures.shows schema a;
        worn = c.in_ok-make.ensures.worn;
        few_worn = omega arith;
        second = record { sized = c.in_ok-make-2.ensures.size; pieces = []; has_pieces = c.in_ok-make-2.ensures.empty schema; are = refl };
        accepted = c.new.ensures;
        took = c.new-in-loop-2.ensures;
        sealed_drops = refl;
      },
      refl,
    )

pub returns-clause-kept : goal.returns-clause-kept
returns-clause-kept g c =
    let k = c.args.config in
    let m : Machine g.row.S.Denot g.row.B.Denot =
    record { config = c.args.config; schema = c.args.schema; words = c.loop.words; halted = false; cpus = c.loop-2.cpus; consumer = record { flight = None; steps = 0 }; deeds = c.new-2.result } in
    let all_words : c.loop.counter ≡ k.nspec = omega arith in
    let all_cpus : c.loop-2.counter ≡ k.cpus = omega arith in
    let words = subst (λ n. Made IsFree n c.loop.words.items) all_words c.loop.invariant in
    let cpus = subst (λ n. Made (HasBegun g.B.TraceBuffer.has g.B.TraceBuffer.capacity k) n c.loop-2.cpus.items) all_cpus c.loop-2.invariant in
    kept_as _ _ _ _ m c.args.schema (at_start k) (machine_at_start _ _ m c.new-2.ensures refl words cpus) (state_at_start _ _ m c.new-2.ensures refl cpus) refl
    (start_keeps _ _ _ _ c.args.schema k c.requires.fine)

pub returns-clause-state : goal.returns-clause-state
returns-clause-state g c =
    let m : Machine g.row.S.Denot g.row.B.Denot =
    record { config = c.args.config; schema = c.args.schema; words = c.loop.words; halted = false; cpus = c.loop-2.cpus; consumer = record { flight = None; steps = 0 }; deeds = c.new-2.result } in
    let all_cpus : c.loop-2.counter ≡ c.args.config.cpus = omega arith in
    state_at_start g.B.TraceBuffer.has g.B.TraceBuffer.capacity m c.new-2.ensures refl
    (subst (λ n. Made (HasBegun g.B.TraceBuffer.has g.B.TraceBuffer.capacity c.args.config) n c.loop-2.cpus.items) all_cpus c.loop-2.invariant)

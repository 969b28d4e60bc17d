-- The side shows the empty list: all numbers are 0, and all buffers empty.
use Rattle.std.proofs.Common.{◌≡◌, ◌-◌, ◌∙◌, [], replicate, refl, ap, sym, arith}
use Rattle.dspec_cpu_state.specs.{Words.counts_of, declared.counts.Counts.Counts}
use Rattle.dspec_cpu_state.proofs.Starts.{one_made, zero_count, zero_there}
use Rattle.dspec_cpu_state.proofs.cpu_state.CpuState.make.Goals as goal

pub loop-preserved : goal.loop-preserved
loop-preserved g c =
    one_made _ c.loop.counter c.loop.speculative.items c.push.new.self.items c.in_ok-make.field-0 c.in_ok-push.ensures.items c.loop.invariant (c.in_ok-make.ensures.size, c.in_ok-make.ensures.empty)

pub returns-clause-shows : goal.returns-clause-shows
returns-clause-shows g c =
    let k = c.args.config.now in
    let acks : c.in_ok-acks.acks.items ≡ replicate k.nspec 0 = c.in_ok-acks.ensures.items_if_clones_equal (λ y e. e) in
    let marks : c.none.result ≡ replicate k.nspec 0 = c.none.ensures in
    let specdrops : c.in_ok-specdrops.specdrops.items ≡ replicate k.nspec 0 = c.in_ok-specdrops.ensures.items_if_clones_equal (λ y e. e) in
    λ schema cpu. record {
      parts = record {
        called = refl;
        sealed = refl;
        missed = refl;
        ack_count = zero_count k.nspec _ acks;
        acks = λ s low high. zero_there k.nspec (s - 1) _ acks (omega arith);
        mark_count = zero_count k.nspec _ marks;
        marks = λ s low high. zero_there k.nspec (s - 1) _ marks (omega arith);
        specdrop_count = zero_count k.nspec _ specdrops;
        specdrops = λ s low high. zero_there k.nspec (s - 1) _ specdrops (omega arith);
        buffer_count = let count = c.loop.invariant.count in omega arith;
        speculative = λ s b low high got. let made = c.loop.invariant.each (s - 1) b got in record { sized = made.0; has = made.1 schema };
        principal = record { sized = c.in_ok-make-2.ensures.size; has = c.in_ok-make-2.ensures.empty schema };
        drops = refl;
      };
      counted = c.zero.ensures k cpu ∙ ap (λ n. counts_of k cpu n []) (sym (ap (λ (n : Counts). n.worn) (c.zero.ensures k cpu)));
    }

pub returns-clause-worn : goal.returns-clause-worn
returns-clause-worn g c = ap (λ (n : Counts). n.worn) (c.zero.ensures c.args.config.now 0)

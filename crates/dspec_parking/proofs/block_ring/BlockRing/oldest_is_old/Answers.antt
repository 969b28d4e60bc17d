use Rattle.std.proofs.{Common.subst, Common.sym, lemmas.Bool.OnFalse_from, lemmas.Bool.OnTrue_from, lemmas.Option.slice_get_within}
use Rattle.dspec_parking.specs.Words.{OldestIsOld, OldestIsYoung}
use Rattle.dspec_parking.proofs.Finding.{oldest_kept, oldest_old, oldest_young, some_there}
use Rattle.dspec_parking.proofs.block_ring.BlockRing.oldest_is_old.Goals as goal

pub returns-then-entry-clause-old : goal.returns-then-entry-clause-old
returns-then-entry-clause-old c =
    OnTrue_from _ _ (λ kept. subst (OldestIsOld c.args.before) c.self.view_is (oldest_kept c.self.inside c.self.invariant c.in-Some.entry.now (sym c.in-Some.ensures) c.args.before kept))

pub returns-else-entry-clause-old : goal.returns-else-entry-clause-old
returns-else-entry-clause-old c =
    OnTrue_from _ _ (λ old. subst (OldestIsOld c.args.before) c.self.view_is
    (oldest_old c.self.inside c.self.invariant c.in-Some.entry.now (sym c.in-Some.ensures) c.args.before c.if-entry.false old))

pub returns-else-entry-clause-young : goal.returns-else-entry-clause-young
returns-else-entry-clause-young c =
    OnFalse_from _ _ (λ young. subst (OldestIsYoung c.args.before) c.self.view_is
    (oldest_young c.self.inside c.self.invariant c.in-Some.entry.now (sym c.in-Some.ensures) c.args.before c.if-entry.false young))

pub returns-in-None-clause-young : goal.returns-in-None-clause-young
returns-in-None-clause-young c =
    subst (OldestIsYoung c.args.before) c.self.view_is (λ p at. absurd (some_there c.self.inside c.self.invariant 0 (sym c.in-None.ensures) (slice_get_within _ 0 p at)))

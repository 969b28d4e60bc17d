use Rattle.std.proofs.Common.{◌∙◌, ◌+◌, ◌<◌, ◌^◌, ap, sym, subst, All, arith, map, reverse}
use Rattle.specview.specs.Words.{Accepts, shown_share, HaveShortEvents, refused_in}
use Rattle.specview.proofs.Parts.{HasRecords, written_known}
use Rattle.specview.proofs.trace.file_as_taken.Goals as goal

pub put_shares-requires-clause-known : goal.put_shares-requires-clause-known
put_shares-requires-clause-known c =
    let known = Accepts c.args.stream.enablings.now in
    subst (All (HasRecords c.args.stream.enablings.now)) (sym (ap (map shown_share) c.as_slice.ensures.value ∙ c.in_ok-shares.ensures))
    (written_known c.args.stream.enablings.now c.args.stream.cpu c.args.drops (reverse c.args.deeds.now) (subst (All known) c.requires.accepted c.requires.known))

pub put_shares-requires-clause-counted : goal.put_shares-requires-clause-counted
put_shares-requires-clause-counted c =
    let few = c.requires.refused in
    let none = c.requires.fresh in
    subst (λ ss. c.args.stream.missed + refused_in ss < 2 ^ 64) (sym (ap (map shown_share) c.as_slice.ensures.value ∙ c.in_ok-shares.ensures)) (omega arith)

pub put_shares-requires-clause-short : goal.put_shares-requires-clause-short
put_shares-requires-clause-short c =
    subst (HaveShortEvents c.args.stream.enablings.now) (sym (ap (map shown_share) c.as_slice.ensures.value ∙ c.in_ok-shares.ensures)) c.requires.short

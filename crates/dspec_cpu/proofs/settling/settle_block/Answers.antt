use Rattle.std.proofs.Common.{◌≡◌, ◌∙◌, ap}
use Rattle.dspec_cpu.specs.Words.{Code, settled_fate, shown_at}
use Rattle.dspec_cpu.proofs.OwnBlocks.{block_settled, drops, room, there}
use Rattle.dspec_cpu.proofs.settling.settle_block.Goals as goal

pub is_mine-mine-requires : goal.is_mine-mine-requires
is_mine-mine-requires g c =
    let can = c.requires.some.4 in
    let named : c.of-id.result ≡ shown_at c.args.slot c.args.word = c.of-id.ensures ∙ ap (λ i. record { issue = i; slot = c.args.slot }) c.issue.ensures.value in
    let at = there _ _ _ c.requires.some.3 can c.of-id.result named in
    record { slot = (at.0, at.1) }

pub measure-fits-requires : goal.measure-fits-requires
measure-fits-requires g c =
    let can = c.requires.some.4 in
    let named : c.of-id.result ≡ shown_at c.args.slot c.args.word = c.of-id.ensures ∙ ap (λ i. record { issue = i; slot = c.args.slot }) c.issue.ensures.value in
    let at = there _ _ _ c.requires.some.3 can c.of-id.result named in
    record { slot = (at.0, at.2) }

pub settle-requires : goal.settle-requires
settle-requires g c =
    let s = c.requires.some.0 in
    let cpu = c.requires.some.1 in
    let p = c.requires.some.3 in
    let can = c.requires.some.4 in
    let named : c.of-id.result ≡ shown_at c.args.slot c.args.word = c.of-id.ensures ∙ ap (λ i. record { issue = i; slot = c.args.slot }) c.issue.ensures.value in
    let at = there _ _ _ p can c.of-id.result named in
    let fate = c.settled_as.ensures ∙ ap (λ (x : Code). settled_fate x c.measure-fits.result.0 c.measure-fits.result.1) c.code.ensures in
    record {
      slot = (at.0, at.2, at.3);
      drops = drops _ _ _ p can c.of-id.result named c.is_mine-mine.result c.is_mine-mine.ensures.tells c.measure-fits.result.0 c.measure-fits.result.1
          (c.measure-fits.ensures.fits s cpu p) (c.measure-fits.ensures.count s cpu p) c.settled_as.result fate;
      room = room _ _ _ p can c.of-id.result named c.is_mine-mine.result c.is_mine-mine.ensures.tells c.measure-fits.result.0 c.measure-fits.result.1
          (c.measure-fits.ensures.fits s cpu p) (c.measure-fits.ensures.count s cpu p) c.settled_as.result fate;
    }

pub returns-clause-settled : goal.returns-clause-settled
returns-clause-settled g c = λ s cpu batches p can.
    let named : c.of-id.result ≡ shown_at c.args.slot c.args.word = c.of-id.ensures ∙ ap (λ i. record { issue = i; slot = c.args.slot }) c.issue.ensures.value in
    let fate = c.settled_as.ensures ∙ ap (λ (x : Code). settled_fate x c.measure-fits.result.0 c.measure-fits.result.1) c.code.ensures in
    block_settled _ _ _ p can c.of-id.result named c.is_mine-mine.result c.is_mine-mine.ensures.tells c.measure-fits.result.0 c.measure-fits.result.1
    (c.measure-fits.ensures.fits s cpu p) (c.measure-fits.ensures.count s cpu p) c.settled_as.result fate c.settle.new.self (c.settle.ensures.shows s c.args.config.now cpu p)
    c.serve.result c.serve.ensures

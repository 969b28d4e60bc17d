use Rattle.dspec_interleaving.proofs.ClosedParts.{closes}
use Rattle.dspec_interleaving.proofs.laws.woven_close.Goals as goal

pub returns : goal.returns
returns c shape k h p fine sound unowed authors lists idle =
    closes shape k h p _ fine idle (c.weaving.ensures shape k h p sound unowed authors lists)
    (λ cpu g legal. record {
      prefix = c.prefix_law.ensures shape k g cpu legal;
      acceptance = c.acceptance_law.ensures shape k g cpu legal;
      fates = c.fate_law.ensures shape k g cpu legal;
    })

use Rattle.dspec_deeds.proofs.lists.woven_headline.Goals as goal

pub returns : goal.returns
returns c shape k h p cpu sound unowed authors lists =
    let w = c.weaving.ensures shape k h p sound unowed authors lists in
    record {
      prefix = c.prefix_law.ensures shape k _ cpu w.legal;
      acceptance = c.acceptance_law.ensures shape k _ cpu w.legal;
      fates = c.fate_law.ensures shape k _ cpu w.legal;
    }

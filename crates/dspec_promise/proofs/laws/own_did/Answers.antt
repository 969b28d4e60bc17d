use Rattle.std.proofs.Common.{refl}
use Rattle.dspec_promise.specs.Words.{Trace, Speculate, Commit, Discard, Settle, commit, discard, service, traced, speculated, emptied}
use Rattle.dspec_promise.proofs.OwnDid.{did_part, did_bare, did_own}
use Rattle.dspec_promise.proofs.laws.own_did.Goals as goal

pub returns-clause-part : goal.returns-clause-part
returns-clause-part c = did_part

pub returns-clause-bare : goal.returns-clause-bare
returns-clause-bare c = did_bare

pub returns-clause-traced : goal.returns-clause-traced
returns-clause-traced c cpu r f h = did_own cpu (Trace cpu r f) (traced r f) h refl

pub returns-clause-speculated : goal.returns-clause-speculated
returns-clause-speculated c cpu id r f h = did_own cpu (Speculate cpu id r f) (speculated id r f) h refl

pub returns-clause-committed : goal.returns-clause-committed
returns-clause-committed c cpu id f h = did_own cpu (Commit cpu id f) (emptied commit id f) h refl

pub returns-clause-discarded : goal.returns-clause-discarded
returns-clause-discarded c cpu id f h = did_own cpu (Discard cpu id f) (emptied discard id f) h refl

pub returns-clause-settled : goal.returns-clause-settled
returns-clause-settled c cpu id f h = did_own cpu (Settle cpu id f) (emptied service id f) h refl

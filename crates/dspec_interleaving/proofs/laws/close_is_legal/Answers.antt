use Rattle.dspec_interleaving.proofs.{ClosedParts.closing_authors, Closing.can_close, Closing.closing_closes}
use Rattle.dspec_interleaving.proofs.laws.close_is_legal.Goals as goal

pub returns-clause-legal : goal.returns-clause-legal
returns-clause-legal c shape st ok idle =
    ((closing_closes shape st.config st.deeds ok.ranges (can_close shape st ok idle)).rest.legal, closing_authors shape st.config st.deeds ok.authors)

pub returns-clause-can_close : goal.returns-clause-can_close
returns-clause-can_close c = can_close

pub returns-clause-waits : goal.returns-clause-waits
returns-clause-waits c shape k h fine can = (closing_closes shape k h fine can).waits

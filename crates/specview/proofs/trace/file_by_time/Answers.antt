use Rattle.specview.proofs.Parts.{no_stamp}
use Rattle.specview.proofs.trace.file_by_time.Goals as goal

pub returns-in-Err-NoStamp-clause-fault : goal.returns-in-Err-NoStamp-clause-fault
returns-in-Err-NoStamp-clause-fault c =
    no_stamp c.args.form c.args.stream.enablings.now c.requires.by_time (rw c.in-Err-NoStamp.field-0-is at c.in-Err-NoStamp.ensures.fault)

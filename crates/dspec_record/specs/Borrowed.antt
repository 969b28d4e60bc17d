-- Cited by calls. A borrowed record as contracts see it.
use Rattle.dspec_record.specs.{Record.Record, declared.borrowed.BorrowedRec.BorrowedRec}

abbrev pub borrowed_record : BorrowedRec → Record
borrowed_record b = record { epid = b.epid; stamp = b.stamp; values = b.values.now }

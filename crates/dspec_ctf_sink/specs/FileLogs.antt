-- Cited by calls. What a folder was asked for, and the bytes of a file by what the system answered.
use Rattle.std.specs.Prelude.{[], ◌∷◌, ◌++◌, take}
use Rattle.dspec_ctf_sink.specs.declared.file_log.{FileLog.FileLog, LogEntry.LogEntry, LogEntry.TheVariants.Asked, LogEntry.TheVariants.Appended, LogEntry.TheVariants.Left}

-- with one note more
abbrev pub log_then : FileLog → LogEntry → FileLog
log_then n (Asked name bytes refused) = record n { writes = n.writes ++ record { name = name.now; bytes = bytes.now; refused = refused } ∷ [] }
log_then n (Appended more) = record n { bytes = n.bytes ++ more.now }
log_then n (Left count) = record n { bytes = take count n.bytes }

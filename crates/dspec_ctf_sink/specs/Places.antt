-- Cited by calls. What a folder of the system was asked for.
use Rattle.std.specs.Prelude.{List, Option, Some, ◌++◌}
use Rattle.dspec_ctf_sink.specs.{Writes.FileWrite, declared.system.SystemFolder.SystemFolder}

abbrev pub written_in : SystemFolder → Option (List FileWrite)
written_in folder = Some (folder.made.writes ++ folder.asked.writes)

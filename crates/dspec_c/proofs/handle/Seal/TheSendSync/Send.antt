use Rattle.std.proofs.{Common.arith, lemmas.Bool.Decides.nat_tests}
use mathlib.Core.Bool.{Bool, true, false}
use mir.Raw.{raw}
use denote.Memory.{lone}
use denote.Param.Send.{IsSend}
use base.Shift.{Keyless}
use denote.RawPtr.{Ptr}
use Rattle.std.specs.Global.{Global}
use Rattle.std.proofs.Crossing as heap
use Rattle.std_alloc.proofs.SendSync.{quiet, lies}
use Rattle.dspec_c.specs.{Words.seal_owns, contracts.handle.Seal.the_row}
use Rattle.dspec_c.specs.contracts.handle.HandleContents as HandleContents
use Rattle.dspec_c.proofs.handle.HandleContents.TheSendSync.{the_send as kept}

owned_keyless : (y : Bool) (a : Global) (p : Ptr) (x : HandleContents.the_row.Denot) → Keyless (seal_owns y a p x)
owned_keyless true a p x = (lies HandleContents.the_row kept p x, heap.frees.frees a (raw (lone HandleContents.the_row.mir)) p)
owned_keyless false a p x = tt

pub send : IsSend the_row
send = grind (arith, nat_tests, owned_keyless, quiet)

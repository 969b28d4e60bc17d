-- Cited by calls. What lending keeps: a handle is lent for a call, and has what the call left.
use Rattle.std.specs.Borrow.{Lends, MutBor, Fml}
use Rattle.dspec_c.specs.contracts.handle.{Handle.the_row as handle_row, HandleContents.the_row as kept_row}
use Rattle.dspec_c.specs.declared.{handle.Handle.Handle, handle.HandleContents.HandleContents, held.HandleValue.HandleValue}

-- the handle with this in its box: it stays full
abbrev pub with_inside : Handle → HandleContents → Handle
with_inside h k = record h { seal = record h.seal { inside = k } }

-- the handle with this in it
abbrev pub with_held : Handle → HandleValue → Handle
with_held h x = with_inside h (record h.seal.inside { held = x })

-- once the loan r ends, the handle has what was left behind it
abbrev pub LendsInside : MutBor Handle → MutBor HandleContents → Fml
LendsInside h r = Lends handle_row kept_row h r (with_inside h.now)

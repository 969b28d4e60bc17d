use Rattle.std.proofs.Common.{refl}
use Rattle.dspec_c.proofs.Finishing.{looks_so}
use Rattle.dspec_c.proofs.session_calls.is_home.Goals as goal

pub returns-then-is_home : goal.returns-then-is_home
returns-then-is_home c = looks_so _ _ _ _ _ c.in-Session.is refl c.if-is_home.ensures.looked c.if-is_home.ensures.home

pub returns-else-is_home : goal.returns-else-is_home
returns-else-is_home c = looks_so _ _ _ _ _ c.in-Session.is refl c.if-is_home.ensures.looked (refl, c.if-is_home.ensures.home)

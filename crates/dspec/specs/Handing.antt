-- Cited by calls. What a path is that was taken up.
use Rattle.std.specs.Prelude.{◌==◌, if◌then◌else◌}
use Rattle.dspec.specs.Words.Outside.{Speculation, id_number, Opening}
use Rattle.dspec_deeds.specs.declared.calls.Opening.TheVariants as opening

-- none where the word names none
abbrev pub opening_of : Speculation → Opening
opening_of id = if id_number id == 0 then opening.Unavailable else opening.Id id

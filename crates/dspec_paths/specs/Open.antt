-- Cited by calls. The places of a table.
use Rattle.dspec_paths.specs.{Table.Places, declared.paths.Paths.Paths}

abbrev pub places_of : Paths → Places
places_of t = t.places

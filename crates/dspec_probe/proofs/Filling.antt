-- A `FieldList` that is made of a list of fields.
use Rattle.std.proofs.Common.{◌≤◌, ◌++◌, List, length, drop, replicate, refl, ◌∙◌, arith}
use Rattle.std.proofs.lemmas.List.{length-append, length-drop, drop_at, drop-replicate, length-replicate}
use Rattle.dspec_probe.specs.Words.{Field, One, IsFieldList}

-- fields copied over the first of eight places
pub IsFieldList-copied : (fs : List Field) → length fs ≤ 8 → IsFieldList (record { held = fs ++ drop (length fs) (replicate 8 One); len = length fs })
IsFieldList-copied fs few = record {
  eight = omega (arith, length-append fs (drop (length fs) (replicate 8 One)), length-drop (length fs) (replicate 8 One), length-replicate 8 One);
  few = few;
  rest = drop_at fs (drop (length fs) (replicate 8 One)) (length fs) refl ∙ drop-replicate (length fs) 8 One;
}

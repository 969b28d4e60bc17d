-- Cited by calls. That each call on a table keeps the page of its paths, and what that says of records.
use Rattle.std.specs.{List.AllByRecursion, Prelude.ℕ, Prelude.◌≡◌, Prelude.Bool, Prelude.List, Prelude.◌∷◌, Prelude.Option}
use Rattle.dspec_paths.specs.PathPage.{DecidesItself, GoesTo, HasFates, IsNobodys, KeepsPaths, PathBook, Spares}
use Rattle.dspec_paths.specs.Table.{Places, AdoptsPath, BeginsBy, DiscardsPath, IsUndecided, KeepsPart, KeepsPath, TurnsBy}
use Rattle.dspec_paths.specs.Words.Outside.{CallsMade, Opening, Did, handed, Speculation, did, TellNumbers, Shape, IsLegal, Config, Deed}
use Rattle.dspec_paths.specs.declared.{open_path.OpenPath.OpenPath, path_end.PathEnd.PathEnd, path_key.PathKey.PathKey}
use Rattle.dspec_deeds.specs.declared.calls.Opening.TheVariants as opening

-- what is opened is nobody's before
abbrev pub OpensNobodys : PathBook → CallsMade → Opening → Type 0
OpensNobodys book x o = (id : Speculation) → o ≡ opening.Id id → IsNobodys book x.done id

abbrev pub BeginningKeeps : Type 0
BeginningKeeps = (book : PathBook) (ps new : Places) (number thread stamp : ℕ) (a : Option PathKey) (o : Opening) (x y : CallsMade) → KeepsPaths book ps x.done → OpensNobodys book x o
    → BeginsBy o number thread stamp a x y ps new → GoesTo book new y.done

abbrev pub TurningKeeps : Type 0
TurningKeeps = (book : PathBook) (ps new : Places) (k : PathKey) (p : OpenPath) (a : Option Speculation) (o : Opening) (x y : CallsMade) → KeepsPaths book ps x.done → IsUndecided k ps p
    → OpensNobodys book x o → TurnsBy o k p a x y ps new → GoesTo book new y.done

abbrev pub DiscardingKeeps : Type 0
DiscardingKeeps = (book : PathBook) (ps new : Places) (k : PathKey) (a : Bool) (x y : CallsMade) → KeepsPaths book ps x.done → DiscardsPath k a x y ps new → GoesTo book new y.done

-- by which speculations a commit would find no room
abbrev pub KeepingKeeps : (Speculation → Type 0) → Type 0
KeepingKeeps lacks = (waits : Bool) (book : PathBook) (ps new : Places) (k : PathKey) (a : PathEnd) (x y : CallsMade) → KeepsPaths book ps x.done → KeepsPath lacks waits k a x y ps new
    → GoesTo book new y.done

-- the same of a part
abbrev pub KeepingPartKeeps : (Speculation → Type 0) → Type 0
KeepingPartKeeps lacks = (waits : Bool) (book : PathBook) (ps new : Places) (k : PathKey) (a : PathEnd) (x y : CallsMade) → KeepsPaths book ps x.done → KeepsPart lacks waits k a x y ps new
    → GoesTo book new y.done

abbrev pub AdoptingKeeps : Type 0
AdoptingKeeps = (book : PathBook) (ps new : Places) (k : PathKey) (thread : ℕ) (a : Bool) (x : CallsMade) → KeepsPaths book ps x.done → AdoptsPath k thread a ps new → GoesTo book new x.done

-- a deed of the CPU that decides no speculation of a path
abbrev pub OthersKeep : Type 0
OthersKeep = (book : PathBook) (ps : Places) (ds : List Did) (d : Did) → KeepsPaths book ps ds → Spares book d → KeepsPaths book ps (d ∷ ds)

abbrev pub RecordsHaveFates : Type 0
RecordsHaveFates = (book : PathBook) (ps : Places) (ds : List Did) → AllByRecursion DecidesItself ds → TellNumbers ds → KeepsPaths book ps ds → HasFates book (handed ds)

-- the deeds of a session of one CPU: it decides itself, and so its records have these fates
abbrev pub OneCpuDecidesItself : Type 0
OneCpuDecidesItself = (shape : ℕ → Option Shape) (k : Config) (h : List Deed) → k.cpus ≡ 1 → IsLegal shape k h → AllByRecursion DecidesItself (did 0 h)

abbrev pub OneCpuHasFates : Type 0
OneCpuHasFates = (shape : ℕ → Option Shape) (k : Config) (h : List Deed) (book : PathBook) (ps : Places) → k.cpus ≡ 1 → IsLegal shape k h → KeepsPaths book ps (did 0 h)
    → HasFates book (handed (did 0 h))

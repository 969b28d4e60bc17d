-- What a deed of a CPU's own makes of a machine that may enter it: the machine shows the longer list, and a play knows that list of it.
use Rattle.std.proofs.Common.{◌≡◌, ℕ, ◌<◌, ◌^◌, false, List, [], ◌∷◌, ◌++◌, length, get_or, Option, Some, refl, ap, ◌∙◌, arith}
use Rattle.std.specs.{Global.Vec, Prelude.slice_get, Prelude.Result, Prelude.OnErr, Vec.with_item}
use Rattle.dspec_core.specs.Words.{Shape, Record, Piece, SlotState, author, halted, seals_now, stream, ShowsList, ShowsCpu, ShowsWords, IsShownMachine, Adds, MayEnterOn, history, Deed, CpuState}
use Rattle.dspec_core.specs.declared.machine.{Machine.Machine, cpu.Cpu.Cpu}
use Rattle.dspec_deeds.specs.declared.calls.Actor.TheVariants as actor
use Rattle.dspec_deeds.proofs.{Items.kept_item, WordChanges.touches}
use Rattle.dspec_interleaving.proofs.Counts.{one_more}
use Rattle.dspec_core.proofs.{KeptCpus.own_deed, MachineReads.cpu_got, OneMore.adds_own, OneMore.enters, OneMore.latest_first, OwnSlots.on_err, Rooms.HasDeedRoom, Rooms.deed_fits}
use Rattle.dspec_core.proofs.{WordsShown.words_stay}

-- the deed is the CPU's own, and neither a stop nor a Seal
abbrev pub IsOwnDeed : ℕ → Deed → List Deed → Type 0
IsOwnDeed c d h = (author d h ≡ actor.Cpu c) × (halted (d ∷ h) ≡ halted h) × (seals_now c d ≡ false)

-- what deeds make of a machine that enters them
pub record HasEntered {S B : Type 0} (has : B → S → List Piece → Type 0) (capacity : B → ℕ) (m n : Machine S B) (ds : List Deed) : Type 0 where
  pub shown : IsShownMachine has capacity n
  pub entered : Adds ds m n

-- the worn calls that a side counts
pub same_worn : {B : Type 0} {x y : CpuState B} → x ≡ y → x.counts.worn ≡ y.counts.worn
same_worn {B = B} e = ap (λ (x : CpuState B). x.counts.worn) e

-- a deed that is pushed, as it is told
pub pushed_as : {x y : Deed} (ds : List Deed) {new : List Deed} → x ≡ y → new ≡ ds ++ x ∷ [] → new ≡ ds ++ y ∷ []
pushed_as ds e pushed = pushed ∙ ap (λ (x : Deed). ds ++ x ∷ []) e

-- a refused growth has changed nothing
pub unmoved : {T E S B : Type 0} (r : Result T E) (m : Machine S B) (c : ℕ) {own new : Cpu B} {ds : List Deed} → own ≡ get_or m.cpus.items c own → ds ≡ m.deeds → new ≡ own
    → OnErr r (record m { deeds = ds; cpus = with_item m.cpus c new } ≡ m)
unmoved r m c {own = own} is deeds same =
    let cpus = ap (with_item m.cpus c) same ∙ kept_item m.cpus c own is in
    on_err r (λ i. record m { cpus = cpus i; deeds = deeds i })

module _ {S B : Type 0} {has : B → S → List Piece → Type 0} {capacity : B → ℕ} {shape_of : S → ℕ → Option Shape} {m : Machine S B} {c : ℕ} {d : Deed}
    (may : MayEnterOn has capacity shape_of m c (d ∷ [])) {own : Cpu B} (is : own ≡ get_or m.cpus.items c own) where
  there : slice_get m.cpus.items c ≡ Some own
  there = cpu_got has capacity m may.shown c own may.cpu is

  -- what is kept of the CPU before
  pub own_shows : ShowsCpu has capacity m.schema m.config c (history m) own
  own_shows = may.shown.cpus c own there

  module _ {ds : List Deed} (pushed : ds ≡ m.deeds ++ d ∷ []) where
    pub deed_room : length ds < 2 ^ 64 → HasDeedRoom (shape_of m.schema) m.config c d (history m) own.side
    deed_room lt = deed_fits (shape_of m.schema) m.config c _ _ (history m) own.side own_shows.side may.ranges d may.legal (one_more m.deeds ds d (length (history m)) (omega arith) pushed lt)

    -- the deed is on the CPU's side and, where it accepts records, in its stream
    pub own_entered : (ws : Vec SlotState) (next : Cpu B) → (author d (history m) ≡ actor.Cpu c) × (halted (d ∷ history m) ≡ halted (history m)) → ShowsWords m.config (d ∷ history m) ws.items
        → ShowsCpu has capacity m.schema m.config c (d ∷ history m) next → next.progress ≡ own.progress
        → HasEntered has capacity m (record m { deeds = ds; words = ws; cpus = with_item m.cpus c next }) (d ∷ [])
    own_entered ws next by words kept same =
        let deeds = latest_first m.deeds ds d pushed in
        record { shown = enters has capacity m ds ws d c next may.shown may.cpu deeds by.0 by.1 words kept; entered = adds_own m ds ws d c own next deeds there same }

    -- it leaves such a word, or all words
    module _ {side : CpuState B} {rs : List Record} (by : IsOwnDeed c d (history m)) (accepts : rs ≡ stream c (d ∷ history m))
        (shows : ShowsList (λ b. has b m.schema) capacity m.config c (d ∷ history m) side) (worn : side.counts.worn ≡ own.side.counts.worn) where
      kept : ShowsCpu has capacity m.schema m.config c (d ∷ history m) (record own { side = side; accepted = rs })
      kept = own_deed has capacity m.schema m.config c (history m) own own_shows d side rs by.2 shows worn accepts

      pub word_entered : (ws : Vec SlotState) → ShowsWords m.config (d ∷ history m) ws.items
          → HasEntered has capacity m (record m { deeds = ds; words = ws; cpus = with_item m.cpus c (record own { side = side; accepted = rs }) }) (d ∷ [])
      word_entered ws words = own_entered ws _ (by.0, by.1) words kept refl

      pub quiet_entered : ((t : ℕ) → touches t d ≡ false) → HasEntered has capacity m (record m { deeds = ds; cpus = with_item m.cpus c (record own { side = side; accepted = rs }) }) (d ∷ [])
      quiet_entered none = word_entered m.words (words_stay m.config d (history m) m.words.items none may.shown.words)

-- A CPU's block of its slot's present speculation, before the deed that ends it, and what is read there.
use Rattle.std.proofs.Common.{Option, ◌+◌, ◌≡◌, ℕ, ◌-◌, ◌<◌, ◌≤◌, ◌==◌, Bool, true, List, ◌∷◌, ◌++◌, [], length, map, reverse, get_or, if◌then◌else◌, None, Some, sym, ap, ◌∙◌, subst}
use Rattle.std.proofs.lemmas.Option.{slice_get_read}
use Rattle.std.specs.Prelude.{slice_get}
use Rattle.dspec_core.specs.Words.{Record, Piece, one, Speculation, SlotState, CanBeReleased, is_among, callers, is_copied, spoken_granted, in_range, is_open, issue, IsSound, IsCaller, contents}
use Rattle.dspec_core.specs.Words.{held, stream, start_fault, WorldInvariant, word_at, IsSlot, decides, deed_of, IsShownMachine, MayEnterOn, history, ShowsCpu, Shape, DecideFate, Settle, Speculate}
use Rattle.dspec_core.specs.Words.{SpeculateFate}
use Rattle.dspec_core.specs.declared.machine.{Machine.Machine, cpu.Cpu.Cpu, decision.Decision.Decision}
use Rattle.dspec_deeds.proofs.{PresentIds.open_present, WordChanges.granted_open}
use Rattle.dspec_core.proofs.{DecidedCpus.decided_open, MachineReads.cpu_read, MachineReads.place_within, MachineReads.slot_in_range, OneMore.read_place, OneMore.read_released, OneMore.read_word}
use Rattle.dspec_core.proofs.{OwnSlots.among_is, OwnSlots.block_there, OwnSlots.caller_is, OwnSlots.mark_there, OwnSlots.open_slot, OwnSlots.place_there, OwnSlots.settled_slot}

-- that is what the machine keeps of the CPU, and the identifier is the slot's present one
pub record HasOwnBlock {S B : Type 0} (has : B → S → List Piece → Type 0) (capacity : B → ℕ) (m : Machine S B) (c : ℕ) (id : Speculation) (own : Cpu B) : Type 0 where
  pub shown : IsShownMachine has capacity m
  pub cpu : c < m.config.cpus
  pub shows : ShowsCpu has capacity m.schema m.config c (history m) own
  pub slot : IsSlot m.config id.slot
  pub sound : IsSound m.config (history m)
  pub now : issue id.slot (history m) ≡ id.issue

module _ {S B : Type 0} {has : B → S → List Piece → Type 0} {capacity : B → ℕ} {m : Machine S B} {c : ℕ} {own : Cpu B} where
  -- of what is present
  pub present_block : {id : Speculation} → IsShownMachine has capacity m → c < m.config.cpus → own ≡ get_or m.cpus.items c own → IsSound m.config (history m) → in_range m.config id ≡ true
      → id.issue ≡ issue id.slot (history m) → HasOwnBlock has capacity m c id own
  present_block {id = id} shown lt is sound inside now =
      record { shown = shown; cpu = lt; shows = cpu_read has capacity m shown c own lt is; slot = slot_in_range m.config id inside; sound = sound; now = sym now }

  -- of what a call is at
  pub aimed_block : {shape_of : S → ℕ → Option Shape} {accepted : S → Record → Bool} {id : Speculation} → WorldInvariant has capacity shape_of accepted m → c < m.config.cpus
      → own ≡ get_or m.cpus.items c own → IsSlot m.config id.slot → id.issue ≡ issue id.slot (history m) → HasOwnBlock has capacity m c id own
  aimed_block kept lt is slot now =
      record { shown = kept.shown; cpu = lt; shows = cpu_read has capacity m kept.shown c own lt is; slot = slot; sound = kept.coherent.legal.0; now = sym now }

  -- the block of a speculation that is open
  open_block : (id : Speculation) → IsShownMachine has capacity m → start_fault m.config ≡ None → c < m.config.cpus → own ≡ get_or m.cpus.items c own → IsSound m.config (history m)
      → is_open id (history m) ≡ true → HasOwnBlock has capacity m c id own
  open_block id shown fine lt is sound opens = record {
    shown = shown;
    cpu = lt;
    shows = cpu_read has capacity m shown c own lt is;
    slot = open_slot m.config (history m) id fine sound opens;
    sound = sound;
    now = (open_present m.config (history m) id sound opens).now;
  }

  -- of one that a record is granted for next
  pub granted_block : {shape_of : S → ℕ → Option Shape} {id : Speculation} {r : Record} {f : SpeculateFate} → MayEnterOn has capacity shape_of m c (Speculate c id r f ∷ [])
      → own ≡ get_or m.cpus.items c own
      → spoken_granted f ≡ true → HasOwnBlock has capacity m c id own
  granted_block {id = id} {r = r} {f = f} may is granted =
      open_block id may.shown may.ranges may.cpu is may.legal.0.0 (granted_open m.config c id r f (history m) may.legal.0 granted)

  -- of one that is decided next
  pub decided_block : {shape_of : S → ℕ → Option Shape} → (x : Decision) (id : Speculation) (f : DecideFate) → MayEnterOn has capacity shape_of m c (deed_of x c id f ∷ [])
      → own ≡ get_or m.cpus.items c own
      → decides x f ≡ true → HasOwnBlock has capacity m c id own
  decided_block x id f may is decided =
      open_block id may.shown may.ranges may.cpu is may.legal.0.0 (decided_open m.config c id f (history m) x decided may.legal.0)

  -- of one that is settled next
  pub settled_block : {shape_of : S → ℕ → Option Shape} {id : Speculation} {f : DecideFate} → MayEnterOn has capacity shape_of m c (Settle c id f ∷ []) → own ≡ get_or m.cpus.items c own
      → HasOwnBlock has capacity m c id own
  settled_block {id = id} {f = f} may is = record {
    shown = may.shown;
    cpu = may.cpu;
    shows = cpu_read has capacity m may.shown c own may.cpu is;
    slot = settled_slot m.config c id f (history m) may.ranges may.legal.0;
    sound = may.legal.0.0;
    now = sym may.legal.0.1.1.1.0;
  }

module _ {S B : Type 0} {has : B → S → List Piece → Type 0} {capacity : B → ℕ} {m : Machine S B} {c : ℕ} {id : Speculation} {own : Cpu B} (block : HasOwnBlock has capacity m c id own) where
  pub block_mark : (1 ≤ id.slot) × (id.slot ≤ length own.side.marks)
  block_mark = mark_there _ _ _ _ _ _ block.shows.side id block.slot

  pub block_buffer : (1 ≤ id.slot) × (id.slot ≤ length own.side.speculative.items)
  block_buffer = place_there _ _ _ _ _ _ block.shows.side id block.slot

  -- what the mark tells
  module _ {mine : Bool} (tells : (n : ℕ) → slice_get own.side.marks (id.slot - 1) ≡ Some n → mine ≡ (n == id.issue + 1)) where
    pub block_caller : IsCaller c id mine (history m)
    block_caller = caller_is _ _ _ _ _ _ block.shows.side id block.slot block.cpu block.sound block.now mine tells

    pub block_mine : mine ≡ is_among c (callers id (history m))
    block_mine = among_is _ _ _ _ _ _ block.shows.side id block.slot block.cpu block.sound block.now mine tells

  -- what stands at the slot's place
  module _ {n : ℕ} (named : n ≡ id.slot) where
    pub block_low : 1 ≤ n
    block_low = subst (λ x. 1 ≤ x) (sym named) block.slot.0

    pub block_place : n - 1 < own.side.speculative.len
    block_place = place_within n id.slot (length own.side.speculative.items) own.side.speculative.len named block.slot.0 block_buffer.1 own.side.speculative.ok.0

    pub word_place : n - 1 < m.words.len
    word_place = read_place m block.shown id.slot n block.slot named

    pub word_read : {w : SlotState} → w ≡ get_or m.words.items (n - 1) w → w ≡ word_at id.slot (history m)
    word_read {w = w} e = read_word m block.shown id.slot n w block.slot named e

    pub word_released : {w : SlotState} → start_fault m.config ≡ None → w ≡ get_or m.words.items (n - 1) w → CanBeReleased w
    word_released {w = w} fine e = read_released m block.shown fine block.sound id.slot n w block.slot named e

    -- where the records of the slot's buffer go after the stream, those of the block do
    pub block_streams : {b : B} (f : DecideFate) {rs : List Record} → b ≡ get_or own.side.speculative.items (n - 1) b
        → ((xs : List Record) → has b m.schema (map one xs) → rs ≡ own.accepted ++ (if is_copied f then reverse xs else []))
        → rs ≡ stream c (history m) ++ (if is_copied f then reverse (contents (held c id (history m))) else [])
    block_streams {b = b} f read adds =
        let got = slice_get_read own.side.speculative.items own.side.speculative.len (n - 1) b own.side.speculative.ok.0 block_place read in
        let keeps = block_there (λ x. has x m.schema) capacity m.config c (history m) own.side block.shows.side id block.slot block.cpu block.sound block.now b
        (subst (λ i. slice_get own.side.speculative.items (i - 1) ≡ Some b) named got) in
        adds (contents (held c id (history m))) keeps ∙ ap (λ (xs : List Record). xs ++ (if is_copied f then reverse (contents (held c id (history m))) else [])) block.shows.accepted

-- A machine with one deed more shows its list where its words do, and what it keeps of each CPU.
use Rattle.std.proofs.Common.{[], ◌≡◌, ℕ, zero, suc, ◌-◌, ◌<◌, ◌≤◌, true, false, ◌==◌, List, ◌∷◌, ◌++◌, length, map, reverse, set, get_or, None, Some, refl, sym, ap, ◌∙◌, subst, ⊎_elim, arith}
use Rattle.std.proofs.lemmas.{Bool.Decides.nat_tests, List.reverse-append, List.length-set, Option.slice_get_read}
use Rattle.std.specs.{Global.Vec, Prelude.slice_get, Vec.with_item}
use Rattle.dspec_core.specs.Words.{Piece, Speculation, SlotState, halted, author, same_actor, word_at, progress_of, ShowsWords, ShowsCpu, IsShownMachine, Adds, history, CanBeReleased, IsSlot}
use Rattle.dspec_core.specs.Words.{IsSound, start_fault, Config, Deed, Halt, Opened, Release}
use Rattle.dspec_core.specs.declared.machine.{Machine.Machine, cpu.Cpu.Cpu}
use Rattle.dspec_deeds.specs.declared.calls.Actor.TheVariants as actor
use Rattle.dspec_deeds.proofs.{Places.got_set, Places.got_other, TestLemmas.either_way, TestLemmas.same_number, TestLemmas.numbers_differ}
use Rattle.dspec_interleaving.proofs.StepReads.{can_be_released}
use Rattle.dspec_core.proofs.KeptCpus.{opening, other_deed, releasing}

-- the deed added last is the latest
pub latest_first : (ds new : List Deed) (d : Deed) → new ≡ ds ++ d ∷ [] → reverse new ≡ d ∷ reverse ds
latest_first ds new d e = ap reverse e ∙ reverse-append ds (d ∷ [])

-- the word that was read is that of the slot
pub word_there : (k : Config) (h : List Deed) (words : List SlotState) (s : ℕ) (w : SlotState) → 1 ≤ s → s ≤ k.nspec → ShowsWords k h words → w ≡ get_or words (s - 1) w → w ≡ word_at s h
word_there k h words s w least most was e = grind (arith, nat_tests, slice_get_read)

-- what is read of a machine's words by a slot's number: it stands there, is the slot's, and can be released where the list is sound
module _ {S B : Type 0} {has : B → S → List Piece → Type 0} {capacity : B → ℕ} (m : Machine S B) (shown : IsShownMachine has capacity m) where
  pub read_place : (s n : ℕ) → IsSlot m.config s → n ≡ s → n - 1 < m.words.len
  read_place s n slot named = let low = slot.0 in let high = slot.1 in let count = shown.words.count in let len = m.words.ok.0 in omega arith

  pub read_word : (s n : ℕ) (w : SlotState) → IsSlot m.config s → n ≡ s → w ≡ get_or m.words.items (n - 1) w → w ≡ word_at s (history m)
  read_word s n w slot named e = word_there m.config (history m) m.words.items s w slot.0 slot.1 shown.words (subst (λ x. w ≡ get_or m.words.items (x - 1) w) named e)

  pub read_released : start_fault m.config ≡ None → IsSound m.config (history m) → (s n : ℕ) (w : SlotState) → IsSlot m.config s → n ≡ s → w ≡ get_or m.words.items (n - 1) w → CanBeReleased w
  read_released fine sound s n w slot named e = subst CanBeReleased (sym (read_word s n w slot named e)) (can_be_released m.config s (history m) fine sound)

-- a write that leaves what is read of an element leaves what is read of all
pub map_set : {A C : Type 0} (f : A → C) (xs : List A) (i : ℕ) (x y : A) → slice_get xs i ≡ Some x → f y ≡ f x → map f (set xs i y) ≡ map f xs
map_set f [] i x y got e = refl
map_set f (z ∷ xs) zero x y got e = let is : z ≡ x = cc in rw (e, is) refl
map_set f (z ∷ xs) (suc i) x y got e = ap (λ zs. f z ∷ zs) (map_set f xs i x y got e)

module _ {S B : Type 0} (has : B → S → List Piece → Type 0) (capacity : B → ℕ) where
  -- what is kept of every CPU shows the list
  abbrev pub AllShow : S → Config → List Deed → List (Cpu B) → Type 0
  AllShow schema k h cpus = (c : ℕ) (own : Cpu B) → slice_get cpus c ≡ Some own → ShowsCpu has capacity schema k c h own

  -- what a machine shows of a list
  pub record ShownAs (h : List Deed) (n : Machine S B) : Type 0 where
    pub words : ShowsWords n.config h n.words.items
    pub active : n.halted ≡ halted h
    pub cpu_count : length n.cpus.items ≡ n.config.cpus
    pub cpus : AllShow n.schema n.config h n.cpus.items

  -- a machine that shows its list
  pub shown_as : (n : Machine S B) (h : List Deed) → history n ≡ h → ShownAs h n → IsShownMachine has capacity n
  shown_as n h e s = record {
    words = subst (λ g. ShowsWords n.config g n.words.items) (sym e) s.words;
    active = s.active ∙ ap halted (sym e);
    cpu_count = s.cpu_count;
    cpus = subst (λ g. AllShow n.schema n.config g n.cpus.items) (sym e) s.cpus;
  }

  module _ (schema : S) (k : Config) (h : List Deed) (cpus : List (Cpu B)) (was : AllShow schema k h cpus) where
    -- after a deed of a CPU for which what is kept shows it
    pub cpus_set : (d : Deed) (c : ℕ) (own : Cpu B) → author d h ≡ actor.Cpu c → c < length cpus → ShowsCpu has capacity schema k c (d ∷ h) own → AllShow schema k (d ∷ h) (set cpus c own)
    cpus_set d c own by lt shows a x got = ⊎_elim
        (λ (t : (a == c) ≡ true).
        let is = same_number a c t in
        let here : slice_get (set cpus c own) c ≡ Some own = got_set cpus c own lt in
        let got' : slice_get (set cpus c own) c ≡ Some x = subst (λ b. slice_get (set cpus c own) b ≡ Some x) is got in
        let same : own ≡ x = cc in
        subst (λ b. ShowsCpu has capacity schema k b (d ∷ h) x) (sym is) (subst (ShowsCpu has capacity schema k c (d ∷ h)) same shows))
        (λ (f : (a == c) ≡ false).
        let other : same_actor (actor.Cpu a) (author d h) ≡ false = ap (same_actor (actor.Cpu a)) by ∙ f in
        other_deed has capacity schema k a h x (was a x (sym (got_other cpus c a own (numbers_differ a c f)) ∙ got)) d other)
        (either_way (a == c))

    -- after a slot is given out, after one is released, and after a stop
    pub cpus_opened : (c : ℕ) (id : Speculation) → AllShow schema k (Opened c id ∷ h) cpus
    cpus_opened c id a x got = opening has capacity schema k a h x (was a x got) c id

    pub cpus_released : (slot : ℕ) → AllShow schema k (Release slot ∷ h) cpus
    cpus_released slot a x got = releasing has capacity schema k a h x (was a x got) slot

    pub cpus_halted : AllShow schema k (Halt ∷ h) cpus
    cpus_halted a x got = other_deed has capacity schema k a h x (was a x got) Halt refl

  -- a machine with a deed more of a CPU's, for which what is kept shows it
  pub enters : (m : Machine S B) (ds : List Deed) (ws : Vec SlotState) (d : Deed) (c : ℕ) (new : Cpu B) → IsShownMachine has capacity m → c < m.config.cpus → reverse ds ≡ d ∷ history m
      → author d (history m) ≡ actor.Cpu c → halted (d ∷ history m) ≡ halted (history m) → ShowsWords m.config (d ∷ history m) ws.items → ShowsCpu has capacity m.schema m.config c (d ∷ history m) new
      → IsShownMachine has capacity (record m { deeds = ds; words = ws; cpus = with_item m.cpus c new })
  enters m ds ws d c new was lt is by runs words shows =
      shown_as _ (d ∷ history m) is record {
        words = words;
        active = was.active ∙ sym runs;
        cpu_count = length-set m.cpus.items c _ ∙ was.cpu_count;
        cpus = cpus_set m.schema m.config (history m) m.cpus.items was.cpus d c new by (omega arith) shows;
      }

-- a machine with a deed more, and such words, for which what is kept of every CPU shows it
pub all_enter : {S B : Type 0} {has : B → S → List Piece → Type 0} {capacity : B → ℕ} {m : Machine S B} → IsShownMachine has capacity m → {ds : List Deed} {d : Deed} → ds ≡ m.deeds ++ d ∷ []
    → (ws : Vec SlotState) → halted (d ∷ history m) ≡ halted (history m) → ShowsWords m.config (d ∷ history m) ws.items → AllShow has capacity m.schema m.config (d ∷ history m) m.cpus.items
    → IsShownMachine has capacity (record m { deeds = ds; words = ws })
all_enter {has = has} {capacity = capacity} {m = m} was {ds = ds} {d = d} pushed ws runs words cpus =
    shown_as has capacity _ (d ∷ history m) (latest_first m.deeds ds d pushed) record { words = words; active = was.active ∙ sym runs; cpu_count = was.cpu_count; cpus = cpus }

-- what a play knows of it
pub adds_own : {S B : Type 0} (m : Machine S B) (ds : List Deed) (ws : Vec SlotState) (d : Deed) (c : ℕ) (own new : Cpu B) → reverse ds ≡ d ∷ history m → slice_get m.cpus.items c ≡ Some own
    → new.progress ≡ own.progress → Adds (d ∷ []) m (record m { deeds = ds; words = ws; cpus = with_item m.cpus c new })
adds_own m ds ws d c own new h1 h2 h3 = grind (arith, nat_tests, map_set)

-- a CPU's progress in a play is the one that is kept
pub progress_there : {B : Type 0} (sides : List (Cpu B)) (c : ℕ) (side : Cpu B) → slice_get sides c ≡ Some side → progress_of (map (λ s. s.progress) sides) c ≡ side.progress
progress_there [] c side got = absurd (cc (got))
progress_there (s ∷ sides) zero side got = let is : s ≡ side = cc in ap (λ x. x.progress) is
progress_there (s ∷ sides) (suc c) side got = progress_there sides c side got

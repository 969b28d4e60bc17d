-- How an atomic step is put together: what its deeds enter, and then what becomes of its CPU's progress.
use Rattle.std.proofs.Common.{arith, ◌≡◌, ℕ, ◌<◌, ◌==◌, true, false, List, set, get_or, Option, Some, sym, ap, ◌∙◌, subst, ⊎_elim}
use Rattle.std.proofs.lemmas.{Bool.Decides.nat_tests, List.length-set, List.map-set, Option.slice_get_within}
use Rattle.std.specs.{Prelude.slice_get, Vec.with_item}
use Rattle.dspec_core.specs.Words.{Piece, CpuStep, progress_of, ShowsCpu, IsShownMachine, Adds, Makes, history, state_of, Answer, Deed, CpuProgress}
use Rattle.dspec_core.specs.declared.machine.{Machine.Machine, cpu.Cpu.Cpu}
use Rattle.dspec_deeds.proofs.{Places.got_set, Places.got_other, TestLemmas.either_way, TestLemmas.same_number, TestLemmas.numbers_differ}
use Rattle.dspec_core.proofs.{KeptCpus.calling, MachineReads.cpu_got, OneMore.progress_there}

-- what a play knows of a machine where what is kept of one CPU is another
pub state_puts : {S B : Type 0} (m : Machine S B) (c : ℕ) (new : Cpu B)
    → state_of (record m { cpus = with_item m.cpus c new }) ≡ record (state_of m) { progresses = set (state_of m).progresses c new.progress }
state_puts {B = B} m c new = ap (λ x. record (state_of m) { progresses = x }) (map-set (λ (own : Cpu B). own.progress) m.cpus.items c new)

module _ {S B : Type 0} (has : B → S → List Piece → Type 0) (capacity : B → ℕ) where
  -- a machine shows its list with what shows it kept of one CPU
  pub cpu_puts : (m : Machine S B) (c : ℕ) (own new : Cpu B) → IsShownMachine has capacity m → slice_get m.cpus.items c ≡ Some own → ShowsCpu has capacity m.schema m.config c (history m) new
      → IsShownMachine has capacity (record m { cpus = with_item m.cpus c new })
  cpu_puts m c own new was got shows = record {
    words = was.words;
    active = was.active;
    cpu_count = length-set m.cpus.items c _ ∙ was.cpu_count;
    cpus = λ a x now. ⊎_elim
        (λ (t : (a == c) ≡ true).
        let is = same_number a c t in
        let here : slice_get (set m.cpus.items c new) c ≡ Some new = got_set m.cpus.items c new (slice_get_within m.cpus.items c own got) in
        let now' : slice_get (set m.cpus.items c new) c ≡ Some x = subst (λ b. slice_get (set m.cpus.items c new) b ≡ Some x) is now in
        let same : new ≡ x = cc in
        subst (λ b. ShowsCpu has capacity m.schema m.config b (history m) x) (sym is) (subst (ShowsCpu has capacity m.schema m.config c (history m)) same shows))
        (λ (f : (a == c) ≡ false). was.cpus a x (sym (got_other m.cpus.items c a new (numbers_differ a c f)) ∙ now))
        (either_way (a == c));
  }

  -- a step that entered its deeds and then moved its CPU's progress
  pub step_made : (m n left : Machine S B) (c : ℕ) (ds : List Deed) (change : CpuProgress → CpuProgress) (moved : CpuStep) (answer : Option Answer) → Adds ds m n → IsShownMachine has capacity left
      → state_of left ≡ record (state_of n) { progresses = set (state_of n).progresses c (change (progress_of (state_of n).progresses c)) } → left.schema ≡ n.schema
      → record { progress = change (progress_of (state_of m).progresses c); deeds = ds; answer = answer } ≡ moved → Makes has capacity m left c moved answer
  step_made m n left c ds change moved answer adds shown state schema is = grind (arith, nat_tests)

module _ {S B : Type 0} {has : B → S → List Piece → Type 0} {capacity : B → ℕ} {m : Machine S B} (shown : IsShownMachine has capacity m) {c : ℕ} (lt : c < m.config.cpus) {own : Cpu B}
    (is : own ≡ get_or m.cpus.items c own) where
  there : slice_get m.cpus.items c ≡ Some own
  there = cpu_got has capacity m shown c own lt is

  -- the CPU's progress in the play is the one that is kept
  pub progress_is : progress_of (state_of m).progresses c ≡ own.progress
  progress_is = progress_there m.cpus.items c own there

  -- with another kept of the CPU that shows the list, the machine shows it
  pub puts_shown : {new : Cpu B} → ShowsCpu has capacity m.schema m.config c (history m) new → IsShownMachine has capacity (record m { cpus = with_item m.cpus c new })
  puts_shown shows = cpu_puts has capacity m c own _ shown there shows

  -- so it does whatever the CPU's progress is next
  pub moves_shown : (me : CpuProgress) → me.takes ≡ own.progress.takes → me.worn ≡ own.progress.worn
      → IsShownMachine has capacity (record m { cpus = with_item m.cpus c (record own { progress = me }) })
  moves_shown me takes worn = puts_shown (calling has capacity m.schema m.config c (history m) own (shown.cpus c own there) me takes worn)

  -- and what a play knows of it is that progress
  pub moves_state : (new : Cpu B) (change : CpuProgress → CpuProgress) → new.progress ≡ change own.progress
      → state_of (record m { cpus = with_item m.cpus c new }) ≡ record (state_of m) { progresses = set (state_of m).progresses c (change (progress_of (state_of m).progresses c)) }
  moves_state new change same =
      state_puts m c new ∙ ap (λ (x : CpuProgress). record (state_of m) { progresses = set (state_of m).progresses c x }) (same ∙ ap change (sym progress_is))

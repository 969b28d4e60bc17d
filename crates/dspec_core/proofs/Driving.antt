-- What a step's sight, its deeds and its CPU's progress make of a machine is the play's step.
use Rattle.std.proofs.Common.{◌≡◌, ℕ, ◌<◌, ◌-◌, Bool, true, List, ◌++◌, Option, Some, refl, sym, ap, ◌∙◌, subst, get_or}
use Rattle.std.specs.Prelude.{nat_le, slice_set}
use Rattle.dspec_core.specs.Words.{Shape, Record, Piece, Speculation, HasAuthors, IsAllowed, IsSlot, progress_of, cpu_step, CpuStep, measured, StandsCpu, IsShownMachine, Adds, history, state_of}
use Rattle.dspec_core.specs.Words.{ack, word_at, SlotState, WorldInvariant, IsSlotPlace, IsStep, MayCome, TellsAt, TellsOwn, aimed, entry_deeds, deeds_pass, moved_by, step, step_cpu, Answer}
use Rattle.dspec_core.specs.Words.{CpuProgress, CallPlace}
use Rattle.dspec_core.specs.declared.machine.{Machine.Machine, cpu.Cpu.Cpu, seen.Move.Move, seen.Seen.Seen}
use Rattle.dspec_deeds.specs.declared.calls.Actor.TheVariants as actor
use Rattle.dspec_deeds.proofs.SetUp.{set_up}
use Rattle.dspec_interleaving.proofs.{Coherence.step_cpu_coherent, StepReads.flight_stands}
use Rattle.dspec_core.proofs.{Keepings.made_kept, MachineReads.ack_read, MachineReads.cpu_read, Makings.step_made, OneMore.read_word, Seeing.aimed_slot, Seeing.stands_inside, Seeing.step_plays}
use Rattle.dspec_core.proofs.{StepRecords.step_records}

-- what a step of a CPU leaves, with that answer
pub record LeftBy {S B : Type 0} (has : B → S → List Piece → Type 0) (capacity : B → ℕ) (shape_of : S → ℕ → Option Shape) (accepted : S → Record → Bool) (m left : Machine S B) (c : ℕ)
    (answer : Option Answer) : Type 0 where
  pub kept : WorldInvariant has capacity shape_of accepted left
  pub state : state_of left ≡ (step (shape_of m.schema) (actor.Cpu c) (state_of m)).state
  pub answered : answer ≡ (step (shape_of m.schema) (actor.Cpu c) (state_of m)).answer
  pub schema : left.schema ≡ m.schema

-- what a step sees of a machine and a CPU, with the word and the acknowledgement of a slot and what it measures
abbrev pub seen_of : {S B : Type 0} → Machine S B → ℕ → Cpu B → SlotState → ℕ → Bool → Bool → Bool → ℕ → Seen
seen_of m c own w a mine fits copies count = record {
  config = m.config;
  cpu = c;
  me = own.progress;
  worn = nat_le m.config.max_calls own.side.calls;
  stopped = m.halted;
  word = w;
  acked = a;
  mine = mine;
  fits = fits;
  copies = copies;
  count = count;
  missed_busy = own.side.missed_busy;
  seals = own.side.seals;
}

module _ {S B : Type 0} {has : B → S → List Piece → Type 0} {capacity : B → ℕ} {shape_of : S → ℕ → Option Shape} {accepted : S → Record → Bool} {m : Machine S B}
    (kept : WorldInvariant has capacity shape_of accepted m) (c : ℕ) (lt : c < m.config.cpus) (f : CallPlace) (flies : (progress_of (state_of m).progresses c).flight ≡ Some f) where
  -- where the call stands
  pub place_stands : StandsCpu m.config c (history m) (progress_of (state_of m).progresses c) f
  place_stands = flight_stands (shape_of m.schema) (state_of m) kept.coherent c lt f flies

  pub place_slot : IsSlot m.config (aimed (history m) f).slot
  place_slot = aimed_slot m.config c (history m) (progress_of (state_of m).progresses c) f (set_up m.config kept.coherent.ranges).1 place_stands

  pub place_aimed : (id : Speculation) → id ≡ aimed (history m) f → IsSlot m.config id.slot
  place_aimed id is = subst (λ (j : Speculation). IsSlot m.config j.slot) (sym is) place_slot

  pub place_inside : IsSlotPlace m.config f
  place_inside = stands_inside m.config c (history m) (progress_of (state_of m).progresses c) f place_stands

  -- what the machine keeps of the session, the CPU and the call's slot is what the list says
  pub sees : (id : Speculation) → id ≡ aimed (history m) f → (own : Cpu B) → own ≡ get_or m.cpus.items c own → (s : ℕ) → s ≡ id.slot → (w : SlotState) → w ≡ get_or m.words.items (s - 1) w
      → (a : ℕ) → a ≡ get_or own.side.acks.items (s - 1) a → (mine fits copies : Bool) (count : ℕ)
      → TellsAt m.config c (history m) (aimed (history m) f) (seen_of m c own w a mine fits copies count)
  sees id same own there s named w read a acks mine fits copies count =
      let h = history m in
      let side = (cpu_read has capacity m kept.shown c own lt there).side in
      let slot = place_aimed id same in
      record {
        config = refl;
        cpu = refl;
        worn = ap (nat_le m.config.max_calls) side.parts.called;
        stopped = kept.shown.active;
        word = read_word m kept.shown id.slot s w slot named read ∙ ap (λ (j : Speculation). word_at j.slot h) same;
        acked = ack_read has capacity m kept.shown c s own a lt (subst (IsSlot m.config) (sym named) slot) there acks ∙ ap (λ n. ack c n h) (named ∙ ap (λ (j : Speculation). j.slot) same);
        missed = side.parts.missed;
        sealed = side.parts.sealed;
      }

  module _ {seen : Seen} (at : TellsAt m.config c (history m) (aimed (history m) f) seen) (own : TellsOwn (shape_of m.schema) m.config c (history m) f seen)
      (me : seen.me ≡ progress_of (state_of m).progresses c) (move : Move) (is : IsStep seen f move) where
    -- the move is the play's step
    moves : record { progress = moved_by move (progress_of (state_of m).progresses c); deeds = entry_deeds c move.entry; answer = move.answer }
        ≡ cpu_step (shape_of m.schema) m.config c (history m) (progress_of (state_of m).progresses c) f
    moves =
        let Step : ℕ → CpuProgress → CpuStep = λ a x. record { progress = moved_by move x; deeds = entry_deeds a move.entry; answer = move.answer } in
        sym (λ i. Step (at.cpu i) (me i)) ∙ (is ∙ step_plays (shape_of m.schema) m.config c (history m) _ seen f at own me place_stands)

    -- its deeds may come next
    pub move_comes : MayCome has capacity shape_of accepted m (entry_deeds c move.entry)
    move_comes =
        let after = step_cpu_coherent (shape_of m.schema) (state_of m) c (Some f) kept.coherent lt flies in
        record {
          kept = kept;
          legal = subst (λ (x : CpuStep). IsAllowed (shape_of m.schema) m.config (x.deeds ++ history m)) (sym moves) after.legal;
          authors = subst (λ (x : CpuStep). HasAuthors m.config (x.deeds ++ history m)) (sym moves) after.authors;
          records = subst (λ (x : CpuStep). deeds_pass (accepted m.schema) x.deeds ≡ true) (sym moves)
              (step_records (accepted m.schema) m.config c (measured (shape_of m.schema) m.config c (history m)) (progress_of (state_of m).progresses c) f (kept.accepted_records c f lt flies));
        }

    -- and the machine that they and the progress leave is the play's
    pub move_leaves : (n left : Machine S B) → Adds (entry_deeds c move.entry) m n → IsShownMachine has capacity left
        → state_of left ≡ record (state_of n) { progresses = slice_set (state_of n).progresses c (moved_by move (progress_of (state_of n).progresses c)) } → left.schema ≡ n.schema
        → LeftBy has capacity shape_of accepted m left c move.answer
    move_leaves n left adds shown state schema =
        let made = step_made has capacity m n left c (entry_deeds c move.entry) (moved_by move) _ move.answer adds shown state schema moves in
        let steps = ap (step_cpu (shape_of m.schema) c (state_of m)) (sym flies) in
        record {
          kept = made_kept has capacity shape_of accepted m left c f move.answer kept lt flies made;
          state = made.state ∙ (λ i. (steps i).state);
          answered = made.answered ∙ (λ i. (steps i).answer);
          schema = made.schema;
        }

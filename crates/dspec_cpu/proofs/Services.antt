-- One slot of a service: its word is loaded, and what is due is settled.
use Rattle.std.proofs.Common.{◌≡◌, ℕ, ◌+◌, ◌-◌, ◌^◌, ◌≤◌, ◌<◌, Bool, true, false, List, [], ◌&&◌, nat_le, get_or, Option, if◌then◌else◌, refl, sym, ap, ◌∙◌, subst, inl, inr, arith, true≢false}
use Rattle.std.proofs.lemmas.{Bool.Decides.nat_tests, List.append-nil, Option.get_or_from_slice_get}
use Rattle.dspec_cpu.specs.Words.{Record, SlotState, CanBeReleased, awaits, is_decided, settle_at, is_granted, ack, known, IsAt, cpu_of, LoadedWord, Goes, rests, steps, HasList, IsReady, Stands}
use Rattle.dspec_cpu.specs.Words.{DueSettled, IsDueAt, SlotDone, serving, Entered, slot_place, number_of, shown, idle_progress, Shape, Code, CommittingMany, Discarding, Act, Granted, Idle, Deed}
use Rattle.dspec_cpu.specs.Words.{Doing, View, CpuSeat}
use Rattle.dspec_cpu.specs.declared.parts.CpuParts.{CpuParts as Cpu}
use Rattle.dspec_deeds.proofs.OwnReads.{apart_bare}
use Rattle.dspec_table.specs.declared.seats.Words.{Words}
use Rattle.dspec_table.proofs.InFlight.{looks}
use Rattle.dspec_cpu.proofs.{ReachDeeds.goes_on, Ready.holder, Ready.ready_after, Ready.set_up_is, Ready.stands_after, Settlements.grant_tells}

-- a speculation that isn't decided waits for no CPU
pub not_awaiting : (c : Code) → is_decided c ≡ false → awaits c ≡ false
not_awaiting CommittingMany e = e
not_awaiting Discarding e = e
not_awaiting c e = refl

pub not_granted : (a : Act) → (a ≡ Granted → ⊥) → is_granted a ≡ false
not_granted Granted n = absurd (n refl)
not_granted a n = refl

-- a word from which its slot can be released, and which waits, isn't of the last issue
limited : (w : SlotState) (acked : ℕ) → CanBeReleased w → settle_at w acked ≡ Granted → w.issue < 2 ^ 57
limited w acked (inl lt) grants = lt
limited w acked (inr inactive) grants = absurd (true≢false (sym (grant_tells w acked (ap is_granted grants)).0 ∙ ap awaits inactive))

module _ (shape : ℕ → Option Shape) (accepted : Record → Bool) (text : Record → List ℕ) {S : Type 0} (words : Words) (cpu : Cpu S)
    (ready : IsReady shape accepted text words cpu) (slot : ℕ) (low : 1 ≤ slot) (high : slot ≤ cpu.config.nspec)
    (seat : CpuSeat) (word : SlotState) (doing : Doing) (asked : doing ≡ serving false 0 false) (loaded : LoadedWord doing slot (known cpu.seat) word (known seat)) where
  abbrev v : View
  v = known cpu.seat

  abbrev u : View
  u = known seat

  -- the CPU after the load
  abbrev pub looking : Cpu S
  looking = record cpu { seat = seat }

  step : LoadedWord (serving false 0 false) slot v word u
  step = subst (λ (d : Doing). LoadedWord d slot v word u) asked loaded

  -- it enters nothing
  entered : Entered (slot_place slot) v step.0 [] u
  entered = subst (λ ds. Entered (slot_place slot) v step.0 ds u)
      (looks v.config (number_of v.who) (shown (serving false 0 false) word false) idle_progress slot record { sealed = false; settled = 0 } word (settle_at word 0)) step.3

  load_stands : Stands cpu.config cpu.cpu v [] u
  load_stands = stands_after cpu.config cpu.cpu v u step.0 [] (set_up_is shape accepted text words cpu ready) (holder shape accepted text words cpu ready) entered

  load_goes : Goes v [] u
  load_goes = steps u [] [] step.0 rests step.1 (inl entered) refl

  one_step : u.steps ≡ v.steps + 1
  one_step = ap (λ (x : View). x.steps) entered.view

  loaded_list : (p : List Deed) → HasList shape accepted text cpu p → HasList shape accepted text looking p
  loaded_list p had = record { own = had.own ∙ sym load_stands.own; shown = had.shown }

  pub loaded_ready : IsAt words seat × (cpu_of seat ≡ cpu_of cpu.seat) → IsReady shape accepted text words looking
  loaded_ready at = ready_after shape accepted text words cpu ready looking [] refl refl at.0 at.1 load_stands ready.steady.idle ready.steady.flight ready.steady.spare ready.steady.few
      ready.steady.list (loaded_list ready.steady.list ready.steady.listed)

  -- the acknowledgement that the CPU keeps, as its seat's list has it
  ack_kept : (a : ℕ) → a ≡ get_or cpu.side.acks.items (slot - 1) a → a ≡ ack cpu.cpu slot v.own
  ack_kept a is =
      let p = ready.steady.list in
      let had = ready.steady.listed in
      is ∙ (get_or_from_slice_get cpu.side.acks.items (slot - 1) (ack cpu.cpu slot p) a (had.shown.side.acks slot low high)
      ∙ ((apart_bare cpu.config cpu.cpu p).acks slot ∙ ap (ack cpu.cpu slot) had.own))

  -- a slot that is passed
  passed_by : is_granted (settle_at word (ack cpu.cpu slot v.own)) ≡ false
      → SlotDone cpu.cpu slot false (HasList shape accepted text cpu) v (HasList shape accepted text looking) u
  passed_by none = grind (arith, nat_tests, step, load_goes, one_step, loaded_list)

  pub passed : (a : ℕ) → a ≡ get_or cpu.side.acks.items (slot - 1) a → is_granted (settle_at word a) ≡ false
      → SlotDone cpu.cpu slot false (HasList shape accepted text cpu) v (HasList shape accepted text looking) u
  passed a is none = passed_by (ap (λ n. is_granted (settle_at word n)) (sym (ack_kept a is)) ∙ none)

  -- one that nobody waits for, whatever the acknowledgement is
  pub passed_early : awaits word.code ≡ false → SlotDone cpu.cpu slot false (HasList shape accepted text cpu) v (HasList shape accepted text looking) u
  passed_early idle = passed_by (ap (λ b. is_granted (if b && nat_le (ack cpu.cpu slot v.own) word.issue then Granted else Idle)) idle)

  -- a slot whose settlement is due
  pub due : (a : ℕ) → a ≡ get_or cpu.side.acks.items (slot - 1) a → CanBeReleased word → settle_at word a ≡ Granted → IsDueAt cpu.cpu slot word u
  due a is limit grants = grind (arith, nat_tests, load_stands, entered, step, limited, ack_kept)

  -- and was made
  pub slot_done : (has : List Deed → Type 0) (w : View) → IsDueAt cpu.cpu slot word u → DueSettled cpu.cpu slot word (HasList shape accepted text looking) u has w
      → SlotDone cpu.cpu slot true (HasList shape accepted text cpu) v has w
  slot_done has w due done = record {
    settles = done.settles;
    slot_is = record {
      shown = word;
      loaded = u;
      load = step;
      granted = sym (ap (λ l. is_granted (settle_at word (ack cpu.cpu slot l))) (sym load_stands.own) ∙ ap is_granted due.granted);
      after = done.after;
    };
    goes = subst (λ l. Goes v l w) (append-nil done.settles) (goes_on load_goes done.goes);
    bounded = let one = one_step in let two : w.steps ≡ u.steps + 1 = ap (λ (x : View). x.steps) done.after.3.2.view in omega arith;
    list = λ p had. done.list p (loaded_list p had);
  }

-- A list that goes on by a settlement, of which a CPU's own list is its part.
use Rattle.std.proofs.Common.{◌≡◌, ℕ, ◌+◌, ◌==◌, ◌≤◌, ◌<◌, ◌^◌, Bool, true, false, not, ◌&&◌, List, ◌∷◌, length, Option, if◌then◌else◌, refl, sym, ap, ◌∙◌, subst, arith, true≢false}
use Rattle.std.proofs.lemmas.Bool.Decides.{nat_tests}
use Rattle.std.specs.Prelude.{nat_le}
use Rattle.dspec_cpu.specs.Words.{Record, Stored, Speculation, SlotState, settled_fate, fits_principal, contents, awaits, settle_at, is_granted, is_lost, ack, issue, part, present, settled, solo}
use Rattle.dspec_cpu.specs.Words.{verdict, word_at, SettlesAs, calls, held, CountsWithin, report, bare, parts_of_side, HasRoom, counts_of, with_decided, AreShown, CanSettle, IsPartOf, shown_at}
use Rattle.dspec_cpu.specs.Words.{Shape, Batch, Code, CommittingMany, Discarding, Config, CpuActor, DecideFate, Deed, Settle, Counts, CpuState}
use Rattle.dspec_buffer.specs.Extent as extent
use Rattle.dspec_deeds.specs.Settling as settling
use Rattle.dspec_deeds.proofs.{Acked.ack_tells, Awaiting.awaiting, Awaiting.goes_with, OwnAccounts.own_report, OwnReads.apart_bare, TestLemmas.cpu_is_itself, TestLemmas.number_is_itself}
use Rattle.dspec_table.proofs.OwnReading.{ack_part}
use Rattle.dspec_cpu.proofs.{Mine.unmarked_empty, OwnBlocks.lawful, OwnBlocks.goes_on}
use Rattle.dspec_cpu_state.proofs.Tallies.{drops_since, settle_counts}

-- what a grant tells of the word
pub grant_tells : (w : SlotState) (acked : ℕ) → is_granted (settle_at w acked) ≡ true → (awaits w.code ≡ true) × (nat_le acked w.issue ≡ true)
grant_tells w acked e = grind (arith, nat_tests)

fate_fits : (fit : Bool) (n : ℕ) (code : Code) → awaits code ≡ true → goes_with code (settled_fate code fit n) ≡ true
fate_fits fit n Discarding e = refl
fate_fits true n CommittingMany e = refl
fate_fits false n CommittingMany e = refl
fate_fits fit n code e = absurd (true≢false (sym e))

-- the CPU's acknowledgement is the one that the list of all tells
pub ack_is : (k : Config) (c slot : ℕ) (log p : List Deed) → bare p ≡ part (CpuActor c) log → ack c slot p ≡ ack c slot log
ack_is k c slot log p is = (apart_bare k c p).acks slot ∙ (ap (ack c slot) is ∙ ack_part k c slot log)

module _ (shape : ℕ → Option Shape) (k : Config) (c : ℕ) (log p : List Deed) (its : IsPartOf k c log p) (slot : ℕ) (word : SlotState) (here : word_at slot log ≡ word)
    (granted : is_granted (settle_at word (ack c slot p)) ≡ true) where
  abbrev pub id : Speculation
  id = shown_at slot word

  abbrev pub f : DecideFate
  f = settling.settle_fate shape k c p id word.code

  pub waits : awaits word.code ≡ true
  waits = (grant_tells word (ack c slot p) granted).0

  issues : issue slot log ≡ word.issue
  issues = ap (λ (w : SlotState). w.issue) here

  -- the list goes on by the settlement
  pub settles_on : IsPartOf k c (Settle c id f ∷ log) (Settle c id f ∷ p)
  settles_on =
      let due = awaiting k slot log word.code its.sound its.rests (ap (λ (w : SlotState). w.code) here) waits in
      let it : present slot log ≡ id = λ i. record { issue = issues i; slot = slot } in
      let before : nat_le (ack c slot log) (issue slot log) ≡ true = (λ i. nat_le (sym (ack_is k c slot log p its.part_is) i) (issues i)) ∙ (grant_tells word (ack c slot p) granted).1 in
      let undone : settled c (present slot log) log ≡ false = not_yet (settled c (present slot log) log) (sym (ack_tells k c slot log its.sound) ∙ before) in
      let fate : SettlesAs (verdict id log) f = subst (λ j. SettlesAs (verdict j log) f) it
      (due.fate f (fate_fits (fits_principal shape k c (extent.block (contents (held c id p))) p) (length (held c id p)) word.code waits)) in
      record {
        sound = (its.sound, (its.rests, (its.idle, (sym issues, fate, ap (λ j. solo j log) (sym it) ∙ due.alone, ap (λ j. settled c j log) (sym it) ∙ undone))));
        rests = refl;
        idle = its.idle;
        part_is = ap (λ l. Settle c id f ∷ l) its.part_is ∙ ap (λ b. if b then Settle c id f ∷ part (CpuActor c) log else part (CpuActor c) log) (sym (cpu_is_itself c));
      }
    where
      not_yet : (b : Bool) → not b ≡ true → b ≡ false
      not_yet true e = absurd (true≢false (sym e))
      not_yet false e = refl

  module _ (accepted : Record → Bool) (text : Record → List ℕ) (side : CpuState Stored) (batches : List Batch) (shown : AreShown shape accepted text k c (parts_of_side side) batches side.counts p)
      (low : 1 ≤ slot) (high : slot ≤ k.nspec) (few : c < k.cpus) (small : side.calls < 2 ^ 64) where
    counted : with_decided f side.counts ≡ counts_of k c side.counts.worn (Settle c id f ∷ p)
    counted = ap (with_decided f) shown.counted ∙ sym (settle_counts k c side.counts.worn p id f (goes_on shape k c p id word.code))

    within : CountsWithin (calls c p + 0) (report k c side.counts.worn (Settle c id f ∷ p))
    within = (own_report shape k c side.counts.worn (Settle c id f ∷ log) (Settle c id f ∷ p) settles_on.sound (shown.legal, number_is_itself c, lawful shape k c p id word.code) settles_on.part_is).0

    room : HasRoom f side.counts
    room =
        let called = shown.side.called in
        let all = within in
        let e : (n : Counts) × (with_decided f side.counts ≡ n) × (n ≡ counts_of k c side.counts.worn (Settle c id f ∷ p)) = (with_decided f side.counts, refl, counted) in
        let a = ap (λ (n : Counts). n.accepted) counted in
        let l = ap (λ (n : Counts). n.lost) counted in
        let d = ap (λ (n : Counts). n.discarded) counted in
        let r = ap (λ (n : Counts). n.drops) counted in
        let s = ap (λ (n : Counts). n.stopped) counted in
        let al = all.accepted in let ll = all.lost in let dl = all.discarded in let rl = all.drops in let sl = all.stopped in
        record { accepted = omega arith; lost = omega arith; discarded = omega arith; drops = omega arith; stopped = omega arith }

    dropped : side.drops + (if is_lost f then 1 else 0) < 2 ^ 64
    dropped =
        let called = shown.side.called in
        let is = shown.side.drops in
        let since = drops_since c (Settle c id f ∷ p) in
        let le = within.drops in
        let one : ◌≡◌ {A = ℕ} (if is_lost f && (c == c) then 1 else 0) (if is_lost f then 1 else 0) = same (is_lost f) (c == c) (number_is_itself c) in
        omega arith
      where
        same : (a b : Bool) → b ≡ true → ◌≡◌ {A = ℕ} (if a && b then 1 else 0) (if a then 1 else 0)
        same true b e = ap (λ x. if x then 1 else 0) e
        same false b e = refl

    pub can_settle : CanSettle shape accepted text k c side batches id word.code p
    can_settle = record {
      shown = shown;
      low = low;
      high = high;
      unmarked = unmarked_empty k c id log (bare p) p few its.sound (sym its.part_is) refl;
      waits = waits;
      room = room;
      drops = dropped;
    }

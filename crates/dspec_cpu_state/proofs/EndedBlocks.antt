-- A block that was copied, lost or thrown away: what the side shows after the deed that ended it.
use Rattle.std.proofs.Common.{◌≡◌, ◌≢◌, ℕ, suc, ◌+◌, ◌-◌, ◌==◌, ◌≤◌, Bool, true, false, ◌&&◌, ◌||◌, List, [], ◌∷◌, length, map, get_or, Option, Some, if◌then◌else◌, refl, sym, ap, ◌∙◌, subst}
use Rattle.std.proofs.Common.{⊎_elim, arith, length-set, add-zero, true≢false}
use Rattle.std.proofs.Math.Bool.{and-true}
use Rattle.std.proofs.lemmas.{Bool.Decides.nat_tests, Option.slice_get-get_or}
use Rattle.std.specs.{Global.Vec, Prelude.slice_get, Prelude.slice_set}
use Rattle.dspec_cpu_state.specs.Words.{Record, Piece, piece_fits, Speculation, is_commit, is_copied, is_discard, is_lost, decided_stopped, ack, same_id, CpuLegal, fits_principal, mark, Offer}
use Rattle.dspec_cpu_state.specs.Words.{active, calls, contents, dropped_in, growing, held, seals, last_called, missed_busy, counts_of, with_decided, IsFilledWith, IsCaller, ShowsList, Shape}
use Rattle.dspec_cpu_state.specs.Words.{Config, DecideFate, Deed, Commit, Discard, Settle}
use Rattle.dspec_cpu_state.specs.declared.{counts.Counts.Counts, cpu_state.CpuState.CpuState}
use Rattle.dspec_buffer.specs.Extent as extent
use Rattle.dspec_deeds.specs.declared.deed.DecideFate.TheVariants as fated
use Rattle.dspec_deeds.proofs.TestLemmas.{either_way, same_number, number_is_itself, id_is_itself, same_id_tells, other_slot, and_tells}
use Rattle.dspec_cpu_state.proofs.{Ones.last_is, Ones.mine_last, Ones.one_call, Places.got_set, Places.got_other, Places.same_inside, Places.slot_set, Tallies.commit_counts, Tallies.discard_counts}
use Rattle.dspec_cpu_state.proofs.{Tallies.settle_counts}

pub count_held : (os : List Offer) → length (contents os) ≡ length os
count_held [] = refl
count_held (o ∷ os) = ap suc (count_held os)

module _ {B : Type 0} (keeps : B → List Piece → Type 0) (capacity : B → ℕ) (shape : ℕ → Option Shape) {k : Config} {c : ℕ} {side : CpuState B} (p : List Deed)
    (was : ShowsList keeps capacity k c p side) (id : Speculation) (mine : Bool)
    (low : 1 ≤ id.slot) (high : id.slot ≤ length side.speculative.items) (caller : IsCaller c id mine p) where
  abbrev have : List Record
  have = contents (held c id p)

  pub mine_held : (if mine then have else []) ≡ have
  mine_held = grind (arith, nat_tests)

  pub inside : id.slot ≤ k.nspec
  inside = let count = was.parts.buffer_count in omega arith

  pub marked : mine ≡ true → mark c id.slot p ≡ id.issue + 1
  marked t = same_number (mark c id.slot p) (id.issue + 1) (sym caller.marked ∙ t)

  -- the slot's buffer has the CPU's block, where the CPU is a caller
  pub block_is : (if mine then contents (held c (last_called c id.slot p) p) else []) ≡ have
  block_is = mine_last c id p mine marked ∙ mine_held

  pub buffer_there : (b : B) → b ≡ get_or side.speculative.items (id.slot - 1) b → IsFilledWith keeps capacity k.specsize (map extent.one (contents (held c (last_called c id.slot p) p))) b
  buffer_there b is =
      let count = was.parts.buffer_count in
      was.parts.speculative id.slot b low inside (slice_get-get_or side.speculative.items (id.slot - 1) b (omega arith) ∙ ap Some (sym is))

  -- what becomes of the slot's buffer, and of the active one
  abbrev pub EmptiedAt : ℕ → Vec B → Type 0
  EmptiedAt place new = (b : B) → slice_get side.speculative.items place ≡ Some b
      → (m : B) × (capacity m ≡ capacity b) × (new.items ≡ slice_set side.speculative.items place m)
      × ((ps : List Piece) → keeps b ps → keeps m (if mine then [] else ps))

  abbrev Emptied : Vec B → Type 0
  Emptied new = EmptiedAt (id.slot - 1) new

  abbrev pub CopiedAt : ℕ → Bool → B → Type 0
  CopiedAt place fit new = (ps : List Piece) (rs : List Record) (b : B) → slice_get side.speculative.items place ≡ Some b → keeps side.active ps → keeps b (map extent.one rs)
      → (fit ≡ true → piece_fits shape ps (extent.block (if mine then rs else [])) (capacity side.active) ≡ true)
      → keeps new (if fit then extent.block (if mine then rs else []) ∷ ps else ps)

  abbrev Copied : Bool → B → Type 0
  Copied fit new = CopiedAt (id.slot - 1) fit new

  -- a deed that ends the block, and touches no other buffer, nor a mark, a count of drops or a batch
  record Ends (fit : Bool) (deed : Deed) : Type 0 where
    pub holds : (j : Speculation) → held c j (deed ∷ p) ≡ (if same_id j id then [] else held c j p)
    pub principal : active c (deed ∷ p) ≡ (if fit then extent.block have ∷ active c p else active c p)
    pub marks : (s : ℕ) → mark c s (deed ∷ p) ≡ mark c s p
    pub drops : (j : Speculation) → dropped_in c j (deed ∷ p) ≡ dropped_in c j p
    pub sealing : seals c (deed ∷ p) ≡ seals c p
    pub missing : missed_busy c (deed ∷ p) ≡ missed_busy c p
    pub room : fit ≡ true → piece_fits shape (active c p) (extent.block have) k.bufsize ≡ true

  -- the numbers, and the counts, after it
  record AreNumbers (deed : Deed) (n_calls : ℕ) (acked : List ℕ) (n_drops : ℕ) (now : Counts) : Type 0 where
    pub called : n_calls ≡ calls c (deed ∷ p)
    pub ack_count : length acked ≡ k.nspec
    pub acks : (s : ℕ) → 1 ≤ s → s ≤ k.nspec → slice_get acked (s - 1) ≡ Some (ack c s (deed ∷ p))
    pub drops : n_drops ≡ (growing c (deed ∷ p)).drops
    pub counted : now ≡ counts_of k c now.worn (deed ∷ p)

  module _ (fit : Bool) (deed : Deed) (ends : Ends fit deed) where
    at : slice_get side.speculative.items (id.slot - 1) ≡ Some (get_or side.speculative.items (id.slot - 1) side.active)
    at = slice_get-get_or side.speculative.items (id.slot - 1) side.active (omega arith)

    last_stays : (s : ℕ) → last_called c s p ≡ last_called c s (deed ∷ p)
    last_stays s = ap (λ m. record { issue = m - 1; slot = s }) (sym (ends.marks s))

    buffers : (new : Vec B) → Emptied new
        → (length new.items ≡ k.nspec) × ((s : ℕ) (b : B) → 1 ≤ s → s ≤ k.nspec → slice_get new.items (s - 1) ≡ Some b
        → IsFilledWith keeps capacity k.specsize (map extent.one (contents (held c (last_called c s p) (deed ∷ p)))) b)
    buffers new told =
        let count = was.parts.buffer_count in
        let b0 = get_or side.speculative.items (id.slot - 1) side.active in
        let t = told b0 at in
        let shows = was.parts.speculative id.slot b0 low inside at in
        let it = last_called c id.slot p in
        let ones : List Offer → List Piece = λ os. map extent.one (contents os) in
        let pieces : (if mine then [] else ones (held c it p)) ≡ ones (held c it (deed ∷ p)) = ⊎_elim
        (λ (y : mine ≡ true). let same = last_is c id p (marked y) in
        ap (λ q. if q then [] else ones (held c it p)) y ∙ ap ones (sym (ends.holds it ∙ ap (λ q. if q then [] else held c it p) (ap (λ j. same_id j id) same ∙ id_is_itself id))))
        (λ (z : mine ≡ false). ap (λ q. if q then [] else ones (held c it p)) z ∙ ⊎_elim
        (λ (y : same_id it id ≡ true). ap ones (ap (λ j. held c j p) (same_id_tells it id y) ∙ (caller.empty z ∙ sym (ends.holds it ∙ ap (λ q. if q then [] else held c it p) y))))
        (λ (x : same_id it id ≡ false). ap ones (sym (ends.holds it ∙ ap (λ q. if q then [] else held c it p) x)))
        (either_way (same_id it id)))
        (either_way mine) in (
          ap length t.2 ∙ (length-set side.speculative.items (id.slot - 1) t.0 ∙ count),
          λ s b one_low one_high got. ⊎_elim
              (λ (y : (s == id.slot) ≡ true).
              let same = same_number s id.slot y in
              let is : b ≡ t.0 = same_inside (sym got ∙ (ap (λ l. slice_get l (s - 1)) t.2
              ∙ (ap (λ x. slice_get (slice_set side.speculative.items (id.slot - 1) t.0) (x - 1)) same ∙ got_set side.speculative.items (id.slot - 1) t.0 (omega arith)))) in
              subst (λ (q : ℕ × B). IsFilledWith keeps capacity k.specsize (map extent.one (contents (held c (last_called c q.0 p) (deed ∷ p)))) q.1) (λ i. (sym same i, sym is i))
              (record { sized = t.1 ∙ shows.sized; has = subst (λ l. keeps t.0 l) pieces (t.3 (ones (held c it p)) shows.has) }))
              (λ (z : (s == id.slot) ≡ false).
              let apart : s ≢ id.slot = grind (arith, nat_tests) in
              let now : held c (last_called c s p) (deed ∷ p) ≡ held c (last_called c s p) p =
              ends.holds (last_called c s p) ∙ ap (λ q. if q then [] else held c (last_called c s p) p) (other_slot (last_called c s p) id apart) in
              let before = sym (got_other side.speculative.items (id.slot - 1) (s - 1) t.0 (omega arith)) ∙ (ap (λ l. slice_get l (s - 1)) (sym t.2) ∙ got) in
              subst (λ l. IsFilledWith keeps capacity k.specsize (map extent.one (contents l)) b) (sym now) (was.parts.speculative s b one_low one_high before))
              (either_way (s == id.slot)),
        )

    principal : (new : B) → capacity new ≡ capacity side.active → Copied fit new → IsFilledWith keeps capacity k.bufsize (active c (deed ∷ p)) new
    principal new size told =
        let b0 = get_or side.speculative.items (id.slot - 1) side.active in
        let shows = was.parts.speculative id.slot b0 low inside at in
        let rs = contents (held c (last_called c id.slot p) p) in
        let enough : fit ≡ true → piece_fits shape (active c p) (extent.block (if mine then rs else [])) (capacity side.active) ≡ true =
        λ e. ap (λ l. piece_fits shape (active c p) (extent.block l) (capacity side.active)) block_is
        ∙ (ap (λ m. piece_fits shape (active c p) (extent.block have) m) was.parts.principal.sized ∙ ends.room e) in
        let has = told (active c p) rs b0 at was.parts.principal.has shows.has enough in
        record {
          sized = size ∙ was.parts.principal.sized;
          has = subst (λ l. keeps new l) (sym ends.principal) (subst (λ l. keeps new (if fit then extent.block l ∷ active c p else active c p)) block_is has);
        }

    -- such a deed in front is shown
    block_shown : (called : ℕ) (acks : Vec ℕ) (drops : ℕ) (now : Counts) → AreNumbers deed called acks.items drops now → (new : Vec B) → Emptied new → (kept : B)
        → capacity kept ≡ capacity side.active → Copied fit kept
        → ShowsList keeps capacity k c (deed ∷ p) (record side { calls = called; acks = acks; speculative = new; active = kept; drops = drops; counts = now })
    block_shown called acks drops now numbers new emptied kept size has =
        let b = buffers new emptied in
        record {
          parts = record {
            called = numbers.called;
            sealed = was.parts.sealed ∙ sym ends.sealing;
            missed = was.parts.missed ∙ sym ends.missing;
            ack_count = numbers.ack_count;
            acks = numbers.acks;
            mark_count = was.parts.mark_count;
            marks = λ s one_low one_high. was.parts.marks s one_low one_high ∙ ap Some (sym (ends.marks s));
            specdrop_count = was.parts.specdrop_count;
            specdrops = λ s one_low one_high. was.parts.specdrops s one_low one_high
                ∙ ap Some (ap (λ j. dropped_in c j p) (last_stays s) ∙ sym (ends.drops (last_called c s (deed ∷ p))));
            buffer_count = b.0;
            speculative = λ s x one_low one_high got. subst (λ j. IsFilledWith keeps capacity k.specsize (map extent.one (contents (held c j (deed ∷ p)))) x) (last_stays s)
                (b.1 s x one_low one_high got);
            principal = principal kept size has;
            drops = numbers.drops;
          };
          counted = numbers.counted;
        }

  -- a decision of the CPU's own, or a settlement: whether it copies, and its counts
  module _ (f : DecideFate) (now : Counts) (plus : now ≡ with_decided f side.counts) where
    copies : (if is_copied f && (c == c) then extent.block have ∷ active c p else active c p) ≡ (if is_copied f then extent.block have ∷ active c p else active c p)
    copies = rw (number_is_itself c, and-true (is_copied f)) refl

    loses : (drops : ℕ) → drops ≡ side.drops + (if is_lost f then 1 else 0) → drops ≡ (growing c p).drops + (if is_lost f && (c == c) then 1 else 0)
    loses drops is = is ∙ (ap (λ m. m + (if is_lost f then 1 else 0)) was.parts.drops ∙ rw (number_is_itself c, and-true (is_lost f)) refl)

    counted : (deed : Deed) → ((w : ℕ) → counts_of k c w (deed ∷ p) ≡ with_decided f (counts_of k c w p)) → now ≡ counts_of k c now.worn (deed ∷ p)
    counted deed adds =
        let worn : now.worn ≡ side.counts.worn = ap (λ (m : Counts). m.worn) plus in
        plus ∙ (ap (with_decided f) was.counted ∙ (sym (adds side.counts.worn) ∙ ap (λ m. counts_of k c m (deed ∷ p)) (sym worn)))

    -- what is told of its buffers
    module _ (copy : Bool) (copied : copy ≡ is_copied f) (place : ℕ) (there : place ≡ id.slot - 1) (new : Vec B) (emptied : EmptiedAt place new) (kept : B)
        (size : capacity kept ≡ capacity side.active) (has : CopiedAt place copy kept)
        (drops : ℕ) (drops_is : drops ≡ side.drops + (if is_lost f then 1 else 0)) where
      empty_now : Emptied new
      empty_now = subst (λ i. EmptiedAt i new) there emptied

      copied_now : Copied (is_copied f) kept
      copied_now = subst (λ b. CopiedAt (id.slot - 1) b kept) copied (subst (λ i. CopiedAt i copy kept) there has)

      -- the list is shown with the commit in front
      pub commit_shown : is_commit f ≡ true → CpuLegal shape k p (Commit c id f)
          → ShowsList keeps capacity k c (Commit c id f ∷ p) (record side { calls = side.calls + 1; speculative = new; active = kept; drops = drops; counts = now })
      commit_shown commits allows = block_shown (is_copied f) (Commit c id f)
          (record {
            holds = λ j. rw (commits, number_is_itself c) refl;
            principal = copies;
            marks = λ s. refl;
            drops = λ j. refl;
            sealing = add-zero (seals c p);
            missing = refl;
            room = λ e. (and_tells _ _ (sym (lawful f commits allows) ∙ e)).0;
          })
          (side.calls + 1) side.acks drops now
          (record {
            called = ap (λ m. m + 1) was.parts.called ∙ one_call c _;
            ack_count = was.parts.ack_count;
            acks = was.parts.acks;
            drops = loses drops drops_is;
            counted = counted (Commit c id f) (λ w. commit_counts k c w p id f (unthrown f commits));
          })
          new empty_now kept size copied_now
        where
          lawful : (x : DecideFate) → is_commit x ≡ true → CpuLegal shape k p (Commit c id x) → is_copied x ≡ fits_principal shape k c (extent.block have) p
          lawful (fated.Copied n) e a = a.1
          lawful (fated.Lost n) e a = a.1
          lawful x e a = absurd (true≢false (sym e))

          unthrown : (x : DecideFate) → is_commit x ≡ true → is_discard x ≡ false
          unthrown (fated.Thrown n) e = absurd (true≢false (sym e))
          unthrown x e = refl

      -- and with the settlement, which the slot's acknowledgement tells
      pub settle_shown : (is_commit f || is_discard f) ≡ true → CpuLegal shape k p (Settle c id f) → (acks : Vec ℕ) → acks.items ≡ slice_set side.acks.items (id.slot - 1) (id.issue + 1)
          → ShowsList keeps capacity k c (Settle c id f ∷ p) (record side { acks = acks; speculative = new; active = kept; drops = drops; counts = now })
      settle_shown ends allows acks acks_are = block_shown (is_copied f) (Settle c id f)
          (record {
            holds = λ j. rw (number_is_itself c) refl;
            principal = copies;
            marks = λ s. refl;
            drops = λ j. refl;
            sealing = add-zero (seals c p);
            missing = refl;
            room = λ e. (and_tells _ _ (room f ends allows e)).0;
          })
          side.calls acks drops now
          (record {
            called = was.parts.called ∙ sym (add-zero (calls c p));
            ack_count = told.0;
            acks = told.1;
            drops = loses drops drops_is;
            counted = counted (Settle c id f)
                (λ w. settle_counts k c w p id f (runs f ends));
          })
          new empty_now kept size copied_now
        where
          room : (x : DecideFate) → (is_commit x || is_discard x) ≡ true → CpuLegal shape k p (Settle c id x) → is_copied x ≡ true → fits_principal shape k c (extent.block have) p ≡ true
          room (fated.Copied n) e a t = sym a.1 ∙ t
          room x e a t = absurd (true≢false (sym t))

          runs : (x : DecideFate) → (is_commit x || is_discard x) ≡ true → decided_stopped x ≡ false
          runs fated.Stopped e = absurd (true≢false (sym e))
          runs x e = refl

          ack_now : (s : ℕ) → ack c s (Settle c id f ∷ p) ≡ (if s == id.slot then id.issue + 1 else ack c s p)
          ack_now s = rw (number_is_itself c) refl

          told : (length acks.items ≡ k.nspec) × ((s : ℕ) → 1 ≤ s → s ≤ k.nspec → slice_get acks.items (s - 1) ≡ Some (ack c s (Settle c id f ∷ p)))
          told = slot_set k.nspec id.slot (id.issue + 1) (λ s. ack c s (Settle c id f ∷ p)) (λ s. ack c s p) side.acks.items acks.items low inside was.parts.ack_count was.parts.acks acks_are ack_now

      -- and with the discard, which leaves the active buffer alone
      pub discard_shown : is_discard f ≡ true
          → ShowsList keeps capacity k c (Discard c id f ∷ p) (record side { calls = side.calls + 1; speculative = new; active = kept; drops = drops; counts = now })
      discard_shown discards = block_shown (is_copied f) (Discard c id f)
          (record {
            holds = λ j. rw (discards, number_is_itself c) refl;
            principal = ap (λ b. if b then extent.block have ∷ active c p else active c p) (sym (uncopied f discards));
            marks = λ s. refl;
            drops = λ j. refl;
            sealing = add-zero (seals c p);
            missing = refl;
            room = λ e. absurd (true≢false (sym e ∙ uncopied f discards));
          })
          (side.calls + 1) side.acks drops now
          (record {
            called = ap (λ m. m + 1) was.parts.called ∙ one_call c _;
            ack_count = was.parts.ack_count;
            acks = was.parts.acks;
            drops = drops_is
                ∙ (λ i. was.parts.drops i + (if unlost f discards i then 1 else 0));
            counted = counted (Discard c id f) (λ w. discard_counts k c w p id f (uncommitted f discards));
          })
          new empty_now kept size copied_now
        where
          uncopied : (x : DecideFate) → is_discard x ≡ true → is_copied x ≡ false
          uncopied (fated.Copied n) e = absurd (true≢false (sym e))
          uncopied (fated.Lost n) e = absurd (true≢false (sym e))
          uncopied x e = refl

          unlost : (x : DecideFate) → is_discard x ≡ true → is_lost x ≡ false
          unlost (fated.Lost n) e = absurd (true≢false (sym e))
          unlost x e = refl

          uncommitted : (x : DecideFate) → is_discard x ≡ true → is_commit x ≡ false
          uncommitted (fated.Copied n) e = absurd (true≢false (sym e))
          uncommitted (fated.Lost n) e = absurd (true≢false (sym e))
          uncommitted x e = refl

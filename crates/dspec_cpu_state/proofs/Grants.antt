-- A record that was granted: the slot's mark and buffer.
use Rattle.std.proofs.{Common.◌≡◌, Common.◌≢◌, Common.ℕ, Common.◌+◌, Common.◌-◌, Common.◌==◌, Common.◌≤◌, Common.Bool, Common.true, Common.false, Common.◌&&◌, Common.List, Common.[], Common.◌∷◌}
use Rattle.std.proofs.{Common.length, Common.map, Common.get_or, Common.Option, Common.Some, Common.if◌then◌else◌, Common.refl, Common.sym, Common.ap, Common.◌∙◌, Common.subst, Common.⊎_elim}
use Rattle.std.proofs.{Common.arith, Common.length-set, Common.add-zero, Math.Bool.and-true, lemmas.Bool.Decides.nat_tests, lemmas.Option.slice_get-get_or}
use Rattle.std.specs.{Global.Vec, Prelude.slice_get, Prelude.slice_set}
use Rattle.dspec_cpu_state.specs.Words.{Record, Piece, piece_fits, Speculation, spoken_granted, spoken_kept, same_id, fits_speculative, mark, contents, held, offers, seals, last_called, counts_of}
use Rattle.dspec_cpu_state.specs.Words.{with_spoken, IsFilledWith, IsCaller, ShowsList, Shape, Config, SpeculateFate, Deed, Speculate}
use Rattle.dspec_cpu_state.specs.declared.{counts.Counts.Counts, cpu_state.CpuState.CpuState}
use Rattle.dspec_buffer.specs.Extent as extent
use Rattle.dspec_deeds.proofs.TestLemmas.{either_way, same_number, number_is_itself, id_is_itself, other_slot}
use Rattle.dspec_cpu_state.proofs.{Drops.AreDropped, Ones.last_is, Ones.one_call, Places.got_set, Places.got_other, Places.same_inside, Places.slot_set, Tallies.spoken_counts}

module _ {B : Type 0} (keeps : B → List Piece → Type 0) (capacity : B → ℕ) (shape : ℕ → Option Shape) {k : Config} {c : ℕ} {side : CpuState B} (p : List Deed)
    (was : ShowsList keeps capacity k c p side) (id : Speculation) (r : Record) (mine : Bool)
    (low : 1 ≤ id.slot) (high : id.slot ≤ length side.speculative.items) (caller : IsCaller c id mine p) where
  abbrev have : List Record
  have = contents (held c id p)

  inside : id.slot ≤ k.nspec
  inside = let count = was.parts.buffer_count in omega arith

  -- what the slot's buffer has of the speculation
  abbrev last : List Piece
  last = map extent.one (contents (held c (last_called c id.slot p) p))

  pub pieces : (if mine then last else []) ≡ map extent.one have
  pieces = grind (arith, nat_tests, last_is, same_number)

  -- what the buffer answered, and what became of it
  abbrev pub IsGranted : Bool → Vec B → Type 0
  IsGranted kept new = (b : B) → slice_get side.speculative.items (id.slot - 1) ≡ Some b
      → (n : B) × (capacity n ≡ capacity b) × (new.items ≡ slice_set side.speculative.items (id.slot - 1) n)
      × ((ps : List Piece) → keeps b ps
      → (kept ≡ piece_fits shape (if mine then ps else []) (extent.one r) (capacity b))
      × keeps n (if kept then extent.one r ∷ (if mine then ps else []) else (if mine then ps else [])))

  at : slice_get side.speculative.items (id.slot - 1) ≡ Some (get_or side.speculative.items (id.slot - 1) side.active)
  at = slice_get-get_or side.speculative.items (id.slot - 1) side.active (omega arith)

  -- it answered by what the list tells
  pub as_granted : (kept : Bool) (new : Vec B) → IsGranted kept new → kept ≡ fits_speculative shape k c id r p
  as_granted kept new told = grind (arith, nat_tests, inside, at, pieces)

  module _ (kept : Bool) (f : SpeculateFate) (is_granted : spoken_granted f ≡ true) (is_kept : spoken_kept f ≡ kept) where
    abbrev deed : Deed
    deed = Speculate c id r f

    mark_now : (s : ℕ) → mark c s (deed ∷ p) ≡ (if s == id.slot then id.issue + 1 else mark c s p)
    mark_now s = rw (is_granted, number_is_itself c) refl

    held_now : (j : Speculation) → contents (held c j (deed ∷ p)) ≡ (if kept && same_id j id then r ∷ contents (held c j p) else contents (held c j p))
    held_now j = rw (is_kept, number_is_itself c) (split (kept && same_id j id))
      where
        split : (b : Bool) → contents (if b then record { number = offers c p; content = r } ∷ held c j p else held c j p) ≡ (if b then r ∷ contents (held c j p) else contents (held c j p))
        split true = refl
        split false = refl

    granted_buffers : (new : Vec B) → IsGranted kept new
        → (length new.items ≡ k.nspec) × ((s : ℕ) (b : B) → 1 ≤ s → s ≤ k.nspec → slice_get new.items (s - 1) ≡ Some b
        → IsFilledWith keeps capacity k.specsize (map extent.one (contents (held c (last_called c s (deed ∷ p)) (deed ∷ p)))) b)
    granted_buffers new told =
        let count = was.parts.buffer_count in
        let b0 = get_or side.speculative.items (id.slot - 1) side.active in
        let t = told b0 at in
        let shows = was.parts.speculative id.slot b0 low inside at in
        let has : keeps t.0 (if kept then extent.one r ∷ map extent.one have else map extent.one have) =
        subst (λ l. keeps t.0 (if kept then extent.one r ∷ l else l)) pieces (t.3 last shows.has).1 in (
          ap length t.2 ∙ (length-set side.speculative.items (id.slot - 1) t.0 ∙ count),
          λ s b one_low one_high got. ⊎_elim
              (λ (y : (s == id.slot) ≡ true).
              let same = same_number s id.slot y in
              let m : mark c s (deed ∷ p) ≡ id.issue + 1 = mark_now s ∙ ap (λ q. if q then id.issue + 1 else mark c s p) y in
              let issues : mark c s (deed ∷ p) - 1 ≡ id.issue = omega arith in
              let it : last_called c s (deed ∷ p) ≡ id = λ i. record { issue = issues i; slot = same i } in
              let now : contents (held c id (deed ∷ p)) ≡ (if kept then r ∷ have else have) = held_now id ∙ (rw (id_is_itself id, and-true kept) refl) in
              let is : b ≡ t.0 = same_inside (sym got ∙ (ap (λ l. slice_get l (s - 1)) t.2
              ∙ (ap (λ x. slice_get (slice_set side.speculative.items (id.slot - 1) t.0) (x - 1)) same ∙ got_set side.speculative.items (id.slot - 1) t.0 (omega arith)))) in
              subst (λ x. IsFilledWith keeps capacity k.specsize (map extent.one (contents (held c (last_called c s (deed ∷ p)) (deed ∷ p)))) x) (sym is)
              (subst (λ j. IsFilledWith keeps capacity k.specsize (map extent.one (contents (held c j (deed ∷ p)))) t.0) (sym it)
              (subst (λ l. IsFilledWith keeps capacity k.specsize (map extent.one l) t.0) (sym now)
              (record { sized = t.1 ∙ shows.sized; has = subst (λ l. keeps t.0 l) (mapped kept) has }))))
              (λ (n : (s == id.slot) ≡ false).
              let m : mark c s (deed ∷ p) ≡ mark c s p = mark_now s ∙ ap (λ q. if q then id.issue + 1 else mark c s p) n in
              let it : last_called c s (deed ∷ p) ≡ last_called c s p = ap (λ x. record { issue = x - 1; slot = s }) m in
              let apart : s ≢ id.slot = grind (arith, nat_tests) in
              let now : contents (held c (last_called c s p) (deed ∷ p)) ≡ contents (held c (last_called c s p) p) =
              held_now (last_called c s p) ∙ (rw (other_slot (last_called c s p) id apart) (none kept _ _)) in
              let before = sym (got_other side.speculative.items (id.slot - 1) (s - 1) t.0 (omega arith)) ∙ (ap (λ l. slice_get l (s - 1)) (sym t.2) ∙ got) in
              subst (λ j. IsFilledWith keeps capacity k.specsize (map extent.one (contents (held c j (deed ∷ p)))) b) (sym it)
              (subst (λ l. IsFilledWith keeps capacity k.specsize (map extent.one l) b) (sym now) (was.parts.speculative s b one_low one_high before)))
              (either_way (s == id.slot)),
        )
      where
        none : (b : Bool) (x y : List Record) → (if b && false then x else y) ≡ y
        none true x y = refl
        none false x y = refl

        mapped : (b : Bool) → (if b then extent.one r ∷ map extent.one have else map extent.one have) ≡ map extent.one (if b then r ∷ have else have)
        mapped true = refl
        mapped false = refl

    granted_marks : (new : List ℕ) → new ≡ slice_set side.marks (id.slot - 1) (id.issue + 1)
        → (length new ≡ k.nspec) × ((s : ℕ) → 1 ≤ s → s ≤ k.nspec → slice_get new (s - 1) ≡ Some (mark c s (deed ∷ p)))
    granted_marks new is = slot_set k.nspec id.slot (id.issue + 1) (λ s. mark c s (deed ∷ p)) (λ s. mark c s p) side.marks new low inside was.parts.mark_count was.parts.marks is mark_now

    -- the side shows the list with the record in front
    pub granted_shown : (buffers : Vec B) → IsGranted kept buffers → (marks : List ℕ) → marks ≡ slice_set side.marks (id.slot - 1) (id.issue + 1)
        → (specdrops : Vec ℕ) → AreDropped k c specdrops.items (deed ∷ p)
        → (counts : Counts) → counts ≡ with_spoken f side.counts
        → ShowsList keeps capacity k c (deed ∷ p) (record side { calls = side.calls + 1; marks = marks; specdrops = specdrops; speculative = buffers; counts = counts })
    granted_shown buffers told marks is specdrops dropped counts plus =
        let b = granted_buffers buffers told in
        let m = granted_marks marks is in
        let worn : counts.worn ≡ side.counts.worn = ap (λ (n : Counts). n.worn) plus in
        record {
          parts = record {
            called = ap (λ n. n + 1) was.parts.called ∙ one_call c _;
            sealed = was.parts.sealed ∙ sym (add-zero (seals c p));
            missed = was.parts.missed;
            ack_count = was.parts.ack_count;
            acks = was.parts.acks;
            mark_count = m.0;
            marks = m.1;
            specdrop_count = dropped.count;
            specdrops = dropped.each;
            buffer_count = b.0;
            speculative = b.1;
            principal = was.parts.principal;
            drops = was.parts.drops ∙ sym (add-zero _);
          };
          counted = plus ∙ (ap (with_spoken f) was.counted ∙ (sym (spoken_counts k c side.counts.worn p id r f) ∙ ap (λ n. counts_of k c n (deed ∷ p)) (sym worn)));
        }

-- What shows a CPU's list after a call of speculation.
use Rattle.std.proofs.Common.{◌≡◌, ℕ, ◌+◌, ◌<◌, ◌≤◌, ◌==◌, Bool, true, false, List, [], ◌∷◌, ◌++◌, length, Option, if◌then◌else◌, refl, sym, ap, ◌∙◌, subst, ⊎_elim, arith, add-zero, true≢false}
use Rattle.std.proofs.lemmas.Bool.Decides.{nat_tests}
use Rattle.dspec_cpu.specs.Words.{Record, calls, growing, CpuRow, is_of, missed_busy, bare, counts_of, with_opening, IsShown, misses, any_busy, opening_deeds, IsOpening, is_worn_opening, Shape}
use Rattle.dspec_cpu.specs.Words.{Config, Opening, Deed, Scan, Opened, Miss, CpuSeat, Counts}
use Rattle.dspec_cpu.specs.declared.parts.CpuParts.{CpuParts as Cpu}
use Rattle.dspec_deeds.specs.declared.calls.Opening.TheVariants as opening
use Rattle.dspec_deeds.proofs.TestLemmas.{either_way, number_is_itself, same_number}
use Rattle.dspec_cpu_state.proofs.Quiet.{quiet}
use Rattle.dspec_cpu.proofs.OpeningCounts.{given_counts, last_busy, last_unavailable, miss_counts, scan_counts, stop_counts}
use Rattle.dspec_cpu.proofs.Shown.{quiet_shown}

-- the same of all Misses
module _ (k : Config) (c : ℕ) (p : List Deed) where
  missed_calls : (bs : List Bool) → calls c ((misses c bs ++ Scan c true ∷ []) ++ p) ≡ calls c p + 1
  missed_calls [] = rw (number_is_itself c) refl
  missed_calls (b ∷ bs) = add-zero (calls c ((misses c bs ++ Scan c true ∷ []) ++ p)) ∙ missed_calls bs

  missed_any : (bs : List Bool) → missed_busy c ((misses c bs ++ Scan c true ∷ []) ++ p) ≡ any_busy bs
  missed_any (false ∷ bs) = missed_any bs
  missed_any bs = rw (number_is_itself c) refl

  missed_drops : (bs : List Bool) → (growing c ((misses c bs ++ Scan c true ∷ []) ++ p)).drops ≡ (growing c p).drops
  missed_drops [] = add-zero (growing c p).drops
  missed_drops (b ∷ bs) = add-zero (growing c ((misses c bs ++ Scan c true ∷ []) ++ p)).drops ∙ missed_drops bs

  missed_counts : (w : ℕ) (bs : List Bool) → length bs < k.nspec → counts_of k c w ((misses c bs ++ Scan c true ∷ []) ++ p) ≡ counts_of k c w p
  missed_counts w [] lt = scan_counts k c w p
  missed_counts w (b ∷ bs) lt =
      let not_last : (length bs + 1 == k.nspec) ≡ false =
      ⊎_elim (λ (t : (length bs + 1 == k.nspec) ≡ true). let e = same_number (length bs + 1) k.nspec t in absurd (omega arith))
      (λ (f : (length bs + 1 == k.nspec) ≡ false). f) (either_way (length bs + 1 == k.nspec)) in
      miss_counts k c w (length bs + 1) b ((misses c bs ++ Scan c true ∷ []) ++ p) not_last ∙ missed_counts w bs (omega arith)

  all_counts : (w : ℕ) (bs : List Bool) (m : Bool) → 1 ≤ k.nspec → length bs ≡ k.nspec → any_busy bs ≡ m
      → counts_of k c w ((misses c bs ++ Scan c true ∷ []) ++ p) ≡ with_opening (if m then opening.Busy else opening.Unavailable) (counts_of k c w p)
  all_counts w [] m one all any = absurd (omega arith)
  all_counts w (b ∷ bs) m one all any = go m any
    where
      last : (length bs + 1 == k.nspec) ≡ true
      last = let e : length bs + 1 ≡ k.nspec = omega arith in subst (λ n. (n == k.nspec) ≡ true) (sym e) (number_is_itself k.nspec)

      go : (m : Bool) → any_busy (b ∷ bs) ≡ m → counts_of k c w ((misses c (b ∷ bs) ++ Scan c true ∷ []) ++ p) ≡ with_opening (if m then opening.Busy else opening.Unavailable) (counts_of k c w p)
      go true any = last_busy k c w (length bs + 1) b ((misses c bs ++ Scan c true ∷ []) ++ p) last (missed_any (b ∷ bs) ∙ any) ∙ ap (with_opening opening.Busy) (missed_counts w bs (omega arith))
      go false any = last_unavailable k c w (length bs + 1) b ((misses c bs ++ Scan c true ∷ []) ++ p) last (missed_any (b ∷ bs) ∙ any)
          ∙ ap (with_opening opening.Unavailable) (missed_counts w bs (omega arith))

  -- and of the whole call
  opening_calls : (bs : List Bool) (a : Opening) → is_worn_opening a ≡ false → calls c (opening_deeds c bs a ++ p) ≡ calls c p + 1
  opening_calls = grind (arith, nat_tests, number_is_itself, missed_calls)

  opening_missed : (bs : List Bool) (a : Opening) → IsOpening k.nspec bs a → is_worn_opening a ≡ false → missed_busy c (opening_deeds c bs a ++ p) ≡ any_busy bs
  opening_missed = grind (arith, nat_tests, number_is_itself, missed_any)

  opening_drops : (bs : List Bool) (a : Opening) → (growing c (opening_deeds c bs a ++ p)).drops ≡ (growing c p).drops
  opening_drops bs a = grind (arith, nat_tests, missed_drops)

  opening_counts : (w : ℕ) (bs : List Bool) (a : Opening) → 1 ≤ k.nspec → IsOpening k.nspec bs a → is_worn_opening a ≡ false
      → counts_of k c w (opening_deeds c bs a ++ p) ≡ with_opening a (counts_of k c w p)
  opening_counts w bs opening.Worn one is un = absurd (true≢false un)
  opening_counts w bs opening.Stopped one is un = stop_counts k c w p
  opening_counts w bs (opening.Id id) one is un =
      let at = is.0 in let high = is.1 in
      given_counts k c w id ((misses c bs ++ Scan c true ∷ []) ++ p) ∙ ap (with_opening (opening.Id id)) (missed_counts w bs (omega arith))
  opening_counts w bs opening.Unavailable one is un = all_counts w bs false one is.0 is.1
  opening_counts w bs opening.Busy one is un = all_counts w bs true one is.0 is.1

module _ (shape : ℕ → Option Shape) (accepted : Record → Bool) (text : Record → List ℕ) {S : Type 0} (cpu : Cpu S) (p : List Deed) (was : IsShown shape accepted text cpu p) (seat : CpuSeat) where
  abbrev shows : List Deed → Cpu S
  shows ds = record cpu {
    seat = seat;
    side = record cpu.side {
      calls = calls cpu.cpu (ds ++ p);
      missed_busy = missed_busy cpu.cpu (ds ++ p);
      drops = (growing cpu.cpu (ds ++ p)).drops;
      counts = counts_of cpu.config cpu.cpu
          cpu.side.counts.worn (ds ++ p);
    };
  }

  one_shown : (d : Deed) → quiet d ≡ true → is_of cpu.cpu d ≡ true → CpuRow shape cpu.config p d → IsShown shape accepted text (shows (d ∷ [])) (d ∷ p)
  one_shown d still mine row = quiet_shown shape accepted text cpu p was d still mine row seat (calls cpu.cpu (d ∷ p)) (missed_busy cpu.cpu (d ∷ p))
      (growing cpu.cpu (d ∷ p)).drops (counts_of cpu.config cpu.cpu cpu.side.counts.worn (d ∷ p)) refl refl refl refl

  more_shown : (ds : List Deed) → IsShown shape accepted text (shows ds) (ds ++ p) → (d : Deed) → quiet d ≡ true → is_of cpu.cpu d ≡ true
      → CpuRow shape cpu.config (ds ++ p) d → IsShown shape accepted text (shows (d ∷ ds)) (d ∷ ds ++ p)
  more_shown ds before d still mine row = quiet_shown shape accepted text (shows ds) (ds ++ p) before d still mine row seat (calls cpu.cpu (d ∷ ds ++ p))
      (missed_busy cpu.cpu (d ∷ ds ++ p)) (growing cpu.cpu (d ∷ ds ++ p)).drops (counts_of cpu.config cpu.cpu cpu.side.counts.worn (d ∷ ds ++ p)) refl refl refl refl

  misses_shown : (bs : List Bool) → IsShown shape accepted text (shows (misses cpu.cpu bs ++ Scan cpu.cpu true ∷ [])) ((misses cpu.cpu bs ++ Scan cpu.cpu true ∷ []) ++ p)
  misses_shown [] = one_shown (Scan cpu.cpu true) refl (number_is_itself cpu.cpu) tt
  misses_shown (b ∷ bs) = more_shown (misses cpu.cpu bs ++ Scan cpu.cpu true ∷ []) (misses_shown bs) (Miss cpu.cpu (length bs + 1) b) refl (number_is_itself cpu.cpu) tt

  deeds_shown : (bs : List Bool) (a : Opening) → is_worn_opening a ≡ false → IsShown shape accepted text (shows (opening_deeds cpu.cpu bs a)) (opening_deeds cpu.cpu bs a ++ p)
  deeds_shown bs opening.Worn un = absurd (true≢false un)
  deeds_shown bs opening.Stopped un = one_shown (Scan cpu.cpu false) refl (number_is_itself cpu.cpu) tt
  deeds_shown bs (opening.Id id) un = more_shown (misses cpu.cpu bs ++ Scan cpu.cpu true ∷ []) (misses_shown bs) (Opened cpu.cpu id) refl (number_is_itself cpu.cpu) tt
  deeds_shown bs a un = misses_shown bs

  -- the CPU shows the longer list with one call more, whether a slot missed was decided, and the counts of the answer
  pub opening_shown : (bs : List Bool) (a : Opening) (busy : Bool) (counts : Counts) → 1 ≤ cpu.config.nspec → IsOpening cpu.config.nspec bs a → is_worn_opening a ≡ false
      → busy ≡ any_busy bs → counts ≡ with_opening a cpu.side.counts
      → IsShown shape accepted text (record cpu { seat = seat; side = record cpu.side { calls = cpu.side.calls + 1; missed_busy = busy; counts = counts } }) (opening_deeds cpu.cpu bs a ++ p)
  opening_shown bs a busy counts one is un any plus =
      let ds = opening_deeds cpu.cpu bs a in
      let called : calls cpu.cpu (ds ++ p) ≡ cpu.side.calls + 1 = opening_calls cpu.config cpu.cpu p bs a un ∙ ap (λ n. n + 1) (sym was.side.called) in
      let missed : missed_busy cpu.cpu (ds ++ p) ≡ busy = opening_missed cpu.config cpu.cpu p bs a is un ∙ sym any in
      let dropped : (growing cpu.cpu (ds ++ p)).drops ≡ cpu.side.drops = opening_drops cpu.config cpu.cpu p bs a ∙ sym was.side.drops in
      let counted : counts_of cpu.config cpu.cpu cpu.side.counts.worn (ds ++ p) ≡ counts =
      opening_counts cpu.config cpu.cpu p cpu.side.counts.worn bs a one is un ∙ (ap (with_opening a) (sym was.counted) ∙ sym plus) in
      subst (λ (x : ℕ × Bool × ℕ × Counts). IsShown shape accepted text
      (record cpu { seat = seat; side = record cpu.side { calls = x.0; missed_busy = x.1; drops = x.2; counts = x.3 } }) (ds ++ p))
      (λ i. (called i, missed i, dropped i, counted i)) (deeds_shown bs a un)

-- no deed of the call is a Seal
bare_misses : (c : ℕ) (p : List Deed) (bs : List Bool) → bare ((misses c bs ++ Scan c true ∷ []) ++ p) ≡ (misses c bs ++ Scan c true ∷ []) ++ bare p
bare_misses c p [] = refl
bare_misses c p (b ∷ bs) = ap (λ l. Miss c (length bs + 1) b ∷ l) (bare_misses c p bs)

pub bare_opening : (c : ℕ) (p : List Deed) (bs : List Bool) (a : Opening) → bare (opening_deeds c bs a ++ p) ≡ opening_deeds c bs a ++ bare p
bare_opening c p bs a = grind (arith, nat_tests, bare_misses)

-- What becomes of an ask, by the tests of the code.
use Rattle.std.proofs.Common.{◌≡◌, ℕ, suc, ◌+◌, ◌<◌, ◌≤◌, true, false, ◌++◌, length, reverse, Option, Some, None, is_some, refl, sym, ap, subst, arith, true≢false}
use Rattle.std.proofs.lemmas.List.{length-reverse}
use Rattle.dspec_cpu.specs.Words.{Stored, CpuKnows, spare_count, waiting, Buffers, FindsSpare, HandsOn, Heeds, no_spare, held_up, switched, batch_of, emptied, Batch, Config}
use Rattle.dspec_cpu.proofs.Switches.{found}

some_of : (w : Option Batch) → is_some w ≡ true → (b : Batch) × (w ≡ Some b)
some_of None e = absurd (true≢false (sym e))
some_of (Some b) e = (b, refl)

pub none_of : (w : Option Batch) → is_some w ≡ false → w ≡ None
none_of None e = refl
none_of (Some b) e = absurd (true≢false e)

module _ (k : Config) (c ask : ℕ) (x : Buffers) (lt : x.seals < ask) (below : x.seals < k.max_calls) (f : CpuKnows) (s : Option Stored) (finds : FindsSpare k.bufsize x.end x.spare f s) where
  pub none_found : (after : Option Stored) → s ≡ None → after ≡ None → Heeds k c ask x false (record x { end = f; spare = after })
  none_found after none gone =
      subst (λ t. Heeds k c ask x false (record x { end = f; spare = t })) (sym gone) (no_spare lt below f (subst (FindsSpare k.bufsize x.end x.spare f) none finds))

  -- more spares came than batches were handed
  more_came : (b : Batch) → x.held_back ≡ Some b → (t : Stored) → s ≡ Some t
      → length (waiting x.held_back ++ reverse x.end.handed) + spare_count x.spare ≤ 1 + length x.end.spares → length f.handed < length f.spares
  more_came b is t at few =
      let found_is = found k.bufsize x.end x.spare f s finds in
      let all = found_is.few (length (waiting x.held_back ++ reverse x.end.handed)) few in
      let one : spare_count s ≡ 1 = ap spare_count at in
      let held : length (waiting x.held_back ++ reverse x.end.handed) ≡ suc (length (reverse x.end.handed)) = ap (λ w. length (waiting w ++ reverse x.end.handed)) is in
      let turned = length-reverse x.end.handed in
      let same = ap length found_is.handed in
      omega arith

  pub left_held_back : is_some x.held_back ≡ true → length (waiting x.held_back ++ reverse x.end.handed) + spare_count x.spare ≤ 1 + length x.end.spares
      → (t : Option Stored) → s ≡ t → Heeds k c ask x false (record x { end = f; spare = s })
  left_held_back some few None at = none_found s at at
  left_held_back some few (Some t) at =
      let b = some_of x.held_back some in
      subst (λ u. Heeds k c ask x false (record x { end = f; spare = u })) (sym at) (held_up lt below f t (subst (FindsSpare k.bufsize x.end x.spare f) at finds) b.0 b.1 (more_came b.0 b.1 t at few))

  pub sealed_now : (t : Stored) (after : Option Stored) (next : Stored) (drops seals : ℕ) (batch : Batch) (g : CpuKnows) (left : Option Batch) → s ≡ Some t → is_some x.held_back ≡ false
      → after ≡ None → batch ≡ batch_of c x → next ≡ emptied t → drops ≡ 0 → seals ≡ x.seals + 1 → HandsOn f (Some batch) g left
      → Heeds k c ask x true (record { end = g; held_back = left; spare = after; active = next; drops = drops; seals = seals })
  sealed_now t after next drops seals batch g left at none gone made cleared nothing more hands =
      subst (λ (q : Option Stored × Stored × ℕ × ℕ). Heeds k c ask x true (record { end = g; held_back = left; spare = q.0; active = q.1; drops = q.2; seals = q.3 }))
      (λ i. (sym gone i, sym cleared i, sym nothing i, sym more i))
      (switched lt below f t (subst (FindsSpare k.bufsize x.end x.spare f) at finds) (none_of x.held_back none) g left (subst (λ b. HandsOn f (Some b) g left) made hands))

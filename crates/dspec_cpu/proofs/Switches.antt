-- A CPU after a switch: its batches, its spare and its lists.
use Rattle.std.proofs.Common.{◌≡◌, ℕ, ◌+◌, ◌≤◌, Bool, false, List, [], ◌∷◌, ◌++◌, length, reverse, Option, Some, None, refl, sym, ap, ◌∙◌, subst, arith, rules}
use Rattle.std.proofs.lemmas.{Bool.Decides.nat_tests, List.length_push, List.reverse-append}
use Rattle.dspec_cpu.specs.Words.{Record, Stored, CpuKnows, is_fill, LoadedAsk, of_cpu, known, IsAt, cpu_of, HasList, IsReady, IsSameCpu, batches_of, spare_count, Stands, HasSized, waiting, Buffers}
use Rattle.dspec_cpu.specs.Words.{FindsSpare, HandsOn, Heeds, not_asked, worn_out, no_spare, held_up, switched, IsSameBeside, Switches, looked, batch_of, buffers_of, emptied, with_buffers}
use Rattle.dspec_cpu.specs.Words.{with_seal, Shape, Batch, Config, Deed, View, CpuSeat}
use Rattle.dspec_cpu.specs.declared.parts.CpuParts.{CpuParts as Cpu}
use Rattle.dspec_table.specs.declared.seats.Words.{Words}
use Rattle.dspec_cpu_state.proofs.Places.{same_inside}
use Rattle.dspec_cpu.proofs.{Ready.holder, Ready.ready_after, Ready.set_up_is, Seals.kept_list, Seals.sealed_list}

-- the batches that were sealed are the same, and the spares that came
pub record IsPassed (e : CpuKnows) (w : Option Batch) (f : CpuKnows) (left : Option Batch) : Type 0 where
  pub batches : waiting left ++ reverse f.handed ≡ waiting w ++ reverse e.handed
  pub spares : f.spares ≡ e.spares
  pub pair : f.pair ≡ e.pair

pub passed : (e : CpuKnows) (w : Option Batch) (f : CpuKnows) (left : Option Batch) → HandsOn e w f left → IsPassed e w f left
passed e None f left h = record { batches = λ i. waiting (h.1 i) ++ reverse (h.0 i).handed; spares = λ i. (h.0 i).spares; pair = λ i. (h.0 i).pair }
passed e (Some b) f None h = record { batches = ap reverse h.handed ∙ reverse-append e.handed (b ∷ []); spares = h.spares; pair = h.pair }
passed e (Some b) f (Some back) h = record { batches = λ i. h.0 i ∷ reverse (h.1 i).handed; spares = λ i. (h.1 i).spares; pair = λ i. (h.1 i).pair }

-- nothing was handed; and a spare in hand is one that came, of the size asked for
pub record IsFound (size : ℕ) (e : CpuKnows) (x : Option Stored) (f : CpuKnows) (y : Option Stored) : Type 0 where
  pub handed : f.handed ≡ e.handed
  pub pair : f.pair ≡ e.pair
  pub few : (n : ℕ) → n + spare_count x ≤ 1 + length e.spares → n + spare_count y ≤ 1 + length f.spares
  pub sized : ((b : Stored) → x ≡ Some b → b.size ≡ size) → (b : Stored) → y ≡ Some b → b.size ≡ size

one_more : (xs ys : List Batch) (b : Batch) → ys ≡ xs ++ b ∷ [] → length ys ≡ length xs + 1
one_more xs ys b e = ap length e ∙ length_push xs b

pub found : (size : ℕ) (e : CpuKnows) (x : Option Stored) (f : CpuKnows) (y : Option Stored) → FindsSpare size e x f y → IsFound size e x f y
found = grind (arith, nat_tests, one_more, same_inside)

-- after a load of the ask the seat's list is as it was
pub stands_asked : (k : Config) (c n : ℕ) (v w : View) → v.config ≡ k → v.who ≡ of_cpu c → LoadedAsk c v n w → Stands k c v [] w
stands_asked k c n v w config who loaded = grind (arith, nat_tests)

-- all that a switch changes
pub switched_is : {S : Type 0} (cpu : Cpu S) (seat : CpuSeat) (new : Cpu S) → IsSameBeside cpu new × (new.seat ≡ seat) → new ≡ with_buffers cpu seat (buffers_of new)
switched_is cpu seat new beside = beside.0 ∙ ap (λ s. with_buffers cpu s (buffers_of new)) beside.1

module _ (shape : ℕ → Option Shape) (accepted : Record → Bool) (text : Record → List ℕ) where
  emptied_sized : (size : ℕ) (s : Stored) → s.size ≡ size → HasSized shape accepted text size [] (emptied s)
  emptied_sized size s e = record { sized = e; has = record { all_accepted = search rules; text_is = refl; count_is = refl } }

  module _ {S : Type 0} (words : Words) (cpu : Cpu S) (ready : IsReady shape accepted text words cpu) (unfilled : is_fill cpu.config.policy ≡ false)
      (e : CpuKnows) (left : Option Batch) (hands : HandsOn cpu.end cpu.held_back e left) (ask : ℕ) where
    abbrev looked_at : Buffers
    looked_at = record (buffers_of cpu) { end = e; held_back = left }

    batches : waiting left ++ reverse e.handed ≡ batches_of cpu
    batches = (passed cpu.end cpu.held_back e left hands).batches

    batches_left : (f : CpuKnows) (found_spare : Option Stored) → FindsSpare cpu.config.bufsize e cpu.spare f found_spare → waiting left ++ reverse f.handed ≡ batches_of cpu
    batches_left f s finds = ap (λ bs. waiting left ++ reverse bs) (found cpu.config.bufsize e cpu.spare f s finds).handed ∙ batches

    -- every list is one still, with the Seal in front where there was one
    heeded_list : (seat : CpuSeat) → (known seat).own ≡ (known cpu.seat).own → (sealed : Bool) (y : Buffers) → Heeds cpu.config cpu.cpu ask looked_at sealed y
        → (p : List Deed) → HasList shape accepted text cpu p → HasList shape accepted text (with_buffers cpu seat y) (with_seal sealed cpu.cpu p)
    heeded_list seat same sealed y (no_spare lt below f finds) p had = kept_list shape accepted text words cpu ready seat same p had f left None (batches_left f None finds)
    heeded_list seat same sealed y (held_up lt below f s finds b is more) p had = kept_list shape accepted text words cpu ready seat same p had f left (Some s) (batches_left f (Some s) finds)
    heeded_list seat same sealed y (switched lt below f s finds none g last gives) p had =
        sealed_list shape accepted text words cpu ready seat same p had g last (emptied s)
        ((passed f (Some (batch_of cpu.cpu looked_at)) g last gives).batches ∙ ap (λ bs. batch_of cpu.cpu (buffers_of cpu) ∷ bs)
        (ap (λ w. waiting w ++ reverse f.handed) (sym none) ∙ batches_left f (Some s) finds))
        (emptied_sized cpu.config.bufsize s ((found cpu.config.bufsize e cpu.spare f (Some s) finds).sized ready.steady.spare s refl)) below unfilled
    heeded_list seat same sealed y x p had = kept_list shape accepted text words cpu ready seat same p had e left cpu.spare batches

    -- the CPU has no buffer more than came to it
    pub few_left : length (waiting left ++ reverse e.handed) + spare_count cpu.spare ≤ 1 + length e.spares
    few_left = subst (λ (q : List Batch × List Batch). length q.0 + spare_count cpu.spare ≤ 1 + length q.1) (λ i. (sym batches i, sym (passed cpu.end cpu.held_back e left hands).spares i))
        ready.steady.few

    few_found : (f : CpuKnows) (s : Option Stored) → FindsSpare cpu.config.bufsize e cpu.spare f s → length (waiting left ++ reverse f.handed) + spare_count s ≤ 1 + length f.spares
    few_found f s finds = (found cpu.config.bufsize e cpu.spare f s finds).few _
        (subst (λ bs. length (waiting left ++ reverse bs) + spare_count cpu.spare ≤ 1 + length e.spares) (sym (found cpu.config.bufsize e cpu.spare f s finds).handed) few_left)

    few_after : (sealed : Bool) (y : Buffers) → Heeds cpu.config cpu.cpu ask looked_at sealed y → length (waiting y.held_back ++ reverse y.end.handed) + spare_count y.spare ≤ 1 + length y.end.spares
    few_after sealed y (no_spare lt below f finds) = few_found f None finds
    few_after sealed y (held_up lt below f s finds b is more) = few_found f (Some s) finds
    few_after sealed y (switched lt below f s finds none g last gives) =
        let was = few_found f (Some s) finds in
        let gone = ap length (ap (λ w. waiting w ++ reverse f.handed) none) in
        let now = ap length (passed f (Some (batch_of cpu.cpu looked_at)) g last gives).batches in
        let same = ap length (passed f (Some (batch_of cpu.cpu looked_at)) g last gives).spares in
        omega arith
    few_after sealed y x = few_left

    sized_after : (sealed : Bool) (y : Buffers) → Heeds cpu.config cpu.cpu ask looked_at sealed y → (b : Stored) → y.spare ≡ Some b → b.size ≡ cpu.config.bufsize
    sized_after sealed y (not_asked le) b at = ready.steady.spare b at
    sized_after sealed y (worn_out lt le) b at = ready.steady.spare b at
    sized_after sealed y (held_up lt below f s finds w is more) b at = (found cpu.config.bufsize e cpu.spare f (Some s) finds).sized ready.steady.spare b at
    sized_after sealed y x b at = absurd (cc (at))

    pair_after : (sealed : Bool) (y : Buffers) → Heeds cpu.config cpu.cpu ask looked_at sealed y → y.end.pair ≡ e.pair
    pair_after sealed y (no_spare lt below f finds) = (found cpu.config.bufsize e cpu.spare f None finds).pair
    pair_after sealed y (held_up lt below f s finds b is more) = (found cpu.config.bufsize e cpu.spare f (Some s) finds).pair
    pair_after sealed y (switched lt below f s finds none g last gives) =
        (passed f (Some (batch_of cpu.cpu looked_at)) g last gives).pair ∙ (found cpu.config.bufsize e cpu.spare f (Some s) finds).pair
    pair_after sealed y x = refl

    heeded_ready : (seat : CpuSeat) → IsAt words seat → cpu_of seat ≡ cpu_of cpu.seat → LoadedAsk cpu.cpu (known cpu.seat) ask (known seat)
        → (sealed : Bool) (y : Buffers) → Heeds cpu.config cpu.cpu ask looked_at sealed y → IsReady shape accepted text words (with_buffers cpu seat y)
    heeded_ready seat at same loaded sealed y heeds =
        let stands = stands_asked cpu.config cpu.cpu ask (known cpu.seat) (known seat) (set_up_is shape accepted text words cpu ready) (holder shape accepted text words cpu ready) loaded in
        ready_after shape accepted text words cpu ready (with_buffers cpu seat y) [] refl refl at same stands ready.steady.idle ready.steady.flight
        (sized_after sealed y heeds) (few_after sealed y heeds)
        (with_seal sealed cpu.cpu ready.steady.list) (heeded_list seat stands.own sealed y heeds ready.steady.list ready.steady.listed)

    -- the whole switch
    module _ (seat : CpuSeat) (at : IsAt words seat) (same : cpu_of seat ≡ cpu_of cpu.seat) (loaded : LoadedAsk (cpu_of cpu.seat) (known cpu.seat) ask (known seat))
        (new : Cpu S) (beside : IsSameBeside cpu new × (new.seat ≡ seat)) (sealed : Bool) (heeds : Heeds cpu.config cpu.cpu ask looked_at sealed (buffers_of new)) where
      its_ask : LoadedAsk cpu.cpu (known cpu.seat) ask (known seat)
      its_ask = subst (λ n. LoadedAsk n (known cpu.seat) ask (known seat)) ready.steady.seat loaded

      is_new : new ≡ with_buffers cpu seat (buffers_of new)
      is_new = switched_is cpu seat new beside

      pub switched_ready : IsReady shape accepted text words (with_buffers cpu seat (buffers_of new))
      switched_ready = heeded_ready seat at same its_ask sealed (buffers_of new) heeds

      pub switched_list : (p : List Deed) → HasList shape accepted text cpu p → HasList shape accepted text (with_buffers cpu seat (buffers_of new)) (with_seal sealed cpu.cpu p)
      switched_list p had = heeded_list seat (ap (λ (x : View). x.own) its_ask.3) sealed (buffers_of new) heeds p had

      pub switched_same : IsSameCpu cpu new
      switched_same = record {
        schema = ap (λ (x : Cpu S). x.schema) is_new;
        config = ap (λ (x : Cpu S). x.config) is_new;
        number = ap (λ (x : Cpu S). x.cpu) is_new;
        pair = pair_after sealed (buffers_of new) heeds ∙ (passed cpu.end cpu.held_back e left hands).pair;
      }

      pub switched_by : Switches cpu.config cpu.cpu (known cpu.seat) (buffers_of cpu) sealed (known new.seat) (buffers_of new)
      switched_by = looked unfilled e left hands ask (known new.seat) (subst (λ s. LoadedAsk cpu.cpu (known cpu.seat) ask (known s)) (sym beside.1) its_ask) sealed (buffers_of new) heeds

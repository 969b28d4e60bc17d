-- The handles that a close is given, one after another.
use Rattle.std.proofs.Common.{◌≡◌, ℕ, ◌+◌, ◌<◌, ◌≤◌, List, length, Bool, true, false, take, replicate, refl, sym, ap, ◌∙◌, subst, arith, MutBor}
use Rattle.std.proofs.Math.Seq.{map-set_same}
use Rattle.std.proofs.lemmas.Bool.Decides.{nat_tests}
use Rattle.std.proofs.lemmas.List.{get_or-map, get_or-set_other, map-set, length-map, replicate_more, take_more_set, Folds.list_all_at, Folds.list_all_more}
use Rattle.std.specs.{List.list_all, Prelude.slice_index_or, Prelude.slice_set, Prelude.◌&&◌}
use Rattle.dspec_c.specs.Words.{KeepAll, KeepsHeld, held_in_each, fulls, names, held_in, is_full, HomeAnswers, is_cpu_in}
use Rattle.dspec_c.specs.declared.{handle.Handle.Handle, held.HandleValue.HandleValue, held.HandleValue.TheVariants.Nothing}
use Rattle.dspec_c.proofs.Options.{unless}

abbrev One : Type 0
One = MutBor Handle

pub all_themselves : (hs : List One) → KeepAll hs hs
all_themselves hs = record { same = refl; full = refl; hold = refl }

pub all_after : (a b c : List One) → KeepAll a b → KeepAll b c → KeepAll a c
all_after a b c is was = record { same = was.same ∙ is.same; full = was.full ∙ is.full; hold = was.hold ∙ is.hold }

pub one_same : (hs : List One) (at : ℕ) (new d : One) → new.ghost_name ≡ (slice_index_or hs at d).ghost_name → names (slice_set hs at new) ≡ names hs
one_same hs at new d same = map-set_same (λ (h : One). h.ghost_name) hs at new d same

-- one of them has what it had
pub one_kept : (hs : List One) (at : ℕ) (new d : One) → new.ghost_name ≡ (slice_index_or hs at d).ghost_name → KeepsHeld (slice_index_or hs at d).now new.now → KeepAll hs (slice_set hs at new)
one_kept hs at new d same leaves = grind (arith, nat_tests, one_same, map-set_same)

-- how many there are
pub same_count : (was now : List One) → names now ≡ names was → length now ≡ length was
same_count was now e = sym (length-map now (λ (h : One). h.ghost_name)) ∙ ap length e ∙ length-map was (λ (h : One). h.ghost_name)

count_held : (hs : List One) → length (held_in_each hs) ≡ length hs
count_held hs = length-map hs (λ (h : One). held_in h.now)

-- what is in one of them
held_at : (was now : List One) (at : ℕ) (d : One) → at < length now → slice_index_or (held_in_each now) at Nothing ≡ slice_index_or (held_in_each was) at Nothing
    → held_in (slice_index_or now at d).now ≡ slice_index_or (held_in_each was) at Nothing
held_at was now at d small e = sym (get_or-map (λ (h : One). held_in h.now) now at d Nothing small) ∙ e

-- one more has a CPU
pub one_more : (was now : List One) (at : ℕ) (d : One) → at < length now → KeepAll was now → list_all is_cpu_in (take at (held_in_each was)) ≡ true
    → true ≡ is_cpu_in (held_in (slice_index_or now at d).now) → list_all is_cpu_in (take (at + 1) (held_in_each was)) ≡ true
one_more was now at d small keep before here =
    list_all_more is_cpu_in (held_in_each was) at Nothing (omega (arith, small, same_count was now keep.same, count_held was))
    ∙ ap (λ b. b && is_cpu_in (slice_index_or (held_in_each was) at Nothing)) before
    ∙ ap is_cpu_in (sym (held_at was now at d small (ap (λ hs. slice_index_or hs at Nothing) keep.hold))) ∙ sym here

-- one has none
pub none_there : (was now : List One) (at : ℕ) (d : One) → at < length now → KeepAll was now → false ≡ is_cpu_in (held_in (slice_index_or now at d).now) → list_all is_cpu_in (held_in_each was) ≡ false
none_there was now at d small keep here =
    list_all_at is_cpu_in (held_in_each was) at Nothing (omega (arith, small, same_count was now keep.same, count_held was))
    (ap is_cpu_in (sym (held_at was now at d small (ap (λ hs. slice_index_or hs at Nothing) keep.hold))) ∙ sym here)

passes : (hs : List HandleValue) (at : ℕ) (b : Bool) → at < length hs → list_all is_cpu_in hs ≡ true → is_cpu_in (slice_index_or hs at Nothing) ≡ b → b ≡ true
passes hs at true small all here = refl
passes hs at false small all here = sym (list_all_at is_cpu_in hs at Nothing small here) ∙ all

-- Where those so far are empty, and the others have what they had: the next has a CPU.
pub is_cpu_next : (was now : List One) (at : ℕ) (d : One) → at < length now → names now ≡ names was
    → ((k : ℕ) → at ≤ k → slice_index_or (held_in_each now) k Nothing ≡ slice_index_or (held_in_each was) k Nothing)
    → list_all is_cpu_in (held_in_each was) ≡ true → is_cpu_in (held_in (slice_index_or now at d).now) ≡ true
is_cpu_next was now at d small same hold all =
    ap is_cpu_in (held_at was now at d small (hold at (omega arith)))
    ∙ passes (held_in_each was) at _ (omega (arith, small, same_count was now same, count_held was)) all refl

gone_so : (b : Bool) (was : Handle) (status : ℕ) (now : Handle) → b ≡ true → HomeAnswers b was status now → is_full now ≡ false
gone_so true was status now e home = home.1
gone_so false was status now e home = absurd (subst (λ (t : Bool). unless t) e tt)

-- so it is empty then
pub is_gone : (was now : List One) (at : ℕ) (d : One) (status : ℕ) (left : Handle) → at < length now → names now ≡ names was
    → ((k : ℕ) → at ≤ k → slice_index_or (held_in_each now) k Nothing ≡ slice_index_or (held_in_each was) k Nothing) → list_all is_cpu_in (held_in_each was) ≡ true
    → HomeAnswers (is_cpu_in (held_in (slice_index_or now at d).now)) (slice_index_or now at d).now status left → is_full left ≡ false
is_gone was now at d status left small same hold all home = gone_so _ (slice_index_or now at d).now status left (is_cpu_next was now at d small same hold all) home

pub one_empty : (hs : List One) (at : ℕ) (new : One) → at < length hs → take at (fulls hs) ≡ replicate at false
    → is_full new.now ≡ false → take (at + 1) (fulls (slice_set hs at new)) ≡ replicate (at + 1) false
one_empty hs at new small before gone = grind (arith, nat_tests, map-set, take_more_set, length-map, replicate_more)

pub others_held : (was hs : List One) (at : ℕ) (new : One) → ((k : ℕ) → at ≤ k → slice_index_or (held_in_each hs) k Nothing ≡ slice_index_or (held_in_each was) k Nothing)
    → (k : ℕ) → at + 1 ≤ k → slice_index_or (held_in_each (slice_set hs at new)) k Nothing ≡ slice_index_or (held_in_each was) k Nothing
others_held was hs at new hold k above = grind (arith, nat_tests, map-set, get_or-set_other)

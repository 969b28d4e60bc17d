-- What a session promises of a folder that it was traced into, and of the sink beside it.
use Rattle.std.proofs.Common.{◌≡◌, ◌<◌, ◌+◌, ℕ, Bool, List, [], ◌∷◌, ◌++◌, Option, Some, None, refl, sym, ap, ◌∙◌, subst, arith, append_assoc, length, slice_get}
use Rattle.std.proofs.lemmas.{Bool.Decides.nat_tests, List.Elements.All-append, Option.slice_get_within}
use Rattle.dspec_trace_reading.specs.Words.{Record, EnabledRows, enabled, table_accepts, table_shape, table_text, start_fault, CallsMade, waiting, all_did, IsPromised, GotAll, Passed, passed_from}
use Rattle.dspec_trace_reading.specs.Words.{AreFrom, HasLists, IsKept, IsOneListWith, IsTraced, IsTelling, TellsUntold, untold, HaveNumbers, drops_carried, missed_in, BothGet, RanInto, Shape}
use Rattle.dspec_trace_reading.specs.Words.{Config, Batch, Left, Both, Telling}
use Rattle.dspec_deeds.proofs.SetUp.{most_cpus}
use Rattle.dspec.proofs.Passing.{from_both, got_both}
use Rattle.dspec_trace_reading.proofs.{Apart.told_from, Begun.first, Counted.accepted_reported, Counted.drops_reported, Folding.Holds, Read.numbered, Through.got_through, Told.drops_more}
use Rattle.dspec_trace_reading.proofs.{Told.got_told, Told.hold_more, Told.numbers_both, Told.told_numbers, Told.told_of, Told.told_there}

-- What the promise of a session says of a folder into which it was traced and whose end was told, and of the sink beside it.
pub record Carries {K F : Type 0} (gets : K → Batch → K → Type 0) (sees : F → Batch → F → Type 0) (does : ℕ → CallsMade → CallsMade → Type 0) (e : EnabledRows) (k : Config) (old : K)
    (left : List Left) (new : K) (begun ended : F) : Type 0 where
  pub kept : IsKept gets does (table_shape e.header (enabled e.rows)) (table_accepts e.header (enabled e.rows)) (table_text e.header (enabled e.rows)) k old left new
  pub one_list : IsOneListWith e gets does k old left new
  pub alike : (kept.passed ≡ one_list.0.passed) × (kept.calls ≡ one_list.0.calls)
  pub all : List Passed
  pub got : GotAll sees begun all ended
  pub own : HaveNumbers all
  pub from : AreFrom (length left) all
  pub ends : (c : ℕ) (l : Left) → slice_get left c ≡ Some l → (b : Batch) × IsTelling c (untold l.report) b × (passed_from c all ≡ passed_from c kept.passed ++ b ∷ [])
  pub holds : (c : ℕ) (l : Left) (at : slice_get left c ≡ Some l) → Holds e (passed_from c all) ((kept.page.each c l at).seen)
  pub missed : (c : ℕ) (l : Left) → slice_get left c ≡ Some l → drops_carried (passed_from c all) ≡ missed_in l.report
  pub accepted : (c : ℕ) (l : Left) (at : slice_get left c ≡ Some l) → length ((kept.page.each c l at).seen) ≡ l.report.accepted
  pub low : start_fault k ≡ None → (c : ℕ) (l : Left) → slice_get left c ≡ Some l → c < 64

-- A session's sink B has both a sink K and a folder F, whose end was told after the close: what the session's promise says of both.
module _ {B K F : Type 0} (bgets : B → Batch → B → Type 0) (gets : K → Batch → K → Type 0) (sees : F → Batch → F → Type 0) (other : B → K) (folder : B → F) (e : EnabledRows)
    (to_other : (a : B) (b : Batch) (c : B) → bgets a b c → gets (other a) b (other c)) (to_folder : (a : B) (b : Batch) (c : B) → bgets a b c → sees (folder a) b (folder c))
    (does : ℕ → CallsMade → CallsMade → Type 0) (k : Config) (old new : B) (left : List Left) (ended : F) (one : IsOneListWith e bgets does k old left new)
    (tellings : TellsUntold sees left (folder new) ended) where
  abbrev shape : ℕ → Option Shape
  shape = table_shape e.header (enabled e.rows)

  abbrev accepts : Record → Bool
  accepts = table_accepts e.header (enabled e.rows)

  abbrev text : Record → List ℕ
  text = table_text e.header (enabled e.rows)

  -- what the end told comes after what the session passed on
  abbrev extra : List Passed
  extra = told_of sees 0 left (folder new) ended tellings

  abbrev all_passed : List Passed
  all_passed = one.0.passed ++ extra

  got_all : GotAll sees (folder old) all_passed ended
  got_all =
      got_both sees one.0.passed extra (folder old) (folder new) ended (got_through bgets sees folder to_folder one.0.passed old new one.0.got)
      (got_told sees 0 left (folder new) ended tellings)

  own : HaveNumbers all_passed
  own = numbers_both one.0.passed extra (numbered e does bgets k old left new one.0 one.1) (told_numbers sees 0 left (folder new) ended tellings)

  from_left : AreFrom (length left) all_passed
  from_left =
      All-append (λ (x : Passed). x.from < length left) one.0.passed extra (subst (λ n. AreFrom n one.0.passed) (sym one.1.closes.all) one.0.from)
      (told_from sees (length left) 0 left (folder new) ended tellings (omega arith))

  abbrev kept : IsKept gets does shape accepts text k (other old) left (other new)
  kept = record {
    passed = one.0.passed;
    from = one.0.from;
    got = got_through bgets gets other to_other one.0.passed old new one.0.got;
    calls = one.0.calls;
    worked = one.0.worked;
    page = record {
      all = all_did one.0.promised.deeds;
      closed = one.0.promised.closed;
      each = λ c l at.
          subst (λ bs. IsPromised shape accepts text k.cpus (all_did one.0.promised.deeds) c (one.0.calls c) (one.0.promised.closed c) bs l.report)
          (append_assoc (one.0.taken c) (waiting l.rest) (l.last ∷ []) ∙ sym (one.0.whole c l at)) (one.0.promised.each c l at);
    };
  }

  abbrev traced : IsTraced gets does shape accepts text k (other old) left (other new)
  traced = record {
    passed = one.0.passed;
    from = one.0.from;
    got = got_through bgets gets other to_other one.0.passed old new one.0.got;
    calls = one.0.calls;
    worked = one.0.worked;
    entered = one.0.entered;
    told = one.0.told;
    released = one.0.released;
    taken = one.0.taken;
    whole = one.0.whole;
    promised = one.0.promised;
  }

  abbrev listed : HasLists gets shape accepts text k (other old) left (other new)
  listed = record {
    passed = one.1.passed;
    got = got_through bgets gets other to_other one.1.passed old new one.1.got;
    worn = one.1.worn;
    taken = one.1.taken;
    consumer = one.1.consumer;
    own = one.1.own;
    deeds = one.1.deeds;
    closes = one.1.closes;
    whole = one.1.whole;
    accepts = one.1.accepts;
  }

  abbrev seen : (c : ℕ) (l : Left) → slice_get left c ≡ Some l → List Record
  seen c l at = (kept.page.each c l at).seen

  ends : (c : ℕ) (l : Left) → slice_get left c ≡ Some l
      → (b : Batch) × IsTelling c (untold l.report) b × (passed_from c all_passed ≡ passed_from c one.0.passed ++ b ∷ [])
  ends c l at =
      let there = told_there sees 0 c c left l (folder new) ended tellings (omega arith) at in
      (there.0, there.1, from_both c one.0.passed extra ∙ ap (λ bs. passed_from c one.0.passed ++ bs) there.2)

  holds : (c : ℕ) (l : Left) (at : slice_get left c ≡ Some l) → Holds e (passed_from c all_passed) (seen c l at)
  holds c l at =
      let end = ends c l at in
      subst (λ bs. Holds e bs (seen c l at)) (sym end.2) (hold_more e (passed_from c one.0.passed) end.0 (seen c l at) (kept.page.each c l at).hold end.1.bare)

  -- what its batches carry as drops is what its report counts, by the list that closes the session
  dropped : (c : ℕ) (l : Left) → slice_get left c ≡ Some l → drops_carried (passed_from c one.0.passed) ≡ l.report.drops
  dropped c l at =
      ap (λ xs. drops_carried (passed_from c xs)) one.3 ∙ ap drops_carried (one.1.whole c l at)
      ∙ drops_reported shape accepts text k c one.1.deeds (one.1.own c) (one.1.worn c) (one.1.taken c) l one.1.closes.legal (one.1.closes.each c l at)

  missed : (c : ℕ) (l : Left) → slice_get left c ≡ Some l → drops_carried (passed_from c all_passed) ≡ missed_in l.report
  missed c l at = grind (arith, nat_tests, ends, drops_more, dropped)

  low : start_fault k ≡ None → (c : ℕ) (l : Left) → slice_get left c ≡ Some l → c < 64
  low start c l at = omega (arith, slice_get_within left c l at, one.1.closes.all, most_cpus k start)

  reported : (c : ℕ) (l : Left) (at : slice_get left c ≡ Some l) → length (seen c l at) ≡ l.report.accepted
  reported c l at =
      accepted_reported shape accepts text k.cpus kept.page.all c (kept.calls c) (kept.page.closed c) (passed_from c one.0.passed) l.report (kept.page.each c l at)

  pub carried : Carries gets sees does e k (other old) left (other new) (folder old) ended
  carried = record {
    kept = kept;
    one_list = (traced, listed, one.2, one.3);
    alike = (refl, refl);
    all = all_passed;
    got = got_all;
    own = own;
    from = from_left;
    ends = ends;
    holds = holds;
    missed = missed;
    accepted = reported;
    low = low;
  }

-- where it ran into a folder and to a sink
pub in_both : {K F : Type 0} (sees : F → Batch → F → Type 0) (gets : K → Batch → K → Type 0) (does : ℕ → CallsMade → CallsMade → Type 0) (e : EnabledRows) (k : Config) (old new : K)
    (begun : Telling F) (left : List Left) (ended : F) → RanInto sees gets does e k old begun left ended new → Carries gets sees does e k old left new begun.sink ended
in_both {K} {F} sees gets does e k old new begun left ended ran =
    subst (λ x. Carries gets sees does e k old left x begun.sink ended) ran.first
    (carried (BothGet gets sees) gets sees (λ (b : Both K (Telling F)). b.first) (λ (b : Both K (Telling F)). b.second.sink) e (λ a b d got. got.0) (λ a b d got. got.1) does k
    (record { first = old; second = begun }) ran.mid left ended ran.one ran.tells)

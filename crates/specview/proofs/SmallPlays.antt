-- The packets of a play tell small numbers: what was refused and missed is among what a report counts, and each batch comes out of a buffer of a
-- mebibyte at the most.
use Prim.Native.Nat.{zero, suc}
use Rattle.std.proofs.Common.{◌≡◌, ◌≤◌, ◌<◌, ◌+◌, ◌^◌, ◌&&◌, ℕ, Bool, true, IsTrue, List, [], ◌∷◌, ◌++◌, length, map, reverse, Option, Some, None, refl, sym, ap, ◌∙◌, subst, arith, All}
use Rattle.std.proofs.lemmas.{Bool.leb-true, Bool.Decides.nat_tests, List.map-append, List.reverse-append, List.reverse-reverse, List.length-reverse, List.Elements.All-weaker}
use Rattle.std.specs.{Option.option_map_or, Prelude.option_and_then, Prelude.unwrap_or, Prelude.min, Prelude.replicate, Prelude.slice_get, Prelude.false, Prelude.IfSome}
use Rattle.specview.specs.Words.{Record, EnabledRows, fits, layout, layout-IsShape, IsShape, default_fields, enabled, enabled-IsLimited, within_limit, table_shape, table_accepts, table_text}
use Rattle.specview.specs.Words.{table-shapes_fit, table-texts_fit, table-texts_differ, extent, events, Accepts, contents, active, growing, Sealing, drops_of, is_drop, offers, one_if, report, total}
use Rattle.specview.specs.Words.{stream, start_fault, or_else, setup_fault, worn_count, Plan, header_of, HasOneHeader, IsPlayOf, shapes_of, accepted_of, table_of, IsAllowed, ShareOf, last_share}
use Rattle.specview.specs.Words.{share_of, shares, missed_by, refused_in, written_shares, TellsSmall, event_rows, greatest_epid, Shape, Header, Config, StartFault, Deed, Report, Outcome, PlayFault}
use Rattle.dspec_buffer.proofs.{Accepted.AllAccepted, Extents.pieces_extent, SchemaLaws.SchemaLaws, SchemaLaws.laws_from}
use Rattle.dspec_deeds.proofs.{Balance.balance, DeedEffects.legal_accounts, ReportBounds.AreFitted, ReportBounds.active_within, ReportBounds.fitting_fitted, WholeLists.drops_add_up}
use Rattle.dspec_core.proofs.Batches.{active_grows}
use Rattle.dspec_cpu.proofs.Limits.{limits}
use Rattle.dspec_ctf.proofs.OneStream.{events-small}
use Rattle.specview.proofs.{AllFiles.report_at, Parts.all_turned, Parts.growing_known, Parts.known_before, Parts.written_all}

-- ---- what is refused

-- what a CPU missed is at most what it offered
missed_few : (shape : ℕ → Option Shape) (k : Config) (c worn : ℕ) (h : List Deed) → IsAllowed shape k h → missed_by (report k c worn h) ≤ offers c h
missed_few shape k c worn h allowed =
    let sum = balance k c worn h (legal_accounts shape k c h allowed) in
    omega arith

refused_in-append : (xs ys : List ShareOf) → refused_in (xs ++ ys) ≡ refused_in xs + refused_in ys
refused_in-append [] ys = omega arith
refused_in-append (x ∷ xs) ys = let before = refused_in-append xs ys in omega arith

sealed_drops : (bs : List Sealing) → refused_in (map share_of (reverse bs)) ≡ drops_of bs
sealed_drops [] = refl
sealed_drops (b ∷ bs) =
    let split : map share_of (reverse (b ∷ bs)) ≡ map share_of (reverse bs) ++ share_of b ∷ [] =
    ap (map share_of) (reverse-append (b ∷ []) bs) ∙ map-append share_of (reverse bs) (b ∷ []) in
    let whole = ap refused_in split in
    let sum = refused_in-append (map share_of (reverse bs)) (share_of b ∷ []) in
    let before = sealed_drops bs in
    omega arith

last_drops : (s : ShareOf) → refused_in (last_share s) ≤ s.drops
last_drops s = grind (arith, nat_tests)

abbrev drops : ℕ → List Deed → ℕ
drops c h = total (λ d. one_if (is_drop c d)) h

shares_drop : (c : ℕ) (h : List Deed) → refused_in (shares c h) ≤ drops c h
shares_drop c h = grind (arith, nat_tests, refused_in-append, sealed_drops, last_drops, drops_add_up)

written_drop : (c : ℕ) (h : List Deed) → refused_in (written_shares c h (drops c h)) ≤ drops c h
written_drop c h = grind (arith, nat_tests, last_drops, shares_drop)

-- ---- how long events are

-- the laws of a schema, of a play without enablings and of one with them
default_shapes : (d : Header) (epid : ℕ) (s : Shape) → table_shape d default_fields epid ≡ Some s → IsShape s
default_shapes d zero s is = absurd (cc)
default_shapes d (suc n) s is = let same : layout d [] ≡ s = cc in subst IsShape same (layout-IsShape d [] (omega arith))

table_laws : (d : Header) (o : Option EnabledRows) → SchemaLaws (table_shape d (table_of o)) (table_accepts d (table_of o)) (table_text d (table_of o))
table_laws d None = laws_from refl (default_shapes d) (table-texts_fit d default_fields) (table-texts_differ d default_fields)
table_laws d (Some e) = laws_from refl (table-shapes_fit d (enabled e.rows) (enabled-IsLimited e.rows)) (table-texts_fit d (enabled e.rows)) (table-texts_differ d (enabled e.rows))

-- values of an event without fields
no_fields : (n m : ℕ) (vs : List ℕ) → IsTrue (option_map_or (λ fs. fits fs vs) (option_and_then within_limit (slice_get (replicate n []) m)) false) → IsTrue (fits [] vs)
no_fields zero m vs ok = absurd (cc)
no_fields (suc n) zero vs ok = ok
no_fields (suc n) (suc m) vs ok = no_fields n m vs ok

inner_more : (a b c d : Bool) → (IsTrue c → IsTrue d) → IsTrue (a && (b && c)) → IsTrue (a && (b && d))
inner_more true true c d more all = more all
inner_more true false c d more all = all
inner_more false b c d more all = all

-- the play takes a record that its events have
plan_accepts : (p : Plan) (rss : List (List Record)) → HasOneHeader p → (r : Record) → Accepts (event_rows p rss) r → IsTrue (accepted_of p r)
plan_accepts p rss one r ok = step p.enablings one ok
  where
    plain : EnabledRows
    plain = record { header = header_of p; rows = replicate (min (greatest_epid rss) 64) [] }

    by_epid : (epid : ℕ) → IsTrue (option_map_or (λ fs. fits fs r.values) (enabled plain.rows epid) false) → IsTrue (option_map_or (λ fs. fits fs r.values) (default_fields epid) false)
    by_epid zero values = absurd (cc)
    by_epid (suc n) values = no_fields (min (greatest_epid rss) 64) n r.values values

    step : (o : Option EnabledRows) → IfSome o (λ e. e.header ≡ header_of p) → Accepts (unwrap_or o plain) r → IsTrue (table_accepts (header_of p) (table_of o) r)
    step (Some e) same ok = subst (λ d. IsTrue (table_accepts d (enabled e.rows) r)) same ok
    step None same ok =
        inner_more _ _ (option_map_or (λ fs. fits fs r.values) (enabled plain.rows r.epid) false) (option_map_or (λ fs. fits fs r.values) (default_fields r.epid) false)
        (by_epid r.epid) ok

module _ (p : Plan) (rss : List (List Record)) (one : HasOneHeader p) (size : p.config.bufsize ≤ 1048576) (c : ℕ) where
  -- each of the batch's records takes four bytes of the buffer at least
  short_growing : (h : List Deed) → AreFitted (shapes_of p) p.config h × All (Accepts (event_rows p rss)) (stream c h)
      → length (events (event_rows p rss) (reverse (contents (growing c h).offers))) < 2 ^ 60
  short_growing h (fitted, known) =
      let own = contents (growing c h).offers in
      let turned = growing_known (event_rows p rss) c h known in
      let has : All (Accepts (event_rows p rss)) own = subst (All (Accepts (event_rows p rss))) (reverse-reverse own) (all_turned (Accepts (event_rows p rss)) (reverse own) turned) in
      let taken = All-weaker (Accepts (event_rows p rss)) (λ r. IsTrue (accepted_of p r)) (plan_accepts p rss one) own has in
      let reach = pieces_extent (shapes_of p) (accepted_of p) (table_text (header_of p) (table_of p.enablings)) (table_laws (header_of p) p.enablings) (active c h)
      (subst (AllAccepted (accepted_of p)) (sym (active_grows c h)) taken) in
      let counted = reach.counted in
      let same = ap length (active_grows c h) in
      let within = leb-true (extent (shapes_of p) (active c h)) p.config.bufsize (active_within (shapes_of p) p.config c h fitted) in
      let small = events-small (event_rows p rss) (reverse own) turned in
      let long = length-reverse own in
      omega arith

set_up : (o : Option StartFault) (rest : Option PlayFault) → or_else (setup_fault o) rest ≡ None → o ≡ None
set_up None rest is = refl
set_up (Some fault) rest is = absurd (cc (is))

-- so what the file of each CPU of a play tells is of 64 bits
pub play_small : (p : Plan) (outcome : Outcome) → HasOneHeader p → IsPlayOf p outcome → (c : ℕ) (q : Report) → slice_get outcome.close.reports c ≡ Some q
    → All (Accepts (event_rows p outcome.close.accepted)) (stream c (reverse outcome.close.deeds)) → TellsSmall (event_rows p outcome.close.accepted) c (reverse outcome.close.deeds) q
play_small p outcome one play c q at known =
    let e = event_rows p outcome.close.accepted in
    let h = reverse outcome.close.deeds in
    let worn = worn_count outcome.answers in
    let allowed = play.legal.0 in
    let size = (limits p.config (set_up (start_fault p.config) _ play.allowed)).principal.within.most in
    subst (TellsSmall e c h) (sym (report_at p.config worn h outcome.close.reports c q play.reports at))
    record {
      missed = missed_few (shapes_of p) p.config c (worn c) h allowed;
      refused = written_drop c h;
      short = written_all (λ s. length (events e s.records) < 2 ^ 60) c (λ g. AreFitted (shapes_of p) p.config g × All (Accepts e) (stream c g))
          (λ d g both. (both.0.0, known_before e c d g both.1)) (short_growing p outcome.close.accepted one size c)
          (drops c h) h (omega arith) (fitting_fitted (shapes_of p) p.config h allowed.1, known);
    }

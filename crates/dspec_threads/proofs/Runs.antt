-- What a session keeps while it runs on a program's own threads.
use Rattle.std.proofs.Common.{◌≡◌, ◌≤◌, ℕ, zero, suc, List, [], ◌∷◌, length, map, Some, refl, sym, ap, ◌∙◌, subst}
use Rattle.std.proofs.lemmas.{List.length-map, Option.slice_get_past}
use Rattle.std.specs.{Option.option_map_or, Prelude.All, Prelude.Bool, Prelude.IfOk, Prelude.IfSome, Prelude.None, Prelude.Ok, Prelude.Err, Prelude.Option, Prelude.Result, Prelude.slice_get}
use Rattle.dspec_threads.specs.Words.{enabled, table_accepts, table_shape, table_text, Has, AreNew, HandsLane, IsLaneOf, IsRun, rank_of, RunningSession, EnabledRows, IsUnusedConsumer, Pair}
use Rattle.dspec_threads.specs.Words.{last_seat, set_up, CallsMade, called, no_calls, number_in, schema_of, words_of, Consuming, view_of, IsSession, PassesOn, IsOfRank, AreCpusOf, AreAtPlaces}
use Rattle.dspec_threads.specs.Words.{AtOne, EachPair, IsAtPlace, IsAtPlaceSo, KeepsPlace, LooksAndSends, Rests, StaysIn, Whereabouts, waits_inside, who_is_in, IsFresh, Config, Deed, Batch, Cpu}
use Rattle.dspec_threads.specs.Words.{IsOneList, Shared, Session, Record, Shape, Left}
use Rattle.dspec.proofs.{Passing.passes_both, Passing.passes_nothing, Tracing.fresh_none}
use Rattle.dspec_threads.proofs.Pairs.{each_itself, pair_count, set_past}
use Rattle.dspec_threads.proofs.Whereabouts.{begins, each_placed, inside_there, sent_from, stays_itself}

-- what stands at a place came of what stands there
there_was : (cpus : List (Cpu EnabledRows)) (i : ℕ) (w : Whereabouts) → slice_get (map waits_inside cpus) i ≡ Some w → (cpu : Cpu EnabledRows) × (slice_get cpus i ≡ Some cpu) × (w ≡ waits_inside cpu)
there_was [] i w at = absurd (cc (at))
there_was (x ∷ xs) zero w at = (x, refl, sym (cc (at)))
there_was (x ∷ xs) (suc i) w at = there_was xs i w at

seen_there : (cpus : List (Cpu EnabledRows)) (i : ℕ) (cpu : Cpu EnabledRows) → slice_get cpus i ≡ Some cpu → slice_get (who_is_in (map waits_inside cpus)) i ≡ Some (Some cpu)
seen_there [] i cpu at = absurd (cc (at))
seen_there (x ∷ xs) zero cpu at = ap (λ o. Some o) at
seen_there (x ∷ xs) (suc i) cpu at = seen_there xs i cpu at

was_seen : (cpus : List (Cpu EnabledRows)) (i : ℕ) (o : Option (Cpu EnabledRows)) → slice_get (who_is_in (map waits_inside cpus)) i ≡ Some o
    → (cpu : Cpu EnabledRows) × (slice_get cpus i ≡ Some cpu) × (o ≡ Some cpu)
was_seen [] i o at = absurd (cc (at))
was_seen (x ∷ xs) zero o at = (x, refl, sym (cc (at)))
was_seen (x ∷ xs) (suc i) o at = was_seen xs i o at

seen_all : (cpus : List (Cpu EnabledRows)) → length (who_is_in (map waits_inside cpus)) ≡ length cpus
seen_all cpus = length-map (map waits_inside cpus) (λ (w : Whereabouts). w.inside) ∙ length-map cpus waits_inside

-- the CPUs of a session that has just started
pub all_new : (count : ℕ) (schema : EnabledRows) (cpus : List (Cpu EnabledRows)) → length cpus ≡ count
    → ((c : ℕ) (cpu : Cpu EnabledRows) → slice_get cpus c ≡ Some cpu → (number_in cpu ≡ c) × (schema_of cpu ≡ schema) × (no_calls ≡ called cpu))
    → AreNew count schema (who_is_in (map waits_inside cpus))
all_new count schema cpus all each = record {
  all = seen_all cpus ∙ all;
  each = λ c o at. let (cpu, there, e) = was_seen cpus c o at in let told = each c cpu there in (cpu, e, told.0, told.1, told.2);
}

abbrev HasEnabled : Cpu EnabledRows → List Deed → Type 0
HasEnabled = Has (λ (e : EnabledRows). table_shape e.header (enabled e.rows)) (λ (e : EnabledRows). table_accepts e.header (enabled e.rows)) (λ (e : EnabledRows). table_text e.header (enabled e.rows))

-- those of a session that was started with this
pub all_started : (k : Config) (schema : EnabledRows) (s : Session EnabledRows) → IsSession schema s → set_up (words_of s.shared) ≡ k
    → ((c : ℕ) (cpu : Cpu EnabledRows) → slice_get s.cpus.items c ≡ Some cpu → IsFresh HasEnabled cpu) → AreNew k.cpus schema (who_is_in (map waits_inside s.cpus.items))
all_started k schema s is config fresh = all_new k.cpus schema s.cpus.items (is.all ∙ ap (λ (x : Config). x.cpus) config)
    (λ n cpu at. ((is.each n cpu at).number, (is.each n cpu at).one, fresh_none _ _ _ cpu (fresh n cpu at)))

module _ {K : Type 0} (gets : K → Batch → K → Type 0) (done : ℕ → CallsMade → Type 0) where
  -- all CPUs of a session are at home
  pub all_at_home : (schema : EnabledRows) (session : Session EnabledRows) (shared : Shared) (count : ℕ) (places : List Whereabouts) (began sink : K)
      → IsSession schema session → count ≡ (set_up (words_of session.shared)).cpus → AreNew count schema (who_is_in (map waits_inside session.cpus.items)) → shared ≡ session.shared
      → view_of session.consumer ≡ last_seat (set_up (words_of session.shared)) → All IsUnusedConsumer session.consumer.ends
      → places ≡ map waits_inside session.cpus.items → began ≡ sink
      → IsRun gets done shared schema count places session.consumer began sink
  all_at_home schema session shared count places began sink is number new same view unused here first =
      let made : IsRun gets done session.shared schema count (map waits_inside session.cpus.items) session.consumer sink sink = record {
        checked = is.checked;
        number = number;
        all = length-map session.cpus.items waits_inside ∙ is.all;
        placed = λ i w at.
            let (cpu, there, e) = there_was session.cpus.items i w at in
            let (one, is_one, number, has_schema, none) = new.each i (Some cpu) (seen_there session.cpus.items i cpu there) in
            let same_cpu : one ≡ cpu = cc (is_one) in
            subst (λ (v : Whereabouts). IsAtPlace done (rank_of session.shared schema session.consumer) i v) (sym e)
            (begins done (rank_of session.shared schema session.consumer) i cpu (is.each i cpu there) (subst (λ (x : Cpu EnabledRows). no_calls ≡ called x) same_cpu none));
        first = session.consumer;
        first_view = view;
        unused = unused;
        passes = passes_nothing gets (words_of session.shared) session.consumer sink is.consumer;
      } in
      subst (λ (k : K). IsRun gets done shared schema count places session.consumer k sink) (sym first)
      (subst (λ (s : Shared). IsRun gets done s schema count places session.consumer sink sink) (sym same)
      (subst (λ ws. IsRun gets done session.shared schema count ws session.consumer sink sink) (sym here) made))

  -- the consumer took more, and the sink got it
  pub more_taken : (shared : Shared) (schema : EnabledRows) (count : ℕ) (places : List Whereabouts) (x y : Consuming) (began k l : K) (lent : Shared)
      → IsRun gets done shared schema count places x began k → lent ≡ shared → PassesOn gets (words_of lent) x k y l → IsRun gets done shared schema count places y began l
  more_taken shared schema count places x y began k l lent is same taken =
      let more = subst (λ (s : Shared). PassesOn gets (words_of s) x k y l) same taken in
      record {
        checked = is.checked;
        number = is.number;
        all = is.all;
        placed = subst (λ (ps : List Pair). AreAtPlaces done (record { shared = shared; schema = schema; pairs = ps }) places) (sym more.stays.same.pairs) is.placed;
        first = is.first;
        first_view = is.first_view;
        unused = is.unused;
        passes = passes_both gets (words_of shared) is.first x y began k l is.passes more;
      }

  -- each CPU is where it is, and is that still
  pub placed_later : (R : Whereabouts → Whereabouts → Type 0) (keeps : (v w : Whereabouts) → R v w → KeepsPlace done v w) (shared : Shared) (schema : EnabledRows) (count : ℕ)
      (old new : List Whereabouts) (x : Consuming) (began k : K) → EachPair R old new → IsRun gets done shared schema count old x began k → IsRun gets done shared schema count new x began k
  placed_later R keeps shared schema count old new x began k each is = record {
    checked = is.checked;
    number = is.number;
    all = pair_count R old new each ∙ is.all;
    placed = each_placed done R keeps (rank_of shared schema x) old new each is.placed;
    first = is.first;
    first_view = is.first_view;
    unused = is.unused;
    passes = is.passes;
  }

  pub of_run : (shared lent : Shared) (schema : EnabledRows) (count : ℕ) (places : List Whereabouts) (x : Consuming) (began k : K)
      → IsRun gets done shared schema count places x began k → lent ≡ shared → AreCpusOf done lent places
  of_run shared lent schema count places x began k is same = (rank_of shared schema x, sym same, is.placed)

  -- each of them rests
  pub stands : (shared : Shared) (schema : EnabledRows) (count : ℕ) (places : List Whereabouts) (cpus : List (Cpu EnabledRows)) (x : Consuming) (began k : K)
      → IsRun gets done shared schema count places x began k → who_is_in places ≡ map Some cpus
      → (c : ℕ) (cpu : Cpu EnabledRows) → slice_get cpus c ≡ Some cpu → IsOfRank (rank_of shared schema x) c cpu × Rests done c (called cpu)
  stands shared schema count places cpus x began k is inside c cpu at =
      let (w, there, e) = inside_there places cpus c cpu inside at in
      subst (λ (o : Option (Cpu EnabledRows)). IsAtPlaceSo done (rank_of shared schema x) c o w.came) e (is.placed c w there)

  -- with all CPUs back it is a session
  pub session_again : (shared : Shared) (schema : EnabledRows) (count : ℕ) (places : List Whereabouts) (session : Session EnabledRows) (began k : K)
      → IsRun gets done shared schema count places session.consumer began k → who_is_in places ≡ map Some session.cpus.items → session.shared ≡ shared → IsSession schema session
  session_again shared schema count places session began k is inside same =
      let all : length session.cpus.items ≡ (set_up (words_of shared)).cpus =
      sym (length-map session.cpus.items Some) ∙ (sym (ap length inside) ∙ (length-map places (λ (w : Whereabouts). w.inside) ∙ is.all)) in
      let made : IsSession schema (record { shared = shared; cpus = session.cpus; consumer = session.consumer }) = record {
        checked = is.checked;
        consumer = is.passes.stays.session;
        all = all;
        each = λ c cpu at. (stands shared schema count places session.cpus.items session.consumer began k is inside c cpu at).0;
      } in
      subst (λ (s : Shared). IsSession schema (record { shared = s; cpus = session.cpus; consumer = session.consumer })) (sym same) made

  module _ {E : Type 0} where
    -- who is handed out is the CPU of that number
    sent_if : (a : Result (Option (Cpu EnabledRows)) E) (b : Option (Cpu EnabledRows)) (shared : Shared) (schema : EnabledRows) (count c : ℕ) (x : Consuming) (began k : K) (old new : List Whereabouts)
        → IsRun gets done shared schema count old x began k → AtOne (LooksAndSends done a) c old new → a ≡ Ok b → IfSome b (λ cpu. IsLaneOf done schema c cpu)
    sent_if a None shared schema count c x began k old new is one e = tt
    sent_if a (Some cpu) shared schema count c x began k old new is one e =
        let r = rank_of shared schema x in
        let here = sent_from done a (Some cpu) cpu r c one.was one.is one.does e refl (is.placed c one.was one.there) in
        record { number = here.0.number; one = here.0.one; rests = here.1 }

    pub lane_sent : (a : Result (Option (Cpu EnabledRows)) E) (shared : Shared) (schema : EnabledRows) (count c : ℕ) (x : Consuming) (began k : K) (old new : List Whereabouts)
        → IsRun gets done shared schema count old x began k → AtOne (LooksAndSends done a) c old new → IfOk a (λ b. IfSome b (λ cpu. IsLaneOf done schema c cpu))
    lane_sent (Ok b) shared schema count c x began k old new is one = sent_if (Ok b) b shared schema count c x began k old new is one refl
    lane_sent (Err e) shared schema count c x began k old new is one = tt

-- a session whose calls did more is one whose calls did less
pub less_done : {K : Type 0} (gets : K → Batch → K → Type 0) (does less : ℕ → CallsMade → CallsMade → Type 0) (shape : ℕ → Option Shape) (accepted : Record → Bool) (text : Record → List ℕ)
    (k : Config) (old : K) (left : List Left) (new : K) → ((c : ℕ) (x y : CallsMade) → does c x y → less c x y) → IsOneList gets does shape accepted text k old left new
    → IsOneList gets less shape accepted text k old left new
less_done gets does less shape accepted text k old left new weak one = (
  record {
    passed = one.0.passed;
    from = one.0.from;
    got = one.0.got;
    calls = one.0.calls;
    worked = λ c lt. weak c no_calls (one.0.calls c) (one.0.worked c lt);
    entered = one.0.entered;
    told = one.0.told;
    released = one.0.released;
    taken = one.0.taken;
    whole = one.0.whole;
    promised = one.0.promised;
  },
  one.1,
  one.2,
  one.3,
)

-- what is seen but for who is at home stays
pub later_so : {K : Type 0} (schema : EnabledRows) (config : Config) (home : List (Option (Cpu EnabledRows))) (held : Bool) (consumer : Consuming) (began sink : K) (old : RunningSession K)
    → record { schema = schema; config = config; home = home; held = held; consumer = consumer; began = began; sink = sink } ≡ old
    → record { schema = schema; config = config; home = old.home; held = held; consumer = consumer; began = began; sink = sink } ≡ old
later_so {K} schema config home held consumer began sink old e =
    ap (λ (r : RunningSession K). record { schema = schema; config = config; home = r.home; held = held; consumer = consumer; began = began; sink = sink }) (sym e) ∙ e

-- where there is no such CPU nothing is handed out
pub none_handed : {K E : Type 0} (c : ℕ) (old new : RunningSession K) → new ≡ old → length old.home ≤ c → HandsLane {K = K} {E = E} c (Ok None) old new
none_handed {K} {E} c old new e past =
    subst (λ (r : RunningSession K). HandsLane {K = K} {E = E} c (Ok None) old r) (sym e)
    (record {
      same = refl;
      looked = old.home;
      later = each_itself StaysIn stays_itself old.home;
      hands = (sym (ap (λ o. option_map_or (λ x. x) o None) (slice_get_past old.home c past)), sym (set_past old.home c None past));
    })

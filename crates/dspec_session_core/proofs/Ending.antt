-- The end of a session, from what is left of its CPUs.
use Rattle.std.proofs.Common.{◌≡◌, ℕ, ◌+◌, ◌<◌, List, [], ◌++◌, length, map, reverse, Option, Some, None, refl, sym, ap, ◌∙◌, subst, arith}
use Rattle.std.proofs.lemmas.{List.length-reverse, Option.slice_get_within}
use Rattle.std.specs.{Option.option_map_or, Prelude.Bool, Prelude.slice_get}
use Rattle.dspec_session_core.specs.Leaving.{Has}
use Rattle.dspec_session_core.specs.Words.{Record, word_at, own_closed, Ended, known_there, set_up, ConsumerKnows, seat_of, words_of, worn_of, identity, Consuming, IsClosedBy, LeftShows, IsClosing}
use Rattle.dspec_session_core.specs.Words.{Steady, AllSteady, IsLeft, AreLeft, AreParting, IsCpuOf, IsSession, HasAt, worn_at, taken_at, Shape, Config, Deed, View, CpuSeat, Cpu}
use Rattle.dspec_session_core.specs.declared.{left.Left.Left, session.Session.Session}
use Rattle.dspec_table.specs.declared.seats.Words.{Words}
use Rattle.dspec_session_core.proofs.{ClosingLists.closes_as, Partings.all_at_rest, Partings.seats_all, Partings.closings, PromisedBy.there_is}

module _ {S : Type 0} (shape_of : S → ℕ → Option Shape) (accepted : S → Record → Bool) (text : S → Record → List ℕ) where
  -- one list of each CPU
  list_at : (o : Option (Cpu S)) → ((cpu : Cpu S) → o ≡ Some cpu → Steady shape_of accepted text cpu) → List Deed
  list_at None f = []
  list_at (Some cpu) f = (f cpu refl).list

  list_had : (o : Option (Cpu S)) (f : (cpu : Cpu S) → o ≡ Some cpu → Steady shape_of accepted text cpu) (cpu : Cpu S) → o ≡ Some cpu
      → Has shape_of accepted text cpu (list_at o f)
  unfolding list_at
  list_had None f cpu e = absurd (cc (e))
  list_had (Some x) f cpu e = let is : x ≡ cpu = cc (e) in subst (λ y. Has shape_of accepted text y (f x refl).list) is (f x refl).listed

  module _ (schema : S) (session : Session S) (is : IsSession schema session) (steady : AllSteady shape_of accepted text session.cpus.items) where
    pub some_lists : (p : ℕ → List Deed) × ((c : ℕ) (cpu : Cpu S) → slice_get session.cpus.items c ≡ Some cpu → Has shape_of accepted text cpu (p c))
    some_lists = (
      λ c. list_at (slice_get session.cpus.items c) (λ cpu e. steady c cpu e),
      λ c cpu e. list_had (slice_get session.cpus.items c) (λ x f. steady c x f) cpu e,
    )

    module _ (all : length session.consumer.ends ≡ (set_up (words_of session.shared)).cpus) where
      -- none has parted yet
      pub none_parted : (p : ℕ → List Deed) → ((c : ℕ) (cpu : Cpu S) → slice_get session.cpus.items c ≡ Some cpu → Has shape_of accepted text cpu (p c))
          → AreParting shape_of accepted text schema (words_of session.shared) p [] session.cpus.items session.consumer.ends
      none_parted p had = record {
        all = let a = is.all in omega arith;
        ends_all = all ∙ sym is.all;
        parted = λ c s e. absurd (cc (e));
        each = λ i cpu e.
            let z : i ≡ 0 + i = omega arith in
            let here = is.each i cpu e in
            subst (λ n. IsCpuOf schema (words_of session.shared) n (slice_get (map (λ (x : ConsumerKnows). x.pair) session.consumer.ends) i) (identity cpu)
            × Steady shape_of accepted text cpu × Has shape_of accepted text cpu (p n)) z (here, steady i cpu e, had i cpu e);
      }

      -- all have
      pub closed_by : (last : List ℕ) (consumer : View) (left : List Left) → Ended (set_up (words_of session.shared)) last ([] ++ map (λ (cpu : Cpu S). seat_of cpu) session.cpus.items) consumer
          → length left ≡ (set_up (words_of session.shared)).cpus → AreLeft shape_of accepted text (set_up (words_of session.shared)) last 0 session.cpus.items session.consumer.ends left
          → IsClosedBy (shape_of schema) (accepted schema) (text schema) (set_up (words_of session.shared)) (HasAt (Has shape_of accepted text) session.cpus.items) (worn_at session.cpus.items)
          (taken_at session.consumer) consumer.own left
      closed_by last consumer left ended count are p had =
          let k = set_up (words_of session.shared) in
          let cpus = session.cpus.items in
          let ends = session.consumer.ends in
          let lists : (c : ℕ) (cpu : Cpu S) → slice_get cpus c ≡ Some cpu → Has shape_of accepted text cpu (p c) = λ c cpu e. had c (subst (λ n. c < n) is.all (slice_get_within cpus c cpu e)) cpu e in
          let parting = none_parted p lists in
          let found = closings shape_of accepted text schema (words_of session.shared) p [] cpus ends parting last consumer is.checked ended in
          closes_as (shape_of schema) (accepted schema) (text schema) k last ([] ++ map (λ (cpu : Cpu S). seat_of cpu) cpus) consumer (worn_at cpus) (taken_at session.consumer) left p
          record {
            checked = is.checked;
            ended = ended;
            seats_all = seats_all shape_of accepted text schema (words_of session.shared) p [] cpus ends parting;
            all = count;
            rests = all_at_rest shape_of accepted text schema (words_of session.shared) p [] cpus ends parting;
            shows = λ c l there.
                let lt : c < k.cpus = subst (λ n. c < n) count (slice_get_within left c l there) in
                let cpu = there_is cpus c (subst (λ n. c < n) (sym is.all) lt) in
                let end = there_is ends c (subst (λ n. c < n) (sym all) lt) in
                let z : 0 + c ≡ c = omega arith in
                let one = (is.each c cpu.0 cpu.1).one in
                let closing : IsClosing (shape_of schema) k last c (p c) ended.log found.0 = subst (λ n. IsClosing (shape_of schema) k last n (p n) ended.log found.0) z (found.1 c cpu.0 cpu.1) in
                let mine : IsLeft shape_of accepted text k last c cpu.0 end.0.taken l =
                subst (λ n. IsLeft shape_of accepted text k last n cpu.0 end.0.taken l) z (are c cpu.0 end.0 l cpu.1 end.1 there) in
                let shown : LeftShows (shape_of schema) (accepted schema) (text schema) k c (worn_of cpu.0) end.0.taken (own_closed (shape_of schema) k (λ s. word_at s ended.log) c k.nspec (p c)) l
                = subst (λ s. LeftShows (shape_of s) (accepted s) (text s) k c (worn_of cpu.0) end.0.taken (own_closed (shape_of s) k (λ x. word_at x ended.log) c k.nspec (p c)) l) one
                (mine (p c) ended.log found.0 (lists c cpu.0 cpu.1) (subst (λ s. IsClosing (shape_of s) k last c (p c) ended.log found.0) (sym one) closing)) in
                subst (λ n. LeftShows (shape_of schema) (accepted schema) (text schema) k c n (taken_at session.consumer c)
                (own_closed (shape_of schema) k (λ s. word_at s ended.log) c k.nspec (p c)) l)
                (sym (ap (λ o. option_map_or (λ (x : Cpu S). worn_of x) o 0) cpu.1))
                (subst (λ t. LeftShows (shape_of schema) (accepted schema) (text schema) k c (worn_of cpu.0) t (own_closed (shape_of schema) k (λ s. word_at s ended.log) c k.nspec (p c)) l)
                (sym (ap (λ o. option_map_or (λ (e : ConsumerKnows). e.taken) o []) end.1)) shown);
          }

    -- what the session is taken apart to: the words, no seats yet, and the consumer
    module _ (words : Words) (seats : List CpuSeat) (x : Consuming) (k : Config) (words_are : words ≡ words_of session.shared) (none : seats ≡ []) (same : x ≡ session.consumer)
        (all : length x.ends ≡ k.cpus) (config : (known_there x.seat).config ≡ k) where
      ends_all : length session.consumer.ends ≡ (set_up (words_of session.shared)).cpus
      ends_all =
          ap (λ (y : Consuming). length y.ends) (sym same)
          ∙ (all ∙ (ap (λ (j : Config). j.cpus) (sym config) ∙ (ap (λ (y : Consuming). (known_there y.seat).config.cpus) same ∙ ap (λ (j : Config). j.cpus) is.consumer.1)))

      pub begins_parting : (p : ℕ → List Deed) → ((c : ℕ) (cpu : Cpu S) → slice_get session.cpus.items c ≡ Some cpu → Has shape_of accepted text cpu (p c))
          → AreParting shape_of accepted text schema words p seats session.cpus.items x.ends
      begins_parting p had =
          subst (λ w. AreParting shape_of accepted text schema w p seats session.cpus.items x.ends) (sym words_are)
          (subst (λ ss. AreParting shape_of accepted text schema (words_of session.shared) p ss session.cpus.items x.ends) (sym none)
          (subst (λ (y : Consuming). AreParting shape_of accepted text schema (words_of session.shared) p [] session.cpus.items y.ends) (sym same) (none_parted ends_all p had)))

      pub finished : (last : List ℕ) (inner left : List Left)
          → Ended (set_up words) last (seats ++ map (λ (cpu : Cpu S). seat_of cpu) session.cpus.items) (known_there x.seat) → length inner ≡ length session.cpus.items
          → AreLeft shape_of accepted text (set_up words) last (length seats) session.cpus.items x.ends (reverse inner) → left ≡ reverse inner
          → IsClosedBy (shape_of schema) (accepted schema) (text schema) (set_up (words_of session.shared)) (HasAt (Has shape_of accepted text) session.cpus.items) (worn_at session.cpus.items)
          (taken_at session.consumer) (known_there session.consumer.seat).own left
      finished last inner left ended count are left_is =
          closed_by ends_all last (known_there session.consumer.seat) left
          (subst (λ (y : Consuming). Ended (set_up (words_of session.shared)) last ([] ++ map (λ (cpu : Cpu S). seat_of cpu) session.cpus.items) (known_there y.seat)) same
          (subst (λ ss. Ended (set_up (words_of session.shared)) last (ss ++ map (λ (cpu : Cpu S). seat_of cpu) session.cpus.items) (known_there x.seat)) none
          (subst (λ w. Ended (set_up w) last (seats ++ map (λ (cpu : Cpu S). seat_of cpu) session.cpus.items) (known_there x.seat)) words_are ended)))
          (ap length left_is ∙ (length-reverse inner ∙ (count ∙ is.all)))
          (subst (λ ls. AreLeft shape_of accepted text (set_up (words_of session.shared)) last 0 session.cpus.items session.consumer.ends ls) (sym left_is)
          (subst (λ (y : Consuming). AreLeft shape_of accepted text (set_up (words_of session.shared)) last 0 session.cpus.items y.ends (reverse inner)) same
          (subst (λ (ss : List CpuSeat). AreLeft shape_of accepted text (set_up (words_of session.shared)) last (length ss) session.cpus.items x.ends (reverse inner)) none
          (subst (λ w. AreLeft shape_of accepted text (set_up w) last (length seats) session.cpus.items x.ends (reverse inner)) words_are are))))

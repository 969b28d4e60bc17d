-- Events and their values, one after another, as loops read them.
use Rattle.std.proofs.Common.{◌≡◌, ◌<◌, ◌+◌, ◌==◌, ℕ, zero, suc, true, false, cond, List, [], ◌∷◌, ◌++◌, map, length, drop, get_or, Option, Some, None, option_map, refl, ap, sym, ◌∙◌, arith}
use Rattle.std.proofs.Common.{add-one}
use Rattle.std.proofs.lemmas.{Bool.Decides.nat_tests, List.append-nil, List.drop_all, List.get_or-map, List.length-map}
use Rattle.std.specs.{List.zip, Prelude.option_and_then}
use Rattle.dspec_ctf_reading.specs.Words.{width, PartRead, then_read, read_number, find_event, read_payload, read_event, read_events, Layout, EventRead, told_field, told_event, names_of, text_at}
use Rattle.dspec_ctf_reading.specs.Words.{after_events}
use Rattle.dspec_ctf_reading.specs.declared.told.{EventText.EventText, FieldText.FieldText}
use Rattle.dspec_ctf_reading.proofs.{Bounds.events-on-bytes, LoopLemmas.found_before, LoopLemmas.none-before, LoopLemmas.one-after, LoopLemmas.one-more}

-- the first event of a number
find-open : (id i : ℕ) (events : List EventText) (e : EventText) → i < length events → find_event id (map told_event (drop i events))
    ≡ cond ((get_or events i e).id == id) (Some (told_event (get_or events i e))) (find_event id (map told_event (drop (suc i) events)))
find-open id i [] e below = absurd (omega (arith, below))
find-open id zero (x ∷ events) e below = refl
find-open id (suc i) (x ∷ events) e below = find-open id i events e (omega (arith, below))

pub find-here : (id i : ℕ) (events : List EventText) (e : EventText) → i < length events → e ≡ get_or events i e → (e.id == id) ≡ true
    → find_event id (map told_event (drop i events)) ≡ Some (told_event e)
find-here id i events e below is same = grind (arith, nat_tests, find-open id i events e below)

pub find-on : (id i : ℕ) (events : List EventText) (e : EventText) → i < length events → e ≡ get_or events i e → (e.id == id) ≡ false
    → find_event id (map told_event (drop i events)) ≡ find_event id (map told_event (drop (i + 1) events))
find-on id i events e below is other = grind (arith, nat_tests, find-open id i events e below)

pub text_at-here : (i : ℕ) (events : List EventText) (e : EventText) → i < length events → e ≡ get_or events i e → text_at (map told_event events) i ≡ told_event e
text_at-here i events e below is = get_or-map told_event events i e (record { id = 0; name = []; fields = [] }) below ∙ ap told_event (sym is)

-- values
payload-open : (i : ℕ) (fields : List FieldText) (f : FieldText) (rest : List ℕ) → i < length fields → read_payload (map told_field (drop i fields)) rest
    ≡ then_read (read_number (width (get_or fields i f).width) rest)
    (λ value rest. option_map (λ p. (((get_or fields i f).name.now, value) ∷ p.0, p.1)) (read_payload (map told_field (drop (suc i) fields)) rest))
payload-open i [] f rest below = absurd (omega (arith, below))
payload-open zero (x ∷ fields) f rest below = refl
payload-open (suc i) (x ∷ fields) f rest below = payload-open i fields f rest (omega (arith, below))

payload-here : (i : ℕ) (fields : List FieldText) (f : FieldText) (rest : List ℕ) → i < length fields → f ≡ get_or fields i f → read_payload (map told_field (drop i fields)) rest
    ≡ then_read (read_number (width f.width) rest) (λ value rest. option_map (λ p. ((f.name.now, value) ∷ p.0, p.1)) (read_payload (map told_field (drop (i + 1) fields)) rest))
payload-here i fields f rest below is =
    payload-open i fields f rest below
    ∙ ap (λ x. then_read (read_number (width x.width) rest) (λ value rest. option_map (λ p. ((x.name.now, value) ∷ p.0, p.1)) (read_payload (map told_field (drop (suc i) fields)) rest))) (sym is)
    ∙ ap (λ n. then_read (read_number (width f.width) rest) (λ value rest. option_map (λ p. ((f.name.now, value) ∷ p.0, p.1)) (read_payload (map told_field (drop n fields)) rest))) (sym (add-one i))

zip-none : {A : Type 0} (names : List A) (values : List ℕ) → values ≡ [] → zip names values ≡ []
zip-none [] values none = refl
zip-none (m ∷ names) [] none = refl
zip-none (m ∷ names) (v ∷ values) none = absurd (cc)

zip-push : {A : Type 0} (names : List A) (values : List ℕ) (v : ℕ) (d : A) → length values < length names → zip names (values ++ v ∷ []) ≡ zip names values ++ (get_or names (length values) d, v) ∷ []
zip-push [] values v d below = absurd (omega (arith, below))
zip-push (n ∷ names) [] v d below = ap (λ more. (n, v) ∷ more) (zip-none names [] refl)
zip-push (n ∷ names) (w ∷ values) v d below = ap (λ more. (n, w) ∷ more) (zip-push names values v d (omega (arith, below)))

-- the values so far under their names, and what is read after them
abbrev pub under_names : List FieldText → List ℕ → PartRead (List (List ℕ × ℕ)) → PartRead (List (List ℕ × ℕ))
under_names fields values part = option_map (λ p. (zip (names_of (map told_field fields)) values ++ p.0, p.1)) part

abbrev put_first : List ℕ × ℕ → PartRead (List (List ℕ × ℕ)) → PartRead (List (List ℕ × ℕ))
put_first x part = option_map (λ p. (x ∷ p.0, p.1)) part

name-at : (i : ℕ) (fields : List FieldText) (f : FieldText) → i < length fields → f ≡ get_or fields i f → get_or (names_of (map told_field fields)) i [] ≡ f.name.now
name-at i [] f below is = absurd (omega (arith, below))
name-at zero (x ∷ fields) f below is = ap (λ x. x.name.now) (sym is)
name-at (suc i) (x ∷ fields) f below is = name-at i fields f (omega (arith, below)) is

pub payload-begin : (fields : List FieldText) (values : List ℕ) (part : PartRead (List (List ℕ × ℕ))) → values ≡ [] → part ≡ under_names fields values part
payload-begin fields values part none = none-before part ∙ ap (λ before. found_before before part) (sym (zip-none (names_of (map told_field fields)) values none))

pub payload-on : (i : ℕ) (fields : List FieldText) (f : FieldText) (values grown : List ℕ) (v : ℕ) (whole : PartRead (List (List ℕ × ℕ))) (rest next : List ℕ)
    → i < length fields → f ≡ get_or fields i f → length values ≡ i → whole ≡ under_names fields values (read_payload (map told_field (drop i fields)) rest)
    → read_number (width f.width) rest ≡ Some (v, next) → grown ≡ values ++ v ∷ []
    → whole ≡ under_names fields grown (read_payload (map told_field (drop (i + 1) fields)) next)
payload-on i fields f values grown v whole rest next below is count so_far read longer =
    let few : length values < length (names_of (map told_field fields)) = simp (length-map) (omega (arith, below, count)) in
    let name : get_or (names_of (map told_field fields)) (length values) [] ≡ f.name.now = ap (λ n. get_or (names_of (map told_field fields)) n []) count ∙ name-at i fields f below is in
    so_far ∙ ap (under_names fields values) (payload-here i fields f rest below is
    ∙ ap (λ part. then_read part (λ value rest. option_map (λ p. ((f.name.now, value) ∷ p.0, p.1)) (read_payload (map told_field (drop (i + 1) fields)) rest))) read)
    ∙ one-more (zip (names_of (map told_field fields)) values) (f.name.now, v) (read_payload (map told_field (drop (i + 1) fields)) next)
    ∙ ap (λ before. found_before before (read_payload (map told_field (drop (i + 1) fields)) next))
    (ap (λ name. zip (names_of (map told_field fields)) values ++ (name, v) ∷ []) (sym name)
    ∙ sym (zip-push (names_of (map told_field fields)) values v [] few) ∙ ap (zip (names_of (map told_field fields))) (sym longer))

pub payload-stop : (i : ℕ) (fields : List FieldText) (f : FieldText) (values : List ℕ) (whole : PartRead (List (List ℕ × ℕ))) (rest : List ℕ)
    → i < length fields → f ≡ get_or fields i f → whole ≡ under_names fields values (read_payload (map told_field (drop i fields)) rest)
    → read_number (width f.width) rest ≡ None → whole ≡ None
payload-stop i fields f values whole rest below is so_far read = grind (arith, nat_tests, payload-here i fields f rest below is)

pub payload-end : (i : ℕ) (fields : List FieldText) (values : List ℕ) (whole : PartRead (List (List ℕ × ℕ))) (rest : List ℕ)
    → i ≡ length fields → whole ≡ under_names fields values (read_payload (map told_field (drop i fields)) rest)
    → whole ≡ Some (zip (names_of (map told_field fields)) values, rest)
payload-end i fields values whole rest all so_far = grind (arith, nat_tests, drop_all, append-nil)

-- the same where no value is kept
abbrev rest_of : PartRead (List (List ℕ × ℕ)) → Option (List ℕ)
rest_of part = option_map (λ p. p.1) part

only-rest : (x : List ℕ × ℕ) (part : PartRead (List (List ℕ × ℕ))) → rest_of (put_first x part) ≡ rest_of part
only-rest x None = refl
only-rest x (Some p) = refl

pub rest-on : (i : ℕ) (fields : List FieldText) (f : FieldText) (v : ℕ) (whole : Option (List ℕ)) (rest next : List ℕ)
    → i < length fields → f ≡ get_or fields i f → whole ≡ option_map (λ p. p.1) (read_payload (map told_field (drop i fields)) rest)
    → read_number (width f.width) rest ≡ Some (v, next) → whole ≡ option_map (λ p. p.1) (read_payload (map told_field (drop (i + 1) fields)) next)
rest-on i fields f v whole rest next below is so_far read =
    grind (arith, nat_tests, payload-here i fields f rest below is, only-rest (f.name.now, v) (read_payload (map told_field (drop (i + 1) fields)) next))

pub rest-stop : (i : ℕ) (fields : List FieldText) (f : FieldText) (whole : Option (List ℕ)) (rest : List ℕ)
    → i < length fields → f ≡ get_or fields i f → whole ≡ option_map (λ p. p.1) (read_payload (map told_field (drop i fields)) rest)
    → read_number (width f.width) rest ≡ None → whole ≡ None
rest-stop i fields f whole rest below is so_far read = grind (arith, nat_tests, payload-here i fields f rest below is)

pub rest-end : (i : ℕ) (fields : List FieldText) (whole : Option (List ℕ)) (rest : List ℕ) → i ≡ length fields
    → whole ≡ option_map (λ p. p.1) (read_payload (map told_field (drop i fields)) rest) → whole ≡ Some rest
rest-end i fields whole rest all so_far =
    so_far ∙ ap (λ more. option_map (λ p. p.1) (read_payload (map told_field more) rest)) (ap (λ n. drop n fields) all ∙ drop_all (length fields) fields (omega arith))

-- events
module _ (layout : Layout) where
  more-after : (n : ℕ) (part : PartRead EventRead) (next : List ℕ) → option_map (λ p. p.1) part ≡ Some next → option_and_then (λ p. Some p.1) part ≡ Some next
  more-after n None next is = is
  more-after n (Some p) next is = is

  pub after-more : (n : ℕ) (body rest next : List ℕ) → after_events n layout body ≡ Some rest → option_map (λ p. p.1) (read_event layout rest) ≡ Some next
      → after_events (suc n) layout body ≡ Some next
  after-more zero body rest next is read = grind (arith, nat_tests, more-after)
  after-more (suc n) body rest next is read = go (read_event layout body) is (λ bytes is. after-more n bytes rest next is read)
    where
      go : (part : PartRead EventRead) → option_and_then (λ p. after_events n layout p.1) part ≡ Some rest
          → ((bytes : List ℕ) → after_events n layout bytes ≡ Some rest → after_events (suc n) layout bytes ≡ Some next)
          → option_and_then (λ p. after_events (suc n) layout p.1) part ≡ Some next
      go None is more = absurd (cc)
      go (Some p) is more = more p.1 is

  pub after-one-more : (n : ℕ) (body rest next : List ℕ) → after_events n layout body ≡ Some rest → option_map (λ p. p.1) (read_event layout rest) ≡ Some next
      → after_events (n + 1) layout body ≡ Some next
  after-one-more n body rest next is read = rw add-one (after-more n body rest next is read)

  module _ {X : Type 0} (f : X → EventRead) where
    pub events-more : (found grown : List X) (x : X) (whole : Option (List EventRead)) (rest next : List ℕ) → 0 < length rest
        → whole ≡ option_map (λ events. map f found ++ events) (read_events layout rest) → read_event layout rest ≡ Some (f x, next) → grown ≡ found ++ x ∷ []
        → whole ≡ option_map (λ events. map f grown ++ events) (read_events layout next)
    events-more found grown x whole rest next some so_far read longer =
        so_far ∙ ap (option_map (λ events. map f found ++ events)) (events-on-bytes layout rest some
        ∙ ap (option_and_then (λ p. option_map (λ events. p.0 ∷ events) (read_events layout p.1))) read)
        ∙ one-after f found x (read_events layout next) ∙ ap (λ xs. option_map (λ events. map f xs ++ events) (read_events layout next)) (sym longer)

    pub events-stop : (found : List X) (whole : Option (List EventRead)) (rest : List ℕ) → 0 < length rest
        → whole ≡ option_map (λ events. map f found ++ events) (read_events layout rest) → read_event layout rest ≡ None → whole ≡ None
    events-stop found whole rest some so_far read =
        so_far ∙ ap (option_map (λ events. map f found ++ events)) (events-on-bytes layout rest some
        ∙ ap (option_and_then (λ p. option_map (λ events. p.0 ∷ events) (read_events layout p.1))) read)

    pub events-end : (found : List X) (whole : Option (List EventRead)) (rest : List ℕ) → length rest ≡ 0
        → whole ≡ option_map (λ events. map f found ++ events) (read_events layout rest) → whole ≡ Some (map f found)
    events-end found whole [] none so_far = so_far ∙ ap Some (append-nil (map f found))
    events-end found whole (b ∷ rest) none so_far = absurd (omega (arith, none))

  -- how many there are
  pub count-more : (count : ℕ) (whole : Option ℕ) (rest next : List ℕ) → 0 < length rest
      → whole ≡ option_map (λ events. count + length events) (read_events layout rest) → option_map (λ p. p.1) (read_event layout rest) ≡ Some next
      → whole ≡ option_map (λ events. (count + 1) + length events) (read_events layout next)
  count-more count whole rest next some so_far read = grind (arith, nat_tests, events-on-bytes)

  pub count-stop : (count : ℕ) (whole : Option ℕ) (rest : List ℕ) → 0 < length rest
      → whole ≡ option_map (λ events. count + length events) (read_events layout rest) → read_event layout rest ≡ None → whole ≡ None
  count-stop count whole rest some so_far read = grind (arith, nat_tests, events-on-bytes)

  pub count-end : (count : ℕ) (whole : Option ℕ) (rest : List ℕ) → length rest ≡ 0
      → whole ≡ option_map (λ events. count + length events) (read_events layout rest) → whole ≡ Some count
  count-end count whole [] none so_far = so_far ∙ ap Some (omega arith)
  count-end count whole (b ∷ rest) none so_far = absurd (omega (arith, none))

-- Each event and each packet takes some bytes: so the number that shows that reading ends changes nothing, from the number of bytes on. Nor is a packet
-- changed by what stands after it.
use Rattle.std.proofs.Common.{◌≡◌, ◌≤◌, ◌<◌, ◌+◌, ◌-◌, ◌*◌, ◌/◌, ◌==◌, ◌++◌, ℕ, zero, suc, Bool, true, false, cond, leb, List, [], ◌∷◌, length, take, drop, Option, Some, None, option_map, refl, ap}
use Rattle.std.proofs.Common.{sym, subst, ◌∙◌, arith, length-drop, length-append}
use Rattle.std.proofs.lemmas.{Bool.leb-true, Bool.le-leb, Bool.cond-true, List.take-append-le, List.drop-append-le}
use Rattle.std.specs.Prelude.{option_and_then}
use Rattle.dspec_ctf_reading.specs.Words.{FieldLayout, EventLayout, Layout, PacketRead, FrontRead, PartRead, then_read, read_number, read_bytes, read_stamp, read_span, find_event, read_payload}
use Rattle.dspec_ctf_reading.specs.Words.{read_event_body, read_event, read_events_within, read_events, read_this, read_header, read_counts, read_front, sizes_agree, with_events, read_body}
use Rattle.dspec_ctf_reading.specs.Words.{read_packet, read_packets_within, read_file}
use Rattle.dspec_ctf_reading.proofs.Agreeing.{Agrees, agree, agrees}

-- after the part, if there is one, there are so many bytes at most; and where more bytes stand after all, the other part is the same, and leaves them too
unfoldable pub Goes : {A : Type 0} → List ℕ → ℕ → PartRead A → PartRead A → Type 0
Goes more m None other = Unit
Goes more m (Some p) other = (length p.1 ≤ m) × (other ≡ Some (p.0, p.1 ++ more))

Goes-then : {A B : Type 0} (more : List ℕ) (m : ℕ) (part other : PartRead A) (f g : A → List ℕ → PartRead B) → Goes more m part other
    → ((x : A) (rest : List ℕ) → length rest ≤ m → Goes more m (f x rest) (g x (rest ++ more))) → Goes more m (then_read part f) (then_read other g)
unfolding Goes
Goes-then more m None other f g goes next = tt
Goes-then more m (Some p) other f g goes next = subst (λ q. Goes more m (f p.0 p.1) (then_read q g)) (sym goes.1) (next p.0 p.1 goes.0)

Goes-map : {A B : Type 0} (more : List ℕ) (m : ℕ) (part other : PartRead A) (g : A → B) → Goes more m part other
    → Goes more m (option_map (λ p. (g p.0, p.1)) part) (option_map (λ p. (g p.0, p.1)) other)
unfolding Goes
Goes-map more m None other g goes = tt
Goes-map more m (Some p) other g goes = (goes.0, ap (option_map (λ p. (g p.0, p.1))) goes.1)

Goes-choice : {A B : Type 0} (more : List ℕ) (m : ℕ) (o : Option A) (f g : A → PartRead B) → ((x : A) → Goes more m (f x) (g x)) → Goes more m (option_and_then f o) (option_and_then g o)
unfolding Goes
Goes-choice more m None f g each = tt
Goes-choice more m (Some x) f g each = each x

Goes-test : (more : List ℕ) (m : ℕ) (b : Bool) (rest : List ℕ) → length rest ≤ m → Goes {A = Unit} more m (cond b (Some (tt, rest)) None) (cond b (Some (tt, rest ++ more)) None)
unfolding Goes
Goes-test more m true rest few = (few, refl)
Goes-test more m false rest few = tt

number-goes : (n m : ℕ) (more bytes : List ℕ) → length bytes ≤ m + n → Goes more m (read_number n bytes) (read_number n (bytes ++ more))
unfolding Goes
number-goes zero m more bytes few = (omega (arith, few), refl)
number-goes (suc n) m more [] few = tt
number-goes (suc n) m more (b ∷ bytes) few =
    Goes-map more m (read_number n bytes) (read_number n (bytes ++ more)) (λ x. b + 256 * x) (number-goes n m more bytes (omega (arith, few)))

number-within : (n m : ℕ) (more bytes : List ℕ) → length bytes ≤ m → Goes more m (read_number n bytes) (read_number n (bytes ++ more))
number-within n m more bytes few = number-goes n m more bytes (omega (arith, few))

stamp-goes : (timed : Bool) (m : ℕ) (more bytes : List ℕ) → length bytes ≤ m → Goes more m (read_stamp timed bytes) (read_stamp timed (bytes ++ more))
unfolding Goes
stamp-goes false m more bytes few = (few, refl)
stamp-goes true m more bytes few = Goes-map more m (read_number 8 bytes) (read_number 8 (bytes ++ more)) Some (number-within 8 m more bytes few)

span-goes : (timed : Bool) (m : ℕ) (more bytes : List ℕ) → length bytes ≤ m → Goes more m (read_span timed bytes) (read_span timed (bytes ++ more))
unfolding Goes
span-goes false m more bytes few = (few, refl)
span-goes true m more bytes few =
    Goes-then more m (read_number 8 bytes) (read_number 8 (bytes ++ more)) _ _ (number-within 8 m more bytes few) (λ begin rest few.
    Goes-map more m (read_number 8 rest) (read_number 8 (rest ++ more)) (λ end. Some (begin, end)) (number-within 8 m more rest few))

values-goes : (fields : List FieldLayout) (m : ℕ) (more bytes : List ℕ) → length bytes ≤ m → Goes more m (read_payload fields bytes) (read_payload fields (bytes ++ more))
unfolding Goes
values-goes [] m more bytes few = (few, refl)
values-goes (field ∷ fields) m more bytes few =
    Goes-then more m (read_number field.width bytes) (read_number field.width (bytes ++ more)) _ _ (number-within field.width m more bytes few) (λ value rest few.
    Goes-map more m (read_payload fields rest) (read_payload fields (rest ++ more)) (λ others. (field.name, value) ∷ others) (values-goes fields m more rest few))

event_body-goes : (timed : Bool) (event : EventLayout) (m : ℕ) (more bytes : List ℕ) → length bytes ≤ m → Goes more m (read_event_body timed event bytes) (read_event_body timed event (bytes ++ more))
event_body-goes timed event m more bytes few =
    Goes-then more m (read_stamp timed bytes) (read_stamp timed (bytes ++ more)) _ _ (stamp-goes timed m more bytes few) (λ stamp rest few.
    Goes-map more m (read_payload event.fields rest) (read_payload event.fields (rest ++ more)) (λ values. record { id = event.id; name = event.name; stamp = stamp; values = values })
    (values-goes event.fields m more rest few))

-- an event takes its number's bytes
event-goes : (layout : Layout) (bytes : List ℕ) → Goes [] (length bytes - 4) (read_event layout bytes) (read_event layout (bytes ++ []))
event-goes layout bytes =
    let m : ℕ = length bytes - 4 in
    Goes-then [] m (read_number 4 bytes) (read_number 4 (bytes ++ [])) _ _ (number-goes 4 m [] bytes (omega arith)) (λ id rest few.
    Goes-choice [] m (find_event id layout.events) _ _ (λ event. event_body-goes layout.timed event m [] rest few))

this-goes : (n x m : ℕ) (more bytes : List ℕ) → length bytes ≤ m + n → Goes more m (read_this n x bytes) (read_this n x (bytes ++ more))
this-goes n x m more bytes few =
    Goes-then more m (read_number n bytes) (read_number n (bytes ++ more)) (λ v rest. cond (v == x) (Some (tt, rest)) None) (λ v rest. cond (v == x) (Some (tt, rest)) None)
    (number-goes n m more bytes few) (λ v rest few. Goes-test more m (v == x) rest few)

bytes-goes : (n m : ℕ) (more bytes : List ℕ) → length bytes ≤ m → Goes more m (read_bytes n bytes) (read_bytes n (bytes ++ more))
unfolding Goes
bytes-goes n m more bytes few = go (leb n (length bytes)) refl
  where
    go : (b : Bool) → leb n (length bytes) ≡ b → Goes {A = List ℕ} more m (cond b (Some (take n bytes, drop n bytes)) None) (read_bytes n (bytes ++ more))
    go true is =
        let within : n ≤ length bytes = leb-true n (length bytes) is in (
          omega (arith, few, length-drop n bytes),
          cond-true (leb n (length (bytes ++ more))) (Some (take n (bytes ++ more), drop n (bytes ++ more))) None (le-leb n (length (bytes ++ more)) (omega (arith, within, length-append bytes more)))
              ∙ (λ i. Some (take-append-le n bytes more within i, drop-append-le n bytes more within i)),
        )
    go false is = tt

header-goes : (m : ℕ) (more bytes : List ℕ) → length bytes ≤ m + 4 → Goes more m (read_header bytes) (read_header (bytes ++ more))
header-goes m more bytes few =
    Goes-then more m (read_this 4 3254525889 bytes) (read_this 4 3254525889 (bytes ++ more)) _ _ (this-goes 4 3254525889 m more bytes few) (λ _ rest few.
    Goes-then more m (read_bytes 16 rest) (read_bytes 16 (rest ++ more)) _ _ (bytes-goes 16 m more rest few) (λ uuid rest few.
    Goes-map more m (read_this 4 0 rest) (read_this 4 0 (rest ++ more)) (λ _. uuid) (this-goes 4 0 m more rest (omega (arith, few)))))

counts-goes : (uuid : List ℕ) (span : Option (ℕ × ℕ)) (m : ℕ) (more bytes : List ℕ) → length bytes ≤ m → Goes more m (read_counts uuid span bytes) (read_counts uuid span (bytes ++ more))
counts-goes uuid span m more bytes few =
    Goes-then more m (read_number 8 bytes) (read_number 8 (bytes ++ more)) _ _ (number-within 8 m more bytes few) (λ content_size rest few.
    Goes-then more m (read_number 8 rest) (read_number 8 (rest ++ more)) _ _ (number-within 8 m more rest few) (λ packet_size rest few.
    Goes-then more m (read_number 8 rest) (read_number 8 (rest ++ more)) _ _ (number-within 8 m more rest few) (λ discarded rest few.
    Goes-map more m (read_number 4 rest) (read_number 4 (rest ++ more))
    (λ cpu. record { uuid = uuid; span = span; content_size = content_size; packet_size = packet_size; discarded = discarded; cpu = cpu }) (number-within 4 m more rest few))))

pub front-goes : (timed : Bool) (more bytes : List ℕ) → Goes more (length bytes - 4) (read_front timed bytes) (read_front timed (bytes ++ more))
front-goes timed more bytes =
    let m : ℕ = length bytes - 4 in
    Goes-then more m (read_header bytes) (read_header (bytes ++ more)) _ _ (header-goes m more bytes (omega arith)) (λ uuid rest few.
    Goes-then more m (read_span timed rest) (read_span timed (rest ++ more)) _ _ (span-goes timed m more rest few) (λ span rest few. counts-goes uuid span m more rest few))

-- sizes that agree with a file agree with a longer one
body-goes : (layout : Layout) (more bytes : List ℕ) (front : FrontRead) (rest : List ℕ) → length rest ≤ length bytes - 4
    → Goes more (length bytes - 4) (read_body layout bytes front rest) (read_body layout (bytes ++ more) front (rest ++ more))
unfolding Goes
body-goes layout more bytes front rest short = go (sizes_agree front read (length bytes)) refl
  where
    read : ℕ
    read = length bytes - length rest

    end : ℕ
    end = front.packet_size / 8

    content : ℕ
    content = front.content_size / 8

    read' : ℕ
    read' = length (bytes ++ more) - length (rest ++ more)

    same : read' ≡ read
    same = omega (arith, short, length-append bytes more, length-append rest more)

    there : (o : Option PacketRead) → read ≤ end → end ≤ length bytes
        → Goes more (length bytes - 4) (option_map (λ packet. (packet, drop end bytes)) o) (option_map (λ packet. (packet, drop end (bytes ++ more))) o)
    there None far high = tt
    there (Some packet) far high = (omega (arith, far, short, length-drop end bytes), ap (λ past. Some (packet, past)) (drop-append-le end bytes more high))

    go : (b : Bool) → sizes_agree front read (length bytes) ≡ b
        → Goes more (length bytes - 4) (cond b (option_map (λ packet. (packet, drop end bytes)) (with_events layout front (take (content - read) rest))) None)
        (read_body layout (bytes ++ more) front (rest ++ more))
    go true is =
        let are : Agrees front read (length bytes) = agrees front read (length bytes) is in
        let few : content - read ≤ length rest = omega (arith, are.within, are.high, short) in
        let body : take (content - read') (rest ++ more) ≡ take (content - read) rest =
        ap (λ n. take (content - n) (rest ++ more)) same ∙ take-append-le (content - read) rest more few in
        let holds : sizes_agree front read' (length (bytes ++ more)) ≡ true =
        agree front read' (length (bytes ++ more)) (record {
          content_whole = are.content_whole;
          packet_whole = are.packet_whole;
          low = omega (arith, same, are.low);
          within = are.within;
          high = omega (arith, are.high, length-append bytes more);
        }) in
        let known : read_body layout (bytes ++ more) front (rest ++ more) ≡ option_map (λ packet. (packet, drop end (bytes ++ more))) (with_events layout front (take (content - read) rest)) =
        cond-true (sizes_agree front read' (length (bytes ++ more)))
        (option_map (λ packet. (packet, drop end (bytes ++ more))) (with_events layout front (take (content - read') (rest ++ more)))) None holds
        ∙ ap (λ part. option_map (λ packet. (packet, drop end (bytes ++ more))) (with_events layout front part)) body in
        subst (Goes more (length bytes - 4) (option_map (λ packet. (packet, drop end bytes)) (with_events layout front (take (content - read) rest)))) (sym known)
        (there (with_events layout front (take (content - read) rest)) (omega (arith, are.low, are.within)) are.high)
    go false is = tt

pub packet-goes : (layout : Layout) (more bytes : List ℕ) → Goes more (length bytes - 4) (read_packet layout bytes) (read_packet layout (bytes ++ more))
packet-goes layout more bytes =
    Goes-then more (length bytes - 4) (read_front layout.timed bytes) (read_front layout.timed (bytes ++ more)) (λ front rest. read_body layout bytes front rest)
    (λ front rest. read_body layout (bytes ++ more) front rest) (front-goes layout.timed more bytes) (λ front rest few. body-goes layout more bytes front rest few)

-- two ways of going on that are the same wherever fewer bytes are left give the same
rest-same : {A : Type 0} (n : ℕ) (part other : PartRead A) (f g : List ℕ → Option (List A)) → Goes [] n part other → ((rest : List ℕ) → length rest ≤ n → f rest ≡ g rest)
    → option_and_then (λ p. option_map (λ more. p.0 ∷ more) (f p.1)) part ≡ option_and_then (λ p. option_map (λ more. p.0 ∷ more) (g p.1)) part
unfolding Goes
rest-same n None other f g goes same = refl
rest-same n (Some p) other f g goes same = ap (option_map (λ more. p.0 ∷ more)) (same p.1 goes.0)

-- parts that each take some bytes, one after another, of so many at most
module _ {A : Type 0} (one : List ℕ → PartRead A) (within : ℕ → List ℕ → Option (List A)) (goes : (bytes : List ℕ) → Goes [] (length bytes - 4) (one bytes) (one (bytes ++ [])))
    (none : (most : ℕ) → within most [] ≡ Some [])
    (some : (most b : ℕ) (bytes : List ℕ) → within (suc most) (b ∷ bytes) ≡ option_and_then (λ p. option_map (λ more. p.0 ∷ more) (within most p.1)) (one (b ∷ bytes))) where
  bound : (most more : ℕ) (bytes : List ℕ) → length bytes ≤ most → length bytes ≤ more → within most bytes ≡ within more bytes
  bound most more [] few few' = none most ∙ sym (none more)
  bound zero more (b ∷ bytes) few few' = absurd (omega (arith, few))
  bound (suc most) zero (b ∷ bytes) few few' = absurd (omega (arith, few'))
  bound (suc most) (suc more) (b ∷ bytes) few few' =
      some most b bytes ∙ rest-same (length (b ∷ bytes) - 4) (one (b ∷ bytes)) (one ((b ∷ bytes) ++ [])) (within most) (within more) (goes (b ∷ bytes))
      (λ rest short. bound most more rest (omega (arith, few, short)) (omega (arith, few', short))) ∙ sym (some more b bytes)

  -- so one is read, and then the others
  on : (b : ℕ) (bytes : List ℕ) → within (length (b ∷ bytes)) (b ∷ bytes) ≡ option_and_then (λ p. option_map (λ more. p.0 ∷ more) (within (length p.1) p.1)) (one (b ∷ bytes))
  on b bytes =
      some (length bytes) b bytes ∙ rest-same (length (b ∷ bytes) - 4) (one (b ∷ bytes)) (one ((b ∷ bytes) ++ [])) (within (length bytes)) (λ rest. within (length rest) rest) (goes (b ∷ bytes))
      (λ rest short. bound (length bytes) (length rest) rest (omega (arith, short)) (omega arith))

  -- the same of bytes of which it is known only that there are some
  on-bytes : (bytes : List ℕ) → 0 < length bytes → within (length bytes) bytes ≡ option_and_then (λ p. option_map (λ more. p.0 ∷ more) (within (length p.1) p.1)) (one bytes)
  on-bytes [] some = absurd (omega (arith, some))
  on-bytes (b ∷ bytes) some = on b bytes

none-within : (layout : Layout) (most : ℕ) → read_events_within most layout [] ≡ Some []
none-within layout zero = refl
none-within layout (suc most) = refl

no-packets-within : (layout : Layout) (most : ℕ) → read_packets_within most layout [] ≡ Some []
no-packets-within layout zero = refl
no-packets-within layout (suc most) = refl

module _ (layout : Layout) where
  pub events-bound : (most more : ℕ) (bytes : List ℕ) → length bytes ≤ most → length bytes ≤ more → read_events_within most layout bytes ≡ read_events_within more layout bytes
  events-bound = bound (read_event layout) (λ most. read_events_within most layout) (event-goes layout) (none-within layout) (λ most b bytes. refl)

  pub events-on : (b : ℕ) (bytes : List ℕ)
      → read_events layout (b ∷ bytes) ≡ option_and_then (λ p. option_map (λ events. p.0 ∷ events) (read_events layout p.1)) (read_event layout (b ∷ bytes))
  events-on = on (read_event layout) (λ most. read_events_within most layout) (event-goes layout) (none-within layout) (λ most b bytes. refl)

  pub events-on-bytes : (bytes : List ℕ) → 0 < length bytes
      → read_events layout bytes ≡ option_and_then (λ p. option_map (λ events. p.0 ∷ events) (read_events layout p.1)) (read_event layout bytes)
  events-on-bytes = on-bytes (read_event layout) (λ most. read_events_within most layout) (event-goes layout) (none-within layout) (λ most b bytes. refl)

  pub packets-bound : (most more : ℕ) (bytes : List ℕ) → length bytes ≤ most → length bytes ≤ more → read_packets_within most layout bytes ≡ read_packets_within more layout bytes
  packets-bound = bound (read_packet layout) (λ most. read_packets_within most layout) (packet-goes layout []) (no-packets-within layout) (λ most b bytes. refl)

  pub packets-on : (b : ℕ) (bytes : List ℕ)
      → read_file layout (b ∷ bytes) ≡ option_and_then (λ p. option_map (λ packets. p.0 ∷ packets) (read_file layout p.1)) (read_packet layout (b ∷ bytes))
  packets-on = on (read_packet layout) (λ most. read_packets_within most layout) (packet-goes layout []) (no-packets-within layout) (λ most b bytes. refl)

  pub packets-on-bytes : (bytes : List ℕ) → 0 < length bytes
      → read_file layout bytes ≡ option_and_then (λ p. option_map (λ packets. p.0 ∷ packets) (read_file layout p.1)) (read_packet layout bytes)
  packets-on-bytes = on-bytes (read_packet layout) (λ most. read_packets_within most layout) (packet-goes layout []) (no-packets-within layout) (λ most b bytes. refl)

-- What was written of records is read as their packet.
use Rattle.std.proofs.Common.{◌≡◌, ◌≤◌, ◌<◌, ◌+◌, ◌-◌, ◌*◌, ◌/◌, ◌^◌, ◌++◌, ℕ, Bool, true, false, leb, List, [], length, map, take, drop, replicate, Option, Some, None, option_map, refl, ap, sym}
use Rattle.std.proofs.Common.{◌∙◌, arith, append_assoc, length-append, All}
use Rattle.std.proofs.lemmas.{Bool.le-leb, Bool.cond-true, List.take_at, List.drop_at, List.length-replicate}
use Rattle.dspec_ctf_reading.specs.Words.{Record, little_endian, EnabledRows, events, header_bytes, span_bytes, front_size, context_bytes, front_bytes, packet_around, filled_around, filled_size}
use Rattle.dspec_ctf_reading.specs.Words.{Accepts, Layout, EventRead, PacketRead, FrontRead, PartRead, then_read, read_number, read_bytes, read_this, read_span, read_header, read_counts, read_front}
use Rattle.dspec_ctf_reading.specs.Words.{sizes_agree, read_events, with_events, read_body, read_packet, Naming, event_read, layout_by, packet_read, Four, Eight}
use Rattle.dspec_ctf.proofs.Filling.{front-sized}
use Rattle.dspec_ctf_reading.proofs.{Agreeing.Agrees, Agreeing.agree, EventsRead.HasStamps, EventsRead.events-back, NumbersRead.number-back}

bytes-back : (n : ℕ) (xs rest : List ℕ) → length xs ≡ n → read_bytes n (xs ++ rest) ≡ Some (xs, rest)
bytes-back n xs rest is =
    cond-true (leb n (length (xs ++ rest))) (Some (take n (xs ++ rest), drop n (xs ++ rest))) None (le-leb n (length (xs ++ rest)) (omega (arith, is, length-append xs rest)))
    ∙ (λ i. Some (take_at xs rest n is i, drop_at xs rest n is i))

-- the header
header-back : (uuid rest : List ℕ) → length uuid ≡ 16 → read_header (header_bytes uuid ++ rest) ≡ Some (uuid, rest)
unfolding header_bytes
header-back uuid rest long =
    let go_on : List ℕ → List ℕ → PartRead (List ℕ) = λ read more. option_map (λ p. (read, p.1)) (read_this 4 0 more) in
    ap (λ bytes. then_read (read_bytes 16 bytes) go_on) (append_assoc uuid (little_endian 4 0) rest)
    ∙ ap (λ part. then_read part go_on) (bytes-back 16 uuid (little_endian 4 0 ++ rest) long)

-- the stamps of a packet, where there is a clock
unfoldable pub HasSpan : Bool → Option (ℕ × ℕ) → Type 0
HasSpan false None = Unit
HasSpan false (Some span) = ⊥
HasSpan true None = ⊥
HasSpan true (Some span) = (span.0 < 2 ^ 64) × (span.1 < 2 ^ 64)

span-back : (timed : Bool) (span : Option (ℕ × ℕ)) (rest : List ℕ) → HasSpan timed span → read_span timed (span_bytes span ++ rest) ≡ Some (span, rest)
unfolding HasSpan
span-back false None rest has = refl
span-back false (Some span) rest has = absurd has
span-back true None rest has = absurd has
span-back true (Some span) rest has =
    let go_on : ℕ → List ℕ → PartRead (Option (ℕ × ℕ)) = λ begin more. option_map (λ p. (Some (begin, p.0), p.1)) (read_number 8 more) in
    ap (λ bytes. then_read (read_number 8 bytes) go_on) (append_assoc (little_endian 8 span.0) (little_endian 8 span.1) rest)
    ∙ ap (λ part. then_read part go_on) (number-back Eight span.0 (little_endian 8 span.1 ++ rest) has.0)
    ∙ ap (option_map (λ p. (Some (span.0, p.0), p.1))) (number-back Eight span.1 rest has.1)

-- what its front tells
abbrev front_read : List ℕ → Option (ℕ × ℕ) → ℕ → ℕ → ℕ → ℕ → FrontRead
front_read uuid span content bits missed cpu = record { uuid = uuid; span = span; content_size = content; packet_size = bits; discarded = missed; cpu = cpu }

counts-back : (uuid : List ℕ) (span : Option (ℕ × ℕ)) (content bits missed cpu : ℕ) (rest : List ℕ) → content < 2 ^ 64 → bits < 2 ^ 64 → missed < 2 ^ 64 → cpu < 2 ^ 32
    → read_counts uuid span (context_bytes content bits missed cpu ++ rest) ≡ Some (front_read uuid span content bits missed cpu, rest)
unfolding context_bytes
counts-back uuid span content bits missed cpu rest less low few small =
    let fourth : ℕ → ℕ → ℕ → List ℕ → PartRead FrontRead =
    λ had size gone more.
    option_map (λ p. (record { uuid = uuid; span = span; content_size = had; packet_size = size; discarded = gone; cpu = p.0 }, p.1)) (read_number 4 more) in
    let third : ℕ → ℕ → List ℕ → PartRead FrontRead = λ had size more. then_read (read_number 8 more) (λ gone more. fourth had size gone more) in
    let second : ℕ → List ℕ → PartRead FrontRead = λ had more. then_read (read_number 8 more) (λ size more. third had size more) in
    let d : List ℕ = little_endian 4 cpu in
    let c : List ℕ = little_endian 8 missed in
    let b : List ℕ = little_endian 8 bits in
    let a : List ℕ = little_endian 8 content in
    let split : (a ++ (b ++ (c ++ d))) ++ rest ≡ a ++ (b ++ (c ++ (d ++ rest))) =
    append_assoc a (b ++ (c ++ d)) rest ∙ ap (λ more. a ++ more) (append_assoc b (c ++ d) rest ∙ ap (λ more. b ++ more) (append_assoc c d rest)) in
    ap (λ bytes. then_read (read_number 8 bytes) second) split
    ∙ ap (λ part. then_read part second) (number-back Eight content (b ++ (c ++ (d ++ rest))) less)
    ∙ ap (λ part. then_read part (λ size more. third content size more)) (number-back Eight bits (c ++ (d ++ rest)) low)
    ∙ ap (λ part. then_read part (λ gone more. fourth content bits gone more)) (number-back Eight missed (d ++ rest) few)
    ∙ ap (option_map (λ p. (record { uuid = uuid; span = span; content_size = content; packet_size = bits; discarded = missed; cpu = p.0 }, p.1))) (number-back Four cpu rest small)

front-back : (timed : Bool) (uuid : List ℕ) (span : Option (ℕ × ℕ)) (content size missed cpu : ℕ) (rest : List ℕ) → length uuid ≡ 16 → HasSpan timed span
    → 8 * content < 2 ^ 64 → 8 * size < 2 ^ 64 → missed < 2 ^ 64 → cpu < 2 ^ 32
    → read_front timed (front_bytes uuid span content size missed cpu ++ rest) ≡ Some (front_read uuid span (8 * content) (8 * size) missed cpu, rest)
unfolding front_bytes
front-back timed uuid span content size missed cpu rest long has less low few small =
    let c : List ℕ = context_bytes (8 * content) (8 * size) missed cpu in
    let second : List ℕ → Option (ℕ × ℕ) → List ℕ → PartRead FrontRead = λ id at more. read_counts id at more in
    let first : List ℕ → List ℕ → PartRead FrontRead = λ id more. then_read (read_span timed more) (second id) in
    ap (λ bytes. then_read (read_header bytes) first)
    (append_assoc (header_bytes uuid) (span_bytes span ++ c) rest ∙ ap (λ more. header_bytes uuid ++ more) (append_assoc (span_bytes span) c rest))
    ∙ ap (λ part. then_read part first) (header-back uuid (span_bytes span ++ (c ++ rest)) long)
    ∙ ap (λ part. then_read part (second uuid)) (span-back timed span (c ++ rest) has)
    ∙ counts-back uuid span (8 * content) (8 * size) missed cpu rest less low few small

front-few : (span : Option (ℕ × ℕ)) → front_size span ≤ 68
front-few None = omega arith
front-few (Some span) = omega arith

-- the events after the front, and what fills the packet up
body-back : (layout : Layout) (head body fill rest : List ℕ) (front : FrontRead) (n : ℕ) (es : List EventRead) → n ≡ length head + length body → front.content_size ≡ 8 * n
    → front.packet_size ≡ 8 * (n + length fill) → read_events layout body ≡ Some es
    → read_body layout (head ++ (body ++ (fill ++ rest))) front (body ++ (fill ++ rest))
    ≡ Some (record { uuid = front.uuid; cpu = front.cpu; discarded = front.discarded; span = front.span; events = es }, rest)
body-back layout head body fill rest front n es long content size are =
    let more : List ℕ = fill ++ rest in
    let bytes : List ℕ = head ++ (body ++ more) in
    let read : ℕ = length bytes - length (body ++ more) in
    let end : ℕ = front.packet_size / 8 in
    let last : ℕ = front.content_size / 8 - read in
    let front_is : read ≡ length head = omega (arith, length-append head (body ++ more)) in
    let there : length bytes ≡ n + length fill + length rest =
    omega (arith, long, length-append head (body ++ more), length-append body more, length-append fill rest) in
    let sizes : Agrees front read (length bytes) = record {
      content_whole = omega (arith, content);
      packet_whole = omega (arith, size);
      low = omega (arith, content, front_is, long);
      within = omega (arith, content, size);
      high = omega (arith, size, there);
    } in
    let made : Option PacketRead → PartRead PacketRead = λ o. option_map (λ packet. (packet, drop end bytes)) o in
    let body_is : take last (body ++ more) ≡ body = take_at body more last (omega (arith, content, front_is, long)) in
    let whole : List ℕ = (head ++ body) ++ fill in
    let rest_is : drop end bytes ≡ rest =
    ap (drop end) (sym (append_assoc head body more) ∙ sym (append_assoc (head ++ body) fill rest))
    ∙ drop_at whole rest end (omega (arith, size, long, length-append (head ++ body) fill, length-append head body)) in
    cond-true (sizes_agree front read (length bytes)) (made (with_events layout front (take last (body ++ more)))) None (agree front read (length bytes) sizes)
    ∙ ap (λ part. made (with_events layout front part)) body_is
    ∙ ap (λ o. made (option_map (λ events. record { uuid = front.uuid; cpu = front.cpu; discarded = front.discarded; span = front.span; events = events }) o)) are
    ∙ ap (λ more. Some (record { uuid = front.uuid; cpu = front.cpu; discarded = front.discarded; span = front.span; events = es }, more)) rest_is

module _ (called : Naming) (timed : Bool) (e : EnabledRows) (has : HasStamps timed e.header) where
  -- a packet of so many bytes, of which these fill it up
  around-back : (uuid : List ℕ) (span : Option (ℕ × ℕ)) (size missed cpu : ℕ) (rs : List Record) (fill rest : List ℕ) → length uuid ≡ 16 → HasSpan timed span → missed < 2 ^ 64 → cpu < 2 ^ 32
      → size ≡ front_size span + length (events e rs) + length fill → size < 2 ^ 61 → All (Accepts e) rs
      → read_packet (layout_by called timed e) (front_bytes uuid span (front_size span + length (events e rs)) size missed cpu ++ (events e rs ++ (fill ++ rest)))
      ≡ Some (packet_read called timed e uuid span missed cpu rs, rest)
  around-back uuid span size missed cpu rs fill rest long ends few small sized low of_rs =
      let body : List ℕ = events e rs in
      let content : ℕ = front_size span + length body in
      let head : List ℕ = front_bytes uuid span content size missed cpu in
      let front : FrontRead = front_read uuid span (8 * content) (8 * size) missed cpu in
      let layout : Layout = layout_by called timed e in
      ap (λ part. then_read part (λ told more. read_body layout (head ++ (body ++ (fill ++ rest))) told more))
      (front-back timed uuid span content size missed cpu (body ++ (fill ++ rest)) long ends (omega (arith, sized, low)) (omega (arith, low)) few small)
      ∙ body-back layout head body fill rest front content (map (event_read called timed e) rs) (omega (arith, front-sized uuid span content size missed cpu long)) refl (omega (arith, sized))
      (events-back called timed e has rs of_rs)

  -- one of its own size
  pub packet-back : (uuid : List ℕ) (span : Option (ℕ × ℕ)) (missed cpu : ℕ) (rs : List Record) (rest : List ℕ) → length uuid ≡ 16 → HasSpan timed span → missed < 2 ^ 64 → cpu < 2 ^ 32
      → length (events e rs) < 2 ^ 60 → All (Accepts e) rs
      → read_packet (layout_by called timed e) (packet_around uuid span missed cpu (events e rs) ++ rest) ≡ Some (packet_read called timed e uuid span missed cpu rs, rest)
  packet-back uuid span missed cpu rs rest long ends few small low of_rs =
      let size : ℕ = front_size span + length (events e rs) in
      ap (read_packet (layout_by called timed e)) (append_assoc (front_bytes uuid span size size missed cpu) (events e rs) rest)
      ∙ around-back uuid span size missed cpu rs [] rest long ends few small (omega arith) (omega (arith, low, front-few span)) of_rs

  -- one of 1,024 bytes
  pub filled-back : (uuid : List ℕ) (span : Option (ℕ × ℕ)) (missed cpu : ℕ) (rs : List Record) (rest : List ℕ) → length uuid ≡ 16 → HasSpan timed span → missed < 2 ^ 64 → cpu < 2 ^ 32
      → front_size span + length (events e rs) ≤ filled_size → All (Accepts e) rs
      → read_packet (layout_by called timed e) (filled_around uuid span missed cpu (events e rs) ++ rest) ≡ Some (packet_read called timed e uuid span missed cpu rs, rest)
  unfolding filled_around
  filled-back uuid span missed cpu rs rest long ends few small fits of_rs =
      let body : List ℕ = events e rs in
      let content : ℕ = front_size span + length body in
      let fill : List ℕ = replicate (filled_size - content) 0 in
      let head : List ℕ = front_bytes uuid span content filled_size missed cpu in
      ap (read_packet (layout_by called timed e)) (append_assoc head (body ++ fill) rest ∙ ap (λ more. head ++ more) (append_assoc body fill rest))
      ∙ around-back uuid span filled_size missed cpu rs fill rest long ends few small (omega (arith, fits, length-replicate {A = ℕ} (filled_size - content) 0)) (omega arith) of_rs

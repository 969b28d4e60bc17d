-- Files of packets that were written one after another.
use Rattle.std.proofs.Common.{◌≡◌, ◌≤◌, ◌<◌, ◌+◌, ◌-◌, ◌^◌, ◌++◌, ℕ, zero, suc, Bool, true, false, cond, IsTrue, List, [], ◌∷◌, length, map, replicate, Option, Some, option_map, refl, ap, sym, ◌∙◌}
use Rattle.std.proofs.Common.{arith, All}
use Rattle.std.proofs.lemmas.Bool.{ltb-true, eqb-true, Decides.nat_tests}
use Rattle.std.proofs.lemmas.List.{append-nil, map-append, Elements.All-head, Elements.All-tail, Elements.All-nil, Elements.All-cons}
use Rattle.std.specs.{List.flat_map, Option.option_map_or, Prelude.slice_get, Prelude.option_and_then}
use Rattle.dspec_ctf_reading.specs.Words.{Record, stamp_fits, EnabledRows, events, header_bytes, front_size, front_bytes, packet_around, filled_around, filled_size, Accepts, span_of, Layout}
use Rattle.dspec_ctf_reading.specs.Words.{EventRead, PacketRead, read_packet, read_file, events_of, Naming, layout_by, packet_read, Header}
use Rattle.dspec_record.specs.declared.header.Header.TheVariants as header
use Rattle.dspec_ctf_reading.proofs.{Bounds.packets-on-bytes, EventsRead.HasStamps, Joining.join, PacketsRead.HasSpan, PacketsRead.packet-back, PacketsRead.filled-back}

-- a packet is a file
front-some : (uuid : List ℕ) (span : Option (ℕ × ℕ)) (content size missed cpu : ℕ) (more : List ℕ) → 0 < length (front_bytes uuid span content size missed cpu ++ more)
unfolding front_bytes header_bytes
front-some uuid span content size missed cpu more = omega arith

one-read : (layout : Layout) (bytes : List ℕ) (p : PacketRead) → 0 < length bytes → read_packet layout bytes ≡ Some (p, []) → read_file layout bytes ≡ Some (p ∷ [])
one-read layout bytes p some is =
    packets-on-bytes layout bytes some ∙ ap (λ part. option_and_then (λ q. option_map (λ packets. q.0 ∷ packets) (read_file layout q.1)) part) is

-- packets that are files are one file, one after another
pub flat-read : {A : Type 0} (layout : Layout) (P : A → Type 0) (f : A → List ℕ) (g : A → PacketRead) → ((x : A) → P x → read_file layout (f x) ≡ Some (g x ∷ []))
    → (xs : List A) → All P xs → read_file layout (flat_map f xs) ≡ Some (map g xs)
flat-read layout P f g each [] of_xs = refl
flat-read layout P f g each (x ∷ xs) of_xs =
    join layout (length (f x)) (f x) (flat_map f xs) (g x ∷ []) (map g xs) (omega arith) (each x (All-head P x xs of_xs)) (flat-read layout P f g each xs (All-tail P x xs of_xs))

-- the events of packets that are made of records
pub flat-events : {A : Type 0} (g : A → PacketRead) (h : Record → EventRead) (part : A → List Record) → ((x : A) → (g x).events ≡ map h (part x))
    → (xs : List A) → events_of (map g xs) ≡ map h (flat_map part xs)
flat-events g h part each [] = refl
flat-events g h part each (x ∷ xs) =
    ap (λ front. front ++ events_of (map g xs)) (each x) ∙ ap (λ more. map h (part x) ++ more) (flat-events g h part each xs) ∙ sym (map-append h (part x) (flat_map part xs))

pub All-each : {A B : Type 0} (P : B → Type 0) (g : A → B) → ((x : A) → P (g x)) → (xs : List A) → All P (map g xs)
All-each P g each [] = All-nil P
All-each P g each (x ∷ xs) = All-cons P (g x) (map g xs) (each x) (All-each P g each xs)

pub All-of : {A : Type 0} (P : A → Type 0) → ((x : A) → P x) → (xs : List A) → All P xs
All-of P each [] = All-nil P
All-of P each (x ∷ xs) = All-cons P x xs (each x) (All-of P each xs)

module _ (called : Naming) (timed : Bool) (e : EnabledRows) (has : HasStamps timed e.header) where
  pub packet-read : (uuid : List ℕ) (span : Option (ℕ × ℕ)) (missed cpu : ℕ) (rs : List Record) → length uuid ≡ 16 → HasSpan timed span → missed < 2 ^ 64 → cpu < 2 ^ 32
      → length (events e rs) < 2 ^ 60 → All (Accepts e) rs
      → read_file (layout_by called timed e) (packet_around uuid span missed cpu (events e rs)) ≡ Some (packet_read called timed e uuid span missed cpu rs ∷ [])
  packet-read uuid span missed cpu rs long ends few small low of_rs =
      let bytes : List ℕ = packet_around uuid span missed cpu (events e rs) in
      let size : ℕ = front_size span + length (events e rs) in
      one-read (layout_by called timed e) bytes (packet_read called timed e uuid span missed cpu rs) (front-some uuid span size size missed cpu (events e rs))
      (ap (read_packet (layout_by called timed e)) (sym (append-nil bytes)) ∙ packet-back called timed e has uuid span missed cpu rs [] long ends few small low of_rs)

  pub filled-read : (uuid : List ℕ) (span : Option (ℕ × ℕ)) (missed cpu : ℕ) (rs : List Record) → length uuid ≡ 16 → HasSpan timed span → missed < 2 ^ 64 → cpu < 2 ^ 32
      → front_size span + length (events e rs) ≤ filled_size → All (Accepts e) rs
      → read_file (layout_by called timed e) (filled_around uuid span missed cpu (events e rs)) ≡ Some (packet_read called timed e uuid span missed cpu rs ∷ [])
  unfolding filled_around
  filled-read uuid span missed cpu rs long ends few small fits of_rs =
      let bytes : List ℕ = filled_around uuid span missed cpu (events e rs) in
      let content : ℕ = front_size span + length (events e rs) in
      one-read (layout_by called timed e) bytes (packet_read called timed e uuid span missed cpu rs)
      (front-some uuid span content filled_size missed cpu (events e rs ++ replicate (filled_size - content) 0))
      (ap (read_packet (layout_by called timed e)) (sym (append-nil bytes)) ∙ filled-back called timed e has uuid span missed cpu rs [] long ends few small fits of_rs)

-- what is told in one file, or else nothing
pub told-low : (b : Bool) (missed : ℕ) → missed < 2 ^ 64 → cond b missed 0 < 2 ^ 64
told-low true missed low = low
told-low false missed low = omega arith

-- stamps of accepted records have 64 bits
pub stamp-low : (h : Header) (stamp : ℕ) → IsTrue (stamp_fits h stamp) → stamp < 2 ^ 64
stamp-low header.One stamp fit = omega (arith, eqb-true stamp 0 fit)
stamp-low header.Two stamp fit = ltb-true stamp (2 ^ 64) fit

end-low : (e : EnabledRows) (rs : List Record) (k : ℕ) → All (Accepts e) rs → option_map_or (λ r. r.stamp) (slice_get rs k) 0 < 2 ^ 64
end-low e [] k of_rs = omega arith
end-low e (r ∷ rs) zero of_rs = grind (arith, nat_tests, All-head, stamp-low)
end-low e (r ∷ rs) (suc k) of_rs = end-low e rs k (All-tail (Accepts e) r rs of_rs)

pub span-low : (e : EnabledRows) (rs : List Record) → All (Accepts e) rs → HasSpan true (Some (span_of rs))
unfolding HasSpan
span-low e rs of_rs = (end-low e rs 0 of_rs, end-low e rs _ of_rs)

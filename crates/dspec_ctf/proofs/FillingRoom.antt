-- How many bytes packets of 1,024 bytes want.
use Rattle.std.proofs.Common.{◌≡◌, ◌≤◌, ◌<◌, ◌+◌, ◌-◌, ◌*◌, ◌++◌, ℕ, Bool, true, false, cond, List, [], ◌∷◌, length, replicate, Option, refl, ap, arith, length-append, All}
use Rattle.std.proofs.lemmas.{Bool.leb-false, List.length-replicate, List.Elements.All-head, List.Elements.All-tail}
use Rattle.std.specs.List.{flat_map}
use Rattle.dspec_ctf.specs.Words.{Record, EnabledRows, Accepts, event, events, front_bytes, front_size, filled_around, filled_packet, filled_size, portions_from, span_by, takes_another}
use Rattle.dspec_ctf.proofs.{Filling.either, Filling.events-push, Filling.front-sized, Filling.written_then, OneStream.accepted-small}

-- a packet has 1,024 bytes or more, whatever its events
around-wide : (uuid : List ℕ) (span : Option (ℕ × ℕ)) (missed cpu : ℕ) (body : List ℕ) → length uuid ≡ 16 → filled_size ≤ length (filled_around uuid span missed cpu body)
unfolding filled_around
around-wide uuid span missed cpu body long =
    let n : ℕ = front_size span + length body in
    let zeros : List ℕ = replicate (filled_size - n) 0 in
    let front : List ℕ = front_bytes uuid span n filled_size missed cpu in
    omega (arith, length-append front (body ++ zeros), length-append body zeros, length-replicate {A = ℕ} (filled_size - n) 0, front-sized uuid span n filled_size missed cpu long)

-- a choice has something by what was asked
chosen : {A : Type 0} (P : A → Type 0) (b : Bool) (x y : A) → (b ≡ true → P x) → (b ≡ false → P y) → P (cond b x y)
chosen P true x y of_x of_y = of_x refl
chosen P false x y of_x of_y = of_y refl

-- by time each packet but the last has 881 bytes of events or more
pub portions-few : (e : EnabledRows) (held rs : List Record) → All (Accepts e) rs → 881 * length (portions_from true e held rs) ≤ length (events e held) + length (events e rs) + 881
portions-few e held [] of_rs = omega arith
portions-few e held (r ∷ rs) of_rs =
    let of_r = All-head (Accepts e) r rs of_rs in
    let of_more = All-tail (Accepts e) r rs of_rs in
    let whole = length-append (event e r) (events e rs) in
    chosen (λ ps. 881 * length ps ≤ length (events e held) + length (events e (r ∷ rs)) + 881) (takes_another true e held r)
    (portions_from true e (held ++ r ∷ []) rs) (held ∷ portions_from true e (r ∷ []) rs)
    (λ _. omega (arith, whole, events-push true e held r, portions-few e (held ++ r ∷ []) rs of_more))
    (λ none. omega (
      arith,
      whole,
      leb-false (68 + (length (events e held) + length (event e r))) 1024 none,
      accepted-small e r of_r,
      length-append (event e r) [],
      portions-few e (r ∷ []) rs of_more,
    ))

module _ (timed : Bool) (e : EnabledRows) (uuid : List ℕ) (missed cpu : ℕ) where
  packet-wide : (rs : List Record) → length uuid ≡ 16 → filled_size ≤ length (filled_packet timed e uuid missed cpu rs)
  unfolding filled_packet
  packet-wide rs long = around-wide uuid (span_by timed rs) missed cpu (events e rs) long

  -- one packet at least is still to be written
  one-to-come : (held rs : List Record) → length uuid ≡ 16 → filled_size ≤ length (flat_map (filled_packet timed e uuid missed cpu) (portions_from timed e held rs))
  one-to-come held [] long = omega (arith, length-append (filled_packet timed e uuid missed cpu held) [], packet-wide held long)
  one-to-come held (r ∷ rs) long =
      either (λ ps. filled_size ≤ length (flat_map (filled_packet timed e uuid missed cpu) ps)) (takes_another timed e held r)
      (portions_from timed e (held ++ r ∷ []) rs) (held ∷ portions_from timed e (r ∷ []) rs) (λ _. one-to-come (held ++ r ∷ []) rs long)
      (omega (
        arith,
        length-append (filled_packet timed e uuid missed cpu held) (flat_map (filled_packet timed e uuid missed cpu) (portions_from timed e (r ∷ []) rs)),
        packet-wide held long,
      ))

  -- where there is no room for it, there is none for all that is written in the end
  pub no-room-then : (out front packets : List ℕ) (held rs : List Record) (capacity : ℕ) → length uuid ≡ 16 → written_then timed e uuid missed cpu out held rs ≡ front ++ packets
      → capacity < length out + filled_size → capacity < length front + length packets
  no-room-then out front packets held rs capacity long is full =
      omega (
        arith,
        full,
        ap length is,
        length-append out (flat_map (filled_packet timed e uuid missed cpu) (portions_from timed e held rs)),
        length-append front packets,
        one-to-come held rs long,
      )

use Rattle.std.proofs.Common.{rules, arith, ◌≡◌, ◌<◌, ◌≤◌, ◌+◌, ◌++◌, ◌∙◌, ◌⊎◌, inl, inr, List, ℕ, Bool, true, false, Result, Ok, Err, ap, drop, get_or, length}
use Rattle.std.specs.Prelude.{slice_range, vec_capacity, vec_len, OnErr}
use Rattle.dspec_ctf.specs.Words.{event, filled_packet, filled_packets, filled_size, front_by}
use Rattle.dspec_ctf.proofs.{Filling.IsFilledTo, Filling.filled-anew, Filling.filled-on, FillingRoom.no-room-then}
use Rattle.dspec_ctf.proofs.{filled.put_filled.Goals.then-front-len-gt-PACKET_SIZE+in_ok-put_packet+in_ok-put_event-2, filled.put_filled.Goals.else-front-len-gt-PACKET_SIZE}
use Rattle.dspec_ctf.proofs.filled.put_filled.Goals as goal

pub loop-place-preserved : goal.loop-place-preserved
loop-place-preserved c =
    let s = c.args.stream.now in
    let e = s.enablings.now in
    let recs = c.args.recs.now in
    let l = c.loop-place in
    let one = c.index-recs-place.result in
    let after = c.if-front-len-gt-PACKET_SIZE in
    let whole : List ℕ = c.args.out.now.items ++ filled_packets c.args.timed e s.uuid s.missed s.cpu recs in
    let at : IsFilledTo c.args.timed e s.uuid s.missed s.cpu recs whole l.out.items l.body.items l.from l.place =
    record { after = l.invariant.after; body_is = l.invariant.body; fits = l.invariant.fits; written = l.invariant.written } in
    let more : c.put_event.new.out.items ≡ l.body.items ++ event e (get_or recs l.place one) =
    c.in_ok-put_event.ensures.bytes ∙ ap (λ r. l.body.items ++ event e r) c.index-recs-place.is in
    let next : IsFilledTo c.args.timed e s.uuid s.missed s.cpu recs whole after.out.items after.body.items after.from (l.place + 1) =
    elim after.branch [
      | then-front-len-gt-PACKET_SIZE+in_ok-put_packet+in_ok-put_event-2 w ↦
          let ended : after.out.items ≡ l.out.items ++ filled_packet c.args.timed e s.uuid s.missed s.cpu (slice_range recs l.from l.place) = search rules in
          let alone : after.body.items ≡ event e (get_or recs l.place one) =
          ap (λ b. b.items) w.body-is ∙ w.in_ok-put_event-2.ensures.bytes ∙ ap (λ b. b ++ event e one) w.clear.ensures.items ∙ ap (event e) c.index-recs-place.is in
          filled-anew c.args.timed e s.uuid s.missed s.cpu recs whole l.out.items l.body.items l.from l.place one c.loop-place-test.true at
          after.out.items after.body.items after.from ended alone w.from-is
          (search rules) (search rules)
      | else-front-len-gt-PACKET_SIZE w ↦
          let same : after.out.items ≡ l.out.items = search rules in
          let longer : after.body.items ≡ l.body.items ++ event e (get_or recs l.place one) = search rules in
          filled-on c.args.timed e s.uuid s.missed s.cpu recs whole l.out.items l.body.items l.from l.place one c.loop-place-test.true at
          after.out.items after.body.items after.from same longer w.from-is
          (search rules)
    ] in
    let roomy : vec_capacity c.args.out.now ≤ vec_capacity after.out =
    elim after.branch [
      | then-front-len-gt-PACKET_SIZE+in_ok-put_packet+in_ok-put_event-2 w ↦ grind (arith, w.in_ok-put_packet.ensures.capacity, w.out-is, l.invariant.room)
      | else-front-len-gt-PACKET_SIZE w ↦ grind (arith, w.out-is, l.invariant.room)
    ] in
    let body_roomy : vec_capacity c.args.body.now ≤ vec_capacity after.body =
    elim after.branch [
      | then-front-len-gt-PACKET_SIZE+in_ok-put_packet+in_ok-put_event-2 w ↦
          grind (arith, w.body-is, w.in_ok-put_event-2.ensures.capacity, w.clear.ensures.capacity, c.in_ok-put_event.ensures.capacity, l.invariant.body_room)
      | else-front-len-gt-PACKET_SIZE w ↦ grind (arith, w.body-is, c.in_ok-put_event.ensures.capacity, l.invariant.body_room)
    ] in
    record { after = next.after; body = next.body_is; fits = next.fits; room = roomy; body_room = body_roomy; written = next.written }

-- an error tells what is so
on_err : {A E : Type 0} (r : Result A E) (P : Type 0) → P → OnErr r P
on_err (Ok x) P holds = tt
on_err (Err e) P holds = holds

err_more : {A E : Type 0} (r : Result A E) (P Q : Type 0) → (P → Q) → OnErr r P → OnErr r Q
err_more (Ok x) P Q more on = tt
err_more (Err e) P Q more on = more on

-- what stands before the events has 52 bytes at least
front-least : (timed : Bool) → 52 ≤ front_by timed
front-least true = omega arith
front-least false = omega arith

pub returns-in_err-put_event-clause-full : goal.returns-in_err-put_event-clause-full
returns-in_err-put_event-clause-full c =
    let l = c.loop-place in
    on_err c.from_residual.result _ (inr (omega (arith, c.in_err-put_event.ensures.full, l.invariant.body_room, l.invariant.fits, front-least c.args.timed, l.body.ok)))

pub returns-in_err-put_packet-clause-full : goal.returns-in_err-put_packet-clause-full
returns-in_err-put_packet-clause-full c =
    let s = c.args.stream.now in
    let l = c.loop-place in
    let full : vec_capacity c.args.out.now < length l.out.items + filled_size = omega (arith, c.in_err-put_packet.ensures.full, l.invariant.room, l.out.ok) in
    let long : length s.uuid ≡ 16 = search rules in
    let none = no-room-then c.args.timed s.enablings.now s.uuid s.missed s.cpu l.out.items c.args.out.now.items (filled_packets c.args.timed s.enablings.now s.uuid s.missed s.cpu c.args.recs.now)
    (slice_range c.args.recs.now l.from l.place) (drop l.place c.args.recs.now) (vec_capacity c.args.out.now) long l.invariant.written full in
    on_err c.from_residual-in_err-put_packet.result _ (inl (omega (arith, none, c.args.out.now.ok)))

pub returns-clause-full : goal.returns-clause-full
returns-clause-full c =
    let s = c.args.stream.now in
    let l = c.loop-place in
    let long : length s.uuid ≡ 16 = search rules in
    err_more c.put_packet-2.result (vec_capacity l.out < vec_len l.out + filled_size) _ (λ last.
    let full : vec_capacity c.args.out.now < length l.out.items + filled_size = omega (arith, last, l.invariant.room, l.out.ok) in
    let none = no-room-then c.args.timed s.enablings.now s.uuid s.missed s.cpu l.out.items c.args.out.now.items (filled_packets c.args.timed s.enablings.now s.uuid s.missed s.cpu c.args.recs.now)
    (slice_range c.args.recs.now l.from l.place) (drop l.place c.args.recs.now) (vec_capacity c.args.out.now) long l.invariant.written full in
    inl (omega (arith, none, c.args.out.now.ok))) c.put_packet-2.ensures.full

use Rattle.std.proofs.Common.{◌+◌, ◌<◌, ◌++◌, ◌∙◌, List, [], ◌∷◌, length, map, vec_len, refl, sym, ap, subst, append-nil, arith}
use Rattle.std.specs.Prelude.{option_to_list}
use Rattle.dspec_deeds.proofs.TestLemmas.{numbers_differ, same_number}
use Rattle.dspec_session_core.specs.Words.{CpuSeat, Ended, last_words, known_there, set_up, CpuKnows, rest_with, seat_of, AllParted}
use Rattle.dspec_session_core.proofs.{AllParted.all_seats, AllParted.as_many, AllParted.first_schema, AllParted.is_rest, AllParted.left_more, AllParted.next_of_left, AllParted.none_told}
use Rattle.dspec_session_core.proofs.{AllParted.one_parts, AllParted.rest_lists, AllParted.seats_of_all, AllParted.told_all, Ends.none_in, FirstParted.next_closing, FirstParted.next_few}
use Rattle.dspec_session_core.proofs.{FirstParted.next_has, FirstParted.next_pair, FirstParted.next_words, FirstParted.pushed_is, Partings.are_seats}
use Rattle.dspec_session_core.proofs.parting.part_all.Goals as goal

-- there is no CPU
pub gather-requires-clause-seats : goal.gather-requires-clause-seats
gather-requires-clause-seats g c =
    let s = c.requires.parting in
    are_seats g.S.Schema.shape_of g.S.Schema.accepted g.S.Schema.text s.0 c.args.words s.1 c.args.seats.items c.args.cpus.items c.args.ends.items s.2
    (none_in c.args.cpus.items c.args.cpus.len c.args.cpus.ok.0 (same_number c.args.cpus.len 0 (sym c.is_empty.ensures ∙ c.if-is_empty.true)))

pub returns-then-is_empty-clause-ended : goal.returns-then-is_empty-clause-ended
returns-then-is_empty-clause-ended g c =
    let none = none_in c.args.cpus.items c.args.cpus.len c.args.cpus.ok.0 (same_number c.args.cpus.len 0 (sym c.is_empty.ensures ∙ c.if-is_empty.true)) in
    subst (λ (ss : List CpuSeat). Ended (set_up c.args.words) (last_words c.gather.result) ss (known_there c.args.consumer))
    (sym (ap (λ xs. c.args.seats.items ++ map (λ x. seat_of x) xs) none ∙ append-nil c.args.seats.items)) c.gather.ensures.ended

-- none has parted yet
pub loop-cpus-init : goal.loop-cpus-init
loop-cpus-init g c =
    let none = none_in c.args.parted.items c.args.parted.len c.args.parted.ok.0 c.requires.parted.0 in
    let zero = c.requires.parted.0 in
    record {
      so_far = record {
        done = [];
        split = refl;
        seats_are = sym (append-nil c.args.seats.items);
        parted = subst (λ xs. AllParted g.S.Schema.shape_of g.S.Schema.accepted g.S.Schema.text [] xs) (sym none) tt;
      };
      seats_room = omega arith;
      parted_room = omega arith;
      seats_count = refl;
      parted_count = omega arith;
    }

pub loop-cpus-preserved : goal.loop-cpus-preserved
loop-cpus-preserved g c =
    let was = c.loop-cpus in
    let at = c.part_first-seat in
    let parted = at.ensures.parted in
    let seats = pushed_is c.push.result c.unwrap.result c.push.new.self.items (was.seats.items ++ at.result.0 ∷ []) was.seats.items c.unwrap.ensures c.push.ensures.items in
    let xs = pushed_is c.push-in-loop-cpus.result c.unwrap-in-loop-cpus.result c.push-in-loop-cpus.new.self.items (was.parted.items ++ at.result.1 ∷ []) was.parted.items
    c.unwrap-in-loop-cpus.ensures c.push-in-loop-cpus.ensures.items in
    let one = pushed_is c.push.result c.unwrap.result (vec_len c.push.new.self) (vec_len was.seats + 1) (vec_len was.seats) c.unwrap.ensures c.push.ensures.len in
    let two = pushed_is c.push-in-loop-cpus.result c.unwrap-in-loop-cpus.result (vec_len c.push-in-loop-cpus.new.self) (vec_len was.parted + 1) (vec_len was.parted)
    c.unwrap-in-loop-cpus.ensures c.push-in-loop-cpus.ensures.len in
    let three = at.ensures.len in
    let inv = was.invariant in
    record {
      so_far = one_parts g.S.Schema.shape_of g.S.Schema.accepted g.S.Schema.text c.args.cpus.items was.cpus.items at.new.cpus.items c.args.seats.items was.seats.items c.push.new.self.items
          was.parted.items c.push-in-loop-cpus.new.self.items parted.0 at.result.0 at.result.1 inv.so_far parted.1 parted.2 parted.3 seats xs;
      seats_room = let more = c.push.ensures.capacity in omega (arith, inv);
      parted_room = let more = c.push-in-loop-cpus.ensures.capacity in omega (arith, inv);
      seats_count = omega (arith, inv);
      parted_count = omega (arith, inv);
    }

pub gather-last-requires-clause-seats : goal.gather-last-requires-clause-seats
gather-last-requires-clause-seats g c =
    let s = c.requires.parting in
    let so = c.loop-cpus.invariant.so_far in
    let none = none_in c.loop-cpus.cpus.items c.loop-cpus.cpus.len c.loop-cpus.cpus.ok.0 (same_number c.loop-cpus.cpus.len 0 (sym c.is_empty-in-loop-cpus.ensures ∙ c.loop-cpus-test.false)) in
    all_seats g.S.Schema.shape_of g.S.Schema.accepted g.S.Schema.text s.0 c.args.words s.1 c.args.seats.items c.loop-cpus.seats.items c.args.cpus.items c.args.ends.items s.2
    (seats_of_all g.S.Schema.shape_of g.S.Schema.accepted g.S.Schema.text c.args.cpus.items c.loop-cpus.cpus.items c.args.seats.items c.loop-cpus.seats.items c.loop-cpus.parted.items so none)

pub loop-one-init : goal.loop-one-init
loop-one-init g c =
    let s = c.requires.parting in
    let inv = c.loop-cpus.invariant in
    let zero = same_number c.loop-cpus.cpus.len 0 (sym c.is_empty-in-loop-cpus.ensures ∙ c.loop-cpus-test.false) in
    let none = none_in c.loop-cpus.cpus.items c.loop-cpus.cpus.len c.loop-cpus.cpus.ok.0 zero in
    let room = c.requires.room in
    record {
      so_far = none_told g.S.Schema.shape_of g.S.Schema.accepted g.S.Schema.text (set_up c.args.words) (last_words c.gather-last.result) (length c.args.seats.items) c.args.cpus.items
          c.loop-cpus.cpus.items c.args.ends.items c.args.seats.items c.loop-cpus.seats.items c.loop-cpus.parted.items c.args.left.items s.2.ends_all inv.so_far none;
      room = omega arith;
      count = omega (arith, inv, room);
    }

pub returns-clause-ended : goal.returns-clause-ended
returns-clause-ended g c =
    let zero = same_number c.loop-cpus.cpus.len 0 (sym c.is_empty-in-loop-cpus.ensures ∙ c.loop-cpus-test.false) in
    let none = none_in c.loop-cpus.cpus.items c.loop-cpus.cpus.len c.loop-cpus.cpus.ok.0 zero in
    subst (λ (ss : List CpuSeat). Ended (set_up c.args.words) (last_words c.gather-last.result) ss (known_there c.args.consumer))
    (seats_of_all g.S.Schema.shape_of g.S.Schema.accepted g.S.Schema.text c.args.cpus.items c.loop-cpus.cpus.items c.args.seats.items c.loop-cpus.seats.items c.loop-cpus.parted.items
    c.loop-cpus.invariant.so_far none) c.gather-last.ensures.ended

pub returns-clause-left : goal.returns-clause-left
returns-clause-left g c =
    told_all g.S.Schema.shape_of g.S.Schema.accepted g.S.Schema.text (set_up c.args.words) (last_words c.gather-last.result) (length c.args.seats.items) c.args.cpus.items c.args.ends.items
    c.loop-one.ends.items c.loop-one.parted.items c.loop-one.left.items c.loop-one.invariant.so_far
    (none_in c.loop-one.parted.items c.loop-one.parted.len c.loop-one.parted.ok.0 c.in_default.ensures.cases.0)

-- an end for each that has parted
pub unwrap-other-requires : goal.unwrap-other-requires
unwrap-other-requires g c =
    let so = c.loop-one.invariant.so_far in
    let many = as_many g.S.Schema.shape_of g.S.Schema.accepted g.S.Schema.text so.before c.loop-one.parted.items so.parted in
    let same = so.same in
    let here = c.loop-one.ends.ok.0 in
    let there = c.loop-one.parted.ok.0 in
    let some = c.in-Some.ensures.cases in
    c.pop-in-Some.ensures.variant.1 (omega arith)

pub leave_kept-gone-requires : goal.leave_kept-gone-requires
leave_kept-gone-requires g c =
    let s = c.requires.parting in
    let so = c.loop-one.invariant.so_far in
    let one = c.in-Some.one in
    let other = c.unwrap-other.result in
    let es = c.pop-in-Some.new.self.items in
    let xs = c.pop.new.self.items in
    let pulled = c.pop-in-Some.ensures.items ∙ ap (λ o. es ++ option_to_list o) c.unwrap-other.ensures in
    let next = next_of_left g.S.Schema.shape_of g.S.Schema.accepted g.S.Schema.text s.0 c.args.words s.1 c.args.seats.items c.args.cpus.items c.args.ends.items s.2
    so.before so.after c.loop-one.ends.items so.told xs c.loop-one.parted.items one es other so.split so.split_ends so.same so.parted c.in-Some.ensures.items pulled in
    let old = c.args.seats.items ++ map (λ y. seat_of y) next.before in
    let rest = rest_with c.schema.result.now one.rest in
    let apart = numbers_differ c.args.cpus.len 0 (sym c.is_empty.ensures ∙ c.if-is_empty.false) in
    let some : 0 < length c.args.cpus.items = let ok = c.args.cpus.ok.0 in omega arith in
    let same = c.schema.ensures ∙ (first_schema g.S.Schema.shape_of g.S.Schema.accepted g.S.Schema.text s.0 c.args.words s.1 c.args.seats.items c.args.cpus.items c.args.ends.items
    c.index.result.now s.2 some c.index.ensures ∙ sym (next.parting.each 0 next.cpu refl).0.one) in
    let is = is_rest g.S.Schema.shape_of g.S.Schema.accepted g.S.Schema.text next.cpu one c.schema.result.now same next.has in
    let lists = rest_lists g.S.Schema.shape_of g.S.Schema.accepted g.S.Schema.text next.cpu one c.schema.result.now same next.has in
    let zero = same_number c.loop-cpus.cpus.len 0 (sym c.is_empty-in-loop-cpus.ensures ∙ c.loop-cpus-test.false) in
    let none = none_in c.loop-cpus.cpus.items c.loop-cpus.cpus.len c.loop-cpus.cpus.ok.0 zero in
    let seats = seats_of_all g.S.Schema.shape_of g.S.Schema.accepted g.S.Schema.text c.args.cpus.items c.loop-cpus.cpus.items c.args.seats.items c.loop-cpus.seats.items c.loop-cpus.parted.items
    c.loop-cpus.invariant.so_far none in
    let ended = subst (λ (ss : List CpuSeat). Ended (set_up c.args.words) (last_words c.gather-last.result) ss (known_there c.args.consumer)) (seats ∙ sym next.seats_are)
    c.gather-last.ensures.ended in
    let closing = next_closing g.S.Schema.shape_of g.S.Schema.accepted g.S.Schema.text s.0 c.args.words s.1 old (next.cpu ∷ so.after) (other ∷ so.told) next.parting next.cpu
    so.after other so.told refl refl
    (last_words c.gather-last.result) (known_there c.args.consumer) ended one.end rest is in
    let has = next_has g.S.Schema.shape_of g.S.Schema.accepted g.S.Schema.text s.0 c.args.words s.1 old (next.cpu ∷ so.after) (other ∷ so.told) next.parting next.cpu so.after
    other so.told refl refl in
    record {
      pair = next_pair g.S.Schema.shape_of g.S.Schema.accepted g.S.Schema.text s.0 c.args.words s.1 old (next.cpu ∷ so.after) (other ∷ so.told) next.parting next.cpu so.after other so.told refl refl
          ∙ sym (ap (λ (e : CpuKnows). e.pair) next.has.rest.end_is);
      few = next_few g.S.Schema.shape_of g.S.Schema.accepted g.S.Schema.text s.0 c.args.words s.1 old (next.cpu ∷ so.after) (other ∷ so.told) next.parting next.cpu so.after other so.told refl refl
          one.end rest is;
      words = next_words g.S.Schema.shape_of g.S.Schema.accepted g.S.Schema.text s.0 c.args.words s.1 old (next.cpu ∷ so.after) (other ∷ so.told) next.parting next.cpu so.after other so.told refl refl
          c.gather-last.result one.end rest is c.gather-last.ensures.config;
      some = (s.1 (length old), ended.log, closing.0, lists (s.1 (length old)) has, closing.1);
    }

pub loop-one-preserved : goal.loop-one-preserved
loop-one-preserved g c =
    let s = c.requires.parting in
    let so = c.loop-one.invariant.so_far in
    let one = c.in-Some.one in
    let other = c.unwrap-other.result in
    let es = c.pop-in-Some.new.self.items in
    let xs = c.pop.new.self.items in
    let pulled = c.pop-in-Some.ensures.items ∙ ap (λ o. es ++ option_to_list o) c.unwrap-other.ensures in
    let next = next_of_left g.S.Schema.shape_of g.S.Schema.accepted g.S.Schema.text s.0 c.args.words s.1 c.args.seats.items c.args.cpus.items c.args.ends.items s.2
    so.before so.after c.loop-one.ends.items so.told xs c.loop-one.parted.items one es other so.split so.split_ends so.same so.parted c.in-Some.ensures.items pulled in
    let old = c.args.seats.items ++ map (λ y. seat_of y) next.before in
    let rest = rest_with c.schema.result.now one.rest in
    let apart = numbers_differ c.args.cpus.len 0 (sym c.is_empty.ensures ∙ c.if-is_empty.false) in
    let some : 0 < length c.args.cpus.items = let ok = c.args.cpus.ok.0 in omega arith in
    let same = c.schema.ensures ∙ (first_schema g.S.Schema.shape_of g.S.Schema.accepted g.S.Schema.text s.0 c.args.words s.1 c.args.seats.items c.args.cpus.items c.args.ends.items
    c.index.result.now s.2 some c.index.ensures ∙ sym (next.parting.each 0 next.cpu refl).0.one) in
    let is = is_rest g.S.Schema.shape_of g.S.Schema.accepted g.S.Schema.text next.cpu one c.schema.result.now same next.has in
    let lists = rest_lists g.S.Schema.shape_of g.S.Schema.accepted g.S.Schema.text next.cpu one c.schema.result.now same next.has in
    let left = c.loop-one.left in
    let more = pushed_is c.push-in-Some.result c.unwrap-in-Some.result c.push-in-Some.new.self.items (left.items ++ c.leave_kept-gone.result ∷ []) left.items
    c.unwrap-in-Some.ensures c.push-in-Some.ensures.items in
    let size = pushed_is c.push-in-Some.result c.unwrap-in-Some.result (vec_len c.push-in-Some.new.self) (vec_len left + 1) (vec_len left) c.unwrap-in-Some.ensures c.push-in-Some.ensures.len in
    let less = c.in-Some.ensures.cases in
    let inv = c.loop-one.invariant in
    record {
      so_far = left_more g.S.Schema.shape_of g.S.Schema.accepted g.S.Schema.text s.0 c.args.words s.1 c.args.seats.items c.args.cpus.items c.args.ends.items
          c.loop-one.ends.items es c.loop-one.parted.items xs one other (last_words c.gather-last.result) left.items c.push-in-Some.new.self.items so next rest
          c.leave_kept-gone.result is lists c.leave_kept-gone.ensures more;
      room = let m = c.push-in-Some.ensures.capacity in omega (arith, inv);
      count = omega (arith, inv);
    }

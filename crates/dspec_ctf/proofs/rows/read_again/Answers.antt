use Rattle.std.proofs.Common.{rules, ◌≡◌, ◌<◌, ◌+◌, length, All, refl, sym, subst, arith}
use Rattle.std.specs.{Prelude.Result, Prelude.Ok, Prelude.Err, Prelude.OnErr, Result.IsOk, Vec.vec_capacity, Vec.vec_len}
use Rattle.dspec_ctf.specs.Words.{Accepts}
use Rattle.dspec_ctf.proofs.Texts.{text-accepted, text-few}
use Rattle.dspec_ctf.proofs.rows.read_again.Goals as goal

ok_unless : {A E : Type 0} (r : Result A E) (P : Type 0) → OnErr r P → (P → ⊥) → IsOk r
ok_unless (Ok x) P on none = refl
ok_unless (Err e) P on none = absurd (none on)

pub unwrap-requires : goal.unwrap-requires
unwrap-requires c =
    let few = text-few c.args.enablings.now c.requires.stamped c.args.text.now c.in-Ok.records c.in-Ok.ensures.records in
    ok_unless c.add_records.result (vec_capacity c.clear.new.self < vec_len c.clear.new.self + length c.in-Ok.records) c.add_records.ensures.full
    (λ full. absurd (omega (arith, full, few, c.most_records.ensures, c.in_ok-reserve_in.ensures.room, c.clear.ensures.len, c.clear.ensures.capacity)))

pub returns-clause-accepted : goal.returns-clause-accepted
returns-clause-accepted c =
    let same : c.add_records.new.recs.items ≡ c.in-Ok.records = search rules in
    subst (All (Accepts c.args.enablings.now)) (sym same) (text-accepted c.args.enablings.now c.args.text.now c.in-Ok.records c.in-Ok.ensures.records)

-- The seats of the CPUs, dealt out one by one.
use Rattle.std.proofs.Common.{◌≡◌, ◌⊎◌, ℕ, zero, suc, ◌+◌, ◌-◌, ◌<◌, List, [], ◌∷◌, ◌++◌, length, Some, refl, sym, ap, subst, ⊎_elim, inl, inr, arith}
use Rattle.std.proofs.lemmas.Bool.Decides.{nat_tests}
use Rattle.std.specs.Prelude.{slice_get}
use Rattle.atomic_table.specs.{Seated.TableId, Table.Splits}
use Rattle.dspec_table.specs.Words.{Config, of_cpu, WordsRule, cpus_from, without, dealt, others, first_of_those, known, fresh_seat, dealing, DealtSeats}
use Rattle.dspec_table.specs.declared.{rule.View.View, seats.CpuSeat.CpuSeat}
use Rattle.dspec_table.proofs.Joining.{deals}

more_cpus : (c n : ℕ) → c < n → cpus_from c (n - c) ≡ (of_cpu c, []) ∷ cpus_from (c + 1) (n - (c + 1))
more_cpus = grind (arith, nat_tests)

pub dealt_one : (k : Config) (c : ℕ) → c < k.cpus → dealt (dealing k c) ≡ fresh_seat k c
dealt_one k c lt = ap (λ l. first_of_those k l) (more_cpus c k.cpus lt)

pub dealt_rest : (k : Config) (c : ℕ) → c < k.cpus → without (dealing k c) ≡ dealing k (c + 1)
dealt_rest k c lt = ap (λ l. record (dealing k c) { also = others l }) (more_cpus c k.cpus lt)

pub deals_next : (key k : Config) (id c : ℕ) (v : View) → v ≡ dealing k c → c < k.cpus → Splits (WordsRule key) id v (without v) (dealt v)
deals_next key k id c v is lt = subst (λ (x : View). Splits (WordsRule key) id x (without x) (dealt x)) (sym is)
    (deals key id (dealing k c) c (cpus_from (c + 1) (k.cpus - (c + 1))) refl (more_cpus c k.cpus lt))

pub got_pushed : {A : Type 0} (xs : List A) (x y : A) (c : ℕ) → slice_get (xs ++ x ∷ []) c ≡ Some y → (slice_get xs c ≡ Some y) ⊎ ((c ≡ length xs) × (x ≡ y))
got_pushed [] x y zero e = inr (refl, cc)
got_pushed [] x y (suc c) e = absurd (cc (e))
got_pushed (z ∷ zs) x y zero e = inl e
got_pushed (z ∷ zs) x y (suc c) e = ⊎_elim (λ t. inl t) (λ t. inr (ap suc t.0, t.1)) (got_pushed zs x y c e)

pub dealt_push : (z : TableId) (k : Config) (seats : List CpuSeat) (s : CpuSeat) → DealtSeats z k seats → s.seat.table_id ≡ z → s.cpu ≡ length seats
    → known s ≡ fresh_seat k (length seats) → DealtSeats z k (seats ++ s ∷ [])
dealt_push z k seats s all at cpu view = grind (arith, nat_tests, got_pushed)

-- Calls of one CPU, one after the other.
use Rattle.std.proofs.Common.{◌≡◌, ℕ, ◌+◌, ◌*◌, true, ◌∙◌, ap, refl, subst, arith}
use Rattle.dspec_session.specs.Words.{EnabledRows, offers, CpuIdentity, Called, IsBack, Offers, WorkerServed, Worked, Cpu}

back_again : (x y z : Cpu EnabledRows) → IsBack x y → IsBack y z → IsBack x z
back_again x y z a b = record { same = b.same ∙ a.same; worn = b.worn ∙ a.worn }

offers_more : (m n : ℕ) (x y z : Cpu EnabledRows) → IsBack x y → Offers m x y → Offers n y z → Offers (m + n) x z
offers_more m n x y z back a b p had =
    let (q, has, count) = a p had in
    let (r, now, more) = b q has in
    let number : y.cpu ≡ x.cpu = ap (λ (i : CpuIdentity EnabledRows). i.number) back.same in
    let same : offers x.cpu r ≡ offers x.cpu q + n = subst (λ c. offers c r ≡ offers c q + n) number more in
    (r, now, omega arith)

pub begun : (n : ℕ) (x y : Cpu EnabledRows) → Called n x y → Worked 1 n x y true
begun n x y a = record { back = a.back; called = (let e = a.called in omega arith); offered = λ _. a.offered }

pub one_more : (calls m n : ℕ) (x y z : Cpu EnabledRows) → Worked calls m x y true → Called n y z → Worked (calls + 1) (m + n) x z true
one_more calls m n x y z a b = record {
  back = back_again x y z a.back b.back;
  called = (let most = a.called in let e = b.called in omega arith);
  offered = λ _. offers_more m n x y z a.back (a.offered refl) b.offered;
}

pub and_served : (calls m : ℕ) (x y z : Cpu EnabledRows) → Worked calls m x y true → WorkerServed y z → Worked calls (m + 0) x z true
and_served calls m x y z a b = record {
  back = back_again x y z a.back b.back;
  called = (let most = a.called in let e = b.called in omega arith);
  offered = λ _. offers_more m 0 x y z a.back (a.offered refl) b.offered;
}

-- rounds, and one more
pub none_worked : (x : Cpu EnabledRows) → Worked (4 * 0) (2 * 0) x x true
none_worked x = record {
  back = record { same = refl; worn = refl };
  called = omega arith;
  offered = λ _ p had. (p, had, omega arith);
}

pub round_worked : (n : ℕ) (x y z : Cpu EnabledRows) → Worked (4 * n) (2 * n) x y true → Worked 4 2 y z true → Worked (4 * (n + 1)) (2 * (n + 1)) x z true
round_worked n x y z a b = record {
  back = back_again x y z a.back b.back;
  called = (let most = a.called in let e = b.called in omega arith);
  offered = λ _ p had. let (q, has, count) = offers_more (2 * n) 2 x y z a.back (a.offered refl) (b.offered refl) p had in (q, has, omega arith);
}

-- What a clause on a result says once the result's kind is known.
use Rattle.std.proofs.Common.{◌≡◌, false, true≢false}
use Rattle.std.specs.Prelude.{Result, Ok, Err, OnOk, is_err}

-- what holds on success
pub of_ok : {T E P : Type 0} (r : Result T E) → is_err r ≡ false → OnOk r P → P
of_ok (Ok x) e p = p
of_ok (Err x) e p = absurd (true≢false e)

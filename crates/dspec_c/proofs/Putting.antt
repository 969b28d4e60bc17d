-- The record of words is put that is of the header that the schema has: it was handed over.
use Rattle.std.proofs.Common.{arith, ◌≡◌, ◌%◌, ◌^◌, ℕ, Bool, true, false, List, length, Option, None, Some, is_some, IfSome, IsTrue, option_map, refl, sym, ap, subst}
use Rattle.std.proofs.lemmas.Bool.Decides.{nat_tests}
use Rattle.std.specs.Prelude.{IsSome, if◌then◌else◌}
use Rattle.dspec_c.specs.Words.{Record, EnabledRows, claimed, packed_record, stamp_fits, put_record, schema_of, PutBy, Cpu, Field, Header}

-- the claim is true of the schema, whose records have this header
abbrev pub IsTrueClaim : Header → EnabledRows → ℕ → ℕ → List ℕ → Type 0
IsTrueClaim h e claim stamp ws = (e.header ≡ h) × IsTrue (stamp_fits h stamp) × IsSome (claimed e.rows claim (length ws))

some_of : (b : Bool) (o : Option (List Field)) (f : List Field → Record) (P : Record → Type 0) (r : Record) → IsTrue b → IsSome o → IfSome o (λ fs. r ≡ f fs) → P r
    → (true ≡ is_some (if b then option_map f o else None)) × IfSome (if b then option_map f o else None) P
some_of = grind (arith, nat_tests)

pub put_so : {A P : Type 0} {Does : Record → A → Cpu EnabledRows → Cpu EnabledRows → Type 0} (h : Header) (claim stamp : ℕ) (ws : List ℕ) (e : EnabledRows)
    (made : P → Record) (o : Option P) (p : P) (a : A) (old new : Cpu EnabledRows) → o ≡ Some p → e ≡ schema_of old → (IsSome o → IsTrueClaim h e claim stamp ws)
    → IfSome o (λ q. IfSome (claimed e.rows claim (length ws)) (λ fs. made q ≡ packed_record (claim % 2 ^ 32) stamp fs ws)) → Does (made p) a old new → PutBy Does claim stamp ws (Some a) old new
put_so {Does = Does} h claim stamp ws e made o p a old new found of due holds does =
    let claims = due (ap is_some found) in
    let is = subst (λ x. IfSome x (λ q. IfSome (claimed e.rows claim (length ws)) (λ fs. made q ≡ packed_record (claim % 2 ^ 32) stamp fs ws))) found holds in
    let did = subst (λ (k : EnabledRows). (true ≡ is_some (put_record k claim stamp ws)) × IfSome (put_record k claim stamp ws) (λ q. Does q a old new)) of
    (some_of (stamp_fits e.header stamp) (claimed e.rows claim (length ws)) (λ fs. packed_record (claim % 2 ^ 32) stamp fs ws) (λ q. Does q a old new) (made p)
    (subst (λ k. IsTrue (stamp_fits k stamp)) (sym claims.0) claims.1) claims.2 is does) in
    record { due = did.0; refused = tt; one = did.1 }

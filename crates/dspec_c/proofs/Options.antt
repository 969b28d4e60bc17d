-- Telling options and tests apart.
use Rattle.std.proofs.Common.{◌≡◌, Bool, true, false, Option, Some, None, refl, subst}
use Rattle.std.specs.Prelude.{⊤}
use Rattle.core.specs.Option.{is_some}

abbrev pub unless : Bool → Type 0
unless true = ⊥
unless false = ⊤

abbrev pub if_true : Bool → Type 0
if_true true = ⊤
if_true false = ⊥

abbrev pub if_none : {X : Type 0} → Option X → Type 0
if_none None = ⊤
if_none (Some x) = ⊥

abbrev pub if_some : {X : Type 0} → Option X → Type 0
if_some None = ⊥
if_some (Some x) = ⊤

abbrev pub or_this : {X : Type 0} → X → Option X → X
or_this x None = x
or_this x (Some y) = y

abbrev pub the_none : (X : Type 0) → Option X
the_none X = None

pub none_of : {X : Type 0} (o : Option X) → is_some o ≡ false → o ≡ None
none_of None e = refl
none_of (Some x) e = absurd (subst (λ (t : Bool). if_true t) e tt)

-- What is read off a CPU's own deeds.
use Rattle.std.proofs.Common.{◌≡◌, ℕ, suc, true, false, not, ◌&&◌, ◌||◌, List, [], ◌∷◌, Option, arith, sym, ap, ◌∙◌, subst, ⊎_elim}
use Rattle.std.proofs.lemmas.Bool.Decides.{nat_tests}
use Rattle.dspec_deeds.specs.Words.{Speculation, same_actor, author, part, contents, held, Piece, block, piece_fits, is_fill, is_seal, is_empty, fits_principal, ReadsApart, ReadsAlike, bare, Shape}
use Rattle.dspec_deeds.specs.declared.{calls.Actor.TheVariants.Cpu, config.Config.Config, deed.Deed.Deed, deed.Deed.TheVariants.Seal}
use Rattle.dspec_deeds.proofs.{BareReads.seal_is, DeedReads.alike_on, DeedReads.apart_on, DeedReads.counts_nowhere, DeedReads.nothing_apart, StayingOwn.scan_other, StayingOwn.offers_other}
use Rattle.dspec_deeds.proofs.{StayingOwn.calls_other, StayingOwn.accepted_other, StayingOwn.seals_other, StayingOwn.active_other, StayingOwn.growing_other, StayingOwn.batches_other}
use Rattle.dspec_deeds.proofs.{StayingOwn.full_other, StayingOwn.missed_other, TestLemmas.either_way, TestLemmas.other_number}

-- another's deed leaves what is read off the CPU's own
pub apart_other : (k : Config) (c : ℕ) (d : Deed) (h : List Deed) → same_actor (Cpu c) (author d h) ≡ false → ReadsApart k c (d ∷ h) h
apart_other k c d h other =
    grind (
      arith,
      nat_tests,
      scan_other k c d h other,
      offers_other c d h other,
      calls_other c d h other,
      accepted_other c d h other,
      full_other c d h other,
      missed_other c d h other,
      counts_nowhere k c d h other,
    )

pub alike_other : (k : Config) (c : ℕ) (d : Deed) (h : List Deed) → same_actor (Cpu c) (author d h) ≡ false → ReadsAlike k c (d ∷ h) h
alike_other k c d h other = grind (arith, nat_tests, apart_other k c d h other, seals_other c d h other, active_other c d h other, growing_other c d h other, batches_other c d h other)

-- a Seal leaves what is read off the CPU's own, Seals apart: none of it looks at whose Seal it is
pub apart_seal : (k : Config) (c a : ℕ) (h : List Deed) → ReadsApart k c (Seal a ∷ h) h
apart_seal k c a h =
    let r = apart_other k c (Seal (suc c)) h (other_number c (suc c) (omega arith)) in
    record {
      scanning = r.scanning;
      offering = r.offering;
      calling = r.calling;
      buffers = r.buffers;
      dropping = r.dropping;
      taking = r.taking;
      closing = r.closing;
      called = r.called;
      settling = r.settling;
      acks = r.acks;
      marking = r.marking;
      missing = r.missing;
      spoken = r.spoken;
      reporting = r.reporting;
    }

-- lists that read alike, the other way round and one after another
pub apart_back : (k : Config) (c : ℕ) (g h : List Deed) → ReadsApart k c g h → ReadsApart k c h g
apart_back k c g h e = record {
  scanning = sym e.scanning;
  offering = sym e.offering;
  calling = sym e.calling;
  buffers = λ id. sym (e.buffers id);
  dropping = λ id. sym (e.dropping id);
  taking = sym e.taking;
  closing = sym e.closing;
  called = λ id. sym (e.called id);
  settling = λ id. sym (e.settling id);
  acks = λ s. sym (e.acks s);
  marking = λ s. sym (e.marking s);
  missing = sym e.missing;
  spoken = sym e.spoken;
  reporting = λ worn. sym (e.reporting worn);
}

pub alike_back : (k : Config) (c : ℕ) (g h : List Deed) → ReadsAlike k c g h → ReadsAlike k c h g
alike_back k c g h e = grind (arith, nat_tests, apart_back)

pub apart_through : (k : Config) (c : ℕ) (f g h : List Deed) → ReadsApart k c f g → ReadsApart k c g h → ReadsApart k c f h
apart_through k c f g h to on = record {
  scanning = to.scanning ∙ on.scanning;
  offering = to.offering ∙ on.offering;
  calling = to.calling ∙ on.calling;
  buffers = λ id. to.buffers id ∙ on.buffers id;
  dropping = λ id. to.dropping id ∙ on.dropping id;
  taking = to.taking ∙ on.taking;
  closing = to.closing ∙ on.closing;
  called = λ id. to.called id ∙ on.called id;
  settling = λ id. to.settling id ∙ on.settling id;
  acks = λ s. to.acks s ∙ on.acks s;
  marking = λ s. to.marking s ∙ on.marking s;
  missing = to.missing ∙ on.missing;
  spoken = to.spoken ∙ on.spoken;
  reporting = λ worn. to.reporting worn ∙ on.reporting worn;
}

pub alike_through : (k : Config) (c : ℕ) (f g h : List Deed) → ReadsAlike k c f g → ReadsAlike k c g h → ReadsAlike k c f h
alike_through k c f g h to on = grind (arith, nat_tests, apart_through)

-- the list of all and the CPU's own list read alike
pub reads : (k : Config) (c : ℕ) (h : List Deed) → ReadsAlike k c (part (Cpu c) h) h
reads k c [] = grind (arith, nat_tests)
reads k c (d ∷ h) = ⊎_elim
    (λ (t : same_actor (Cpu c) (author d h) ≡ true). rw t (alike_on k c d (part (Cpu c) h) h (reads k c h)))
    (λ (f : same_actor (Cpu c) (author d h) ≡ false). rw f (alike_through k c (part (Cpu c) h) h (d ∷ h) (reads k c h) (alike_back k c (d ∷ h) h (alike_other k c d h f))))
    (either_way (same_actor (Cpu c) (author d h)))

-- what fits the principal buffer fits it alike
pub fits_alike : (shape : ℕ → Option Shape) (k : Config) (c : ℕ) (p : Piece) (g h : List Deed) → ReadsAlike k c g h → fits_principal shape k c p g ≡ fits_principal shape k c p h
fits_alike shape k c p g h e = λ i. piece_fits shape (e.principal i) p k.bufsize && (is_empty p || not (is_fill k.policy && e.apart.closing i))

-- and so does the buffer of a speculation
pub block_alike : (shape : ℕ → Option Shape) (k : Config) (c : ℕ) (id : Speculation) (g h : List Deed) → ReadsAlike k c g h
    → fits_principal shape k c (block (contents (held c id g))) g ≡ fits_principal shape k c (block (contents (held c id h))) h
block_alike shape k c id g h e = ap (λ os. fits_principal shape k c (block (contents os)) g) (e.apart.buffers id) ∙ fits_alike shape k c (block (contents (held c id h))) g h e

-- a list and the list without its Seals read alike, Seals apart
pub apart_bare : (k : Config) (c : ℕ) (h : List Deed) → ReadsApart k c h (bare h)
apart_bare k c [] = nothing_apart k c
apart_bare k c (d ∷ h) = ⊎_elim
    (λ (t : is_seal d ≡ true).
    let s = seal_is d t in
    rw t (apart_through k c (d ∷ h) h (bare h) (subst (λ x. ReadsApart k c (x ∷ h) h) (sym s.1) (apart_seal k c s.0 h)) (apart_bare k c h)))
    (λ (f : is_seal d ≡ false). rw f (apart_on k c d h (bare h) (apart_bare k c h)))
    (either_way (is_seal d))

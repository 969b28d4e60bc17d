-- Whether a record that has a shape fits.
use Rattle.std.proofs.{Common.◌≡◌, Common.◌⊎◌, Common.ℕ, Common.List, Common.[], Common.Option, Common.Some, Common.refl, Common.sym, Common.ap, Common.arith, lemmas.Bool.Decides.nat_tests}
use Rattle.std.specs.Prelude.{nat_le}
use Rattle.dspec_cpu_state.specs.Words.{Record, Piece, reserved, one, piece_fits, extent, Shape}
use Rattle.dspec_deeds.proofs.TestLemmas.{same_number}

module _ (shape : ℕ → Option Shape) (r : Record) (h : Shape) (n : ℕ) (is : shape r.epid ≡ Some h) where
  -- after these pieces
  pub after_fits : (ps : List Piece) → nat_le (reserved (extent shape ps) h.align h.size) n ≡ piece_fits shape ps (one r) n
  after_fits ps = rw is refl

  -- at the front nothing is rounded up
  at_front : (h.align ≡ 4) ⊎ (h.align ≡ 8) → reserved 0 h.align h.size ≡ h.size
  at_front which = grind (arith, nat_tests, same_number)

  pub front_fits : (h.align ≡ 4) ⊎ (h.align ≡ 8) → nat_le h.size n ≡ piece_fits shape [] (one r) n
  front_fits which = rw is (ap (λ m. nat_le m n) (sym (at_front which)))

-- What sizes that agree say.
use Rattle.std.proofs.Common.{arith, ◌≡◌, ◌≤◌, ◌/◌, ◌%◌, ℕ, true}
use Rattle.std.proofs.lemmas.Bool.{leb-true, le-leb, and_from, and_parts, eqb-true, eq-eqb, Decides.nat_tests}
use Rattle.dspec_ctf_reading.specs.Words.{FrontRead, sizes_agree}

pub record Agrees (front : FrontRead) (read there : ℕ) : Type 0 where
  pub content_whole : front.content_size % 8 ≡ 0
  pub packet_whole : front.packet_size % 8 ≡ 0
  pub low : read ≤ front.content_size / 8
  pub within : front.content_size ≤ front.packet_size
  pub high : front.packet_size / 8 ≤ there

module _ (front : FrontRead) (read there : ℕ) where
  pub agrees : sizes_agree front read there ≡ true → Agrees front read there
  agrees is = grind (arith, nat_tests, and_parts, eqb-true, leb-true)

  pub agree : Agrees front read there → sizes_agree front read there ≡ true
  agree are = grind (arith, nat_tests, and_from, eq-eqb, le-leb)

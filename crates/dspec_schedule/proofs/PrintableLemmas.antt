-- Printable bytes are text.
use Rattle.std.proofs.Common.{◌≡◌, ℕ, ◌<◌, true, List, get_or, arith}
use Rattle.std.proofs.lemmas.{Bool.Decides.nat_tests, List.Sums.AllPass-from_list_all, Str.IsUtf8-from_ascii, Str.Ascii.IsAscii-from_all}
use Rattle.std.specs.{List.list_all, Str.IsUtf8}
use Rattle.dspec_schedule.specs.Words.{is_printable}

below_ascii : (byte : ℕ) → is_printable byte ≡ true → byte < 128
below_ascii byte e = grind (arith, nat_tests)

pub IsUtf8-printable : (bytes : List ℕ) → list_all is_printable bytes ≡ true → IsUtf8 bytes
IsUtf8-printable bytes printable =
    IsUtf8-from_ascii bytes (IsAscii-from_all bytes (λ k d below. below_ascii (get_or bytes k d) (AllPass-from_list_all is_printable bytes printable k d below)))

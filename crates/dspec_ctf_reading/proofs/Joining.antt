-- What a file has isn't changed by what is written after it.
use Rattle.std.proofs.Common.{◌≡◌, ◌≤◌, ◌-◌, ◌++◌, ℕ, zero, suc, List, [], ◌∷◌, length, Option, Some, None, option_map, refl, ap, sym, ◌∙◌, arith}
use Rattle.std.specs.Prelude.{option_and_then}
use Rattle.dspec_ctf_reading.specs.Words.{Layout, PacketRead, PartRead, read_packet, read_file}
use Rattle.dspec_ctf_reading.proofs.Bounds.{Goes, packet-goes, packets-on}

-- of a list that is read from two parts, and of none that is read from none
pub some-parts : {A : Type 0} (x : A) (o : Option (List A)) (ys : List A) → option_map (λ more. x ∷ more) o ≡ Some ys → (rest : List A) × ((o ≡ Some rest) × (x ∷ rest ≡ ys))
some-parts x None ys is = absurd (cc)
some-parts x (Some rest) ys is = let same : x ∷ rest ≡ ys = cc in (rest, (refl, same))

none-read : (ps : List PacketRead) → Some [] ≡ Some ps → [] ≡ ps
none-read ps is = cc

pub join : (layout : Layout) (most : ℕ) (a b : List ℕ) (ps qs : List PacketRead) → length a ≤ most
    → read_file layout a ≡ Some ps → read_file layout b ≡ Some qs → read_file layout (a ++ b) ≡ Some (ps ++ qs)
unfolding Goes
join layout most [] b ps qs few first second = second ∙ ap (λ front. Some (front ++ qs)) (none-read ps first)
join layout zero (x ∷ a) b ps qs few first second = absurd (omega (arith, few))
join layout (suc most) (x ∷ a) b ps qs few first second =
    go (read_packet layout (x ∷ a)) (packet-goes layout b (x ∷ a)) (sym (packets-on layout x a) ∙ first)
    (λ rest others short are. join layout most rest b others qs short are second)
  where
    go_on : PartRead PacketRead → Option (List PacketRead)
    go_on part = option_and_then (λ p. option_map (λ packets. p.0 ∷ packets) (read_file layout p.1)) part

    go : (part : PartRead PacketRead) → Goes b (length (x ∷ a) - 4) part (read_packet layout (x ∷ (a ++ b))) → go_on part ≡ Some ps
        → ((rest : List ℕ) (others : List PacketRead) → length rest ≤ most → read_file layout rest ≡ Some others → read_file layout (rest ++ b) ≡ Some (others ++ qs))
        → read_file layout (x ∷ (a ++ b)) ≡ Some (ps ++ qs)
    go None goes is later = absurd (cc)
    go (Some p) goes is later =
        let parts = some-parts p.0 (read_file layout p.1) ps is in
        packets-on layout x (a ++ b)
        ∙ ap go_on goes.1
        ∙ ap (option_map (λ packets. p.0 ∷ packets)) (later p.1 parts.0 (omega (arith, few, goes.0)) parts.1.0)
        ∙ ap (λ front. Some (front ++ qs)) parts.1.1

-- Loops that read one part after another.
use Rattle.std.proofs.Common.{◌≡◌, ◌<◌, ◌+◌, ◌-◌, ◌==◌, ℕ, zero, suc, false, List, [], ◌∷◌, ◌++◌, map, length, Option, Some, None, option_map, refl, ap, sym, ◌∙◌, arith, append_assoc}
use Rattle.std.proofs.lemmas.{Bool.Decides.nat_tests, List.map-append, List.append-nil}
use Rattle.std.specs.Prelude.{option_and_then}
use Rattle.dspec_ctf_reading.specs.Words.{PartRead, then_read, EventLayout, rest_past, past_or, read_event_text, read_event_texts}

-- what is read on, after what was found before
abbrev pub found_before : {A : Type 0} → List A → PartRead (List A) → PartRead (List A)
found_before before part = option_map (λ p. (before ++ p.0, p.1)) part

pub none-before : {A : Type 0} (part : PartRead (List A)) → part ≡ found_before [] part
none-before None = refl
none-before (Some p) = refl

pub one-more : {A : Type 0} (before : List A) (x : A) (part : PartRead (List A)) → found_before before (option_map (λ p. (x ∷ p.0, p.1)) part) ≡ found_before (before ++ x ∷ []) part
one-more before x None = refl
one-more before x (Some p) = ap (λ xs. Some (xs, p.1)) (sym (append_assoc before (x ∷ []) p.0))

-- all that is read in one go, after what was found before
pub one-after : {X A : Type 0} (f : X → A) (found : List X) (x : X) (part : Option (List A)) → option_map (λ more. map f found ++ more) (option_map (λ more. f x ∷ more) part)
    ≡ option_map (λ more. map f (found ++ x ∷ []) ++ more) part
one-after f found x None = refl
one-after f found x (Some more) = ap Some (sym (append_assoc (map f found) (f x ∷ []) more) ∙ ap (λ xs. xs ++ more) (sym (map-append f found (x ∷ []))))

-- parts up to a text that ends them, of so many at most
module _ {X A : Type 0} (f : X → A) (end : List ℕ) (one : List ℕ → PartRead A) (many : ℕ → List ℕ → PartRead (List A))
    (some : (m : ℕ) (bytes : List ℕ) → many (suc m) bytes
    ≡ past_or (rest_past end bytes) (λ rest. Some ([], rest)) (then_read (one bytes) (λ x rest. option_map (λ p. (x ∷ p.0, p.1)) (many m rest)))) where
  less : (n i : ℕ) → i < n → n - i ≡ suc (n - (i + 1))
  less n i below = omega (arith, below)

  opened : (n i : ℕ) (rest : List ℕ) → i < n → many (n - i) rest
      ≡ past_or (rest_past end rest) (λ rest. Some ([], rest)) (then_read (one rest) (λ x rest. option_map (λ p. (x ∷ p.0, p.1)) (many (n - (i + 1)) rest)))
  opened n i rest below = ap (λ m. many m rest) (less n i below) ∙ some (n - (i + 1)) rest

  pub many-on : (n i : ℕ) (found grown : List X) (x : X) (whole : PartRead (List A)) (rest next : List ℕ) → i < n → whole ≡ found_before (map f found) (many (n - i) rest)
      → rest_past end rest ≡ None → one rest ≡ Some (f x, next) → grown ≡ found ++ x ∷ [] → whole ≡ found_before (map f grown) (many (n - (i + 1)) next)
  many-on n i found grown x whole rest next below is no_end is_one longer = grind (arith, nat_tests, opened, one-more, map-append)

  pub many-end : (n i : ℕ) (found : List X) (whole : PartRead (List A)) (rest after : List ℕ) → i < n → whole ≡ found_before (map f found) (many (n - i) rest)
      → rest_past end rest ≡ Some after → whole ≡ Some (map f found, after)
  many-end n i found whole rest after below is ends = grind (arith, nat_tests, opened, append-nil)

  pub many-stop : (n i : ℕ) (found : List X) (whole : PartRead (List A)) (rest : List ℕ) → i < n → whole ≡ found_before (map f found) (many (n - i) rest)
      → rest_past end rest ≡ None → one rest ≡ None → whole ≡ None
  many-stop n i found whole rest below is no_end no_one = grind (arith, nat_tests, opened)

some-more : {A : Type 0} (before xs : List A) (part : PartRead (List A)) → found_before before (option_map (λ p. (xs ++ p.0, p.1)) part) ≡ found_before (before ++ xs) part
some-more before xs None = refl
some-more before xs (Some p) = ap (λ ys. Some (ys, p.1)) (sym (append_assoc before xs p.0))

-- the same of parts that tell several each
module _ {X A : Type 0} (f : X → A) (end : List ℕ) (one : List ℕ → PartRead (List A)) (many : ℕ → List ℕ → PartRead (List A))
    (some : (m : ℕ) (bytes : List ℕ) → many (suc m) bytes
    ≡ past_or (rest_past end bytes) (λ rest. Some ([], rest)) (then_read (one bytes) (λ xs rest. option_map (λ p. (xs ++ p.0, p.1)) (many m rest)))) where
  begun : (n i : ℕ) (rest : List ℕ) → i < n → many (n - i) rest
      ≡ past_or (rest_past end rest) (λ rest. Some ([], rest)) (then_read (one rest) (λ xs rest. option_map (λ p. (xs ++ p.0, p.1)) (many (n - (i + 1)) rest)))
  begun n i rest below = let fewer : n - i ≡ suc (n - (i + 1)) = omega (arith, below) in ap (λ m. many m rest) fewer ∙ some (n - (i + 1)) rest

  pub lines-on : (n i : ℕ) (found grown more : List X) (whole : PartRead (List A)) (rest next : List ℕ) → i < n → whole ≡ found_before (map f found) (many (n - i) rest)
      → rest_past end rest ≡ None → one rest ≡ Some (map f more, next) → grown ≡ found ++ more → whole ≡ found_before (map f grown) (many (n - (i + 1)) next)
  lines-on n i found grown more whole rest next below is no_end is_one longer = grind (arith, nat_tests, begun, some-more, map-append)

  pub lines-end : (n i : ℕ) (found : List X) (whole : PartRead (List A)) (rest after : List ℕ) → i < n → whole ≡ found_before (map f found) (many (n - i) rest)
      → rest_past end rest ≡ Some after → whole ≡ Some (map f found, after)
  lines-end n i found whole rest after below is ends = grind (arith, nat_tests, begun, append-nil)

  pub lines-stop : (n i : ℕ) (found : List X) (whole : PartRead (List A)) (rest : List ℕ) → i < n → whole ≡ found_before (map f found) (many (n - i) rest)
      → rest_past end rest ≡ None → one rest ≡ None → whole ≡ None
  lines-stop n i found whole rest below is no_end no_one = grind (arith, nat_tests, begun)

-- events up to the end of the text
module _ {X : Type 0} (f : X → EventLayout) where
  texts-open : (n i : ℕ) (rest : List ℕ) → i < n → 0 < length rest
      → read_event_texts (n - i) rest ≡ option_and_then (λ p. option_map (λ events. p.0 ∷ events) (read_event_texts (n - (i + 1)) p.1)) (read_event_text rest)
  texts-open n i [] below some = absurd (omega (arith, some))
  texts-open n i (b ∷ bytes) below some = let m : n - i ≡ suc (n - (i + 1)) = omega (arith, below) in ap (λ m. read_event_texts m (b ∷ bytes)) m

  pub texts-on : (n i : ℕ) (found grown : List X) (x : X) (whole : Option (List EventLayout)) (rest next : List ℕ) → i < n → 0 < length rest
      → whole ≡ option_map (λ events. map f found ++ events) (read_event_texts (n - i) rest) → read_event_text rest ≡ Some (f x, next) → grown ≡ found ++ x ∷ []
      → whole ≡ option_map (λ events. map f grown ++ events) (read_event_texts (n - (i + 1)) next)
  texts-on n i found grown x whole rest next below some is is_one longer = grind (arith, nat_tests, texts-open n i rest below some, one-after f found x (read_event_texts (n - (i + 1)) next))

  pub texts-end : (n : ℕ) (found : List X) (whole : Option (List EventLayout)) (rest : List ℕ) → length rest ≡ 0
      → whole ≡ option_map (λ events. map f found ++ events) (read_event_texts n rest) → whole ≡ Some (map f found)
  texts-end = grind (arith, nat_tests, append-nil)

  pub texts-stop : (n i : ℕ) (found : List X) (whole : Option (List EventLayout)) (rest : List ℕ) → i < n → 0 < length rest
      → whole ≡ option_map (λ events. map f found ++ events) (read_event_texts (n - i) rest) → read_event_text rest ≡ None → whole ≡ None
  texts-stop n i found whole rest below some is no_one = grind (arith, nat_tests, texts-open)

  pub texts-none : (n : ℕ) (found : List X) (whole : Option (List EventLayout)) (rest : List ℕ) → 0 < length rest
      → whole ≡ option_map (λ events. map f found ++ events) (read_event_texts (n - n) rest) → whole ≡ None
  texts-none = grind (arith, nat_tests)

-- what a test says that a list isn't empty
pub some-left : (n : ℕ) → (n == 0) ≡ false → 0 < n
some-left zero other = absurd (cc)
some-left (suc n) other = omega arith

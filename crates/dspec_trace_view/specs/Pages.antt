-- Cited by calls. What a page may have between its scripts.
use Rattle.std.specs.{List.flat_map, Prelude.◌==◌, Prelude.◌||◌, Prelude.Bool, Prelude.ℕ, Prelude.List, Prelude.[], Prelude.◌∷◌, Prelude.if◌then◌else◌, Prelude.codes}

-- whether a byte begins or ends markup: `<`, `>` or `&`
abbrev pub is_markup : ℕ → Bool
is_markup byte = byte == 60 || (byte == 62 || byte == 38)

-- a byte as it may be in a page: one of markup as the escape that JSON has for it, any other as it is
abbrev pub escape_of : ℕ → List ℕ
escape_of byte = if byte == 60 then codes "\\u003c" else (if byte == 62 then codes "\\u003e" else (if byte == 38 then codes "\\u0026" else byte ∷ []))

-- a text of JSON as it may be in a page: each of its bytes in turn
abbrev pub escapes_of : List ℕ → List ℕ
escapes_of json = flat_map escape_of json

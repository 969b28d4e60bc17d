-- What stands before the events of a metadata text is read.
use Rattle.std.proofs.Common.{◌≡◌, ◌≤◌, ◌<◌, ◌+◌, ◌/◌, ◌%◌, ◌^◌, ◌++◌, ℕ, Bool, true, false, cond, ltb, List, [], ◌∷◌, length, map, take, drop, Option, Some, None, option_map, refl, ap, ◌∙◌, arith}
use Rattle.std.proofs.Common.{append_assoc, length-append, All}
use Rattle.std.proofs.lemmas.Bool.{and_from, le-leb, ne_eqb, or_from, not_from_false, ltb-true, ltb-false}
use Rattle.std.proofs.lemmas.List.{Elements.All-head, Elements.All-tail, Elements.All-take, Elements.All-drop, Folds.list_all-append}
use Rattle.std.specs.{Fmt.digit_glyph, List.flat_map, List.list_all, List.range_with_len, Option.option_map_or, Prelude.option_and_then, Prelude.unwrap_or, Prelude.codes, Prelude.decimal}
use Rattle.dspec_ctf_reading.specs.Words.{EnabledRows, hex, hyphened, uuid_text, types_text, trace_front, trace_back, process_text, environment_text, clock_uuid, seconds_text, ticks_text}
use Rattle.dspec_ctf_reading.specs.Words.{clock_start, start_text, clock_back, clock_text, stream_text, event_text, origin_text, EventLayout, Layout, rest_past, past, then_rest, with_part, is_digit}
use Rattle.dspec_ctf_reading.specs.Words.{is_quoted, read_decimal, read_quoted, read_event_texts, header_lines, read_process, read_clock_uuid, read_clock_start, read_clock, read_streams}
use Rattle.dspec_ctf_reading.specs.Words.{read_metadata, event_layout, is_timed, names_by, layout_of, ticks_of, HasNumbers, Process, ClockStart, Origin, Form, AsTaken, ByTime, Names}
use Rattle.dspec_ctf_reading.proofs.{FieldTypes.IsQuotable, Scanning.read-run-back, Scanning.decimal-back, Texts.IsTold, Texts.texts-back}

-- digits of base 16 can stand in quotes
glyph-test : (d : ℕ) (low : Bool) → ltb d 10 ≡ low → d < 16 → is_quoted (cond low (48 + d) (87 + d)) ≡ true
unfolding is_quoted
glyph-test d true is below =
    let few : d < 10 = ltb-true d 10 is in
    and_from _ _ (and_from _ _ (le-leb 32 (48 + d) (omega arith)) (le-leb (48 + d) 126 (omega (arith, few))))
    (not_from_false _ (or_from _ _ (ne_eqb (48 + d) 34 (λ same. omega (arith, same))) (ne_eqb (48 + d) 92 (λ same. omega (arith, same, few)))))
glyph-test d false is below =
    let many : 10 ≤ d = ltb-false d 10 is in
    and_from _ _ (and_from _ _ (le-leb 32 (87 + d) (omega arith)) (le-leb (87 + d) 126 (omega (arith, below))))
    (not_from_false _ (or_from _ _ (ne_eqb (87 + d) 34 (λ same. omega (arith, same))) (ne_eqb (87 + d) 92 (λ same. omega (arith, same, many)))))

hex-quoted : (bytes : List ℕ) → All (λ b. b < 256) bytes → list_all is_quoted (hex bytes) ≡ true
unfolding hex
hex-quoted [] of_bytes = refl
hex-quoted (b ∷ bytes) of_bytes =
    let low : b < 256 = All-head (λ b. b < 256) b bytes of_bytes in
    and_from (is_quoted (digit_glyph false (b / 16))) _ (glyph-test (b / 16) (ltb (b / 16) 10) refl (omega (arith, low)))
    (and_from (is_quoted (digit_glyph false (b % 16))) _ (glyph-test (b % 16) (ltb (b % 16) 10) refl (omega arith)) (hex-quoted bytes (All-tail (λ b. b < 256) b bytes of_bytes)))

both-quoted : (xs ys : List ℕ) → list_all is_quoted xs ≡ true → list_all is_quoted ys ≡ true → list_all is_quoted (xs ++ ys) ≡ true
both-quoted xs ys of_xs of_ys = list_all-append is_quoted xs ys ∙ and_from (list_all is_quoted xs) (list_all is_quoted ys) of_xs of_ys

hyphened-quoted : (bytes : List ℕ) → All (λ b. b < 256) bytes → list_all is_quoted (hyphened bytes) ≡ true
unfolding hyphened is_quoted
hyphened-quoted bytes of_bytes = both-quoted (codes "-") (hex bytes) refl (hex-quoted bytes of_bytes)

part-of : (n k : ℕ) (u : List ℕ) → All (λ b. b < 256) u → All (λ b. b < 256) (take n (drop k u))
part-of n k u of_u = All-take (λ b. b < 256) n (drop k u) (All-drop (λ b. b < 256) k u of_u)

uuid-quoted : (u : List ℕ) → All (λ b. b < 256) u → IsQuotable (uuid_text u)
unfolding uuid_text IsQuotable hyphened
uuid-quoted u of_u =
    let a : List ℕ = hex (take 4 u) in
    let b : List ℕ = hyphened (take 2 (drop 4 u)) in
    let c : List ℕ = hyphened (take 2 (drop 6 u)) in
    let d : List ℕ = hyphened (take 2 (drop 8 u)) in
    let f : List ℕ = hyphened (take 6 (drop 10 u)) in
    let some : 1 ≤ length f = omega arith in (
      both-quoted (a ++ b ++ c ++ d) f (both-quoted (a ++ b ++ c) d (both-quoted (a ++ b) c (both-quoted a b (hex-quoted (take 4 u) (All-take (λ b. b < 256) 4 u of_u))
          (hyphened-quoted (take 2 (drop 4 u)) (part-of 2 4 u of_u))) (hyphened-quoted (take 2 (drop 6 u)) (part-of 2 6 u of_u))) (hyphened-quoted (take 2 (drop 8 u)) (part-of 2 8 u of_u)))
          (hyphened-quoted (take 6 (drop 10 u)) (part-of 6 10 u of_u)),
      omega (arith, some, length-append (a ++ b ++ c ++ d) f),
    )

-- the process
unfoldable pub IsShown : Option Process → Type 0
IsShown None = Unit
IsShown (Some p) = IsQuotable p.host.now × (IsQuotable p.name.now × (p.pid < 2 ^ 64))

nine : (a b c d f g h k l x : List ℕ) → ((a ++ b ++ c) ++ (d ++ f ++ g) ++ (h ++ k ++ l)) ++ x ≡ a ++ (b ++ (c ++ (d ++ (f ++ (g ++ (h ++ (k ++ (l ++ x))))))))
nine a b c d f g h k l x = simp append_assoc

process-back : (p : Process) (rest : List ℕ) → IsQuotable p.host.now → IsQuotable p.name.now → p.pid < 2 ^ 64 → read_process (process_text p ++ rest) ≡ Some rest
unfolding process_text IsQuotable is_quoted is_digit
process-back p rest host name low =
    let tail : List ℕ = codes ";\n" ++ rest in
    let after_name : List ℕ = codes "\";\n" ++ (codes "\tvpid = " ++ (decimal p.pid ++ tail)) in
    let after_host : List ℕ = codes "\";\n" ++ (codes "\tprocname = \"" ++ (p.name.now ++ after_name)) in
    let third : List ℕ → Option (List ℕ) = λ more. past (codes "\";\n\tvpid = ") more (λ more. then_rest (read_decimal more) (rest_past (codes ";\n"))) in
    let second : List ℕ → Option (List ℕ) = λ more. past (codes "\";\n\tprocname = \"") more (λ more. then_rest (read_quoted more) third) in
    ap read_process (nine (codes "\thostname = \"") p.host.now (codes "\";\n") (codes "\tprocname = \"") p.name.now (codes "\";\n") (codes "\tvpid = ") (decimal p.pid) (codes ";\n") rest)
    ∙ ap (λ part. then_rest part second) (read-run-back is_quoted p.host.now after_host host.0 host.1 refl)
    ∙ ap (λ part. then_rest part third) (read-run-back is_quoted p.name.now after_name name.0 name.1 refl)
    ∙ ap (λ part. then_rest part (rest_past (codes ";\n"))) (decimal-back p.pid tail low refl)

-- the environment, up to what tells who wrote this
environment-back : (process : Option Process) (rest : List ℕ) → IsShown process → read_process (environment_text process ++ rest) ≡ Some (codes "\ttracer_name = \"sidingyarrow\";\n};\n" ++ rest)
unfolding IsShown
environment-back None rest shown = refl
environment-back (Some p) rest shown =
    ap read_process (append_assoc (process_text p) (codes "\ttracer_name = \"sidingyarrow\";\n};\n") rest)
    ∙ process-back p (codes "\ttracer_name = \"sidingyarrow\";\n};\n" ++ rest) shown.0 shown.1.0 shown.1.1

-- the clock's uuid
three : (a b c x : List ℕ) → (a ++ b ++ c) ++ x ≡ a ++ (b ++ (c ++ x))
three a b c x = simp append_assoc

clock-uuid-back : (o : Option (List ℕ)) (seconds : ℕ) (rest : List ℕ) → All (λ b. b < 256) (unwrap_or o [])
    → read_clock_uuid (option_map_or clock_uuid o [] ++ (seconds_text seconds ++ rest)) ≡ Some (seconds_text seconds ++ rest)
unfolding is_quoted IsQuotable
clock-uuid-back None seconds rest of_u = refl
clock-uuid-back (Some u) seconds rest of_u =
    let tail : List ℕ = codes "\";\n" ++ (seconds_text seconds ++ rest) in
    let fit = uuid-quoted u of_u in
    ap read_clock_uuid (three (codes "\tuuid = \"") (uuid_text u) (codes "\";\n") (seconds_text seconds ++ rest))
    ∙ ap (λ part. then_rest part (rest_past (codes "\";\n"))) (read-run-back is_quoted (uuid_text u) tail fit.0 fit.1 refl)

six : (a b c d f g x : List ℕ) → (a ++ b ++ c) ++ ((d ++ f ++ g) ++ x) ≡ a ++ (b ++ (c ++ (d ++ (f ++ (g ++ x)))))
six a b c d f g x = simp append_assoc

clock-start-back : (seconds ticks : ℕ) (rest : List ℕ) → seconds < 2 ^ 64 → ticks < 2 ^ 64 → read_clock_start (seconds_text seconds ++ (ticks_text ticks ++ rest)) ≡ Some rest
unfolding is_digit
clock-start-back seconds ticks rest low few =
    let end : List ℕ = codes ";\n\tabsolute = true;\n" ++ rest in
    let tail : List ℕ = codes ";\n" ++ (codes "\toffset = " ++ (decimal ticks ++ end)) in
    let second : List ℕ → Option (List ℕ) = λ more. past (codes ";\n\toffset = ") more (λ more. then_rest (read_decimal more) (rest_past (codes ";\n\tabsolute = true;\n"))) in
    ap read_clock_start (six (codes "\toffset_s = ") (decimal seconds) (codes ";\n") (codes "\toffset = ") (decimal ticks) (codes ";\n\tabsolute = true;\n") rest)
    ∙ ap (λ part. then_rest part second) (decimal-back seconds tail low refl)
    ∙ ap (λ part. then_rest part (rest_past (codes ";\n\tabsolute = true;\n"))) (decimal-back ticks end few refl)

-- where the clock began, up to its end
abbrev start_end : List ℕ → Option (Bool × List ℕ)
start_end rest = past (codes "};\n\ntypealias integer { size = 64; align = 8; signed = false; map = clock.stamp.value; } := stamp_t;\n") rest (λ rest. Some (true, rest))

start-back : (start : Option ClockStart) (rest : List ℕ) → All (λ b. b < 256) (option_map_or (λ s. unwrap_or s.clock []) start [])
    → option_map_or (λ s. s.seconds) start 0 < 2 ^ 64 → option_map_or (λ s. s.ticks) start 0 < 2 ^ 64
    → option_and_then (λ more. option_and_then start_end (read_clock_start more)) (read_clock_uuid (start_text start ++ (clock_back ++ rest))) ≡ Some (true, rest)
unfolding clock_back clock_start
start-back None rest of_u low few = refl
start-back (Some s) rest of_u low few =
    let uuid : List ℕ = option_map_or clock_uuid s.clock [] in
    let tail : List ℕ = clock_back ++ rest in
    ap (λ bytes. option_and_then (λ more. option_and_then start_end (read_clock_start more)) (read_clock_uuid bytes))
    (append_assoc (uuid ++ seconds_text s.seconds) (ticks_text s.ticks) tail ∙ append_assoc uuid (seconds_text s.seconds) (ticks_text s.ticks ++ tail))
    ∙ ap (option_and_then (λ more. option_and_then start_end (read_clock_start more))) (clock-uuid-back s.clock s.seconds (ticks_text s.ticks ++ tail) of_u)
    ∙ ap (option_and_then start_end) (clock-start-back s.seconds s.ticks tail low few)

five : (a b c d f x : List ℕ) → ((a ++ b ++ c) ++ d ++ f) ++ x ≡ a ++ (b ++ (c ++ (d ++ (f ++ x))))
five a b c d f x = simp append_assoc

clock-back : (start : Option ClockStart) (form : Form) (rest : List ℕ) → ticks_of form < 2 ^ 64 → All (λ b. b < 256) (option_map_or (λ s. unwrap_or s.clock []) start [])
    → option_map_or (λ s. s.seconds) start 0 < 2 ^ 64 → option_map_or (λ s. s.ticks) start 0 < 2 ^ 64
    → read_clock (clock_text start form ++ (stream_text form ++ rest)) ≡ Some (is_timed form, stream_text form ++ rest)
unfolding is_digit
clock-back start AsTaken rest ticking of_u low few = refl
clock-back start (ByTime frequency) rest ticking of_u low few =
    let more : List ℕ = stream_text (ByTime frequency) ++ rest in
    let tail : List ℕ = start_text start ++ (clock_back ++ more) in
    let second : List ℕ → Option (Bool × List ℕ) =
    λ bytes. past (codes ";\n") bytes (λ bytes. option_and_then (λ bytes. option_and_then start_end (read_clock_start bytes)) (read_clock_uuid bytes)) in
    ap read_clock (five (codes "\nclock {\n\tname = stamp;\n\tfreq = ") (decimal frequency) (codes ";\n") (start_text start) clock_back more)
    ∙ ap (λ part. then_rest part second) (decimal-back frequency (codes ";\n" ++ tail) ticking refl)
    ∙ start-back start more of_u low few

-- the streams, and the events after them
streams-back : (form : Form) (events : List ℕ) (shapes : List EventLayout) → read_event_texts (length events) events ≡ Some shapes
    → read_streams (is_timed form) (stream_text form ++ events) ≡ Some (record { timed = is_timed form; events = shapes })
streams-back AsTaken events shapes is = ap (option_map (λ more. record { timed = false; events = more })) is
streams-back (ByTime frequency) events shapes is = ap (option_map (λ more. record { timed = true; events = more })) is

-- the whole text
whole : (t a u b p c s x : List ℕ) → t ++ (a ++ u ++ b) ++ p ++ c ++ s ++ x ≡ t ++ (a ++ (u ++ (b ++ (p ++ (c ++ (s ++ x))))))
whole t a u b p c s x = simp append_assoc

pub origin-back : (origin : Origin) (form : Form) (e : EnabledRows) (names : Names) → HasNumbers origin form e names → IsShown origin.process
    → ((place : ℕ) → place < length e.rows → IsTold e names place) → read_metadata (origin_text origin form e names) ≡ Some (layout_of e names form)
unfolding origin_text types_text trace_front trace_back IsQuotable is_quoted
origin-back origin form e names numbers shown told =
    let events : List ℕ = flat_map (event_text form e names) (range_with_len 0 (length e.rows)) in
    let streams : List ℕ = stream_text form ++ events in
    let clock : List ℕ = clock_text origin.start form ++ streams in
    let env : List ℕ = environment_text origin.process ++ clock in
    let fit = uuid-quoted origin.uuid numbers.uuid in
    let third : List ℕ → Option Layout = λ more. past (codes "\ttracer_name = \"sidingyarrow\";\n};\n") more (λ more. with_part (read_clock more) read_streams) in
    let second : List ℕ → Option Layout = λ more. past header_lines more (λ more. option_and_then third (read_process more)) in
    ap read_metadata (whole types_text trace_front (uuid_text origin.uuid) trace_back (environment_text origin.process) (clock_text origin.start form) (stream_text form) events)
    ∙ ap (λ part. then_rest part second) (read-run-back is_quoted (uuid_text origin.uuid) (trace_back ++ env) fit.0 fit.1 refl)
    ∙ ap (option_and_then third) (environment-back origin.process clock shown)
    ∙ ap (λ part. with_part part read_streams) (clock-back origin.start form events numbers.frequency numbers.clock numbers.seconds numbers.ticks)
    ∙ streams-back form events (map (event_layout (names_by names) (is_timed form) e) (range_with_len 1 (length e.rows))) (texts-back form e names (length e.rows) told)

-- Cited by calls. The requests that the generator makes up: their numbers, and which of them fail.
use Rattle.std.specs.Prelude.{ℕ, ◌+◌, ◌*◌, ◌/◌, ◌%◌, ◌^◌, ◌==◌, Bool, bit_xor}

-- the bits of a number spread, as SplitMix64 does it
abbrev pub mixed : ℕ → ℕ → ℕ → ℕ
mixed number by times = (bit_xor number (number / 2 ^ by) * times) % 2 ^ 64

abbrev pub spread_bits : ℕ → ℕ
spread_bits number =
    let last = mixed (mixed ((number + 0x9e37_79b9_7f4a_7c15) % 2 ^ 64) 30 0xbf58_476d_1ce4_e5b9) 27 0x94d0_49bb_1331_11eb in
    bit_xor last (last / 2 ^ 31)

-- worker W handles the requests W, W + 4, W + 8, ..
abbrev pub request_number : ℕ → ℕ → ℕ
request_number worker round = ((round * 4) % 2 ^ 64 + worker) % 2 ^ 64

-- the request of that number fails: the seed decides, of about one in 32
abbrev pub fails_with : ℕ → ℕ → Bool
fails_with seed number = spread_bits ((spread_bits seed + number) % 2 ^ 64) % 32 == 0

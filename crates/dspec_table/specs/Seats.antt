-- Believed. Seats at the words.
use Rattle.std.specs.Prelude.{ℕ, ◌≡◌, ◌-◌, List, [], slice_get, Some, None}
use Rattle.atomic_table.specs.Seated.{TableId}
use Rattle.dspec_table.specs.{Holders.of_cpu, Holders.of_consumer, Rule.cpus_from, Words.Outside.Config, declared.rule.View.View, declared.seats.ConsumerSeat.ConsumerSeat}
use Rattle.dspec_table.specs.{declared.seats.CpuSeat.CpuSeat, declared.seats.Words.Words}

-- what the words were started with
abbrev pub set_up : Words → Config
set_up words = words.config

-- the CPU's number
abbrev pub cpu_of : CpuSeat → ℕ
cpu_of s = s.cpu

-- what a CPU's seat knows
abbrev pub known : CpuSeat → View
known s = s.seat.me.0

-- the seat is one of these words'
abbrev pub IsAt : Words → CpuSeat → Type 0
IsAt words s = (s.seat.table_id ≡ words.board.shared.table_id) × ((known s).config ≡ words.config)

-- what the consumer's seat knows
abbrev pub known_there : ConsumerSeat → View
known_there s = s.seat.me.0

abbrev pub IsConsumerAt : Words → ConsumerSeat → Type 0
IsConsumerAt words s = (s.seat.table_id ≡ words.board.shared.table_id) × ((known_there s).config ≡ words.config)

-- a CPU's seat before its first step, and the consumer's when the CPUs' are dealt out
abbrev pub fresh_seat : Config → ℕ → View
fresh_seat k c = record { config = k; who = of_cpu c; own = []; also = []; seen = []; told = []; flight = None; steps = 0; touched = []; asks = []; past = [] }

abbrev pub dealing : Config → ℕ → View
dealing k c = record { config = k; who = of_consumer; own = []; also = cpus_from c (k.cpus - c); seen = []; told = []; flight = None; steps = 0; touched = []; asks = []; past = [] }

abbrev pub last_seat : Config → View
last_seat k = record { config = k; who = of_consumer; own = []; also = []; seen = []; told = []; flight = None; steps = 0; touched = []; asks = []; past = [] }

abbrev pub DealtSeats : TableId → Config → List CpuSeat → Type 0
DealtSeats z k seats = (c : ℕ) (s : CpuSeat) → slice_get seats c ≡ Some s → (s.seat.table_id ≡ z) × (s.cpu ≡ c) × (known s ≡ fresh_seat k c)

-- the seats of the CPUs, in order, each at the words, with an empty list
abbrev pub FreshSeats : Words → List CpuSeat → Type 0
FreshSeats words seats = DealtSeats words.board.shared.table_id words.config seats

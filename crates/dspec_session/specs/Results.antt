-- Cited by calls. What a run of the demonstration leaves, and tells.
use Rattle.std.specs.Prelude.{ℕ, zero, suc, ◌≡◌, true, List, length, slice_get, Some}
use Rattle.dspec_session.specs.{Demonstrated.CpuRounds, Demonstrated.demonstrated, Races.HaveOffered, Races.IsDemonstrated, Rising.FollowsLeft, Visits.ConsumerRounds, Visits.none_taken}
use Rattle.dspec_session.specs.{Words.Outside.EnabledRows, Words.Outside.enabled, Words.Outside.table_shape, Words.Outside.table_accepts, Words.Outside.table_text, Words.Outside.set_up}
use Rattle.dspec_session.specs.{Words.Outside.words_of, Words.Outside.IsClosedBy, Words.Outside.Consuming, Words.Outside.view_of, Words.Outside.Has, Words.Outside.HasAt, Words.Outside.IsFresh}
use Rattle.dspec_session.specs.{Words.Outside.taken_at, Words.Outside.worn_at, Words.Outside.Stopped, Words.Outside.Cpu, Words.Outside.Left, Words.Outside.Session}
use Rattle.dspec_session.specs.{declared.demonstration.four.Four.Four, declared.demonstration.lines.DemoLine.DemoLine, declared.demonstration.order.Order.Order}
use Rattle.dspec_session.specs.{declared.demonstration.showing.Demonstration.Demonstration}

-- the consumer made a thousand rounds, in which it followed what it took, and then stopped the session
pub record ConsumerDone (orders : Four Order) (consumer : Consuming) : Type 0 where
  pub first : Consuming
  pub last : Consuming
  pub rounds : ConsumerRounds demonstrated first none_taken 1000 last orders
  pub stopped : Stopped last consumer

-- All four CPUs finished: each came by a hundred rounds of one that nobody had called.
pub record IsDone (d : Demonstration) : Type 0 where
  pub session : IsDemonstrated d.session
  pub four : length d.session.cpus.items ≡ 4
  pub offered : HaveOffered 200 d.session.cpus.items
  pub rounds : (c : ℕ) (cpu : Cpu EnabledRows) → slice_get d.session.cpus.items c ≡ Some cpu
      → (old : Cpu EnabledRows) × IsFresh Has old × CpuRounds old 100 cpu
  pub consumer : ConsumerDone d.orders d.session.consumer
  pub schema : d.schema ≡ demonstrated

-- this is what is left of the session
abbrev pub IsEndOf : Session EnabledRows → List Left → Type 0
IsEndOf session lefts =
    IsClosedBy (table_shape demonstrated.header (enabled demonstrated.rows)) (table_accepts demonstrated.header (enabled demonstrated.rows))
    (table_text demonstrated.header (enabled demonstrated.rows))
    (set_up (words_of session.shared)) (HasAt Has session.cpus.items) (worn_at session.cpus.items) (taken_at session.consumer) (view_of session.consumer).own lefts

-- the order of what was taken of the CPU
abbrev pub order_at : Four Order → ℕ → Order
order_at orders zero = orders.first
order_at orders (suc zero) = orders.second
order_at orders (suc (suc zero)) = orders.third
order_at orders (suc (suc (suc c))) = orders.fourth

-- a line tells whether that order goes on in what is left of its CPU
abbrev pub LineFollows : EnabledRows → List Left → ℕ → Order → DemoLine → Type 0
LineFollows s lefts c o line = (l : Left) → slice_get lefts c ≡ Some l
    → FollowsLeft (table_shape s.header (enabled s.rows)) (table_accepts s.header (enabled s.rows)) (table_text s.header (enabled s.rows)) l o line.ordered

-- so do the lines of a session that was finished
abbrev pub AllFollow : EnabledRows → Session EnabledRows → Four Order → List DemoLine → Type 0
AllFollow s session orders lines =
    (lefts : List Left) × IsEndOf session lefts
    × ((c : ℕ) (line : DemoLine) → slice_get lines c ≡ Some line → LineFollows s lefts c (order_at orders c) line)

-- these are the lines of a demonstration that was done
abbrev pub AreLinesOf : List DemoLine → Type 0
AreLinesOf lines = (d : Demonstration) × IsDone d × AllFollow demonstrated d.session d.orders lines

use Rattle.std.proofs.Common.{◌≡◌, ◌⊎◌, ℕ, Some}
use Rattle.std.specs.Prelude.{slice_get}
use Rattle.dspec_table.specs.{Words.known, Words.AllAt, Words.In, Words.past_of, declared.seats.CpuSeat.CpuSeat}
use Rattle.dspec_table.proofs.gathering.collect.Given as goal

abbrev pub invariant-loop-next : goal.invariant-loop-next
invariant-loop-next l = record {
  gatherer : (l.gatherer.table_id ≡ l.board.shared.table_id) × (l.gatherer.me.0.who ≡ l.fn.gatherer.me.0.who) × (l.gatherer.me.0.own ≡ l.fn.gatherer.me.0.own);
  knows : (l.gatherer.me.0.seen ≡ l.fn.gatherer.me.0.seen) × (l.gatherer.me.0.asks ≡ l.fn.gatherer.me.0.asks);
  seats : AllAt l.board.shared.table_id l.seats.items;
  joined : (c : ℕ) (s : CpuSeat) → slice_get l.fn.seats.items c ≡ Some s → (slice_get l.seats.items c ≡ Some s) ⊎ In ((known s).who, (known s).own) l.gatherer.me.0.also;
  recalled : (c : ℕ) (s : CpuSeat) → slice_get l.fn.seats.items c ≡ Some s → (slice_get l.seats.items c ≡ Some s) ⊎ In (past_of (known s)) l.gatherer.me.0.past;
}

abbrev pub decreases-loop-next : goal.decreases-loop-next
decreases-loop-next l = goal.left-loop-next l

use Rattle.std.proofs.Common.{◌≡◌, length, []}
use Rattle.dspec_table.specs.Words.{dealing, DealtSeats}
use Rattle.dspec_table.proofs.starting.deal.Given as goal

abbrev pub invariant-loop-cpu : goal.invariant-loop-cpu
invariant-loop-cpu l = record {
  dealer : (l.dealer.table_id ≡ l.fn.dealer.table_id) × (l.dealer.me ≡ (dealing l.fn.config l.cpu, []));
  count : length l.seats.items ≡ l.cpu;
  dealt : DealtSeats l.fn.dealer.table_id l.fn.config l.seats.items;
}

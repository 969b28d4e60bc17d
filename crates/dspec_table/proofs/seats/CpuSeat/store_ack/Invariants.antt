use Rattle.dspec_table.proofs.seats.CpuSeat.store_ack.Given as goal

abbrev pub ghosts-store_ack_as : goal.ghosts-store_ack_as
ghosts-store_ack_as a = record { doing = a.doing.now }

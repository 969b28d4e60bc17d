-- What is read off a CPU's own list is the same off the list of all.
use Rattle.std.proofs.Common.{◌≡◌, ℕ, List}
use Rattle.dspec_table.specs.Words.{Speculation, scan, is_among, callers, ack, part, Config, Cpu, Deed}
use Rattle.dspec_deeds.proofs.OwnReads.{reads}

pub scan_part : (k : Config) (c : ℕ) (h : List Deed) → scan k c (part (Cpu c) h) ≡ scan k c h
scan_part k c h = (reads k c h).apart.scanning

pub has_part : (k : Config) (c : ℕ) (id : Speculation) (h : List Deed) → is_among c (callers id (part (Cpu c) h)) ≡ is_among c (callers id h)
has_part k c id h = (reads k c h).apart.called id

pub ack_part : (k : Config) (c s : ℕ) (h : List Deed) → ack c s (part (Cpu c) h) ≡ ack c s h
ack_part k c s h = (reads k c h).apart.acks s

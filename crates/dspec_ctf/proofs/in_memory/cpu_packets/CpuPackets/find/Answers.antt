use Rattle.std.proofs.Common.{rules}
use Rattle.dspec_ctf.proofs.in_memory.cpu_packets.CpuPackets.find.Goals as goal

pub returns-in-Some-clause-found : goal.returns-in-Some-clause-found
returns-in-Some-clause-found c = record {
  told = search rules;
  lasts = c.args.self.now.lasts;
  is_run = search rules;
  within = search rules;
  is = search rules;
}

pub returns-in-Some-2-clause-found : goal.returns-in-Some-2-clause-found
returns-in-Some-2-clause-found c = record {
  told = search rules;
  lasts = c.next_run.new.self;
  is_run = search rules;
  within = search rules;
  is = search rules;
}

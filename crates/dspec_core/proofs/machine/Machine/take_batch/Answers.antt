-- The records of the batch sealed last are added to what was taken.
use Rattle.std.proofs.Common.{◌≡◌, ◌+◌, ◌∙◌, ◌++◌, List, length, reverse, refl, sym, ap, subst}
use Rattle.dspec_core.specs.Words.{Record, Sealing, contents, seals, taken, ConsumerMakes, history, state_of, batch_at, changes, batch_of_last_seal, Answer, CpuProgress}
use Rattle.dspec_deeds.specs.declared.calls.Answer.TheVariants as answer
use Rattle.dspec_interleaving.specs.declared.flight.Spare.TheVariants as spare
use Rattle.dspec_core.proofs.{CleanMakings.puts_stops, KeptCpus.taking, MachineReads.cpu_read, MachineReads.length_contents, Makings.progress_is, Makings.puts_shown, Makings.state_puts}
use Rattle.dspec_core.proofs.{OwnDeeds.unmoved, TakenBatches.next_batch, TakenBatches.taken_more}
use Rattle.dspec_core.proofs.machine.Machine.take_batch.Goals as goal

pub returns-in_err-append_records-clause-refused : goal.returns-in_err-append_records-clause-refused
returns-in_err-append_records-clause-refused g c =
    unmoved c.from_residual.result c.args.self.now c.args.cpu c.index_mut-own.ensures.value refl (λ i. record c.index_mut-own.result.now { taken = c.in_err-append_records.ensures.err i })

pub stop_consumer-requires : goal.stop_consumer-requires
stop_consumer-requires g c =
    let m = c.args.self.now in
    let a = c.args.cpu in
    let h = history m in
    let own = c.index_mut-own.result.now in
    let shows = cpu_read _ _ m c.requires.shown a own c.requires.cpu c.index_mut-own.ensures.value in
    let sealed = subst (λ (x : CpuProgress). seals a h ≡ x.takes + 1) (progress_is c.requires.shown c.requires.cpu c.index_mut-own.ensures.value) c.requires.sealed in
    let took : c.append_records.new.to ≡ taken (own.progress.takes + 1) a h
    = (c.in_ok-append_records.ensures.ok shows.second.pieces shows.second.has_pieces) ∙ (ap (λ (rs : List Record). own.taken ++ reverse rs) shows.second.are
    ∙ (ap (λ (rs : List Record). rs ++ reverse (contents (batch_of_last_seal a h).offers)) shows.took ∙ sym (taken_more a h own.progress.takes sealed))) in
    record { shown = puts_shown c.requires.shown c.requires.cpu c.index_mut-own.ensures.value (taking _ _ m.schema m.config a h own shows _ _ took refl) }

pub returns-clause-cleans : goal.returns-clause-cleans
returns-clause-cleans g c =
    let m = c.args.self.now in
    let a = c.args.cpu in
    let h = history m in
    let own = c.index_mut-own.result.now in
    let shows = cpu_read _ _ m c.requires.shown a own c.requires.cpu c.index_mut-own.ensures.value in
    let is = progress_is c.requires.shown c.requires.cpu c.index_mut-own.ensures.value in
    let batch = next_batch a h own.progress.takes (subst (λ (x : CpuProgress). seals a h ≡ x.takes + 1) is c.requires.sealed) in
    let drops : own.sealed_drops ≡ (batch_at a own.progress.takes h).drops = shows.sealed_drops ∙ ap (λ (b : Sealing). b.drops) (sym batch) in
    let from : c.len-from.result ≡ length (taken own.progress.takes a h) = c.len-from.ensures ∙ ap (λ (rs : List Record). length rs) shows.took in
    let count : c.count.result ≡ length (batch_at a own.progress.takes h).offers
    = c.count.ensures m.schema shows.second.pieces shows.second.has_pieces
    ∙ (ap (λ (rs : List Record). length rs) shows.second.are ∙ (length_contents (batch_of_last_seal a h).offers ∙ ap (λ (b : Sealing). length b.offers) (sym batch))) in
    let Made : CpuProgress → Answer → Type 0 = λ me last. ConsumerMakes g.B.TraceBuffer.has g.B.TraceBuffer.capacity m c.stop_consumer.new.self
    (changes m.config h m.consumer (state_of m).progresses a me last) c.stop_consumer.result in
    let new = record own { progress = record own.progress { spare = spare.Out; takes = own.progress.takes + 1 }; taken = c.append_records.new.to } in
    subst (λ (x : CpuProgress). Made (record x { spare = spare.Out; takes = x.takes + 1 }) (answer.Took (batch_at a x.takes h).drops (length (taken x.takes a h))
    (length (batch_at a x.takes h).offers)))
    (sym is) (subst (Made new.progress) (λ i. answer.Took (drops i) (from i) (count i))
    (puts_stops g.B.TraceBuffer.has g.B.TraceBuffer.capacity m _ _ a new.progress _ _ (state_puts m a new) refl c.stop_consumer.ensures))

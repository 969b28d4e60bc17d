use Rattle.std.proofs.Common.{ℕ, ◌<◌, [], ◌∷◌, refl, sym, ◌∙◌, subst}
use Rattle.dspec_table.specs.Words.{Speculation, ack_place, number_of, known, Entered, Config, Deed}
use Rattle.dspec_table.proofs.{Places.ack_within, Settlements.stores_ack}
use Rattle.dspec_table.proofs.seats.CpuSeat.store_ack_as.Goals as goal

pub store-requires : goal.store-requires
store-requires g c =
    let words = c.args.words.now in
    let seat = c.args.self.now in
    let k = words.config in
    let id : Speculation = record { issue = c.args.issue; slot = c.args.slot } in
    let lt : seat.cpu < k.cpus = subst (λ (x : Config). seat.cpu < x.cpus) c.requires.seat.1 seat.is_one in (
      c.requires.seat.0,
      rw (c.ack_place-place.ensures, words.words_is) (ack_within k seat.cpu id.slot lt c.requires.call.high),
      rw (c.ack_place-place.ensures, words.key_is)
          (stores_ack k words.board.shared.table_id.slots seat.seat.id seat.cpu seat.seat.me g.J.HasDoing.doing id c.requires.seat.1 lt seat.who_is seat.joins_none c.requires.call),
    )

pub returns-clause-step : goal.returns-clause-step
returns-clause-step g c =
    let seat = c.args.self.now in
    let id : Speculation = record { issue = c.args.issue; slot = c.args.slot } in
    let step = c.store.ensures.2.0 in
    let place = c.ack_place-place.ensures ∙ (λ i. ack_place (sym c.requires.seat.1 i) (number_of (sym seat.who_is i)) c.args.slot) in
    (step.0, step.2, subst (λ (x : ℕ × Deed). Entered x.0 (known seat) step.0 (x.1 ∷ []) c.store.new.seat.me.0) (λ i. (place i, step.3 id place refl i)) step.4)

use Rattle.std.proofs.Common.{◌≡◌, ℕ, ◌∙◌, ap, subst, sym, All, Some, reverse, slice_get}
use Rattle.specview.specs.Words.{Accepts, stream, plan_of, shapes_of, worn_count, report, TellsSmall, event_rows, Report}
use Rattle.specview.proofs.{AllFiles.mapped_long, AllFiles.legal_told, AllFiles.of_numbered, SmallPlays.play_small}
use Rattle.specview.proofs.trace.trace_of_play.Goals as goal

pub files_of-requires-clause-reports : goal.files_of-requires-clause-reports
files_of-requires-clause-reports c =
    let outcome = c.args.outcome.now in
    mapped_long (λ a. report c.args.schedule.now.config a (worn_count outcome.answers a) (reverse outcome.close.deeds)) c.args.schedule.now.config.cpus outcome.close.reports c.requires.play.reports

pub files_of-requires-clause-told : goal.files_of-requires-clause-told
files_of-requires-clause-told c = λ a.
    legal_told (shapes_of (plan_of c.args.schedule.now)) c.args.schedule.now.config a (reverse c.args.outcome.now.close.deeds) c.requires.play.legal

pub files_of-requires-clause-small : goal.files_of-requires-clause-small
files_of-requires-clause-small c = subst (λ e. (a : ℕ) (q : Report) → slice_get c.args.outcome.now.close.reports a ≡ Some q
    → All (Accepts e) (stream a (reverse c.args.outcome.now.close.deeds)) → TellsSmall e a (reverse c.args.outcome.now.close.deeds) q)
    (sym (c.events_of-events.ensures ∙ ap (event_rows (plan_of c.args.schedule.now)) c.as_slice.ensures))
    (play_small (plan_of c.args.schedule.now) c.args.outcome.now c.requires.one_header c.requires.play)

pub form_fault-requires : goal.form_fault-requires
form_fault-requires c = of_numbered c.args.form c.events_of-events.result c.in-Err.fault c.in-Err.ensures.fault

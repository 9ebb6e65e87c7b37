use Rattle.std.proofs.Common.{sym, ap, subst, ◌∙◌}
use Rattle.object_model.specs.Mishaps.{Mishaps}
use Rattle.login_model.specs.Readings.{Reading, ReadTicket}
use Rattle.login_model.specs.Progress.{fetch_ask, ask_read}
use Rattle.node_reads.specs.Asking.{DoneAs}
use Rattle.node_reads.specs.Seen.{reading_seen}
use Rattle.node_reads.proofs.progress.ReadProgress.into_answer.Goals as goal

pub returns-in-Fetches : goal.returns-in-Fetches
returns-in-Fetches c =
    let ticket = c.args.self in
    let given = c.into_answer.result in
    subst (λ (r : Reading). DoneAs c.args.number (ask_read ticket r) given)
    (sym (ap (λ (t : ReadTicket). t.reading) (sym c.self.view_is) ∙ ap reading_seen c.in-Fetches.is))
    (subst (λ (m : Mishaps). DoneAs c.args.number (fetch_ask m c.in-Fetches.fetch.stage) given) (ap (λ (t : ReadTicket). t.mishaps) c.self.view_is) (c.into_answer.ensures c.args.number))

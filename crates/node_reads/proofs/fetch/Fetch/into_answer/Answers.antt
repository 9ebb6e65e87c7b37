use Rattle.std.proofs.Common.{sym, ap, subst, ◌∙◌}
use Rattle.login_model.specs.Readings.{FetchStage, Fetch}
use Rattle.login_model.specs.Progress.{fetch_ask}
use Rattle.node_tickets.specs.Seen.{mishaps_seen}
use Rattle.node_reads.specs.Asking.{DoneAs}
use Rattle.node_reads.specs.FetchStages.{fetch_stage_seen}
use Rattle.node_reads.proofs.fetch.Fetch.into_answer.Goals as goal

pub returns-in-IsAnswered : goal.returns-in-IsAnswered
returns-in-IsAnswered c = λ number.
    subst (λ (s : FetchStage). DoneAs number (fetch_ask (mishaps_seen c.args.mishaps) s) c.answer_of.result)
    (sym (ap (λ (f : Fetch). f.stage) (sym c.self.view_is) ∙ ap fetch_stage_seen c.in-IsAnswered.is))
    (c.answer_of.ensures number)

use Rattle.std.proofs.Common.{ℕ, map, refl, sym, ap, subst, ◌∙◌}
use Rattle.login_model.specs.Readings.{LoginStage, Login}
use Rattle.login_model.specs.Progress.ReadAnswer.{Denies}
use Rattle.node_tickets.specs.Seen.{mishaps_seen}
use Rattle.told_lists.specs.Joining.{login_item}
use Rattle.node_reads.specs.LoginStages.{denial_seen, login_stage_seen}
use Rattle.node_reads.specs.Asking.{AnswersAs, StageLists}
use Rattle.node_reads.proofs.Asked.{done_denied, done_listed}
use Rattle.node_reads.proofs.login.Login.answer.Goals as goal

pub returns-in-IsDenied : goal.returns-in-IsDenied
returns-in-IsDenied c =
    let word = denial_seen c.in-IsDenied.denial in
    done_denied c.args.number c.args.self.now (mishaps_seen c.args.mishaps) c.denied.result word
    (ap (λ (l : Login). l.stage) (sym c.self.view_is) ∙ ap login_stage_seen c.in-IsDenied.is)
    (subst (λ (k : ℕ). AnswersAs c.args.number (Denies k word) c.denied.result) (ap (λ (l : Login). l.manager) c.self.view_is) (c.denied.ensures c.args.number))

pub returns-in-AsksNodes : goal.returns-in-AsksNodes
returns-in-AsksNodes c =
    let lists = c.in-AsksNodes.lists in
    let stage = ap (λ (l : Login). l.stage) (sym c.self.view_is) ∙ ap login_stage_seen c.in-AsksNodes.is in
    done_listed c.args.number c.args.self.now (mishaps_seen c.args.mishaps) _ lists.named lists.waiting lists.told stage c.requires.done
    (refl, ap (λ (l : Login). l.manager) c.self.view_is, c.named.ensures, subst (λ (s : LoginStage). StageLists s (map login_item c.args.items)) stage c.requires.listing)

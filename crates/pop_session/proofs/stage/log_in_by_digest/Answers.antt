use Rattle.std.proofs.Common.{◌∙◌}
use Rattle.pop_session.specs.Banners.{banner_seen}
use Rattle.pop_session.proofs.stage.log_in_by_digest.Goals as goal

pub returns-clause-own : goal.returns-clause-own
returns-clause-own c = λ name slots. c.ask_login.ensures.own (banner_seen c.args.banner.now) name slots (c.from_vec-banner.ensures ∙ c.in_ok-text.ensures)

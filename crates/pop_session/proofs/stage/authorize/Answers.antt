use Rattle.pop_session.specs.Banners.{banner_seen}
use Rattle.pop_session.proofs.stage.authorize.Goals as goal

pub returns-in-Pass-clause-own : goal.returns-in-Pass-clause-own
returns-in-Pass-clause-own c = c.log_in.ensures.own (banner_seen c.args.banner.now)

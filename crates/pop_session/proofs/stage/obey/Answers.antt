use Rattle.pop_session.specs.Banners.{banner_seen}
use Rattle.pop_session.proofs.stage.obey.Goals as goal

pub returns-in-Authorization-clause-own : goal.returns-in-Authorization-clause-own
returns-in-Authorization-clause-own c = c.authorize.ensures.own _ _

pub returns-in-Transaction-clause-own : goal.returns-in-Transaction-clause-own
returns-in-Transaction-clause-own c = rw c.in-Transaction.is (c.transact.ensures.own (banner_seen c.args.banner.now))

use Rattle.board_service.proofs.obey.obey_heard.Goals as goal

pub returns-in-Some-clause-hears : goal.returns-in-Some-clause-hears
returns-in-Some-clause-hears g c = rw c.in-Some.is c.obey_known.ensures.orders

use Rattle.board_service.proofs.obey.obey_order.Goals as goal

pub returns-in-Some-clause-orders : goal.returns-in-Some-clause-orders
returns-in-Some-clause-orders g c = rw c.in-Some.is c.do_order.ensures.ordered

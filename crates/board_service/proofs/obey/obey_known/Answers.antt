use Rattle.board_service.proofs.obey.obey_known.Goals as goal

pub returns-clause-orders : goal.returns-clause-orders
returns-clause-orders g c = rw c.in_ok-ordered.ensures at c.obey_order.ensures.orders

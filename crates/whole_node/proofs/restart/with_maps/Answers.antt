use Rattle.whole_node.proofs.Restarted.{all_named}
use Rattle.whole_node.proofs.restart.with_maps.Goals as goal

pub over-requires-clause-named : goal.over-requires-clause-named
over-requires-clause-named c = all_named c.args.mail c.in_ok-users.users c.as_slice.result.now c.requires.some c.in_ok-users.ensures c.as_slice.ensures

use Rattle.std.proofs.Common.{◌&&◌, not, drop, ◌+◌}
use Rattle.map_rebuild.specs.Users.{has_user}
use Rattle.map_rebuild.proofs.Sets.{take_next, at_item}
use Rattle.map_rebuild.proofs.marks.take_each.Goals as goal

pub loop-user-preserved : goal.loop-user-preserved
loop-user-preserved c =
    take_next (has_user c.loop-user.marked.keys) (has_user c.take_out.new.marked.keys) (drop c.loop-user.user-index c.args.users.now) (drop (c.loop-user.user-index + 1) c.args.users.now) c.user-item.result
    (λ q. has_user c.args.marked.now.keys q && not (has_user c.args.users.now q)) (at_item c.args.users.now c.loop-user.user-index c.user-item.result c.loop-user-test.true c.user-item.is) c.take_out.ensures c.loop-user.invariant

use Rattle.std.proofs.Common.{false}
use Rattle.map_rebuild.specs.Users.{has_user}
use Rattle.map_rebuild.proofs.Sets.{set_one}
use Rattle.map_rebuild.proofs.marks.take_out.Goals as goal

pub returns : goal.returns
returns c = set_one (has_user c.args.marked.now.keys) (has_user c.remove.new.self.keys) c.args.user.now false c.remove.ensures.updates.0

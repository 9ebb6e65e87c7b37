use Rattle.std.proofs.Common.{◌≡◌, fold, drop}
use Rattle.user_map.specs.Plain.{lesser, least}
use Rattle.user_map.specs.Loads.{load_in}
use Rattle.user_map.proofs.loads.Loads.least.Given as goal

abbrev pub invariant-loop-member : goal.invariant-loop-member
invariant-loop-member l = fold (lesser (load_in l.self.of_node)) l.node (drop l.member-index l.members) ≡ least (load_in l.self.of_node) l.members

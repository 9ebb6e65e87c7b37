use Rattle.std.proofs.Common.{◌≡◌, List, ℕ, true, cond, subst}
use Rattle.std.specs.Ordering.{nat_cmp}
use Rattle.std.specs.Cmp.Lexicographic.{slice_cmp}
use Rattle.std.specs.BTreeMap.{is_at}
use Rattle.map_rebuild.specs.Users.{has_user}
use Rattle.map_rebuild.proofs.Sets.{set_one}
use Rattle.map_rebuild.proofs.marks.put.Goals as goal

pub returns-clause-ok : goal.returns-clause-ok
returns-clause-ok c = set_one (has_user c.args.marked.now.keys) (has_user c.insert.new.self.keys) c.args.user.now true
    (subst (λ (u : List ℕ). (q : List ℕ) → has_user c.insert.new.self.keys q ≡ cond (is_at (slice_cmp nat_cmp u) q) true (has_user c.args.marked.now.keys q)) c.in_ok-copy.ensures c.in_ok-insert.ensures.updates.0)

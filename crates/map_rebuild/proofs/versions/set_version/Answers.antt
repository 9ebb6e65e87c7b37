use Rattle.std.proofs.Common.{◌≡◌, List, ℕ, Option, Some, cond, true, false, Bool, refl, ap, ◌∙◌, subst}
use Rattle.std.specs.Ordering.{nat_cmp}
use Rattle.std.specs.Cmp.Lexicographic.{slice_cmp}
use Rattle.std.specs.BTreeMap as tree
use Rattle.map_rebuild.specs.Rows.{version_at}
use Rattle.map_rebuild.proofs.Sets.{set_one}
use Rattle.map_rebuild.proofs.versions.set_version.Goals as goal

read : (b : Bool) (x : ℕ) (o : Option ℕ) → version_at (cond b (Some x) o) ≡ cond b x (version_at o)
read true x o = refl
read false x o = refl

pub returns-clause-ok : goal.returns-clause-ok
returns-clause-ok c =
    let up = subst (λ (u : List ℕ). (q : List ℕ) → tree.get (slice_cmp nat_cmp) c.insert.new.self q ≡ cond (tree.is_at (slice_cmp nat_cmp u) q) (Some c.args.version) (tree.get (slice_cmp nat_cmp) c.args.versions.now q)) c.in_ok-copy.ensures c.in_ok-insert.ensures.updates.0 in
    set_one (λ q. version_at (tree.get (slice_cmp nat_cmp) c.args.versions.now q)) (λ q. version_at (tree.get (slice_cmp nat_cmp) c.insert.new.self q)) c.args.user.now c.args.version
    (λ q. ap version_at (up q) ∙ read (tree.is_at (slice_cmp nat_cmp c.args.user.now) q) c.args.version (tree.get (slice_cmp nat_cmp) c.args.versions.now q))

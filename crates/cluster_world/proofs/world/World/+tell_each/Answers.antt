use Rattle.std.proofs.Common.{◌≡◌, ℕ, true, false, not, nat_eq, ◌&&◌, ◌∷◌, [], sym, subst, ◌∙◌, arith}
use Rattle.std.proofs.lemmas.Bool.{and_parts}
use Rattle.object_model.specs.Sets.{has}
use Rattle.node_store.specs.Disks.{view_of}
use Rattle.cluster_world.specs.Settling.{TellsOn}
use Rattle.cluster_world.proofs.Settles.{tells_next, tells_no_next, differs}
use Rattle.cluster_world.proofs.world.World.+tell_each.Goals as goal

pub tell_one-requires-clause-other : goal.tell_one-requires-clause-other
tell_one-requires-clause-other g t c = differs c.args.members c.args.from c.numbered-to.result (sym c.is_other.ensures ∙ c.if-is_other.true)

pub returns-then-is_other-clause-told : goal.returns-then-is_other-clause-told
returns-then-is_other-clause-told g t c =
    let is = subst (λ (n : ℕ). (has c.args.members n && not (nat_eq c.args.from n)) ≡ true) c.numbered-to.ensures (sym c.is_other.ensures ∙ c.if-is_other.true) in
    tells_next (view_of g.D.Disk.seen g.D.Disk.faults g.D.Disk.clock) c.args.from c.args.members c.args.nodes _ _ _ _ (omega (arith, c.if-nodes-eq0.false)) is c.in_ok-tell_each.ensures.told
    (subst (λ (n : ℕ). TellsOn (view_of g.D.Disk.seen g.D.Disk.faults g.D.Disk.clock) ((c.args.from, n) ∷ []) c.tell_one.result c.tell_each.new.self c.tell_one.new.self) c.numbered-to.ensures c.tell_one.ensures.told)

pub returns-else-is_other-clause-told : goal.returns-else-is_other-clause-told
returns-else-is_other-clause-told g t c =
    let is = subst (λ (n : ℕ). (has c.args.members n && not (nat_eq c.args.from n)) ≡ false) c.numbered-to.ensures (sym c.is_other.ensures ∙ c.if-is_other.false) in
    tells_no_next (view_of g.D.Disk.seen g.D.Disk.faults g.D.Disk.clock) c.args.from c.args.members c.args.nodes _ _ (omega (arith, c.if-nodes-eq0.false)) is c.in_ok-tell_each.ensures.told

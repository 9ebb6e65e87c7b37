use Rattle.std.proofs.Common.{◌≡◌, ℕ, true, false, sym, subst, ◌∙◌, arith}
use Rattle.object_model.specs.Sets.{has}
use Rattle.node_store.specs.Disks.{view_of}
use Rattle.cluster_world.specs.Settling.{TellsOn, pairs_from}
use Rattle.cluster_world.proofs.Settles.{tells_all_next, tells_all_no_next}
use Rattle.cluster_world.proofs.world.World.+tell_all.Goals as goal

pub returns-then-has-clause-told : goal.returns-then-has-clause-told
returns-then-has-clause-told g t c =
    let is = subst (λ (n : ℕ). has c.args.members n ≡ true) c.numbered-from.ensures (sym c.has.ensures ∙ c.if-has.true) in
    tells_all_next (view_of g.D.Disk.seen g.D.Disk.faults g.D.Disk.clock) c.args.members c.args.nodes c.args.first _ _ _ _ (omega (arith, c.if-first-eq0.false)) is c.in_ok-tell_all.ensures.told
    (subst (λ (n : ℕ). TellsOn (view_of g.D.Disk.seen g.D.Disk.faults g.D.Disk.clock) (pairs_from n c.args.members c.args.nodes) c.tell_each.result c.tell_all.new.self c.tell_each.new.self) c.numbered-from.ensures c.tell_each.ensures.told)

pub returns-else-has-clause-told : goal.returns-else-has-clause-told
returns-else-has-clause-told g t c =
    let is = subst (λ (n : ℕ). has c.args.members n ≡ false) c.numbered-from.ensures (sym c.has.ensures ∙ c.if-has.false) in
    tells_all_no_next (view_of g.D.Disk.seen g.D.Disk.faults g.D.Disk.clock) c.args.members c.args.nodes c.args.first _ _ (omega (arith, c.if-first-eq0.false)) is c.in_ok-tell_all.ensures.told

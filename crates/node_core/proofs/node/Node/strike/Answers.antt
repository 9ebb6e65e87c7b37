use Rattle.std.proofs.Common.{◌≡◌, ℕ, nat_lt, true, false, refl, sym, ap, subst, ◌∙◌}
use Rattle.std.proofs.lemmas.List.{length-map}
use Rattle.object_model.specs.Mishaps.{Mishaps, mishaps_of}
use Rattle.mail_base.specs.declared.item.Item.{Item}
use Rattle.cluster_model.specs.Cluster.CallKind.{Striking}
use Rattle.cluster_model.specs.Steps.NodeCall.{Strike}
use Rattle.cluster_model.specs.Steps.{fails_at_once}
use Rattle.node_store.specs.Disks.{view_of}
use Rattle.node_tickets.specs.Seen.{mishaps_seen}
use Rattle.node_core.specs.Nodes.{node_seen}
use Rattle.node_core.specs.Failing.{lacks_numbers}
use Rattle.node_core.specs.Beginning.{struck_of}
use Rattle.node_core.proofs.Begun.{refuses}
use Rattle.node_core.proofs.StrikesBegun.{strike_mishaps, strikes}
use Rattle.node_core.proofs.node.Node.strike.Goals as goal

pub returns-then-has_any-clause-begins : goal.returns-then-has_any-clause-begins
returns-then-has_any-clause-begins g c =
    let on = view_of g.D.Disk.seen g.D.Disk.faults g.D.Disk.clock in
    let old = c.args.self.now in
    let call = Strike c.args.user.now (struck_of c.args.items.now) in
    λ plan own seconds p.
    let m = strike_mishaps plan own seconds old c.deref.result.now (mishaps_seen c.few_members-mishaps.result) p (c.deref.ensures.value ∙ c.in_ok-members.ensures)
    c.few_members-mishaps.ensures c.args.user.now (struck_of c.args.items.now) in
    let fails : fails_at_once plan seconds (node_seen old) call ≡ true = ap (λ (x : Mishaps). nat_lt 0 (mishaps_of x)) (sym m) ∙ sym c.has_any.ensures ∙ c.if-has_any.true in
    refuses on plan own seconds old c.args.disk.now p c.requires.works call Striking (mishaps_seen c.few_members-mishaps.result) 0 refl refl refl m fails c.refuse.new.self c.refuse.result c.refuse.ensures

pub returns-clause-begins : goal.returns-clause-begins
returns-clause-begins g c =
    let on = view_of g.D.Disk.seen g.D.Disk.faults g.D.Disk.clock in
    let old = c.args.self.now in
    let items = struck_of c.args.items.now in
    let call = Strike c.args.user.now items in
    let counted = sym (length-map c.args.items.now (λ (item : Item). record { id = item.id; targets = item.targets })) in
    let fresh = subst (λ (n : ℕ). lacks_numbers 0 n old ≡ false) counted (sym c.lack.ensures ∙ c.if-lack.false) in
    λ plan own seconds p.
    let m = strike_mishaps plan own seconds old c.deref.result.now (mishaps_seen c.few_members-mishaps.result) p (c.deref.ensures.value ∙ c.in_ok-members.ensures)
    c.few_members-mishaps.ensures c.args.user.now items in
    let fails : fails_at_once plan seconds (node_seen old) call ≡ false = ap (λ (x : Mishaps). nat_lt 0 (mishaps_of x)) (sym m) ∙ sym c.has_any.ensures ∙ c.if-has_any.false in
    strikes on plan own seconds old c.args.disk.now p c.args.user.now items fails fresh c.strike_and_send.new.self c.strike_and_send.new.disk c.strike_and_send.result c.strike_and_send.ensures.begins

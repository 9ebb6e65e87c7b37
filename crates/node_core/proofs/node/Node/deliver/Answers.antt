use Rattle.std.proofs.Common.{◌≡◌, ◌<◌, ℕ, List, nat_lt, nat_le, length, true, false, refl, sym, ap, subst, ◌∙◌}
use Rattle.object_model.specs.Mishaps.{Mishaps, mishaps_of}
use Rattle.mail_base.specs.Delivers.{mail_in}
use Rattle.cluster_model.specs.Cluster.CallKind.{Delivering}
use Rattle.cluster_model.specs.Steps.NodeCall.{Deliver}
use Rattle.cluster_model.specs.Steps.{end_of_dates, fails_at_once}
use Rattle.node_store.specs.Disks.{view_of}
use Rattle.node_tickets.specs.Seen.{mishaps_seen}
use Rattle.node_core.specs.Nodes.{node_seen}
use Rattle.node_core.proofs.Begun.{delivery_mishaps, comes_in_time, has_some, refuses, delivers}
use Rattle.node_core.proofs.node.Node.deliver.Goals as goal

pub returns-then-has_any-clause-begins : goal.returns-then-has_any-clause-begins
returns-then-has_any-clause-begins g c =
    let on = view_of g.D.Disk.seen g.D.Disk.faults g.D.Disk.clock in
    let old = c.args.self.now in
    let mail = mail_in c.args.deliver in
    λ plan own p ended.
    let m = delivery_mishaps plan own c.args.seconds old c.deref.result.now (mishaps_seen c.few_members_or_late-mishaps.result) p (c.deref.ensures.value ∙ c.in_ok-members.ensures)
    c.few_members_or_late-mishaps.ensures mail in
    let fails : fails_at_once plan c.args.seconds (node_seen old) (Deliver mail) ≡ true = ap (λ (x : Mishaps). nat_lt 0 (mishaps_of x)) (sym m) ∙ sym c.has_any.ensures ∙ c.if-has_any.true in
    refuses on plan own c.args.seconds old c.args.disk.now p c.requires.works (Deliver mail) Delivering (mishaps_seen c.few_members_or_late-mishaps.result) 1 refl refl refl m fails c.refuse.new.self c.refuse.result c.refuse.ensures

pub file_and_send-requires-clause-dated : goal.file_and_send-requires-clause-dated
file_and_send-requires-clause-dated g c =
    comes_in_time _ _ _ c.few_members_or_late-mishaps.ensures (sym c.has_any.ensures ∙ c.if-has_any.false)

pub file_and_send-requires-clause-some : goal.file_and_send-requires-clause-some
file_and_send-requires-clause-some g c =
    subst (λ (members : List ℕ). 0 < length members) (c.deref.ensures.value ∙ sym c.deref-2.ensures.value)
    (has_some (nat_le end_of_dates c.args.seconds) (length c.deref.result.now) c.args.self.now.shape.confirm (mishaps_seen c.few_members_or_late-mishaps.result)
    c.few_members_or_late-mishaps.ensures (sym c.has_any.ensures ∙ c.if-has_any.false))

pub returns-clause-begins : goal.returns-clause-begins
returns-clause-begins g c =
    let on = view_of g.D.Disk.seen g.D.Disk.faults g.D.Disk.clock in
    let old = c.args.self.now in
    let mail = mail_in c.args.deliver in
    λ plan own p ended.
    let m = delivery_mishaps plan own c.args.seconds old c.deref.result.now (mishaps_seen c.few_members_or_late-mishaps.result) p (c.deref.ensures.value ∙ c.in_ok-members.ensures)
    c.few_members_or_late-mishaps.ensures mail in
    let fails : fails_at_once plan c.args.seconds (node_seen old) (Deliver mail) ≡ false = ap (λ (x : Mishaps). nat_lt 0 (mishaps_of x)) (sym m) ∙ sym c.has_any.ensures ∙ c.if-has_any.false in
    delivers on plan own c.args.seconds old c.args.disk.now p c.requires.works mail fails (sym c.lack.ensures ∙ c.if-lack.false) ended c.file_and_send.new.self c.file_and_send.new.disk c.file_and_send.result c.file_and_send.ensures.begins

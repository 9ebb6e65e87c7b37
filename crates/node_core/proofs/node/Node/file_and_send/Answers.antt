use Rattle.std.proofs.Common.{◌≡◌, ◌+◌, ℕ, length, Some, sym, ap, subst, ◌∙◌}
use Rattle.std.specs.Prelude.{All}
use Rattle.std.specs.FinMap as fin
use Rattle.std.proofs.lemmas.Result.{err_from_is_err_and}
use Rattle.mail_model.specs.Identity.{Id, Stamp}
use Rattle.mail_model.specs.Names.{IsLowerName}
use Rattle.mail_model.specs.Grammar.{IsId, IsStamp, IsCount}
use Rattle.mail_model.specs.Mail.{IsStored}
use Rattle.mail_base.specs.Delivers.{mail_in}
use Rattle.object_model.specs.Letters.Body.{File}
use Rattle.cluster_model.specs.Cluster.{epoch_of}
use Rattle.cluster_model.specs.Rules.{letters_to, receivers, new_number}
use Rattle.cluster_model.specs.Targets.{deliver_targets}
use Rattle.cluster_model.specs.TicketLaws.{delivery_ticket}
use Rattle.node_store.specs.Disks.{view_of}
use Rattle.node_store.specs.Writes.{Done, WorkIsCutShort}
use Rattle.node_tickets.specs.Seen.{filing_seen}
use Rattle.node_tickets.specs.Standing.{tickets_in}
use Rattle.node_core.specs.Nodes.{node_seen}
use Rattle.node_core.specs.Delivering.{next_id, next_stamp, next_targets, filed_where}
use Rattle.sha2.specs.Sha256.{sha256}
use Rattle.object_model.specs.Letters.{Number}
use Rattle.cluster_model.specs.Cluster.{NodeFiling}
use Rattle.node_core.specs.Delivering.{DeliveryBegun}
use Rattle.node_core.proofs.Doing.{whose_of}
use Rattle.node_core.proofs.Delivery.{delivery_stopped, delivery_begun}
use Rattle.node_core.proofs.node.Node.file_and_send.Goals as goal

pub returns-in_err-file_where-clause-begins : goal.returns-in_err-file_where-clause-begins
returns-in_err-file_where-clause-begins g c =
    let on = view_of g.D.Disk.seen g.D.Disk.faults g.D.Disk.clock in
    let old = c.args.self.now in
    let mail = mail_in c.args.deliver.now in
    let octets = c.in_ok-octets.octets in
    let p = err_from_is_err_and c.from_residual-in_err-file_where.result c.from_residual-in_err-file_where.ensures.1 in
    let w = c.in_err-file_where.ensures.wrote in
    let id = c.next_id-id.ensures in
    let stamp = c.next_stamp-stamp.ensures in
    let targets : c.in_ok-targets.targets ≡ next_targets old =
    c.in_ok-targets.ensures.value ∙ ap (λ (o : ℕ). deliver_targets old.shape.copies o (old.numbers.drawn + 1) c.args.members.now) c.own.ensures
    ∙ ap (deliver_targets old.shape.copies old.store.own (old.numbers.drawn + 1)) c.requires.members in
    let users = subst (All IsLowerName) c.as_slice.ensures c.are_names.ensures in
    let count = subst (IsCount 16) targets (c.in_ok-targets.ensures.some c.requires.works.whole.shape.copies, c.in_ok-targets.ensures.bound) in
    let cut = subst (λ (t : ℕ). WorkIsCutShort on (filed_where old.store.own (next_id old) (next_stamp old) t mail.mailboxes octets) old.store c.args.disk.now c.file_where.new.disk) targets
    (subst (λ (s : Stamp). WorkIsCutShort on (filed_where old.store.own (next_id old) s c.in_ok-targets.targets mail.mailboxes octets) old.store c.args.disk.now c.file_where.new.disk) stamp.value
    (subst (λ (i : Id). WorkIsCutShort on (filed_where old.store.own i c.next_stamp-stamp.result c.in_ok-targets.targets mail.mailboxes octets) old.store c.args.disk.now c.file_where.new.disk) id w.0)) in
    rw (p.1, p.2) (delivery_stopped on mail c.args.seconds old c.args.disk.now c.file_where.new.disk octets _ c.in_err-file_where.field-0.0
    (subst (λ (i : Id). IsStored mail i c.args.seconds octets) id c.in_ok-octets.ensures.stored) (subst IsId id c.is_id.ensures) (subst IsStamp stamp.value stamp.fits) count users cut w.1)

pub returns-clause-begins : goal.returns-clause-begins
returns-clause-begins g c =
    let on = view_of g.D.Disk.seen g.D.Disk.faults g.D.Disk.clock in
    let old = c.args.self.now in
    let own = old.store.own in
    let mail = mail_in c.args.deliver.now in
    let octets = c.in_ok-octets.octets in
    let id = c.next_id-id.ensures in
    let stamp = c.next_stamp-stamp.ensures in
    let targets : c.in_ok-targets.targets ≡ next_targets old =
    c.in_ok-targets.ensures.value ∙ ap (λ (o : ℕ). deliver_targets old.shape.copies o (old.numbers.drawn + 1) c.args.members.now) c.own.ensures
    ∙ ap (deliver_targets old.shape.copies own (old.numbers.drawn + 1)) c.requires.members in
    let count = subst (IsCount 16) targets (c.in_ok-targets.ensures.some c.requires.works.whole.shape.copies, c.in_ok-targets.ensures.bound) in
    let done = subst (λ (t : ℕ). Done on (filed_where own (next_id old) (next_stamp old) t mail.mailboxes octets) old.store c.args.disk.now c.file_where.new.store c.file_where.new.disk) targets
    (subst (λ (s : Stamp). Done on (filed_where own (next_id old) s c.in_ok-targets.targets mail.mailboxes octets) old.store c.args.disk.now c.file_where.new.store c.file_where.new.disk) stamp.value
    (subst (λ (i : Id). Done on (filed_where own i c.next_stamp-stamp.result c.in_ok-targets.targets mail.mailboxes octets) old.store c.args.disk.now c.file_where.new.store c.file_where.new.disk) id
    c.in_ok-file_where.ensures.wrote)) in
    let letters = c.in_ok-letters.ensures
    ∙ ap (λ (i : Id). letters_to own (epoch_of (node_seen old)) (Some (new_number own (node_seen old))) (receivers own c.in_ok-targets.targets old.shape.nodes)
    (File i c.next_stamp-stamp.result c.in_ok-targets.targets mail.mailboxes octets)) id
    ∙ ap (λ (s : Stamp). letters_to own (epoch_of (node_seen old)) (Some (new_number own (node_seen old))) (receivers own c.in_ok-targets.targets old.shape.nodes)
    (File (next_id old) s c.in_ok-targets.targets mail.mailboxes octets)) stamp.value
    ∙ ap (λ (t : ℕ). letters_to own (epoch_of (node_seen old)) (Some (new_number own (node_seen old))) (receivers own t old.shape.nodes)
    (File (next_id old) (next_stamp old) t mail.mailboxes octets)) targets in
    let tickets = c.in_ok-open_delivery.ensures.ok
    ∙ ap (λ (o : ℕ). fin.insert (tickets_in old.tickets) (old.numbers.calls + 1) (delivery_ticket o (filing_seen c.in_ok-filing.filing) c.in_ok-targets.targets)) c.requires.works.whole.tickets.own_is
    ∙ ap (λ (f : NodeFiling). fin.insert (tickets_in old.tickets) (old.numbers.calls + 1) (delivery_ticket own f c.in_ok-targets.targets)) c.in_ok-filing.ensures
    ∙ ap (λ (i : Id). fin.insert (tickets_in old.tickets) (old.numbers.calls + 1) (delivery_ticket own (record { id = i; users = mail.mailboxes; seconds = c.args.seconds; size = length octets; digest = sha256 octets }) c.in_ok-targets.targets)) id
    ∙ ap (λ (t : ℕ). fin.insert (tickets_in old.tickets) (old.numbers.calls + 1) (delivery_ticket own (record { id = next_id old; users = mail.mailboxes; seconds = c.args.seconds; size = length octets; digest = sha256 octets }) t)) targets in
    subst (λ (t : Number). DeliveryBegun on mail c.args.seconds old c.args.disk.now
    (record { shape = old.shape; numbers = c.draw.new.self; store = c.file_where.new.store; tickets = c.open_delivery.new.self }) c.file_where.new.disk (Some t) c.sent.result) (sym c.next_ticket-ticket.ensures)
    (delivery_begun on mail c.args.seconds old c.args.disk.now c.file_where.new.disk octets c.file_where.new.store c.draw.new.self c.open_delivery.new.self c.in_ok-letters.letters c.sent.result
    (subst (λ (i : Id). IsStored mail i c.args.seconds octets) id c.in_ok-octets.ensures.stored) (subst IsStamp stamp.value stamp.fits) count c.in_ok-octets.ensures.short done c.draw.ensures tickets
    (whose_of old.tickets c.open_delivery.new.self c.in_ok-open_delivery.ensures.whose) c.requires.works.whole letters c.sent.ensures.letters c.sent.ensures.thrown)

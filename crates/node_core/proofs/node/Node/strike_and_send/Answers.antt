use Rattle.std.proofs.Common.{◌≡◌, ℕ, List, ◌+◌, sym, ap, subst, ◌∙◌, length}
use Rattle.std.specs.FinMap as fin
use Rattle.std.proofs.lemmas.Result.{err_from_is_err_and}
use Rattle.std.proofs.lemmas.List.{length-map}
use Rattle.std.specs.Prelude.{Ok, Some}
use Rattle.mail_model.specs.Identity.{Id}
use Rattle.object_model.specs.Letters.{Number, DeletionMark}
use Rattle.object_model.specs.Sets.{all_nodes}
use Rattle.cluster_model.specs.Cluster.{epoch_of}
use Rattle.cluster_model.specs.Store.{gone_updates}
use Rattle.cluster_model.specs.Rules.{marks_for, strikes_to, new_number, drawn_past}
use Rattle.mail_base.specs.declared.item.Item.{Item}
use Rattle.node_store.specs.Disks.{view_of}
use Rattle.node_tickets.specs.Standing.{tickets_in, ticket_of_deletion}
use Rattle.node_core.specs.Nodes.{node_seen}
use Rattle.node_core.specs.Spelling.{AllCanBeTaken}
use Rattle.node_core.specs.Beginning.{struck_of}
use Rattle.node_core.specs.Striking.{next_dated, asks_among, asked_of_members, BeginsStrike}
use Rattle.node_core.specs.declared.node.Node.{Node}
use Rattle.node_core.specs.declared.numbers.Numbers.{Numbers}
use Rattle.node_core.proofs.Strikes.{strike_stopped, strike_begun, numbers_are}
use Rattle.node_core.proofs.node.Node.strike_and_send.Goals as goal

pub returns-in_err-take_marks-clause-begins : goal.returns-in_err-take_marks-clause-begins
returns-in_err-take_marks-clause-begins g c =
    let on = view_of g.D.Disk.seen g.D.Disk.faults g.D.Disk.clock in
    let old = c.args.self.now in
    let own = old.store.own in
    let user = c.args.user.now in
    let items = struck_of c.args.items.now in
    let p = err_from_is_err_and c.from_residual-in_err-take_marks.result c.from_residual-in_err-take_marks.ensures.1 in
    let asked : c.in_ok-asks.asks.items ≡ asked_of_members items old = c.in_ok-asks.ensures ∙ ap (λ (o : ℕ). asks_among old.shape.confirm o items c.args.members.now) c.own-own.ensures
    ∙ ap (asks_among old.shape.confirm own items) c.requires.members in
    let marked : c.in_ok-marks.marks ≡ marks_for own (next_dated old (asked_of_members items old)) =
    c.in_ok-marks.ensures.value ∙ ap (λ (o : ℕ). marks_for o (next_dated old c.deref.result.now)) c.own-own.ensures
    ∙ ap (λ (xs : List (Id × ℕ)). marks_for own (next_dated old xs)) (c.deref.ensures.value ∙ asked) in
    rw (p.1, p.2) (strike_stopped on user items old c.args.disk.now c.take_marks.new.disk c.as_slice.result.now (c.as_slice.ensures ∙ marked) c.take_marks.new.self c.in_err-take_marks.field-0.0
    c.in_err-take_marks.ensures.fits c.in_err-take_marks.ensures.wrote.0 c.in_err-take_marks.ensures.wrote.1)

pub returns-clause-begins : goal.returns-clause-begins
returns-clause-begins g c =
    let on = view_of g.D.Disk.seen g.D.Disk.faults g.D.Disk.clock in
    let old = c.args.self.now in
    let own = old.store.own in
    let nodes = old.shape.nodes in
    let user = c.args.user.now in
    let items = struck_of c.args.items.now in
    let marks = c.as_slice.result.now in
    let asked : c.in_ok-asks.asks.items ≡ asked_of_members items old = c.in_ok-asks.ensures ∙ ap (λ (o : ℕ). asks_among old.shape.confirm o items c.args.members.now) c.own-own.ensures
    ∙ ap (asks_among old.shape.confirm own items) c.requires.members in
    let marked : c.in_ok-marks.marks ≡ marks_for own (next_dated old (asked_of_members items old)) =
    c.in_ok-marks.ensures.value ∙ ap (λ (o : ℕ). marks_for o (next_dated old c.deref.result.now)) c.own-own.ensures
    ∙ ap (λ (xs : List (Id × ℕ)). marks_for own (next_dated old xs)) (c.deref.ensures.value ∙ asked) in
    let updates = gone_updates user (all_nodes nodes) marks in
    let drew = c.draw.new.self in
    let same = c.in_ok-take_marks.ensures.same in
    let draws = subst (λ (n : Numbers). drew ≡ record n { drawn = n.drawn + 0; count = n.count + length c.args.items.now; calls = n.calls + 1 }) (ap (λ (n : Node). n.numbers) same) c.draw.ensures in
    let knows = subst (λ (ms : List DeletionMark). c.know_marks.new.self ≡ record drew { drawn = drawn_past own drew.boot drew.drawn (gone_updates user (all_nodes nodes) ms) }) (c.as_slice-2.ensures ∙ sym c.as_slice.ensures)
    (subst (λ (o : ℕ). c.know_marks.new.self ≡ record drew { drawn = drawn_past o drew.boot drew.drawn (gone_updates user (all_nodes nodes) c.as_slice-2.result.now) }) c.own-own.ensures
    (c.know_marks.ensures user (all_nodes nodes))) in
    let counted = sym (length-map c.args.items.now (λ (item : Item). record { id = item.id; targets = item.targets })) in
    let known = numbers_are own (length c.args.items.now) (length items) updates old.numbers drew c.know_marks.new.self draws knows counted in
    let numbers = c.know_marks.new.self in
    let before = record old { tickets = c.open_deletion.new.self } in
    let desk = c.in_ok-open_deletion.ensures.ok ∙ ap (λ (o : ℕ). fin.insert (tickets_in old.tickets) (old.numbers.calls + 1) (ticket_of_deletion o user c.deref-3.result.now)) c.requires.works.whole.tickets.own_is
    ∙ ap (λ (xs : List (Id × ℕ)). fin.insert (tickets_in old.tickets) (old.numbers.calls + 1) (ticket_of_deletion own user xs)) (c.deref-3.ensures.value ∙ asked) in
    let sent = c.sent.ensures.letters ∙ c.in_ok-letters.ensures.letters
    ∙ ap (λ (xs : List (Id × ℕ)). strikes_to own (epoch_of (node_seen old)) (new_number own (node_seen old)) user (next_dated old xs) nodes) (c.deref-2.ensures.value ∙ asked) in
    subst (λ (n : Node). BeginsStrike on user items old c.args.disk.now (record n { numbers = numbers }) c.take_marks.new.disk (Ok (Some c.next_ticket-ticket.result, c.sent.result))) (sym same)
    (subst (λ (t : Number). BeginsStrike on user items old c.args.disk.now (record before { store = c.take_marks.new.self.store; numbers = numbers }) c.take_marks.new.disk (Ok (Some t, c.sent.result))) (sym c.next_ticket-ticket.ensures)
    (strike_begun on user items old c.args.disk.now c.take_marks.new.disk marks (c.as_slice.ensures ∙ marked) c.take_marks.new.self.store numbers c.open_deletion.new.self c.sent.result
    c.in_ok-take_marks.ensures.wrote known desk c.in_ok-open_deletion.ensures.whose c.requires.works.whole sent (subst AllCanBeTaken (sym c.sent.ensures.letters) c.in_ok-letters.ensures.fits) c.sent.ensures.thrown))

use Rattle.std.proofs.Common.{◌≡◌, ℕ, List, Some, refl, sym, ap, ◌∙◌, subst}
use Rattle.std.proofs.lemmas.Result.{err_from_is_err_and}
use Rattle.object_model.specs.Letters.{Letter}
use Rattle.cluster_model.specs.Rules.{new_number}
use Rattle.cluster_model.specs.Steps.NodeCall.{Fetch}
use Rattle.node_store.specs.Disks.{view_of}
use Rattle.node_core.specs.Nodes.{node_seen}
use Rattle.whole_node.specs.Reading.{ReadDone, FetchesBy}
use Rattle.whole_node.specs.declared.node.WholeNode.{WholeNode}
use Rattle.whole_node.proofs.LoggedIn.{numbered, kept_by}
use Rattle.whole_node.proofs.Fetched.{fetch_begun, fetch_failed}
use Rattle.whole_node.proofs.node.WholeNode.fetch_at.Goals as goal

pub returns-in_err-letters-clause-begins : goal.returns-in_err-letters-clause-begins
returns-in_err-letters-clause-begins g c plan own seconds holders is asked =
    let on = view_of g.D.Disk.seen g.D.Disk.faults g.D.Disk.clock in
    let p = err_from_is_err_and c.from_residual.result c.from_residual.ensures.1 in
    let e = c.in_err-letters.ensures in
    rw (p.1, p.2) (fetch_failed on plan own c.args.user c.args.id c.args.from c.args.most c.args.asked holders c.args.self.now c.args.disk.now c.fetch_among.new.self c.fetch_among.new.disk (sym is.own_is) asked e.halves e.locks
    seconds c.next_ticket-ticket.result c.in_err-letters.field-0.0 (c.is_worn.ensures.reads plan seconds (Fetch c.args.user c.args.id c.args.from c.args.most holders) tt ∙ c.if-is_worn.false) e.fetches)

pub returns-clause-begins : goal.returns-clause-begins
returns-clause-begins g c plan own seconds holders is asked =
    let on = view_of g.D.Disk.seen g.D.Disk.faults g.D.Disk.clock in
    let old = c.args.self.now in
    let mid = c.fetch_among.new.self in
    let new : WholeNode = record mid { mail = c.draw_ticket.new.self } in
    let w = c.requires.works in
    let e = c.in_ok-letters.ensures in (
      record {
        fresh = c.is_worn.ensures.reads plan seconds (Fetch c.args.user c.args.id c.args.from c.args.most holders) tt ∙ c.if-is_worn.false;
        ticket_is = ap Some (c.next_ticket-ticket.ensures ∙ ap (λ (o : ℕ). new_number o (node_seen old.mail)) is.own_is);
        none_thrown = c.sent.ensures.thrown;
      },
      subst (ReadDone on (FetchesBy own c.args.user c.args.id c.args.from c.args.most holders) old c.args.disk.now new c.fetch_among.new.disk) (sym c.sent.ensures.letters)
          (fetch_begun on plan own c.args.user c.args.id c.args.from c.args.most c.args.asked holders old c.args.disk.now mid c.fetch_among.new.disk (sym is.own_is) asked e.halves e.locks
          c.next_ticket-ticket.result c.in_ok-letters.letters new c.requires.some c.next_ticket-ticket.ensures w.maps w.reads (kept_by _ mid.mail new.mail c.draw_ticket.ensures.drawn)
          (numbered mid new c.draw_ticket.ensures.drawn refl refl refl) refl e.fetches),
    )

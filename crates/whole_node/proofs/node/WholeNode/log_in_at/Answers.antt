use Rattle.std.proofs.Common.{◌≡◌, ℕ, List, Some, refl, sym, ap, ◌∙◌, subst}
use Rattle.object_model.specs.Letters.{Letter}
use Rattle.cluster_model.specs.Rules.{new_number}
use Rattle.cluster_model.specs.Steps.NodeCall.{Login}
use Rattle.mail_base.specs.Bodies.{proof_seen}
use Rattle.node_core.specs.Nodes.{node_seen}
use Rattle.whole_node.specs.Reading.{ReadDid, BeginsBy}
use Rattle.whole_node.specs.declared.node.WholeNode.{WholeNode}
use Rattle.whole_node.proofs.LoggedIn.{login_begun, numbered, kept_by}
use Rattle.whole_node.proofs.node.WholeNode.log_in_at.Goals as goal

pub returns-clause-begins : goal.returns-clause-begins
returns-clause-begins c plan own seconds is users =
    let old = c.args.self.now in
    let mid = c.log_in.new.self in
    let new : WholeNode = record mid { mail = c.draw_ticket.new.self } in
    let proof = proof_seen c.args.proof in
    let has = c.requires.reads.maps in (
      record {
        fresh = c.is_worn.ensures.reads plan seconds (Login c.args.user proof) tt ∙ c.if-is_worn.false;
        ticket_is = ap Some (c.next_ticket-ticket.ensures ∙ ap (λ (o : ℕ). new_number o (node_seen old.mail)) is.own_is);
        none_thrown = c.sent.ensures.thrown;
      },
      subst (ReadDid (BeginsBy plan own c.args.user proof) old new) (sym c.sent.ensures.letters)
          (login_begun plan own c.args.user proof c.in_ok-letters.letters old mid new (sym is.own_is) c.in_ok-letters.ensures.halves (kept_by _ mid.mail new.mail c.draw_ticket.ensures.drawn)
          (numbered mid new c.draw_ticket.ensures.drawn refl refl refl) refl (c.in_ok-letters.ensures.ok plan users) has.records has.keeps),
    )

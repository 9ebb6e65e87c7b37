-- A call that reads and fails at once.
use Rattle.std.proofs.Common.{◌≡◌, ◌+◌, ℕ, [], refl, sym, ap, ◌∙◌, arith}
use Rattle.std.specs.FinMap as fin
use Rattle.object_model.specs.Mishaps.{Mishaps, no_mishaps, counted}
use Rattle.object_model.specs.Mishaps.MishapKind.{FewMembers}
use Rattle.cluster_model.specs.Cluster as plain
use Rattle.cluster_model.specs.Rules.{refuse}
use Rattle.node_tickets.specs.Standing.{IsOf, tickets_in}
use Rattle.node_tickets.specs.declared.tickets.Tickets.{Tickets}
use Rattle.node_core.specs.Nodes.{node_seen, IsWhole, IsNodeOf, Becomes}
use Rattle.node_core.specs.Drawing.{with_call}
use Rattle.node_core.specs.declared.node.Node.{Node}

-- its ticket is put among those of the node, and its number is drawn
module _ (old new : Node) (tickets : Tickets) where
  abbrev mid : Node
  mid = record old { tickets = tickets }

  whole_mid : IsOf old.tickets.own old.tickets.boot old.tickets.confirm tickets → IsWhole old → IsWhole mid
  whole_mid is w = record {
    tickets = record { own_is = is.own_is ∙ w.tickets.own_is; boot_is = is.boot_is ∙ w.tickets.boot_is; confirm_is = is.confirm_is ∙ w.tickets.confirm_is };
    boot = w.boot;
    shape = w.shape;
  }

  zero_more : (n : ℕ) → n ≡ n + 0
  zero_more n = omega arith

  pub refused_read : (kind : plain.CallKind) (mishaps : Mishaps) → mishaps ≡ counted FewMembers no_mishaps → IsOf old.tickets.own old.tickets.boot old.tickets.confirm tickets
      → tickets_in tickets ≡ fin.insert (tickets_in old.tickets) (old.numbers.calls + 1) (record { kind = kind; wants = []; mishaps = mishaps })
      → Becomes (with_call (node_seen mid)) mid new → Becomes (refuse kind (counted FewMembers no_mishaps) 0 (node_seen old) []).node old new
  refused_read kind mishaps few is opened b = record {
    seen_is = b.seen_is ∙ ap (λ (t : plain.Tickets). record (with_call (node_seen old)) { tickets = t }) (opened ∙ ap (λ (m : Mishaps). fin.insert (tickets_in old.tickets) (old.numbers.calls + 1) (record { kind = kind; wants = []; mishaps = m })) few)
        ∙ ap (λ (n : ℕ). record (refuse kind (counted FewMembers no_mishaps) 0 (node_seen old) []).node { drawn = n }) (zero_more old.numbers.drawn);
    store = b.store;
    same = λ plan own p. b.same plan own (record { own_is = p.own_is; nodes = p.nodes; copies = p.copies; confirm = p.confirm });
    keeps = λ records k. b.keeps records k;
    works = λ seen w. b.works seen (record { store = w.store; whole = whole_mid is w.whole });
    whole = λ w. b.whole (whole_mid is w);
    end_is = b.end_is;
  }

-- A node that starts in its first boot.
use Rattle.std.proofs.Common.{◌≡◌, ◌<◌, ◌≤◌, ℕ, List, [], ◌∷◌, None, sym, ap, subst, ◌∙◌, arith}
use Rattle.std.specs.FinMap as fin
use Rattle.mail_model.specs.Plan.{Plan}
use Rattle.mail_model.specs.Record.{Record, payloads_of}
use Rattle.mail_model.specs.Record.Record.{Boot}
use Rattle.disk_journal.specs.Journal.{TellsJournal, end_of}
use Rattle.node_store.specs.Disks.{View}
use Rattle.node_store.specs.Changes.{IsNew, with_boot}
use Rattle.node_store.specs.Keeps.{KeepsRecords}
use Rattle.node_store.specs.Writes.{Done}
use Rattle.node_store.specs.declared.store.NodeStore.{NodeStore}
use Rattle.node_tickets.specs.Standing.{IsOf, tickets_in}
use Rattle.node_core.specs.First.{IsFirst}
use Rattle.node_core.specs.Nodes.{end_in}
use Rattle.node_core.specs.declared.node.Node.{Node}

module _ {D : Type 0} (on : View D) (plan : Plan) (own : ℕ) (before mid after : D) (store : NodeStore) (fresh : IsNew own store) (stood : TellsJournal (on.seen mid) own [] (end_of store.journal))
    (quiet : on.faults mid ≡ on.faults before) (new : NodeStore) (did : Done on (with_boot 1) store mid new after) where
  added : Boot 1 ∷ [] ≡ did.added
  added = did.whole [] fresh.keeps

  pub is_first : (node : Node) → node.store ≡ new → node.numbers.boot ≡ 1 → node.numbers.drawn ≡ 0 → node.numbers.count ≡ 0 → node.numbers.calls ≡ 0 → node.shape.nodes ≡ plan.nodes
      → node.shape.copies ≡ plan.copies → node.shape.confirm ≡ plan.confirm → node.shape.installed ≡ None → IsOf own 1 node.shape.confirm node.tickets → tickets_in node.tickets ≡ fin.empty
      → 0 < own → own ≤ plan.nodes → plan.nodes ≤ 16 → 1 ≤ plan.copies → IsFirst on plan own before after node
  is_first node store_is boot drawn count calls nodes copies confirm installed whose none some within few copied =
      let own_is : node.store.own ≡ own = ap (λ (s : NodeStore). s.own) store_is ∙ did.own ∙ fresh.own_is in
      let log_is : node.store.log ≡ fin.empty = ap (λ (s : NodeStore). s.log) store_is ∙ sym (did.log [] fresh.keeps) ∙ fresh.log in
      record {
        seen_is = λ i. record {
          boot = boot i;
          drawn = drawn i;
          count = count i;
          calls = calls i;
          installed = installed i;
          log = log_is i;
          tickets = none i;
        };
        of_plan = record { own_is = own_is; nodes = nodes; copies = copies; confirm = confirm };
        works = record {
          store = subst (λ (s : NodeStore). Rattle.node_store.specs.Keeps.CanGoOn (on.seen after) s) (sym store_is) did.sound;
          whole = record {
            tickets = subst (λ (o : ℕ). IsOf o node.numbers.boot node.shape.confirm node.tickets) (sym own_is) (subst (λ (n : ℕ). IsOf own n node.shape.confirm node.tickets) (sym boot) whose);
            boot = omega (arith, boot);
            shape = record {
              some = omega (arith, own_is, some);
              within = omega (arith, own_is, nodes, within);
              few = omega (arith, nodes, few);
              copies = omega (arith, copies, copied);
            };
          };
        };
        keeps = subst (λ (l : List Record). KeepsRecords l node.store) (sym added) (subst (KeepsRecords did.added) (sym store_is) (did.keeps [] fresh.keeps));
        tells = subst (λ (l : List Record). TellsJournal (on.seen after) own (payloads_of l) (end_in node)) (sym added)
            (subst (λ (s : NodeStore). TellsJournal (on.seen after) own (payloads_of did.added) (end_of s.journal)) (sym store_is) (did.appends.stand own [] stood));
        quiet = did.appends.quiet ∙ quiet;
      }

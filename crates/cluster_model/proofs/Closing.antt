-- A node that notes a mishap or ends a ticket acts as the invariant asks.
use Rattle.std.proofs.Common.{◌≡◌, ◌≢◌, ◌⊎◌, ◌≤◌, inl, ⊎_elim, ℕ, ◌+◌, Bool, true, false, List, [], map, Option, Some, None, refl, sym, ap, ◌∙◌, subst, true≢false, if◌then◌else◌, le_refl, arith}
use Rattle.std.specs.FinMap as fin
use Rattle.std.specs.Cmp.{nat_cmp_total}
use Rattle.std.proofs.lemmas.Map.Lookups.{exact_unsigned}
use Rattle.mail_model.specs.Record.{Record}
use Rattle.object_model.specs.Sets.{has, with_node, without_node}
use Rattle.object_model.specs.Lists.{Among}
use Rattle.object_model.specs.Letters.{Number, Letter}
use Rattle.cluster_model.specs.Cluster.{AskedOfNodes, Want, Ticket, Node, Life, CallKind}
use Rattle.cluster_model.specs.Cluster.Life.{Up}
use Rattle.cluster_model.specs.Claims.{Wants, LifeWaits, Covers, Covered}
use Rattle.cluster_model.specs.Moves.{IsCallDone, IsReady}
use Rattle.cluster_model.specs.Rules.{Reaction, idle, with_ticket, end_ticket, refuse, failed_want, failed_at, mishap}
use Rattle.object_model.proofs.SetLaws.{left_in}
use Rattle.object_model.proofs.MapLaws.{found, left_found}
use Rattle.cluster_model.specs.Deeds.{act_of, slot_up}
use Rattle.cluster_model.proofs.Tickets.{Came, Begins, numbered, tickets_react, rewanted, as_it_was}
use Rattle.cluster_model.proofs.HearTold.{still_acts}
use Rattle.object_model.specs.Mishaps.{MishapKind, Mishaps, counted}

-- what becomes of a want at which a node fails
record Failed (at : ℕ) (old new : Want) : Type 0 where
  asked : old.asked ≡ new.asked
  confirmed : old.confirmed ≡ new.confirmed
  waits : (m : ℕ) → has new.waiting m ≡ true → (has old.waiting m ≡ true) × (m ≢ at)

failed_is : (at : ℕ) (want : Want) → Failed at want (failed_want at want)
failed_is at want = by (has want.waiting at) refl
  where
    by : (b : Bool) → has want.waiting at ≡ b → Failed at want (if b then record want { waiting = without_node want.waiting at; failed = with_node want.failed at } else want)
    by true e = record { asked = refl; confirmed = refl; waits = λ m h. left_in want.waiting at m h }
    by false e = record { asked = refl; confirmed = refl; waits = λ m h. (h, λ is. true≢false (sym h ∙ ap (has want.waiting) is ∙ e)) }

module _ (own : ℕ) (node : Node) (disk : List Record) (ready : IsReady own (slot_up node disk) None) where
  pub unheard : (out : List Letter) (life : Life) (letter : Letter) → None ≡ Some letter → (number : Number) (m : ℕ) (asked : AskedOfNodes) → Covers letter number m asked
      → Covered out number m asked ⊎ ((number.node ≡ own) × (LifeWaits life number m asked → ⊥))
  unheard out life letter e = absurd (cc e)

  failed_acts : (kind : MishapKind) (seq at : ℕ) (found : Option Ticket) → fin.get node.tickets seq ≡ found → IsCallDone (act_of own node disk (failed_at kind node disk seq at found) None None [])
  failed_acts kind seq at None e = still_acts own node disk None node refl refl (le_refl node.drawn) ready
      (tickets_react own node disk (idle node disk) None None [] refl (λ s want w. inl (as_it_was (act_of own node disk (idle node disk) None None []) s want w)) (unheard [] (Up node)))
  failed_acts kind seq at (Some ticket) e = still_acts own node disk None after refl refl (le_refl node.drawn) ready (tickets_react own node disk did None None [] refl came (unheard [] (Up after)))
    where
      after : Node
      after = with_ticket node seq (record ticket { wants = map (failed_want at) ticket.wants; mishaps = counted kind ticket.mishaps })

      did : Reaction
      did = record { node = after; disk = disk; out = [] }

      came : (s : ℕ) (want : Want) → Wants (Up after) s want → Came (act_of own node disk did None None []) s want ⊎ Begins (act_of own node disk did None None []) (numbered own node disk did None None [] refl s) want
      came s want w = inl (⊎_elim
          (λ (here, (old, stood, is)). let f = failed_is at old in record {
            old = old;
            stood = stood;
            asked = f.asked ∙ ap (λ (x : Want). x.asked) is;
            waits = λ m h. (f.waits m (subst (λ (x : Want). has x.waiting m ≡ true) (sym is) h)).0;
            confirmed = λ m h. inl (subst (λ c. has c m ≡ true) (sym (f.confirmed ∙ ap (λ (x : Want). x.confirmed) is)) h);
          })
          (λ (apart, old). as_it_was (act_of own node disk did None None []) s want old)
          (rewanted node seq ticket (failed_want at) (counted kind ticket.mishaps) e s want w))

  pub mishap_acts : (kind : MishapKind) (seq at : ℕ) → IsCallDone (act_of own node disk (mishap kind seq at node disk) None None [])
  mishap_acts kind seq at = failed_acts kind seq at (fin.get node.tickets seq) refl

  -- a ticket that asks nothing of nodes stands from here on
  asks_nothing : (drawn : ℕ) (ticket : Ticket) → node.drawn ≤ drawn → ticket.wants ≡ []
      → IsCallDone (act_of own node disk (record { node = record node { drawn = drawn; calls = node.calls + 1; tickets = fin.insert node.tickets (node.calls + 1) ticket }; disk = disk; out = [] }) None None [])
  asks_nothing drawn ticket rises none = still_acts own node disk None did.node refl refl rises ready (tickets_react own node disk did None None [] refl
      (λ s want w. inl (⊎_elim
      (λ (at, is). absurd (subst (Among want) none (subst (λ (t : Ticket). Among want t.wants) is w.inside)))
      (λ (apart, old). as_it_was (act_of own node disk did None None []) s want (record { ticket = w.ticket; here = old; inside = w.inside }))
      (found nat_cmp_total exact_unsigned node.tickets (node.calls + 1) ticket s w.ticket w.here)))
      (unheard [] (Up did.node)))
    where
      did : Reaction
      did = record { node = record node { drawn = drawn; calls = node.calls + 1; tickets = fin.insert node.tickets (node.calls + 1) ticket }; disk = disk; out = [] }

  pub refuse_acts : (kind : CallKind) (mishaps : Mishaps) (drawn : ℕ) → IsCallDone (act_of own node disk (refuse kind mishaps drawn node disk) None None [])
  refuse_acts kind mishaps drawn = asks_nothing (node.drawn + drawn) (record { kind = kind; wants = []; mishaps = mishaps }) (omega arith) refl

  pub end_acts : (seq : ℕ) → IsCallDone (act_of own node disk (end_ticket seq node disk) None None [])
  end_acts seq = still_acts own node disk None after refl refl (le_refl node.drawn) ready (tickets_react own node disk (end_ticket seq node disk) None None [] refl
      (λ s want w. inl (as_it_was (act_of own node disk (end_ticket seq node disk) None None []) s want
      (record { ticket = w.ticket; here = (left_found nat_cmp_total exact_unsigned node.tickets seq s w.ticket w.here).1; inside = w.inside })))
      (unheard [] (Up after)))
    where
      after : Node
      after = record node { tickets = fin.remove node.tickets seq }

-- Where a mishap was noted, the ticket waits for that node no more.
failed_settles : (kind : MishapKind) (node : Node) (disk : List Record) (seq at : ℕ) (found : Option Ticket) → fin.get node.tickets seq ≡ found → (number : Number) (asked : AskedOfNodes) → number.seq ≡ seq
    → LifeWaits (Up (failed_at kind node disk seq at found).node) number at asked → ⊥
failed_settles kind node disk seq at None e number asked same w = clash (fin.get node.tickets number.seq) w.stands.ticket (ap (fin.get node.tickets) same ∙ e) w.stands.here
  where
    clash : (o : Option Ticket) (t : Ticket) → o ≡ None → o ≡ Some t → ⊥
    clash o t p q = cc
failed_settles kind node disk seq at (Some ticket) e number asked same w = ⊎_elim
    (λ (here, (old, stood, is)). ((failed_is at old).waits at (subst (λ (x : Want). has x.waiting at ≡ true) (sym is) w.waits)).1 refl)
    (λ (apart, old). apart same)
    (rewanted node seq ticket (failed_want at) (counted kind ticket.mishaps) e number.seq w.want w.stands)

pub mishap_settles : (kind : MishapKind) (node : Node) (disk : List Record) (seq at : ℕ) (number : Number) (asked : AskedOfNodes) → number.seq ≡ seq → LifeWaits (Up (mishap kind seq at node disk).node) number at asked → ⊥
mishap_settles kind node disk seq at number asked same w = failed_settles kind node disk seq at (fin.get node.tickets seq) refl number asked same w

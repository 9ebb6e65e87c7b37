-- A call that reads begins at a node, in words of all such calls.
use Rattle.std.proofs.Common.{◌≡◌, ◌⊎◌, inl, inr, ⊎_elim, ℕ, ◌+◌, ◌<◌, ◌≤◌, Bool, true, false, List, [], ◌∷◌, length, map, get_or, Option, Some, None, is_some, Result, Ok, Err, refl, sym, ap, ◌∙◌, subst, arith}
use Rattle.std.specs.Prelude.{IfOk, slice_get, slice_set}
use Rattle.std.proofs.lemmas.Option.{slice_get-get_or}
use Rattle.mail_model.specs.Identity.{Id}
use Rattle.mail_model.specs.Plan.{Plan, Proof}
use Rattle.mail_model.specs.Record.{Record}
use Rattle.object_model.specs.Lists.{Among}
use Rattle.object_model.specs.Letters.{Number, Letter}
use Rattle.cluster_model.specs.Steps.{NodeCall}
use Rattle.cluster_model.specs.Steps.NodeCall.{Login, Fetch, Leave}
use Rattle.joint_model.specs.Joint.{Node}
use Rattle.joint_world.specs.Rules.{Reaction, left}
use Rattle.node_store.specs.Disks.{View}
use Rattle.node_core.specs.Beginning.{call_seen}
use Rattle.node_core.specs.Nodes.{node_seen, IsNodeOf}
use Rattle.node_core.specs.Works.{LeavesUp}
use Rattle.node_core.specs.declared.fault.NodeFault.{NodeFault}
use Rattle.node_core.specs.declared.fault.NodeFault.TheVariants.{Disk, Worn, NoMemory}
use Rattle.node_core.specs.declared.outbox.Outbox.{Outbox}
use Rattle.node_core.proofs.Parts.{as_it_is}
use Rattle.call_tickets.specs.declared.call.Call.{Call}
use Rattle.whole_node.specs.Nodes.{WholeWorks, joint_seen}
use Rattle.whole_node.specs.Reading.{BeginsBy, BeginsLogin, BeginsFetch, AreReadLetters, ReadDid, ReadDone, IsUnchanged}
use Rattle.whole_node.specs.declared.node.WholeNode.{WholeNode}
use Rattle.cluster_world.specs.BeginningReads.{BeginsReading, LeavesAs, TurnsReading, BeginsReadAt, CanBePut}
use Rattle.cluster_world.specs.Changes.{ChangesNode}
use Rattle.cluster_world.specs.Lives.{of_node, CanWorkOn}
use Rattle.cluster_world.specs.Reading.{AreFor, AreOfOne, ticket_under, ticket_among}
use Rattle.cluster_world.specs.Turns.{node_refusal}
use Rattle.cluster_world.specs.Worlds.{life_among}
use Rattle.cluster_world.specs.declared.life.Life.{Life}
use Rattle.cluster_world.specs.declared.life.Life.TheVariants.{Up}
use Rattle.cluster_world.specs.declared.nodes.Nodes.{Nodes}
use Rattle.cluster_world.specs.declared.step.Step.TheVariants as step
use Rattle.cluster_world.proofs.BeginParts.{Began, begin_named, begin_there, within_of, up_same}
use Rattle.cluster_world.proofs.Changing.{changed_at, node_at}
use Rattle.cluster_world.proofs.FlightLaws.{all_heard}
use Rattle.cluster_world.proofs.Still.{nothing_read}

-- letters of one ticket, or of none
after_none : (ticket : Option Number) (t rest : Option Number) → (t ≡ None) ⊎ (t ≡ ticket) → (rest ≡ None) ⊎ (rest ≡ ticket) → (ticket_under t rest ≡ None) ⊎ (ticket_under t rest ≡ ticket)
after_none ticket None rest first more = more
after_none ticket (Some number) rest first more = first

among_is : (ticket : Option Number) (letters : List Letter) → AreFor ticket letters → (ticket_among letters ≡ None) ⊎ (ticket_among letters ≡ ticket)
among_is ticket [] all = inl refl
among_is ticket (letter ∷ letters) all = after_none ticket letter.ticket (ticket_among letters) (all letter (inl refl)) (among_is ticket letters (λ one inside. all one (inr inside)))

under_some : (t rest : Option Number) (number : Number) → t ≡ Some number → ticket_under t rest ≡ Some number
under_some None rest number e = absurd (let never : None ≡ Some number = e in cc)
under_some (Some n) rest number e = e

none_under : (t rest : Option Number) → ticket_under t rest ≡ None → (t ≡ None) × (rest ≡ None)
none_under None rest e = (refl, e)
none_under (Some n) rest e = absurd (let never : Some n ≡ None = e in cc)

all_none : (letters : List Letter) → ticket_among letters ≡ None → (one : Letter) → Among one letters → one.ticket ≡ None
all_none [] e one inside = absurd inside
all_none (letter ∷ letters) e one inside = ⊎_elim
    (λ (same : letter ≡ one). subst (λ (l : Letter). l.ticket ≡ None) same (none_under letter.ticket (ticket_among letters) e).0)
    (λ (rest : Among one letters). all_none letters (none_under letter.ticket (ticket_among letters) e).1 one rest)
    inside

pub of_one : (letters : List Letter) (ticket : Option Number) → AreFor ticket letters → AreOfOne letters
of_one letters ticket all = ⊎_elim
    (λ (none : ticket_among letters ≡ None). λ one inside. inl (all_none letters none one inside))
    (λ (is : ticket_among letters ≡ ticket). subst (λ t. AreFor t letters) (sym is) all)
    (among_is ticket letters all)

-- so are those that a node sends for a call that reads: they can be put in flight
pub sent_put : (letters : List Letter) → AreReadLetters letters → CanBePut letters
sent_put letters sent = record { few = sent.few; heard = all_heard letters sent.taken sent.fits; one = of_one letters sent.one.0 sent.one.1 }

module _ {D : Type 0} (on : View D) (plan : Plan) (own seconds : ℕ) (old new : WholeNode) (disk : D) where
  -- no disk was looked at
  did_done : (rule : Bool → Node → List Record → Reaction → Type 0) (letters : List Letter) → ReadDid rule old new letters → ReadDone on (λ told node records did. (tells : Bool) → rule tells node records did) old disk new disk letters
  did_done rule letters d = record {
    did = λ records keeps told. λ tells. d.did tells records keeps;
    mail = d.mail;
    maps = d.maps;
    letters = d.letters;
    read = nothing_read on disk disk refl;
    quiet = refl;
  }

  pub login_begins : (user : List ℕ) (proof : Proof) (result : Began) → BeginsLogin plan own seconds user proof result old new → BeginsReading on plan own seconds (Login user proof) old disk new disk result
  login_begins user proof (Ok begun) (h, d) = record {
    fresh = h.fresh;
    ticket_is = h.ticket_is;
    done = did_done (BeginsBy plan own user proof) begun.1.letters d;
  }
  login_begins user proof (Err Disk) b = absurd b
  login_begins user proof (Err Worn) (worn, same) = (worn, same, refl)
  login_begins user proof (Err (NoMemory true)) b = absurd b
  login_begins user proof (Err (NoMemory false)) same = record { unchanged = same; read = nothing_read on disk disk refl; quiet = refl }

  pub left_begins : (user : List ℕ) (login : Number) (manager : ℕ) (result : Began) → IsNodeOf plan own old.mail → LeavesAs user login manager result old new → BeginsReading on plan own seconds (Leave user login manager) old disk new disk result
  left_begins user login manager (Ok begun) of h = record {
    fresh = h.fresh plan seconds;
    ticket_is = h.none;
    done = did_done (λ tells node records did. did ≡ left tells own node user login manager) begun.1.letters
        (subst (λ k. ReadDid (λ tells node records did. did ≡ left tells k node user login manager) old new begun.1.letters) of.own_is h.did);
  }
  left_begins user login manager (Err Disk) of h = absurd h
  left_begins user login manager (Err Worn) of h = absurd h
  left_begins user login manager (Err (NoMemory true)) of h = absurd h
  left_begins user login manager (Err (NoMemory false)) of same = record {
    unchanged = subst (λ (x : WholeNode). IsUnchanged old x) (sym same) (record { mail = as_it_is old.mail; maps = refl; reads = refl; locks = refl });
    read = nothing_read on disk disk refl;
    quiet = refl;
  }

pub fetch_begins : {D : Type 0} (on : View D) (plan : Plan) (own seconds : ℕ) (old new : WholeNode) (before after : D) (user : List ℕ) (id : Id) (at most holders : ℕ) (result : Began)
    → BeginsFetch on plan own old before new after seconds user id at most holders result → BeginsReading on plan own seconds (Fetch user id at most holders) old before new after result
fetch_begins on plan own seconds old new before after user id at most holders (Ok begun) (h, d) = record { fresh = h.fresh; ticket_is = h.ticket_is; done = d }
fetch_begins on plan own seconds old new before after user id at most holders (Err Disk) f = record { fresh = f.fresh; reads = f.holds; failed = f.failed }
fetch_begins on plan own seconds old new before after user id at most holders (Err Worn) b = b
fetch_begins on plan own seconds old new before after user id at most holders (Err (NoMemory true)) b = absurd b
fetch_begins on plan own seconds old new before after user id at most holders (Err (NoMemory false)) b = b

-- the node of the world does, where the nodes are lent
module _ {D : Type 0} (on : View D) (n : ℕ) (call : Call) (lent old : Nodes D) (same : lent ≡ old) (fit : node_refusal old.plan (life_among old) (step.Begin n call) ≡ None)
    (ready : CanWorkOn on.seen old.plan old.lives.items old.disks.items) (k : ℕ) (at : k + 1 ≡ n) (l dl : Life) (d dd : D) (read : l ≡ get_or lent.lives.items k dl) (held : d ≡ get_or lent.disks.items k dd) where
  within : k < old.plan.nodes
  within = omega (arith, at, (within_of old.plan n (Rattle.cluster_model.specs.Steps.nodes_of_call (call_seen call)) (begin_named n call old fit)).1)

  life_here : slice_get old.lives.items k ≡ Some l
  life_here = slice_get-get_or old.lives.items k dl (omega (arith, within, old.all)) ∙ ap Some (sym (read ∙ ap (λ (x : Nodes D). get_or x.lives.items k dl) same))

  disk_here : slice_get old.disks.items k ≡ Some d
  disk_here = slice_get-get_or old.disks.items k dd (omega (arith, within, old.disk_each)) ∙ ap Some (sym (held ∙ ap (λ (x : Nodes D). get_or x.disks.items k dd) same))

  pub reads_changed : (is_settled : D → Type 0) (began : Began) (l' : Life) (d' : D) (new : Nodes D) → new.plan ≡ lent.plan → new.lives.items ≡ slice_set lent.lives.items k l' → new.disks.items ≡ slice_set lent.disks.items k d'
      → TurnsReading on is_settled (call_seen call) lent.plan began l d l' d' → ChangesNode n (BeginsReadAt on is_settled (call_seen call) began old.plan n) old new
  reads_changed is_settled began l' d' new plan_is lives_are disks_are turns =
      let (node, up, of, can) = begin_there n call old fit on.seen ready l (node_at old.lives.items n k at ∙ life_here) d (node_at old.disks.items n k at ∙ disk_here) in
      let mine : node ≡ turns.old = up_same node turns.old (sym up ∙ turns.was) in
      let there : IsNodeOf old.plan n turns.old.mail = subst (λ (x : WholeNode). IsNodeOf old.plan n x.mail) mine of in
      changed_at n k (BeginsReadAt on is_settled (call_seen call) began old.plan n) old new l l' d d' at life_here disk_here (plan_is ∙ ap (λ (x : Nodes D). x.plan) same)
      (lives_are ∙ ap (λ (x : Nodes D). slice_set x.lives.items k l') same) (disks_are ∙ ap (λ (x : Nodes D). slice_set x.disks.items k d') same)
      (record {
        old = turns.old;
        new = turns.new;
        was = turns.was;
        of = there;
        can = subst (λ (x : WholeNode). WholeWorks (on.seen d) x) mine can;
        did = λ seconds. subst (λ p. BeginsReading on p n seconds (call_seen call) turns.old d turns.new d' began) (ap (λ (x : Nodes D). x.plan) same)
            (turns.did n seconds (subst (λ p. IsNodeOf p n turns.old.mail) (sym (ap (λ (x : Nodes D). x.plan) same)) there));
        is = turns.is;
        works = turns.works;
        settled = turns.settled;
      })

-- A node that is up is whole.
use Rattle.std.proofs.Common.{◌≡◌, ◌<◌, ◌+◌, ℕ, true, List, Option, None, Some, length, get_or, refl, sym, ap, ◌∙◌}
use Rattle.std.proofs.lemmas.Option.{slice_get-get_or}
use Rattle.node_core.specs.Nodes.{IsWhole}
use Rattle.whole_node.specs.declared.node.WholeNode.{WholeNode}
use Rattle.cluster_world.specs.Lives.{of_node, CanWorkOn}
use Rattle.cluster_world.specs.declared.life.Life.{Life}
use Rattle.cluster_world.specs.declared.life.Life.TheVariants.{Up}
use Rattle.cluster_world.specs.declared.nodes.Nodes.{Nodes}
use Rattle.cluster_world.proofs.Asked.{disk_of, ready_of}
use Rattle.cluster_world.proofs.Changing.{node_at}
use Rattle.whole_node.specs.Nodes.{HasReads, joint_seen}
use Rattle.whole_node.proofs.ReadDids.{standing_is}
use Rattle.node_reads.specs.Asking.{kind_of, kind_at}
use Rattle.node_reads.specs.Tables.{ticket_at}
use Rattle.login_model.specs.Readings.{Reading, ReadTicket}
use Rattle.login_model.specs.Readings.Reading.{LogsIn, Fetches}
use Rattle.login_model.specs.Rules.{read_at}
use Rattle.joint_model.specs.Joint.{read_node}
use Rattle.node_core.specs.Standing.{ticket_standing}
use Rattle.node_tickets.specs.Standing.{call_kind_seen, kind_of_ticket}
use Rattle.mail_base.specs.declared.filing.CallKind.{CallKind}
use Rattle.object_model.specs.Letters.{Number}
use Rattle.cluster_model.specs.Cluster as plain
use Rattle.cluster_world.specs.Telling.{kind_on, kind_read, kind_of_reading, first_kind, reading_on}
use Rattle.node_tickets.specs.Seen.{kind_seen}

pub whole_there : {D : Type 0} (seen : D → Option (List ℕ)) (nodes : Nodes D) → CanWorkOn seen nodes.plan nodes.lives.items nodes.disks.items → (n : ℕ) (l : Life) → Some l ≡ of_node nodes.lives.items n
    → (node : WholeNode) → l ≡ Up node → IsWhole node.mail
whole_there seen nodes works n l e node is =
    let here : of_node nodes.lives.items n ≡ Some (Up node) = sym e ∙ ap Some is in
    let (disk, held) = disk_of nodes.disks.items nodes.lives.items n (Up node) (nodes.all ∙ sym nodes.disk_each) here in
    (ready_of seen nodes.plan nodes.lives.items nodes.disks.items works n node disk here held).1.mail.whole

pub own_there : {D : Type 0} (seen : D → Option (List ℕ)) (nodes : Nodes D) → CanWorkOn seen nodes.plan nodes.lives.items nodes.disks.items → (n : ℕ) (l : Life) → Some l ≡ of_node nodes.lives.items n
    → (node : WholeNode) → l ≡ Up node → node.mail.store.own ≡ n
own_there seen nodes works n l e node is =
    let here : of_node nodes.lives.items n ≡ Some (Up node) = sym e ∙ ap Some is in
    let (disk, held) = disk_of nodes.disks.items nodes.lives.items n (Up node) (nodes.all ∙ sym nodes.disk_each) here in
    (ready_of seen nodes.plan nodes.lives.items nodes.disks.items works n node disk here held).0.own_is

-- at its place
pub own_at : {D : Type 0} (seen : D → Option (List ℕ)) (nodes : Nodes D) → CanWorkOn seen nodes.plan nodes.lives.items nodes.disks.items → (k : ℕ) (l : Life) → k < length nodes.lives.items
    → l ≡ get_or nodes.lives.items k l → (n : ℕ) → n ≡ k + 1 → (node : WholeNode) → l ≡ Up node → node.mail.store.own ≡ n
own_at seen nodes works k l within read n at =
    own_there seen nodes works n l (ap Some read ∙ sym (slice_get-get_or nodes.lives.items k l within) ∙ sym (node_at nodes.lives.items n k (sym at)))

-- a node that is up is whole, with its tickets of calls that read
pub reads_there : {D : Type 0} (seen : D → Option (List ℕ)) (nodes : Nodes D) → CanWorkOn seen nodes.plan nodes.lives.items nodes.disks.items → (n : ℕ) (l : Life) → Some l ≡ of_node nodes.lives.items n
    → (node : WholeNode) → l ≡ Up node → HasReads node × (node.mail.store.own ≡ n)
reads_there seen nodes works n l e node is =
    let here : of_node nodes.lives.items n ≡ Some (Up node) = sym e ∙ ap Some is in
    let (disk, held) = disk_of nodes.disks.items nodes.lives.items n (Up node) (nodes.all ∙ sym nodes.disk_each) here in
    let (of, can) = ready_of seen nodes.plan nodes.lives.items nodes.disks.items works n node disk here held in
    (record { whole = can.mail.whole; maps = can.maps; reads = can.reads }, of.own_is)

-- the kind of the call of a ticket among those that read
read_kind : (t : Option ReadTicket) → call_kind_seen (kind_at t) ≡ kind_read t
read_kind None = refl
read_kind (Some ticket) = by ticket.reading
  where
    by : (r : Reading) → Some (kind_seen (kind_of r)) ≡ Some (kind_of_reading r)
    by (LogsIn login) = refl
    by (Fetches fetch) = refl

pub mail_kind_on : (node : WholeNode) (number : Number) (kind : CallKind) (o : Option CallKind) → Some kind ≡ o → call_kind_seen o ≡ kind_of_ticket (ticket_standing node.mail number) → call_kind_seen (Some kind) ≡ kind_on (Some (Up node)) number
mail_kind_on node number kind o is found = by (kind_of_ticket (ticket_standing node.mail number)) (ap call_kind_seen is ∙ found)
  where
    by : (k : Option plain.CallKind) → call_kind_seen (Some kind) ≡ k → call_kind_seen (Some kind) ≡ first_kind k (kind_read (reading_on (Some (Up node)) number))
    by None e = absurd (let never : Some (kind_seen kind) ≡ None = e in cc)
    by (Some k) e = e

pub read_kind_on : (node : WholeNode) → HasReads node → (number : Number) → node.mail.store.own ≡ number.node → (o r : Option CallKind) → None ≡ o → call_kind_seen o ≡ kind_of_ticket (ticket_standing node.mail number)
    → r ≡ kind_at (ticket_at node.reads number) → call_kind_seen r ≡ kind_on (Some (Up node)) number
read_kind_on node has number own o r none found reads =
    ap call_kind_seen reads ∙ read_kind (ticket_at node.reads number) ∙ ap kind_read (standing_is true node has.reads number)
    ∙ ap (λ n. kind_read (read_at n (read_node true (joint_seen node)) (Some number))) own
    ∙ ap (λ k. first_kind k (kind_read (reading_on (Some (Up node)) number))) (ap call_kind_seen none ∙ found)

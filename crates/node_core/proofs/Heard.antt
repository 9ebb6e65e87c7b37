-- The work that a letter asks for, as the work of hearing it.
use Rattle.std.proofs.Common.{◌≡◌, ℕ, List, [], Option, Some, None, refl, sym, ap, subst, ◌∙◌}
use Rattle.std.specs.Prelude.{Result, Ok, Err}
use Rattle.mail_model.specs.Plan.{Plan}
use Rattle.mail_model.specs.Record.{Record}
use Rattle.object_model.specs.Letters.{Body, Letter}
use Rattle.mail_base.specs.declared.body.Body as code
use Rattle.mail_base.specs.Bodies.{body_seen}
use Rattle.cluster_model.specs.Cluster as plain
use Rattle.cluster_model.specs.Rules.{Reaction, idle, ticket_at, told_at, hear_told}
use Rattle.cluster_model.specs.Thrown.{thrown_by}
use Rattle.cluster_model.specs.Deeds.{hear_body, hear}
use Rattle.node_store.specs.Disks.{View}
use Rattle.node_store.specs.Appends.{Fails}
use Rattle.node_store.specs.declared.fault.KeepFault.{KeepFault}
use Rattle.node_store.specs.declared.fault.KeepFault.TheVariants as keep
use Rattle.node_core.specs.Nodes.{node_seen, CanWork, IsNodeOf}
use Rattle.node_core.specs.Spelling.{AllCanBeTaken}
use Rattle.node_core.specs.Answering.{answers_to}
use Rattle.node_core.specs.Works.{Rule, NodeDid, NodeStopped, NodeFailed, SentLetters, HasLearned, TicketsAreTold, fault_of}
use Rattle.node_core.specs.Hearing.{LetterHeard, HearsLetter}
use Rattle.node_core.specs.declared.node.Node.{Node}
use Rattle.node_store.specs.declared.store.NodeStore.{NodeStore}
use Rattle.node_core.specs.declared.shape.Shape.{Shape}
use Rattle.node_core.proofs.Doing.{did_none, did_same, stopped_same, did_learned, stopped_learned}
use Rattle.node_core.proofs.Sending.{none_fit}

-- what the letter says, in plain words
pub body_is : (letter : Letter) (inside : code.Body) (body : code.Body) → letter.body ≡ body_seen inside → inside ≡ body → letter.body ≡ body_seen body
body_is letter inside body view is = view ∙ ap body_seen is

module _ {D : Type 0} (on : View D) (own nodes : ℕ) (letter : Letter) (old : Node) (before : D) (after : D) where
  abbrev pub hearing : Rule
  hearing node disk = hear_body own nodes node disk letter letter.body

  module _ (rule : Rule) (body : Body) (is : letter.body ≡ body) (same : (node : plain.Node) (disk : List Record) → rule node disk ≡ hear_body own nodes node disk letter body) where
    same_rule : (node : plain.Node) (disk : List Record) → rule node disk ≡ hearing node disk
    same_rule node disk = same node disk ∙ ap (hear_body own nodes node disk letter) (sym is)

    pub heard_did : (new : Node) (sent sent' : List Letter) → sent' ≡ sent → NodeDid on rule old before new after sent → NodeDid on hearing old before new after sent'
    heard_did new sent sent' alike d = subst (λ (l : List Letter). NodeDid on hearing old before new after l) (sym alike)
        (did_same on rule hearing old before new after sent (λ records. same_rule (node_seen old) records) d)

    pub heard_stopped : NodeStopped on rule old before after → NodeStopped on hearing old before after
    heard_stopped d = stopped_same on rule hearing old before after (λ records. same_rule (node_seen old) records) d

    pub heard_sent : (result : Result (List Letter) KeepFault) (new : Node) → SentLetters on rule result old before new after → SentLetters on hearing result old before new after
    heard_sent (Ok sent) new d = heard_did new sent sent refl d
    heard_sent (Err fault) new d = (heard_stopped d.0, d.1)

-- a store that stopped takes the node down
pub failed_of : {D : Type 0} (on : View D) (rule : Rule) (may : Type 0) (fault : KeepFault) (old : Node) (before : D) (new : Node) (after : D) → may
    → NodeStopped on rule old before after → Fails fault (on.faults before) (on.faults after) → NodeFailed on rule may (fault_of fault) old before new after
failed_of on rule may keep.Disk old before new after m s f = (m, s, f)
failed_of on rule may keep.NoMemory old before new after m s f = (m, s, f)

module _ {D : Type 0} (on : View D) (letter : Letter) (old : Node) (before : D) (new : Node) (after : D) (taken : thrown_by old.store.own (node_seen old) letter ≡ None) where
  hears_at : ℕ → ℕ → Rule
  hears_at own nodes node disk = hear own nodes node disk letter

  -- for every plan whose node it is
  pub hears_did : (sent : List Letter) → NodeDid on (λ node disk. hear old.store.own old.shape.nodes node disk letter) old before new after sent
      → (plan : Plan) (own : ℕ) → IsNodeOf plan own old → LetterHeard on own plan.nodes letter old before new after sent
  hears_did sent d plan own p =
      subst (λ (n : ℕ). LetterHeard on own n letter old before new after sent) p.nodes
      (subst (λ (o : ℕ). LetterHeard on o old.shape.nodes letter old before new after sent) p.own_is (record { taken = taken; did = d }))

  pub hears_failed : (fault : KeepFault) → NodeStopped on (λ node disk. hear old.store.own old.shape.nodes node disk letter) old before after → Fails fault (on.faults before) (on.faults after)
      → (plan : Plan) (own : ℕ) → IsNodeOf plan own old → HearsLetter on own plan.nodes letter old before new after (Err (fault_of fault))
  hears_failed fault s f plan own p =
      subst (λ (n : ℕ). HearsLetter on own n letter old before new after (Err (fault_of fault))) p.nodes
      (subst (λ (o : ℕ). HearsLetter on o old.shape.nodes letter old before new after (Err (fault_of fault))) p.own_is
      (failed_of on (λ node disk. hear old.store.own old.shape.nodes node disk letter) (thrown_by old.store.own (node_seen old) letter ≡ None) fault old before new after taken s f))

-- It learns the stamps of the letter, and then does what it says. The code's body of the letter is `inside`.
module _ {D : Type 0} (on : View D) (letter : Letter) (old mid : Node) (before after : D) (body : Body) (is : body ≡ letter.body) (learned : HasLearned body old mid) where
  abbrev rule_at : ℕ → ℕ → Rule
  rule_at own nodes node disk = hear_body own nodes node disk letter letter.body

  own_is : mid.store.own ≡ old.store.own
  own_is = ap (λ (s : NodeStore). s.own) learned.store

  nodes_is : mid.shape.nodes ≡ old.shape.nodes
  nodes_is = ap (λ (s : Shape). s.nodes) learned.shape

  same_learned : HasLearned letter.body old mid
  same_learned = subst (λ (b : Body). HasLearned b old mid) is learned

  pub learned_did : (new : Node) (sent : List Letter) → NodeDid on (rule_at mid.store.own mid.shape.nodes) mid before new after sent
      → NodeDid on (λ node disk. hear old.store.own old.shape.nodes node disk letter) old before new after sent
  learned_did new sent d = did_learned on (rule_at old.store.own old.shape.nodes) letter.body old mid same_learned before after new sent
      (subst (λ (n : ℕ). NodeDid on (rule_at old.store.own n) mid before new after sent) nodes_is
      (subst (λ (o : ℕ). NodeDid on (rule_at o mid.shape.nodes) mid before new after sent) own_is d))

  pub learned_stopped : NodeStopped on (rule_at mid.store.own mid.shape.nodes) mid before after
      → NodeStopped on (λ node disk. hear old.store.own old.shape.nodes node disk letter) old before after
  learned_stopped d = stopped_learned on (rule_at old.store.own old.shape.nodes) letter.body old mid same_learned before after
      (subst (λ (n : ℕ). NodeStopped on (rule_at old.store.own n) mid before after) nodes_is
      (subst (λ (o : ℕ). NodeStopped on (rule_at o mid.shape.nodes) mid before after) own_is d))

-- A letter that has no rule, and one that tells a ticket something. The code's body of the letter is `inside`.
module _ {D : Type 0} (on : View D) (letter : Letter) (old : Node) where
  abbrev rule_of : Rule
  rule_of node disk = hear_body old.store.own old.shape.nodes node disk letter letter.body

  pub silent_did : (disk : D) → CanWork (on.seen disk) old → (inside : code.Body) → letter.body ≡ body_seen inside → (answers : List Letter) → answers ≡ answers_to letter letter.body
      → (body : code.Body) → inside ≡ body → ((node : plain.Node) (records : List Record) → idle node records ≡ hear_body old.store.own old.shape.nodes node records letter (body_seen body))
      → answers_to letter (body_seen body) ≡ [] → NodeDid on rule_of old disk old disk answers
  silent_did disk works inside view answers are body is same none =
      let body_is : letter.body ≡ body_seen body = view ∙ ap body_seen is in
      let rule_is = λ (records : List Record). same (node_seen old) records ∙ ap (hear_body old.store.own old.shape.nodes (node_seen old) records letter) (sym body_is) in
      let none_sent : answers ≡ [] = are ∙ ap (answers_to letter) body_is ∙ none in
      did_none on rule_of old disk old answers works refl
      (λ records. ap (λ (r : Reaction). r.disk) (sym (rule_is records)))
      (λ records. ap (λ (r : Reaction). r.node) (sym (rule_is records)))
      (λ records. ap (λ (r : Reaction). r.out) (sym (rule_is records)) ∙ sym none_sent)
      (record { boot = refl; shape = refl; tickets = λ own boot confirm w. w })
      (subst AllCanBeTaken (sym none_sent) none_fit)

  told_parts : (node : plain.Node) (records : List Record) (ticket : Option plain.Ticket)
      → ((told_at node records letter ticket).disk ≡ records) × ((told_at node records letter ticket).node ≡ (told_at node [] letter ticket).node) × ((told_at node records letter ticket).out ≡ [])
  told_parts node records None = (refl, refl, refl)
  told_parts node records (Some ticket) = (refl, refl, refl)

  pub told_did : (new : Node) (disk : D) → CanWork (on.seen disk) old → TicketsAreTold letter old new → (inside : code.Body) → letter.body ≡ body_seen inside
      → (answers : List Letter) → answers ≡ answers_to letter letter.body → (body : code.Body) → inside ≡ body
      → ((node : plain.Node) (records : List Record) → hear_told old.store.own node records letter ≡ hear_body old.store.own old.shape.nodes node records letter (body_seen body))
      → answers_to letter (body_seen body) ≡ [] → NodeDid on rule_of old disk new disk answers
  told_did new disk works told inside view answers are body is same none =
      let body_is : letter.body ≡ body_seen body = view ∙ ap body_seen is in
      let rule_is = λ (records : List Record). same (node_seen old) records ∙ ap (hear_body old.store.own old.shape.nodes (node_seen old) records letter) (sym body_is) in
      let none_sent : answers ≡ [] = are ∙ ap (answers_to letter) body_is ∙ none in
      let parts = λ (records : List Record). told_parts (node_seen old) records (ticket_at old.store.own (node_seen old) letter.ticket) in
      did_none on rule_of old disk new answers works told.store
      (λ records. ap (λ (r : Reaction). r.disk) (sym (rule_is records)) ∙ (parts records).0)
      (λ records. ap (λ (r : Reaction). r.node) (sym (rule_is records)) ∙ (parts records).1 ∙ sym told.seen)
      (λ records. ap (λ (r : Reaction). r.out) (sym (rule_is records)) ∙ (parts records).2 ∙ sym none_sent)
      told.like (subst AllCanBeTaken (sym none_sent) none_fit)

-- A world of nodes in the first epoch, with these letters in flight, and what a step makes of it.
use Rattle.std.proofs.Common.{◌≡◌, ◌⊎◌, inl, inr, ⊎_elim, ◌+◌, ◌≤◌, ◌&&◌, ℕ, Bool, true, false, nat_eq, eq-eqb, List, [], ◌∷◌, ◌++◌, Option, Some, None, refl, sym, ap, ◌∙◌, subst, if◌then◌else◌}
use Rattle.std.proofs.lemmas.Bool.{and_parts, eqb-true}
use Rattle.mail_model.specs.Identity.{Id, Stamp}
use Rattle.mail_model.specs.Plan.{Plan}
use Rattle.mail_model.specs.Record.{Record}
use Rattle.object_model.specs.Letters.{Number, MapRow, Membership, Letter}
use Rattle.object_model.specs.Letters.Body.{File, Filed}
use Rattle.session_model.specs.Acts.{Act}
use Rattle.session_model.specs.Acts.Act.{StillWaits, Does}
use Rattle.session_model.specs.Acts.Deed.{IsAnswered}
use Rattle.cluster_model.specs.Cluster.{Node, Life, Slot, slot_at, with_slot}
use Rattle.cluster_model.specs.Cluster.Life.{Up, Down, Lost}
use Rattle.cluster_model.specs.Starts.{first_epoch, first_membership}
use Rattle.cluster_model.specs.Deeds.{slot_up}
use Rattle.cluster_model.specs.Rules.{Reaction, answer, end_ticket}
use Rattle.cluster_model.specs.Room.{Flight, has_room}
use Rattle.cluster_model.specs.World.{World, Flies, flies_on}
use Rattle.cluster_model.specs.Steps.{Said, letter_at}
use Rattle.cluster_model.specs.Makes.{AnswersAsk, AnswersRead, after}
use Rattle.cluster_model.specs.Makes.AnswersAsk.{Waits, Ends}
use Rattle.cluster_model.specs.Plain.{kept, without_letter}
use Rattle.accepted_tapes.specs.Follows.{Standing, FollowsAll}
use Rattle.accepted_tapes.proofs.OneSession.{OnlyAsks}
use Rattle.cluster_model.proofs.Slots.{read_before}
use Rattle.cluster_model.specs.Progress.{Ask}
use Rattle.cluster_model.specs.Steps.Step.{AskFor}
use Rattle.cluster_model.specs.Steps.Said.{Asked}
use Rattle.whole_world.specs.Steps.Step.{OfMessages}
use Rattle.whole_world.specs.Steps.Said.{Told}
use Rattle.whole_world.specs.Steps.StepOutcome.{Says}
use Rattle.joint_world.specs.World as joint
use Rattle.joint_world.specs.Makes.{MakesStep}
use Rattle.cluster_owes.proofs.Chain.{Standing as AllStands, stands_on, step_of_mail}

-- the node is up in the first epoch
pub record IsFirstUp (nodes : ℕ) (slots : List Slot) (n : ℕ) : Type 0 where
  pub node : Node
  pub disk : List Record
  pub up : slot_at slots n ≡ Some (slot_up node disk)
  pub managers : List MapRow
  pub first : node.installed ≡ Some (first_membership nodes managers)

abbrev pub AreFirstUp : ℕ → List Slot → Type 0
AreFirstUp nodes slots = (n : ℕ) → 1 ≤ n → n ≤ nodes → IsFirstUp nodes slots n

pub record Holds (nodes : ℕ) (flying : List Flight) (sent : ℕ) (w : World) : Type 0 where
  pub flying_is : w.flying ≡ flying
  pub sent_is : w.sent ≡ sent
  pub up : AreFirstUp nodes w.slots

-- letters by their numbers

abbrev pub is_absent : ℕ → List Flight → Bool
is_absent number [] = true
is_absent number (flight ∷ flying) = if nat_eq flight.number number then false else is_absent number flying

abbrev pub are_distinct : List Flight → Bool
are_distinct [] = true
are_distinct (flight ∷ flying) = is_absent flight.number flying && are_distinct flying

not_absent : (number : ℕ) (letter : Letter) (front back : List Flight) → is_absent number (front ++ record { number = number; letter = letter } ∷ back) ≡ true → ⊥
not_absent number letter [] back is = let clash : false ≡ true = sym (ap (λ b. if b then false else is_absent number back) (eq-eqb number number refl)) ∙ is in cc
not_absent number letter (flight ∷ front) back is = by (nat_eq flight.number number) is (not_absent number letter front back)
  where
    by : (b : Bool) → (if b then false else is_absent number (front ++ record { number = number; letter = letter } ∷ back)) ≡ true → (is_absent number (front ++ record { number = number; letter = letter } ∷ back) ≡ true → ⊥) → ⊥
    by true clash more = cc
    by false other more = more other

-- where a letter flies, it is the one of its number
abbrev IsThere : ℕ → Letter → List Flight → List Flight → Type 0
IsThere number letter whole others = (letter_at number whole ≡ Some letter) × (without_letter number whole ≡ others)

pub flies_at : (number : ℕ) (letter : Letter) (front back : List Flight) → are_distinct (front ++ record { number = number; letter = letter } ∷ back) ≡ true
    → IsThere number letter (front ++ record { number = number; letter = letter } ∷ back) (front ++ back)
flies_at number letter [] back distinct =
    let same : nat_eq number number ≡ true = eq-eqb number number refl in
    (ap (λ b. if b then Some letter else letter_at number back) same, ap (λ b. if b then back else record { number = number; letter = letter } ∷ without_letter number back) same)
flies_at number letter (flight ∷ front) back distinct = by (nat_eq flight.number number) refl (flies_at number letter front back parts.1)
  where
    all : List Flight
    all = front ++ record { number = number; letter = letter } ∷ back

    parts : (is_absent flight.number all ≡ true) × (are_distinct all ≡ true)
    parts = and_parts (is_absent flight.number all) (are_distinct all) distinct

    by : (b : Bool) → nat_eq flight.number number ≡ b → IsThere number letter all (front ++ back) → IsThere number letter (flight ∷ all) (flight ∷ (front ++ back))
    by true same more = absurd (not_absent number letter front back (subst (λ n. is_absent n all ≡ true) (eqb-true flight.number number same) parts.0))
    by false other more = (
      ap (λ b. if b then Some flight.letter else letter_at number all) other ∙ more.0,
      ap (λ b. if b then all else flight ∷ without_letter number all) other ∙ ap (λ (l : List Flight). flight ∷ l) more.1,
    )

-- what flies on
pub flies_so : (w : World) (number : ℕ) (f : Flies w number) (keep : Bool) → are_distinct w.flying ≡ true → (letter_at number w.flying ≡ Some f.letter) × (flies_on w number f keep ≡ kept number keep w.flying)
flies_so w number f keep distinct = by keep
  where
    here : (letter_at number w.flying ≡ Some f.letter) × (without_letter number w.flying ≡ f.front ++ f.back)
    here = subst (λ (l : List Flight). (letter_at number l ≡ Some f.letter) × (without_letter number l ≡ f.front ++ f.back)) (sym f.is)
        (flies_at number f.letter f.front f.back (subst (λ (l : List Flight). are_distinct l ≡ true) f.is distinct))

    by : (k : Bool) → (letter_at number w.flying ≡ Some f.letter) × (flies_on w number f k ≡ kept number k w.flying)
    by true = (here.0, refl)
    by false = (here.0, sym here.1)

-- the epoch that a node has installed
abbrev pub installed_in : Life → Option Membership
installed_in (Up node) = node.installed
installed_in (Down pending) = None
installed_in Lost = None

-- a node that worked leaves all up in the first epoch
pub stay_up : (nodes : ℕ) (slots : List Slot) (at : ℕ) (node now : Node) (disk held : List Record) → AreFirstUp nodes slots → slot_at slots at ≡ Some (slot_up node disk)
    → now.installed ≡ node.installed → AreFirstUp nodes (with_slot slots at (slot_up now held))
stay_up nodes slots at node now disk held all here same n above within = ⊎_elim
    (λ (it : (n ≡ at) × (slot_up was.node was.disk ≡ slot_up node disk) × (slot_at (with_slot slots at (slot_up now held)) n ≡ Some (slot_up now held))).
    record { node = now; disk = held; up = it.2; managers = was.managers; first = same ∙ sym (same_node it.1) ∙ was.first })
    (λ (other : slot_at (with_slot slots at (slot_up now held)) n ≡ Some (slot_up was.node was.disk)). record { node = was.node; disk = was.disk; up = other; managers = was.managers; first = was.first })
    (read_before slots at n (slot_up node disk) (slot_up now held) (slot_up was.node was.disk) here was.up)
  where
    was : IsFirstUp nodes slots n
    was = all n above within

    same_node : slot_up was.node was.disk ≡ slot_up node disk → was.node.installed ≡ node.installed
    same_node is = ap (λ (slot : Slot). installed_in slot.life) is

-- what a node sends is put in flight
pub sends_none : (w : World) (own : ℕ) (did : Reaction) → did.out ≡ [] → after w own did ≡ record w { slots = with_slot w.slots own (slot_up did.node did.disk) }
sends_none w own did none = rw none refl

pub sends_one : (w : World) (own : ℕ) (did : Reaction) (letter : Letter) → did.out ≡ letter ∷ [] → has_room w.flying letter ≡ true
    → after w own did ≡ record w { slots = with_slot w.slots own (slot_up did.node did.disk); flying = w.flying ++ record { number = w.sent + 1; letter = letter } ∷ []; sent = w.sent + 1 }
sends_one w own did letter one room = rw one (rw room refl)

-- an ask leaves what flies
pub asked_on : (plan : Plan) (nodes : ℕ) (flying : List Flight) (sent : ℕ) (old : World) (number : Number) (said : Said) (new : World) → Holds nodes flying sent old
    → AnswersAsk plan old number said new ⊎ AnswersRead old number said new → Holds nodes flying sent new
asked_on plan nodes flying sent old number said new h (inr read) = subst (Holds nodes flying sent) (sym read.new_world) h
asked_on plan nodes flying sent old number said new h (inl (Waits node disk ticket up there got wanted is says new_is)) = subst (Holds nodes flying sent) (sym new_is) h
asked_on plan nodes flying sent old number said new h (inl (Ends node disk ticket up there answer is says new_is)) = subst (Holds nodes flying sent) (sym new_is) (record {
  flying_is = h.flying_is;
  sent_is = h.sent_is;
  up = stay_up nodes old.slots number.node node (end_ticket number.seq node disk).node disk (end_ticket number.seq node disk).disk h.up up refl;
})

-- a world that stands, in which these letters are in flight
pub record Keeps (plan : Plan) (flying : List Flight) (sent : ℕ) (w : joint.World) : Type 0 where
  pub stands : AllStands plan true w
  pub holds : Holds plan.nodes flying sent (joint.mail_world_of w)

asked_keeps : (plan : Plan) (flying : List Flight) (sent : ℕ) (old : joint.World) (ticket : Number) (ask : Ask) (new : joint.World) → Keeps plan flying sent old
    → MakesStep plan true old (OfMessages (AskFor ticket)) (Says (Told (Asked ask))) new → Keeps plan flying sent new
asked_keeps plan flying sent old ticket ask new k made = record {
  stands = stands_on plan true old new (OfMessages (AskFor ticket)) (Says (Told (Asked ask))) made k.stands;
  holds = asked_on plan plan.nodes flying sent (joint.mail_world_of old) ticket (Asked ask) (joint.mail_world_of new) k.holds (step_of_mail plan true old new (OfMessages (AskFor ticket)) (Says (Told (Asked ask))) made k.stands).1;
}

pub asks_keep : (plan : Plan) (all : List (List ℕ)) (flying : List Flight) (sent : ℕ) (acts : List Act) → OnlyAsks acts → (calls : List Standing) (w : joint.World) (left : List Standing) (next : joint.World)
    → Keeps plan flying sent w → FollowsAll plan all acts calls w left next → Keeps plan flying sent next
asks_keep plan all flying sent [] only calls w left next k follows = subst (Keeps plan flying sent) (sym follows.1) k
asks_keep plan all flying sent (StillWaits n ∷ acts) only calls w left next k (between, mid, one, follows) =
    asks_keep plan all flying sent acts only between mid left next (asked_keeps plan flying sent w one.0 _ mid k one.4) follows
asks_keep plan all flying sent (Does n (IsAnswered call answer reply) ∷ acts) only calls w left next k (between, mid, one, follows) =
    asks_keep plan all flying sent acts only between mid left next (asked_keeps plan flying sent w one.0 _ mid k one.4) follows
asks_keep plan all flying sent (act ∷ acts) only calls w left next k follows = absurd only

-- a letter that carries a message, in the first epoch, and one that says it is filed
abbrev pub file_of : ℕ → ℕ → Option Number → Id → Stamp → ℕ → List (List ℕ) → List ℕ → Letter
file_of from to ticket id stamp targets users octets = record { from = from; to = to; epoch = first_epoch; ticket = ticket; body = File id stamp targets users octets }

abbrev pub filed_of : ℕ → ℕ → Option Number → Id → Letter
filed_of from to ticket id = record { from = from; to = to; epoch = first_epoch; ticket = ticket; body = Filed id }

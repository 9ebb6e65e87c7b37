-- What a node does as an act of the machine.
use Rattle.std.specs.Prelude.{◌≢◌, ◌≤◌, ℕ, List, [], ◌++◌, Option, None}
use Rattle.mail_model.specs.Identity.{Id}
use Rattle.mail_model.specs.Record.{Record}
use Rattle.object_model.specs.Letters.{Body, Letter}
use Rattle.object_model.specs.Letters.Body.{File, Filed, Strike, StrikeTold, Push, PushAck, Retire}
use Rattle.cluster_model.specs.Cluster.{Node, Life, Slot}
use Rattle.cluster_model.specs.Cluster.Life.{Up, Down}
use Rattle.cluster_model.specs.Moves.{Content, NodeAct}
use Rattle.cluster_model.specs.Thrown.{with_stamps}
use Rattle.cluster_model.specs.Rules.{Reaction, idle, hear_file, hear_told, hear_strike, hear_push, hear_ack, hear_retired}

-- a node that is up, with its disk
abbrev pub slot_up : Node → List Record → Slot
slot_up node disk = record { life = Up node; disk = disk }

-- what it does: with a letter that it hears, a message that it files, or deletions that it begins
abbrev pub act_of : ℕ → Node → List Record → Reaction → Option Letter → Option Content → List (List ℕ × Id) → NodeAct
act_of own node disk did heard files strikes =
    record { node = own; before = slot_up node disk; after = slot_up did.node did.disk; heard = heard; out = did.out; files = files; strikes = strikes }

-- Its disk fails before it is done: a prefix of its records stands, the next may stand, nothing is sent, and the node is down.
abbrev pub cut_act : ℕ → Node → List Record → Option Letter → Option Content → List (List ℕ × Id) → List Record → List Record → NodeAct
cut_act own node disk heard files strikes front pending =
    record { node = own; before = slot_up node disk; after = record { life = Down pending; disk = disk ++ front }; heard = heard; out = []; files = files; strikes = strikes }

-- a node goes down or is lost
abbrev pub drop_act : ℕ → Slot → Life → NodeAct
drop_act n before life = record { node = n; before = before; after = record before { life = life }; heard = None; out = []; files = None; strikes = [] }

-- a node starts
abbrev pub start_act : ℕ → List Record → List Record → Node → List Record → NodeAct
start_act n disk pending node new =
    record { node = n; before = record { life = Down pending; disk = disk }; after = slot_up node new; heard = None; out = []; files = None; strikes = [] }

-- a start that its disk cuts
abbrev pub stop_act : ℕ → List Record → List Record → List Record → List Record → NodeAct
stop_act n disk pending next new =
    record { node = n; before = record { life = Down pending; disk = disk }; after = record { life = Down next; disk = new }; heard = None; out = []; files = None; strikes = [] }

-- node n is one of the plan's
pub record IsOfPlan (own nodes : ℕ) : Type 0 where
  pub some : own ≢ 0
  pub within : own ≤ nodes
  pub few : nodes ≤ 64

-- What a letter says that is to be done. The letters of logins, membership and maps have no rule here yet.
abbrev pub hear_body : ℕ → ℕ → Node → List Record → Letter → Body → Reaction
hear_body own nodes node disk letter (File id stamp targets users octets) = hear_file own node disk letter id stamp targets users octets
hear_body own nodes node disk letter (Filed id) = hear_told own node disk letter
hear_body own nodes node disk letter (Strike user marks) = hear_strike own nodes node disk letter user marks
hear_body own nodes node disk letter (StrikeTold user ids) = hear_told own node disk letter
hear_body own nodes node disk letter (Push key state octets) = hear_push own node disk letter key state octets
hear_body own nodes node disk letter (PushAck key state) = hear_ack own nodes node disk key state letter.from
hear_body own nodes node disk letter (Retire key state) = hear_retired node disk key state
hear_body own nodes node disk letter body = idle node disk

-- It learns the stamps of the letter, and then does what the letter says.
abbrev pub hear : ℕ → ℕ → Node → List Record → Letter → Reaction
hear own nodes node disk letter = hear_body own nodes (with_stamps letter.body node) disk letter letter.body

-- What holds of a cluster with all that its nodes do.
use Rattle.std.specs.Prelude.{◌≡◌, ◌≤◌, ℕ, List, [], Option, Some, None}
use Rattle.mail_model.specs.Record.{Record}
use Rattle.object_model.specs.Lists.{Among}
use Rattle.object_model.specs.Letters.{Letter}
use Rattle.cluster_model.specs.Claims.{boot_of}
use Rattle.cluster_model.specs.Cluster as mail
use Rattle.cluster_model.specs.Moves as mail_moves
use Rattle.cluster_model.specs.Deeds as mail_deeds
use Rattle.whole_model.specs.Whole as whole
use Rattle.whole_model.specs.Moves as whole_moves
use Rattle.login_model.specs.Cluster as login
use Rattle.object_model.specs.Locks.{Held}
use Rattle.login_model.specs.Rules as login_rules
use Rattle.login_model.specs.Facts.{IsReadBody, GoesOut}
use Rattle.login_model.specs.Moves as login_moves
use Rattle.login_model.specs.NodeLaws as login_laws
use Rattle.joint_model.specs.Joint.{Node, Cluster, slot_at, slot_up, whole_of, read_node}
use Rattle.joint_model.specs.Moves.{MayAct, Move, after_moves, MayMoves, Sound}

-- whatever moves are made, all invariants stay
abbrev pub MovesKeepSound : Type 0
MovesKeepSound = (confirm : ℕ) (w : Cluster) (moves : List Move) → MayMoves confirm moves w → Sound confirm w → Sound confirm (after_moves moves w)

-- What a node does for calls that read is an act for messages: it draws at most numbers of tickets, and sends letters of calls that read.
abbrev pub ReadingIsAct : Type 0
ReadingIsAct = (own : ℕ) (node : mail.Node) (disk : List Record) (calls : ℕ) (heard : Option Letter) (out : List Letter)
    → ((letter : Letter) → heard ≡ Some letter → IsReadBody letter.body) → ((letter : Letter) → Among letter out → IsReadBody letter.body)
    → mail_moves.IsReady own (mail_deeds.slot_up node disk) heard
    → mail_moves.IsCallDone (mail_deeds.act_of own node disk (record { node = record node { calls = calls }; disk = disk; out = out }) heard None [])

-- the node once it has done this for calls that read, with these locks
abbrev pub with_reaction : Node → login_rules.Reaction → Held → Node
with_reaction node did locks = record { whole = record node.whole { mail = record node.whole.mail { calls = did.node.calls } }; reads = did.node.reads; locks = locks }

-- What a rule leaves as it was: all but tickets and their numbers.
pub record ChangesTicketsAlone (old new : login.Node) : Type 0 where
  pub boot : new.boot ≡ old.boot
  pub epoch : new.epoch ≡ old.epoch
  pub manager : new.manager ≡ old.manager
  pub named : new.named ≡ old.named
  pub tells : new.tells ≡ old.tells

-- So a rule of calls that read may be done in the cluster.
abbrev pub ReadingMayAct : Type 0
ReadingMayAct = (own : ℕ) (node : Node) (disk : List Record) (did : login_rules.Reaction) (locks : Held) (heard : Option Letter) (w : Cluster) → slot_at w.slots own ≡ Some (slot_up node disk)
    → ((letter : Letter) → heard ≡ Some letter → IsReadBody letter.body × Among letter w.flying × (letter.to ≡ own))
    → ChangesTicketsAlone (read_node w.tells node) did.node
    → ((letter : Letter) → Among letter did.out → GoesOut own letter)
    → (login_moves.IsReady own (login.slot_up (read_node w.tells node) disk) heard → login_moves.IsAct (login_laws.act_of own (read_node w.tells node) disk did heard))
    → MayAct (record { node = own; before = slot_up node disk; after = slot_up (with_reaction node did locks) disk; heard = heard; out = did.out; files = None; strikes = [] }) w

-- And so may all that a node does for messages, membership and maps, while its tickets of calls that read stay. Its locks may be let go in it.
abbrev pub OthersMayAct : Type 0
OthersMayAct = (own : ℕ) (node : Node) (new : whole.Node) (locks : Held) (disk after : List Record) (act : whole_moves.NodeAct) (w : Cluster) → slot_at w.slots own ≡ Some (slot_up node disk)
    → act.node ≡ own → act.before ≡ record { life = whole.Life.Up node.whole; disk = disk } → act.after ≡ record { life = whole.Life.Up new; disk = after }
    → new.mail.boot ≡ node.whole.mail.boot → node.whole.mail.calls ≤ new.mail.calls → boot_of after ≡ boot_of disk
    → ((letter : Letter) → act.heard ≡ Some letter → login_laws.IsOtherLetter letter) → ((letter : Letter) → Among letter act.out → login_laws.IsOtherLetter letter)
    → whole_moves.MayAct act (whole_of w)
    → MayAct (record { node = own; before = slot_up node disk; after = slot_up (record { whole = new; reads = node.reads; locks = locks }) after; heard = act.heard; out = act.out; files = act.files; strikes = act.strikes }) w

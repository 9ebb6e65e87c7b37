-- What holds of a whole cluster.
use Rattle.std.specs.Prelude.{◌≡◌, ◌≢◌, ◌≤◌, ℕ, List, [], ◌++◌, Option, Some, None}
use Rattle.mail_model.specs.Identity.{EpochId}
use Rattle.mail_model.specs.Record.{Record}
use Rattle.object_model.specs.Lists.{Among}
use Rattle.object_model.specs.Letters.{Membership, Letter}
use Rattle.cluster_model.specs.Claims.{boot_of}
use Rattle.cluster_model.specs.Cluster as mail
use Rattle.cluster_model.specs.Deeds.{hear}
use Rattle.cluster_model.specs.Moves as mail_moves
use Rattle.cluster_model.specs.Deeds as mail_deeds
use Rattle.maps_model.specs.Cluster as maps
use Rattle.maps_model.specs.Moves as maps_moves
use Rattle.maps_model.specs.Rules as maps_rules
use Rattle.maps_model.specs.NodeLaws as maps_laws
use Rattle.maps_model.specs.Epochs.{IsAtMost}
use Rattle.whole_model.specs.Whole.{Node, Cluster, maps_disk_of, promise_of, maps_slot}
use Rattle.whole_model.specs.Whole.Life.{Up, Down}
use Rattle.whole_model.specs.Moves.{LeadsMaps, after_moves, MayMoves, Move, Sound}
use Rattle.whole_model.specs.Rules.{follows, AreOfMessages, IsMail, IsMapsBody, promise_records}

-- whatever moves are made, both invariants stay
abbrev pub MovesKeepSound : Type 0
MovesKeepSound = (confirm : ℕ) (w : Cluster) (moves : List Move) → MayMoves confirm moves w → Sound confirm w → Sound confirm (after_moves moves w)

-- What a node does for messages leads its maps along: whatever records of messages it appends, and whatever letters of messages it sends.
abbrev pub MessagesLeadMaps : Type 0
MessagesLeadMaps = (own : ℕ) (old new : Node) (disk added : List Record) (heard : Option Letter) (out : List Letter)
    → AreOfMessages added → ((letter : Letter) → Among letter out → IsMail own letter) → new.maps ≡ follows own old.maps disk added
    → LeadsMaps own (maps_slot (record { life = Up old; disk = disk })) (maps_slot (record { life = Up new; disk = disk ++ added })) heard out

-- Whatever a node that is up does, it may go down in it, and records may be pending, as long as its boot and its promise do not fall.
abbrev pub FallsLeadMaps : Type 0
FallsLeadMaps = (own : ℕ) (old : Node) (disk front pending : List Record) (heard : Option Letter)
    → boot_of disk ≤ boot_of (disk ++ front) → boot_of (disk ++ front) ≤ boot_of ((disk ++ front) ++ pending)
    → IsAtMost (promise_of disk) (promise_of (disk ++ front)) → IsAtMost (promise_of (disk ++ front)) (promise_of ((disk ++ front) ++ pending))
    → LeadsMaps own (maps_slot (record { life = Up old; disk = disk })) (maps_slot (record { life = Down pending; disk = disk ++ front })) heard []

-- A node that hears a letter of messages appends records of messages alone, and sends letters of messages alone.
abbrev pub HearsOfMessages : Type 0
HearsOfMessages = (own nodes : ℕ) (node : mail.Node) (disk : List Record) (letter : Letter) → letter.to ≡ own → letter.from ≢ own
    → ((added : List Record) × ((hear own nodes node disk letter).disk ≡ disk ++ added) × AreOfMessages added)
    × ((one : Letter) → Among one (hear own nodes node disk letter).out → IsMail own one)

-- What a node does for membership and maps is an act for messages: it changes at most which membership is installed, and appends at most a promise.
abbrev pub MembershipIsAct : Type 0
MembershipIsAct = (own : ℕ) (node : mail.Node) (disk : List Record) (installed : Option Membership) (promise : Option EpochId) (heard : Option Letter) (out : List Letter)
    → ((letter : Letter) → heard ≡ Some letter → IsMapsBody letter.body) → ((letter : Letter) → Among letter out → IsMapsBody letter.body)
    → mail_moves.IsReady own (mail_deeds.slot_up node disk) heard
    → mail_moves.IsCallDone (mail_deeds.act_of own node disk (record { node = record node { installed = installed }; disk = disk ++ promise_records promise; out = out }) heard None [])

-- And whatever rule of membership and maps it is, it leads the maps along, where the disk as maps see it has that promise.
abbrev pub MembershipLeadsMaps : Type 0
MembershipLeadsMaps = (own : ℕ) (old new : Node) (disk : List Record) (promise : Option EpochId) (heard : Option Letter) (did : maps_rules.Reaction)
    → did.disk ≡ maps_disk_of (disk ++ promise_records promise) → new.maps ≡ did.node
    → (maps_moves.IsReady own (maps.slot_up old.maps (maps_disk_of disk)) heard → maps_moves.IsAct (maps_laws.act_of own old.maps (maps_disk_of disk) did heard))
    → LeadsMaps own (maps_slot (record { life = Up old; disk = disk })) (maps_slot (record { life = Up new; disk = disk ++ promise_records promise })) heard did.out

-- The record of a promise is what maps see of it, and of nothing else.
abbrev pub PromisesAreSeen : Type 0
PromisesAreSeen = (disk : List Record) (epoch : EpochId) → maps_disk_of (disk ++ promise_records (Some epoch)) ≡ record (maps_disk_of disk) { promise = epoch }

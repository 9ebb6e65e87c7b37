-- What a node does for membership and maps is an act for messages, and leads its maps along.
use Rattle.std.proofs.Common.{◌≡◌, ℕ, List, [], ◌++◌, Option, Some, None, sym, subst}
use Rattle.mail_model.specs.Identity.{EpochId}
use Rattle.mail_model.specs.Record.{Record}
use Rattle.object_model.specs.Lists.{Among}
use Rattle.object_model.specs.Letters.{Membership, Letter}
use Rattle.cluster_model.specs.Cluster.{Node}
use Rattle.cluster_model.specs.Moves.{IsReady, IsCallDone}
use Rattle.cluster_model.specs.Deeds.{act_of, slot_up}
use Rattle.cluster_model.proofs.Forming as forming
use Rattle.maps_model.specs.Cluster as maps
use Rattle.maps_model.specs.Moves as moves
use Rattle.maps_model.specs.Rules as maps_rules
use Rattle.maps_model.specs.NodeLaws as maps_laws
use Rattle.whole_model.specs.Whole.{maps_disk_of, maps_slot}
use Rattle.whole_model.specs.Whole as whole
use Rattle.whole_model.specs.Moves.{LeadsMaps}
use Rattle.whole_model.specs.Rules.{IsMapsBody, promise_records}
use Rattle.whole_model.proofs.Leading.{act_leads}

pub membership_acts : (own : ℕ) (node : Node) (disk : List Record) (installed : Option Membership) (promise : Option EpochId) (heard : Option Letter) (out : List Letter)
    → ((letter : Letter) → heard ≡ Some letter → IsMapsBody letter.body) → ((letter : Letter) → Among letter out → IsMapsBody letter.body)
    → IsReady own (slot_up node disk) heard
    → IsCallDone (act_of own node disk (record { node = record node { installed = installed }; disk = disk ++ promise_records promise; out = out }) heard None [])
membership_acts own node disk installed promise heard out of_heard of_out ready = forming.membership_acts own node disk installed promise heard out of_heard of_out ready

-- and a rule of membership leads the maps along
pub membership_led : (own : ℕ) (old new : whole.Node) (disk : List Record) (promise : Option EpochId) (heard : Option Letter) (did : maps_rules.Reaction)
    → did.disk ≡ maps_disk_of (disk ++ promise_records promise) → new.maps ≡ did.node
    → (moves.IsReady own (maps.slot_up old.maps (maps_disk_of disk)) heard → moves.IsAct (maps_laws.act_of own old.maps (maps_disk_of disk) did heard))
    → LeadsMaps own (maps_slot (record { life = whole.Life.Up old; disk = disk })) (maps_slot (record { life = whole.Life.Up new; disk = disk ++ promise_records promise })) heard did.out
membership_led own old new disk promise heard did seen is acts =
    subst (λ d. LeadsMaps own (maps.slot_up old.maps (maps_disk_of disk)) (maps.slot_up new.maps d) heard did.out) seen
    (subst (λ n. LeadsMaps own (maps.slot_up old.maps (maps_disk_of disk)) (maps.slot_up n did.disk) heard did.out) (sym is)
    (act_leads own (maps.slot_up old.maps (maps_disk_of disk)) (maps.slot_up did.node did.disk) heard did.out acts))

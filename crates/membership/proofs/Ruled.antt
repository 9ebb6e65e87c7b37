-- Each answer of a group is a case of the machine's rule.
use Rattle.std.proofs.Common.{◌≡◌, ℕ, true, false, List, Option, Some, None, Ok, Err, refl, sym, ap, ◌∙◌, subst}
use Rattle.object_model.specs.Letters.{Membership}
use Rattle.maps_model.specs.Cluster.{Node, OpenGroup}
use Rattle.maps_model.specs.Rules as rules
use Rattle.maps_model.specs.Rules.HearsGroup.{Rises, Again, Old}
use Rattle.maps_model.specs.Rules.HearsJoin.{Late, Above, Joins}
use Rattle.maps_model.specs.Rules.HearsInstall.{Enters}
use Rattle.membership.specs.Groups.{Group}
use Rattle.membership.specs.Rounds.{AddsJoin}
use Rattle.membership.specs.Rounds.AddsJoin.{Above as IsAbove, Joins as IsAdded}
use Rattle.membership.specs.Laws.{Maps, with_maps, Leaves, GroupAsRuled, JoinAsRuled, LateAsRuled, ConcludeAsRuled, InstallAsRuled}
use Rattle.membership.specs.declared.fault.GroupFault.TheVariants.{OldEpoch, NotMember, NotPromised, NotAGroup, NoMemory}

pub hears_group : GroupAsRuled
hears_group (Ok true) epoch old new maps disk from h =
    (rules.join_group old.own (with_maps old maps) disk epoch from, Rises h.0 refl, record { is = sym (ap (λ g. with_maps g maps) h.1) })
hears_group (Ok false) epoch old new maps disk from h =
    (record { node = with_maps old maps; disk = disk; out = _ }, Again h.0 refl, record { is = sym (ap (λ g. with_maps g maps) h.1) })
hears_group (Err OldEpoch) epoch old new maps disk from h =
    (record { node = with_maps old maps; disk = disk; out = _ }, Old h.0 refl, record { is = sym (ap (λ g. with_maps g maps) h.1) })
hears_group (Err NotMember) epoch old new maps disk from h = absurd h
hears_group (Err NotPromised) epoch old new maps disk from h = absurd h
hears_group (Err NotAGroup) epoch old new maps disk from h = absurd h
hears_group (Err NoMemory) epoch old new maps disk from h = absurd h

pub hears_join : JoinAsRuled
hears_join epoch promise member claims old new maps disk h = by h.1
  where
    by : AddsJoin old epoch promise (record { member = member; claims = claims }) new
        → (did : rules.Reaction) × rules.HearsJoin (with_maps old maps) disk member.node epoch promise member.boot member.was claims did × Leaves did new maps
    by (IsAbove above is) =
        (_, Above h.0.group h.0.is h.0.same above refl, record { is = sym (ap (λ g. with_maps g maps) is) })
    by (IsAdded group opened most is) =
        let same : h.0.group ≡ group = (let a = h.0.is in let b = opened in cc) in
        (_, Joins group opened (sym (ap (λ (g : OpenGroup). g.epoch) same) ∙ h.0.same) most refl, record { is = sym (ap (λ g. with_maps g maps) is) })

pub late_join : LateAsRuled
late_join epoch promise member claims old new maps disk h =
    (rules.idle (with_maps old maps) disk, Late (λ group opened same. h.0 (record { group = group; is = opened; same = same })) refl, record { is = sym (ap (λ g. with_maps g maps) h.1) })

abbrev pub entered_node : Group → Option OpenGroup → Membership → (List ℕ → ℕ) → Maps → Node
entered_node old opened membership version after = record {
  boot = old.boot;
  promise = old.promise;
  heard = old.heard;
  group = opened;
  installed = Some membership;
  version = version;
  marked = after.marked;
  rows = after.rows;
}

pub concludes : ConcludeAsRuled
concludes membership buckets old new before after disk some h entering version = (
  rules.conclude old.own (with_maps old before) disk h.group membership.map after.marked after.rows,
  record {
    some = some;
    group = h.group;
    opened = h.opened;
    rows = membership.map;
    assigned = h.assigned;
    marked = after.marked;
    told = after.rows;
    entering = subst (λ m. rules.Entering old.own (with_maps old before) disk m after.marked after.rows) h.is entering;
    is = refl;
  },
  record {
    is = ap (λ (v : List ℕ → ℕ). entered_node old None (rules.membership_of h.group membership.map) v after) (sym version)
        ∙ ap (λ (m : Membership). entered_node old None m after.version after) (sym h.is)
        ∙ sym (ap (λ g. with_maps g after) h.installs);
  },
)

pub hears_install : InstallAsRuled
hears_install membership old new before after disk h entering version = (
  record { node = rules.entered (with_maps old before) membership after.marked after.rows; disk = disk; out = _ },
  Enters h.0.0 h.0.1 h.1 after.marked after.rows entering refl,
  record {
    is = ap (λ (v : List ℕ → ℕ). entered_node old old.opened membership v after) (sym version)
        ∙ sym (ap (λ g. with_maps g after) h.2);
  },
)

-- A group that is concluded is concluded as the machine does it.
use Rattle.std.proofs.Common.{if◌then◌else◌, ◌≡◌, ◌<◌, ◌++◌, ℕ, nat_eq, List, [], ◌∷◌, map, flat_map, Option, Some, None, Ok, refl, sym, ap, ◌∙◌, subst}
use Rattle.object_model.specs.Letters.{Membership, Letter}
use Rattle.object_model.specs.Letters.Body.{Install}
use Rattle.maps_model.specs.Cluster.{Joined, NamesNode}
use Rattle.maps_model.specs.Rules as rules
use Rattle.maps_model.specs.Rules.{letter_to, membership_of}
use Rattle.membership.specs.Groups.{Group as Kept, node_of_group}
use Rattle.membership.specs.Rounds as rounds
use Rattle.map_rebuild.specs.Rows.{is_marked}
use Rattle.mail_map.specs.Rows.{rows_of}
use Rattle.node_maps.specs.declared.maps.NodeMaps.{NodeMaps}
use Rattle.node_maps.specs.Nodes.{node_of, own_of, installs_to}
use Rattle.node_maps.specs.Rounds.{ConcludesGroup}
use Rattle.node_maps.specs.Entering.{EntersAs}
use Rattle.node_maps.proofs.Rounds.{with_group}

-- the members are those who joined, so their letters are those of the joins
pub joined_letters : (own : ℕ) (membership : Membership) (joins : List Joined) → installs_to own membership (map (λ join. join.member) joins)
    ≡ flat_map (λ join. if nat_eq join.member.node own then [] else letter_to own (Install membership) join.member.node ∷ []) joins
joined_letters own membership [] = refl
joined_letters own membership (join ∷ joins) = ap (λ (rest : List Letter). (if nat_eq join.member.node own then [] else letter_to own (Install membership) join.member.node ∷ []) ++ rest) (joined_letters own membership joins)

abbrev concluded : Kept → Membership → Kept
concluded old membership = record old { installed = Some membership; opened = None }

pub concludes : (old new : NodeMaps) (g : Kept) (buckets : ℕ) (membership : Membership) (before : Option Membership) (letters : List Letter) → 0 < buckets
    → rounds.Concludes (Ok membership) buckets old.group g → before ≡ old.group.installed → EntersAs before membership (with_group old g) new
    → letters ≡ installs_to (own_of old) membership membership.members → ConcludesGroup buckets (record { epoch = membership.epoch; letters = letters }) old new
concludes old new g buckets membership before letters some h copied entered sent = by (subst (λ (k : Kept). EntersAs before membership (with_group old k) new) h.installs entered)
  where
    out : letters ≡ installs_to (own_of old) (membership_of h.group membership.map) (map (λ join. join.member) h.group.joins)
    out = sent ∙ ap (λ (m : Membership). installs_to (own_of old) m m.members) h.is

    by : EntersAs before membership (with_group old (concluded old.group membership)) new → ConcludesGroup buckets (record { epoch = membership.epoch; letters = letters }) old new
    by e = record {
      did = λ disk is order.
          let join = order.joined h.group h.opened in
          let named : NamesNode (membership_of h.group membership.map) (own_of old) old.group.boot = record { member = join.member; is = join.is; same = join.same } in
          let names : NamesNode membership (own_of old) old.group.boot = subst (λ (m : Membership). NamesNode m (own_of old) old.group.boot) (sym h.is) named in
          record {
            some = some;
            group = h.group;
            opened = h.opened;
            rows = membership.map;
            assigned = h.assigned;
            marked = is_marked new.reports;
            told = rows_of new.rows;
            entering = subst (λ (m : Membership). rules.Entering (own_of old) (node_of old) disk m (is_marked new.reports) (rows_of new.rows)) h.is (e.0.entering old.group refl (sym copied) names disk is.holds);
            is = λ i. record {
              node = node_of_group ((e.1 ∙ ap (concluded old.group) h.is) i) (λ u. e.0.versions u i) (is_marked new.reports) (rows_of new.rows);
              disk = disk;
              out = (out ∙ joined_letters (own_of old) (membership_of h.group membership.map) h.group.joins) i;
            };
          };
      epoch = (h.group, h.opened, ap (λ (m : Membership). m.epoch) h.is);
      tells = record { membership = membership; installed = ap (λ (k : Kept). k.installed) e.1; epoch = refl; letters = sent };
      own = ap (λ (k : Kept). k.own) e.1;
      boot = ap (λ (k : Kept). k.boot) e.1;
      held = e.2;
    }

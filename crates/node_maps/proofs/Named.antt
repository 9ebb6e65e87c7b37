-- Whom a node names, and whether a row is due to a manager.
use Rattle.std.proofs.Common.{◌≡◌, ◌↔◌, ℕ, Bool, true, false, true≢false, ◌&&◌, ◌||◌, nat_eq, List, [], ◌∷◌, Option, Some, None, refl, sym, ap, ◌∙◌}
use Rattle.std.specs.Prelude.{IsTrue}
use Rattle.std.proofs.lemmas.Bool.{eq-eqb}
use Rattle.object_model.specs.Letters.{Member, Membership}
use Rattle.maps_model.specs.Cluster.{is_full, manages_in}
use Rattle.map_rebuild.specs.Rows.{ManagesMarked}
use Rattle.mail_map.specs.Rows.{Rows, is_named}
use Rattle.node_maps.specs.Nodes.{node_of}
use Rattle.node_maps.specs.Naming.{HasRowFor}
use Rattle.node_maps.specs.declared.maps.NodeMaps.{NodeMaps}

or_none : (b : Bool) → (b || false) ≡ b
or_none true = refl
or_none false = refl

-- one member is named exactly where its own row says full
pub names_one : (rows : Rows) (user : List ℕ) (member : Member) → is_named rows user (member ∷ []) member.node ≡ is_full (rows member.node member.boot user)
names_one rows user member =
    or_none (nat_eq member.node member.node && is_full (rows member.node member.boot user))
    ∙ ap (λ t. t && is_full (rows member.node member.boot user)) (eq-eqb member.node member.node refl)

pub rows_for : (maps : NodeMaps) (membership : Membership) (to : ℕ) (owes : Bool) → maps.group.installed ≡ Some membership → (IsTrue owes ↔ ManagesMarked membership.map to maps.reports) → IsTrue owes ↔ HasRowFor to (node_of maps)
rows_for maps membership to owes installed due = (
  λ owed. let d = due.0 owed in record { user = d.user; marked = d.marked; managed = ap (λ (o : Option Membership). manages_in o to d.user) installed ∙ d.managed },
  λ row. due.1 (record { user = row.user; marked = row.marked; managed = sym (ap (λ (o : Option Membership). manages_in o to row.user) installed) ∙ row.managed }),
)

pub no_rows : (maps : NodeMaps) (to : ℕ) → maps.group.installed ≡ None → IsTrue false ↔ HasRowFor to (node_of maps)
no_rows maps to none = (
  λ owed. absurd (true≢false (sym owed)),
  λ row. absurd (true≢false (sym row.managed ∙ ap (λ (o : Option Membership). manages_in o to row.user) none)),
)

pub not_both : {P : Type 0} (o : Option Membership) (membership : Membership) → o ≡ None → o ≡ Some membership → P
not_both o membership none some = absurd (clash (sym none ∙ some))
  where
    clash : None ≡ Some membership → ⊥
    clash e = cc

-- Rows that were reported, and what is due.
use Rattle.std.proofs.Common.{◌≡◌, ◌↔◌, ◌<◌, ℕ, suc, Bool, false, true≢false, ◌&&◌, List, [], ◌∷◌, ◌++◌, length, map, Option, Some, None, refl, sym, ap, ◌∙◌, subst, arith, ⊎_elim}
use Rattle.std.specs.Prelude.{All, min, IsTrue, Result, Ok, Err, IfOk}
use Rattle.std.specs.Ordering.{nat_cmp}
use Rattle.std.specs.Cmp.Lexicographic.{slice_cmp}
use Rattle.std.specs.List.Sorted.{IsStrictlySortedBy}
use Rattle.std.proofs.lemmas.Bool.{and_parts}
use Rattle.mail_model.specs.Identity.{EpochId}
use Rattle.object_model.specs.Lists.{Among}
use Rattle.object_model.specs.Letters.{Membership, Row, Letter}
use Rattle.object_model.specs.Letters.Body.{Report}
use Rattle.cluster_model.specs.Forms.{IsPlainMaps}
use Rattle.cluster_model.specs.Cluster as plain
use Rattle.maps_model.specs.Cluster as maps
use Rattle.maps_model.specs.Rules as rules
use Rattle.whole_model.specs.Whole.{maps_disk_of}
use Rattle.whole_world.specs.Steps.{HasDue}
use Rattle.whole_model.specs.Rules.{promise_records}
use Rattle.map_rebuild.specs.Rows.{marked_users, due_users}
use Rattle.map_rebuild.proofs.Listed.{marked_listed, due_given}
use Rattle.node_maps.specs.Nodes.{node_of, own_of}
use Rattle.node_maps.specs.Naming.{HasRowFor}
use Rattle.node_maps.specs.Hearing.{left_by}
use Rattle.node_maps.specs.Rounds as rounds
use Rattle.node_core.specs.Nodes.{node_seen}
use Rattle.node_core.specs.Spelling.{AllCanBeTaken}
use Rattle.node_core.proofs.Sending.{none_fit}
use Rattle.whole_node.specs.Nodes.{HasMaps}
use Rattle.whole_node.specs.Hearing.{FitsMaps}
use Rattle.whole_node.specs.Reporting.{users_first, ReportsTo}
use Rattle.whole_node.specs.declared.node.WholeNode.{WholeNode}
use Rattle.whole_node.proofs.Called.{knows_any}
use Rattle.whole_node.proofs.Said.{none_says, more_says, more_taken}
use Rattle.whole_node.proofs.Looked.{is_disk}

-- Reports of a node's own rows
module _ (own to : ℕ) (epoch : EpochId) (row : List ℕ → Row) where
  abbrev letter_of : List ℕ → Letter
  letter_of user = record { from = own; to = to; epoch = epoch; ticket = None; body = Report (row user) }

  rows_fit : ((user : List ℕ) → (row user).node ≡ own) → (users : List (List ℕ)) → All FitsMaps (map letter_of users)
  rows_fit mine [] = none_says
  rows_fit mine (user ∷ users) = more_says (letter_of user) (map letter_of users) (tt, mine user) (rows_fit mine users)

  rows_taken : (users : List (List ℕ)) → AllCanBeTaken (map letter_of users)
  rows_taken [] = none_fit
  rows_taken (user ∷ users) = more_taken (letter_of user) (map letter_of users) tt (rows_taken users)

  rows_plain : (users : List (List ℕ)) (letter : Letter) → Among letter (map letter_of users) → IsPlainMaps letter
  rows_plain [] letter m = absurd m
  rows_plain (user ∷ users) letter m = ⊎_elim (λ e. subst IsPlainMaps e (record { body = tt; ticket = refl })) (λ later. rows_plain users letter later) m

  rows_count : (users : List (List ℕ)) → length (map letter_of users) ≡ length users
  rows_count [] = refl
  rows_count (user ∷ users) = ap suc (rows_count users)

-- what is known of the letters, whatever was reported
record AreHeard (to room : ℕ) (letters : List Letter) (node : WholeNode) : Type 0 where
  some : HasDue node.mail.store.own to (node_of node.maps) → 0 < room → 0 < length letters
  plain : (letter : Letter) → Among letter letters → IsPlainMaps letter
  taken : AllCanBeTaken letters
  fits : All FitsMaps letters

module _ (to room : ℕ) (node : WholeNode) (letters : List Letter) (has : HasMaps node) where
  heard_none : (HasDue node.mail.store.own to (node_of node.maps) → ⊥) → letters ≡ [] → AreHeard to room letters node
  heard_none free none = record {
    some = λ due. absurd (free due);
    plain = λ letter m. absurd (subst (Among letter) none m);
    taken = subst AllCanBeTaken (sym none) none_fit;
    fits = subst (All FitsMaps) (sym none) none_says;
  }

  abbrev row_here : List ℕ → Row
  row_here user = rules.own_row (own_of node.maps) (node_of node.maps) (maps_disk_of has.records) user

  abbrev users_here : Membership → List (List ℕ)
  users_here membership = due_users membership.map to (min room 64) node.maps.reports

  some_sent : (membership : Membership) → node.maps.group.installed ≡ Some membership → HasDue node.mail.store.own to (node_of node.maps) → 0 < room → 0 < length (users_here membership)
  some_sent membership installed due is =
      let parts = and_parts ((node_of node.maps).marked due.1) (maps.manages_in (node_of node.maps).installed to due.1) due.2 in
      due_given membership.map to (min room 64) node.maps.reports
      (record { user = due.1; marked = parts.0; managed = sym (ap (λ (o : Option Membership). maps.manages_in o to due.1) installed) ∙ parts.1 }) (omega (arith, is))

  heard_some : (membership : Membership) → node.maps.group.installed ≡ Some membership
      → rules.Reports (own_of node.maps) to (users_here membership) (node_of node.maps) (maps_disk_of has.records) (left_by node.maps None (maps_disk_of has.records) letters) → AreHeard to room letters node
  heard_some membership installed did =
      let sent : letters ≡ map (letter_of (own_of node.maps) to did.membership.epoch row_here) (users_here membership) = ap (λ (r : rules.Reaction). r.out) did.is in
      let count : length letters ≡ length (users_here membership) = ap (λ (l : List Letter). length l) sent ∙ rows_count (own_of node.maps) to did.membership.epoch row_here (users_here membership) in
      record {
        some = λ due is. subst (λ (n : ℕ). 0 < n) (sym count) (some_sent membership installed due is);
        plain = λ letter m. rows_plain (own_of node.maps) to did.membership.epoch row_here (users_here membership) letter (subst (Among letter) sent m);
        taken = subst AllCanBeTaken (sym sent) (rows_taken (own_of node.maps) to did.membership.epoch row_here (users_here membership));
        fits = subst (All FitsMaps) (sym sent) (rows_fit (own_of node.maps) to did.membership.epoch row_here (λ user. refl) (users_here membership));
      }

  are_heard : (installed : Option Membership) → node.maps.group.installed ≡ installed → rounds.ReportsIn installed to (min room 64) letters node.maps → AreHeard to room letters node
  are_heard None is reports = heard_none
      (λ due. true≢false (sym (and_parts ((node_of node.maps).marked due.1) (maps.manages_in (node_of node.maps).installed to due.1) due.2).1
      ∙ ap (λ (o : Option Membership). maps.manages_in o to due.1) is)) reports
  are_heard (Some membership) is reports = heard_some membership is (reports (maps_disk_of has.records) (is_disk has.records node.maps (knows_any node has has.records has.keeps)))

-- rows that were reported
pub reported_so : {E : Type 0} (to room : ℕ) (node : WholeNode) (r : Result (List Letter) E) → HasMaps node → (to ≡ node.mail.store.own → ⊥)
    → rounds.ReportsAs to (min room 64) r node.maps
    → ((membership : Membership) → node.maps.group.installed ≡ Some membership → IsStrictlySortedBy (slice_cmp nat_cmp) (marked_users node.maps.reports))
    → IfOk r (λ letters. ReportsTo to room letters node)
reported_so to room node (Err refused) has other reports in_order = tt
reported_so to room node (Ok letters) has other reports in_order =
    let heard = are_heard to room node letters has node.maps.group.installed refl reports in
    record {
      own = λ e. absurd (other e);
      without = λ e. subst (λ (o : Option Membership). rounds.ReportsIn o to (min room 64) letters node.maps) e reports;
      sends = λ away membership installed records keeps. record {
        did = left_by node.maps None (maps_disk_of records) letters;
        reports = subst (λ (n : ℕ). rules.Reports n to (users_first membership to room node) (node_of node.maps) (maps_disk_of records) (left_by node.maps None (maps_disk_of records) letters)) has.own
            (subst (λ (o : Option Membership). rounds.ReportsIn o to (min room 64) letters node.maps) installed reports (maps_disk_of records)
            (is_disk records node.maps (knows_any node has records keeps)));
        left = λ i. record { node = record { mail = with_epoch (has.epoch i); maps = node_of node.maps }; disk = records ++ promise_records None; out = letters };
      };
      marked = λ away membership installed. record { in_order = in_order membership installed; all = λ user. marked_listed node.maps.reports user };
      some = heard.some;
      plain = heard.plain;
      taken = heard.taken;
      fits = heard.fits;
    }
  where
    with_epoch : Option Membership → plain.Node
    with_epoch installed = record (node_seen node.mail) { installed = installed }

pub reports_none : (to room : ℕ) (node : WholeNode) (letters : List Letter) → to ≡ node.mail.store.own → letters ≡ [] → ReportsTo to room letters node
reports_none to room node letters own none = record {
  own = λ e. none;
  without = λ e. none;
  sends = λ away. absurd (away own);
  marked = λ away. absurd (away own);
  some = λ due. absurd (due.0 own);
  plain = λ letter m. absurd (subst (Among letter) none m);
  taken = subst AllCanBeTaken (sym none) none_fit;
  fits = subst (All FitsMaps) (sym none) none_says;
}

-- what is due to another node
pub rows_due : (own to : ℕ) (node : maps.Node) (owes : Bool) → (to ≡ own → ⊥) → (IsTrue owes ↔ HasRowFor to node) → IsTrue owes ↔ HasDue own to node
rows_due own to node owes away both = (
  λ owed. let row = both.0 owed in (away, row.user, ap (λ t. t && maps.manages_in node.installed to row.user) row.marked ∙ row.managed),
  λ due. let parts = and_parts (node.marked due.1) (maps.manages_in node.installed to due.1) due.2 in both.1 (record { user = due.1; marked = parts.0; managed = parts.1 }),
)

pub none_due : (own to : ℕ) (node : maps.Node) → to ≡ own → IsTrue false ↔ HasDue own to node
none_due own to node same = (λ owed. absurd (true≢false (sym owed)), λ due. absurd (due.0 same))

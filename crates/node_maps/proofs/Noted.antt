-- A row that changes, changes as the machine does it.
use Rattle.std.proofs.Common.{if◌then◌else◌, ◌≡◌, ◌+◌, ℕ, Bool, true, nat_eq, List, None, refl, sym, ap, ◌∙◌, subst, cond}
use Rattle.std.specs.Cmp.Lexicographic.{pointwise}
use Rattle.object_model.specs.Letters.{Row}
use Rattle.maps_model.specs.Cluster.{Node, Disk, manages_in}
use Rattle.maps_model.specs.Rules as rules
use Rattle.maps_model.specs.Rules.{set_at, set_row, own_row}
use Rattle.membership.specs.Groups.{Group as Kept, node_of_group}
use Rattle.map_rebuild.specs.Rows.{version_of, is_marked, SetsVersion, KeepsMarks}
use Rattle.map_rebuild.specs.declared.reports.Reports.{Reports}
use Rattle.mail_map.specs.Rows.{rows_of}
use Rattle.mail_map.specs.declared.map.MailMap.{MailMap}
use Rattle.mail_model.specs.Identity.{Id}
use Rattle.mailbox_fragment.specs.Here.{SetsMessage, flips}
use Rattle.mailbox_fragment.specs.declared.fragments.Fragments.{Fragments}
use Rattle.node_maps.specs.declared.maps.NodeMaps.{NodeMaps}
use Rattle.node_maps.specs.Nodes.{node_of, own_of, holds_in, row_of}
use Rattle.node_maps.specs.Rounds.{Turns, TellsOwn, turned, NotesMessage}

module _ (old : NodeMaps) (user : List ℕ) where
  -- the node, as it turns the row
  abbrev changed : Bool → Disk → Node
  changed own disk =
      let next = record (node_of old) { version = set_at (version_of old.reports) user (version_of old.reports user + 1) } in
      if own
      then record next { rows = set_row (rows_of old.rows) (own_of old) old.group.boot user (record (own_row (own_of old) (node_of old) disk user) { version = version_of old.reports user + 1; full = holds_in old user }) }
      else record next { marked = set_at (is_marked old.reports) user true }

  is_changed : (disk : Disk) → changed (manages_in old.group.installed (own_of old) user) disk ≡ (rules.change (own_of old) (node_of old) disk user (holds_in old user)).node
  is_changed disk = refl

  same_is : (u : List ℕ) → pointwise nat_eq u u ≡ true → set_at (version_of old.reports) u (version_of old.reports u + 1) u ≡ version_of old.reports u + 1
  same_is u e = ap (λ t. cond t (version_of old.reports u + 1) (version_of old.reports u)) e

  pub tells_own : (reports : Reports) (rows : MailMap) → pointwise nat_eq user user ≡ true
      → SetsVersion old.reports reports user (version_of old.reports user + 1) → KeepsMarks old.reports reports
      → ((n b : ℕ) (u : List ℕ) → rows_of rows n b u ≡ set_row (rows_of old.rows) (own_of old) old.group.boot user (row_of (own_of old) old.group.boot reports old.fragments user) n b u)
      → TellsOwn user old (record old { reports = reports; rows = rows })
  tells_own reports rows self sets marks told own = record {
    node = λ disk.
        (λ i. node_of_group old.group (λ u. sets u i) (λ u. marks u i) (λ n b u. (told n b u ∙ ap (λ (r : Row). set_row (rows_of old.rows) (own_of old) old.group.boot user r n b u) row) i))
        ∙ ap (λ t. changed t disk) (sym own)
        ∙ is_changed disk;
    group = refl;
    held = refl;
  }
    where
      version : version_of reports user ≡ version_of old.reports user + 1
      version = sets user ∙ same_is user self

      row : row_of (own_of old) old.group.boot reports old.fragments user
          ≡ record { user = user; node = own_of old; boot = old.group.boot; version = version_of old.reports user + 1; full = holds_in old user; profile = None }
      row = λ i. record { user = user; node = own_of old; boot = old.group.boot; version = version i; full = holds_in old user; profile = None }

-- the node once its messages are noted
abbrev pub with_fragments : NodeMaps → Fragments → NodeMaps
with_fragments old f = record old { fragments = f }

pub notes_flip : (old new : NodeMaps) (f : Fragments) (user : List ℕ) (id : Id) (here : Bool) → SetsMessage old.fragments f user id here → true ≡ flips old.fragments f user
    → Turns user (with_fragments old f) new → NotesMessage user id here old new
notes_flip old new f user id here sets flipped turns = record {
  message = subst (λ (g : Fragments). SetsMessage old.fragments g user id here) (sym turns.held) sets;
  node = λ disk. turns.node disk
      ∙ ap (λ (g : Fragments). (rules.change (own_of old) (node_of old) disk user (holds_in (with_fragments old g) user)).node) (sym turns.held)
      ∙ ap (λ t. turned t old new disk user) (flipped ∙ ap (λ (g : Fragments). flips old.fragments g user) (sym turns.held));
  own = ap (λ (k : Kept). k.own) turns.group;
}

-- Reports and their acknowledgements, heard and sent by the rules of the machine.
use Rattle.std.proofs.Common.{◌≡◌, ◌≤◌, ℕ, Bool, true, false, List, [], ◌∷◌, map, Option, Some, None, refl, sym, ap, ◌∙◌, cond, true≢false}
use Rattle.std.proofs.lemmas.Bool.{ltb-true, ltb-false}
use Rattle.mail_model.specs.Identity.{EpochId}
use Rattle.object_model.specs.Letters.{Membership, Row, Letter}
use Rattle.object_model.specs.Letters.Body.{Report, ReportAck}
use Rattle.maps_model.specs.Cluster.{Disk, manager_of}
use Rattle.maps_model.specs.Rules as rules
use Rattle.maps_model.specs.Rules.{set_row, ack_letter, own_row}
use Rattle.maps_model.specs.Rules.HearsReport.{Takes, Older}
use Rattle.maps_model.specs.Rules.HearsAck.{Stale as AckStale, Clears, Other}
use Rattle.user_map.proofs.Managed.{epoch_is}
use Rattle.membership.specs.Groups.{node_of_group}
use Rattle.map_rebuild.specs.Rows.{version_of, is_marked, is_due_at, ClearsMark, KeepsVersions, due_users}
use Rattle.map_rebuild.specs.Laws.{Remembers}
use Rattle.map_rebuild.specs.declared.reports.Reports.{Reports}
use Rattle.map_rebuild.proofs.AsMachine.{acknowledges, reports_due}
use Rattle.mail_map.specs.Rows.{rows_of, is_older, told_row}
use Rattle.mail_map.specs.declared.map.MailMap.{MailMap}
use Rattle.node_maps.specs.declared.maps.NodeMaps.{NodeMaps}
use Rattle.node_maps.specs.Nodes.{node_of, own_of, holds_in, row_of, is_within}
use Rattle.node_maps.specs.Hearing.{left_by, IsOfEpoch, HearsBody}
use Rattle.node_maps.specs.Rounds.{ReportsIn}

-- whether an epoch is the installed one, as a test and as a fact
of_epoch : (installed : Option Membership) (epoch : EpochId) → is_within installed epoch ≡ true → (membership : Membership) × (installed ≡ Some membership) × (membership.epoch ≡ epoch)
of_epoch None epoch e = absurd (true≢false (sym e))
of_epoch (Some membership) epoch e = (membership, refl, epoch_is membership.epoch epoch e)

module _ (old : NodeMaps) (letter : Letter) where
  module _ (row : Row) (rows : MailMap) (letters : List Letter) where
    pub heard_report : row.node ≡ letter.from → is_within old.group.installed letter.epoch ≡ true → ((n b : ℕ) (u : List ℕ) → rows_of rows n b u ≡ told_row row (rows_of old.rows) n b u)
        → letters ≡ ack_letter letter row.user row ∷ [] → HearsBody old letter (Report row) (record { letters = letters; thrown = None }) (record old { rows = rows })
    heard_report own within told sent = record {
      did = λ disk is. by disk (is_older (rows_of old.rows row.node row.boot row.user) row.version) refl;
      thrown = found;
      own = refl;
      held = refl;
    }
      where
        found : IsOfEpoch (node_of old) letter.epoch
        found = of_epoch old.group.installed letter.epoch within

        not_less : (b : Bool) (stood : Row) → is_older (Some stood) row.version ≡ false → stood.version ≤ row.version
        not_less b stood e = ltb-false row.version stood.version e

        here : rows_of old.rows row.node row.boot row.user ≡ rows_of old.rows letter.from row.boot row.user
        here = ap (λ n. rows_of old.rows n row.boot row.user) own

        taken : is_older (rows_of old.rows row.node row.boot row.user) row.version ≡ false → (n b : ℕ) (u : List ℕ) → rows_of rows n b u ≡ set_row (rows_of old.rows) letter.from row.boot row.user row n b u
        taken e n b u =
            told n b u
            ∙ ap (λ t. cond t (rows_of old.rows n b u) (set_row (rows_of old.rows) row.node row.boot row.user row n b u)) e
            ∙ ap (λ m. set_row (rows_of old.rows) m row.boot row.user row n b u) own

        kept : is_older (rows_of old.rows row.node row.boot row.user) row.version ≡ true → (n b : ℕ) (u : List ℕ) → rows_of rows n b u ≡ rows_of old.rows n b u
        kept e n b u = told n b u ∙ ap (λ t. cond t (rows_of old.rows n b u) (set_row (rows_of old.rows) row.node row.boot row.user row n b u)) e

        older : (disk : Disk) (x : Option Row) → rows_of old.rows row.node row.boot row.user ≡ x → is_older x row.version ≡ true
            → ((n b : ℕ) (u : List ℕ) → rows_of rows n b u ≡ rows_of old.rows n b u)
            → rules.HearsReport (node_of old) disk letter row.user row.boot row (left_by (record old { rows = rows }) None disk letters)
        older disk None s e same = absurd (true≢false (sym e))
        older disk (Some stood) s e same = Older found.0 found.1 found.2 stood (sym here ∙ s) (ltb-true row.version stood.version e)
            (λ i. record { node = node_of_group old.group (version_of old.reports) (is_marked old.reports) (λ n b u. same n b u i); disk = disk; out = sent i })

        by : (disk : Disk) (t : Bool) → is_older (rows_of old.rows row.node row.boot row.user) row.version ≡ t
            → rules.HearsReport (node_of old) disk letter row.user row.boot row (left_by (record old { rows = rows }) None disk letters)
        by disk false e = Takes found.0 found.1 found.2 (λ stood s. not_less false stood (sym (ap (λ x. is_older x row.version) (here ∙ s)) ∙ e))
            (λ i. record { node = node_of_group old.group (version_of old.reports) (is_marked old.reports) (λ n b u. taken e n b u i); disk = disk; out = sent i })
        by disk true e = older disk (rows_of old.rows row.node row.boot row.user) refl e (kept e)

  module _ (user : List ℕ) (version : ℕ) (cleared : Bool) (reports : Reports) where
    pub heard_ack : is_within old.group.installed letter.epoch ≡ true → cleared ≡ is_due_at old.reports user version → ClearsMark cleared old.reports reports user → KeepsVersions old.reports reports
        → HearsBody old letter (ReportAck user version) (record { letters = []; thrown = None }) (record old { reports = reports })
    heard_ack within answer clears keeps = record {
      did = λ disk is. by disk (acknowledges (node_of old) disk letter user version cleared old.reports reports (record { versions = λ u. refl; marks = λ u. refl }) found.0 found.1 found.2 answer clears keeps);
      thrown = found;
      own = refl;
      held = refl;
    }
      where
        found : IsOfEpoch (node_of old) letter.epoch
        found = of_epoch old.group.installed letter.epoch within

        left : Disk → rules.Reaction
        left disk = left_by (record old { reports = reports }) None disk []

        case : (disk : Disk) (did : rules.Reaction) → rules.HearsAck (node_of old) disk letter user version did → Remembers reports did.node → rules.HearsAck (node_of old) disk letter user version (left disk)
        case disk did (AckStale stale is) had = absurd (stale found.0 found.1 found.2)
        case disk did (Clears membership installed epoch same is) had = Clears membership installed epoch same
            (λ i. record {
              node = node_of_group old.group (λ u. (had.versions u ∙ ap (λ (d : rules.Reaction). d.node.version u) is) i) (λ u. (had.marks u ∙ ap (λ (d : rules.Reaction). d.node.marked u) is) i) (rows_of old.rows);
              disk = disk;
              out = [];
            })
        case disk did (Other membership installed epoch other is) had = Other membership installed epoch other
            (λ i. record {
              node = node_of_group old.group (λ u. (had.versions u ∙ ap (λ (d : rules.Reaction). d.node.version u) is) i) (λ u. (had.marks u ∙ ap (λ (d : rules.Reaction). d.node.marked u) is) i) (rows_of old.rows);
              disk = disk;
              out = [];
            })

        by : (disk : Disk) → ((did : rules.Reaction) × rules.HearsAck (node_of old) disk letter user version did × Remembers reports did.node) → rules.HearsAck (node_of old) disk letter user version (left disk)
        by disk (did, hears, had) = case disk did hears had

-- the reports of the users that are due
pub sends_reports : (maps : NodeMaps) (membership : Membership) (to most : ℕ) (letters : List Letter) → maps.group.installed ≡ Some membership → (to ≡ own_of maps → ⊥)
    → letters ≡ map (λ user. record { from = own_of maps; to = to; epoch = membership.epoch; ticket = None; body = Report (row_of (own_of maps) maps.group.boot maps.reports maps.fragments user) }) (due_users membership.map to most maps.reports)
    → ReportsIn (Some membership) to most letters maps
sends_reports maps membership to most letters installed other sent disk is = by (reports_due (own_of maps) to most (node_of maps) disk maps.reports membership (record { versions = λ u. refl; marks = λ u. refl }) installed other)
  where
    holds : disk.holds ≡ holds_in maps
    holds = λ i u. is.holds u i

    out : letters ≡ map (λ user. record { from = own_of maps; to = to; epoch = membership.epoch; ticket = None; body = Report (own_row (own_of maps) (node_of maps) disk user) }) (due_users membership.map to most maps.reports)
    out = sent ∙ ap (λ (h : List ℕ → Bool). map (λ user. record { from = own_of maps; to = to; epoch = membership.epoch; ticket = None; body = Report (own_row (own_of maps) (node_of maps) (record disk { holds = h }) user) }) (due_users membership.map to most maps.reports)) (sym holds)

    by : ((did : rules.Reaction) × rules.Reports (own_of maps) to (due_users membership.map to most maps.reports) (node_of maps) disk did × Remembers maps.reports did.node)
        → rules.Reports (own_of maps) to (due_users membership.map to most maps.reports) (node_of maps) disk (left_by maps None disk letters)
    by (did, reports, had) =
        let same : reports.membership ≡ membership = (let a = reports.within in let b = installed in cc) in
        record {
          membership = membership;
          within = installed;
          other = other;
          due = λ user inside. ((reports.due user inside).0, ap (λ (m : Membership). manager_of m user) (sym same) ∙ (reports.due user inside).1);
          is = λ i. record { node = node_of maps; disk = disk; out = out i };
        }

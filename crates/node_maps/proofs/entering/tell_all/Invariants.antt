use Rattle.std.proofs.Common.{◌≡◌, ℕ, List, drop}
use Rattle.mail_map.specs.Rows.{rows_of}
use Rattle.map_rebuild.specs.Rows.{KeepsVersions}
use Rattle.map_rebuild.specs.Laws.{TellsUsers}
use Rattle.map_rebuild.specs.declared.reports.Reports.{Reports}
use Rattle.node_maps.specs.Nodes.{row_of}
use Rattle.node_maps.specs.Entering.{told_in}
use Rattle.node_maps.proofs.entering.tell_all.Given as goal

abbrev pub invariant-loop-user : goal.invariant-loop-user
invariant-loop-user l = record {
  versions : KeepsVersions l.initial.reports l.reports;
  rows : (n b : ℕ) (u : List ℕ) → told_in l.own l.boot (row_of l.own l.boot l.initial.reports l.fragments) (drop l.user-index l.users) (rows_of l.rows) n b u
      ≡ told_in l.own l.boot (row_of l.own l.boot l.initial.reports l.fragments) l.users (rows_of l.initial.rows) n b u;
  marks : (final : Reports) → TellsUsers (drop l.user-index l.users) l.reports final → TellsUsers l.users l.initial.reports final;
}

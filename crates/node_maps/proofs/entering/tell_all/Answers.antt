use Rattle.std.proofs.Common.{◌≡◌, ℕ, List, ◌+◌, ◌∷◌, ◌∙◌, ap, sym, drop}
use Rattle.std.proofs.lemmas.List.{drop_more}
use Rattle.object_model.specs.Letters.{Row}
use Rattle.map_rebuild.specs.Laws.{TellsUsers}
use Rattle.map_rebuild.specs.declared.reports.Reports.{Reports}
use Rattle.mail_map.specs.Rows.{rows_of}
use Rattle.maps_model.specs.Rules.{set_row}
use Rattle.node_maps.specs.Nodes.{row_of}
use Rattle.node_maps.specs.Entering.{told_in}
use Rattle.node_maps.proofs.Entered.{same_row, tell_next, clear_next}
use Rattle.node_maps.proofs.entering.tell_all.Goals as goal

pub loop-user-preserved : goal.loop-user-preserved
loop-user-preserved c =
    let own = c.args.own in
    let boot = c.args.boot in
    let users = c.args.users.now in
    let user = c.user-item.result in
    let before = drop c.loop-user.user-index users in
    let rest = drop (c.loop-user.user-index + 1) users in
    let start = c.args.reports.now in
    let now = c.loop-user.reports in
    let next = c.tell.new.reports in
    let row = row_of own boot start c.args.fragments.now in
    let is : before ≡ user ∷ rest = drop_more users c.loop-user.user-index user c.loop-user-test.true ∙ ap (λ (u : List ℕ). u ∷ rest) (sym c.user-item.is) in
    record {
      versions = λ u. c.tell.ensures.versions u ∙ c.loop-user.invariant.versions u;
      rows = λ n b u. tell_next own boot row before rest user (rows_of c.loop-user.rows) (rows_of c.tell.new.rows) (told_in own boot row users (rows_of c.args.rows.now)) is
          (λ m k v. c.in_ok-tell.ensures.rows m k v ∙ ap (λ (r : Row). set_row (rows_of c.loop-user.rows) own boot user r m k v) (same_row own boot start now c.args.fragments.now user (c.loop-user.invariant.versions user)))
          c.loop-user.invariant.rows n b u;
      marks = clear_next before rest user now next (λ (final : Reports). TellsUsers users start final) is c.in_ok-tell.ensures.marks c.tell.ensures.versions c.loop-user.invariant.marks;
    }

use Rattle.std.proofs.Common.{◌≡◌, ◌≤◌, ◌+◌, ℕ, List, length, ◌∙◌, ap, subst}
use Rattle.object_model.specs.Letters.{Membership}
use Rattle.maps_model.specs.Cluster.{epoch_in}
use Rattle.mail_map.specs.Rows.{rows_of}
use Rattle.mail_map.specs.Installs.{kept_rows}
use Rattle.mail_map.specs.Laws.{map_in}
use Rattle.map_rebuild.specs.Rows.{MarksUsers, marks_of_install, counted_before, due_users}
use Rattle.map_rebuild.specs.Laws.{MarksBucket, TellsUsers}
use Rattle.std.specs.List.{filter}
use Rattle.std.proofs.Common.{not}
use Rattle.node_maps.specs.Nodes.{row_of}
use Rattle.node_maps.specs.Entering.{told_in, is_spared}
use Rattle.node_maps.proofs.Entered.{Work, enters}
use Rattle.node_maps.proofs.entering.enter.Goals as goal

pub returns : goal.returns
returns c =
    let own = c.args.own in
    let boot = c.args.boot in
    let old = c.args.old.now in
    let new = c.args.new.now in
    let fragments = c.args.fragments.now in
    let rows = c.args.rows.now in
    let reports = c.args.reports.now in
    let mid = c.mark_bucket.new.self in
    let kept = c.install.new.self in
    let due = c.in_ok-due.due.items in
    let members : c.as_slice-2.result.now ≡ new.members = c.as_slice-2.ensures ∙ ap (λ (m : Membership). m.members) c.new.view_is in
    let told : c.as_slice-3.result.now ≡ c.in_ok-told.told = c.as_slice-3.ensures in
    let marks : MarksBucket new.epoch due reports mid = record {
      marks = subst (λ (us : List (List ℕ)). MarksUsers reports mid us) c.deref.ensures.value c.in_ok-mark_bucket.ensures.marks;
      versions = c.in_ok-mark_bucket.ensures.versions;
      noted = c.in_ok-mark_bucket.ensures.epoch ∙ ap (λ (m : Membership). m.epoch) c.new.view_is;
      bound = subst (λ (us : List (List ℕ)). marks_of_install mid ≤ counted_before new.epoch reports + length us) c.deref.ensures.value
          (subst (λ (m : Membership). marks_of_install mid ≤ counted_before m.epoch reports + length c.deref.result.now) c.new.view_is c.in_ok-mark_bucket.ensures.bound);
    } in
    let work : Work own boot old new fragments rows reports c.tell_all.new.rows c.tell_all.new.reports = record {
      held = c.in_ok-held.held;
      due = due;
      mid = mid;
      users = c.in_ok-told.told;
      kept = kept;
      found = c.in_ok-held.ensures;
      dues = c.in_ok-due.ensures ∙ ap (λ (us : List (List ℕ)). filter (λ user. not (is_spared old new user)) us) c.as_slice.ensures;
      marks = marks;
      first = c.in_ok-told.ensures.users ∙ ap (λ (m : Membership). due_users m.map own c.len.result mid) c.new.view_is ∙ ap (λ n. due_users new.map own n mid) c.len.ensures;
      keeps = λ n b u.
          c.install.ensures n b u
          ∙ ap (λ x. kept_rows own x c.new.inside.map c.epoch_of.result c.as_slice-2.result.now (rows_of rows) n b u) c.map_of.ensures
          ∙ ap (λ (m : Membership). kept_rows own (map_in old) m.map c.epoch_of.result c.as_slice-2.result.now (rows_of rows) n b u) c.new.view_is
          ∙ ap (λ e. kept_rows own (map_in old) new.map e c.as_slice-2.result.now (rows_of rows) n b u) c.epoch_of.ensures
          ∙ ap (λ ms. kept_rows own (map_in old) new.map (epoch_in old) ms (rows_of rows) n b u) members;
      tells = λ n b u. c.in_ok-tell_all.ensures.rows n b u ∙ ap (λ (us : List (List ℕ)). told_in own boot (row_of own boot mid fragments) us (rows_of kept) n b u) told;
      clears = subst (λ (us : List (List ℕ)). TellsUsers us mid c.tell_all.new.reports) told c.in_ok-tell_all.ensures.marks;
    } in
    enters own boot old new fragments rows reports c.tell_all.new.rows c.tell_all.new.reports work

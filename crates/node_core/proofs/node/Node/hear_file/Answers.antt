use Rattle.std.proofs.Common.{◌≡◌, ℕ, [], ◌∷◌, refl, subst}
use Rattle.std.proofs.lemmas.Result.{err_from_is_err_and}
use Rattle.object_model.specs.Letters.Body.{Filed}
use Rattle.cluster_model.specs.Store.{here_updates}
use Rattle.cluster_model.specs.Rules.{answer, hear_file, drawn_past}
use Rattle.node_store.specs.Disks.{view_of}
use Rattle.node_store.specs.Keeps.{seen_with}
use Rattle.node_store.specs.Changes.{with_stored}
use Rattle.node_core.specs.Filed.{with_filed}
use Rattle.node_core.proofs.Doing.{takes_did, takes_stopped}
use Rattle.node_core.proofs.Fitting.{all_fit, octets_fit, here_objects}
use Rattle.node_core.proofs.Sending.{one_fits}
use Rattle.node_core.proofs.node.Node.hear_file.Goals as goal

pub returns-in_err-file-clause-wrote : goal.returns-in_err-file-clause-wrote
returns-in_err-file-clause-wrote g c =
    let on = view_of g.D.Disk.seen g.D.Disk.faults g.D.Disk.clock in
    let p = err_from_is_err_and c.from_residual.result c.from_residual.ensures.1 in
    let own = c.args.self.now.store.own in
    let updates = here_updates c.args.id c.args.stamp c.args.targets c.args.users.now in
    let w = c.in_err-file.ensures.wrote in
    λ letter. rw (p.1, p.2) (
      takes_stopped on (λ node disk. hear_file own node disk letter c.args.id c.args.stamp c.args.targets c.args.users.now c.args.octets.now)
          (with_filed own c.args.id c.args.stamp c.args.targets c.args.users.now c.args.octets.now) updates (answer letter (Filed c.args.id) ∷ []) c.args.self.now c.args.disk.now _
          (λ records. refl) w.0
          (λ records k. all_fit own updates (with_stored c.args.id c.args.users.now c.args.octets.now (seen_with c.args.self.now.store records))
          (octets_fit c.args.id c.args.users.now c.args.octets.now records c.is_id.ensures k.fit)
          (here_objects c.args.id c.args.stamp c.args.targets c.args.users.now c.is_id.ensures c.requires.stamp c.requires.targets c.are_names.ensures)),
      w.1,
    )

pub returns-clause-wrote : goal.returns-clause-wrote
returns-clause-wrote g c =
    let on = view_of g.D.Disk.seen g.D.Disk.faults g.D.Disk.clock in
    let own = c.args.self.now.store.own in
    let updates = here_updates c.args.id c.args.stamp c.args.targets c.args.users.now in
    let old = c.args.self.now.numbers in
    let numbers = subst (λ (n : ℕ). c.know_copies.new.self ≡ record old { drawn = drawn_past n old.boot old.drawn updates }) c.own-own.ensures (c.know_copies.ensures c.args.stamp c.args.targets) in
    λ letter. takes_did on (λ node disk. hear_file own node disk letter c.args.id c.args.stamp c.args.targets c.args.users.now c.args.octets.now)
    (with_filed own c.args.id c.args.stamp c.args.targets c.args.users.now c.args.octets.now) updates (answer letter (Filed c.args.id) ∷ []) c.args.self.now c.args.disk.now _ _
    (λ records. refl) c.in_ok-file.ensures.wrote numbers refl refl c.requires.works.whole (one_fits (answer letter (Filed c.args.id)) tt)

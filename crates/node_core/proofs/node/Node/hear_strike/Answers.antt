use Rattle.std.proofs.Common.{◌≡◌, ◌<◌, ◌^◌, ℕ, refl, subst}
use Rattle.std.proofs.lemmas.Result.{err_from_is_err_and}
use Rattle.object_model.specs.Sets.{all_nodes}
use Rattle.object_model.specs.Letters.Body.{Strike}
use Rattle.cluster_model.specs.Store.{take_all, gone_updates}
use Rattle.cluster_model.specs.Rules.{hear_strike, drawn_past}
use Rattle.node_store.specs.Disks.{view_of}
use Rattle.node_store.specs.Keeps.{seen_with}
use Rattle.node_store.specs.Writes.{Done, WorkIsCutShort}
use Rattle.node_core.specs.Answering.{answers_to}
use Rattle.node_core.proofs.Doing.{takes_did, takes_stopped}
use Rattle.node_core.proofs.Fitting.{all_fit, gone_objects}
use Rattle.node_core.proofs.Sending.{answers_fit}
use Rattle.node_core.proofs.node.Node.hear_strike.Goals as goal

pub take_gone-requires-clause-targets : goal.take_gone-requires-clause-targets
take_gone-requires-clause-targets g c = (c.everyone-targets.ensures.some, c.everyone-targets.ensures.bound)

pub returns-in_err-take_gone-clause-wrote : goal.returns-in_err-take_gone-clause-wrote
returns-in_err-take_gone-clause-wrote g c =
    let on = view_of g.D.Disk.seen g.D.Disk.faults g.D.Disk.clock in
    let p = err_from_is_err_and c.from_residual.result c.from_residual.ensures.1 in
    let own = c.args.self.now.store.own in
    let nodes = c.args.self.now.shape.nodes in
    let updates = gone_updates c.args.user.now (all_nodes nodes) c.args.marks.now in
    let everyone = c.everyone-targets.ensures in
    let w = c.in_err-take_gone.ensures.wrote in
    let cut = subst (λ (t : ℕ). WorkIsCutShort on (take_all own (gone_updates c.args.user.now t c.args.marks.now)) c.args.self.now.store c.args.disk.now c.take_gone.new.disk) everyone.value w.0 in
    let some = subst (λ (t : ℕ). (0 < t) × (t < 2 ^ 16)) everyone.value (everyone.some, everyone.bound) in
    λ letter. rw (p.1, p.2) (
      takes_stopped on (λ node disk. hear_strike own nodes node disk letter c.args.user.now c.args.marks.now) (take_all own updates) updates (answers_to letter (Strike c.args.user.now c.args.marks.now))
          c.args.self.now c.args.disk.now c.take_gone.new.disk (λ records. refl) cut
          (λ records k. all_fit own updates (seen_with c.args.self.now.store records) k.fit
          (gone_objects c.args.user.now (all_nodes nodes) c.args.marks.now c.is_name.ensures some c.are_ids.ensures c.requires.stamps)),
      w.1,
    )

pub returns-clause-wrote : goal.returns-clause-wrote
returns-clause-wrote g c =
    let on = view_of g.D.Disk.seen g.D.Disk.faults g.D.Disk.clock in
    let own = c.args.self.now.store.own in
    let nodes = c.args.self.now.shape.nodes in
    let updates = gone_updates c.args.user.now (all_nodes nodes) c.args.marks.now in
    let old = c.args.self.now.numbers in
    let numbers = subst (λ (n : ℕ). c.know_marks.new.self ≡ record old { drawn = drawn_past n old.boot old.drawn updates }) c.own-own.ensures (c.know_marks.ensures c.args.user.now (all_nodes nodes)) in
    let done = subst (λ (t : ℕ). Done on (take_all own (gone_updates c.args.user.now t c.args.marks.now)) c.args.self.now.store c.args.disk.now c.take_gone.new.self c.take_gone.new.disk) c.everyone-targets.ensures.value c.in_ok-take_gone.ensures.wrote in
    λ letter. takes_did on (λ node disk. hear_strike own nodes node disk letter c.args.user.now c.args.marks.now) (take_all own updates) updates (answers_to letter (Strike c.args.user.now c.args.marks.now))
    c.args.self.now c.args.disk.now c.take_gone.new.disk _ (λ records. refl) done numbers refl refl c.requires.works.whole
    (answers_fit letter (Strike c.args.user.now c.args.marks.now) c.requires.stamps)

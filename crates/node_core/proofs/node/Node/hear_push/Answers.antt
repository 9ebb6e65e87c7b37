use Rattle.std.proofs.Common.{◌≡◌, ℕ, [], ◌∷◌, max, refl, subst}
use Rattle.std.proofs.lemmas.Result.{err_from_is_err_and}
use Rattle.object_model.specs.Letters.Body.{PushAck}
use Rattle.mail_base.specs.Seen.{key_seen}
use Rattle.cluster_model.specs.Store.{Update}
use Rattle.cluster_model.specs.Rules.{answer, hear_push, greatest_named}
use Rattle.node_store.specs.Disks.{view_of}
use Rattle.node_store.specs.Keeps.{seen_with}
use Rattle.node_core.specs.Filed.{with_pushed_octets, with_state}
use Rattle.node_core.proofs.Doing.{takes_did, takes_stopped}
use Rattle.node_core.proofs.Fitting.{one_fits, pushed_fit}
use Rattle.node_core.proofs.Sending as sending
use Rattle.node_core.proofs.node.Node.hear_push.Goals as goal

pub returns-in_err-take_pushed-clause-wrote : goal.returns-in_err-take_pushed-clause-wrote
returns-in_err-take_pushed-clause-wrote g c =
    let on = view_of g.D.Disk.seen g.D.Disk.faults g.D.Disk.clock in
    let p = err_from_is_err_and c.from_residual.result c.from_residual.ensures.1 in
    let own = c.args.self.now.store.own in
    let key = key_seen c.args.key.now in
    let update : Update = record { key = key; state = c.args.state.now } in
    let w = c.in_err-take_pushed.ensures.wrote in
    λ letter. rw (p.1, p.2) (
      takes_stopped on (λ node disk. hear_push own node disk letter key c.args.state.now c.args.octets.now) (with_state own key c.args.state.now c.args.octets.now) (update ∷ [])
          (answer letter (PushAck key c.args.state.now) ∷ []) c.args.self.now c.args.disk.now _ (λ records. refl) w.0
          (λ records k. one_fits own update (with_pushed_octets key c.args.octets.now (seen_with c.args.self.now.store records))
          (pushed_fit key c.args.octets.now records c.requires.object.key_fits k.fit) c.requires.object),
      w.1,
    )

pub returns-clause-wrote : goal.returns-clause-wrote
returns-clause-wrote g c =
    let on = view_of g.D.Disk.seen g.D.Disk.faults g.D.Disk.clock in
    let own = c.args.self.now.store.own in
    let key = key_seen c.args.key.now in
    let update : Update = record { key = key; state = c.args.state.now } in
    let old = c.args.self.now.numbers in
    let numbers = subst (λ (n : ℕ). c.know_key.new.self ≡ record old { drawn = max old.drawn (greatest_named n old.boot key) }) c.own-own.ensures c.know_key.ensures in
    λ letter. takes_did on (λ node disk. hear_push own node disk letter key c.args.state.now c.args.octets.now) (with_state own key c.args.state.now c.args.octets.now) (update ∷ [])
    (answer letter (PushAck key c.args.state.now) ∷ []) c.args.self.now c.args.disk.now _ _ (λ records. refl) c.in_ok-take_pushed.ensures.wrote numbers refl refl c.requires.works.whole
    (sending.one_fits (answer letter (PushAck key c.args.state.now)) c.requires.object)

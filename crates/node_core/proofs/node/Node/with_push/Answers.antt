use Rattle.std.proofs.Common.{[], ◌∷◌, ◌++◌, Some, sym, ap, ◌∙◌}
use Rattle.object_model.specs.UpdateLog.{Logged}
use Rattle.object_model.specs.Letters.{Letter}
use Rattle.mail_base.specs.Seen.{key_seen}
use Rattle.node_store.specs.Disks.{view_of}
use Rattle.node_core.proofs.PushRead.{one_pushed}
use Rattle.node_core.proofs.node.Node.with_push.Goals as goal

pub returns-clause-read : goal.returns-clause-read
returns-clause-read g c =
    let on = view_of g.D.Disk.seen g.D.Disk.faults g.D.Disk.clock in
    let node = c.args.self.now in
    let key = key_seen c.args.key.now in
    let entry : Logged = record { state = c.entry-2.inside.state; remaining = c.entry-2.inside.remaining } in
    let stands = sym c.in-Some.ensures ∙ ap (λ (e : Logged). Some e) (sym c.entry-2.view_is) in
    one_pushed on node c.args.to key entry stands (sym c.if-not-has.ensures) c.args.disk.now c.pushed_octets.new.disk c.args.letters c.push.new.self c.in_ok-octets.octets
    c.in_ok-octets.ensures.read.0 c.in_ok-octets.ensures.read.1 (c.requires.logged key entry stands) c.requires.fits
    (c.in_ok-push.ensures.ok ∙ ap (λ (l : Letter). c.args.letters ++ l ∷ []) c.in_ok-push_letter.ensures)

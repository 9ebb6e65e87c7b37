use Rattle.std.proofs.Common.{◌≡◌, refl, sym, subst}
use Rattle.mail_base.specs.Seen.{key_seen}
use Rattle.mail_base.specs.declared.key.Key.{Key}
use Rattle.mail_base.specs.declared.key.Key.TheVariants.{Message}
use Rattle.node_store.specs.Disks.{view_of}
use Rattle.node_store.proofs.Works.{done_none, done_same}
use Rattle.node_core.specs.Filed.{with_pushed_octets}
use Rattle.node_core.proofs.filing.store_pushed.Goals as goal

pub returns-in-Profile-clause-wrote : goal.returns-in-Profile-clause-wrote
returns-in-Profile-clause-wrote g c =
    let on = view_of g.D.Disk.seen g.D.Disk.faults g.D.Disk.clock in
    done_same on (λ s. s) (with_pushed_octets (key_seen c.args.key.now) c.args.octets.now) c.args.store.now c.args.disk.now c.args.store.now c.args.disk.now
    (λ s. subst (λ (k : Key). s ≡ with_pushed_octets (key_seen k) c.args.octets.now s) (sym c.in-Profile.is) refl)
    (done_none on c.args.store.now c.args.disk.now c.requires.sound)

pub returns-in-None-clause-wrote : goal.returns-in-None-clause-wrote
returns-in-None-clause-wrote g c =
    let on = view_of g.D.Disk.seen g.D.Disk.faults g.D.Disk.clock in
    done_same on (λ s. s) (with_pushed_octets (key_seen c.args.key.now) c.args.octets.now) c.args.store.now c.args.disk.now c.args.store.now c.args.disk.now
    (λ s. subst (λ (k : Key). s ≡ with_pushed_octets (key_seen k) c.args.octets.now s) (sym c.in-Message.is)
    (subst (λ o. s ≡ with_pushed_octets (key_seen (Message c.in-Message.user c.in-Message.id)) o s) (sym c.in-None.is) refl))
    (done_none on c.args.store.now c.args.disk.now c.requires.sound)

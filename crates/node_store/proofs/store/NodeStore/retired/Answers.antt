use Rattle.std.proofs.Common.{refl, sym, ap, subst, List, ◌++◌, Bool}
use Rattle.mail_model.specs.Record.{Record}
use Rattle.mail_base.specs.Seen.{key_seen}
use Rattle.node_store.specs.Disks.{view_of}
use Rattle.node_store.specs.Changes.{retired_in, retired_where}
use Rattle.node_store.specs.Keeps.{HoldsLogged}
use Rattle.node_store.proofs.Logged.{retired_logged}
use Rattle.node_store.proofs.Silent.{retired_done}
use Rattle.node_store.proofs.store.NodeStore.retired.Goals as goal

pub returns-clause-wrote : goal.returns-clause-wrote
returns-clause-wrote g c =
    let on = view_of g.D.Disk.seen g.D.Disk.faults g.D.Disk.clock in
    let key = key_seen c.args.key.now in
    retired_done on key c.args.state.now (retired_in key c.args.state.now) c.hear_retired-stood.result c.args.self.now c.args.disk.now c.record_where.new.disk
    (λ (records : List Record) k. ap (λ (b : Bool). records ++ retired_where key c.args.state.now b) (sym c.hear_retired-stood.ensures.stood)) _
    (λ records k. sym c.hear_retired-stood.ensures.log)
    c.requires.object (subst HoldsLogged (sym c.hear_retired-stood.ensures.log) (retired_logged key c.args.state.now c.args.self.now.log c.requires.sound.logged)) c.requires.sound refl refl refl c.in_ok-record_where.ensures.written

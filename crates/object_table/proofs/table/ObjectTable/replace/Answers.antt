use Rattle.std.proofs.Common.{sym, subst, IsSome}
use Rattle.std.specs.FinMap as fin
use Rattle.object_table.specs.Tables.{Table}
use Rattle.mail_base.specs.Seen.{key_seen}
use Rattle.object_table.proofs.Indexed.{replaced}
use Rattle.object_table.proofs.table.ObjectTable.replace.Goals as goal

pub invariant_of-self : goal.invariant_of-self
invariant_of-self c =
    let stands = subst (λ (t : Table). IsSome (fin.get t (key_seen c.args.key.now))) (sym c.self.view_is) c.requires.stands in
    rw c.replace.ensures (replaced c.self.inside.states c.self.inside.users (key_seen c.args.key.now) c.args.state c.self.invariant stands c.requires.kind)

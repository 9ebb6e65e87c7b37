use Rattle.std.proofs.Common.{◌≡◌, drop}
use Rattle.node_store.specs.Wanted.{any_stays}
use Rattle.node_store.proofs.octets.stays_for_any.Given as goal

-- the copies so far are gone
abbrev pub invariant-loop-user : goal.invariant-loop-user
invariant-loop-user l = record {
  gone : any_stays l.id l.objects l.users ≡ any_stays l.id l.objects (drop l.user-index l.users);
}

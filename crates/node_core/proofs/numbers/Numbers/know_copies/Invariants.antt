use Rattle.std.proofs.Common.{◌≡◌, ℕ, drop}
use Rattle.mail_model.specs.Identity.{Stamp}
use Rattle.cluster_model.specs.Rules.{drawn_past}
use Rattle.cluster_model.specs.Store.{here_updates}
use Rattle.node_core.proofs.numbers.Numbers.know_copies.Given as goal

-- the users that are left raise the number to what all raise it to
abbrev pub invariant-loop-user : goal.invariant-loop-user
invariant-loop-user l =
    (l.self ≡ record l.initial.self { drawn = l.self.drawn })
    × ((stamp : Stamp) (targets : ℕ) → drawn_past l.fn.own l.initial.self.boot l.self.drawn (here_updates l.fn.id stamp targets (drop l._user-index l.users))
    ≡ drawn_past l.fn.own l.initial.self.boot l.initial.self.drawn (here_updates l.fn.id stamp targets l.users))

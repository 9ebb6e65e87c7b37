use Rattle.std.proofs.Common.{◌≡◌, true, sym, subst}
use Rattle.membership.specs.Groups.{Group}
use Rattle.membership.specs.Checks.{is_open}
use Rattle.membership.proofs.Heard.{joins_added}
use Rattle.membership.proofs.group.Group.hear_join.Goals as goal

pub returns : goal.returns
returns c = joins_added c.args.self.now c.add.new.self c.args.epoch c.args.promise c.args.member c.in_ok-claims.claims c.args.claims.now
    (subst (λ (g : Group). is_open g.opened c.args.epoch ≡ true) c.self.view_is (sym c.if-not-is_open.ensures)) (sym c.if-is_before.ensures) c.in_ok-claims.ensures c.in_ok-add.ensures.ok

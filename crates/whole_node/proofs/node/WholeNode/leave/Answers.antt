use Rattle.std.proofs.Common.{◌≡◌, ℕ, nat_eq, Bool, true, false, List, [], ◌∷◌, Option, None, refl, sym, ap, ◌∙◌, subst, if◌then◌else◌}
use Rattle.object_model.specs.Letters.{Letter}
use Rattle.object_model.specs.Letters.Body.{Unlock}
use Rattle.object_model.specs.Locks.{Held, released}
use Rattle.login_model.specs.Cluster as login
use Rattle.login_model.specs.Rules as rules
use Rattle.node_reads.specs.Readings.{listed}
use Rattle.whole_node.specs.declared.node.WholeNode.{WholeNode}
use Rattle.whole_node.proofs.Reacting.{seen_by, epoch_is}
use Rattle.whole_node.proofs.ReadDids.{leaves_so}
use Rattle.whole_node.proofs.node.WholeNode.leave.Goals as goal

pub returns-then-eq-clause-leaves : goal.returns-then-eq-clause-leaves
returns-then-eq-clause-leaves c =
    let old = c.args.self.now in
    let new = c.leave_here.new.self in
    let here : nat_eq c.args.manager old.mail.store.own ≡ true = ap (λ (o : ℕ). nat_eq c.args.manager o) (sym c.own.ensures) ∙ sym c.if-eq.ensures in
    leaves_so old new (record { mail = c.leave_here.ensures.mail; maps = c.leave_here.ensures.maps }) c.requires.reads.reads c.args.user c.args.login c.args.manager c.leave_here.result c.leave_here.ensures.reads
    (c.leave_here.ensures.locks ∙ sym (ap (λ (b : Bool). if b then released c.args.user c.args.login old.locks else old.locks) here))
    (λ tells. (λ i. record { node = seen_by tells old; out = if here i then [] else record { from = old.mail.store.own; to = c.args.manager; epoch = (seen_by tells old).epoch; ticket = None; body = Unlock c.args.user c.args.login } ∷ [] })
    ∙ (λ i. record { node = seen_by tells old; out = listed (sym c.leave_here.ensures.none i) }))

pub returns-then-eq-clause-fresh : goal.returns-then-eq-clause-fresh
returns-then-eq-clause-fresh c plan seconds = c.can_leave.ensures plan seconds c.args.user c.args.login c.args.manager

pub returns-clause-leaves : goal.returns-clause-leaves
returns-clause-leaves c =
    let old = c.args.self.now in
    let apart : nat_eq c.args.manager old.mail.store.own ≡ false = ap (λ (o : ℕ). nat_eq c.args.manager o) (sym c.own.ensures) ∙ sym c.if-eq.ensures in
    leaves_so old old (record { mail = refl; maps = refl }) c.requires.reads.reads c.args.user c.args.login c.args.manager c.leave.result refl
    (sym (ap (λ (b : Bool). if b then released c.args.user c.args.login old.locks else old.locks) apart))
    (λ tells. subst (λ (o : ℕ). rules.leave o (seen_by tells old) c.args.user c.args.login c.args.manager ≡ record { node = seen_by tells old; out = listed c.leave.result }) c.own-2.ensures
    (c.leave.ensures (seen_by tells old) (epoch_is tells old c.requires.reads.maps ∙ sym c.epoch.ensures)))

pub returns-clause-fresh : goal.returns-clause-fresh
returns-clause-fresh c plan seconds = c.can_leave.ensures plan seconds c.args.user c.args.login c.args.manager

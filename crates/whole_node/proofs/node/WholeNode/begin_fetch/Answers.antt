use Rattle.std.proofs.Common.{ℕ, sym, ◌∙◌, subst, eq-eqb}
use Rattle.object_model.specs.Sets.{count_in}
use Rattle.login_model.specs.NodeLaws.{HasHolder}
use Rattle.node_store.specs.Disks.{view_of}
use Rattle.whole_node.proofs.LoggedIn.{apart_eq}
use Rattle.whole_node.proofs.Fetched.{holder_counted, none_counted, fetch_refused}
use Rattle.whole_node.proofs.node.WholeNode.begin_fetch.Goals as goal

pub returns-then-count-eq0-clause-begins : goal.returns-then-count-eq0-clause-begins
returns-then-count-eq0-clause-begins g c plan own seconds is =
    let on = view_of g.D.Disk.seen g.D.Disk.faults g.D.Disk.clock in
    fetch_refused on plan own seconds c.args.user c.args.id c.args.from c.args.most c.args.holders c.refuse_read.result c.args.self.now c.args.disk.now c.refuse_read.new.self (sym is.own_is)
    (subst (λ (m : ℕ). HasHolder m → ⊥) c.members_among-asked.ensures (none_counted c.members_among-asked.result (eq-eqb (count_in c.members_among-asked.result) 0 (sym c.count.ensures ∙ c.if-count-eq0.true)))) c.refuse_read.ensures.refuses

pub fetch_at-requires-clause-some : goal.fetch_at-requires-clause-some
fetch_at-requires-clause-some g c = holder_counted c.members_among-asked.result (apart_eq (count_in c.members_among-asked.result) 0 (λ e. c.if-count-eq0.false (c.count.ensures ∙ e)))

pub returns-clause-begins : goal.returns-clause-begins
returns-clause-begins g c plan own seconds is = c.fetch_at.ensures.begins plan own seconds c.args.holders is c.members_among-asked.ensures

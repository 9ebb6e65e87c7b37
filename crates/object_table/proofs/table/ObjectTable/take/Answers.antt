use Rattle.std.proofs.Common.{List, ℕ, Bool, Ok, true, ap, subst, ◌∙◌}
use Rattle.std.specs.FinMap as fin
use Rattle.std.specs.declared.alloc.AllocError.{AllocError}
use Rattle.object_model.specs.Keys.{user_of}
use Rattle.mail_base.specs.Seen.{key_seen}
use Rattle.object_table.specs.Outcomes.{outcome}
use Rattle.object_table.specs.Tables.{Table}
use Rattle.object_table.specs.Users.{Added, TookOut}
use Rattle.object_table.proofs.Indexed.{HasMore, added, as_before, taken_back, took_state}
use Rattle.object_table.proofs.Unchanged.{unchanged}
use Rattle.object_table.proofs.table.ObjectTable.take.Goals as goal

pub invariant_of-self : goal.invariant_of-self
invariant_of-self c = as_before c.self.inside.states c.self.inside.users c.add.new.self c.in_err-fresh-in-Newer.ensures c.self.invariant

pub invariant_of-self-in-Ok : goal.invariant_of-self-in-Ok
invariant_of-self-in-Ok c =
    let more : HasMore (user_of (key_seen c.args.key.now)) c.self.inside.users c.add.new.self =
    subst (λ (u : List ℕ). HasMore u c.self.inside.users c.add.new.self) c.user.ensures
    (added AllocError c.user.result.now c.in_ok-fresh-in-Newer.fresh c.self.inside.users c.add.new.self c.in_ok-fresh-in-Newer.ensures) in
    rw c.in-Ok.ensures.ok (took_state c.self.inside.states c.self.inside.users c.add.new.self (key_seen c.args.key.now) c.args.state.now c.self.invariant c.requires more)

pub invariant_of-self-then-fresh : goal.invariant_of-self-then-fresh
invariant_of-self-then-fresh c =
    let user = user_of (key_seen c.args.key.now) in
    let new : Added {E = AllocError} user (Ok true) c.self.inside.users c.add.new.self =
    subst (λ (u : List ℕ). Added {E = AllocError} u (Ok true) c.self.inside.users c.add.new.self) c.user.ensures
    (subst (λ (b : Bool). Added {E = AllocError} c.user.result.now (Ok b) c.self.inside.users c.add.new.self) c.if-fresh.true c.in_ok-fresh-in-Newer.ensures) in
    let out : TookOut user c.add.new.self c.remove.new.self =
    subst (λ (u : List ℕ). TookOut u c.add.new.self c.remove.new.self) c.user-then-fresh.ensures c.remove.ensures in
    rw c.in-Err.ensures.err (as_before c.self.inside.states c.self.inside.users c.remove.new.self (taken_back AllocError user c.self.inside.users c.add.new.self c.remove.new.self new out) c.self.invariant)

pub returns-in-Same-clause-taken : goal.returns-in-Same-clause-taken
returns-in-Same-clause-taken c =
    let read = c.get.ensures ∙ ap (λ (t : Table). fin.get t (key_seen c.args.key.now)) c.self.view_is in
    unchanged c.args.self.now (key_seen c.args.key.now) c.args.state.now c.judged-became.result
    (c.judged-became.ensures ∙ ap (λ h. outcome h c.args.state.now) read) (λ newer. cc (c.in-Same.is, newer))

pub returns-in-Older-clause-taken : goal.returns-in-Older-clause-taken
returns-in-Older-clause-taken c =
    let read = c.get.ensures ∙ ap (λ (t : Table). fin.get t (key_seen c.args.key.now)) c.self.view_is in
    unchanged c.args.self.now (key_seen c.args.key.now) c.args.state.now c.judged-became.result
    (c.judged-became.ensures ∙ ap (λ h. outcome h c.args.state.now) read) (λ newer. cc (c.in-Older.is, newer))

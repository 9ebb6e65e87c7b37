use Rattle.std.proofs.Common.{sym, ap, ◌∙◌}
use Rattle.std.specs.Option.{option_copied}
use Rattle.std.specs.FinMap as fin
use Rattle.mail_model.specs.Identity.Key.{Profile}
use Rattle.mail_base.specs.Seen.{key_seen}
use Rattle.object_table.proofs.Indexed.{kind_read, no_profile, profile_key}
use Rattle.object_table.proofs.table.ObjectTable.profile.Goals as goal

pub returns-in-Some-clause-kind : goal.returns-in-Some-clause-kind
returns-in-Some-clause-kind c =
    let key = profile_key c.self.inside.states c.self.inside.users c.args.user.now c.in-Some.key.now c.self.invariant (sym c.key.ensures ∙ ap option_copied c.in-Some.is) in
    kind_read c.self.inside.states c.self.inside.users (Profile c.args.user.now) c.get.result c.self.invariant
    (c.get.ensures ∙ ap (λ k. fin.get c.self.inside.states (key_seen k)) key)

pub returns-in-None-clause-value : goal.returns-in-None-clause-value
returns-in-None-clause-value c =
    no_profile c.self.inside.states c.self.inside.users c.args.user.now c.self.invariant (sym c.key.ensures ∙ ap option_copied c.in-None.is)
    ∙ ap (λ t. fin.get t (Profile c.args.user.now)) c.self.view_is

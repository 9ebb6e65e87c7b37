use Rattle.std.proofs.Common.{sym, ap, ◌∙◌, ◌++◌, append-nil}
use Rattle.std.specs.Map.Iter.{deref}
use Rattle.std.proofs.lemmas.Map.Iter.{rest_all}
use Rattle.object_table.proofs.Indexed.{names_are}
use Rattle.object_table.proofs.user_keys.UserKeys.names.Goals as goal

pub returns : goal.returns
returns c =
    let none = rest_all deref _ _ _ c.in-None.is c.next.ensures.steps in
    names_are c.loop-user.names c.args.self.now
    (sym (append-nil c.loop-user.names) ∙ ap (λ r. c.loop-user.names ++ r) (sym none) ∙ c.loop-user.invariant)
    c.keys-user-items.ensures.ordered

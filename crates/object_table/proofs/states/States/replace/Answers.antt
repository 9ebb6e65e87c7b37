use Rattle.std.proofs.Common.{sym, ap, ◌∙◌, subst, refl}
use Rattle.std.specs.Option.{option_copied_mut, IsSome}
use Rattle.std.specs.FinMap as fin
use Rattle.mail_base.specs.Seen.{key_seen}
use Rattle.mail_base.proofs.KeyMaps.{key_put}
use Rattle.object_table.proofs.Writes.{none_there}
use Rattle.object_table.proofs.states.States.replace.Goals as goal

pub returns : goal.returns
returns c =
    let found = sym (ap option_copied_mut c.in-Some.is) ∙ c.get_mut.ensures.value in
    key_put _ _ _ c.args.key.now _ c.self.view_is ((c.get_mut.follows.holds c.set.new.here).3 (subst IsSome found refl)).0
    ∙ ap (fin.insert c.args.self.now (key_seen c.args.key.now)) c.set.ensures

pub unreachable-requires : goal.unreachable-requires
unreachable-requires c = none_there _ _ c.args.key.now c.self.view_is (sym (ap option_copied_mut c.in-None.is) ∙ c.get_mut.ensures.value) c.requires

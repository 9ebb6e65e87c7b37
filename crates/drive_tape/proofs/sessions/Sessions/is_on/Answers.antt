use Rattle.std.proofs.Common.{Some, refl, ap, ◌∙◌}
use Rattle.std.proofs.lemmas.Option.{slice_get_read}
use Rattle.drive_tape.proofs.Talks.{matches_at, sit_none, is_on_so}
use Rattle.drive_tape.proofs.sessions.Sessions.is_on.Goals as goal

pub returns-in-Some : goal.returns-in-Some
returns-in-Some c sessions plain all here =
    let there = slice_get_read _ _ _ _ refl c.requires.within c.index.ensures ∙ ap Some c.in-Some.is in
    is_on_so c.has_ended.result plain.standing (c.has_ended.ensures plain (matches_at _ sessions c.args.place _ plain all there here))

pub returns-in-None : goal.returns-in-None
returns-in-None c sessions plain all here =
    let there = slice_get_read _ _ _ _ refl c.requires.within c.index.ensures ∙ ap Some c.in-None.is in
    sit_none _ sessions c.args.place plain all there here

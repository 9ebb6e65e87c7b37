use Rattle.std.proofs.Common.{Some, refl, ap, ◌∙◌}
use Rattle.std.proofs.lemmas.Option.{slice_get_read}
use Rattle.std.proofs.lemmas.Result.{on_ok_weaker}
use Rattle.drive_tape.proofs.Talks.{matches_at, sit_none, on_not_ended}
use Rattle.drive_tape.proofs.Moving.{seated}
use Rattle.drive_tape.proofs.sessions.Sessions.feed.Goals as goal

pub returns-in-Some-clause-talks : goal.returns-in-Some-clause-talks
returns-in-Some-clause-talks c =
    let there = slice_get_read _ _ _ _ refl c.requires.within c.index_mut.ensures.value ∙ ap Some c.in-Some.is in
    on_ok_weaker c.feed.result
    (λ feeds sessions plain all here on. seated _ sessions c.args.place _ c.feed.new.self plain _ all there here (feeds plain (matches_at _ sessions c.args.place _ plain all there here) on))
    c.feed.ensures.ok

pub returns-in-None-clause-talks : goal.returns-in-None-clause-talks
returns-in-None-clause-talks c sessions plain all here on =
    let there = slice_get_read _ _ _ _ refl c.requires.within c.index_mut.ensures.value ∙ ap Some c.in-None.is in
    absurd (on_not_ended plain.standing on (sit_none _ sessions c.args.place plain all there here))

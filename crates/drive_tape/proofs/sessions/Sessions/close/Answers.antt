use Rattle.std.proofs.Common.{Option, Some, refl, sym, ap, ◌∙◌, subst}
use Rattle.std.proofs.lemmas.Option.{slice_get_read}
use Rattle.session_model.specs.Talk.Standing.{EndedClosed}
use Rattle.drive_tape.specs.Talks.{Sits}
use Rattle.drive_tape.specs.declared.talker.Talker.{Talker}
use Rattle.drive_tape.proofs.Talks.{matches_at, sit_none, converse_set, on_not_ended}
use Rattle.drive_tape.proofs.sessions.Sessions.close.Goals as goal

pub returns-in-Some-clause-closed : goal.returns-in-Some-clause-closed
returns-in-Some-clause-closed c sessions plain all here on =
    let was = slice_get_read _ _ _ _ refl c.requires.within c.index_mut.ensures.value ∙ ap Some (sym c.take.ensures.value ∙ c.in-Some.is) in (
      c.leave.ensures.own plain (matches_at _ sessions c.args.place _ plain all was here),
      converse_set _ sessions c.args.place c.take.new.self (record plain { standing = EndedClosed }) all (subst (λ (t : Option Talker). Sits t (record plain { standing = EndedClosed })) (sym c.take.ensures.after) tt),
    )

pub returns-in-None-clause-closed : goal.returns-in-None-clause-closed
returns-in-None-clause-closed c sessions plain all here on =
    let was = slice_get_read _ _ _ _ refl c.requires.within c.index_mut.ensures.value ∙ ap Some (sym c.take.ensures.value ∙ c.in-None.is) in
    absurd (on_not_ended plain.standing on (sit_none _ sessions c.args.place plain all was here))

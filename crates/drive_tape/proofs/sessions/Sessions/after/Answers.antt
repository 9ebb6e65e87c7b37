use Rattle.std.proofs.Common.{◌≡◌, List, Option, Some, None, refl, sym, ap, ◌∙◌, subst, arith}
use Rattle.std.specs.Prelude.{slice_set}
use Rattle.std.proofs.lemmas.Option.{slice_get_read}
use Rattle.session_model.specs.Sessions.{Session}
use Rattle.session_model.specs.Talk.{IsOn}
use Rattle.call_tickets.specs.Moves.{HasEnded}
use Rattle.drive_tape.specs.Talks.{Converse, Sits}
use Rattle.drive_tape.specs.declared.talker.Talker.{Talker}
use Rattle.call_tickets.specs.Moves.Due.{Nothing}
use Rattle.drive_tape.specs.Speakers.{Matches}
use Rattle.drive_tape.proofs.Talks.{it_is, it_is_not, converse_set, set_here_with, set_twice, some_same}
use Rattle.drive_tape.proofs.Moving.{left_none}
use Rattle.drive_tape.proofs.sessions.Sessions.after.Goals as goal

pub returns-then-is_on-clause-goes_on : goal.returns-then-is_on-clause-goes_on
returns-then-is_on-clause-goes_on c sessions plain talker there matches all =
    (all, (it_is c.is_on.result (IsOn plain.standing) (HasEnded plain.standing) c.if-is_on.true (c.is_on.ensures (slice_set sessions c.args.place plain) plain all (set_here_with _ sessions c.args.place plain all c.requires.within)), refl))

pub returns-in-Some-clause-goes_on : goal.returns-in-Some-clause-goes_on
returns-in-Some-clause-goes_on c sessions plain talker there matches all =
    let was = slice_get_read _ _ _ _ refl c.requires.within c.index_mut.ensures.value ∙ ap Some (sym c.take.ensures.value ∙ c.in-Some.is) in
    let same : talker ≡ c.in-Some.talker = some_same talker c.in-Some.talker (some_same (Some talker) (Some c.in-Some.talker) (sym there ∙ was)) in
    let ended = it_is_not c.is_on.result (IsOn plain.standing) (HasEnded plain.standing) c.if-is_on.false
    (c.is_on.ensures (slice_set sessions c.args.place plain) plain all (set_here_with _ sessions c.args.place plain all c.requires.within)) in (
      subst (λ (l : List Session). Converse (slice_set c.args.self.now.talkers.items c.args.place c.take.new.self) l) (set_twice sessions c.args.place plain plain)
          (converse_set _ (slice_set sessions c.args.place plain) c.args.place c.take.new.self plain all (subst (λ (t : Option Talker). Sits t plain) (sym c.take.ensures.after) ended)),
      (ended, c.leave.ensures.own plain (subst (λ (t : Talker). Matches t plain Nothing) same matches), c.saturating_sub-self.ensures),
    )

pub returns-in-Some-clause-less : goal.returns-in-Some-clause-less
returns-in-Some-clause-less c = let none = left_none c.args.self.now.talkers.items c.args.place c.take.new.self c.take.ensures.after in omega (arith, none)

pub returns-in-None-clause-goes_on : goal.returns-in-None-clause-goes_on
returns-in-None-clause-goes_on c sessions plain talker there matches all =
    let was = slice_get_read _ _ _ _ refl c.requires.within c.index_mut.ensures.value ∙ ap Some (sym c.take.ensures.value ∙ c.in-None.is) in
    absurd (let no : Some (Some talker) ≡ Some None = sym there ∙ was in cc)

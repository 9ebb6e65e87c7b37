use Rattle.std.proofs.Common.{refl, ◌∙◌}
use Rattle.session_model.specs.Talk.{IsOn}
use Rattle.call_tickets.specs.Moves.{HasEnded}
use Rattle.drive_tape.proofs.Talks.{found_at, it_is, none_at, at_place}
use Rattle.drive_tape.proofs.sessions.Sessions.find.Goals as goal

pub returns-then-is_on-clause-found : goal.returns-then-is_on-clause-found
returns-then-is_on-clause-found c sessions all =
    let place = c.in-Some.ensures.some in
    let got = found_at c.args.self.now.talkers.items sessions c.in-Some.place all place.1 in (
      got.0,
      got.1,
      at_place sessions c.args.number c.in-Some.place place.0 ∙ got.1,
      it_is c.is_on.result (IsOn got.0.standing) (HasEnded got.0.standing) c.if-is_on.true (c.is_on.ensures sessions got.0 all got.1),
    )

pub returns-in-None-clause-found : goal.returns-in-None-clause-found
returns-in-None-clause-found c sessions all = let none = none_at c.args.self.now.talkers.items sessions c.args.number (c.in-None.ensures.none refl) all in rw none refl

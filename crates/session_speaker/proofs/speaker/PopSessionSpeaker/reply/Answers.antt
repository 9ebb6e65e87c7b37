use Rattle.call_tickets.specs.Moves.Due.{Reply}
use Rattle.call_tickets.specs.Seen.{given_answer}
use Rattle.pop_session.specs.Follows as reader
use Rattle.session_speaker.proofs.Replying.{replies_only}
use Rattle.session_speaker.proofs.speaker.PopSessionSpeaker.reply.Goals as goal

pub returns-clause-replied : goal.returns-clause-replied
returns-clause-replied c =
    let moved = c.in_ok-next.ensures.ok in
    let answer = given_answer c.args.answer in (
      moved.0,
      moved.1,
      λ plain state call reply follows stands is.
          replies_only (reader.Follows c.next.new.self) c.args.plan.now plain (reader.opening_line c.answer.new.self) answer c.in_ok-next.field-0 moved.0
          (moved.2.goes plain (Reply answer) (c.answer.ensures.replies plain state call reply follows stands is)),
    )

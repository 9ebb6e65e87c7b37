use Rattle.std.proofs.Common.{◌≡◌, ◌-◌, true, drop, sym, ◌∙◌, arith}
use Rattle.mail_model.specs.PopReplies.{first_lines}
use Rattle.pop_session.specs.Messages.{begins_crlf}
use Rattle.pop_session.proofs.Tops.{looked, room_behind, some_left, lines_other, lines_more, lines_all}
use Rattle.pop_session.proofs.top.lines_len.Goals as goal

pub loop-left-preserved-then-is_crlf_at : goal.loop-left-preserved-then-is_crlf_at
loop-left-preserved-then-is_crlf_at c =
    let octets = c.args.octets.now in
    let at = c.loop-left.at in
    let left = c.loop-left.left in
    let crlf : begins_crlf (drop at octets) ≡ true = sym c.is_crlf_at.ensures ∙ c.if-is_crlf_at.true in
    record {
      within = room_behind at octets c.loop-left.invariant.within crlf;
      same = looked (first_lines left) (first_lines (left - 1)) at 2 octets (first_lines c.args.lines octets) (lines_more left (drop at octets) (omega (arith, c.loop-left-test.true)) crlf) c.loop-left.invariant.same;
    }

pub loop-left-preserved : goal.loop-left-preserved
loop-left-preserved c =
    let octets = c.args.octets.now in
    let at = c.loop-left.at in
    let left = c.loop-left.left in
    record {
      within = omega (arith, c.if-at-octets.true);
      same = looked (first_lines left) (first_lines left) at 1 octets (first_lines c.args.lines octets)
          (lines_other left (drop at octets) (omega (arith, c.loop-left-test.true)) (some_left at octets c.if-at-octets.true) (sym c.is_crlf_at.ensures ∙ c.if-is_crlf_at.false))
          c.loop-left.invariant.same;
    }

pub returns-else-at-octets-clause-lines : goal.returns-else-at-octets-clause-lines
returns-else-at-octets-clause-lines c =
    lines_all c.loop-left.left c.loop-left.at c.args.octets.now (first_lines c.args.lines c.args.octets.now) (omega (arith, c.if-at-octets.false)) c.loop-left.invariant.same

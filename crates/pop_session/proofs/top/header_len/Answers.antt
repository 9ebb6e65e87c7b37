use Rattle.std.proofs.Common.{◌≡◌, Bool, true, false, drop, sym, subst, ◌∙◌, arith, ◌++◌, take}
use Rattle.mail_model.specs.PopReplies.{header_from, header_of}
use Rattle.pop_session.specs.Messages.{begins_crlf}
use Rattle.pop_session.proofs.Tops.{looked, room_behind, some_left, header_other, header_more, header_found}
use Rattle.pop_session.proofs.top.header_len.Goals as goal

pub loop-at-preserved-then-not-is_crlf_at : goal.loop-at-preserved-then-not-is_crlf_at
loop-at-preserved-then-not-is_crlf_at c =
    let octets = c.args.octets.now in
    let at = c.loop-at.at in
    record {
      within = omega (arith, c.loop-at-test.true);
      same = looked (header_from c.loop-at.begins) (header_from false) at 1 octets (header_of octets)
          (header_other c.loop-at.begins (drop at octets) (some_left at octets c.loop-at-test.true) (sym c.is_crlf_at.ensures ∙ c.if-not-is_crlf_at.true)) c.loop-at.invariant.same;
    }

pub returns-then-begins-clause-header : goal.returns-then-begins-clause-header
returns-then-begins-clause-header c =
    let octets = c.args.octets.now in
    let at = c.loop-at.at in
    let Of : Bool → Type 0 = λ b. take at octets ++ header_from b (drop at octets) ≡ header_of octets in
    header_found at octets (sym c.is_crlf_at.ensures ∙ c.if-not-is_crlf_at.false) (subst Of c.if-begins.true c.loop-at.invariant.same)

pub returns-then-begins-clause-within : goal.returns-then-begins-clause-within
returns-then-begins-clause-within c = room_behind c.loop-at.at c.args.octets.now c.loop-at.invariant.within (sym c.is_crlf_at.ensures ∙ c.if-not-is_crlf_at.false)

pub loop-at-preserved : goal.loop-at-preserved
loop-at-preserved c =
    let octets = c.args.octets.now in
    let at = c.loop-at.at in
    let crlf : begins_crlf (drop at octets) ≡ true = sym c.is_crlf_at.ensures ∙ c.if-not-is_crlf_at.false in
    let Of : Bool → Type 0 = λ b. take at octets ++ header_from b (drop at octets) ≡ header_of octets in
    record {
      within = room_behind at octets c.loop-at.invariant.within crlf;
      same = looked (header_from false) (header_from true) at 2 octets (header_of octets) (header_more (drop at octets) crlf) (subst Of c.if-begins.false c.loop-at.invariant.same);
    }

use Rattle.std.proofs.Common.{◌+◌, ◌∷◌, [], true, refl, sym, ◌∙◌}
use Rattle.std.proofs.lemmas.Result.{err_from_is_err_and}
use Rattle.std.proofs.lemmas.List.{append-nil}
use Rattle.std.proofs.lemmas.List.Elements.{All-nil, All-cons}
use Rattle.mail_model.specs.Lines.{HasNoCrlf, sent_line}
use Rattle.session_model.specs.Talk.{down_line}
use Rattle.drive_tape.proofs.Works.{work_none}
use Rattle.drive_tape.proofs.Clusters.{as_wrote, as_gave, stops_at_once}
use Rattle.drive_tape.proofs.Falling.{passed_over, falls_on, falling_on, stops_falling}
use Rattle.drive_tape.proofs.cluster.Cluster.fall_at.Goals as goal

pub returns-in_err-fall-clause-fell : goal.returns-in_err-fall-clause-fell
returns-in_err-fall-clause-fell g c start plan p node onward t held =
    let e = err_from_is_err_and c.from_residual.result c.from_residual.ensures.1 in
    rw (e.1, e.2) (stops_at_once _ start plan p _ c.args.self.now.world held (p.awaited, t.falling.at) t.falling.causes)

pub returns-then-not-branch-clause-fell : goal.returns-then-not-branch-clause-fell
returns-then-not-branch-clause-fell g c start plan p node onward t held =
    let is = c.if-not-branch.true in
    let fell = rw is at c.in_ok-fall.ensures.fell p.sessions t.plain t.falling.talks t.here in
    (p, work_none plan p, held, passed_over _ start plan p c.args.place node onward c.args.self.now _ t refl c.in_ok-fall.ensures.nodes (rw c.requires.even.calls c.requires.within) c.in_ok-fall.ensures.calls p.held _ fell.0 fell.1)

pub returns-in_err-write_reply-clause-fell : goal.returns-in_err-write_reply-clause-fell
returns-in_err-write_reply-clause-fell g c start plan p node onward t held =
    let e = err_from_is_err_and c.from_residual-in_err-write_reply.result c.from_residual-in_err-write_reply.ensures.1 in
    let is = c.if-not-branch.false in
    let fell = rw is at c.in_ok-fall.ensures.fell p.sessions t.plain t.falling.talks t.here in
    let said = down_line t.plain.protocol t.plain.node ∷ [] in
    let says = c.deref.ensures.value ∙ fell.says ∙ sym (append-nil (sent_line (down_line t.plain.protocol t.plain.node))) in
    rw (e.1, e.2) (stops_falling _ start plan p c.args.place node onward c.args.self.now _ t refl c.in_ok-fall.ensures.nodes (rw c.requires.even.calls c.requires.within) c.in_ok-fall.ensures.calls _ _ fell c.in_err-write_reply.field-0.0
    (as_wrote p.held _ _ _ (c.args.place + 1) said true c.in_err-write_reply.field-0.0 held c.number_of.ensures
    (c.in_err-write_reply.ensures.written said (All-cons HasNoCrlf _ [] fell.line (All-nil HasNoCrlf)) says)))

pub returns-clause-fell : goal.returns-clause-fell
returns-clause-fell g c start plan p node onward t held =
    let is = c.if-not-branch.false in
    let fell = rw is at c.in_ok-fall.ensures.fell p.sessions t.plain t.falling.talks t.here in
    let said = down_line t.plain.protocol t.plain.node ∷ [] in
    let says = c.deref.ensures.value ∙ fell.says ∙ sym (append-nil (sent_line (down_line t.plain.protocol t.plain.node))) in
    let gave = as_gave p.held _ _ _ (c.args.place + 1) said true held c.number_of.ensures
    (c.in_ok-write_reply.ensures.written said (All-cons HasNoCrlf _ [] fell.line (All-nil HasNoCrlf)) says) in (
      _,
      falls_on _ start plan p c.args.place node onward c.args.self.now _ t refl c.in_ok-fall.ensures.nodes (rw c.requires.even.calls c.requires.within) c.in_ok-fall.ensures.calls _ _ fell gave,
      refl,
      falling_on _ start plan p c.args.place node onward c.args.self.now _ t refl c.in_ok-fall.ensures.nodes (rw c.requires.even.calls c.requires.within) c.in_ok-fall.ensures.calls _ _ fell,
    )

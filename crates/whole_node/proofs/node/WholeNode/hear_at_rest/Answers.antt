use Rattle.std.proofs.Common.{sym, ap, ◌∙◌}
use Rattle.object_model.specs.Letters.{Letter}
use Rattle.object_model.specs.Letters.Body.{ListAsk, ListTold, FetchTold}
use Rattle.mail_base.specs.Bodies.{body_seen, part_seen}
use Rattle.whole_node.proofs.HeardReads.{rest_ok}
use Rattle.whole_node.proofs.node.WholeNode.hear_at_rest.Goals as goal

pub returns-in-ListAsk-clause-ok : goal.returns-in-ListAsk-clause-ok
returns-in-ListAsk-clause-ok c = rest_ok c.args.self.now c.args.self.now c.args.letter.now (ListAsk c.in-ListAsk.user) c.args.users.now c.hear_list_ask.result
    (sym (ap (λ (l : Letter). l.body) c.letter.view_is) ∙ ap body_seen c.in-ListAsk.is) c.hear_list_ask.ensures

pub returns-in-ListTold-clause-ok : goal.returns-in-ListTold-clause-ok
returns-in-ListTold-clause-ok c = rest_ok c.args.self.now c.hear_list_told.new.self c.args.letter.now (ListTold c.in-ListTold.items) c.args.users.now c.hear_list_told.result
    (sym (ap (λ (l : Letter). l.body) c.letter.view_is) ∙ ap body_seen c.in-ListTold.is) c.hear_list_told.ensures.ok

pub returns-in-FetchTold-clause-ok : goal.returns-in-FetchTold-clause-ok
returns-in-FetchTold-clause-ok c = rest_ok c.args.self.now c.hear_fetch_told.new.self c.args.letter.now (FetchTold (part_seen c.in-FetchTold.part)) c.args.users.now c.hear_fetch_told.result
    (sym (ap (λ (l : Letter). l.body) c.letter.view_is) ∙ ap body_seen c.in-FetchTold.is) c.hear_fetch_told.ensures.ok

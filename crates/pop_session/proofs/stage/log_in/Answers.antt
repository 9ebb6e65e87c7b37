use Rattle.pop_session.proofs.stage.log_in.Goals as goal

pub returns-clause-own : goal.returns-clause-own
returns-clause-own c = λ banner name slots. c.ask_login.ensures.own banner name slots tt

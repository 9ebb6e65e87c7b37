use Rattle.smtp_session.proofs.Moving.{fewer_held}
use Rattle.std.proofs.Common.{arith}
use Rattle.smtp_session.proofs.session.SmtpSession.let_go.Goals as goal

pub returns-then-not-self-clause-held : goal.returns-then-not-self-clause-held
returns-then-not-self-clause-held c = omega (arith, fewer_held c.args.self.now.cutter c.find.new.self c.find.result c.find.ensures)

pub returns-then-not-self-clause-left : goal.returns-then-not-self-clause-left
returns-then-not-self-clause-left c = omega (arith, fewer_held c.args.self.now.cutter c.find.new.self c.find.result c.find.ensures)

use Rattle.std.proofs.Common.{sym, ◌∙◌}
use Rattle.porcupine_server.proofs.Serving.{ran, write_stop}
use Rattle.porcupine_server.proofs.server.serve.Goals as goal

pub returns-in-Ok-clause-serves : goal.returns-in-Ok-clause-serves
returns-in-Ok-clause-serves g c = ran _ _ _ _ _ _ _ _ _ _ _ c.of.ensures c.in-Ok.ensures.opened c.drive-drove.ensures.drives c.drive-drove.ensures.settled c.close.ensures

pub returns-in-Ok-clause-write_fault : goal.returns-in-Ok-clause-write_fault
returns-in-Ok-clause-write_fault g c is = c.drive-drove.ensures.write_fault (write_stop _ (sym c.of.ensures ∙ is))

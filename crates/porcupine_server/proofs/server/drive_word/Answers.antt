use Rattle.porcupine_server.proofs.Promises.{has_kept}
use Rattle.porcupine_server.proofs.Complete.{complete}
use Rattle.porcupine_server.proofs.Named.{named}
use Rattle.porcupine_server.proofs.server.drive_word.Goals as goal

pub returns-clause-promises : goal.returns-clause-promises
returns-clause-promises g c = has_kept _ _ _ _ _ _ _ c.work-ending.ensures.works c.finish.ensures.finished

pub returns-clause-store_fault : goal.returns-clause-store_fault
returns-clause-store_fault g c is = named _ _ _ _ _ _ _ _ c.work-ending.ensures.works c.finish.ensures.finished c.work-ending.ensures.store_fault is

pub returns-clause-complete : goal.returns-clause-complete
returns-clause-complete g c tape = complete _ _ _ _ _ _ _ _ _ _ _ _ _ _ tape c.work-ending.ensures.works c.finish.ensures.finished
    c.work-ending.ensures.read_fault c.work-ending.ensures.write_fault c.work-ending.ensures.store_fault
    c.work-ending.ensures.write_later c.finish.ensures.later c.finish.ensures.failed

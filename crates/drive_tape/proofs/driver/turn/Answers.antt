use Rattle.drive_tape.proofs.driver.turn.Goals as goal

pub returns-clause-read_fault : goal.returns-clause-read_fault
returns-clause-read_fault g c start p shows clock held is = absurd ((rw is at c.handle.ensures.did start p shows clock held)).why

use Rattle.word_works.proofs.Checks.{named, some_status, unread, good}
use Rattle.word_works.proofs.check.check_plan.Goals as goal

pub returns-clause-plan_fault : goal.returns-clause-plan_fault
returns-clause-plan_fault g c two = named _ _ _ _ _ c.look-found.ensures.found c.tell.ensures.told two

pub returns-clause-some_status : goal.returns-clause-some_status
returns-clause-some_status g c = some_status _ _ _ _ c.tell.ensures.told

pub returns-clause-read_fault : goal.returns-clause-read_fault
returns-clause-read_fault g c four = c.look-found.ensures.unread (unread _ _ _ _ c.tell.ensures.told four)

pub returns-clause-complete : goal.returns-clause-complete
returns-clause-complete g c octets is keeps read written = good _ _ _ octets _ _ is keeps c.look-found.ensures.found c.tell.ensures.told
    (λ no. read (c.look-found.ensures.unread no)) (λ five. written (c.tell.ensures.write_fault five))

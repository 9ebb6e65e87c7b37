use Rattle.porcupine_server.proofs.Tasks.{some_task}
use Rattle.porcupine_server.proofs.Nothing.{driven_nothing, stormed_nothing, checked_nothing, served_nothing}
use Rattle.porcupine_server.proofs.server.answer_words.Goals as goal

-- memory ran out as the words were read, so they are of a form
pub returns-in-Err-clause-by_task : goal.returns-in-Err-clause-by_task
returns-in-Err-clause-by_task g c = some_task _ _ _ _ _ _ c.in-Err.ensures.of_a_form (driven_nothing _ _ _ _ _ _ _) (λ number size. stormed_nothing _ _ _ _ _ number size) (λ file. checked_nothing _ _ _ _ _ _)
    (λ file. served_nothing _ _ _ _ _ _ _ _ _ _ _ _ _)

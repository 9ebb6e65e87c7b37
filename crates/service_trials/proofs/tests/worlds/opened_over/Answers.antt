use Rattle.service_trials.proofs.tests.worlds.opened_over.Goals as goal

pub returns-in-Ok : goal.returns-in-Ok
returns-in-Ok g c = c.opened_is_sound.ensures _ c.in-Ok.world c.in-Ok.ensures.opened.begins

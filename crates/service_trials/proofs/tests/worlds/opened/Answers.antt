use Rattle.service_trials.proofs.tests.worlds.opened.Goals as goal

pub returns-in-Ok : goal.returns-in-Ok
returns-in-Ok c = c.opened_is_sound.ensures _ c.in-Ok.world c.in-Ok.ensures

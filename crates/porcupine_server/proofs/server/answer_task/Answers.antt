use Rattle.std.proofs.Common.{refl}
use Rattle.porcupine_server.proofs.Tasks.{driven_by, stormed_by, checked_by, served_by, not_served}
use Rattle.command_words.specs.Forms.Task.{Serve}
use Rattle.porcupine_server.proofs.server.answer_task.Goals as goal

pub returns-in-Drive-clause-by_task : goal.returns-in-Drive-clause-by_task
returns-in-Drive-clause-by_task g c = driven_by _ _ _ _ _ _ _ _ _ _ _ _ _ c.in-Drive.is refl (record {
  promises = c.drive_word.ensures.promises;
  transcript_follows = c.drive_word.ensures.transcript_follows;
  not_words = c.drive_word.ensures.not_words;
  not_plan = c.drive_word.ensures.not_plan;
  read_fault = c.drive_word.ensures.read_fault;
  write_fault = c.drive_word.ensures.write_fault;
  store_fault = c.drive_word.ensures.store_fault;
  complete = c.drive_word.ensures.complete;
})

pub returns-in-Storm-clause-by_task : goal.returns-in-Storm-clause-by_task
returns-in-Storm-clause-by_task g c = stormed_by _ _ _ _ _ _ _ _ _ _ _ _ _ _ _ c.in-Storm.is refl (record {
  storm = c.write_storm.ensures.storm;
  write_fault = c.write_storm.ensures.write_fault;
  complete = c.write_storm.ensures.complete;
  untouched = record { left = refl; handed = refl; returned = refl };
})

pub returns-in-Check-clause-by_task : goal.returns-in-Check-clause-by_task
returns-in-Check-clause-by_task g c = checked_by _ _ _ _ _ _ _ _ _ _ _ _ _ _ c.in-Check.is refl (record {
  checks = c.check_plan.ensures.checks;
  some_status = c.check_plan.ensures.some_status;
  plan_fault = c.check_plan.ensures.plan_fault;
  read_fault = c.check_plan.ensures.read_fault;
  write_fault = c.check_plan.ensures.write_fault;
  complete = c.check_plan.ensures.complete;
  untouched = record { left = refl; handed = c.check_plan.ensures.handed; returned = c.check_plan.ensures.returned };
})

pub returns-in-Serve-clause-by_task : goal.returns-in-Serve-clause-by_task
returns-in-Serve-clause-by_task g c = served_by _ _ _ _ _ _ _ _ _ _ _ _ _ _ c.in-Serve.is refl (record {
  served = c.serve_plan.ensures.served;
  some_status = c.serve_plan.ensures.some_status;
  stopped = c.serve_plan.ensures.stopped;
  plan_fault = c.serve_plan.ensures.plan_fault;
  early = c.serve_plan.ensures.early;
  read_fault = c.serve_plan.ensures.read_fault;
  write_fault = c.serve_plan.ensures.write_fault;
  store_fault = c.serve_plan.ensures.store_fault;
  door_fault = c.serve_plan.ensures.door_fault;
  complete = c.serve_plan.ensures.complete;
})

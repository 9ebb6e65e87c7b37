-- A task of the code, as a contract sees it.
use Rattle.command_words.specs.Forms.{Task}
use Rattle.command_words.specs.declared.task.Task.{Task as CodeTask}
use Rattle.command_words.specs.declared.task.Task.TheVariants as code

abbrev pub task_seen : CodeTask → Task
task_seen code.Drive = Task.Drive
task_seen (code.Storm number size) = Task.Storm number size
task_seen (code.Check file) = Task.Check file.now
task_seen (code.Serve file) = Task.Serve file.now

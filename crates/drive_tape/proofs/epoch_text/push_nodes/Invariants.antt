use Rattle.std.proofs.Common.{◌≡◌, ◌++◌}
use Rattle.object_model.specs.Sets.{nodes_in}
use Rattle.session_model.specs.Events.{node_words}
use Rattle.drive_tape.proofs.epoch_text.push_nodes.Given as goal

-- the words of the nodes so far stand behind the text
abbrev pub invariant-loop-done : goal.invariant-loop-done
invariant-loop-done l = l.text.items ≡ l.fn.text.items ++ node_words (nodes_in l.fn.nodes l.done)

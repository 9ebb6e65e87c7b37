use Rattle.std.proofs.Common.{◌≡◌, ◌≤◌, ◌+◌, ◌-◌, ◌++◌}
use Rattle.serve_word.specs.Plans.{ports_from}
use Rattle.serve_word.proofs.plan_parts.ports_of.Given as goal

-- the ports so far and those of the nodes that are left are those of all
abbrev pub invariant-loop-place : goal.invariant-loop-place
invariant-loop-place l = record {
  made : l.ports.items ++ ports_from (l.nodes - l.place) (l.place + 1) (l.smtp + l.place) (l.pop + l.place) ≡ ports_from l.nodes 1 l.smtp l.pop;
  within : l.place ≤ l.nodes;
}

abbrev pub decreases-loop-place : goal.decreases-loop-place
decreases-loop-place l = l.nodes - l.place

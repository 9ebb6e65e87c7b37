use Rattle.std.proofs.Common.{take}
use Rattle.node_store.specs.Disks.{view_of}
use Rattle.node_tickets.specs.Seen.{kind_of_mishap}
use Rattle.cluster_world.specs.Missing.{all_missed, Noticed}
use Rattle.cluster_world.proofs.mishaps.note_all.Given as goal

-- the mishaps of the letters so far are noted
abbrev pub invariant-loop-letter : goal.invariant-loop-letter
invariant-loop-letter g l = record {
  noted : Noticed (view_of g.D.Disk.seen g.D.Disk.faults g.D.Disk.clock) l.initial.nodes.plan (λ slots. all_missed (kind_of_mishap l.kind) slots (take l.letter-index l.letters)) l.initial.nodes l.nodes;
}

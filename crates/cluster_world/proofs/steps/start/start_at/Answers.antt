use Rattle.std.proofs.Common.{◌∙◌, ap, arith}
use Rattle.node_core.specs.declared.node.Node.{Node}
use Rattle.cluster_world.proofs.steps.start.start_at.Goals as goal

pub returns : goal.returns
returns g c = record {
  was = c.requires.down;
  comes = (c.in_ok-up.up, record { is = c.put_life.ensures; boot_is = c.boot-boot.ensures ∙ ap (λ (n : Node). n.numbers.boot) c.mail.ensures; small = omega arith; fresh = c.in_ok-up.ensures.beside }, c.in_ok-up.ensures.starts);
  told = c.start.ensures.told;
  faults = c.start.ensures.faults;
  settled = c.in_ok-up.ensures.settled;
}

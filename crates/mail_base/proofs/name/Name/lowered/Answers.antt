use Rattle.mail_base.proofs.Lower.{lower_name}
use Rattle.mail_base.proofs.name.Name.lowered.Goals as goal

pub invariant_of-result : goal.invariant_of-result
invariant_of-result c = rw c.in_ok-to_lower.ensures (lower_name c.args.octets.now c.requires)

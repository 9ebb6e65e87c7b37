use Rattle.std.proofs.Common.{refl}
use Rattle.mail_base.proofs.Sets.{one_word, has_with_node, with_small}
use Rattle.mail_base.proofs.node_set.NodeSet.with.Goals as goal

pub invariant_of-result : goal.invariant_of-result
invariant_of-result c =
    let one = one_word c.args.node c.bit_of.ensures.low in
    rw (c.bit_of.ensures.word, ← one) (with_small c.self.inside.word c.args.node c.self.invariant c.bit_of.ensures.low c.bit_of.ensures.high)

pub returns : goal.returns
returns c =
    let one = one_word c.args.node c.bit_of.ensures.low in
    rw (← c.self.view_is, c.bit_of.ensures.word, ← one) (record { mask = refl; members = λ n. has_with_node c.self.inside.word c.args.node n c.bit_of.ensures.low c.bit_of.ensures.high })

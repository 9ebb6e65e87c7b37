use Rattle.std.proofs.Common.{refl}
use Rattle.mail_base.proofs.Sets.{without_word, has_without_node}
use Rattle.mail_base.proofs.node_set.NodeSet.without.Goals as goal

pub returns : goal.returns
returns c =
    let word = without_word c.self.inside.word c.args.node c.bit_of.ensures.low c.bit_of.ensures.high in
    rw (← c.self.view_is, c.bit_of.ensures.word, word) (record { mask = refl; members = λ n. has_without_node c.self.inside.word c.args.node n })

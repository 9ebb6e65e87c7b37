use Rattle.std.proofs.Common.{◌≡◌, ◌-◌, ◌+◌, ℕ, List, [], map, take, sym, ap, subst, ◌∙◌, le-leb, arith}
use Rattle.std.specs.FinMap as fin
use Rattle.mail_model.specs.Identity.{Key}
use Rattle.mail_base.specs.declared.key.Key as code
use Rattle.mail_base.specs.Seen.{key_seen}
use Rattle.cluster_model.specs.Cluster.{epoch_of}
use Rattle.cluster_model.specs.Rules.{push_of}
use Rattle.cluster_model.specs.Room.{octets_of_all}
use Rattle.node_core.specs.Nodes.{node_seen}
use Rattle.node_core.specs.Pushing.{first_within}
use Rattle.node_core.proofs.Rooms.{none_within, one_within, longer, taken_more}
use Rattle.node_core.proofs.node.Node.+count_within.Goals as goal

pub returns-then-size-room-clause-first : goal.returns-then-size-room-clause-first
returns-then-size-room-clause-first t c = λ own records k.
    let node = c.args.self.now in
    let f = λ (key : Key). push_of own c.args.to (epoch_of (node_seen node)) records key (fin.get node.store.log key) in
    let first = key_seen c.in-Some.key.now in
    subst (λ (xs : List code.Key). [] ≡ first_within f c.args.most c.args.room (map key_seen xs)) (sym c.in-Some.ensures.cases.0)
    (none_within f c.args.most c.args.room first (map key_seen c.in-Some.others.now) (longer (octets_of_all (f first)) c.args.room (omega (arith, c.if-size-room.true, c.push_size-size.ensures own records k))))

pub returns-clause-first : goal.returns-clause-first
returns-clause-first t c = λ own records k.
    let node = c.args.self.now in
    let f = λ (key : Key). push_of own c.args.to (epoch_of (node_seen node)) records key (fin.get node.store.log key) in
    let first = key_seen c.in-Some.key.now in
    let size = c.push_size-size.ensures own records k in
    let others = map key_seen c.in-Some.others.now in
    let rest = c.count_within.ensures.first own records k ∙ ap (λ (n : ℕ). first_within f (c.args.most - 1) (c.args.room - n) others) size in
    subst (λ (xs : List code.Key). map key_seen (take (1 + c.count_within.result) xs) ≡ first_within f c.args.most c.args.room (map key_seen xs)) (sym c.in-Some.ensures.cases.0)
    (ap (map key_seen) (taken_more c.count_within.result c.in-Some.key.now c.in-Some.others.now)
    ∙ one_within f c.args.most (c.args.most - 1) c.args.room first others _ (omega (arith, c.if-most-eq0.false))
    (le-leb (octets_of_all (f first)) c.args.room (omega (arith, c.if-size-room.false, size))) rest)

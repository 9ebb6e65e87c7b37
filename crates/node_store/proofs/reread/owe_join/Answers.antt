use Rattle.std.proofs.Common.{◌≡◌, subst}
use Rattle.std.specs.Prelude.{OnOk}
use Rattle.mail_model.specs.Identity.{State}
use Rattle.mail_base.specs.Seen.{key_seen}
use Rattle.cluster_model.specs.Starts.{owed_state}
use Rattle.node_store.proofs.Objects.{join_stands, nothing_stands}
use Rattle.node_store.proofs.reread.owe_join.Goals as goal

pub unreachable-requires : goal.unreachable-requires
unreachable-requires c = nothing_stands (key_seen c.args.key.now) c.args.state.now c.args.objects.now c.take.new.self c.in_ok-take.ensures.taken c.in-None.ensures.value

pub returns-clause-log : goal.returns-clause-log
returns-clause-log c =
    let joined = join_stands (key_seen c.args.key.now) c.args.state.now c.in-Some.joined.now c.args.objects.now c.take.new.self c.in_ok-take.ensures.taken c.in-Some.ensures.value in
    subst (λ (s : State). OnOk c.owe.result (c.owe.new.log ≡ owed_state c.args.own (key_seen c.args.key.now) s c.args.log.now)) joined c.owe.ensures

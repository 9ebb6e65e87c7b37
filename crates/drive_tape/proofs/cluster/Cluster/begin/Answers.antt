use Rattle.std.proofs.Common.{◌+◌, ◌<◌, ℕ, length, List, Option, refl, sym, subst, inr}
use Rattle.std.proofs.lemmas.Result.{err_from_is_err_and}
use Rattle.std.proofs.lemmas.Option.{slice_get_read}
use Rattle.node_store.specs.Disks.{view_of}
use Rattle.cluster_world.specs.Worlds.{plan_of}
use Rattle.drive_tape.specs.declared.drove.Stop.TheVariants as why
use Rattle.drive_tape.specs.Points.{Stopped}
use Rattle.cluster_world.specs.Outcomes.{awaited_elsewhere}
use Rattle.cluster_world.specs.Outcomes.Outcome.{Fell}
use Rattle.drive_tape.proofs.Clusters.{stopped_on, went_on}
use Rattle.drive_tape.proofs.Places.{node_is}
use Rattle.drive_tape.proofs.Begins.{asks_whole, at_own, begins, begun_work, falls, stops_beginning}
use Rattle.drive_tape.proofs.cluster.Cluster.begin.Goals as goal

pub returns-in_err-open_call-clause-began : goal.returns-in_err-open_call-clause-began
returns-in_err-open_call-clause-began g c start p onward b held =
    let e = err_from_is_err_and c.from_residual.result c.from_residual.ensures.1 in
    let inside : c.args.place < length c.args.self.now.sessions.nodes.items = rw c.requires.even.nodes c.requires.within in
    let own = node_is p.sessions c.args.self.now.sessions.nodes.items c.args.place _ b.plain b.nodes b.here (slice_get_read _ _ _ _ refl inside c.index-node.ensures) in
    rw (e.1, e.2) (subst (λ (h : Option (List ℕ)). Stopped (view_of g.D.Disk.seen g.D.Disk.faults g.D.Disk.clock) start (plan_of c.args.self.now.world) p why.NoMemory h c.begin.new.world) held
    (stops_beginning _ start _ p c.args.place onward c.args.call c.args.self.now b c.begin.new.world (rw (sym own) at c.in_err-open_call.ensures.began start p.outcomes p.awaited (c.args.place + 1) b.asked b.call_is (asks_whole _ start (plan_of c.args.self.now.world) p c.args.place onward c.args.call c.args.self.now b) b.at)))

pub returns-in-Some-clause-began : goal.returns-in-Some-clause-began
returns-in-Some-clause-began g c start p onward b held =
    let nodes_inside : c.args.place < length c.args.self.now.sessions.nodes.items = rw c.requires.even.nodes c.requires.within in
    let calls_inside : c.args.place < length c.args.self.now.sessions.calls.items = rw c.requires.even.calls c.requires.within in
    let own = node_is p.sessions c.args.self.now.sessions.nodes.items c.args.place _ b.plain b.nodes b.here (slice_get_read _ _ _ _ refl nodes_inside c.index-node.ensures) in
    let so = rw (sym own) at (rw c.in-Some.is at c.in_ok-open_call.ensures.began start p.outcomes p.awaited (c.args.place + 1) b.asked b.call_is (asks_whole _ start (plan_of c.args.self.now.world) p c.args.place onward c.args.call c.args.self.now b) b.at) in
    begins _ start _ p c.args.place onward c.args.call c.args.self.now b c.in-Some.open_call _ _ held calls_inside so.0 so.1 so.2 so.3 refl refl refl refl

pub returns-in_err-fault-in-None-clause-began : goal.returns-in_err-fault-in-None-clause-began
returns-in_err-fault-in-None-clause-began g c start p onward b held =
    let e = err_from_is_err_and c.from_residual-in_err-fault-in-None.result c.from_residual-in_err-fault-in-None.ensures.1 in
    let inside : c.args.place < length c.args.self.now.sessions.nodes.items = rw c.requires.even.nodes c.requires.within in
    let own = node_is p.sessions c.args.self.now.sessions.nodes.items c.args.place _ b.plain b.nodes b.here (slice_get_read _ _ _ _ refl inside c.index-node.ensures) in
    let so = rw (sym own) at (rw c.in-None.is at c.in_ok-open_call.ensures.began start p.outcomes p.awaited (c.args.place + 1) b.asked b.call_is (asks_whole _ start (plan_of c.args.self.now.world) p c.args.place onward c.args.call c.args.self.now b) b.at) in
    let more = c.in_err-fault-in-None.ensures.faulted start (plan_of c.args.self.now.world) _ onward b.plain.node
    (falls _ start (plan_of c.args.self.now.world) p c.args.place onward c.args.call c.args.self.now b (record { world = c.begin.new.world; sessions = c.args.self.now.sessions }) so.0 so.1 so.2 refl) held in
    rw (e.1, e.2) (stopped_on _ start _ p _ _ _ _ (begun_work _ start _ p c.args.place onward c.args.call c.args.self.now b (Fell (c.args.place + 1) b.plain.node b.asked) (awaited_elsewhere b.plain.node p.awaited) (b.plain.node, inr refl) (at_own _ start (plan_of c.args.self.now.world) p c.args.place onward c.args.call c.args.self.now b)) more)

pub returns-in_ok-fault-in-None-clause-began : goal.returns-in_ok-fault-in-None-clause-began
returns-in_ok-fault-in-None-clause-began g c start p onward b held =
    let inside : c.args.place < length c.args.self.now.sessions.nodes.items = rw c.requires.even.nodes c.requires.within in
    let own = node_is p.sessions c.args.self.now.sessions.nodes.items c.args.place _ b.plain b.nodes b.here (slice_get_read _ _ _ _ refl inside c.index-node.ensures) in
    let so = rw (sym own) at (rw c.in-None.is at c.in_ok-open_call.ensures.began start p.outcomes p.awaited (c.args.place + 1) b.asked b.call_is (asks_whole _ start (plan_of c.args.self.now.world) p c.args.place onward c.args.call c.args.self.now b) b.at) in
    let more = c.in_ok-fault-in-None.ensures.faulted start (plan_of c.args.self.now.world) _ onward b.plain.node
    (falls _ start (plan_of c.args.self.now.world) p c.args.place onward c.args.call c.args.self.now b (record { world = c.begin.new.world; sessions = c.args.self.now.sessions }) so.0 so.1 so.2 refl) held in
    went_on _ start _ p _ _ _ _ (begun_work _ start _ p c.args.place onward c.args.call c.args.self.now b (Fell (c.args.place + 1) b.plain.node b.asked) (awaited_elsewhere b.plain.node p.awaited) (b.plain.node, inr refl) (at_own _ start (plan_of c.args.self.now.world) p c.args.place onward c.args.call c.args.self.now b)) more

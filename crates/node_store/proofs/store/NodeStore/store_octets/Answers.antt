use Rattle.std.proofs.Common.{◌≡◌, ◌∙◌, ℕ, List, ◌++◌, false, true, sym, ap, refl, arith, length}
use Rattle.std.proofs.lemmas.Result.{err_from_is_err_and}
use Rattle.mail_model.specs.Record.Record.{Octets}
use Rattle.message_store.specs.Places.{place_of}
use Rattle.disk_journal.specs.Journal.{end_of}
use Rattle.node_store.specs.Disks.{view_of}
use Rattle.node_store.specs.Wanted.{wants_octets}
use Rattle.node_store.proofs.Silent.{nothing_stopped}
use Rattle.node_store.proofs.Stored.{stored_grows, unwanted_done, stored_stopped, stored_lost, stored_done}
use Rattle.node_store.proofs.store.NodeStore.store_octets.Goals as goal

pub returns-in_err-wants-clause-wrote : goal.returns-in_err-wants-clause-wrote
returns-in_err-wants-clause-wrote g c =
    let p = err_from_is_err_and c.from_residual.result c.from_residual.ensures.1 in
    rw (p.1, p.2) (nothing_stopped (view_of g.D.Disk.seen g.D.Disk.faults g.D.Disk.clock) _ c.args.self.now c.args.disk.now (stored_grows c.args.id c.args.users.now c.args.octets.now), omega arith)

pub returns-then-not-branch-clause-wrote : goal.returns-then-not-branch-clause-wrote
returns-then-not-branch-clause-wrote g c =
    let without : wants_octets c.args.id c.args.users.now c.args.self.now.objects (place_of c.args.self.now.messages c.args.id) ≡ false = sym c.in_ok-wants.ensures ∙ c.if-not-branch.true in
    unwanted_done (view_of g.D.Disk.seen g.D.Disk.faults g.D.Disk.clock) c.args.id c.args.users.now c.args.octets.now c.args.self.now c.args.disk.now c.requires.sound without

pub returns-in_err-place-clause-wrote : goal.returns-in_err-place-clause-wrote
returns-in_err-place-clause-wrote g c =
    let p = err_from_is_err_and c.from_residual-in_err-place.result c.from_residual-in_err-place.ensures.1 in
    let wanted : wants_octets c.args.id c.args.users.now c.args.self.now.objects (place_of c.args.self.now.messages c.args.id) ≡ true = sym c.in_ok-wants.ensures ∙ c.if-not-branch.false in
    let w = c.in_err-place.ensures.written (Octets c.args.id c.args.octets.now) (ap (λ (h : List ℕ). h ++ c.args.octets.now) c.octets_head.ensures) in
    rw (p.1, p.2) (stored_stopped (view_of g.D.Disk.seen g.D.Disk.faults g.D.Disk.clock) c.args.id c.args.users.now c.args.octets.now c.args.self.now c.args.disk.now c.append_record.new.disk wanted w.0, w.1)

pub returns-in_err-found-clause-wrote : goal.returns-in_err-found-clause-wrote
returns-in_err-found-clause-wrote g c =
    let p = err_from_is_err_and c.from_residual-in_err-found.result c.from_residual-in_err-found.ensures.1 in
    let wanted : wants_octets c.args.id c.args.users.now c.args.self.now.objects (place_of c.args.self.now.messages c.args.id) ≡ true = sym c.in_ok-wants.ensures ∙ c.if-not-branch.false in
    let w = c.in_ok-place.ensures.written (Octets c.args.id c.args.octets.now) (ap (λ (h : List ℕ). h ++ c.args.octets.now) c.octets_head.ensures) in
    rw (p.1, p.2) (
      stored_lost (view_of g.D.Disk.seen g.D.Disk.faults g.D.Disk.clock) c.args.id c.args.users.now c.args.octets.now c.args.self.now c.args.disk.now c.append_record.new.disk
          (end_of c.append_record.new.journal) wanted w,
      omega (arith, w.quiet),
    )

pub returns-clause-wrote : goal.returns-clause-wrote
returns-clause-wrote g c =
    let wanted : wants_octets c.args.id c.args.users.now c.args.self.now.objects (place_of c.args.self.now.messages c.args.id) ≡ true = sym c.in_ok-wants.ensures ∙ c.if-not-branch.false in
    let w = c.in_ok-place.ensures.written (Octets c.args.id c.args.octets.now) (ap (λ (h : List ℕ). h ++ c.args.octets.now) c.octets_head.ensures) in
    let placed = c.in_ok-place.ensures.placed in
    stored_done (view_of g.D.Disk.seen g.D.Disk.faults g.D.Disk.clock) c.args.id c.args.users.now c.args.octets.now c.args.self.now c.args.disk.now _ c.append_record.new.disk c.in_ok-place.place
    c.requires.sound wanted c.is_id.ensures refl refl refl c.in_ok-found.ensures.noted placed.0 (omega (arith, placed.1, ap length c.octets_head.ensures)) w

use Rattle.std.proofs.Common.{◌≡◌, ◌≤◌, ◌∙◌, [], ◌++◌, length, true, None, Some, Err, refl, ap, subst, sym, arith, if◌then◌else◌}
use Rattle.std.proofs.lemmas.Result.{err_from_is_err_and}
use Rattle.node_store.specs.Disks.{view_of}
use Rattle.node_tickets.specs.Seen.{ask_seen}
use Rattle.cluster_world.specs.Asking.{AreForTicket, confirms}
use Rattle.cluster_world.specs.Books.{entries_seen}
use Rattle.cluster_world.specs.Lives.{of_node, all_falls_left}
use Rattle.cluster_world.proofs.Still.{some_same}
use Rattle.cluster_world.specs.Worlds.{state_with}
use Rattle.cluster_world.specs.Sure.{IsSurelyDone}
use Rattle.cluster_world.specs.declared.step.Step.TheVariants as step
use Rattle.cluster_world.specs.declared.fault.StepFault.TheVariants as fault
use Rattle.cluster_world.proofs.Same.{none_done}
use Rattle.cluster_world.proofs.Asked.{asked_did, asked_room, asked_ready, asked_settled, up_whole, if_there, same_book, done_in_world, entries_done, asked_some}
use Rattle.cluster_world.specs.Installs.{installs_in}
use Rattle.cluster_world.proofs.Installs.{adds_none, if_adds_none}
use Rattle.cluster_world.proofs.steps.ask.ask_for.Goals as goal
use Rattle.cluster_world.proofs.Given.{stood_at}
use Rattle.node_core.specs.Standing.{ticket_standing}
use Rattle.std.specs.Prelude.{is_some}

pub entries_at-requires : goal.entries_at-requires
entries_at-requires g c =
    record { up = up_whole g.D.Disk.seen c.args.ticket.now c.args.nodes.now c.requires.fit c.requires.ready c.at.result.now (ap (of_node c.args.nodes.now.lives.items) (sym c.node_of.ensures) ∙ c.at.ensures) }

pub returns-in_err-entries-clause-did : goal.returns-in_err-entries-clause-did
returns-in_err-entries-clause-did g c = λ flying seconds.
    let on = view_of g.D.Disk.seen g.D.Disk.faults g.D.Disk.clock in
    let s = state_with c.args.nodes.now flying seconds c.args.book.now in
    let p = err_from_is_err_and c.from_residual.result c.from_residual.ensures.1 in
    rw (p.1, p.2) (none_done on s (step.Ask c.args.ticket.now))

pub returns-in_err-make_room-clause-did : goal.returns-in_err-make_room-clause-did
returns-in_err-make_room-clause-did g c = λ flying seconds.
    let on = view_of g.D.Disk.seen g.D.Disk.faults g.D.Disk.clock in
    let s = state_with c.args.nodes.now flying seconds c.args.book.now in
    let p = err_from_is_err_and c.from_residual-in_err-make_room.result c.from_residual-in_err-make_room.ensures.1 in
    rw (p.1, p.2) (same_book on _ (step.Ask c.args.ticket.now) c.args.nodes.now c.args.nodes.now flying seconds c.args.book.now c.make_room.new.book c.make_room.ensures.entries (none_done on s (step.Ask c.args.ticket.now)))

pub ask-requires-clause-up : goal.ask-requires-clause-up
ask-requires-clause-up g c =
    let here : of_node c.args.nodes.now.lives.items c.args.ticket.now.node ≡ _ = ap (of_node c.args.nodes.now.lives.items) (sym c.node_of.ensures) ∙ c.at.ensures in
    if_there _ c.at.result.now here (up_whole g.D.Disk.seen c.args.ticket.now c.args.nodes.now c.requires.fit c.requires.ready c.at.result.now here)

pub returns-clause-did : goal.returns-clause-did
returns-clause-did g c = λ flying seconds.
    let ch = c.ask.ensures in
    let up : c.at.result.now ≡ _ = some_same c.at.result.now ch.life (sym c.at.ensures ∙ ap (of_node c.args.nodes.now.lives.items) c.node_of.ensures ∙ ch.was) ∙ ch.does.0.was in
    asked_did (view_of g.D.Disk.seen g.D.Disk.faults g.D.Disk.clock) c.args.ticket.now c.ask.result c.args.nodes.now c.ask.new.self c.requires.fit c.requires.ready ch
    flying seconds c.args.book.now c.enter.new.book c.in-Some.ask c.in-Some.is c.in_ok-entries.entries.items
    (subst (λ l. AreForTicket c.args.ticket.now l c.in_ok-entries.entries.items) up c.in_ok-entries.ensures.fit)
    (c.enter.ensures.entries ∙ ap (λ b. b ++ (if confirms (ask_seen c.in-Some.ask) then c.in_ok-entries.entries.items else [])) c.make_room.ensures.entries)

pub returns-clause-ready : goal.returns-clause-ready
returns-clause-ready g c =
    asked_ready (view_of g.D.Disk.seen g.D.Disk.faults g.D.Disk.clock) c.args.ticket.now c.ask.result c.args.nodes.now c.ask.new.self c.requires.fit c.requires.ready c.ask.ensures

pub returns-clause-settled : goal.returns-clause-settled
returns-clause-settled g c = λ flying seconds.
    asked_settled (view_of g.D.Disk.seen g.D.Disk.faults g.D.Disk.clock) c.args.ticket.now c.ask.result c.args.nodes.now c.ask.new.self c.requires.fit c.requires.ready c.ask.ensures
    flying seconds c.args.book.now c.enter.new.book g.D.Disk.settled

pub returns-clause-room : goal.returns-clause-room
returns-clause-room g c =
    let lives = c.in_ok-entries.entries in
    asked_room (view_of g.D.Disk.seen g.D.Disk.faults g.D.Disk.clock) c.args.ticket.now c.ask.result c.args.nodes.now c.ask.new.self c.requires.fit c.requires.ready c.ask.ensures
    c.args.book.now c.enter.new.book (omega (arith, c.in_ok-make_room.ensures.spare (all_falls_left c.args.nodes.now.lives.items) c.most_falls.ensures.most c.requires.room, c.enter.ensures.spare, c.len.ensures, lives.ok.0))

pub returns-in_err-entries-clause-sure : goal.returns-in_err-entries-clause-sure
returns-in_err-entries-clause-sure g c = λ flying seconds.
    let here : of_node c.args.nodes.now.lives.items c.args.ticket.now.node ≡ _ = ap (of_node c.args.nodes.now.lives.items) (sym c.node_of.ensures) ∙ c.at.ensures in
    let sure : IsSurelyDone (state_with c.args.nodes.now flying seconds c.args.book.now) (step.Ask c.args.ticket.now) (Err (fault.NoMemory None)) =
    (refl, done_in_world g.D.Disk.seen c.args.ticket.now c.args.nodes.now flying seconds c.args.book.now c.requires.ready c.at.result.now here c.in_err-entries.ensures.done) in
    let p = err_from_is_err_and c.from_residual.result c.from_residual.ensures.1 in
    rw (p.1, p.2) sure

pub returns-in_err-make_room-clause-sure : goal.returns-in_err-make_room-clause-sure
returns-in_err-make_room-clause-sure g c = λ flying seconds.
    let here : of_node c.args.nodes.now.lives.items c.args.ticket.now.node ≡ _ = ap (of_node c.args.nodes.now.lives.items) (sym c.node_of.ensures) ∙ c.at.ensures in
    let some : 1 ≤ length c.in_ok-entries.entries.items = omega (arith, c.in_err-make_room.ensures.some, c.len.ensures) in
    let sure : IsSurelyDone (state_with c.args.nodes.now flying seconds c.args.book.now) (step.Ask c.args.ticket.now) (Err (fault.NoMemory None)) = (
      refl,
      done_in_world g.D.Disk.seen c.args.ticket.now c.args.nodes.now flying seconds c.args.book.now c.requires.ready c.at.result.now here
          (entries_done c.args.ticket.now c.at.result.now c.in_ok-entries.entries.items c.in_ok-entries.ensures.fit some),
    ) in
    let p = err_from_is_err_and c.from_residual-in_err-make_room.result c.from_residual-in_err-make_room.ensures.1 in
    rw (p.1, p.2) sure

pub returns-in_err-make_room-clause-room : goal.returns-in_err-make_room-clause-room
returns-in_err-make_room-clause-room g c = omega (arith, c.requires.room, c.in_err-make_room.ensures.same)

pub returns-clause-installs : goal.returns-clause-installs
returns-clause-installs g c =
    let items = c.in_ok-entries.entries.items in
    adds_none c.make_room.new.book c.enter.new.book (if confirms (ask_seen c.in-Some.ask) then items else []) c.enter.ensures.entries (if_adds_none (confirms (ask_seen c.in-Some.ask)) items c.in_ok-entries.ensures.installs)
    ∙ ap installs_in c.make_room.ensures.entries

pub unreachable-requires : goal.unreachable-requires
unreachable-requires g c =
    let ch = c.ask.ensures in
    let node = ch.does.0.old in
    let stands : is_some (ticket_standing node.mail c.args.ticket.now) ≡ true =
    stood_at c.args.ticket.now (of_node c.args.nodes.now.lives.items c.args.ticket.now.node) node c.requires.mail (ch.was ∙ ap Some ch.does.0.was) in
    asked_some node.mail.shape.confirm (ticket_standing node.mail c.args.ticket.now) c.ask.result stands ch.does.0.answer c.in_default.is

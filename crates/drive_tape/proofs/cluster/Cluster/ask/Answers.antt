use Rattle.std.proofs.Common.{◌+◌, ℕ, refl, sym}
use Rattle.std.proofs.lemmas.Result.{err_from_is_err_and}
use Rattle.drive_tape.proofs.Asking.{waiter, stands, kind, waits_on, told, stops_for, answer_plan, answered_less}
use Rattle.drive_tape.proofs.Clusters.{stopped_plan, went_plan}
use Rattle.drive_tape.proofs.cluster.Cluster.ask.Goals as goal

pub returns-in_err-answer-clause-asked : goal.returns-in_err-answer-clause-asked
returns-in_err-answer-clause-asked g c start p shows held asks =
    let e = err_from_is_err_and c.from_residual.result c.from_residual.ensures.1 in
    let w = waiter _ start _ p c.args.place c.args.self.now c.args.open_call.now shows c.requires.within c.requires.waits in
    rw (e.1, e.2) (stops_for _ start _ p c.args.place c.args.self.now c.args.open_call.now _ shows asks w held c.ask.new.world
    (c.in_err-answer.ensures.asked start p.outcomes p.awaited (c.args.place + 1) w.call (stands _ start _ p c.args.place c.args.self.now c.args.open_call.now _ shows asks w held)
    (kind _ start _ p c.args.place c.args.self.now c.args.open_call.now _ shows asks w held) shows.at))

pub returns-in_default-clause-asked : goal.returns-in_default-clause-asked
returns-in_default-clause-asked g c start p shows held asks =
    let w = waiter _ start _ p c.args.place c.args.self.now c.args.open_call.now shows c.requires.within c.requires.waits in
    waits_on _ start _ p c.args.place c.args.self.now c.args.open_call.now _ shows asks w held ℕ (record { world = c.ask.new.world; sessions = c.args.self.now.sessions }) refl
    (rw c.in_default.is at c.in_ok-answer.ensures.asked start p.outcomes p.awaited (c.args.place + 1) w.call (stands _ start _ p c.args.place c.args.self.now c.args.open_call.now _ shows asks w held)
    (kind _ start _ p c.args.place c.args.self.now c.args.open_call.now _ shows asks w held) shows.at)

pub returns-in_err-answered-clause-asked : goal.returns-in_err-answered-clause-asked
returns-in_err-answered-clause-asked g c start p shows held asks =
    let e = err_from_is_err_and c.from_residual-in_err-answered.result c.from_residual-in_err-answered.ensures.1 in
    let w = waiter _ start _ p c.args.place c.args.self.now c.args.open_call.now shows c.requires.within c.requires.waits in
    let so = rw c.in-Some.is at c.in_ok-answer.ensures.asked start p.outcomes p.awaited (c.args.place + 1) w.call (stands _ start _ p c.args.place c.args.self.now c.args.open_call.now _ shows asks w held)
    (kind _ start _ p c.args.place c.args.self.now c.args.open_call.now _ shows asks w held) shows.at in
    let a = told _ start _ p c.args.place c.args.self.now c.args.open_call.now _ shows asks w held ℕ c.in-Some.answer (record { world = c.ask.new.world; sessions = c.args.self.now.sessions }) refl so in
    rw (e.1, e.2) (stopped_plan _ start _ _ _ _ _ _ c.in_ok-answer.ensures.plan (c.in_err-answered.ensures.answered start p (answer_plan _ start _ _ p c.args.place _ _ (sym c.in_ok-answer.ensures.plan) a) held))

pub returns-then-branch-clause-asked : goal.returns-then-branch-clause-asked
returns-then-branch-clause-asked g c start p shows held asks =
    let w = waiter _ start _ p c.args.place c.args.self.now c.args.open_call.now shows c.requires.within c.requires.waits in
    let so = rw c.in-Some.is at c.in_ok-answer.ensures.asked start p.outcomes p.awaited (c.args.place + 1) w.call (stands _ start _ p c.args.place c.args.self.now c.args.open_call.now _ shows asks w held)
    (kind _ start _ p c.args.place c.args.self.now c.args.open_call.now _ shows asks w held) shows.at in
    let a = told _ start _ p c.args.place c.args.self.now c.args.open_call.now _ shows asks w held ℕ c.in-Some.answer (record { world = c.ask.new.world; sessions = c.args.self.now.sessions }) refl so in
    went_plan _ start _ _ _ _ _ _ c.in_ok-answer.ensures.plan (rw c.if-branch.true at c.in_ok-answered.ensures.answered start p (answer_plan _ start _ _ p c.args.place _ _ (sym c.in_ok-answer.ensures.plan) a) held)

pub returns-then-branch-clause-less : goal.returns-then-branch-clause-less
returns-then-branch-clause-less g c =
    answered_less c.args.self.now.sessions c.answered.new.self.sessions c.args.place c.args.open_call.now c.requires.waits c.in_ok-answered.ensures.calls c.in_ok-answered.ensures.left

pub returns-else-branch-clause-asked : goal.returns-else-branch-clause-asked
returns-else-branch-clause-asked g c start p shows held asks =
    let w = waiter _ start _ p c.args.place c.args.self.now c.args.open_call.now shows c.requires.within c.requires.waits in
    let so = rw c.in-Some.is at c.in_ok-answer.ensures.asked start p.outcomes p.awaited (c.args.place + 1) w.call (stands _ start _ p c.args.place c.args.self.now c.args.open_call.now _ shows asks w held)
    (kind _ start _ p c.args.place c.args.self.now c.args.open_call.now _ shows asks w held) shows.at in
    let a = told _ start _ p c.args.place c.args.self.now c.args.open_call.now _ shows asks w held ℕ c.in-Some.answer (record { world = c.ask.new.world; sessions = c.args.self.now.sessions }) refl so in
    went_plan _ start _ _ _ _ _ _ c.in_ok-answer.ensures.plan (rw c.if-branch.false at c.in_ok-answered.ensures.answered start p (answer_plan _ start _ _ p c.args.place _ _ (sym c.in_ok-answer.ensures.plan) a) held)

pub returns-else-branch-clause-less : goal.returns-else-branch-clause-less
returns-else-branch-clause-less g c =
    answered_less c.args.self.now.sessions c.answered.new.self.sessions c.args.place c.args.open_call.now c.requires.waits c.in_ok-answered.ensures.calls c.in_ok-answered.ensures.left

-- The Leave of a session that was let in.
use Rattle.std.proofs.Common.{inl, inr, ◌≡◌, ◌≢◌, List, Option, Some, None, refl, sym, ◌∙◌}
use Rattle.std.specs.Prelude.{◌⊎◌}
use Rattle.io_edge.specs.Causes.{Rose}
use Rattle.session_model.specs.Talk.{Exchange, Standing, entered_as}
use Rattle.session_model.specs.Talk.Standing.{EndedDown}
use Rattle.session_model.specs.Sessions.{Session, exchanges_of}
use Rattle.call_tickets.specs.Moves.{Due}
use Rattle.call_tickets.specs.declared.call.Call.{Call}
use Rattle.call_tickets.specs.Passes.{PassKnows, IsQuiet}
use Rattle.call_tickets.specs.Begins.{HasLeft, RefusalCounted}
use Rattle.call_tickets.specs.declared.desk.DeskFault.{DeskFault}
use Rattle.call_tickets.specs.declared.desk.DeskFault.TheVariants as faults
use Rattle.pop_session.specs.declared.stage.Login.{Login}
use Rattle.pop_session.specs.Follows.{leave_of_login, user_of_login}
use Rattle.session_gate.specs.Connections.{LeavesOnce, LeavesOrSays, HasFallen}
use Rattle.session_gate.specs.declared.stop.Served.{Served}
use Rattle.session_gate.specs.declared.stop.Served.TheVariants as served
use Rattle.session_gate.proofs.Knows.{quiet_none}

some_none : {X : Type 0} (x : X) → None ≡ Some x → ⊥
some_none x is = cc

-- no Leave was begun, and none was to be
pub quiet_leaves : (exchanges : List Exchange) (standing : Standing) (result : Served) (now : PassKnows) → (standing ≡ EndedDown) ⊎ (result ≡ served.NoMemory) → LeavesOnce exchanges standing result now now
quiet_leaves exchanges standing result now why = record {
  once = inr (quiet_none now);
  nobody = λ _. quiet_none now;
  fallen = λ _. quiet_none now;
  leaves = λ user is up memory. absurd (by_why why up memory);
}
  where
    by_why : (standing ≡ EndedDown) ⊎ (result ≡ served.NoMemory) → standing ≢ EndedDown → result ≢ served.NoMemory → ⊥
    by_why (inl down) up memory = up down
    by_why (inr none) up memory = memory none

-- nobody was let in
pub nobody_leaves : (login : Option Login) (exchanges : List Exchange) (standing : Standing) (result : Served) (now : PassKnows) → None ≡ leave_of_login login → user_of_login login ≡ entered_as exchanges
    → LeavesOnce exchanges standing result now now
nobody_leaves None exchanges standing result now none is = record {
  once = inr (quiet_none now);
  nobody = λ _. quiet_none now;
  fallen = λ _. quiet_none now;
  leaves = λ user entered up memory. absurd (some_none user (is ∙ entered));
}
nobody_leaves (Some login) exchanges standing result now none is = absurd (some_none _ none)

-- somebody was, and a Leave was begun or refused
pub lets_leave : (login : Option Login) (call : Call) (exchanges : List Exchange) (standing : Standing) (result : Served) (before now : PassKnows) → Some call ≡ leave_of_login login
    → user_of_login login ≡ entered_as exchanges → standing ≢ EndedDown → LeavesOrSays result before now → LeavesOnce exchanges standing result before now
lets_leave None call exchanges standing result before now some is up left = absurd (some_none call (sym some))
lets_leave (Some login) call exchanges standing result before now some is up (inl left) = record {
  once = inl left;
  nobody = λ none. absurd (some_none _ (sym (is ∙ none)));
  fallen = λ down. absurd (up down);
  leaves = λ user entered _ memory. inl left;
}
lets_leave (Some login) call exchanges standing result before now some is up (inr (quiet, why)) = record {
  once = inr quiet;
  nobody = λ _. quiet;
  fallen = λ _. quiet;
  leaves = λ user entered _ memory. by_why why memory;
}
  where
    by_why : Rose before.counts.down now.counts.down ⊎ Rose before.counts.worn now.counts.worn ⊎ (result ≡ served.NoMemory) → result ≢ served.NoMemory
        → HasLeft before now ⊎ Rose before.counts.down now.counts.down ⊎ Rose before.counts.worn now.counts.worn
    by_why (inl down) memory = inr (inl down)
    by_why (inr (inl worn)) memory = inr (inr worn)
    by_why (inr (inr none)) memory = absurd (memory none)

-- no Leave was begun, for this reason
pub refused_leave : (why : DeskFault) (result : Served) (before now : PassKnows) → IsQuiet before now → RefusalCounted why before now → (why ≡ faults.NoMemory → result ≡ served.NoMemory) → LeavesOrSays result before now
refused_leave faults.Down result before now quiet counted memory = inr (quiet, inl counted)
refused_leave faults.Worn result before now quiet counted memory = inr (quiet, inr (inl counted))
refused_leave faults.NoMemory result before now quiet counted memory = inr (quiet, inr (inr (memory refl)))

-- the node went down
pub fallen_leaves : (follows : Session → Due → Type 0) (plain : Session) (result : Served) (now : PassKnows) → HasFallen follows plain → LeavesOnce (exchanges_of plain) plain.standing result now now
fallen_leaves follows plain result now fell = quiet_leaves (exchanges_of plain) plain.standing result now (inl fell.1)

-- memory ran out
pub spent_leaves : (plain : Session) (now : PassKnows) → LeavesOnce (exchanges_of plain) plain.standing served.NoMemory now now
spent_leaves plain now = quiet_leaves (exchanges_of plain) plain.standing served.NoMemory now (inr refl)

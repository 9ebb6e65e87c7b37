-- How a POP3 connection is over, with the Leave of its session.
use Rattle.std.proofs.Common.{inl, inr, ◌≡◌, ◌++◌, ℕ, List, Option, sym, ap, ◌∙◌, subst}
use Rattle.std.specs.Prelude.{◌⊎◌}
use Rattle.std.proofs.lemmas.List.{append-nil}
use Rattle.mail_model.specs.Plan.{Plan}
use Rattle.session_model.specs.Talk.{Exchange}
use Rattle.session_model.specs.Sessions.{Session, exchanges_of}
use Rattle.call_tickets.specs.Moves.{Due}
use Rattle.call_tickets.specs.Passes.{PassKnows}
use Rattle.session_gate.specs.Connections.{Connection, IsServed, IsServedPop, ClosesSo, ClosedWith, ServedAs, EndsAs, LeavesOnce, pop_connection}
use Rattle.session_gate.specs.declared.stop.Close.{Close}
use Rattle.session_gate.specs.declared.stop.Served.{Served}
use Rattle.session_gate.specs.declared.stop.Served.TheVariants as served
use Rattle.session_gate.proofs.Opening.{any_served, served_same}

module _ (plan : Plan) (node boot number seconds : ℕ) (start : PassKnows) (left0 left1 held0 held1 : Option (List ℕ)) (last : PassKnows) where
  abbrev line : Connection
  line = pop_connection plan node boot number seconds start

  -- it was closed so, and a Leave was begun if one was to be
  pub ends_pop : (close : Close) (follows : Session → Due → Type 0) (result : Served) (now : PassKnows) → ClosesSo close line follows left0 left1 held0 held1 last
      → ((plain : Session) → ClosedWith close follows plain → LeavesOnce (exchanges_of plain) plain.standing result last now) → ServedAs close result ⊎ (result ≡ served.NoMemory)
      → IsServedPop plan node number result left0 left1 held0 held1 start now
  ends_pop close follows result now so left which = let s = so.2 in record {
    boot = boot;
    seconds = seconds;
    last = last;
    serves = any_served line (ClosedWith close follows) left0 left1 held0 held1 last so.0 result s (by_which s which);
    leaves = subst (λ (l : List Exchange). LeavesOnce l s.come.at.plain.standing result last now)
        (ap (λ (l : List Exchange). s.come.at.plain.whole ++ l) s.come.at.others ∙ append-nil s.come.at.plain.whole) (left s.come.at.plain s.come.at.follows);
  }
    where
      by_which : (s : IsServed line (ClosedWith close follows) so.0 left0 left1 held0 held1 last) → ServedAs close result ⊎ (result ≡ served.NoMemory)
          → EndsAs result s.come.at.plain s.fed s.unfed s.missing left1
      by_which s (inl e) = subst (λ (r : Served). EndsAs r s.come.at.plain s.fed s.unfed s.missing left1) (served_same close so.0 result so.1 e) s.ends
      by_which s (inr e) = subst (λ (r : Served). EndsAs r s.come.at.plain s.fed s.unfed s.missing left1) (sym e) tt

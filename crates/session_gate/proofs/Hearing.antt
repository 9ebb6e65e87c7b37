-- How a session is left off as it is heard.
use Rattle.std.proofs.Common.{ℕ, List, [], Option, refl, subst}
use Rattle.session_model.specs.Sessions.{Session}
use Rattle.call_tickets.specs.Moves.{Due}
use Rattle.call_tickets.specs.Passes.{PassKnows}
use Rattle.session_gate.specs.Connections.{Connection, BreaksOff, GoesOn, LeftWith, LeftOffAs, HeardTo, HasFallen}
use Rattle.session_gate.specs.Closes.{IsSourceFault}
use Rattle.session_gate.specs.declared.stop.Stop.{Stop}
use Rattle.session_gate.specs.declared.stop.Stop.TheVariants as stops
use Rattle.session_gate.specs.declared.stop.Close.{Close}
use Rattle.session_gate.specs.declared.stop.Close.TheVariants as closes

-- no source fails in a move
pub left_unread : (stop : Stop) (close : Close) → LeftOffAs stop close → IsSourceFault close → ⊥
left_unread stops.WriteFault close is fault = subst IsSourceFault is fault
left_unread stops.NoMemory close is fault = subst IsSourceFault is fault

module _ (line : Connection) (follows : Session → Due → Type 0) (fed wrote : List ℕ) (held0 held1 : Option (List ℕ)) (now : PassKnows) where
  -- a move failed
  pub left_heard : (stop : Stop) (close : Close) → LeftOffAs stop close → BreaksOff line (LeftWith stop follows) fed wrote held0 held1 now → HeardTo close line follows fed wrote held0 held1 now
  left_heard stops.WriteFault close is cut = rw is (record { off = cut; ends = tt })
  left_heard stops.NoMemory close is cut = rw is (record { off = cut; ends = tt })

  -- its last line was written
  pub fallen_heard : GoesOn line (HasFallen follows) fed wrote held0 held1 [] now → HeardTo closes.Fell line follows fed wrote held0 held1 now
  fallen_heard so = record { off = record { more = so.more; missing = []; appends = so.appends; come = so.come }; ends = refl }

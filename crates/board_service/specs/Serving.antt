-- What serving a connection over a board comes to.
use Rattle.std.specs.Prelude.{ℕ, List, Option}
use Rattle.mail_model.specs.Plan.{Plan}
use Rattle.session_gate.specs.declared.stop.Served.{Served}
use Rattle.mail_service.specs.declared.backend.Line.{Line}
use Rattle.shard_board.specs.declared.board.BoardPass.{BoardPass}
use Rattle.board_desk.specs.Desks.{told_entries}
use Rattle.board_service.specs.Visits.{Visit, WasServed}

-- the connection in the name of the pass
abbrev pub visit_of : {D F C : Type 0} → (D → Option (List ℕ)) → BoardPass D F C → Line → Served → (left0 left1 held0 held1 : Option (List ℕ)) → BoardPass D F C → Visit
visit_of seen old line ended left0 left1 held0 held1 new = record {
  line = line;
  ended = ended;
  left0 = left0;
  left1 = left1;
  held0 = held0;
  held1 = held1;
  told0 = told_entries seen old;
  told1 = told_entries seen new;
  counts0 = old.tally;
  counts1 = new.tally;
}

-- the connection was served, or it is at no node
abbrev pub Serves : {D F C : Type 0} → (D → Option (List ℕ)) → Plan → BoardPass D F C → Line → (left0 left1 held0 held1 : Option (List ℕ)) → BoardPass D F C → Type 0
Serves seen plan old line left0 left1 held0 held1 new = (ended : Served) × WasServed plan (visit_of seen old line ended left0 left1 held0 held1 new)

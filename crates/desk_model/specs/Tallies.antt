-- What a pass counts.
use Rattle.std.specs.Prelude.{⊤, Result, Ok, Err}
use Rattle.io_edge.specs.Causes.{Rose}
use Rattle.call_tickets.specs.Seen.{answer_seen}
use Rattle.call_tickets.specs.Passes.{NoneFell, with_leave, AnswerCounted}
use Rattle.call_tickets.specs.declared.answer.Ask.{Ask}
use Rattle.call_tickets.specs.declared.answer.Ask.TheVariants.{Pending, Done}
use Rattle.call_tickets.specs.declared.desk.DeskFault.{DeskFault}
use Rattle.call_tickets.specs.declared.desk.DeskFault.TheVariants.{Down, Worn, NoMemory}
use Rattle.call_tickets.specs.declared.tally.Tally.{Tally}

-- the count of a refusal rose; want of memory has none
abbrev pub RefusalRose : DeskFault → Tally → Tally → Type 0
RefusalRose Down old new = Rose old.down new.down
RefusalRose Worn old new = Rose old.worn new.worn
RefusalRose NoMemory old new = ⊤

abbrev pub RefusalCounts : {T : Type 0} → Result T DeskFault → Tally → Tally → Type 0
RefusalCounts (Ok done) old new = ⊤
RefusalCounts (Err why) old new = RefusalRose why old new

-- the count of an answer rose, or that of a refusal
abbrev pub AskCounts : Result Ask DeskFault → Tally → Tally → Type 0
AskCounts (Ok (Pending got wanted)) old new = ⊤
AskCounts (Ok (Done answer)) old new = AnswerCounted (answer_seen answer) old new
AskCounts (Err why) old new = RefusalRose why old new

-- no refusal is for a node that is down
abbrev pub IsNeverDown : {A : Type 0} → Result A DeskFault → Type 0
IsNeverDown (Ok done) = ⊤
IsNeverDown (Err Down) = ⊥
IsNeverDown (Err Worn) = ⊤
IsNeverDown (Err NoMemory) = ⊤

-- a Leave was counted, once, or its refusal
abbrev pub LeaveCounts : Result (Unit {0}) DeskFault → Tally → Tally → Type 0
LeaveCounts (Ok done) old new = NoneFell (with_leave old) new
LeaveCounts (Err why) old new = NoneFell old new × RefusalRose why old new

-- nothing was counted yet
abbrev pub no_counts : Tally
no_counts = record { stored = 0; listed = 0; wrong = 0; in_use = 0; no_profile = 0; part = 0; gone = 0; dropped = 0; failed = 0; down = 0; worn = 0; leaves = 0 }

-- What a reader of replies has heard, and what its calls lead to.
use Rattle.std.specs.Prelude.{◌≡◌, ◌<◌, ⊤, true, false, ℕ, List, [], ◌∷◌, ◌++◌, length, Result, Ok, Err, Option, Some, None}
use Rattle.dot_text.specs.Shown.{Shown, Pending, behind_line}
use Rattle.dot_text.specs.declared.cutter.Line.{Line}
use Rattle.smtp_wire.specs.Replies.{ReplyPart, BeginReply, BeginsWithReply, HasNoReply, BreaksReply}
use Rattle.smtp_wire.specs.declared.reply.Reply.{Reply}
use Rattle.smtp_wire.specs.declared.reply_state.ReplyReader.{ReplyReader}
use Rattle.smtp_wire.specs.declared.reply_reader.ReplyFault.{ReplyFault}
use Rattle.smtp_wire.specs.declared.reply_reader.ReplyFault.TheVariants.{BadReply, NoMemory}
use Rattle.smtp_wire.specs.declared.reply_state.Part.{Part}
use Rattle.smtp_wire.specs.declared.reply_reader.Step.{Step}
use Rattle.smtp_wire.specs.declared.reply_reader.Step.TheVariants.{More, Waits, Given}

-- These octets were fed, and no reply has taken them yet: first the lines of a reply that is under way, and behind them what the cutter has.
pub record Hears (cutter : Shown) (code : ℕ) (texts : List (List ℕ)) (octets : List ℕ) : Type 0 where
  pub behind : List ℕ
  pub begins : BeginReply octets code texts behind
  pub pends : Pending cutter behind
  pub limit : cutter.limit ≡ 1024

abbrev pub HasHeard : ReplyReader → List ℕ → Type 0
HasHeard reader octets = Hears reader.cutter reader.code reader.lines.items octets

-- what a part says
abbrev pub part_seen : Part → ReplyPart
part_seen part = record { code = part.code; ends = part.ends; text = part.text }

-- the octets begin with the reply, and the reader has heard what is behind it
abbrev pub Gives : List ℕ → Reply → ReplyReader → Type 0
Gives octets reply new = (behind : List ℕ) × BeginsWithReply octets reply.code reply.lines.items behind × HasHeard new behind

-- what `next` answers, where the octets that were fed are these
abbrev pub IsNext : List ℕ → Result (Option Reply) ReplyFault → ReplyReader → Type 0
IsNext octets (Ok None) new = HasNoReply octets × HasHeard new octets
IsNext octets (Ok (Some reply)) new = Gives octets reply new
IsNext octets (Err BadReply) new = BreaksReply octets × HasHeard new octets
IsNext octets (Err NoMemory) new = HasHeard new octets

-- what one line leads to
abbrev pub IsStep : List ℕ → Result Step ReplyFault → ReplyReader → Type 0
IsStep octets (Ok More) new = HasHeard new octets
IsStep octets (Ok Waits) new = HasNoReply octets × HasHeard new octets
IsStep octets (Ok (Given reply)) new = Gives octets reply new
IsStep octets (Err BadReply) new = BreaksReply octets × HasHeard new octets
IsStep octets (Err NoMemory) new = HasHeard new octets

-- the line was taken, and its part is the last of the reply; or nothing was changed
abbrev pub IsTaken : ReplyReader → Line → Part → Result Step ReplyFault → ReplyReader → Type 0
IsTaken old found part (Ok More) new =
    (part.ends ≡ false) × (new.cutter ≡ behind_line old.cutter found) × (new.code ≡ part.code) × (new.lines.items ≡ old.lines.items ++ part.text ∷ [])
IsTaken old found part (Ok Waits) new = ⊥
IsTaken old found part (Ok (Given reply)) new =
    (part.ends ≡ true) × (new.cutter ≡ behind_line old.cutter found) × (new.lines.items ≡ []) × (reply.code ≡ part.code) × (reply.lines.items ≡ old.lines.items ++ part.text ∷ [])
IsTaken old found part (Err BadReply) new = ⊥
IsTaken old found part (Err NoMemory) new = (new.cutter ≡ old.cutter) × (new.code ≡ old.code) × (new.lines.items ≡ old.lines.items)

-- where it goes on, less is left to be heard
abbrev pub Falls : Result Step ReplyFault → ℕ → ℕ → Type 0
Falls (Ok More) new old = new < old
Falls (Ok Waits) new old = ⊤
Falls (Ok (Given reply)) new old = ⊤
Falls (Err fault) new old = ⊤

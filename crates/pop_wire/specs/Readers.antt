-- What a reader of replies has heard, and what its calls lead to.
use Rattle.std.specs.Prelude.{◌≡◌, ◌<◌, ⊤, ◌&&◌, ◌||◌, true, false, ℕ, Bool, List, [], ◌∷◌, ◌++◌, Result, Ok, Err, Option, Some, None}
use Rattle.dot_text.specs.Shown.{Shown, Pending, behind_line}
use Rattle.dot_text.specs.declared.cutter.Line.{Line}
use Rattle.pop_wire.specs.Replies.{FirstPart, Further, Ends, Says, BeginsSeveral, BeginsWithReply, HasNoReply, BreaksReply, texts_of}
use Rattle.pop_wire.specs.declared.reply.PopReply.{PopReply}
use Rattle.pop_wire.specs.declared.reply_state.ReplyReader.{ReplyReader}
use Rattle.pop_wire.specs.declared.reply_state.First.{First}
use Rattle.pop_wire.specs.declared.reply_state.Heard.{Heard}
use Rattle.pop_wire.specs.declared.reply_state.Heard.TheVariants as heard
use Rattle.pop_wire.specs.declared.reply_reader.ReplyFault.{ReplyFault}
use Rattle.pop_wire.specs.declared.reply_reader.ReplyFault.TheVariants.{BadReply, NoMemory}
use Rattle.pop_wire.specs.declared.reply_reader.Step.{Step}
use Rattle.pop_wire.specs.declared.reply_reader.Step.TheVariants.{More, Waits, Given}

-- the lines of a reply of several that is under way, or none
abbrev pub BeginsUnderWay : Bool → List ℕ → List ℕ → List (List ℕ) → List ℕ → Type 0
BeginsUnderWay true octets text texts behind = BeginsSeveral octets text texts behind
BeginsUnderWay false octets text texts behind = (octets ≡ behind) × (texts ≡ [])

-- These octets were fed, and no reply has taken them yet: first the lines of a reply that is under way, and behind them what the cutter has.
pub record Hears (cutter : Shown) (begun : Bool) (text : List ℕ) (texts : List (List ℕ)) (octets : List ℕ) : Type 0 where
  pub behind : List ℕ
  pub begins : BeginsUnderWay begun octets text texts behind
  pub pends : Pending cutter behind
  pub limit : cutter.limit ≡ 1024

abbrev pub HasHeard : ReplyReader → List ℕ → Type 0
HasHeard reader octets = Hears reader.cutter reader.begun reader.text reader.lines.items octets

-- whether the next reply has several lines, where it is good: one that is under way has
abbrev pub awaits_several : ReplyReader → Bool
awaits_several reader = reader.begun || reader.several

-- what the first line says
abbrev pub first_seen : First → FirstPart
first_seen first = record { good = first.good; text = first.text }

-- what a further line says
abbrev pub heard_seen : Heard → Further
heard_seen heard.Ends = Ends
heard_seen (heard.Says text) = Says text

-- the octets begin with the reply, and the reader has heard what is behind it and awaits another
abbrev pub Gives : Bool → List ℕ → PopReply → ReplyReader → Type 0
Gives several octets reply new =
    (new.begun ≡ false) × (behind : List ℕ) × BeginsWithReply several octets reply.good reply.text (texts_of reply.lines) behind × HasHeard new behind

-- the reader has heard these octets, and to it the next reply has several lines, where it is good, or has not
abbrev pub Awaits : Bool → List ℕ → ReplyReader → Type 0
Awaits several octets reader = (awaits_several reader ≡ several) × HasHeard reader octets

-- what `next` answers, where the octets that were fed are these, and a good reply is to have several lines or is not
abbrev pub IsNext : Bool → List ℕ → Result (Option PopReply) ReplyFault → ReplyReader → Type 0
IsNext several octets (Ok None) new = HasNoReply several octets × Awaits several octets new
IsNext several octets (Ok (Some reply)) new = Gives several octets reply new
IsNext several octets (Err BadReply) new = BreaksReply several octets × Awaits several octets new
IsNext several octets (Err NoMemory) new = Awaits several octets new

-- what one line leads to
abbrev pub IsStep : Bool → List ℕ → Result Step ReplyFault → ReplyReader → Type 0
IsStep several octets (Ok More) new = Awaits several octets new
IsStep several octets (Ok Waits) new = HasNoReply several octets × Awaits several octets new
IsStep several octets (Ok (Given reply)) new = Gives several octets reply new
IsStep several octets (Err BadReply) new = BreaksReply several octets × Awaits several octets new
IsStep several octets (Err NoMemory) new = Awaits several octets new

-- the first line was taken: the reply is whole, or goes on
abbrev pub IsFirstTaken : ReplyReader → Line → First → Step → ReplyReader → Type 0
IsFirstTaken old found first More new =
    ((first.good && old.several) ≡ true) × (new.begun ≡ true) × (new.text ≡ first.text) × (new.lines.items ≡ old.lines.items) × (new.cutter ≡ behind_line old.cutter found)
IsFirstTaken old found first Waits new = ⊥
IsFirstTaken old found first (Given reply) new =
    ((first.good && old.several) ≡ false) × (new.begun ≡ false) × (new.lines.items ≡ old.lines.items) × (new.cutter ≡ behind_line old.cutter found)
    × (reply.good ≡ first.good) × (reply.text ≡ first.text) × (texts_of reply.lines ≡ None)

-- a further line was taken; or nothing was changed
abbrev pub IsFurtherTaken : ReplyReader → Line → Heard → Result Step ReplyFault → ReplyReader → Type 0
IsFurtherTaken old found (heard.Says text) (Ok More) new =
    (new.begun ≡ true) × (new.text ≡ old.text) × (new.lines.items ≡ old.lines.items ++ text ∷ []) × (new.cutter ≡ behind_line old.cutter found)
IsFurtherTaken old found heard.Ends (Ok (Given reply)) new =
    (new.begun ≡ false) × (new.lines.items ≡ []) × (new.cutter ≡ behind_line old.cutter found)
    × (reply.good ≡ true) × (reply.text ≡ old.text) × (texts_of reply.lines ≡ Some old.lines.items)
IsFurtherTaken old found said (Err NoMemory) new =
    (new.begun ≡ true) × (new.text ≡ old.text) × (new.lines.items ≡ old.lines.items) × (new.cutter ≡ old.cutter)
IsFurtherTaken old found said result new = ⊥

-- where it goes on, less is left to be heard
abbrev pub Falls : Result Step ReplyFault → ℕ → ℕ → Type 0
Falls (Ok More) new old = new < old
Falls (Ok Waits) new old = ⊤
Falls (Ok (Given reply)) new old = ⊤
Falls (Err fault) new old = ⊤

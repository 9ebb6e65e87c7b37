-- What the definition of a session says, in the client's terms.
use Rattle.std.specs.Prelude.{◌≡◌, ℕ, ◌+◌, true, false, List, length, take, Option, Some, None, Ok, slice_get}
use Rattle.mail_model.specs.Plan.{Plan, is_user}
use Rattle.mail_model.specs.Session.{is_long_line}
use Rattle.mail_model.specs.Pop.{pop_command_of}
use Rattle.mail_model.specs.Pop.Command.{User, Pass, Apop}
use Rattle.mail_model.specs.Names.{lower}
use Rattle.mail_model.specs.PopReplies.{Item, ListingSlot, listing_reply, unmarked}
use Rattle.mail_model.specs.Maildrop.{Stage, line_outcome, after_line, message_at, with_mark, list_outcome, uidl_outcome, retr_outcome, dele_outcome}
use Rattle.mail_model.specs.Maildrop.Stage.{Authorization}
use Rattle.mail_model.specs.Maildrop.Given.{BySecret, ByDigest}
use Rattle.mail_model.specs.Maildrop.LineOutcome.{AsksLogin}

-- After its first line a listing shows of each message that is not marked what is shown of it alone, under its own number, in the place that it has among those that are not marked.
abbrev pub NumberedAlike : Type 0
NumberedAlike = (first : List ℕ) (line : ℕ → Item → List ℕ) (slots : List ListingSlot) (n : ℕ) (item : Item) →
    message_at slots n ≡ Some item → slice_get (listing_reply first line slots) (length (unmarked (take n slots))) ≡ Some (line n item)

-- a line for each message that is not marked, and two more
abbrev pub ListsUnmarkedOnce : Type 0
ListsUnmarkedOnce = (first : List ℕ) (line : ℕ → Item → List ℕ) (slots : List ListingSlot) → length (listing_reply first line slots) ≡ length (unmarked slots) + 2

-- In both listings the number has the same message, or none, and what a command leads to that names it is the same.
pub record IsShownAlike (old new : List ListingSlot) (n : ℕ) : Type 0 where
  pub message : message_at new n ≡ message_at old n
  pub list : list_outcome new (Some n) ≡ list_outcome old (Some n)
  pub uidl : uidl_outcome new (Some n) ≡ uidl_outcome old (Some n)
  pub retr : retr_outcome new n ≡ retr_outcome old n
  pub dele : dele_outcome new n ≡ dele_outcome old n

-- A mark shifts no numbers: each other message is shown as before, under its number.
abbrev pub NumbersStay : Type 0
NumbersStay = (slots : List ListingSlot) (marked n : ℕ) → (n ≡ marked → ⊥) → IsShownAlike slots (with_mark slots marked) n

-- Under the number of a message that was marked there is no message any more.
abbrev pub MarkedIsNone : Type 0
MarkedIsNone = (slots : List ListingSlot) (n : ℕ) → message_at (with_mark slots n) n ≡ None

-- a line that is USER with a name of this user, in any case of its letters
pub record NamesUser (line user : List ℕ) : Type 0 where
  pub name : List ℕ
  pub short : is_long_line line ≡ false
  pub says : pop_command_of line ≡ Ok (User name)
  pub same : lower name ≡ user

-- the login of this user with this secret
pub record LogsIn (plan : Plan) (first second user secret : List ℕ) : Type 0 where
  pub names : NamesUser first user
  pub configured : is_user plan user ≡ true
  pub short : is_long_line second ≡ false
  pub says : pop_command_of second ≡ Ok (Pass secret)

-- whatever came before two lines, the second asks the node for a login by a secret only where the first is the USER of it, and the second its PASS
abbrev pub AsksBehindUser : Type 0
AsksBehindUser = (plan : Plan) (stage : Stage) (first second user secret : List ℕ) →
    line_outcome plan (after_line stage first) second ≡ AsksLogin user (BySecret secret) → LogsIn plan first second user secret

-- the login of this user with this digest
pub record LogsInByDigest (plan : Plan) (stage : Stage) (line user digest : List ℕ) : Type 0 where
  pub name : List ℕ
  pub named : Option (List ℕ)
  pub before : stage ≡ Authorization named
  pub configured : is_user plan user ≡ true
  pub short : is_long_line line ≡ false
  pub says : pop_command_of line ≡ Ok (Apop name digest)
  pub same : lower name ≡ user

-- a line asks the node for a login by a digest only before TRANSACTION, and only where it is the APOP of it
abbrev pub AsksByApop : Type 0
AsksByApop = (plan : Plan) (stage : Stage) (line user digest : List ℕ) →
    line_outcome plan stage line ≡ AsksLogin user (ByDigest digest) → LogsInByDigest plan stage line user digest

-- What a pass knows of its own calls.
use Rattle.std.specs.Prelude.{◌≡◌, ℕ, ◌+◌, ◌-◌, ◌^◌, ◌≤◌, min, List, [], ◌⊎◌, Option}
use Rattle.std.specs.Option.{option_map}
use Rattle.io_edge.specs.Causes.{Rose}
use Rattle.mail_model.specs.Identity.{Id}
use Rattle.mail_model.specs.Book.{BookEntry, Acked, acked_in, struck_in}
use Rattle.session_model.specs.Calls as model
use Rattle.session_model.specs.Calls.Answer.{Stored, Listed, Wrong, InUse, NoProfile, Part, GoneAlready, Dropped, Failed}
use Rattle.call_tickets.specs.declared.tally.Tally.{Tally}
use Rattle.call_tickets.specs.Tells.{TellsMore}

-- The copies that its calls acknowledged, and those that they are to delete, where told; and its counts.
pub record PassKnows : Type 0 where
  pub acked : Option (List Acked)
  pub struck : Option (List (List ℕ × Id))
  pub counts : Tally

-- what is known of a pass with these own entries and counts
abbrev pub known_to : Option (List BookEntry) → Tally → PassKnows
known_to own counts = record { acked = option_map acked_in own; struck = option_map struck_in own; counts = counts }

-- no count fell, and no Leave was begun
pub record NoneFell (old new : Tally) : Type 0 where
  pub stored : old.stored ≤ new.stored
  pub listed : old.listed ≤ new.listed
  pub wrong : old.wrong ≤ new.wrong
  pub in_use : old.in_use ≤ new.in_use
  pub no_profile : old.no_profile ≤ new.no_profile
  pub part : old.part ≤ new.part
  pub gone : old.gone ≤ new.gone
  pub dropped : old.dropped ≤ new.dropped
  pub failed : old.failed ≤ new.failed
  pub down : old.down ≤ new.down
  pub worn : old.worn ≤ new.worn
  pub leaves : new.leaves ≡ old.leaves

-- the counts, with one Leave more
abbrev pub with_leave : Tally → Tally
with_leave counts = record counts { leaves = min (counts.leaves + 1) (2 ^ 64 - 1) }

-- Nothing was acknowledged or struck, by what is told still.
pub record IsQuiet (old new : PassKnows) : Type 0 where
  pub acked : TellsMore old.acked [] new.acked
  pub struck : TellsMore old.struck [] new.struck
  pub fell : NoneFell old.counts new.counts

-- The count of this answer rose. A call that failed was answered so, or was given up as a number was used up.
abbrev pub AnswerCounted : model.Answer → Tally → Tally → Type 0
AnswerCounted (Stored id) old new = Rose old.stored new.stored
AnswerCounted (Listed items) old new = Rose old.listed new.listed
AnswerCounted Wrong old new = Rose old.wrong new.wrong
AnswerCounted InUse old new = Rose old.in_use new.in_use
AnswerCounted NoProfile old new = Rose old.no_profile new.no_profile
AnswerCounted (Part octets) old new = Rose old.part new.part
AnswerCounted GoneAlready old new = Rose old.gone new.gone
AnswerCounted Dropped old new = Rose old.dropped new.dropped
AnswerCounted Failed old new = Rose old.failed new.failed ⊎ Rose old.worn new.worn

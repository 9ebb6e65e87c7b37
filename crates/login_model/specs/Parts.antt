-- The parts of the invariant, each over the fields that it reads.
use Rattle.std.specs.Prelude.{◌≡◌, ℕ, true, List, Some}
use Rattle.object_model.specs.Lists.{Among}
use Rattle.object_model.specs.Letters.{Number, Letter}
use Rattle.login_model.specs.Readings.{Reading, Subject, subject_of}
use Rattle.login_model.specs.Cluster.{Slot, Cluster, slot_at, NodesRead}
use Rattle.login_model.specs.Facts.{Fact, IsDrawn, WasTrue, subject_asked, is_told, fact_told, ReadingClaims, AnswerAwaited, NodesWait, Covered}
use Rattle.login_model.specs.Moves.{IsInOrder}

-- each node is in order
pub record AllInOrder (slots : List Slot) : Type 0 where
  pub each : (n : ℕ) (slot : Slot) → slot_at slots n ≡ Some slot → IsInOrder slot

-- A letter that asks or tells has the number of a ticket that was drawn; and what it asks is what the ticket reads, while that stands.
pub record LettersFit (slots : List Slot) (flying : List Letter) : Type 0 where
  pub asked_drawn : (letter : Letter) → Among letter flying → (subject : Subject) → subject_asked letter.body ≡ Some subject → (number : Number) → letter.ticket ≡ Some number → IsDrawn slots number
  pub told_drawn : (letter : Letter) → Among letter flying → is_told letter.body ≡ true → (number : Number) → letter.ticket ≡ Some number → IsDrawn slots number
  pub asked : (letter : Letter) → Among letter flying → (subject : Subject) → subject_asked letter.body ≡ Some subject → (number : Number) → letter.ticket ≡ Some number
      → (reading : Reading) → NodesRead slots number reading → subject ≡ subject_of reading

-- What a ticket counts on was true at a moment since it began, and so was what a letter tells it.
pub record Knows (slots : List Slot) (flying : List Letter) (story : List (List Slot)) : Type 0 where
  pub now : Among slots story
  -- a number that was drawn at a moment is drawn now
  pub past : (moment : List Slot) → Among moment story → (number : Number) → IsDrawn moment number → IsDrawn slots number
  pub reads : (number : Number) (reading : Reading) → NodesRead slots number reading → (m : ℕ) (fact : Fact) → ReadingClaims number.node reading m fact → WasTrue story number m fact
  pub letters : (letter : Letter) → Among letter flying → is_told letter.body ≡ true → (number : Number) → letter.ticket ≡ Some number → (reading : Reading) → NodesRead slots number reading
      → (fact : Fact) → fact_told letter.body (subject_of reading) ≡ Some fact → WasTrue story number letter.from fact

-- who is waited for has a letter of the ticket in flight, to it or from it
pub record WaitsForLetters (slots : List Slot) (flying : List Letter) : Type 0 where
  pub each : (number : Number) (m : ℕ) (what : AnswerAwaited) → NodesWait slots number m what → Covered flying number m what

pub record Sound (w : Cluster) : Type 0 where
  pub order : AllInOrder w.slots
  pub fit : LettersFit w.slots w.flying
  pub knows : Knows w.slots w.flying w.story
  pub waits : WaitsForLetters w.slots w.flying

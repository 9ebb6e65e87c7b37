-- What a stop of the machine may leave of a journal, at any moment of its calls.
use Rattle.std.specs.Prelude.{◌≡◌, ℕ, List, ◌++◌}
use Rattle.io_edge.specs.Moments.{Clock, Passed}
use Rattle.mail_model.specs.Record.{IsJournal}
use Rattle.disk_journal.specs.Journal.{EndsAt}

-- The octets come from an image of old: where that was a journal with its gate at `end`, they are the journal with its records and then the first of these.
pub record Extends {D : Type 0} (clock : Clock D) (old : D) (end : ℕ) (added : List (List ℕ)) (c : List ℕ) : Type 0 where
  pub base : List ℕ
  pub was : clock.is_image old base
  pub part : List (List ℕ)
  pub rest : List (List ℕ)
  pub split : part ++ rest ≡ added
  pub is : (node : ℕ) (payloads : List (List ℕ)) → EndsAt node base payloads end → IsJournal node c (payloads ++ part)

-- At each moment from old to new each image has the records of one of old, and then the first of these.
abbrev pub Adds : {D : Type 0} → Clock D → D → D → ℕ → List (List ℕ) → Type 0
Adds clock old new end added = Passed clock old new (Extends clock old end added)

-- The octets come from an image of old: where that was a journal with its gate at `end`, they are the journal with its records and then all of these, and its gate is at `end'`.
pub record Ends {D : Type 0} (clock : Clock D) (old : D) (end end' : ℕ) (added : List (List ℕ)) (c : List ℕ) : Type 0 where
  pub base : List ℕ
  pub was : clock.is_image old base
  pub is : (node : ℕ) (payloads : List (List ℕ)) → EndsAt node base payloads end → EndsAt node c (payloads ++ added) end'

-- Each image of new has the records of one of old, and then all of these.
abbrev pub AddsAll : {D : Type 0} → Clock D → D → D → ℕ → ℕ → List (List ℕ) → Type 0
AddsAll clock old new end end' added = (c : List ℕ) → clock.is_image new c → Ends clock old end end' added c

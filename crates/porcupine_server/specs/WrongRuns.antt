-- Runs of which what is promised to clients is false: the octets of the tape of one message, which was answered `250 stored`, and a store that does not have it; and a
-- tape that was refused for a line that has no fault.
use Rattle.std.specs.Prelude.{ℕ, List, [], ◌∷◌, ◌++◌, Option, Some, codes}
use Rattle.mail_model.specs.Lines.{ended}
use Rattle.mail_model.specs.Record.{journal_of, payloads_of}
use Rattle.mail_model.specs.Transcript.{Entry}
use Rattle.worked_sessions.specs.OneMessage.{small_plan, small_entries}
use Rattle.worked_sessions.specs.WrongStores.{empty_records}
use Rattle.porcupine_server.specs.SmallTape.{small_tape}
use Rattle.porcupine_server.specs.Promises.{KeepsAll, IsRefused}

-- the store of a node that has its first boot alone
abbrev pub empty_store : List ℕ
empty_store = journal_of 1 (payloads_of empty_records) ++ 0 ∷ []

-- The tape was read, its transcript was written, and the status is 0. The promises cannot be said of fewer lines, of other sessions or of other records.
abbrev pub EmptyStoreIsRefused : Type 0
EmptyStoreIsRefused = (left : Option (List ℕ)) → KeepsAll {D = Option (List ℕ)} (λ store. store) (Some empty_store ∷ []) small_tape left small_entries 0 → ⊥

-- The first run line of that tape has no fault. So whatever was written, it is not what was left out at status 3.
abbrev pub FirstLineIsHandled : Type 0
FirstLineIsHandled = (entries : List Entry) (left : Option (List ℕ)) → IsRefused small_plan [] entries (ended (codes "open smtp 1")) left → ⊥

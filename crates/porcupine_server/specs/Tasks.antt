-- What the words of the command line ask for, and what is promised of each task.
use Rattle.std.specs.Prelude.{◌≡◌, ◌⊎◌, ℕ, List, String, Option, Some, None, map, ⊤}
use Rattle.std.specs.String.{string_bytes}
use Rattle.std.specs.Io.KnownBytes.{Appends}
use Rattle.io_edge.specs.Causes.{Rose}
use Rattle.node_store.specs.Disks.{View}
use Rattle.command_words.specs.Forms.{Task, task_of}
use Rattle.command_words.specs.Forms.Task.{Drive, Storm, Check, Serve}
use Rattle.word_works.specs.Checks.{ChecksPlan, KeepsRules, NamesRule}
use Rattle.word_works.specs.Storms.{WritesStorm}
use Rattle.mail_service.specs.Consoles.{HasListened}
use Rattle.mail_service.specs.declared.console.ConsoleEnd.TheVariants.{Early}
use Rattle.serve_word.specs.Causes.{IsServeStatus, HasStop, HasStopped, DoorsFailed}
use Rattle.serve_word.specs.Serving.{Outside, Serves}
use Rattle.porcupine_server.specs.Words.{RefusesWords}
use Rattle.serve_word.specs.Stores.{StoreFailed, store_line}
use Rattle.porcupine_server.specs.Works.{Stores, SourceAndSink, TranscriptFollows}
use Rattle.porcupine_server.specs.Complete.{IsGoodTape}
use Rattle.porcupine_server.specs.Promises.{HasKept}

-- How often the source has failed, the sink, and the yard at a store, at a file and at a door, before and after.
pub record Counts : Type 0 where
  pub read0 : ℕ
  pub read1 : ℕ
  pub write0 : ℕ
  pub write1 : ℕ
  pub store0 : ℕ
  pub store1 : ℕ
  pub unread0 : ℕ
  pub unread1 : ℕ
  pub unopened0 : ℕ
  pub unopened1 : ℕ

-- nothing was read, and no store was handed out or given back
pub record IsUntouched {D : Type 0} (stores : Stores D) (ends : SourceAndSink) : Type 0 where
  pub left : ends.left1 ≡ ends.left0
  pub handed : stores.handed1 ≡ stores.handed0
  pub returned : stores.returned1 ≡ stores.returned0

-- The words are of no form: they were refused.
pub record Refused {D : Type 0} (stores : Stores D) (ends : SourceAndSink) (counts : Counts) (status : ℕ) : Type 0 where
  pub one : status ≡ 1
  pub told : RefusesWords ends.held0 ends.held1 counts.write0 counts.write1
  pub untouched : IsUntouched stores ends

-- a store failed, and was named
abbrev pub NamesStore : {D : Type 0} → View D → Stores D → SourceAndSink → Counts → Type 0
NamesStore on stores ends counts =
    (node : ℕ) × Appends ends.held0 ends.held1 (store_line node)
    × StoreFailed on.seen on.faults stores.handed0 stores.handed1 stores.returned0 stores.returned1 counts.store0 counts.store1 node

-- The tape was driven.
pub record Driven {D : Type 0} (on : View D) (is_settled : D → Type 0) (stores : Stores D) (ends : SourceAndSink) (counts : Counts) (status : ℕ) : Type 0 where
  pub promises : HasKept on.seen stores ends status
  pub transcript_follows : TranscriptFollows on is_settled stores ends status
  pub not_words : status ≡ 1 → ⊥
  pub not_plan : status ≡ 2 → ⊥
  pub read_fault : status ≡ 4 → Rose counts.read0 counts.read1
  pub write_fault : status ≡ 5 → Rose counts.write0 counts.write1
  pub store_fault : status ≡ 6 → NamesStore on stores ends counts
  pub complete : (tape : List ℕ) → ends.left0 ≡ Some tape → IsGoodTape tape
      → (Rose counts.read0 counts.read1 → ⊥) → (Rose counts.write0 counts.write1 → ⊥)
      → ((node : ℕ) → StoreFailed on.seen on.faults stores.handed0 stores.handed1 stores.returned0 stores.returned1 counts.store0 counts.store1 node → ⊥)
      → (status ≡ 0) ⊎ (status ≡ 7)

-- The tape of a storm was written.
pub record Stormed {D : Type 0} (stores : Stores D) (ends : SourceAndSink) (counts : Counts) (status number size : ℕ) : Type 0 where
  pub storm : WritesStorm ends.held0 ends.held1 number size status
  pub write_fault : status ≡ 5 → Rose counts.write0 counts.write1
  pub complete : (Rose counts.write0 counts.write1 → ⊥) → (status ≡ 0) ⊎ (status ≡ 7)
  pub untouched : IsUntouched stores ends

-- A plan file was looked at, whose octets are told or not.
pub record Checked {D : Type 0} (stores : Stores D) (ends : SourceAndSink) (counts : Counts) (status : ℕ) (told : Option (List ℕ)) : Type 0 where
  pub checks : ChecksPlan told ends.held0 ends.held1 status
  pub some_status : (status ≡ 0) ⊎ (status ≡ 2) ⊎ (status ≡ 4) ⊎ (status ≡ 5) ⊎ (status ≡ 7)
  pub plan_fault : status ≡ 2 → (rule : ℕ) × NamesRule told ends.held0 ends.held1 rule
  pub read_fault : status ≡ 4 → Rose counts.unread0 counts.unread1
  pub write_fault : status ≡ 5 → Rose counts.write0 counts.write1
  pub complete : (octets : List ℕ) → told ≡ Some octets → KeepsRules octets
      → (Rose counts.unread0 counts.unread1 → ⊥) → (Rose counts.write0 counts.write1 → ⊥) → (status ≡ 0) ⊎ (status ≡ 7)
  pub untouched : IsUntouched stores ends

-- The cluster of a plan file was served, whose octets are told or not.
pub record Served {D G X : Type 0} (on : View D) (is_settled : D → Type 0) (left : G → Option (List X)) (quiets faults : G → ℕ) (out : Outside D G) (counts : Counts) (status : ℕ) (told : Option (List ℕ)) : Type 0 where
  pub served : Serves on is_settled left quiets faults told out status
  pub some_status : IsServeStatus status
  pub stopped : status ≡ 0 → HasStopped left quiets faults told out.left0 out.left1 out.opened0 out.opened1 out.closed0 out.closed1
  pub plan_fault : status ≡ 2 → (rule : ℕ) × NamesRule told out.held0 out.held1 rule
  pub early : status ≡ 3 → (line : ℕ) × HasListened out.left0 out.left1 (Early line)
  pub read_fault : status ≡ 4 → Rose counts.unread0 counts.unread1 ⊎ Rose counts.read0 counts.read1
  pub write_fault : status ≡ 5 → Rose counts.write0 counts.write1
  pub store_fault : status ≡ 6 → (node : ℕ) × Appends out.held0 out.held1 (store_line node)
      × StoreFailed on.seen on.faults out.handed0 out.handed1 out.returned0 out.returned1 counts.store0 counts.store1 node
  pub door_fault : status ≡ 8 → DoorsFailed left quiets faults counts.unopened0 counts.unopened1 out.opened0 out.opened1 out.closed0 out.closed1
  pub complete : (octets console : List ℕ) → told ≡ Some octets → KeepsRules octets → out.left0 ≡ Some console → HasStop console
      → (Rose counts.unread0 counts.unread1 → ⊥) → (Rose counts.read0 counts.read1 → ⊥) → (Rose counts.write0 counts.write1 → ⊥)
      → ((node : ℕ) → StoreFailed on.seen on.faults out.handed0 out.handed1 out.returned0 out.returned1 counts.store0 counts.store1 node → ⊥)
      → (DoorsFailed left quiets faults counts.unopened0 counts.unopened1 out.opened0 out.opened1 out.closed0 out.closed1 → ⊥)
      → (status ≡ 0) ⊎ (status ≡ 7)

-- what the words ask for; nothing where they are of no form
abbrev pub asked : {Z : Type 0} → List (String Z) → Option Task
asked words = task_of (map string_bytes words)

-- the words ask for `drive`
abbrev pub IsDrive : {Z : Type 0} → List (String Z) → Type 0
IsDrive words = asked words ≡ Some Drive

-- what is asked for is to serve
abbrev pub IsServe : Option Task → Type 0
IsServe None = ⊥
IsServe (Some Drive) = ⊥
IsServe (Some (Storm number size)) = ⊥
IsServe (Some (Check file)) = ⊥
IsServe (Some (Serve file)) = ⊤

-- one of five, by what is asked for
abbrev pub ByTask : Option Task → Type 0 → Type 0 → (ℕ → ℕ → Type 0) → (List ℕ → Type 0) → (List ℕ → Type 0) → Type 0
ByTask None refused driven stormed checked served = refused
ByTask (Some Drive) refused driven stormed checked served = driven
ByTask (Some (Storm number size)) refused driven stormed checked served = stormed number size
ByTask (Some (Check file)) refused driven stormed checked served = checked file
ByTask (Some (Serve file)) refused driven stormed checked served = served file

-- what is promised of what is asked for, over files that tell so much
abbrev pub IsAnswered : {D G X : Type 0} → View D → (D → Type 0) → (G → Option (List X)) → (G → ℕ) → (G → ℕ) → Stores D → SourceAndSink → Outside D G → Counts → (List ℕ → Option (List ℕ)) → Option Task → ℕ → Type 0
IsAnswered on is_settled left quiets faults stores ends out counts files task status =
    ByTask task (Refused stores ends counts status) (Driven on is_settled stores ends counts status) (λ number size. Stormed stores ends counts status number size)
    (λ file. Checked stores ends counts status (files file)) (λ file. Served on is_settled left quiets faults out counts status (files file))

-- What a node makes of a letter of a call that reads, before it learns the stamps of it.
use Rattle.std.specs.Prelude.{◌≡◌, ℕ, Bool, true, false, List, Option, Some, is_some, Result, Ok, Err}
use Rattle.mail_model.specs.Plan.{Plan}
use Rattle.mail_model.specs.Record.{Record, payloads_of}
use Rattle.object_model.specs.Sets.{has}
use Rattle.object_model.specs.Letters.{LoginWord, ToldItem, Body, Letter}
use Rattle.object_model.specs.Letters.LoginWord.{Named}
use Rattle.login_model.specs.Facts.{IsToldList}
use Rattle.joint_world.specs.Rules.{Hears}
use Rattle.cluster_model.specs.Makes.{IsFetchAsk}
use Rattle.disk_journal.specs.Journal.{TellsJournal}
use Rattle.node_store.specs.Disks.{View}
use Rattle.node_core.specs.Nodes.{NodeKeeps, end_in}
use Rattle.node_core.specs.Works.{IsOnlyRead, ReadFailed}
use Rattle.node_core.specs.declared.fault.NodeFault.{NodeFault}
use Rattle.node_core.specs.declared.fault.NodeFault.TheVariants.{Disk, Worn, NoMemory}
use Rattle.node_reads.specs.Tables.{reads_in}
use Rattle.whole_node.specs.Nodes.{joint_seen}
use Rattle.whole_node.specs.Reading.{AreReadLetters}
use Rattle.whole_node.specs.declared.node.WholeNode.{WholeNode}

-- the own list of a user is at hand where this word names the own node
abbrev pub HasOwnList : ℕ → List Record → Option (List ℕ) → LoginWord → List ToldItem → Type 0
HasOwnList own records user word mine = (name : List ℕ) → user ≡ Some name → (named : ℕ) → word ≡ Named named → has named own ≡ true → IsToldList name records mine

-- the letter was heard by the rule, without a look at the disk
abbrev pub HearsAtRest : Plan → Letter → Body → List Letter → WholeNode → WholeNode → Type 0
HearsAtRest plan letter body letters old new = (tells : Bool) (records : List Record) → NodeKeeps records old.mail
    → Hears plan tells old.mail.store.own (joint_seen old) records letter body (record { node = joint_seen new; out = letters })

module _ {D : Type 0} (on : View D) (plan : Plan) (letter : Letter) (old : WholeNode) (before : D) (new : WholeNode) (after : D) where
  -- it was heard
  pub record HeardAs (letters : List Letter) : Type 0 where
    pub did : (records : List Record) → NodeKeeps records old.mail → TellsJournal (on.seen before) old.mail.store.own (payloads_of records) (end_in old.mail)
        → Hears plan (is_some (on.seen before)) old.mail.store.own (joint_seen old) records letter letter.body (record { node = joint_seen new; out = letters })
    pub sent : AreReadLetters letters
    pub read : IsOnlyRead on before after
    pub quiet : on.faults after ≡ on.faults before

  -- memory ran out
  pub record HearingRanShort : Type 0 where
    pub reads : reads_in new.reads ≡ reads_in old.reads
    pub locks : new.locks ≡ old.locks
    pub read : IsOnlyRead on before after
    pub quiet : on.faults after ≡ on.faults before
    pub untouched : (IsFetchAsk letter.body → ⊥) → after ≡ before

  abbrev pub HearsAs : Result (List Letter) NodeFault → Type 0
  HearsAs (Ok letters) = HeardAs letters
  HearsAs (Err Disk) = IsFetchAsk letter.body × ReadFailed on old.mail.store.own old.mail before new.mail after
  HearsAs (Err Worn) = ⊥
  HearsAs (Err (NoMemory true)) = ⊥
  HearsAs (Err (NoMemory false)) = HearingRanShort

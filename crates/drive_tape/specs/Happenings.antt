-- What came of a run line that moves the cluster, as the definitions see it.
use Rattle.std.specs.Prelude.{ℕ, List, [], ◌∷◌, Option, Some, None, Result, Ok, Err}
use Rattle.std.specs.Io.KnownBytes.{Appends}
use Rattle.object_model.specs.Sets.{nodes_in}
use Rattle.mail_model.specs.Transcript as transcript
use Rattle.mail_model.specs.Transcript.{Entry}
use Rattle.mail_model.specs.Transcript.Entry.{Event}
use Rattle.session_model.specs.Events as plain
use Rattle.node_core.specs.declared.outbox.Why.{Why}
use Rattle.cluster_world.specs.Outcomes.{map_seen}
use Rattle.cluster_world.specs.Sums.{sum_seen}
use Rattle.node_core.specs.declared.outbox.Why.TheVariants as why
use Rattle.drive_tape.specs.declared.event.ClusterEvent.{ClusterEvent}
use Rattle.drive_tape.specs.declared.event.ClusterEvent.TheVariants.{WentDown, CameUp, WasLost, WasHeard, WasThrown, WasDropped, HasFlowed, HasSent, HasWidened, HasGrouped, HasFormed, HasSettled, WasAbsent, HasMapped, HasTicked, HasSummed, HasFaulted}
use Rattle.drive_tape.specs.declared.entry.WriteStop.{WriteStop}
use Rattle.drive_tape.specs.declared.entry.WriteStop.TheVariants as write
use Rattle.drive_tape.specs.Entries.{WritesEntries}

abbrev pub why_seen : Why → transcript.Why
why_seen why.Down = transcript.Why.WhileDown
why_seen why.Stale = transcript.Why.Stale
why_seen why.Old = transcript.Why.Old
why_seen why.NotPromised = transcript.Why.NotPromised
why_seen why.NotMember = transcript.Why.NotMember
why_seen why.Late = transcript.Why.Late

abbrev pub event_seen : ClusterEvent → plain.ClusterEvent
event_seen (WentDown node) = plain.ClusterEvent.WentDown node
event_seen (CameUp node boot) = plain.ClusterEvent.CameUp node boot
event_seen (WasLost node) = plain.ClusterEvent.WasLost node
event_seen (WasHeard letter) = plain.ClusterEvent.WasHeard letter
event_seen (WasThrown letter why) = plain.ClusterEvent.WasThrown letter (why_seen why)
event_seen (WasDropped letter) = plain.ClusterEvent.WasDropped letter
event_seen HasFlowed = plain.ClusterEvent.HasFlowed
event_seen (HasSent count) = plain.ClusterEvent.HasSent count
event_seen (HasWidened did) = plain.ClusterEvent.HasWidened did
event_seen (HasGrouped epoch) = plain.ClusterEvent.HasGrouped epoch
event_seen (HasFormed epoch members) = plain.ClusterEvent.HasFormed epoch (nodes_in members 16)
event_seen HasSettled = plain.ClusterEvent.HasSettled
event_seen (WasAbsent member) = plain.ClusterEvent.WasAbsent member
event_seen (HasMapped user told) = plain.ClusterEvent.HasMapped user (map_seen told)
event_seen HasTicked = plain.ClusterEvent.HasTicked
event_seen (HasSummed sum) = plain.ClusterEvent.HasSummed (sum_seen sum)
event_seen (HasFaulted node) = plain.ClusterEvent.HasFaulted node

-- the line of this text, where there is one
abbrev pub entries_of_event : Option (List ℕ) → List Entry
entries_of_event None = []
entries_of_event (Some text) = Event text ∷ []

-- the node whose sessions fall
abbrev pub fallen_by : plain.ClusterEvent → Option ℕ
fallen_by (plain.ClusterEvent.WentDown node) = Some node
fallen_by (plain.ClusterEvent.WasLost node) = Some node
fallen_by (plain.ClusterEvent.HasFaulted node) = Some node
fallen_by event = None

-- The entries were written; or some of them, where there are any. Where there is none, the sink does not fail.
abbrev pub WritesOrStops : Option (List ℕ) → Option (List ℕ) → Result (Unit {0}) WriteStop → List Entry → Type 0
WritesOrStops old new (Ok done) [] = Appends old new []
WritesOrStops old new (Err write.NoMemory) [] = Appends old new []
WritesOrStops old new (Err write.WriteFault) [] = ⊥
WritesOrStops old new result (entry ∷ entries) = WritesEntries old new result (entry ∷ entries)

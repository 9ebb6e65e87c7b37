-- A tape that ends in a mail map behind a regroup. Two messages are told, as on the tape that is freshly ended; then node 3 goes down, and node 1 forms an epoch of those
-- that are up. Once the cluster has settled it is asked which nodes have mail of alice. What the disks say of mail is as it was without the regroup (`fresh_disks`): node 3
-- has a message of hers, but is no member any more. Which epochs nodes promised is left out there, for it says nothing of mail.
use Rattle.std.specs.Prelude.{◌≡◌, ℕ, List, [], ◌∷◌, ◌++◌, flat_map, Some, codes}
use Rattle.mail_model.specs.Identity.{EpochId}
use Rattle.mail_model.specs.Tape.ClusterOrder.{Crash, Regroup, Settle, Maps}
use Rattle.mail_model.specs.Transcript.{Entry}
use Rattle.mail_model.specs.Transcript.Entry.{Event}
use Rattle.session_model.specs.Events.{event_entries}
use Rattle.session_model.specs.Events.ClusterEvent.{WentDown, HasFormed, HasSettled, HasMapped}
use Rattle.session_model.specs.Logs.{AreLogged, asked_by, answered_by}
use Rattle.session_model.specs.Sessions.{AreSessions, AreAnswered}
use Rattle.session_model.specs.Acts.{Act}
use Rattle.session_model.specs.Acts.Act.{Makes}
use Rattle.standing_model.specs.Standing.{OnDisk, HasFragment, NamesFragments, MembersAgree}
use Rattle.fresh_sessions.specs.Acts.{OwesSettled}
use Rattle.fresh_sessions.specs.Tapes.{EndsInMaps, SettledAgrees}
use Rattle.fresh_sessions.specs.Kept.{IsRun, KeepsSettled}
use Rattle.worked_settles.specs.FreshTape.{worked_plan, told_lines, told_acts, told_entries, teller, fresh_disks}
use Rattle.worked_settles.specs.MapsTape.{ToldMap, right_map}

-- the epoch that node 1 forms, and its members
abbrev pub second_epoch : EpochId
second_epoch = record { count = 2; node = 1 }

abbrev pub two_members : List ℕ
two_members = 1 ∷ 2 ∷ []

-- both messages are told, node 3 goes down, and an epoch is formed
abbrev pub left_lines : List (List ℕ)
left_lines = told_lines ++ codes "crash 3" ∷ codes "regroup 1" ∷ []

-- the cluster settles, and is asked for the map
abbrev pub regrouped_lines : List (List ℕ)
regrouped_lines = left_lines ++ codes "settle" ∷ codes "maps alice" ∷ []

-- the acts before the settle
abbrev pub left_acts : List (List Act)
left_acts = told_acts ++ (Makes (Crash 3) (WentDown 3) ∷ []) ∷ (Makes (Regroup 1) (HasFormed second_epoch two_members) ∷ []) ∷ []

-- and what is written before it
abbrev pub left_entries : List Entry
left_entries = told_entries ++ event_entries (WentDown 3) ++ event_entries (HasFormed second_epoch two_members)

-- all acts, where this is told
abbrev pub regrouped_acts : ToldMap → List (List Act)
regrouped_acts told = left_acts ++ (Makes Settle HasSettled ∷ []) ∷ (Makes (Maps (codes "alice")) (HasMapped (codes "alice") told) ∷ []) ∷ []

-- all that is written then
abbrev pub regrouped_entries : ToldMap → List Entry
regrouped_entries told = left_entries ++ event_entries HasSettled ++ event_entries (HasMapped (codes "alice") told)

-- With any map this is a run, its transcript shows the one session, with all that it asked and was answered, and the tape ends in the map, while nodes 1 and 2 are members.
pub record IsRegroupedRun (told : ToldMap) : Type 0 where
  pub run : IsRun worked_plan regrouped_lines (regrouped_entries told) (regrouped_acts told)
  pub sessions : AreSessions worked_plan regrouped_lines (regrouped_entries told) (teller ∷ [])
  pub answered : AreAnswered (teller ∷ [])
  pub logged : AreLogged (flat_map asked_by (flat_map (λ a. a) (regrouped_acts told))) (flat_map answered_by (flat_map (λ a. a) (regrouped_acts told))) (teller ∷ [])
  pub ended : EndsInMaps worked_plan regrouped_lines (regrouped_acts told) two_members (codes "alice") told

-- The right map names both members, and not node 3, whose disk has a fragment too. With it the cluster gives what it owes of the end of a run, and the promises are kept.
pub record RegroupedTapeIsMet : Type 0 where
  pub runs : (told : ToldMap) → IsRegroupedRun told
  pub absent : OnDisk fresh_disks 3 (HasFragment (codes "alice"))
  pub names : NamesFragments fresh_disks two_members (codes "alice") right_map
  pub agree : MembersAgree fresh_disks two_members
  pub shows : event_entries (WentDown 3) ++ event_entries (HasFormed second_epoch two_members) ≡ Event (codes "node 3 down") ∷ Event (codes "epoch 2.1 members 1 2") ∷ []
  pub owes : OwesSettled worked_plan fresh_disks (flat_map (λ a. a) (regrouped_acts right_map))
  pub kept : KeepsSettled worked_plan regrouped_lines (regrouped_acts right_map) fresh_disks (teller ∷ [])

-- Where the map names node 3 too, which is no member, the promise is false, whoever chooses the acts that led to the transcript.
abbrev pub RefusesAbsentNode : Type 0
RefusesAbsentNode =
    (acts : List (List Act)) → IsRun worked_plan regrouped_lines (regrouped_entries (Some (1, 1 ∷ 2 ∷ 3 ∷ []))) acts → SettledAgrees worked_plan regrouped_lines acts fresh_disks → ⊥

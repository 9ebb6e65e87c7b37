-- What a cluster owes of the end of a run: behind an act that settled it, while nobody but readers did anything.
use Rattle.std.specs.Prelude.{◌≡◌, ℕ, zero, suc, ◌+◌, List, [], ◌∷◌, ◌++◌, length, map, flat_map, All, ⊤, Option, Some, None}
use Rattle.mail_model.specs.Identity.{EpochId}
use Rattle.mail_model.specs.Plan.{Plan}
use Rattle.mail_model.specs.Maildrop.{Given}
use Rattle.mail_model.specs.PopReplies.{Item}
use Rattle.mail_model.specs.Record.{Record}
use Rattle.mail_model.specs.Tape.Protocol.{Pop}
use Rattle.mail_model.specs.Tape.ClusterOrder.{Flow, Conclude, Regroup, Settle, Maps}
use Rattle.object_model.specs.Lists.{Among}
use Rattle.session_model.specs.Calls.{Call}
use Rattle.session_model.specs.Calls.Call.{Deliver, Login, Fetch, Strike}
use Rattle.session_model.specs.Calls.Answer.{Listed}
use Rattle.session_model.specs.Events.ClusterEvent.{HasFlowed, HasFormed, HasSettled, HasMapped}
use Rattle.session_model.specs.Acts.{Act, opened_by}
use Rattle.session_model.specs.Acts.Act.{Opens, Does, Faults, StillWaits, Leaves, Makes, Abandons}
use Rattle.session_model.specs.Acts.Deed.{IsFed, Hears, IsAnswered, IsGivenUp, Falls, Closes}
use Rattle.session_model.specs.Books.{AmongAnswers}
use Rattle.session_model.specs.Logs.{answered_by}
use Rattle.standing_model.specs.Standing.{AreStanding, NamesFragments, MembersAgree}

-- a call that reads, or none
abbrev pub IsReadCall : Option Call → Type 0
IsReadCall None = ⊤
IsReadCall (Some (Deliver mail)) = ⊥
IsReadCall (Some (Login user given)) = ⊤
IsReadCall (Some (Fetch user id)) = ⊤
IsReadCall (Some (Strike user ids)) = ⊥

-- An act of readers: a session is opened or fed, calls that read are asked, are answered or still wait, a user leaves, or all letters are posted and no disk fails.
abbrev pub IsReaderAct : Act → Type 0
IsReaderAct (Opens protocol node greeting) = ⊤
IsReaderAct (Does k (IsFed octets)) = ⊤
IsReaderAct (Does k (Hears one)) = IsReadCall one.call
IsReaderAct (Does k (IsAnswered call answer reply)) = IsReadCall (Some call)
IsReaderAct (Does k (IsGivenUp call reply)) = ⊥
IsReaderAct (Does k Falls) = ⊤
IsReaderAct (Does k Closes) = ⊤
IsReaderAct (Faults node) = ⊥
IsReaderAct (StillWaits k) = ⊤
IsReaderAct (Leaves k user) = ⊤
IsReaderAct (Makes Flow HasFlowed) = ⊤
IsReaderAct (Makes order event) = ⊥
IsReaderAct (Abandons k) = ⊥

-- the act is none by which an epoch is formed
abbrev pub FormsNone : Act → Type 0
FormsNone (Makes (Conclude node) event) = ⊥
FormsNone (Makes (Regroup node) event) = ⊥
FormsNone act = ⊤

-- the nodes from 1 to this one
abbrev pub nodes_to : ℕ → List ℕ
nodes_to zero = []
nodes_to (suc k) = nodes_to k ++ suc k ∷ []

-- Which members acts show: where no epoch was formed since the cluster was opened, all nodes of the plan; or those of the last epoch, where a regroup formed it.
pub data ShowsMembers (plan : Plan) (acts : List Act) (members : List ℕ) : Type 0 where
  AtOpening : members ≡ nodes_to plan.nodes → All FormsNone acts → ShowsMembers plan acts members
  ByRegroup : (before behind : List Act) (node : ℕ) (epoch : EpochId) → acts ≡ before ++ Makes (Regroup node) (HasFormed epoch members) ∷ behind → All FormsNone behind
      → ShowsMembers plan acts members

-- What a cluster owes. Where it settled, a session was then opened at a member, and nobody but readers did anything since: each listing that the session is answered
-- with has exactly the messages that stand. Where it settled, and was then asked for a map: the map names exactly the fragments, and the members agree.
pub record OwesSettled (plan : Plan) (disks : List (List Record)) (acts : List Act) : Type 0 where
  pub fresh : (before behind : List Act) (members : List ℕ) (node : ℕ) (greeting : List ℕ) → acts ≡ before ++ Makes Settle HasSettled ∷ Opens Pop node greeting ∷ behind
      → All IsReaderAct behind → ShowsMembers plan before members → Among node members
      → (user : List ℕ) (given : Given) (items : List Item)
      → AmongAnswers (record { session = length (flat_map opened_by before) + 1; call = Login user given; answer = Listed items }) (flat_map answered_by behind)
      → AreStanding disks members user (map (λ (item : Item). item.id) items)
  pub maps : (before : List Act) (members : List ℕ) (user : List ℕ) (told : Option (ℕ × List ℕ)) → acts ≡ before ++ Makes Settle HasSettled ∷ Makes (Maps user) (HasMapped user told) ∷ []
      → ShowsMembers plan before members → NamesFragments disks members user told × MembersAgree disks members

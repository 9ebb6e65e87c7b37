-- What a world that was driven owes of its end, by what came of its steps: behind a settle, while nobody but readers did anything.
use Rattle.std.specs.Prelude.{◌≡◌, ℕ, true, List, [], ◌∷◌, ◌++◌, map, All, ⊤, Option, Some, Ok}
use Rattle.mail_model.specs.Identity.{EpochId}
use Rattle.mail_model.specs.Plan.{Plan}
use Rattle.mail_model.specs.Maildrop.{Given}
use Rattle.mail_model.specs.PopReplies.{Item}
use Rattle.mail_model.specs.Record.{Record}
use Rattle.mail_model.specs.Tape.{ClusterOrder as order}
use Rattle.object_model.specs.Letters.{Number}
use Rattle.object_model.specs.Lists.{Among}
use Rattle.object_model.specs.Sets.{nodes_in}
use Rattle.session_model.specs.Calls.{Call}
use Rattle.session_model.specs.Calls.Call.{Login}
use Rattle.session_model.specs.Calls.Answer.{Listed}
use Rattle.session_model.specs.Copies.{AreDisks}
use Rattle.session_model.specs.Sums.{BookSum}
use Rattle.standing_model.specs.Standing.{AreStanding, NamesFragments, MembersAgree}
use Rattle.fresh_sessions.specs.Acts.{IsReadCall, nodes_to}
use Rattle.node_store.specs.Disks.{View}
use Rattle.cluster_world.specs.Lasting.{WasDriven}
use Rattle.cluster_world.specs.Made.{StepMade}
use Rattle.cluster_world.specs.Outcomes.{Outcome, Awaited, map_seen}
use Rattle.cluster_world.specs.Outcomes.Outcome.{Began, Answers, StillPending, Left, Moved, Settling, Mapped}
use Rattle.cluster_world.specs.Regroups.{AllWentOn, FormsBy}
use Rattle.cluster_world.specs.Worlds.{disks_of, disks_tell}
use Rattle.cluster_world.specs.declared.world.World.{World}
use Rattle.cluster_world.specs.declared.settling.Settle.TheVariants.{Settled}

-- What readers lead to: a call that reads has begun, is answered or still waits, a user leaves, or all letters are posted and no step fails.
abbrev pub IsReaderOutcome : Outcome → Type 0
IsReaderOutcome (Began k node asked ticket) = IsReadCall (Some asked)
IsReaderOutcome (Answers k asked ticket given) = IsReadCall (Some asked)
IsReaderOutcome (StillPending k ticket) = ⊤
IsReaderOutcome (Left k node user) = ⊤
IsReaderOutcome (Moved order.Flow steps sum up) = AllWentOn steps
IsReaderOutcome outcome = ⊥

-- no epoch was formed
abbrev pub MakesNone : Outcome → Type 0
MakesNone (Moved (order.Conclude node) steps sum up) = ⊥
MakesNone (Moved (order.Regroup node) steps sum up) = ⊥
MakesNone outcome = ⊤

-- Whose epoch it is: where none was formed since the cluster was opened, it is that of all nodes of the plan; or it is the last, where a regroup formed it.
pub data MembersMade (plan : Plan) (outcomes : List Outcome) (members : List ℕ) : Type 0 where
  AtOpening : members ≡ nodes_to plan.nodes → All MakesNone outcomes → MembersMade plan outcomes members
  ByRegroup : (before behind : List Outcome) (node : ℕ) (steps : List StepMade) (sum : BookSum) (up : List ℕ) (epoch : EpochId) (set : ℕ)
      → outcomes ≡ before ++ Moved (order.Regroup node) steps sum up ∷ behind → FormsBy node epoch set steps → members ≡ nodes_in set 16 → All MakesNone behind
      → MembersMade plan outcomes members

-- Where it settled, session k had asked nothing before and is at a member, and nobody but readers did anything since: each listing that the session is answered with has
-- exactly the messages that stand. Where it settled, and was then asked for a map: the map names exactly the fragments, and the members agree.
pub record OwesOutcomes (plan : Plan) (disks : List (List Record)) (outcomes : List Outcome) : Type 0 where
  pub fresh : (front behind : List Outcome) (steps : List StepMade) (members : List ℕ) (k node : ℕ) → outcomes ≡ front ++ Settling (Ok Settled) steps ∷ behind → All IsReaderOutcome behind
      → MembersMade plan front members → Among node members
      → ((n : ℕ) (asked : Call) (ticket : Number) → Among (Began k n asked ticket) front → ⊥) → ((n : ℕ) (asked : Call) (ticket : Number) → Among (Began k n asked ticket) behind → n ≡ node)
      → (user : List ℕ) (given : Given) (ticket : Number) (items : List Item) → Among (Answers k (Login user given) ticket (Listed items)) behind
      → AreStanding disks members user (map (λ (item : Item). item.id) items)
  pub maps : (front : List Outcome) (steps : List StepMade) (members : List ℕ) (user : List ℕ) (told : Option (ℕ × ℕ)) → outcomes ≡ front ++ Settling (Ok Settled) steps ∷ Mapped user told ∷ []
      → MembersMade plan front members → NamesFragments disks members user (map_seen told) × MembersAgree disks members

-- Whatever steps a world makes from its opening on: where its disks tell what they hold, it gives what it owes of its end.
abbrev pub WorldOwesSettled : {D : Type 0} → View D → Type 0
WorldOwesSettled {D} on = (plan : Plan) (lines : List (List ℕ)) (outcomes : List Outcome) (left : List Awaited) (start last : World D) (disks : List (List Record))
    → WasDriven on plan lines outcomes left start last → disks_tell on.seen last ≡ true → AreDisks 1 (map on.seen (disks_of last)) disks → OwesOutcomes plan disks outcomes

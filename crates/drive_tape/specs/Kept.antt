-- The promises to clients, over the world that was driven and came back.
use Rattle.std.specs.Prelude.{◌≡◌, ◌⊎◌, ℕ, true, List, map, flat_map, All, ⊤, Option, Some}
use Rattle.mail_model.specs.Plan.{Plan}
use Rattle.mail_model.specs.Record.{Record}
use Rattle.mail_model.specs.Tape.{Order, tape_order}
use Rattle.mail_model.specs.Tape.Order.{Moves}
use Rattle.mail_model.specs.Tape.ClusterOrder.{Start, Push, Settle}
use Rattle.mail_model.specs.Transcript.{Entry}
use Rattle.session_model.specs.Acts.{Act}
use Rattle.session_model.specs.Logs.{Asked}
use Rattle.session_model.specs.Run.{Stop}
use Rattle.session_model.specs.Run.Stop.{BehindLine}
use Rattle.session_model.specs.Kept.{KeepsPromises}
use Rattle.fresh_sessions.specs.Kept.{KeepsSettled}
use Rattle.cluster_owes.specs.Held.{filed_on}
use Rattle.node_store.specs.Disks.{View}
use Rattle.cluster_world.specs.Worlds.{plan_of, disks_of, book_of, disks_tell}
use Rattle.cluster_world.specs.declared.world.World.{World}

-- The order needs nothing that a disk tells: it starts no node, and has none push to another. A settle pushes wherever it has several members.
abbrev pub IsBlindOrder : ℕ → Option Order → Type 0
IsBlindOrder nodes (Some (Moves (Start node))) = ⊥
IsBlindOrder nodes (Some (Moves (Push node))) = nodes ≡ 1
IsBlindOrder nodes (Some (Moves Settle)) = nodes ≡ 1
IsBlindOrder nodes order = ⊤

abbrev pub AreBlindLines : ℕ → List (List ℕ) → Type 0
AreBlindLines nodes lines = All (λ line. IsBlindOrder nodes (tape_order line)) lines

-- The disks tell what they hold, or no line needs it.
abbrev pub AreToldOrBlind : {D : Type 0} → View D → World D → List (List ℕ) → Type 0
AreToldOrBlind on start lines = (disks_tell on.seen start ≡ true) ⊎ AreBlindLines (plan_of start).nodes lines

-- All promises are kept, by the records that the disks of this world hold and by its own book; what is filed of a message is what the first of the disks has that has any.
-- The acts are those of each run line.
pub record KeptIn {D : Type 0} (on : View D) (world : World D) (plan : Plan) (stop : Stop) (lines : List (List ℕ)) (entries : List Entry) (acts : List (List Act)) (begun : List Asked) : Type 0 where
  pub records : List (List Record)
  pub promises : KeepsPromises plan (disks_tell on.seen world) stop lines entries (map on.seen (disks_of world)) records (filed_on records) (book_of world) (flat_map (λ a. a) acts) begun
  -- where the work stopped behind a line and the disks tell what they hold, what is promised of a settled epoch is kept
  pub settled : stop ≡ BehindLine → disks_tell on.seen world ≡ true → KeepsSettled plan lines acts records promises.sessions

-- What a regroup does: the steps that it makes, in which order, and where it stops.
use Rattle.std.specs.Prelude.{◌≡◌, ◌⊎◌, ℕ, zero, suc, ◌+◌, ◌≤◌, ◌-◌, ◌*◌, Bool, true, false, ◌&&◌, ◌||◌, nat_le, List, [], ◌∷◌, ◌++◌, length, map, ⊤, MatchBool, Option, Some, None, Result, Ok, Err}
use Rattle.std.specs.List.{list_any}
use Rattle.mail_model.specs.Identity.{EpochId}
use Rattle.object_model.specs.Letters.{Membership}
use Rattle.cluster_model.specs.Cluster.{set_of_members}
use Rattle.cluster_model.specs.Room.{Flight, octets_flying, most_letters, most_octets}
use Rattle.cluster_model.specs.Steps.{letters_end}
use Rattle.maps_model.specs.Cluster.{NamesNode}
use Rattle.session_model.specs.Events.NodeLife.{Up}
use Rattle.node_store.specs.Disks.{View}
use Rattle.node_core.specs.declared.outbox.Why.TheVariants.{Old}
use Rattle.node_maps.specs.Nodes.{node_of}
use Rattle.whole_node.specs.declared.node.WholeNode.{WholeNode}
use Rattle.cluster_world.specs.Forms.{has_used_up}
use Rattle.cluster_world.specs.Lives.{of_node}
use Rattle.cluster_world.specs.Made.{StepMade, MakesSteps, IsPost, IsOfRegroup, AreOfRegroup, has_failed}
use Rattle.cluster_world.specs.Sound.{IsWhole}
use Rattle.cluster_world.specs.Steps.{IsStep}
use Rattle.cluster_world.specs.Turns.{node_refusal}
use Rattle.cluster_world.specs.Worlds.{WorldState, state_of, plan_of, life_of, life_in}
use Rattle.cluster_world.specs.declared.life.Life.{Life}
use Rattle.cluster_world.specs.declared.life.Life.TheVariants as lives
use Rattle.cluster_world.specs.declared.world.World.{World}
use Rattle.cluster_world.specs.declared.step.Step.{Step}
use Rattle.cluster_world.specs.declared.step.Step.TheVariants as step
use Rattle.cluster_world.specs.declared.step.Said.{Said}
use Rattle.cluster_world.specs.declared.step.Said.TheVariants as said
use Rattle.cluster_world.specs.declared.fault.StepFault.{StepFault}
use Rattle.cluster_world.specs.declared.fault.StepFault.TheVariants as fault
use Rattle.cluster_world.specs.declared.regrouping.Regroup.{Regroup}
use Rattle.cluster_world.specs.declared.regrouping.Regroup.TheVariants.{Formed, Fault}
use Rattle.cluster_world.specs.declared.regrouping.Halt.{Halt}
use Rattle.cluster_world.specs.declared.regrouping.Halt.TheVariants as halt

-- each of these steps was made, and no disk failed
abbrev pub AllWentOn : List StepMade → Type 0
AllWentOn [] = ⊤
AllWentOn (one ∷ more) = (has_failed one.result ≡ false) × AllWentOn more

-- each of these opens a group at the node, or posts a letter
abbrev pub IsOfRound : ℕ → StepMade → Type 0
IsOfRound n one = (one.step ≡ step.Group n) ⊎ IsPost one

abbrev pub AreOfRounds : ℕ → List StepMade → Type 0
AreOfRounds n [] = ⊤
AreOfRounds n (one ∷ more) = IsOfRound n one × AreOfRounds n more

-- each of these posts a letter
abbrev pub AllPost : List StepMade → Type 0
AllPost [] = ⊤
AllPost (one ∷ more) = IsPost one × AllPost more

-- it begins with a group at the node, if anything was done
abbrev pub BeginsByGroup : ℕ → List StepMade → Type 0
BeginsByGroup n [] = ⊤
BeginsByGroup n (one ∷ more) = one.step ≡ step.Group n

-- The group was concluded once, and it has this epoch and these members: before come groups and posts, and behind posts alone.
pub record FormsBy (n : ℕ) (epoch : EpochId) (members : ℕ) (steps : List StepMade) : Type 0 where
  pub rounds : List StepMade
  pub installs : List StepMade
  pub split : steps ≡ rounds ++ record { step = step.Conclude n; result = Ok (said.Concluded epoch members) } ∷ installs
  pub asks : AreOfRounds n rounds
  pub posts : AllPost installs
  pub well : AllWentOn steps

-- the last step said this, and those before went on
pub record EndsBy (result : Result Said StepFault) (steps : List StepMade) : Type 0 where
  pub front : List StepMade
  pub one : StepMade
  pub split : steps ≡ front ++ one ∷ []
  pub well : AllWentOn front
  pub failed : one.result ≡ result

-- whether there is room for all letters of a regroup of so many nodes: two rounds of groups and joins, and the installs
abbrev pub has_room_for_rounds : ℕ → List Flight → Bool
has_room_for_rounds nodes flights = nat_le (length flights + 6 * nodes) most_letters && nat_le (octets_flying flights + 64 * (6 * nodes)) most_octets

-- whether a number that the group of this node needs is used up: that of letters, or the count of the node's epochs
abbrev pub used_up_in : Option Life → Bool
used_up_in None = false
used_up_in (Some life) = has_used_up life

abbrev pub group_is_worn : {D : Type 0} → ℕ → WorldState D → Bool
group_is_worn n state = nat_le letters_end state.flying.sent || used_up_in (of_node state.lives n)

-- The node was not to be refused, and no number was used up; the regroup was refused, before anything was done, for want of room.
pub record LacksRoom {D : Type 0} (n : ℕ) (why : StepFault) (steps : List StepMade) (old : World D) : Type 0 where
  pub none : steps ≡ []
  pub is : why ≡ fault.NoRoom
  pub fit : node_refusal (plan_of old) (life_of old) (step.Group n) ≡ None
  pub fresh : group_is_worn n (state_of old) ≡ false
  pub lacking : has_room_for_rounds (plan_of old).nodes (state_of old).flying.flights ≡ false

-- Where the node was not to be refused, no number was used up, and anything was done, there was room.
abbrev pub BeginsWithRoom : {D : Type 0} → ℕ → List StepMade → World D → Type 0
BeginsWithRoom n [] old = ⊤
BeginsWithRoom n (one ∷ more) old =
    node_refusal (plan_of old) (life_of old) (step.Group n) ≡ None → group_is_worn n (state_of old) ≡ false → has_room_for_rounds (plan_of old).nodes (state_of old).flying.flights ≡ true

-- An epoch was formed, or a disk failed in the last step, or the last step was refused; or there was no room at the beginning.
abbrev pub RegroupsSo : {D : Type 0} → ℕ → Result Regroup StepFault → List StepMade → World D → Type 0
RegroupsSo n (Ok (Formed epoch members)) steps old = FormsBy n epoch members steps
RegroupsSo n (Ok (Fault failed)) steps old = EndsBy (Ok (said.Faulted failed)) steps
RegroupsSo n (Err why) steps old = EndsBy (Err why) steps ⊎ LacksRoom n why steps old

-- An epoch was formed. Just the nodes that were up are its members, each in its boot; each is up in it and has installed the epoch; and these members are told.
pub record HasFormed {D : Type 0} (epoch : EpochId) (members : ℕ) (old new : WorldState D) : Type 0 where
  pub membership : Membership
  pub epoch_is : membership.epoch ≡ epoch
  pub members_are : members ≡ set_of_members membership.members
  pub all_up : (n boot : ℕ) → life_in old n ≡ Up boot
      → (node : WholeNode) × (of_node new.lives n ≡ Some (lives.Up node)) × (life_in new n ≡ Up boot) × ((node_of node.maps).installed ≡ Some membership) × NamesNode membership n boot
  pub only_up : (n boot : ℕ) → NamesNode membership n boot → life_in old n ≡ Up boot

abbrev pub FormsTheUp : {D : Type 0} → Result Regroup StepFault → WorldState D → WorldState D → Type 0
FormsTheUp (Ok (Formed epoch members)) old new = HasFormed epoch members old new
FormsTheUp (Ok (Fault failed)) old new = ⊤
FormsTheUp (Err why) old new = ⊤

-- the number of the last letter that was sent
abbrev pub sent_in : {D : Type 0} → World D → ℕ
sent_in world = (state_of world).flying.sent

-- the letters of so many numbers behind this one are posted, in order
abbrev pub posts_behind : ℕ → ℕ → List Step
posts_behind number zero = []
posts_behind number (suc left) = step.Post (number + 1) false ∷ posts_behind (number + 1) left

-- the node whose disk failed
abbrev pub failed_in : Said → Option ℕ
failed_in (said.Faulted failed) = Some failed
failed_in said = None

-- what a regroup answers that halts
abbrev pub ended : Halt → Result Regroup StepFault
ended (halt.Fault failed) = Ok (Fault failed)
ended (halt.Refused why) = Err why

-- whether a letter was thrown as old
abbrev pub is_old : Said → Bool
is_old (said.Thrown Old) = true
is_old said = false

abbrev pub was_old : Result Said StepFault → Bool
was_old (Ok said) = is_old said
was_old (Err why) = false

abbrev pub threw_old : StepMade → Bool
threw_old one = was_old one.result

module _ {D : Type 0} (on : View D) where
  -- So many letters, behind this number, were posted in order. Whether one was thrown as old is told.
  pub record ArePosted (number count : ℕ) (old : Bool) (from to : World D) (steps : List StepMade) : Type 0 where
    pub made : MakesSteps on steps from to
    pub all : map (λ one. one.step) steps ≡ posts_behind number count
    pub well : AllWentOn steps
    pub threw : old ≡ list_any threw_old steps

  -- those that were sent from the one world to the other are
  abbrev pub AreAllPosted : World D → World D → Bool → World D → World D → List StepMade → Type 0
  AreAllPosted before after old from to steps = ArePosted (sent_in before) (sent_in after - sent_in before) old from to steps

  -- A round: the node opened a group, and all its letters were posted, and then all that answered them.
  pub record IsRound (n : ℕ) (again : Bool) (old new : World D) (steps : List StepMade) : Type 0 where
    pub group : Said
    pub asked : World D
    pub heard : World D
    pub asks : List StepMade
    pub answers : List StepMade
    pub late : Bool
    pub split : steps ≡ record { step = step.Group n; result = Ok group } ∷ asks ++ answers
    pub opened : IsStep on (Ok group) (step.Group n) old asked
    pub opens_well : has_failed (Ok group) ≡ false
    pub posted : AreAllPosted old asked again asked heard asks
    pub answered : AreAllPosted asked heard late heard new answers

  -- a second round is made where a letter of the first was thrown as old
  abbrev pub IsSecondRound : ℕ → Bool → World D → World D → List StepMade → Type 0
  IsSecondRound n again old new steps = MatchBool again ((more : Bool) × IsRound n more old new steps) ((steps ≡ []) × (new ≡ old))

  -- the group was concluded, and all letters of that were posted
  pub record IsConclusion (n : ℕ) (epoch : EpochId) (members : ℕ) (old new : World D) (steps : List StepMade) : Type 0 where
    pub concluded : World D
    pub installs : List StepMade
    pub late : Bool
    pub split : steps ≡ record { step = step.Conclude n; result = Ok (said.Concluded epoch members) } ∷ installs
    pub concludes : IsStep on (Ok (said.Concluded epoch members)) (step.Conclude n) old concluded
    pub posted : AreAllPosted old concluded late concluded new installs

  -- an epoch was formed: a round, or two, and the conclusion
  pub record IsInOrder (n : ℕ) (epoch : EpochId) (members : ℕ) (old new : World D) (steps : List StepMade) : Type 0 where
    pub again : Bool
    pub asked : World D
    pub asked_again : World D
    pub one : List StepMade
    pub two : List StepMade
    pub last : List StepMade
    pub split : steps ≡ (one ++ two) ++ last
    pub first : IsRound n again old asked one
    pub second : IsSecondRound n again asked asked_again two
    pub ends : IsConclusion n epoch members asked_again new last

  -- so it is where a regroup says so
  abbrev pub FormsInOrder : ℕ → Result Regroup StepFault → World D → World D → List StepMade → Type 0
  FormsInOrder n (Ok (Formed epoch members)) old new steps = IsInOrder n epoch members old new steps
  FormsInOrder n (Ok (Fault failed)) old new steps = ⊤
  FormsInOrder n (Err why) old new steps = ⊤

  -- these steps were made as a node regrouped
  pub record MakesRegroup (n : ℕ) (result : Result Regroup StepFault) (steps : List StepMade) (old new : World D) : Type 0 where
    pub made : MakesSteps on steps old new
    pub of : AreOfRegroup n steps
    pub begins : BeginsByGroup n steps
    pub room : BeginsWithRoom n steps old
    pub shape : RegroupsSo n result steps old
    pub order : FormsInOrder n result old new steps
    -- in a world that stands for a sound one of the whole machine the epoch is one of just the nodes that were up
    pub forms : IsWhole on (plan_of old) old → FormsTheUp result (state_of old) (state_of new)

  -- a node regrouped
  abbrev pub HasRegrouped : ℕ → Result Regroup StepFault → World D → World D → Type 0
  HasRegrouped n result old new = (steps : List StepMade) × MakesRegroup n result steps old new

  -- what the step said that a regroup halts with
  abbrev pub halted : Halt → Result Said StepFault
  halted (halt.Fault failed) = Ok (said.Faulted failed)
  halted (halt.Refused why) = Err why

  -- a step was made that went on, or halts the regroup
  abbrev pub StepsOn : Step → Result Said Halt → World D → World D → Type 0
  StepsOn step (Ok said) old new = IsStep on (Ok said) step old new × (has_failed (Ok said) ≡ false)
  StepsOn step (Err halt) old new = IsStep on (halted halt) step old new

  -- such steps were made, and the last of them halts the regroup
  pub record Halts (Are : List StepMade → Type 0) (halt : Halt) (old new : World D) : Type 0 where
    pub steps : List StepMade
    pub made : MakesSteps on steps old new
    pub are : Are steps
    pub ends : EndsBy (halted halt) steps

  abbrev pub PostsOn : ℕ → ℕ → Result Bool Halt → World D → World D → Type 0
  PostsOn number count (Ok old) from to = (steps : List StepMade) × ArePosted number count old from to steps
  PostsOn number count (Err halt) from to = Halts AllPost halt from to

  -- a round, or one that halts
  abbrev pub AsksOn : ℕ → Result Bool Halt → World D → World D → Type 0
  AsksOn n (Ok again) old new = (steps : List StepMade) × IsRound n again old new steps
  AsksOn n (Err halt) old new = Halts (λ steps. AreOfRegroup n steps × BeginsByGroup n steps) halt old new

  -- a second one, if it is to be made
  abbrev pub AsksAgain : ℕ → Bool → Result (Unit {0}) Halt → World D → World D → Type 0
  AsksAgain n again (Ok _) old new = (steps : List StepMade) × IsSecondRound n again old new steps
  AsksAgain n again (Err halt) old new = Halts (λ steps. AreOfRegroup n steps × BeginsByGroup n steps) halt old new

  -- the conclusion
  abbrev pub ConcludesOn : ℕ → Result (EpochId × ℕ) Halt → World D → World D → Type 0
  ConcludesOn n (Ok (epoch, members)) old new = (steps : List StepMade) × IsConclusion n epoch members old new steps
  ConcludesOn n (Err halt) old new = Halts (AreOfRegroup n) halt old new

  abbrev pub FormsOn : ℕ → Result (EpochId × ℕ) Halt → World D → World D → Type 0
  FormsOn n (Ok (epoch, members)) old new = (steps : List StepMade) × IsInOrder n epoch members old new steps
  FormsOn n (Err halt) old new = Halts (λ steps. AreOfRegroup n steps × BeginsByGroup n steps) halt old new

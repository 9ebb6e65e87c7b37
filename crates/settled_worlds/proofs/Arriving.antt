-- The world in which a settle ended well: the epoch that it is settled in is that of the members which the outcomes before it show.
use Rattle.std.proofs.Common.{◌≡◌, ◌⊎◌, inr, ℕ, zero, suc, ◌≤◌, Bool, true, false, List, [], ◌∷◌, ◌++◌, length, Some, None, Result, Ok, refl, sym, ap, ◌∙◌, subst, arith}
use Rattle.std.specs.Prelude.{⊤, All}
use Rattle.std.proofs.lemmas.Option.{slice_get_within}
use Rattle.mail_model.specs.Identity.{EpochId}
use Rattle.mail_model.specs.Plan.{Plan}
use Rattle.mail_model.specs.Tape.{ClusterOrder as order}
use Rattle.object_model.specs.Letters.{Member, Membership}
use Rattle.object_model.specs.Lists.{Among}
use Rattle.object_model.specs.Sets.{has, nodes_in}
use Rattle.cluster_model.specs.Cluster.{set_of_members}
use Rattle.cluster_model.specs.Starts.{first_membership, first_members}
use Rattle.whole_world.specs.Regroup.{AreNumbered}
use Rattle.whole_world.specs.Settled.{IsSettled}
use Rattle.whole_world.specs.Steps.Step.{ConcludeGroup}
use Rattle.whole_world.specs.Sweeps.{IsCharted}
use Rattle.joint_world.specs.First.{first_world}
use Rattle.joint_world.specs.Laws.{Stands}
use Rattle.joint_world.specs.World as joint
use Rattle.joint_world.specs.World.{whole_world_of, mail_world_of}
use Rattle.joint_world.proofs.Opening.{first_all_stand}
use Rattle.joint_world.proofs.SameStep.{makes_same}
use Rattle.kept_parts.specs.Kept.{PartsHold}
use Rattle.settled_logins.proofs.Parts.{parts_stay, worlds_have_parts}
use Rattle.shown_members.specs.Shown.{ShowsStill}
use Rattle.shown_members.proofs.Shows.{step_shows, first_shows, settled_shown}
use Rattle.standing_model.specs.Standing.{HasExactly}
use Rattle.node_store.specs.Disks.{View}
use Rattle.whole_node.specs.Starting.{first_map}
use Rattle.cluster_world.specs.Made.{StepMade}
use Rattle.cluster_world.specs.Opens.{IsAtBeginning}
use Rattle.cluster_world.specs.Outcomes.{Outcome, Awaited, Came, Makes, MakesOrder}
use Rattle.cluster_world.specs.Outcomes.Outcome.{Moved, Settling}
use Rattle.cluster_world.specs.Owing.{AreOfSessions, IsOfBlind}
use Rattle.cluster_world.specs.Regroups.{FormsBy, BeginsWithRoom, IsInOrder, FormsInOrder, group_is_worn, has_room_for_rounds}
use Rattle.cluster_world.specs.Seen.{whole_step, whole_outcome}
use Rattle.cluster_world.specs.Settling.{IsSettledIn}
use Rattle.cluster_world.specs.Turns.{node_refusal}
use Rattle.cluster_world.specs.Worlds.{state_of, plan_of, life_of, lives_of, disks_tell}
use Rattle.cluster_world.specs.Lives.{of_node}
use Rattle.cluster_world.specs.declared.fault.StepFault.{StepFault}
use Rattle.cluster_world.specs.declared.life.Life.{Life}
use Rattle.cluster_world.specs.declared.regrouping.Regroup.{Regroup}
use Rattle.cluster_world.specs.declared.settling.Settle.TheVariants.{Settled}
use Rattle.cluster_world.specs.declared.step.Step.{Step}
use Rattle.cluster_world.specs.declared.step.Step.TheVariants as step
use Rattle.cluster_world.specs.declared.world.World.{World}
use Rattle.cluster_world.proofs.AtFirst.{first_managers}
use Rattle.cluster_world.proofs.AtRest.{rest_is_settled}
use Rattle.cluster_world.proofs.Leading.{opens_whole}
use Rattle.cluster_world.proofs.Righted.{has_member}
use Rattle.settled_worlds.specs.Settled.{MakesNone, MembersMade}
use Rattle.settled_worlds.specs.Settled.MembersMade.{AtOpening, ByRegroup}
use Rattle.shown_members.proofs.Numbering.{steps_number}
use Rattle.settled_worlds.proofs.Carrying.{Has, Keeps, HasSessions, came_has, makes_have}
use Rattle.settled_worlds.proofs.Formings.{IsNoConclusion, sessions_conclude_none, one_forms, all_kinds, none_concludes, none_conclude}
use Rattle.settled_worlds.proofs.Members.{exactly_those, first_exactly, member_in}
use Rattle.settled_worlds.proofs.Parted.{IsKnown, known_front, known_behind, known_others, sessions_front, sessions_behind, parted}
use Rattle.settled_worlds.proofs.Regrouping.{shows_formed}
use Rattle.settled_worlds.proofs.Resting.{settled_there}

-- What is kept of each world: the parts on deletions and on octets, and the numbers of letters.
pub record Keeping (plan : Plan) (v : joint.World) : Type 0 where
  pub parts : PartsHold plan (mail_world_of v)
  pub numbered : AreNumbered (whole_world_of v)

-- and that the nodes show this membership
pub record Showing (plan : Plan) (g : Membership) (v : joint.World) : Type 0 where
  pub keeping : Keeping plan v
  pub shows : ShowsStill (whole_world_of v) g

-- the machine sees such a step as one that concludes no group
no_conclusion : (made : Step) → IsNoConclusion made → (n : ℕ) → whole_step made ≡ ConcludeGroup n → ⊥
no_conclusion (step.Conclude node) none n e = none
no_conclusion (step.Begin node call) none n e = cc e
no_conclusion (step.Ask ticket) none n e = cc e
no_conclusion (step.GiveUp ticket) none n e = cc e
no_conclusion (step.Post letter keep) none n e = cc e
no_conclusion (step.Drop letter) none n e = cc e
no_conclusion (step.Push from to) none n e = cc e
no_conclusion (step.Widen at user id to) none n e = cc e
no_conclusion (step.Group node) none n e = cc e
no_conclusion (step.Report from to) none n e = cc e
no_conclusion (step.Crash node) none n e = cc e
no_conclusion (step.Start node) none n e = cc e
no_conclusion (step.Lose node) none n e = cc e
no_conclusion (step.Tick seconds) none n e = cc e

all_sessions : HasSessions (λ s. ⊤)
all_sessions = record { begins = λ node call. tt; asks = λ ticket. tt; gives_up = λ ticket. tt }

-- room was found for the steps of a regroup, which are some
found_room : {D : Type 0} (n : ℕ) (steps rounds installs : List StepMade) (one : StepMade) (old : World D) → steps ≡ rounds ++ one ∷ installs → BeginsWithRoom n steps old
    → node_refusal (plan_of old) (life_of old) (step.Group n) ≡ None → group_is_worn n (state_of old) ≡ false → has_room_for_rounds (plan_of old).nodes (state_of old).flying.flights ≡ true
found_room n [] [] installs one old split begins = absurd (let never : [] ≡ one ∷ installs = split in cc)
found_room n [] (first ∷ rounds) installs one old split begins = absurd (let never : [] ≡ first ∷ (rounds ++ one ∷ installs) = split in cc)
found_room n (made ∷ steps) rounds installs one old split begins = begins

module _ {D : Type 0} (on : View D) (plan : Plan) (told : Bool) (few : plan.nodes ≤ 16) where
  keeps_all : Keeps on plan told (λ s. ⊤) (Keeping plan)
  keeps_all result made good story v w sound makes k = record {
    parts = parts_stay plan told story v w (record { step = whole_step made; outcome = whole_outcome result } ∷ []) (omega (arith, few)) (w, makes, refl) sound k.parts;
    numbered = steps_number plan told (whole_world_of v) (whole_world_of w) (whole_step made) (whole_outcome result) (makes_same plan told story v sound (whole_step made) (whole_outcome result) w makes) k.numbered;
  }

  pub keeps_showing : (g : Membership) → Keeps on plan told IsNoConclusion (Showing plan g)
  keeps_showing g result made good story v w sound makes k = record {
    keeping = keeps_all result made tt story v w sound makes k.keeping;
    shows = step_shows plan told (whole_world_of v) (whole_world_of w) (whole_step made) (whole_outcome result) g (makes_same plan told story v sound (whole_step made) (whole_outcome result) w makes)
        (λ n what is says. no_conclusion made good n is) sound.whole k.shows;
  }

  -- The world shows a membership, and these nodes are its members: all of them, where none is above 16.
  pub record Arrived (members : List ℕ) (world : World D) : Type 0 where
    pub g : Membership
    pub stood : Has on plan told (Showing plan g) world
    pub exactly : ((n : ℕ) → has (set_of_members g.members) n ≡ true → n ≤ 16) → HasExactly (set_of_members g.members) members

  -- so it is where a cluster opens
  starts : (start : World D) → IsAtBeginning on plan start → disks_tell on.seen start ≡ told → Has on plan told (Showing plan (first_membership plan.nodes (first_map plan))) start
  starts start begins told_is =
      let (h, first, mail) = opens_whole on plan start begins in
      let rows = first_map plan in
      let managers = first_managers plan begins.some in
      let within : plan.nodes ≤ 64 = omega (arith, few) in
      let stands = first_all_stand plan told rows begins.some within managers in
      record {
        of = record { plan_is = begins.plan_is; told_is = told_is };
        whole = record {
          v = h.v;
          story = h.story;
          sound = subst (λ (p : Plan). Stands p (disks_tell on.seen start) h.story h.v) begins.plan_is h.sound;
          charted = subst (λ (p : Plan). IsCharted p (whole_world_of h.v)) begins.plan_is h.charted;
          stands = h.stands;
        };
        holds = subst (Showing plan (first_membership plan.nodes rows)) (sym first) (record {
          keeping = record {
            parts = worlds_have_parts plan told rows [] (first_world plan.nodes rows) begins.some within managers refl;
            numbered = record { each = λ f m. absurd m };
          };
          shows = subst (λ w. ShowsStill w (first_membership plan.nodes rows)) (sym stands.1) (first_shows plan.nodes rows);
        });
      }

  fewer : (g : Membership) (world : World D) → Has on plan told (Showing plan g) world → Has on plan told (Keeping plan) world
  fewer g world h = record { of = h.of; whole = h.whole; holds = h.holds.keeping }

  -- and so it is where a regroup formed an epoch
  record FormedAt (set : ℕ) (world : World D) : Type 0 where
    g : Membership
    stood : Has on plan told (Showing plan g) world
    set_is : set ≡ set_of_members g.members

  formed_at : (node : ℕ) (steps : List StepMade) (epoch : EpochId) (set : ℕ) (old new : World D) → FormsBy node epoch set steps → MakesOrder on (order.Regroup node) steps old new → Has on plan told (Keeping plan) old → FormedAt set new
  formed_at node steps epoch set old new forms (result, regroup) ready =
      let is = one_forms node result steps epoch set old regroup.shape forms in
      let in_order : IsInOrder on node epoch set old new steps = subst (λ (r : Result Regroup StepFault). FormsInOrder on node r old new steps) is regroup.order in
      let f = shows_formed on plan told (Keeping plan) keeps_all node epoch set old new steps in_order ready (found_room node steps forms.rounds forms.installs _ old forms.split regroup.room) ready.holds.numbered in
      record {
        g = f.is_told.membership;
        stood = record { of = f.ends.of; whole = f.ends.whole; holds = record { keeping = f.ends.holds; shows = f.is_told.shows } };
        set_is = f.is_told.members_are;
      }

  module _ (lines : List (List ℕ)) where
    -- what formed no epoch since
    since : (set : ℕ) (behind : List Outcome) (awaited left : List Awaited) (old new : World D) → All MakesNone behind → IsKnown told plan.nodes behind → AreOfSessions lines behind → Makes on behind awaited old left new
        → FormedAt set old → (members : List ℕ) → members ≡ nodes_in set 16 → Arrived members new
    since set behind awaited left old new none known sessions makes f members are = record {
      g = f.g;
      stood = makes_have on plan told (Showing plan f.g) IsNoConclusion (keeps_showing f.g) sessions_conclude_none lines behind awaited left old new (none_conclude on behind awaited left old new none makes) known sessions makes f.stood;
      exactly = λ within. subst (HasExactly (set_of_members f.g.members)) (sym (are ∙ ap (λ s. nodes_in s 16) f.set_is)) (exactly_those (set_of_members f.g.members) 16 within);
    }

    -- so it is behind outcomes that show members
    pub arrive : (front : List Outcome) (left : List Awaited) (start mid : World D) → IsAtBeginning on plan start → disks_tell on.seen start ≡ told → IsKnown told plan.nodes front → AreOfSessions lines front
        → Makes on front [] start left mid → (members : List ℕ) → MembersMade plan front members → Arrived members mid
    arrive front left start mid begins told_is known sessions makes members (AtOpening are none) = record {
      g = first_membership plan.nodes (first_map plan);
      stood = makes_have on plan told (Showing plan (first_membership plan.nodes (first_map plan))) IsNoConclusion (keeps_showing (first_membership plan.nodes (first_map plan))) sessions_conclude_none lines front [] left start mid
          (none_conclude on front [] left start mid none makes) known sessions makes (starts start begins told_is);
      exactly = λ within. subst (HasExactly (set_of_members (first_members plan.nodes))) (sym are) (first_exactly plan.nodes (omega (arith, few)));
    }
    arrive front left start mid begins told_is known sessions makes members (ByRegroup before behind node steps sum up epoch set are forms members_are none) =
        let one : Outcome = Moved (order.Regroup node) steps sum up in
        let p = parted on before behind one [] left start mid (subst (λ (o : List Outcome). Makes on o [] start left mid) are makes) in
        let known_all : IsKnown told plan.nodes (before ++ one ∷ behind) = subst (IsKnown told plan.nodes) are known in
        let of_all : AreOfSessions lines (before ++ one ∷ behind) = subst (AreOfSessions lines) are sessions in
        let ready = makes_have on plan told (Keeping plan) (λ s. ⊤) keeps_all all_sessions lines before [] p.between start p.mid (all_kinds before) (known_front told plan.nodes before (one ∷ behind) known_all)
        (sessions_front lines before (one ∷ behind) of_all) p.before (fewer _ start (starts start begins told_is)) in
        since set behind p.after left p.next mid none (known_others told plan.nodes one behind (known_behind told plan.nodes before (one ∷ behind) known_all)) (λ o m. sessions_behind lines before (one ∷ behind) of_all o (inr m)) p.more
        (formed_at node steps epoch set p.mid p.next forms p.came.0 ready) members members_are

    -- The settle ended well: the epoch that it is settled in is that one.
    pub record SettledAt (members : List ℕ) (world : World D) : Type 0 where
      pub g : Membership
      pub stood : Has on plan told (Showing plan g) world
      pub rests : IsSettledIn (state_of world)
      pub same : rests.membership ≡ g
      pub settled : IsSettled (whole_world_of stood.whole.v) g
      pub some : (member : Member) × Among member g.members
      pub clear : stood.whole.v.flying ≡ []
      pub exactly : HasExactly (set_of_members g.members) members

    within_lives : (lives : List Life) (n : ℕ) (life : Life) → of_node lives n ≡ Some life → n ≤ length lives
    within_lives lives zero life e = omega arith
    within_lives lives (suc k) life e = omega (arith, slice_get_within lives k life e)

    pub settles : (steps : List StepMade) (between after : List Awaited) (mid next : World D) → (told ≡ true) ⊎ IsOfBlind plan.nodes (Settling (Ok Settled) steps) → Came on (Settling (Ok Settled) steps) between mid after next
        → (members : List ℕ) → Arrived members mid → SettledAt members next
    settles steps between after mid next known came members a =
        let one : Outcome = Settling (Ok Settled) steps in
        let stood = came_has on plan told (Showing plan a.g) IsNoConclusion (keeps_showing a.g) sessions_conclude_none lines one between after mid next (none_concludes on one between after mid next tt came) known tt came a.stood in
        let rests = (rest_is_settled D (state_of next)).0 came.0.shape.1 in
        let there = settled_there on plan next stood.whole rests in
        let (member, inside) = has_member on plan next stood.whole rests.membership rests.latest in
        let same : rests.membership ≡ a.g = settled_shown (whole_world_of stood.whole.v) a.g stood.holds.shows rests.membership member inside there in
        record {
          g = a.g;
          stood = stood;
          rests = rests;
          same = same;
          settled = subst (IsSettled (whole_world_of stood.whole.v)) same there;
          some = (member, subst (λ (x : Membership). Among member x.members) same inside);
          clear = sym stood.whole.stands.mail.flying ∙ rests.clear;
          exactly = a.exactly (λ n h.
              let (one, m, is) = member_in a.g.members n h in
              let up = (rests.members one (subst (λ (g : Membership). Among one g.members) (sym same) m)).up in
              omega (arith, is, within_lives (lives_of next) one.node _ up, next.nodes.all, next.nodes.few));
        }

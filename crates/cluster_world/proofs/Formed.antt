-- A regroup that forms an epoch: as the whole machine makes it, and what comes of it for the nodes of a world.
use Rattle.std.proofs.Common.{◌≡◌, ◌≢◌, ◌⊎◌, inl, inr, ⊎_elim, ℕ, zero, suc, ◌+◌, ◌-◌, ◌*◌, ◌≤◌, ◌<◌, Bool, true, false, ◌&&◌, ◌||◌, nat_le, nat_lt, List, [], ◌∷◌, ◌++◌, map, length, reverse, Option, Some, None, refl, sym, ap, ◌∙◌, subst, arith, true≢false, if◌then◌else◌}
use Rattle.std.specs.Prelude.{MatchBool, Result, Ok, Err, slice_get}
use Rattle.std.specs.List.{list_any}
use Rattle.std.proofs.lemmas.Bool.{and_parts}
use Rattle.mail_model.specs.Identity.{EpochId}
use Rattle.mail_model.specs.Plan.{Plan}
use Rattle.mail_model.specs.Record.{Record}
use Rattle.object_model.specs.Letters.{Membership}
use Rattle.object_model.specs.Lists.{Among}
use Rattle.session_model.specs.Events.{NodeLife, NodeLife as life}
use Rattle.cluster_model.specs.Cluster as plain
use Rattle.cluster_model.specs.Room.{Flight, octets_flying, most_letters, most_octets}
use Rattle.cluster_model.specs.Steps as mail_steps
use Rattle.cluster_model.specs.Steps.{is_node}
use Rattle.cluster_model.specs.Steps.Step.{Post as MailPost}
use Rattle.cluster_model.specs.Steps.Said.{Faulted as MailFaulted}
use Rattle.cluster_model.specs.Thrown as mail_thrown
use Rattle.cluster_model.specs.World as machine
use Rattle.maps_model.specs.Cluster as maps
use Rattle.maps_model.specs.Rules as maps_rules
use Rattle.whole_model.specs.Whole as whole
use Rattle.whole_model.specs.Whole.{maps_disk_of, mail_slot, mail_life}
use Rattle.whole_world.specs.Laws.{Stands}
use Rattle.whole_world.specs.Makes.{MakesStep, done_for_maps}
use Rattle.whole_world.specs.Makes.DoesStep.{ForMessages, PostsMaps, Starts, OpensGroup, ConcludesGroup, SendsReports}
use Rattle.whole_world.specs.Makes.Groups.{Opens, FailsOpening}
use Rattle.whole_world.specs.Regroup as round
use Rattle.whole_world.specs.Regroup.{PostsEach, Round, ThrownOld, ConcludesAll, Regroups, maps_at, maps_of_slot, HasRoomFor}
use Rattle.whole_world.specs.Regroup.Regroups.{AtOnce, Again}
use Rattle.std.specs.Option.{option_map}
use Rattle.whole_world.specs.Steps as whole_steps
use Rattle.whole_world.specs.Steps.{first_refusal, node_fault, actor_fault, letters_worn, by_slot, open_fault, step_fault, greatest_epoch}
use Rattle.whole_world.specs.Steps.Step.{OfMessages, OpenGroup, ConcludeGroup}
use Rattle.whole_world.specs.Steps.Said.{Told, Grouped as WholeGrouped, Concluded as WholeConcluded}
use Rattle.whole_world.specs.Steps.StepOutcome.{Says}
use Rattle.whole_world.specs.World as whole_world
use Rattle.whole_world.specs.World.{mail_world_of}
use Rattle.whole_world.proofs.Along.{mail_here}
use Rattle.whole_world.proofs.Forming.{regroups_form}
use Rattle.whole_world.proofs.Sending.{whole_sent, post_sent}
use Rattle.node_core.specs.Nodes.{node_seen}
use Rattle.node_core.specs.declared.outbox.Why.{Why}
use Rattle.node_core.specs.declared.outbox.Why.TheVariants as why
use Rattle.node_maps.specs.Nodes.{node_of}
use Rattle.node_store.specs.Disks.{View}
use Rattle.whole_node.specs.declared.node.WholeNode.{WholeNode}
use Rattle.joint_world.specs.World.{whole_world_of}
use Rattle.cluster_world.specs.Flights.{AreInOrder}
use Rattle.cluster_world.specs.Lives.{of_node, life_seen}
use Rattle.cluster_world.specs.Maps.{StandsForWhole}
use Rattle.cluster_world.specs.Made.{StepMade, MakesSteps, has_failed}
use Rattle.cluster_world.specs.Regroups.{AllWentOn, posts_behind, sent_in, is_old, was_old, threw_old, ArePosted, AreAllPosted, IsRound, IsSecondRound, IsConclusion, IsInOrder, HasFormed, used_up_in, group_is_worn, has_room_for_rounds}
use Rattle.cluster_world.specs.Seen.{whole_step, whole_said, whole_outcome}
use Rattle.cluster_world.specs.Steps.{IsStep, SaysSo}
use Rattle.cluster_world.specs.Turns.{node_refusal, actor_refusal, life_after_step}
use Rattle.cluster_world.specs.Sound.{IsWhole}
use Rattle.cluster_world.specs.Worlds.{WorldState, state_of, plan_of, lives_of, disks_of, life_of, life_in, seen_life, disks_tell, CanMakeSteps}
use Rattle.cluster_world.specs.declared.fault.StepFault.{StepFault}
use Rattle.cluster_world.specs.declared.fault.StepFault.TheVariants as fault
use Rattle.cluster_world.specs.declared.life.Life.{Life}
use Rattle.cluster_world.specs.declared.life.Life.TheVariants as lives
use Rattle.cluster_world.specs.declared.step.Said.{Said}
use Rattle.cluster_world.specs.declared.step.Said.TheVariants as said
use Rattle.cluster_world.specs.declared.step.Step.{Step}
use Rattle.cluster_world.specs.declared.step.Step.TheVariants as step
use Rattle.cluster_world.specs.declared.world.World.{World}
use Rattle.cluster_world.proofs.Leading.{same_whole}
use Rattle.cluster_world.proofs.Joined.{node_up}
use Rattle.cluster_world.proofs.Mirrors.{IsOf}
use Rattle.cluster_world.proofs.Numbers.{are_numbered}
use Rattle.cluster_world.proofs.Still.{some_same, both_at}
use Rattle.cluster_world.proofs.Wholes.{as_whole, UpWhole, whole_up, StepsWhole, step_whole, is_of_next}

-- what a step said that went on is no fault in the machine
pub fine_of : (what : Said) (n : ℕ) → has_failed (Ok what) ≡ false → whole_said what ≢ Told (MailFaulted n)
fine_of (said.Faulted node) n fine e = true≢false fine
fine_of (said.Begun ticket stirs) n fine e = cc e
fine_of said.Noted n fine e = cc e
fine_of (said.Asked ask) n fine e = cc e
fine_of said.Heard n fine e = cc e
fine_of (said.Thrown reason) n fine e = cc e
fine_of (said.Sent letters) n fine e = cc e
fine_of (said.Widened did) n fine e = cc e
fine_of (said.Grouped epoch) n fine e = cc e
fine_of (said.Concluded epoch members) n fine e = cc e
fine_of (said.NodeUp boot) n fine e = cc e
fine_of said.Done n fine e = cc e

-- a letter is thrown as old in the one where it is in the other
old_there : (what : Said) → is_old what ≡ true → whole_said what ≡ ThrownOld
old_there (said.Thrown why.Old) e = refl
old_there (said.Thrown why.Down) e = absurd (true≢false (sym e))
old_there (said.Thrown why.Stale) e = absurd (true≢false (sym e))
old_there (said.Thrown why.NotPromised) e = absurd (true≢false (sym e))
old_there (said.Thrown why.NotMember) e = absurd (true≢false (sym e))
old_there (said.Thrown why.Late) e = absurd (true≢false (sym e))
old_there (said.Faulted node) e = absurd (true≢false (sym e))
old_there (said.Begun ticket stirs) e = absurd (true≢false (sym e))
old_there said.Noted e = absurd (true≢false (sym e))
old_there (said.Asked ask) e = absurd (true≢false (sym e))
old_there said.Heard e = absurd (true≢false (sym e))
old_there (said.Sent letters) e = absurd (true≢false (sym e))
old_there (said.Widened did) e = absurd (true≢false (sym e))
old_there (said.Grouped epoch) e = absurd (true≢false (sym e))
old_there (said.Concluded epoch members) e = absurd (true≢false (sym e))
old_there (said.NodeUp boot) e = absurd (true≢false (sym e))
old_there said.Done e = absurd (true≢false (sym e))

old_here : (what : Said) → whole_said what ≡ ThrownOld → is_old what ≡ true
old_here (said.Thrown why.Old) e = refl
old_here (said.Thrown why.Down) e = absurd (cc e)
old_here (said.Thrown why.Stale) e = absurd (cc e)
old_here (said.Thrown why.NotPromised) e = absurd (cc e)
old_here (said.Thrown why.NotMember) e = absurd (cc e)
old_here (said.Thrown why.Late) e = absurd (cc e)
old_here (said.Faulted node) e = absurd (cc e)
old_here (said.Begun ticket stirs) e = absurd (cc e)
old_here said.Noted e = absurd (cc e)
old_here (said.Asked ask) e = absurd (cc e)
old_here said.Heard e = absurd (cc e)
old_here (said.Sent letters) e = absurd (cc e)
old_here (said.Widened did) e = absurd (cc e)
old_here (said.Grouped epoch) e = absurd (cc e)
old_here (said.Concluded epoch members) e = absurd (cc e)
old_here (said.NodeUp boot) e = absurd (cc e)
old_here said.Done e = absurd (cc e)

-- a group that is opened says its epoch
grouped : (n : ℕ) (what : Said) → SaysSo (step.Group n) what → has_failed (Ok what) ≡ false → (epoch : EpochId) × (what ≡ said.Grouped epoch)
grouped n (said.Grouped epoch) says fine = (epoch, refl)
grouped n (said.Faulted node) says fine = absurd (true≢false fine)
grouped n (said.Begun ticket stirs) says fine = absurd says
grouped n said.Noted says fine = absurd says
grouped n (said.Asked ask) says fine = absurd says
grouped n said.Heard says fine = absurd says
grouped n (said.Thrown reason) says fine = absurd says
grouped n (said.Sent letters) says fine = absurd says
grouped n (said.Widened did) says fine = absurd says
grouped n (said.Concluded epoch members) says fine = absurd says
grouped n (said.NodeUp boot) says fine = absurd says
grouped n said.Done says fine = absurd says

-- a post that went on leaves all lives as they are
post_lives : (what : Said) (letter : ℕ) (keep : Bool) (m : ℕ) (was : NodeLife) → has_failed (Ok what) ≡ false → life_after_step (Ok what) (step.Post letter keep) m was ≡ was
post_lives (said.Faulted node) letter keep m was fine = absurd (true≢false fine)
post_lives (said.Begun ticket stirs) letter keep m was fine = refl
post_lives said.Noted letter keep m was fine = refl
post_lives (said.Asked ask) letter keep m was fine = refl
post_lives said.Heard letter keep m was fine = refl
post_lives (said.Thrown reason) letter keep m was fine = refl
post_lives (said.Sent letters) letter keep m was fine = refl
post_lives (said.Widened did) letter keep m was fine = refl
post_lives (said.Grouped epoch) letter keep m was fine = refl
post_lives (said.Concluded epoch members) letter keep m was fine = refl
post_lives (said.NodeUp boot) letter keep m was fine = refl
post_lives said.Done letter keep m was fine = refl

-- numbers of letters only rise as a group is opened, and as it is concluded
open_sent : (plan : Plan) (tells : Bool) (old new : whole_world.World) (n : ℕ) (epoch : EpochId) → MakesStep plan tells old (OpenGroup n) (Says (WholeGrouped epoch)) new → old.sent ≤ new.sent
open_sent plan tells old new n epoch (fits, ForMessages one step answer says for_mail does follow) = absurd (cc step)
open_sent plan tells old new n epoch (fits, PostsMaps number keep step h) = absurd (cc step)
open_sent plan tells old new n epoch (fits, Starts m step h) = absurd (cc step)
open_sent plan tells old new n epoch (fits, ConcludesGroup m step h) = absurd (cc step)
open_sent plan tells old new n epoch (fits, SendsReports from to step h) = absurd (cc step)
open_sent plan tells old new n epoch (fits, OpensGroup m step (FailsOpening node disk up says down)) = absurd (cc says)
open_sent plan tells old new n epoch (fits, OpensGroup m step (Opens node disk up says is)) = subst (λ k. old.sent ≤ k) (sym (ap (λ (v : whole_world.World). v.sent) is))
    (whole_sent (reverse (maps_rules.start_group m plan.nodes node.maps (maps_disk_of disk)).out) _)

conclude_sent : (plan : Plan) (tells : Bool) (old new : whole_world.World) (n : ℕ) (what : whole_steps.Said) → MakesStep plan tells old (ConcludeGroup n) (Says what) new → old.sent ≤ new.sent
conclude_sent plan tells old new n what (fits, ForMessages one step answer says for_mail does follow) = absurd (cc step)
conclude_sent plan tells old new n what (fits, PostsMaps number keep step h) = absurd (cc step)
conclude_sent plan tells old new n what (fits, Starts m step h) = absurd (cc step)
conclude_sent plan tells old new n what (fits, OpensGroup m step h) = absurd (cc step)
conclude_sent plan tells old new n what (fits, SendsReports from to step h) = absurd (cc step)
conclude_sent plan tells old new n what (fits, ConcludesGroup m step f) = subst (λ k. old.sent ≤ k) (sym (ap (λ (v : whole_world.World). v.sent) f.new_world)) (whole_sent f.did.out _)

-- the sums of numbers
all_sent : (a b c d k : ℕ) → a ≡ c → b ≡ d → c ≤ d → k ≡ b - a → d ≡ c + k
all_sent a b c d k e f h count = omega (arith, e, f, h, count)

abbrev first_step : Step → List Step → Step
first_step s [] = s
first_step s (x ∷ xs) = x

abbrev rest_steps : List Step → List Step
rest_steps [] = []
rest_steps (x ∷ xs) = xs

-- a node that is up, by its life
up_of : (o : Option Life) (boot : ℕ) → seen_life o ≡ life.Up boot → (node : WholeNode) × (o ≡ Some (lives.Up node)) × ((node_seen node.mail).boot ≡ boot)
up_of None boot e = absurd (let never : life.Lost ≡ life.Up boot = e in cc)
up_of (Some lives.Down) boot e = absurd (let never : life.Down ≡ life.Up boot = e in cc)
up_of (Some lives.Lost) boot e = absurd (let never : life.Lost ≡ life.Up boot = e in cc)
up_of (Some (lives.Up node)) boot e = (node, refl, same (node_seen node.mail).boot boot e)
  where
    same : (a b : ℕ) → life.Up a ≡ life.Up b → a ≡ b
    same a b h = cc

-- and by what maps have of it
pub maps_up : (slot : Option whole.Slot) (x : maps.Node) → maps_of_slot slot ≡ Some x → (seen : whole.Node) × (disk : List Record) × (slot ≡ Some (whole_world.slot_up seen disk)) × (seen.maps ≡ x)
maps_up None x e = absurd (let never : None ≡ Some x = e in cc)
maps_up (Some slot) x e = by slot.life refl e
  where
    by : (l : whole.Life) → slot.life ≡ l → round.maps_in l ≡ Some x → (seen : whole.Node) × (disk : List Record) × (Some slot ≡ Some (whole_world.slot_up seen disk)) × (seen.maps ≡ x)
    by (whole.Life.Up seen) here f = (seen, slot.disk, ap (λ (l : whole.Life). Some (record { life = l; disk = slot.disk })) here, some_same seen.maps x f)
    by (whole.Life.Down pending) here f = absurd (let never : None ≡ Some x = f in cc)
    by whole.Life.Lost here f = absurd (let never : None ≡ Some x = f in cc)

module _ {D : Type 0} (on : View D) (plan : Plan) (told : Bool) where
  -- a letter that was posted
  record OnePosted (number : ℕ) (result : Result Said StepFault) (v : whole_world.World) (from to : World D) : Type 0 where
    what : whole_steps.Said
    ends : IsWhole on plan to
    made : MakesStep plan told v (OfMessages (MailPost (number + 1) false)) (Says what) (whole_world_of ends.v)
    fine : (n : ℕ) → what ≢ Told (MailFaulted n)
    old_there_is : was_old result ≡ true → what ≡ ThrownOld
    old_here_is : what ≡ ThrownOld → was_old result ≡ true
    rises : v.sent ≤ ends.v.sent
    lives_stay : (m : ℕ) → life_of to m ≡ life_of from m

  one_post : (number : ℕ) (result : Result Said StepFault) (from to : World D) → IsOf on plan told from → IsStep on result (step.Post (number + 1) false) from to → has_failed result ≡ false → (h : IsWhole on plan from)
      → OnePosted number result (whole_world_of h.v) from to
  one_post number (Err reason) from to of is fine h = absurd (true≢false fine)
  one_post number (Ok what) from to of is fine h =
      let s = step_whole on plan told (Ok what) (step.Post (number + 1) false) from to of (inr tt) tt is h in
      record {
        what = whole_said what;
        ends = s.whole;
        made = s.made;
        fine = λ n. fine_of what n fine;
        old_there_is = old_there what;
        old_here_is = old_here what;
        rises = post_sent plan told (whole_world_of h.v) (whole_world_of s.whole.v) h.sound.whole (number + 1) (whole_said what) s.made (λ n. fine_of what n fine);
        lives_stay = λ m. is.did.lives m ∙ post_lives what (number + 1) false m (life_of from m) fine;
      }

  -- letters that were posted
  record Posted (number count : ℕ) (steps : List StepMade) (v : whole_world.World) (from to : World D) : Type 0 where
    saids : List whole_steps.Said
    ends : IsWhole on plan to
    each : PostsEach plan told v number saids (whole_world_of ends.v)
    count_is : length saids ≡ count
    old_there_is : list_any threw_old steps ≡ true → Among ThrownOld saids
    old_here_is : Among ThrownOld saids → list_any threw_old steps ≡ true
    rises : v.sent ≤ ends.v.sent
    lives_stay : (m : ℕ) → life_of to m ≡ life_of from m
    of : IsOf on plan told to

  either_there : (a b : Bool) (what : whole_steps.Said) (saids : List whole_steps.Said) → (a ≡ true → what ≡ ThrownOld) → (b ≡ true → Among ThrownOld saids) → (a || b) ≡ true → Among ThrownOld (what ∷ saids)
  either_there true b what saids f g e = inl (f refl)
  either_there false b what saids f g e = inr (g e)

  either_here : (a b : Bool) (what : whole_steps.Said) (saids : List whole_steps.Said) → (what ≡ ThrownOld → a ≡ true) → (Among ThrownOld saids → b ≡ true) → Among ThrownOld (what ∷ saids) → (a || b) ≡ true
  either_here true b what saids f g m = refl
  either_here false b what saids f g (inl same) = absurd (true≢false (sym (f same)))
  either_here false b what saids f g (inr m) = g m

  posts : (number count : ℕ) (steps : List StepMade) (from to : World D) → IsOf on plan told from → MakesSteps on steps from to → map (λ one. one.step) steps ≡ posts_behind number count → AllWentOn steps → (h : IsWhole on plan from)
      → Posted number count steps (whole_world_of h.v) from to
  posts number zero [] from to of made all well h = record {
    saids = [];
    ends = same_whole on plan from to made h;
    each = refl;
    count_is = refl;
    old_there_is = λ e. absurd (true≢false (sym e));
    old_here_is = λ m. absurd m;
    rises = omega arith;
    lives_stay = λ m. ap (λ (w : World D). life_of w m) made;
    of = subst (IsOf on plan told) (sym made) of;
  }
  posts number (suc count) [] from to of made all well h = absurd (let never : [] ≡ step.Post (number + 1) false ∷ posts_behind (number + 1) count = all in cc)
  posts number zero (one ∷ more) from to of made all well h = absurd (let never : one.step ∷ map (λ one. one.step) more ≡ [] = all in cc)
  posts number (suc count) (one ∷ more) from to of (mid, is, rest) all (fine, well) h =
      let step_is : one.step ≡ step.Post (number + 1) false = ap (first_step one.step) all in
      let is_post : IsStep on one.result (step.Post (number + 1) false) from mid = subst (λ (s : Step). IsStep on one.result s from mid) step_is is in
      let p = one_post number one.result from mid of is_post fine h in
      let q = posts (number + 1) count more mid to (is_of_next on plan told one.result one.step from mid of is) rest (ap rest_steps all) well p.ends in
      record {
        saids = p.what ∷ q.saids;
        ends = q.ends;
        each = (whole_world_of p.ends.v, p.made, p.fine, q.each);
        count_is = ap suc q.count_is;
        old_there_is = either_there (threw_old one) (list_any threw_old more) p.what q.saids p.old_there_is q.old_there_is;
        old_here_is = either_here (threw_old one) (list_any threw_old more) p.what q.saids p.old_here_is q.old_here_is;
        rises = omega (arith, p.rises, q.rises);
        lives_stay = λ m. q.lives_stay m ∙ p.lives_stay m;
        of = q.of;
      }

  -- letters that stand behind those of one world, up to those of another
  all_posted : (before after : World D) (old : Bool) (from to : World D) (steps : List StepMade) → IsOf on plan told from → AreAllPosted on before after old from to steps → (h : IsWhole on plan from)
      → Posted (sent_in before) (sent_in after - sent_in before) steps (whole_world_of h.v) from to
  all_posted before after old from to steps of posted h = posts (sent_in before) (sent_in after - sent_in before) steps from to of posted.made posted.all posted.well h

  -- a round
  record RoundMade (n : ℕ) (again : Bool) (v : whole_world.World) (from to : World D) : Type 0 where
    epoch : EpochId
    saids : List whole_steps.Said
    ends : IsWhole on plan to
    made : Round plan told v n epoch saids (whole_world_of ends.v)
    old_there_is : again ≡ true → Among ThrownOld saids
    old_here_is : Among ThrownOld saids → again ≡ true
    lives_stay : (m : ℕ) → life_of to m ≡ life_of from m
    of : IsOf on plan told to

  round_made : (n : ℕ) (again : Bool) (old new : World D) (steps : List StepMade) → IsOf on plan told old → IsRound on n again old new steps → (h : IsWhole on plan old) → RoundMade n again (whole_world_of h.v) old new
  round_made n again old new steps of r h =
      let (epoch, group_is) = grouped n r.group r.opened.did.kind r.opens_well in
      let is : IsStep on (Ok (said.Grouped epoch)) (step.Group n) old r.asked = subst (λ (g : Said). IsStep on (Ok g) (step.Group n) old r.asked) group_is r.opened in
      let s = step_whole on plan told (Ok (said.Grouped epoch)) (step.Group n) old r.asked of (inr tt) tt is h in
      let up = open_sent plan told (whole_world_of h.v) (whole_world_of s.whole.v) n epoch s.made in
      let a : IsWhole on plan r.asked = s.whole in
      let p = all_posted old r.asked again r.asked r.heard r.asks (is_of_next on plan told (Ok (said.Grouped epoch)) (step.Group n) old r.asked of is) r.posted a in
      let q = all_posted r.asked r.heard r.late r.heard new r.answers p.of r.answered p.ends in
      record {
        epoch = epoch;
        saids = p.saids;
        ends = q.ends;
        made = record {
          opened = (whole_world_of s.whole.v);
          asked = (whole_world_of p.ends.v);
          answers = q.saids;
          opens = s.made;
          asks = subst (λ (k : ℕ). PostsEach plan told (whole_world_of s.whole.v) k p.saids (whole_world_of p.ends.v)) h.stands.mail.sent p.each;
          all_asked = all_sent (sent_in old) (sent_in r.asked) (whole_world_of h.v).sent (whole_world_of s.whole.v).sent (length p.saids) h.stands.mail.sent s.whole.stands.mail.sent up p.count_is;
          hears = subst (λ (k : ℕ). PostsEach plan told (whole_world_of p.ends.v) k q.saids (whole_world_of q.ends.v)) s.whole.stands.mail.sent q.each;
          all_heard = all_sent (sent_in r.asked) (sent_in r.heard) (whole_world_of s.whole.v).sent (whole_world_of p.ends.v).sent (length q.saids) s.whole.stands.mail.sent p.ends.stands.mail.sent p.rises q.count_is;
        };
        old_there_is = λ e. p.old_there_is (sym r.posted.threw ∙ e);
        old_here_is = λ m. r.posted.threw ∙ p.old_here_is m;
        lives_stay = λ m. q.lives_stay m ∙ p.lives_stay m ∙ is.did.lives m;
        of = q.of;
      }

  -- the conclusion
  record ConclusionMade (n : ℕ) (epoch : EpochId) (members : ℕ) (v : whole_world.World) (from to : World D) : Type 0 where
    ends : IsWhole on plan to
    made : ConcludesAll plan told v n epoch members (whole_world_of ends.v)
    lives_stay : (m : ℕ) → life_of to m ≡ life_of from m

  conclusion_made : (n : ℕ) (epoch : EpochId) (members : ℕ) (old new : World D) (steps : List StepMade) → IsOf on plan told old → IsConclusion on n epoch members old new steps → (h : IsWhole on plan old)
      → ConclusionMade n epoch members (whole_world_of h.v) old new
  conclusion_made n epoch members old new steps of c h =
      let s = step_whole on plan told (Ok (said.Concluded epoch members)) (step.Conclude n) old c.concluded of (inr tt) tt c.concludes h in
      let up = conclude_sent plan told (whole_world_of h.v) (whole_world_of s.whole.v) n (WholeConcluded epoch members) s.made in
      let a : IsWhole on plan c.concluded = s.whole in
      let p = all_posted old c.concluded c.late c.concluded new c.installs (is_of_next on plan told (Ok (said.Concluded epoch members)) (step.Conclude n) old c.concluded of c.concludes) c.posted a in
      record {
        ends = p.ends;
        made = record {
          formed = (whole_world_of s.whole.v);
          concludes = s.made;
          installs = p.saids;
          posts = subst (λ (k : ℕ). PostsEach plan told (whole_world_of s.whole.v) k p.saids (whole_world_of p.ends.v)) h.stands.mail.sent p.each;
          all_posted = all_sent (sent_in old) (sent_in c.concluded) (whole_world_of h.v).sent (whole_world_of s.whole.v).sent (length p.saids) h.stands.mail.sent s.whole.stands.mail.sent up p.count_is;
        };
        lives_stay = λ m. p.lives_stay m ∙ c.concludes.did.lives m;
      }

  -- the whole regroup
  record RegroupMade (n : ℕ) (epoch : EpochId) (members : ℕ) (v : whole_world.World) (from to : World D) : Type 0 where
    ends : IsWhole on plan to
    made : Regroups plan told v n epoch members (whole_world_of ends.v)
    lives_stay : (m : ℕ) → life_of to m ≡ life_of from m

  regroup_made : (n : ℕ) (epoch : EpochId) (members : ℕ) (old new : World D) (steps : List StepMade) → IsOf on plan told old → IsInOrder on n epoch members old new steps → (h : IsWhole on plan old)
      → RegroupMade n epoch members (whole_world_of h.v) old new
  regroup_made n epoch members old new steps of is h = by is.again refl is.second
    where
      r : RoundMade n is.again (whole_world_of h.v) old is.asked
      r = round_made n is.again old is.asked is.one of is.first h

      by : (b : Bool) → is.again ≡ b → IsSecondRound on n b is.asked is.asked_again is.two → RegroupMade n epoch members (whole_world_of h.v) old new
      by false e (none, same) =
          let at : IsWhole on plan is.asked_again = same_whole on plan is.asked is.asked_again same r.ends in
          let c = conclusion_made n epoch members is.asked_again new is.last (subst (IsOf on plan told) (sym same) r.of) is.ends at in
          record {
            ends = c.ends;
            made = AtOnce r.epoch r.saids (whole_world_of r.ends.v) r.made (λ m. true≢false (sym (r.old_here_is m) ∙ e)) c.made;
            lives_stay = λ m. c.lives_stay m ∙ ap (λ (w : World D). life_of w m) same ∙ r.lives_stay m;
          }
      by true e (more, second) =
          let o = round_made n more is.asked is.asked_again is.two r.of second r.ends in
          let c = conclusion_made n epoch members is.asked_again new is.last o.of is.ends o.ends in
          record {
            ends = c.ends;
            made = Again r.epoch r.saids (whole_world_of r.ends.v) r.made (r.old_there_is e) o.epoch o.saids (whole_world_of o.ends.v) o.made c.made;
            lives_stay = λ m. c.lives_stay m ∙ o.lives_stay m ∙ r.lives_stay m;
          }

-- there is room for the letters of each round
room_for : (nodes : ℕ) (flights : List Flight) → 1 ≤ nodes → has_room_for_rounds nodes flights ≡ true → HasRoomFor (suc nodes) flights
room_for nodes flights some roomy =
    let both = and_parts (nat_le (length flights + 6 * nodes) most_letters) (nat_le (octets_flying flights + 64 * (6 * nodes)) most_octets) roomy in
    record { letters = within (length flights) 6 1 nodes most_letters both.0; octets = octets_in (octets_flying flights) both.1 }
  where
    within : (a b c k most : ℕ) → nat_le (a + 6 * nodes) most ≡ true → a + suc nodes ≤ most
    within a b c k most e = let le : a + 6 * nodes ≤ most = grind (arith, e) in omega (arith, le, some)

    octets_in : (a : ℕ) → nat_le (a + 64 * (6 * nodes)) most_octets ≡ true → a + 64 * suc nodes ≤ most_octets
    octets_in a e = let le : a + 64 * (6 * nodes) ≤ most_octets = grind (arith, e) in omega (arith, le, some)

-- an opening that is not refused needs no number that is used up
not_first : (a b c d : Option whole_steps.StepFault) → first_refusal (a ∷ b ∷ c ∷ d ∷ []) ≡ None → (c ≡ None) × (d ≡ None)
not_first None None None None e = (refl, refl)
not_first None None None (Some f) e = absurd (let never : Some f ≡ None = e in cc)
not_first None None (Some f) d e = absurd (let never : Some f ≡ None = e in cc)
not_first None (Some f) c d e = absurd (let never : Some f ≡ None = e in cc)
not_first (Some f) b c d e = absurd (let never : Some f ≡ None = e in cc)

letters_left : (worn : Bool) → option_map whole_steps.StepFault.Fault (if worn then Some mail_steps.StepFault.Worn else None) ≡ None → worn ≡ false
letters_left false e = refl
letters_left true e = absurd (let never : Some (whole_steps.StepFault.Fault mail_steps.StepFault.Worn) ≡ None = e in cc)

count_left : (worn : Bool) (rest : Option whole_steps.StepFault) → (if worn then Some (whole_steps.StepFault.Fault mail_steps.StepFault.Worn) else rest) ≡ None → worn ≡ false
count_left false rest e = refl
count_left true rest e = absurd (let never : Some (whole_steps.StepFault.Fault mail_steps.StepFault.Worn) ≡ None = e in cc)

neither : (a b : Bool) → a ≡ false → b ≡ false → (a || b) ≡ false
neither false b e f = f
neither true b e f = absurd (true≢false e)

-- a plan with a node has one
some_node : (plan : Plan) (n : ℕ) (all : ℕ → NodeLife) → None ≡ node_refusal plan all (step.Group n) → 1 ≤ plan.nodes
some_node plan n all e = by (is_node plan n) refl e
  where
    by : (b : Bool) → is_node plan n ≡ b → None ≡ (if b && true then actor_refusal (step.Group n) all (Some n) else Some fault.NoSuchNode) → 1 ≤ plan.nodes
    by true p f = let both = and_parts (nat_lt 0 n) (nat_le n plan.nodes) p in grind (arith, both)
    by false p f = absurd (let never : None ≡ Some fault.NoSuchNode = f in cc)

module _ {D : Type 0} (on : View D) where
  -- what maps have of a node that is up
  there_up : (world : World D) (v : whole_world.World) (n : ℕ) (node : WholeNode) → StandsForWhole on (state_of world) v → of_node (lives_of world) n ≡ Some (lives.Up node) → maps_at v n ≡ Some (node_of node.maps)
  there_up world v n node st e =
      let u = whole_up on (state_of world) v n node (world.nodes.disk_each ∙ sym world.nodes.all) st e in
      ap maps_of_slot u.up ∙ ap Some u.maps

  here_up : (world : World D) (v : whole_world.World) (n : ℕ) (x : maps.Node) → StandsForWhole on (state_of world) v → maps_at v n ≡ Some x → (node : WholeNode) × (of_node (lives_of world) n ≡ Some (lives.Up node)) × (x ≡ node_of node.maps)
  here_up world v n x st e =
      let (seen, disk, here, same) = maps_up (whole.slot_at v.slots n) x e in
      let (node, is) = node_up on (state_of world) (world.nodes.disk_each ∙ sym world.nodes.all) (mail_world_of v) st.mail n (mail_slot (whole_world.slot_up seen disk)) seen.mail
      (mail_here v.slots n (whole_world.slot_up seen disk) here) refl in
      (node, is, sym same ∙ st.maps.each n node (whole_world.slot_up seen disk) seen is here refl)

  -- its boot is one for both
  one_boot : (world : World D) (n : ℕ) (node : WholeNode) → CanMakeSteps on.seen world → of_node (lives_of world) n ≡ Some (lives.Up node) → (node_of node.maps).boot ≡ (node_seen node.mail).boot
  one_boot world zero node ready e = absurd (let never : None ≡ Some (lives.Up node) = e in cc)
  one_boot world (suc k) node ready e =
      let (disk, here) = both_at (disks_of world) (lives_of world) k (lives.Up node) (world.nodes.all ∙ sym world.nodes.disk_each) e in
      (ready.each k node disk e here).1.maps.boot

  -- An epoch was formed.
  module _ (epoch : EpochId) (members : ℕ) (old new : World D) (ready : CanMakeSteps on.seen old) (ready' : CanMakeSteps on.seen new) (v v' : whole_world.World) (st : StandsForWhole on (state_of old) v)
      (st' : StandsForWhole on (state_of new) v') (stay : (m : ℕ) → life_of new m ≡ life_of old m) (f : round.HasFormed epoch members v v') where
    all_are_up : (n boot : ℕ) → life_of old n ≡ life.Up boot
        → (node : WholeNode) × (of_node (lives_of new) n ≡ Some (lives.Up node)) × (life_of new n ≡ life.Up boot) × ((node_of node.maps).installed ≡ Some f.membership) × maps.NamesNode f.membership n boot
    all_are_up n boot e =
        let (a, was, boot_was) = up_of (of_node (lives_of old) n) boot e in
        let (now, there, installed, names) = f.all_up n (node_of a.maps) (there_up old v n a st was) in
        let life_is = stay n ∙ e in
        let (b, is, boot_is) = up_of (of_node (lives_of new) n) boot life_is in
        let same : now ≡ node_of b.maps = some_same now (node_of b.maps) (sym there ∙ there_up new v' n b st' is) in
        let boots : now.boot ≡ boot = ap (λ (x : maps.Node). x.boot) same ∙ one_boot new n b ready' is ∙ boot_is in
        (b, is, life_is, sym (ap (λ (x : maps.Node). x.installed) same) ∙ installed, subst (maps.NamesNode f.membership n) boots names)

    only_up : (n boot : ℕ) → maps.NamesNode f.membership n boot → life_of old n ≡ life.Up boot
    only_up n boot names =
        let (x, there, boot_is) = f.only_up n boot names in
        let (node, is, same) = here_up old v n x st there in
        ap seen_life is ∙ ap life.Up (sym (one_boot old n node ready is) ∙ sym (ap (λ (m : maps.Node). m.boot) same) ∙ boot_is)

    formed_here : HasFormed epoch members (state_of old) (state_of new)
    formed_here = record {
      membership = f.membership;
      epoch_is = f.epoch_is;
      members_are = f.members_are;
      all_up = all_are_up;
      only_up = only_up;
    }

  -- where a group was opened no number was used up
  still_fresh : (world : World D) (v : whole_world.World) (n : ℕ) → StandsForWhole on (state_of world) v → step_fault (plan_of world) (OpenGroup n) v ≡ None → group_is_worn n (state_of world) ≡ false
  still_fresh world v n st fits = neither (nat_le mail_steps.letters_end (state_of world).flying.sent) (used_up_in (of_node (lives_of world) n))
      (ap (nat_le mail_steps.letters_end) st.mail.sent ∙ letters_left (nat_le mail_steps.letters_end v.sent) both.0) (by (of_node (lives_of world) n) refl)
    where
      both : (option_map whole_steps.StepFault.Fault (letters_worn v) ≡ None) × (by_slot (open_fault (plan_of world) v) (whole.slot_at v.slots n) ≡ None)
      both = not_first (node_fault (plan_of world) (n ∷ [])) (option_map whole_steps.StepFault.Fault (actor_fault n v)) (option_map whole_steps.StepFault.Fault (letters_worn v)) (by_slot (open_fault (plan_of world) v) (whole.slot_at v.slots n)) fits

      by : (o : Option Life) → of_node (lives_of world) n ≡ o → used_up_in o ≡ false
      by None is = refl
      by (Some lives.Down) is = refl
      by (Some lives.Lost) is = refl
      by (Some (lives.Up node)) is =
          let u = whole_up on (state_of world) v n node (world.nodes.disk_each ∙ sym world.nodes.all) st is in
          ap (λ (x : maps.Node). nat_le greatest_epoch x.heard) (sym u.maps)
          ∙ count_left (nat_le greatest_epoch u.seen.maps.heard) _ (ap (by_slot (open_fault (plan_of world) v)) (sym u.up) ∙ both.1)

  -- so a regroup does that is made in order, where there was room
  pub forms_the_up : (n : ℕ) (epoch : EpochId) (members : ℕ) (old new : World D) (steps : List StepMade) → IsInOrder on n epoch members old new steps → AreInOrder (state_of old).flying → CanMakeSteps on.seen old → CanMakeSteps on.seen new
      → (node_refusal (plan_of old) (life_of old) (step.Group n) ≡ None → group_is_worn n (state_of old) ≡ false → has_room_for_rounds (plan_of old).nodes (state_of old).flying.flights ≡ true) → IsWhole on (plan_of old) old
      → HasFormed epoch members (state_of old) (state_of new)
  forms_the_up n epoch members old new steps is order ready ready' roomy h =
      let fit = is.first.opened.did.refused in
      let some = some_node (plan_of old) n (life_of old) fit in
      let told = disks_tell on.seen old in
      let first = round_made on (plan_of old) told n is.again old is.asked is.one (record { plan_is = refl; told_is = refl }) is.first h in
      let fresh = still_fresh old (whole_world_of h.v) n (as_whole on (plan_of old) old h) first.made.opens.0 in
      let made = regroup_made on (plan_of old) told n epoch members old new steps (record { plan_is = refl; told_is = refl }) is h in
      let room = subst (HasRoomFor (suc (plan_of old).nodes)) h.stands.mail.flying (room_for (plan_of old).nodes (state_of old).flying.flights some (roomy (sym fit) fresh)) in
      let f = regroups_form (plan_of old) told (whole_world_of h.v) (whole_world_of made.ends.v) n epoch members h.sound.whole (are_numbered (state_of old).flying (whole_world_of h.v) order h.stands.mail.flying h.stands.mail.sent) room made.made in
      formed_here epoch members old new ready ready' (whole_world_of h.v) (whole_world_of made.ends.v) (as_whole on (plan_of old) old h) (as_whole on (plan_of old) new made.ends) made.lives_stay f

-- A regroup that forms an epoch, as the whole machine makes it: so the nodes then show that epoch.
use Rattle.std.proofs.Common.{◌≡◌, ◌≢◌, ◌⊎◌, inl, inr, ℕ, zero, suc, ◌+◌, ◌-◌, ◌*◌, ◌≤◌, Bool, true, false, ◌&&◌, ◌||◌, nat_le, nat_lt, List, [], ◌∷◌, map, length, reverse, Option, Some, None, refl, sym, ap, ◌∙◌, subst, arith, true≢false, if◌then◌else◌}
use Rattle.std.specs.Prelude.{⊤, Result, Ok, Err}
use Rattle.std.specs.List.{list_any}
use Rattle.std.specs.Option.{option_map}
use Rattle.std.proofs.lemmas.Bool.{and_parts}
use Rattle.mail_model.specs.Identity.{EpochId}
use Rattle.mail_model.specs.Plan.{Plan}
use Rattle.object_model.specs.Lists.{Among}
use Rattle.session_model.specs.Events.{NodeLife}
use Rattle.cluster_model.specs.Room.{Flight, octets_flying, most_letters, most_octets}
use Rattle.cluster_model.specs.Steps as mail_steps
use Rattle.cluster_model.specs.Steps.{is_node}
use Rattle.cluster_model.specs.Steps.Step.{Post as MailPost}
use Rattle.cluster_model.specs.Steps.Said.{Faulted as MailFaulted}
use Rattle.maps_model.specs.Cluster as maps
use Rattle.maps_model.specs.Rules as maps_rules
use Rattle.whole_model.specs.Whole as whole
use Rattle.whole_model.specs.Whole.{maps_disk_of}
use Rattle.whole_world.specs.Makes.{MakesStep}
use Rattle.whole_world.specs.Makes.DoesStep.{ForMessages, PostsMaps, Starts, OpensGroup, ConcludesGroup, SendsReports}
use Rattle.whole_world.specs.Makes.Groups.{Opens, FailsOpening}
use Rattle.whole_world.specs.Regroup.{PostsEach, Round, ThrownOld, ConcludesAll, Regroups, AreNumbered, HasRoomFor}
use Rattle.whole_world.specs.Regroup.Regroups.{AtOnce, Again}
use Rattle.whole_world.specs.Steps as whole_steps
use Rattle.whole_world.specs.Steps.{first_refusal, node_fault, actor_fault, letters_worn, by_slot, open_fault, step_fault, greatest_epoch}
use Rattle.whole_world.specs.Steps.Step.{OfMessages, OpenGroup, ConcludeGroup}
use Rattle.whole_world.specs.Steps.Said.{Told, Grouped as WholeGrouped, Concluded as WholeConcluded}
use Rattle.whole_world.specs.Steps.StepOutcome.{Says}
use Rattle.whole_world.specs.World as whole_world
use Rattle.whole_world.proofs.Sending.{whole_sent, post_sent}
use Rattle.node_core.specs.declared.outbox.Why.TheVariants as why
use Rattle.node_store.specs.Disks.{View}
use Rattle.joint_world.specs.World as joint
use Rattle.joint_world.specs.World.{whole_world_of}
use Rattle.joint_world.proofs.SameStep.{makes_same}
use Rattle.shown_members.specs.Shown.{IsTold}
use Rattle.shown_members.proofs.Regrouped.{regroup_shows}
use Rattle.cluster_world.specs.Lives.{of_node}
use Rattle.cluster_world.specs.Made.{StepMade, MakesSteps, has_failed}
use Rattle.cluster_world.specs.Regroups.{AllWentOn, posts_behind, sent_in, is_old, was_old, threw_old, AreAllPosted, IsRound, IsSecondRound, IsConclusion, IsInOrder, used_up_in, group_is_worn, has_room_for_rounds}
use Rattle.cluster_world.specs.Seen.{whole_step, whole_said, whole_outcome}
use Rattle.cluster_world.specs.Steps.{IsBlind, IsStep, SaysSo}
use Rattle.cluster_world.specs.Ended.{IsEnded}
use Rattle.cluster_world.specs.Turns.{node_refusal, actor_refusal}
use Rattle.cluster_world.specs.Worlds.{state_of, plan_of, lives_of, life_of}
use Rattle.cluster_world.specs.declared.fault.StepFault.{StepFault}
use Rattle.cluster_world.specs.declared.fault.StepFault.TheVariants as fault
use Rattle.cluster_world.specs.declared.life.Life.{Life}
use Rattle.cluster_world.specs.declared.life.Life.TheVariants as lives
use Rattle.cluster_world.specs.declared.step.Said.{Said}
use Rattle.cluster_world.specs.declared.step.Said.TheVariants as said
use Rattle.cluster_world.specs.declared.step.Step.{Step}
use Rattle.cluster_world.specs.declared.step.Step.TheVariants as step
use Rattle.cluster_world.specs.declared.world.World.{World}
use Rattle.cluster_world.proofs.Formed.{fine_of}
use Rattle.cluster_world.proofs.Wholes.{as_whole, whole_up}
use Rattle.settled_worlds.proofs.Carrying.{Has, Keeps, sound_at, step_has}

-- a letter is thrown as old in the one where it is in the other
old_there : (what : Said) → is_old what ≡ true → whole_said what ≡ ThrownOld
old_there (said.Thrown why.Old) e = refl
old_there (said.Thrown why.Down) e = absurd (true≢false (sym e))
old_there (said.Thrown why.Stale) e = absurd (true≢false (sym e))
old_there (said.Thrown why.NotPromised) e = absurd (true≢false (sym e))
old_there (said.Thrown why.NotMember) e = absurd (true≢false (sym e))
old_there (said.Thrown why.Late) e = absurd (true≢false (sym e))
old_there (said.Faulted node) e = absurd (true≢false (sym e))
old_there (said.Begun ticket stirs) e = absurd (true≢false (sym e))
old_there said.Noted e = absurd (true≢false (sym e))
old_there (said.Asked ask) e = absurd (true≢false (sym e))
old_there said.Heard e = absurd (true≢false (sym e))
old_there (said.Sent letters) e = absurd (true≢false (sym e))
old_there (said.Widened did) e = absurd (true≢false (sym e))
old_there (said.Grouped epoch) e = absurd (true≢false (sym e))
old_there (said.Concluded epoch members) e = absurd (true≢false (sym e))
old_there (said.NodeUp boot) e = absurd (true≢false (sym e))
old_there said.Done e = absurd (true≢false (sym e))

old_here : (what : Said) → whole_said what ≡ ThrownOld → is_old what ≡ true
old_here (said.Thrown why.Old) e = refl
old_here (said.Thrown why.Down) e = absurd (cc e)
old_here (said.Thrown why.Stale) e = absurd (cc e)
old_here (said.Thrown why.NotPromised) e = absurd (cc e)
old_here (said.Thrown why.NotMember) e = absurd (cc e)
old_here (said.Thrown why.Late) e = absurd (cc e)
old_here (said.Faulted node) e = absurd (cc e)
old_here (said.Begun ticket stirs) e = absurd (cc e)
old_here said.Noted e = absurd (cc e)
old_here (said.Asked ask) e = absurd (cc e)
old_here said.Heard e = absurd (cc e)
old_here (said.Sent letters) e = absurd (cc e)
old_here (said.Widened did) e = absurd (cc e)
old_here (said.Grouped epoch) e = absurd (cc e)
old_here (said.Concluded epoch members) e = absurd (cc e)
old_here (said.NodeUp boot) e = absurd (cc e)
old_here said.Done e = absurd (cc e)

-- a group that is opened says its epoch
grouped : (n : ℕ) (what : Said) → SaysSo (step.Group n) what → has_failed (Ok what) ≡ false → (epoch : EpochId) × (what ≡ said.Grouped epoch)
grouped n (said.Grouped epoch) says fine = (epoch, refl)
grouped n (said.Faulted node) says fine = absurd (true≢false fine)
grouped n (said.Begun ticket stirs) says fine = absurd says
grouped n said.Noted says fine = absurd says
grouped n (said.Asked ask) says fine = absurd says
grouped n said.Heard says fine = absurd says
grouped n (said.Thrown reason) says fine = absurd says
grouped n (said.Sent letters) says fine = absurd says
grouped n (said.Widened did) says fine = absurd says
grouped n (said.Concluded epoch members) says fine = absurd says
grouped n (said.NodeUp boot) says fine = absurd says
grouped n said.Done says fine = absurd says

-- numbers of letters only rise as a group is opened, and as it is concluded
open_sent : (plan : Plan) (tells : Bool) (old new : whole_world.World) (n : ℕ) (epoch : EpochId) → MakesStep plan tells old (OpenGroup n) (Says (WholeGrouped epoch)) new → old.sent ≤ new.sent
open_sent plan tells old new n epoch (fits, ForMessages one step answer says for_mail does follow) = absurd (cc step)
open_sent plan tells old new n epoch (fits, PostsMaps number keep step h) = absurd (cc step)
open_sent plan tells old new n epoch (fits, Starts m step h) = absurd (cc step)
open_sent plan tells old new n epoch (fits, ConcludesGroup m step h) = absurd (cc step)
open_sent plan tells old new n epoch (fits, SendsReports from to step h) = absurd (cc step)
open_sent plan tells old new n epoch (fits, OpensGroup m step (FailsOpening node disk up says down)) = absurd (cc says)
open_sent plan tells old new n epoch (fits, OpensGroup m step (Opens node disk up says is)) = subst (λ k. old.sent ≤ k) (sym (ap (λ (v : whole_world.World). v.sent) is))
    (whole_sent (reverse (maps_rules.start_group m plan.nodes node.maps (maps_disk_of disk)).out) _)

conclude_sent : (plan : Plan) (tells : Bool) (old new : whole_world.World) (n : ℕ) (what : whole_steps.Said) → MakesStep plan tells old (ConcludeGroup n) (Says what) new → old.sent ≤ new.sent
conclude_sent plan tells old new n what (fits, ForMessages one step answer says for_mail does follow) = absurd (cc step)
conclude_sent plan tells old new n what (fits, PostsMaps number keep step h) = absurd (cc step)
conclude_sent plan tells old new n what (fits, Starts m step h) = absurd (cc step)
conclude_sent plan tells old new n what (fits, OpensGroup m step h) = absurd (cc step)
conclude_sent plan tells old new n what (fits, SendsReports from to step h) = absurd (cc step)
conclude_sent plan tells old new n what (fits, ConcludesGroup m step f) = subst (λ k. old.sent ≤ k) (sym (ap (λ (v : whole_world.World). v.sent) f.new_world)) (whole_sent f.did.out _)

-- the sums of numbers
all_sent : (a b c d k : ℕ) → a ≡ c → b ≡ d → c ≤ d → k ≡ b - a → d ≡ c + k
all_sent a b c d k e f h count = omega (arith, e, f, h, count)

abbrev first_step : Step → List Step → Step
first_step s [] = s
first_step s (x ∷ xs) = x

abbrev rest_steps : List Step → List Step
rest_steps [] = []
rest_steps (x ∷ xs) = xs

-- there is room for the letters of each round
room_for : (nodes : ℕ) (flights : List Flight) → 1 ≤ nodes → has_room_for_rounds nodes flights ≡ true → HasRoomFor (suc nodes) flights
room_for nodes flights some roomy =
    let both = and_parts (nat_le (length flights + 6 * nodes) most_letters) (nat_le (octets_flying flights + 64 * (6 * nodes)) most_octets) roomy in
    record { letters = within (length flights) 6 1 nodes most_letters both.0; octets = octets_in (octets_flying flights) both.1 }
  where
    within : (a b c k most : ℕ) → nat_le (a + 6 * nodes) most ≡ true → a + suc nodes ≤ most
    within a b c k most e = let le : a + 6 * nodes ≤ most = grind (arith, e) in omega (arith, le, some)

    octets_in : (a : ℕ) → nat_le (a + 64 * (6 * nodes)) most_octets ≡ true → a + 64 * suc nodes ≤ most_octets
    octets_in a e = let le : a + 64 * (6 * nodes) ≤ most_octets = grind (arith, e) in omega (arith, le, some)

-- an opening that is not refused needs no number that is used up
not_first : (a b c d : Option whole_steps.StepFault) → first_refusal (a ∷ b ∷ c ∷ d ∷ []) ≡ None → (c ≡ None) × (d ≡ None)
not_first None None None None e = (refl, refl)
not_first None None None (Some f) e = absurd (let never : Some f ≡ None = e in cc)
not_first None None (Some f) d e = absurd (let never : Some f ≡ None = e in cc)
not_first None (Some f) c d e = absurd (let never : Some f ≡ None = e in cc)
not_first (Some f) b c d e = absurd (let never : Some f ≡ None = e in cc)

letters_left : (worn : Bool) → option_map whole_steps.StepFault.Fault (if worn then Some mail_steps.StepFault.Worn else None) ≡ None → worn ≡ false
letters_left false e = refl
letters_left true e = absurd (let never : Some (whole_steps.StepFault.Fault mail_steps.StepFault.Worn) ≡ None = e in cc)

count_left : (worn : Bool) (rest : Option whole_steps.StepFault) → (if worn then Some (whole_steps.StepFault.Fault mail_steps.StepFault.Worn) else rest) ≡ None → worn ≡ false
count_left false rest e = refl
count_left true rest e = absurd (let never : Some (whole_steps.StepFault.Fault mail_steps.StepFault.Worn) ≡ None = e in cc)

neither : (a b : Bool) → a ≡ false → b ≡ false → (a || b) ≡ false
neither false b e f = f
neither true b e f = absurd (true≢false e)

-- a plan with a node has one
some_node : (plan : Plan) (n : ℕ) (all : ℕ → NodeLife) → None ≡ node_refusal plan all (step.Group n) → 1 ≤ plan.nodes
some_node plan n all e = by (is_node plan n) refl e
  where
    by : (b : Bool) → is_node plan n ≡ b → None ≡ (if b && true then actor_refusal (step.Group n) all (Some n) else Some fault.NoSuchNode) → 1 ≤ plan.nodes
    by true p f = let both = and_parts (nat_lt 0 n) (nat_le n plan.nodes) p in grind (arith, both)
    by false p f = absurd (let never : None ≡ Some fault.NoSuchNode = f in cc)

module _ {D : Type 0} (on : View D) (plan : Plan) (told : Bool) (Q : joint.World → Type 0) (keeps : Keeps on plan told (λ s. ⊤) Q) where
  abbrev Stood : World D → Type 0
  Stood world = Has on plan told Q world

  abbrev seen_of : (world : World D) → Stood world → whole_world.World
  seen_of world h = whole_world_of h.whole.v

  -- what one step leads to, as the whole machine has it
  record StepWhole (result : Result Said StepFault) (made_step : Step) (new : World D) (v : whole_world.World) : Type 0 where
    next : Stood new
    made : MakesStep plan told v (whole_step made_step) (whole_outcome result) (seen_of new next)

  step_whole : (result : Result Said StepFault) (one : Step) (old new : World D) → (told ≡ true) ⊎ IsBlind plan.nodes one → IsEnded one → IsStep on result one old new → (h : Stood old)
      → StepWhole result one new (seen_of old h)
  step_whole result one old new known ended is h =
      let s = step_has on plan told Q (λ s. ⊤) keeps result one old new tt known ended is h in
      record { next = s.next; made = makes_same plan told h.whole.story h.whole.v (sound_at on plan told Q old h) (whole_step one) (whole_outcome result) s.next.whole.v s.makes }

  sent_is : (world : World D) (h : Stood world) → sent_in world ≡ (seen_of world h).sent
  sent_is world h = h.whole.stands.mail.sent

  -- a letter that was posted
  record OnePosted (number : ℕ) (result : Result Said StepFault) (v : whole_world.World) (to : World D) : Type 0 where
    what : whole_steps.Said
    ends : Stood to
    made : MakesStep plan told v (OfMessages (MailPost (number + 1) false)) (Says what) (seen_of to ends)
    fine : (n : ℕ) → what ≢ Told (MailFaulted n)
    old_there_is : was_old result ≡ true → what ≡ ThrownOld
    old_here_is : what ≡ ThrownOld → was_old result ≡ true
    rises : v.sent ≤ (seen_of to ends).sent

  one_post : (number : ℕ) (result : Result Said StepFault) (from to : World D) → IsStep on result (step.Post (number + 1) false) from to → has_failed result ≡ false → (h : Stood from)
      → OnePosted number result (seen_of from h) to
  one_post number (Err reason) from to is fine h = absurd (true≢false fine)
  one_post number (Ok what) from to is fine h =
      let s = step_whole (Ok what) (step.Post (number + 1) false) from to (inr tt) tt is h in
      record {
        what = whole_said what;
        ends = s.next;
        made = s.made;
        fine = λ n. fine_of what n fine;
        old_there_is = old_there what;
        old_here_is = old_here what;
        rises = post_sent plan told (seen_of from h) (seen_of to s.next) (sound_at on plan told Q from h).whole (number + 1) (whole_said what) s.made (λ n. fine_of what n fine);
      }

  -- letters that were posted
  record Posted (number count : ℕ) (steps : List StepMade) (v : whole_world.World) (to : World D) : Type 0 where
    saids : List whole_steps.Said
    ends : Stood to
    each : PostsEach plan told v number saids (seen_of to ends)
    count_is : length saids ≡ count
    old_there_is : list_any threw_old steps ≡ true → Among ThrownOld saids
    old_here_is : Among ThrownOld saids → list_any threw_old steps ≡ true
    rises : v.sent ≤ (seen_of to ends).sent

  either_there : (a b : Bool) (what : whole_steps.Said) (saids : List whole_steps.Said) → (a ≡ true → what ≡ ThrownOld) → (b ≡ true → Among ThrownOld saids) → (a || b) ≡ true → Among ThrownOld (what ∷ saids)
  either_there true b what saids f g e = inl (f refl)
  either_there false b what saids f g e = inr (g e)

  either_here : (a b : Bool) (what : whole_steps.Said) (saids : List whole_steps.Said) → (what ≡ ThrownOld → a ≡ true) → (Among ThrownOld saids → b ≡ true) → Among ThrownOld (what ∷ saids) → (a || b) ≡ true
  either_here true b what saids f g m = refl
  either_here false b what saids f g (inl same) = absurd (true≢false (sym (f same)))
  either_here false b what saids f g (inr m) = g m

  none_posted : (number : ℕ) (from to : World D) → to ≡ from → (h : Stood from) → Posted number zero [] (seen_of from h) to
  none_posted number from to made h = subst (λ (w : World D). Posted number zero [] (seen_of from h) w) (sym made) (record {
    saids = [];
    ends = h;
    each = refl;
    count_is = refl;
    old_there_is = λ e. absurd (true≢false (sym e));
    old_here_is = λ m. absurd m;
    rises = omega arith;
  })

  posts : (number count : ℕ) (steps : List StepMade) (from to : World D) → MakesSteps on steps from to → map (λ one. one.step) steps ≡ posts_behind number count → AllWentOn steps → (h : Stood from)
      → Posted number count steps (seen_of from h) to
  posts number zero [] from to made all well h = none_posted number from to made h
  posts number (suc count) [] from to made all well h = absurd (let never : [] ≡ step.Post (number + 1) false ∷ posts_behind (number + 1) count = all in cc)
  posts number zero (one ∷ more) from to made all well h = absurd (let never : one.step ∷ map (λ one. one.step) more ≡ [] = all in cc)
  posts number (suc count) (one ∷ more) from to (mid, is, rest) all (fine, well) h =
      let step_is : one.step ≡ step.Post (number + 1) false = ap (first_step one.step) all in
      let p = one_post number one.result from mid (subst (λ (s : Step). IsStep on one.result s from mid) step_is is) fine h in
      let q = posts (number + 1) count more mid to rest (ap rest_steps all) well p.ends in
      record {
        saids = p.what ∷ q.saids;
        ends = q.ends;
        each = (seen_of mid p.ends, p.made, p.fine, q.each);
        count_is = ap suc q.count_is;
        old_there_is = either_there (threw_old one) (list_any threw_old more) p.what q.saids p.old_there_is q.old_there_is;
        old_here_is = either_here (threw_old one) (list_any threw_old more) p.what q.saids p.old_here_is q.old_here_is;
        rises = omega (arith, p.rises, q.rises);
      }

  -- letters that stand behind those of one world, up to those of another
  all_posted : (before after : World D) (old : Bool) (from to : World D) (steps : List StepMade) → AreAllPosted on before after old from to steps → (h : Stood from)
      → Posted (sent_in before) (sent_in after - sent_in before) steps (seen_of from h) to
  all_posted before after old from to steps posted h = posts (sent_in before) (sent_in after - sent_in before) steps from to posted.made posted.all posted.well h

  -- a round
  record RoundMade (n : ℕ) (again : Bool) (v : whole_world.World) (to : World D) : Type 0 where
    epoch : EpochId
    saids : List whole_steps.Said
    ends : Stood to
    made : Round plan told v n epoch saids (seen_of to ends)
    old_there_is : again ≡ true → Among ThrownOld saids
    old_here_is : Among ThrownOld saids → again ≡ true
    opens : step_fault plan (OpenGroup n) v ≡ None

  round_made : (n : ℕ) (again : Bool) (old new : World D) (steps : List StepMade) → IsRound on n again old new steps → (h : Stood old) → RoundMade n again (seen_of old h) new
  round_made n again old new steps r h =
      let (epoch, group_is) = grouped n r.group r.opened.did.kind r.opens_well in
      let s = step_whole (Ok (said.Grouped epoch)) (step.Group n) old r.asked (inr tt) tt (subst (λ (g : Said). IsStep on (Ok g) (step.Group n) old r.asked) group_is r.opened) h in
      let up = open_sent plan told (seen_of old h) (seen_of r.asked s.next) n epoch s.made in
      let p = all_posted old r.asked again r.asked r.heard r.asks r.posted s.next in
      let q = all_posted r.asked r.heard r.late r.heard new r.answers r.answered p.ends in
      record {
        epoch = epoch;
        saids = p.saids;
        ends = q.ends;
        made = record {
          opened = seen_of r.asked s.next;
          asked = seen_of r.heard p.ends;
          answers = q.saids;
          opens = s.made;
          asks = subst (λ (k : ℕ). PostsEach plan told (seen_of r.asked s.next) k p.saids (seen_of r.heard p.ends)) (sent_is old h) p.each;
          all_asked = all_sent (sent_in old) (sent_in r.asked) (seen_of old h).sent (seen_of r.asked s.next).sent (length p.saids) (sent_is old h) (sent_is r.asked s.next) up p.count_is;
          hears = subst (λ (k : ℕ). PostsEach plan told (seen_of r.heard p.ends) k q.saids (seen_of new q.ends)) (sent_is r.asked s.next) q.each;
          all_heard = all_sent (sent_in r.asked) (sent_in r.heard) (seen_of r.asked s.next).sent (seen_of r.heard p.ends).sent (length q.saids) (sent_is r.asked s.next) (sent_is r.heard p.ends) p.rises q.count_is;
        };
        old_there_is = λ e. p.old_there_is (sym r.posted.threw ∙ e);
        old_here_is = λ m. r.posted.threw ∙ p.old_here_is m;
        opens = s.made.0;
      }

  -- the conclusion
  record ConclusionMade (n : ℕ) (epoch : EpochId) (members : ℕ) (v : whole_world.World) (to : World D) : Type 0 where
    ends : Stood to
    made : ConcludesAll plan told v n epoch members (seen_of to ends)

  conclusion_made : (n : ℕ) (epoch : EpochId) (members : ℕ) (old new : World D) (steps : List StepMade) → IsConclusion on n epoch members old new steps → (h : Stood old)
      → ConclusionMade n epoch members (seen_of old h) new
  conclusion_made n epoch members old new steps c h =
      let s = step_whole (Ok (said.Concluded epoch members)) (step.Conclude n) old c.concluded (inr tt) tt c.concludes h in
      let up = conclude_sent plan told (seen_of old h) (seen_of c.concluded s.next) n (WholeConcluded epoch members) s.made in
      let p = all_posted old c.concluded c.late c.concluded new c.installs c.posted s.next in
      record {
        ends = p.ends;
        made = record {
          formed = seen_of c.concluded s.next;
          concludes = s.made;
          installs = p.saids;
          posts = subst (λ (k : ℕ). PostsEach plan told (seen_of c.concluded s.next) k p.saids (seen_of new p.ends)) (sent_is old h) p.each;
          all_posted = all_sent (sent_in old) (sent_in c.concluded) (seen_of old h).sent (seen_of c.concluded s.next).sent (length p.saids) (sent_is old h) (sent_is c.concluded s.next) up p.count_is;
        };
      }

  -- the whole regroup
  record RegroupMade (n : ℕ) (epoch : EpochId) (members : ℕ) (v : whole_world.World) (to : World D) : Type 0 where
    ends : Stood to
    made : Regroups plan told v n epoch members (seen_of to ends)
    opens : step_fault plan (OpenGroup n) v ≡ None

  regroup_made : (n : ℕ) (epoch : EpochId) (members : ℕ) (old new : World D) (steps : List StepMade) → IsInOrder on n epoch members old new steps → (h : Stood old)
      → RegroupMade n epoch members (seen_of old h) new
  regroup_made n epoch members old new steps is h = by is.again refl is.second
    where
      r : RoundMade n is.again (seen_of old h) is.asked
      r = round_made n is.again old is.asked is.one is.first h

      by : (b : Bool) → is.again ≡ b → IsSecondRound on n b is.asked is.asked_again is.two → RegroupMade n epoch members (seen_of old h) new
      by false e (none, same) =
          let c = conclusion_made n epoch members is.asked new is.last (subst (λ (w : World D). IsConclusion on n epoch members w new is.last) same is.ends) r.ends in
          record { ends = c.ends; made = AtOnce r.epoch r.saids (seen_of is.asked r.ends) r.made (λ m. true≢false (sym (r.old_here_is m) ∙ e)) c.made; opens = r.opens }
      by true e (more, second) =
          let o = round_made n more is.asked is.asked_again is.two second r.ends in
          let c = conclusion_made n epoch members is.asked_again new is.last is.ends o.ends in
          record { ends = c.ends; made = Again r.epoch r.saids (seen_of is.asked r.ends) r.made (r.old_there_is e) o.epoch o.saids (seen_of is.asked_again o.ends) o.made c.made; opens = r.opens }

  -- where a group was opened no number was used up
  still_fresh : (world : World D) (n : ℕ) (h : Stood world) → step_fault plan (OpenGroup n) (seen_of world h) ≡ None → group_is_worn n (state_of world) ≡ false
  still_fresh world n h fits = neither (nat_le mail_steps.letters_end (state_of world).flying.sent) (used_up_in (of_node (lives_of world) n))
      (ap (nat_le mail_steps.letters_end) (sent_is world h) ∙ letters_left (nat_le mail_steps.letters_end (seen_of world h).sent) both.0) (by (of_node (lives_of world) n) refl)
    where
      both : (option_map whole_steps.StepFault.Fault (letters_worn (seen_of world h)) ≡ None) × (by_slot (open_fault plan (seen_of world h)) (whole.slot_at (seen_of world h).slots n) ≡ None)
      both = not_first (node_fault plan (n ∷ [])) (option_map whole_steps.StepFault.Fault (actor_fault n (seen_of world h))) (option_map whole_steps.StepFault.Fault (letters_worn (seen_of world h))) (by_slot (open_fault plan (seen_of world h)) (whole.slot_at (seen_of world h).slots n)) fits

      by : (o : Option Life) → of_node (lives_of world) n ≡ o → used_up_in o ≡ false
      by None is = refl
      by (Some lives.Down) is = refl
      by (Some lives.Lost) is = refl
      by (Some (lives.Up node)) is =
          let u = whole_up on (state_of world) (seen_of world h) n node (world.nodes.disk_each ∙ sym world.nodes.all) (as_whole on plan world h.whole) is in
          ap (λ (x : maps.Node). nat_le greatest_epoch x.heard) (sym u.maps)
          ∙ count_left (nat_le greatest_epoch u.seen.maps.heard) _ (ap (by_slot (open_fault plan (seen_of world h))) (sym u.up) ∙ both.1)

  -- The world once a node has regrouped, and what it shows.
  pub record ShowsFormed (epoch : EpochId) (members : ℕ) (new : World D) : Type 0 where
    pub ends : Has on plan told Q new
    pub is_told : IsTold epoch members (whole_world_of ends.whole.v)

  pub shows_formed : (n : ℕ) (epoch : EpochId) (members : ℕ) (old new : World D) (steps : List StepMade) → IsInOrder on n epoch members old new steps → (h : Has on plan told Q old)
      → (node_refusal (plan_of old) (life_of old) (step.Group n) ≡ None → group_is_worn n (state_of old) ≡ false → has_room_for_rounds (plan_of old).nodes (state_of old).flying.flights ≡ true)
      → AreNumbered (whole_world_of h.whole.v) → ShowsFormed epoch members new
  shows_formed n epoch members old new steps is h roomy numbered =
      let fit = is.first.opened.did.refused in
      let some = some_node (plan_of old) n (life_of old) fit in
      let made = regroup_made n epoch members old new steps is h in
      let fresh = still_fresh old n h made.opens in
      let room_here = subst (HasRoomFor (suc (plan_of old).nodes)) h.whole.stands.mail.flying (room_for (plan_of old).nodes (state_of old).flying.flights some (roomy (sym fit) fresh)) in
      let room = subst (λ (p : Plan). HasRoomFor (suc p.nodes) (whole_world_of h.whole.v).flying) h.of.plan_is room_here in
      record { ends = made.ends; is_told = regroup_shows plan told (whole_world_of h.whole.v) (whole_world_of made.ends.whole.v) n epoch members (sound_at on plan told Q old h).whole numbered room made.made }

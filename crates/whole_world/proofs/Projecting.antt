-- Messages see each step of a whole world as a step of theirs.
use Rattle.std.proofs.Common.{◌≡◌, ◌⊎◌, inl, inr, ⊎_elim, ℕ, ◌+◌, Bool, true, false, ◌&&◌, ◌||◌, List, [], ◌∷◌, ◌++◌, map, reverse, Option, Some, None, refl, sym, ap, ◌∙◌, subst, nat_le, if◌then◌else◌}
use Rattle.std.specs.Option.{option_map}
use Rattle.mail_model.specs.Identity.{EpochId}
use Rattle.mail_model.specs.Plan.{Plan}
use Rattle.mail_model.specs.Record.{Record}
use Rattle.mail_model.specs.Book.BookEntry.{CameUp, WentDown}
use Rattle.object_model.specs.Lists.{Among}
use Rattle.object_model.specs.Letters.{Body, Letter, is_read_body}
use Rattle.object_model.specs.Letters.Body.{Group, Join, Install, Report, ReportAck}
use Rattle.cluster_model.specs.Cluster as mail_cluster
use Rattle.cluster_model.specs.Claims.{boot_of}
use Rattle.cluster_model.specs.Forms.{FormsEpoch}
use Rattle.cluster_model.specs.Thrown.{Why}
use Rattle.cluster_model.specs.World as mail
use Rattle.cluster_model.specs.Steps as mail_steps
use Rattle.cluster_model.specs.Steps.Step.{AskFor, GiveUp, Post, PushTo, Form, Start}
use Rattle.cluster_model.specs.Makes as mail_makes
use Rattle.cluster_model.specs.Makes.Posts.{IsForMaps, FailsForMaps}
use Rattle.maps_model.specs.Rules as maps_rules
use Rattle.whole_model.specs.Whole.{Node, Slot, with_slot, maps_disk_of}
use Rattle.whole_model.specs.Whole.Life.{Down}
use Rattle.whole_model.specs.Rules.{IsMapsBody, promise_records}
use Rattle.whole_world.specs.World.{World, mail_world_of, slot_up, IsUp}
use Rattle.whole_world.specs.Thrown.{refused_by}
use Rattle.whole_world.specs.Steps.{Step, Said, StepFault, StepOutcome, actor_fault, letters_worn, first_refusal, by_slot, group_fault, conclude_fault, node_fault, step_fault}
use Rattle.whole_world.specs.Steps.Step.{OfMessages, OpenGroup, ConcludeGroup, ReportTo}
use Rattle.whole_world.specs.Steps.StepFault.{Fault}
use Rattle.whole_world.specs.Steps.StepOutcome.{Says, Refused, NoMemory}
use Rattle.whole_world.specs.Makes.{learnt, promise_by, said_of, started, NodeGoesDown, Groups, Forms, Reports, HearsMaps, StartsUp, DoesStep, RunsShort, MadeStep, IsUnseen, MakesStep, MakesAll}
use Rattle.whole_world.specs.Makes.Groups.{Opens, FailsOpening}
use Rattle.whole_world.specs.Makes.Reports.{Sends, HasNone}
use Rattle.whole_world.specs.Makes.HearsMaps.{Hears, FailsHearing}
use Rattle.whole_world.specs.Makes.StartsUp.{Comes, FailsStarting}
use Rattle.whole_world.specs.Makes.DoesStep.{ForMessages, PostsMaps, Starts, OpensGroup, ConcludesGroup, SendsReports}
use Rattle.whole_world.specs.Makes.RunsShort.{InMessages, Starting, Promising}
use Rattle.whole_world.specs.Seen.{step_seen, said_seen, fault_seen, outcome_seen, made_seen}
use Rattle.whole_world.proofs.Along.{mail_here}
use Rattle.whole_world.proofs.Seeing.{IsPlainMaps, mail_set, mail_did, after_seen, cut_seen, group_sends, among_reverse, conclude_sends, report_sends, hear_sends}

-- what a node does for membership and maps forms an epoch, as messages see it
formed : (node : Node) (disk : List Record) (did : maps_rules.Reaction) (promise : Option EpochId) (out : List Letter) → ((letter : Letter) → Among letter out → IsPlainMaps letter)
    → FormsEpoch node.mail disk (mail_did node disk did.node.installed promise out)
formed node disk did promise out plain = record { installed = did.node.installed; promise = promise; node_is = refl; disk_is = refl; sends = plain }

-- a node goes down in work for these
goes_down : (w : World) (n : ℕ) (disk : List Record) (promise : Option EpochId) (new : World) → NodeGoesDown w n disk (promise_records promise) new
    → mail_makes.NodeGoesDown (mail_world_of w) n disk (disk ++ promise_records promise) (mail_world_of new)
goes_down w n disk promise new g = record {
  front = g.front;
  pending = g.pending;
  one = g.one;
  cut = record { missing = g.missing; is = ap (λ (a : List Record). disk ++ a) g.cut };
  is = ap mail_world_of g.is ∙ cut_seen w n disk g.front g.pending;
}

heard_or_thrown : (why : Option Why) → mail_makes.IsHeardOrThrown (said_seen (said_of why))
heard_or_thrown None = tt
heard_or_thrown (Some why) = tt

-- a letter of membership or maps is none of calls that read
pub maps_unread : (body : Body) → IsMapsBody body → is_read_body body ≡ false
maps_unread (Group epoch) of = refl
maps_unread (Join epoch promise boot was claims) of = refl
maps_unread (Install membership) of = refl
maps_unread (Report row) of = refl
maps_unread (ReportAck user version) of = refl
maps_unread body of = absurd of

module _ (plan : Plan) (old new : World) where
  posts_seen : (number : ℕ) (keep : Bool) (said : Said) → HearsMaps old number keep said new
      → (posts : mail_makes.Posts plan (mail_world_of old) number keep (said_seen said) (mail_world_of new)) × (is_read_body (mail_makes.posted_letter posts).body ≡ false)
  posts_seen number keep said (Hears flies node disk up of fresh did h is new_world) =
      let plain : (letter : Letter) → Among letter did.out → IsPlainMaps letter = λ letter m. hear_sends flies.letter.to node.maps (maps_disk_of disk) flies.letter did letter flies.letter.body of h m in (
        IsForMaps flies node.mail disk (mail_here old.slots flies.letter.to (slot_up node disk) up) of fresh
            (subst (λ (s : Said). mail_makes.IsHeardOrThrown (said_seen s)) (sym is) (heard_or_thrown (refused_by flies.letter.to node.maps flies.letter.body)))
            (mail_did (learnt node flies.letter.body) disk did.node.installed (promise_by node.maps flies.letter.body) did.out)
            (formed (learnt node flies.letter.body) disk did (promise_by node.maps flies.letter.body) did.out plain)
            (ap mail_world_of new_world ∙ after_seen (record old { flying = mail.flies_on (mail_world_of old) number flies keep }) flies.letter.to (learnt node flies.letter.body) disk did (promise_by node.maps flies.letter.body) did.out plain),
        maps_unread flies.letter.body of,
      )
  posts_seen number keep said (FailsHearing flies node disk up of fresh is down g new_world) = (
    FailsForMaps flies node.mail disk (promise_by node.maps flies.letter.body) (mail_here old.slots flies.letter.to (slot_up node disk) up) of fresh (ap said_seen is) (mail_world_of down)
        (goes_down old flies.letter.to disk (promise_by node.maps flies.letter.body) down g) (ap mail_world_of new_world),
    maps_unread flies.letter.body of,
  )

  starts_seen : (n : ℕ) (said : Said) → StartsUp plan old n said new → mail_makes.StartsUp plan (mail_world_of old) n (said_seen said) (mail_world_of new)
  starts_seen n said (Comes disk pending kept here pending_is below is records rec new_world) =
      mail_makes.StartsUp.Comes disk pending (started n plan.nodes (disk ++ kept) records).mail records (mail_here old.slots n (record { life = Down pending; disk = disk }) here)
      (record { kept = kept; pending_is = pending_is; records = rec; is = refl }) below (ap said_seen is)
      (ap mail_world_of new_world ∙ ap (λ (s : List mail_cluster.Slot). record (mail_world_of old) { slots = s; book = old.book ++ CameUp n (boot_of (disk ++ kept) + 1) ∷ [] })
      (mail_set old.slots n (slot_up (started n plan.nodes (disk ++ kept) records) records)))
  starts_seen n said (FailsStarting disk pending next records here stops is new_world) =
      mail_makes.StartsUp.FailsStarting disk pending next records (mail_here old.slots n (record { life = Down pending; disk = disk }) here) stops (ap said_seen is)
      (ap mail_world_of new_world ∙ stopped n next records)
    where
      stopped : (n : ℕ) (next records : List Record)
          → mail_world_of (record old { slots = with_slot old.slots n (record { life = Down next; disk = records }); book = old.book ++ WentDown n ∷ [] })
          ≡ record (mail_world_of old) { slots = mail_cluster.with_slot (mail_world_of old).slots n (record { life = mail_cluster.Life.Down next; disk = records }); book = old.book ++ WentDown n ∷ [] }
      stopped n next records = ap (λ (s : List mail_cluster.Slot). record (mail_world_of old) { slots = s; book = old.book ++ WentDown n ∷ [] }) (mail_set old.slots n (record { life = Down next; disk = records }))

  opens_seen : (n : ℕ) (said : Said) → Groups plan old n said new → mail_makes.FormsAt (mail_world_of old) n (said_seen said) (mail_world_of new)
  opens_seen n said (Opens node disk up is new_world) =
      let next : EpochId = maps_rules.next_epoch n node.maps in
      let did : maps_rules.Reaction = maps_rules.start_group n plan.nodes node.maps (maps_disk_of disk) in
      let plain : (letter : Letter) → Among letter (reverse did.out) → IsPlainMaps letter = λ letter m. group_sends n plan.nodes node.maps (maps_disk_of disk) letter (among_reverse letter did.out m) in
      mail_makes.FormsAt.Does node.mail disk (mail_here old.slots n (slot_up node disk) up) (subst (λ (s : Said). mail_makes.IsSaidOfForming (said_seen s)) (sym is) tt)
      (mail_did node disk did.node.installed (Some next) (reverse did.out)) (formed node disk did (Some next) (reverse did.out) plain)
      (ap mail_world_of new_world ∙ after_seen old n node disk did (Some next) (reverse did.out) plain)
  opens_seen n said (FailsOpening node disk up is g) =
      mail_makes.FormsAt.FailsForming node.mail disk (Some (maps_rules.next_epoch n node.maps)) (mail_here old.slots n (slot_up node disk) up) (ap said_seen is)
      (goes_down old n disk (Some (maps_rules.next_epoch n node.maps)) new g)

  concludes_seen : (n : ℕ) (said : Said) → Forms plan old n said new → mail_makes.FormsAt (mail_world_of old) n (said_seen said) (mail_world_of new)
  concludes_seen n said f =
      let plain : (letter : Letter) → Among letter f.did.out → IsPlainMaps letter = λ letter m. conclude_sends n plan.buckets f.node.maps (maps_disk_of f.disk) f.did f.concludes letter m in
      mail_makes.FormsAt.Does f.node.mail f.disk (mail_here old.slots n (slot_up f.node f.disk) f.up) (subst (λ (s : Said). mail_makes.IsSaidOfForming (said_seen s)) (sym f.said_is) tt)
      (mail_did f.node f.disk f.did.node.installed None f.did.out) (formed f.node f.disk f.did None f.did.out plain)
      (ap mail_world_of f.new_world ∙ after_seen old n f.node f.disk f.did None f.did.out plain)

  reports_seen : (from to : ℕ) (said : Said) → Reports old from to said new → mail_makes.FormsAt (mail_world_of old) from (said_seen said) (mail_world_of new)
  reports_seen from to said (Sends node disk up users first some did r is new_world) =
      let plain : (letter : Letter) → Among letter did.out → IsPlainMaps letter = λ letter m. report_sends from to users node.maps (maps_disk_of disk) did r letter m in
      mail_makes.FormsAt.Does node.mail disk (mail_here old.slots from (slot_up node disk) up) (subst (λ (s : Said). mail_makes.IsSaidOfForming (said_seen s)) (sym is) tt)
      (mail_did node disk did.node.installed None did.out) (formed node disk did None did.out plain) (ap mail_world_of new_world ∙ after_seen old from node disk did None did.out plain)
  reports_seen from to said (HasNone node disk up none is new_world) =
      mail_makes.FormsAt.HasNone (subst (λ (s : Said). mail_makes.IsSaidOfForming (said_seen s)) (sym is) tt) (ap mail_world_of new_world)

-- what is refused of such a step is refused of a Form
refusal_none : (a : Option StepFault) (rest : List (Option StepFault)) → first_refusal (a ∷ rest) ≡ None → (a ≡ None) × (first_refusal rest ≡ None)
refusal_none None rest e = (refl, e)
refusal_none (Some f) rest e = absurd (cc e)

no_fault : (o : Option mail_steps.StepFault) → option_map Fault o ≡ None → o ≡ None
no_fault None e = refl
no_fault (Some f) e = absurd (cc e)

second_none : (a : Option StepFault) (b : Option mail_steps.StepFault) (rest : List (Option StepFault)) → first_refusal (a ∷ option_map Fault b ∷ rest) ≡ None → b ≡ None
second_none a b rest e = no_fault b (refusal_none (option_map Fault b) rest (refusal_none a (option_map Fault b ∷ rest) e).1).0

some_fault : (o : Option mail_steps.StepFault) (fault : StepFault) → option_map Fault o ≡ Some fault → o ≡ Some (fault_seen fault)
some_fault None fault e = absurd (cc e)
some_fault (Some f) fault e = by f fault (inside (Fault f) fault e)
  where
    inside : (a b : StepFault) → Some a ≡ Some b → a ≡ b
    inside a b h = cc

    by : (f : mail_steps.StepFault) (fault : StepFault) → Fault f ≡ fault → Some f ≡ Some (fault_seen fault)
    by f fault h = ap (λ (x : StepFault). Some (fault_seen x)) h

module _ (plan : Plan) (w : World) (n : ℕ) where
  named : (rest : List ℕ) → node_fault plan (n ∷ rest) ≡ None → mail_steps.is_node plan n ≡ true
  named rest e = by (mail_steps.is_node plan n) e
    where
      by : (b : Bool) → (if b then node_fault plan rest else Some (Fault mail_steps.StepFault.NoSuchNode)) ≡ None → b ≡ true
      by true h = refl
      by false h = absurd (cc h)

  not_worn : letters_worn w ≡ None → nat_le mail_steps.letters_end w.sent ≡ false
  not_worn e = by (nat_le mail_steps.letters_end w.sent) e
    where
      by : (b : Bool) → (if b then Some mail_steps.StepFault.Worn else None) ≡ None → b ≡ false
      by true h = absurd (cc h)
      by false h = refl

  same_life : (life : mail_cluster.Life) → mail_steps.life_fault (Form n) life ≡ mail_steps.life_fault (PushTo n n) life
  same_life (mail_cluster.Life.Up node) = refl
  same_life (mail_cluster.Life.Down pending) = refl
  same_life mail_cluster.Life.Lost = refl

  same_slot : (o : Option mail_cluster.Slot) → mail_steps.slot_fault (Form n) o ≡ mail_steps.slot_fault (PushTo n n) o
  same_slot None = refl
  same_slot (Some slot) = same_life slot.life

  never_worn : (o : Option mail_cluster.Slot) → mail_steps.is_worn_at plan w.seconds (Form n) o ≡ false
  never_worn None = refl
  never_worn (Some slot) = refl

  form_goes : mail_steps.is_node plan n ≡ true → actor_fault n w ≡ None → letters_worn w ≡ None → mail_steps.step_fault plan (Form n) (mail_world_of w) ≡ None
  form_goes is_named acts worn = (λ i. mail_steps.first_fault (
      (if is_named i && true then None else Some mail_steps.StepFault.NoSuchNode) ∷ (same_slot (mail_cluster.slot_at (mail_world_of w).slots n) ∙ acts) i ∷ None
      ∷ (if not_worn worn i || never_worn (mail_cluster.slot_at (mail_world_of w).slots n) i then Some mail_steps.StepFault.Worn else None) ∷ None ∷ []
      ))

open_goes : (plan : Plan) (w : World) (n : ℕ) → step_fault plan (OpenGroup n) w ≡ None → mail_steps.step_fault plan (Form n) (mail_world_of w) ≡ None
open_goes plan w n fits =
    let a = refusal_none _ _ fits in
    let b = refusal_none _ _ a.1 in
    let c = refusal_none _ _ b.1 in
    form_goes plan w n (named plan w n [] a.0) (no_fault (actor_fault n w) b.0) (no_fault (letters_worn w) c.0)

conclude_goes : (plan : Plan) (w : World) (n : ℕ) (node : Node) (disk : List Record) → IsUp w n node disk → step_fault plan (ConcludeGroup n) w ≡ None → mail_steps.step_fault plan (Form n) (mail_world_of w) ≡ None
conclude_goes plan w n node disk up fits =
    let a = refusal_none _ _ fits in
    let b = refusal_none _ _ a.1 in
    let c = refusal_none _ _ b.1 in
    form_goes plan w n (named plan w n [] a.0) (no_fault (actor_fault n w) b.0)
    (second_none (group_fault node.maps.group) (letters_worn w) _ (subst (λ (o : Option Slot). by_slot (conclude_fault w) o ≡ None) up c.0))

report_goes : (plan : Plan) (w : World) (from to : ℕ) → step_fault plan (ReportTo from to) w ≡ None → mail_steps.step_fault plan (Form from) (mail_world_of w) ≡ None
report_goes plan w from to fits =
    let a = refusal_none _ _ fits in
    let b = refusal_none _ _ a.1 in
    let c = refusal_none _ _ b.1 in
    form_goes plan w from (named plan w from (to ∷ []) a.0) (no_fault (actor_fault from w) b.0) (no_fault (letters_worn w) c.0)

module _ (plan : Plan) (tells : Bool) (old new : World) where
  -- what the step that is seen comes to
  abbrev Sees : mail_steps.Step → mail_steps.Said → Type 0
  Sees one said = (mail_steps.step_fault plan one (mail_world_of old) ≡ None) × mail_makes.DoesStep plan tells (mail_world_of old) one said (mail_world_of new)

  at_step : (step other : Step) (said : Said) → step ≡ other → Sees (step_seen other) (said_seen said) → Sees (step_seen step) (said_seen said)
  at_step step other said e s = subst (λ (x : Step). Sees (step_seen x) (said_seen said)) (sym e) s

  fits_at : (step other : Step) → step ≡ other → step_fault plan step old ≡ None → step_fault plan other old ≡ None
  fits_at step other e fits = subst (λ (x : Step). step_fault plan x old ≡ None) e fits

  does_seen : (step : Step) (said : Said) → step_fault plan step old ≡ None → DoesStep plan tells old step said new → Sees (step_seen step) (said_seen said)
  does_seen step said fits (ForMessages one is answer says for_mail does follow) = at_step step (OfMessages one) said is (
    no_fault (mail_steps.step_fault plan one (mail_world_of old)) (fits_at step (OfMessages one) is fits),
    subst (λ (s : Said). mail_makes.DoesStep plan tells (mail_world_of old) one (said_seen s) (mail_world_of new)) (sym says) does,
  )
  does_seen step said fits (PostsMaps number keep is h) = at_step step (OfMessages (Post number keep)) said is
      (no_fault (mail_steps.step_fault plan (Post number keep) (mail_world_of old)) (fits_at step (OfMessages (Post number keep)) is fits), inl (posts_seen plan old new number keep said h))
  does_seen step said fits (Starts n is s) = at_step step (OfMessages (Start n)) said is
      (no_fault (mail_steps.step_fault plan (Start n) (mail_world_of old)) (fits_at step (OfMessages (Start n)) is fits), starts_seen plan old new n said s)
  does_seen step said fits (OpensGroup n is g) = at_step step (OpenGroup n) said is (open_goes plan old n (fits_at step (OpenGroup n) is fits), opens_seen plan old new n said g)
  does_seen step said fits (ConcludesGroup n is f) = at_step step (ConcludeGroup n) said is
      (conclude_goes plan old n f.node f.disk f.up (fits_at step (ConcludeGroup n) is fits), concludes_seen plan old new n said f)
  does_seen step said fits (SendsReports from to is r) = at_step step (ReportTo from to) said is (report_goes plan old from to (fits_at step (ReportTo from to) is fits), reports_seen plan old new from to said r)

  short_at : (step other : Step) (n : ℕ) → step ≡ other → mail_makes.RunsShort plan (mail_world_of old) (step_seen other) n (mail_world_of new) → mail_makes.RunsShort plan (mail_world_of old) (step_seen step) n (mail_world_of new)
  short_at step other n e s = subst (λ (x : Step). mail_makes.RunsShort plan (mail_world_of old) (step_seen x) n (mail_world_of new)) (sym e) s

  short_seen : (step : Step) (n : ℕ) → RunsShort plan old step n new → mail_makes.RunsShort plan (mail_world_of old) (step_seen step) n (mail_world_of new)
  short_seen step n (InMessages one is for_mail short follow) = short_at step (OfMessages one) n is short
  short_seen step n (Starting disk pending next records is here stops new_world) = short_at step (OfMessages (Start n)) n is
      (mail_makes.RunsShort.Starting disk pending next records refl (mail_here old.slots n (record { life = Down pending; disk = disk }) here) stops
      (ap mail_world_of new_world ∙ ap (λ (s : List mail_cluster.Slot). record (mail_world_of old) { slots = s; book = old.book ++ WentDown n ∷ [] }) (mail_set old.slots n (record { life = Down next; disk = records }))))
  short_seen step n (Promising node disk promise up why g) = mail_makes.RunsShort.Forming node.mail disk promise (mail_here old.slots n (slot_up node disk) up) (⊎_elim
      (λ (is, p). at (OpenGroup n) is refl)
      (⊎_elim (λ (is, p). at (ConcludeGroup n) is refl)
      (λ (number, keep, flies, is, to, of, fresh, p). at (OfMessages (Post number keep)) is (flies, to, of, fresh)))
      why) (goes_down old n disk promise new g)
    where
      at : (other : Step) → step ≡ other → mail_makes.FormsIn (mail_world_of old) node.mail n (step_seen other) → mail_makes.FormsIn (mail_world_of old) node.mail n (step_seen step)
      at other e f = subst (λ (x : Step). mail_makes.FormsIn (mail_world_of old) node.mail n (step_seen x)) (sym e) f

  unseen_by : (one : mail_steps.Step) (fault : StepFault) → IsUnseen plan old (OfMessages one) fault → mail_makes.IsUnseen plan (mail_world_of old) one (fault_seen fault)
  unseen_by (AskFor number) fault (is, none) = (ap fault_seen is, none)
  unseen_by (GiveUp number) fault (is, none) = (ap fault_seen is, none)
  unseen_by one fault unseen = absurd unseen

  refused_seen : (step : Step) (fault : StepFault) → (step_fault plan step old ≡ Some fault) ⊎ ((step_fault plan step old ≡ None) × (fault ≡ Fault mail_steps.StepFault.Worn) × Rattle.whole_world.specs.Makes.StartIsWorn old step)
      ⊎ ((step_fault plan step old ≡ None) × (fault ≡ Fault mail_steps.StepFault.NoRoom) × Rattle.whole_world.specs.Makes.ReportHasNoRoom old step) ⊎ IsUnseen plan old step fault
      → ((mail_steps.step_fault plan (step_seen step) (mail_world_of old) ≡ Some (fault_seen fault))
      ⊎ ((mail_steps.step_fault plan (step_seen step) (mail_world_of old) ≡ None) × (fault_seen fault ≡ mail_steps.StepFault.Worn) × mail_makes.StartIsWorn (mail_world_of old) (step_seen step))) ⊎ mail_makes.IsUnseen plan (mail_world_of old) (step_seen step) (fault_seen fault)
  refused_seen (OfMessages one) fault why = ⊎_elim
      (λ has. inl (inl (some_fault (mail_steps.step_fault plan one (mail_world_of old)) fault has)))
      (⊎_elim
      (λ (none, is, worn). inl (inr (no_fault (mail_steps.step_fault plan one (mail_world_of old)) none, ap fault_seen is, worn)))
      (⊎_elim (λ (none, is, crowded). absurd crowded) (λ unseen. inr (unseen_by one fault unseen))))
      why
  refused_seen (OpenGroup n) fault why = inr tt
  refused_seen (ConcludeGroup n) fault why = inr tt
  refused_seen (ReportTo from to) fault why = inr tt

  pub makes_seen : (step : Step) (outcome : StepOutcome) → MakesStep plan tells old step outcome new → mail_makes.MakesStep plan tells (mail_world_of old) (step_seen step) (outcome_seen outcome) (mail_world_of new)
  makes_seen step (Says said) m = does_seen step said m.0 m.1
  makes_seen step (Refused fault) m = (refused_seen step fault m.0, ap mail_world_of m.1)
  makes_seen step (NoMemory None) m = ap mail_world_of m
  makes_seen step (NoMemory (Some n)) m = short_seen step n m

pub all_seen : (plan : Plan) (tells : Bool) (old new : World) (steps : List MadeStep) → MakesAll plan tells old steps new
    → mail_makes.MakesAll plan tells (mail_world_of old) (map made_seen steps) (mail_world_of new)
all_seen plan tells old new [] is = ap mail_world_of is
all_seen plan tells old new (made ∷ steps) (mid, first, others) = (mail_world_of mid, makes_seen plan tells old mid made.step made.outcome first, all_seen plan tells mid new steps others)

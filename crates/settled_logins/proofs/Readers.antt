-- Each step of a reader, whatever it is and whatever comes of it, keeps what stands.
use Rattle.std.proofs.Common.{◌≡◌, inl, inr, ℕ, Bool, false, List, Some, None, refl, sym, ap, ◌∙◌, subst, true≢false}
use Rattle.mail_model.specs.Plan.{Plan}
use Rattle.object_model.specs.Mishaps.MishapKind.{Dropped}
use Rattle.object_model.specs.Letters.{Membership}
use Rattle.cluster_model.specs.Makes as mail_makes
use Rattle.cluster_model.specs.Makes.{posted_letter}
use Rattle.cluster_model.specs.Steps as mail_steps
use Rattle.cluster_model.specs.Steps.NodeCall.{Login, Fetch, Leave}
use Rattle.cluster_model.specs.Steps.Step.{Begin, AskFor, Post}
use Rattle.cluster_model.specs.Steps.Said.{Faulted}
use Rattle.cluster_model.specs.World as mail
use Rattle.cluster_model.specs.World.{letters_of}
use Rattle.cluster_model.proofs.Stepping.{flew}
use Rattle.whole_world.specs.Laws as whole_laws
use Rattle.whole_world.specs.Makes as whole_makes
use Rattle.whole_world.specs.Makes.{MadeStep}
use Rattle.whole_world.specs.Steps.{Step, Said, StepOutcome}
use Rattle.whole_world.specs.Steps.Step.{OfMessages}
use Rattle.whole_world.specs.Steps.Said.{Told}
use Rattle.whole_world.specs.Steps.StepOutcome.{Says, Refused, NoMemory}
use Rattle.whole_world.specs.Seen.{said_seen}
use Rattle.whole_world.proofs.Projecting.{makes_seen}
use Rattle.login_model.specs.Cluster as login
use Rattle.login_model.specs.Parts as login_parts
use Rattle.joint_world.specs.World.{World, whole_world_of, mail_world_of, reads_of}
use Rattle.joint_world.specs.Staying.{IsForWhole, ReadsStay}
use Rattle.joint_world.specs.Makes.{DoesStep, MakesStep}
use Rattle.joint_world.specs.Makes.DoesStep.{ForWhole, Begins, Asks, GivesUp, Posts, Drops}
use Rattle.joint_world.specs.Laws.{Stands}
use Rattle.joint_world.proofs.Apart.{posts_read}
use Rattle.joint_world.proofs.Bodies.{body_reads, read_body}
use Rattle.settled_logins.specs.Reading.{GoesWell, IsReaderStep}
use Rattle.settled_logins.specs.Settled.{ReadersStand, IsStill}
use Rattle.settled_logins.proofs.Epochs.{settled_on}
use Rattle.settled_logins.proofs.Going.{Goes}
use Rattle.settled_logins.proofs.Resting.{rests_still}
use Rattle.settled_logins.proofs.Steps.{StepGoes, same_go, begins_go, answers_go, gives_up_go, loses_all, posts_go, asks_go}

-- a letter that is posted was in flight
posted_flies : (plan : Plan) (old : mail.World) (number : ℕ) (keep : Bool) (said : mail_steps.Said) (new : mail.World) → mail_makes.Posts plan old number keep said new → mail.Flies old number
posted_flies plan old number keep said new (mail_makes.Posts.NobodyUp flies nobody is e) = flies
posted_flies plan old number keep said new (mail_makes.Posts.OfOtherEpoch flies node disk up thrown is e) = flies
posted_flies plan old number keep said new (mail_makes.Posts.TooLate flies node disk up thrown is e) = flies
posted_flies plan old number keep said new (mail_makes.Posts.IsHeard flies node disk up thrown is e) = flies
posted_flies plan old number keep said new (mail_makes.Posts.FailsHearing flies node disk up thrown is down g e) = flies
posted_flies plan old number keep said new (mail_makes.Posts.IsForMaps flies node disk up of fresh is did forms e) = flies
posted_flies plan old number keep said new (mail_makes.Posts.FailsForMaps flies node disk promise up of fresh is down g e) = flies

any_flies : (plan : Plan) (tells : Bool) (old : mail.World) (number : ℕ) (keep : Bool) (said : mail_steps.Said) (new : mail.World) → mail_makes.DoesStep plan tells old (Post number keep) said new → mail.Flies old number
any_flies plan tells old number keep said new (inl (posts, other)) = posted_flies plan old number keep said new posts
any_flies plan tells old number keep said new (inr posts) = (posts_read old number keep said new posts).0

-- what came of a reader's step went well
pub well_of : (made : MadeStep) → IsReaderStep made → GoesWell made.outcome
well_of made (IsReaderStep.LogsIn n user proof is well) = well
well_of made (IsReaderStep.Fetches n user id from most holders is well) = well
well_of made (IsReaderStep.Leaves n user login_ manager is well) = well
well_of made (IsReaderStep.Asks number is well) = well
well_of made (IsReaderStep.Posts letter keep is well) = well

module _ (plan : Plan) (tells : Bool) (base story : List (List login.Slot)) (old : World) (stands : whole_laws.Stands plan (whole_world_of old)) (g : Goes base (reads_of tells story old)) where
  abbrev Goal : World → Type 0
  Goal new = StepGoes plan tells base story old stands g new

  -- no letter of messages is in flight
  posts_none : (number : ℕ) (keep : Bool) (said : Said) (new : World) → IsForWhole old (OfMessages (Post number keep))
      → whole_makes.MakesStep plan tells (whole_world_of old) (OfMessages (Post number keep)) (Says said) (whole_world_of new) → ⊥
  posts_none number keep said new of made =
      let flies = any_flies plan tells (mail_world_of old) number keep (said_seen said) (mail_world_of new)
      (makes_seen plan tells (whole_world_of old) (whole_world_of new) (OfMessages (Post number keep)) (Says said) made).1 in
      true≢false (sym (body_reads flies.letter.body (g.letters flies.letter (flew (mail_world_of old) number flies))) ∙ of flies)

  for_whole : (made : MadeStep) → IsReaderStep made → (said : Said) (new : World) → IsForWhole old made.step → whole_makes.MakesStep plan tells (whole_world_of old) made.step (Says said) (whole_world_of new)
      → ReadsStay old new → Goal new
  for_whole made (IsReaderStep.LogsIn n user proof is well) said new of makes stay = absurd (subst (IsForWhole old) is of)
  for_whole made (IsReaderStep.Fetches n user id from most holders is well) said new of makes stay = absurd (subst (IsForWhole old) is of)
  for_whole made (IsReaderStep.Leaves n user login_ manager is well) said new of makes stay = absurd (subst (IsForWhole old) is of)
  for_whole made (IsReaderStep.Asks number is well) said new of makes stay = asks_go plan tells base story old stands g number said new (subst (IsForWhole old) is of)
      (subst (λ (s : Step). whole_makes.MakesStep plan tells (whole_world_of old) s (Says said) (whole_world_of new)) is makes) stay
  for_whole made (IsReaderStep.Posts letter keep is well) said new of makes stay = absurd (posts_none letter keep said new (subst (IsForWhole old) is of)
      (subst (λ (s : Step). whole_makes.MakesStep plan tells (whole_world_of old) s (Says said) (whole_world_of new)) is makes))

  says_go : (made : MadeStep) → IsReaderStep made → (said : Said) (new : World) → ((n : ℕ) → said ≡ Told (Faulted n) → ⊥) → DoesStep plan tells old made.step said new → Goal new
  says_go made reader said new well (ForWhole of makes stay) = for_whole made reader said new of makes stay
  says_go made reader said new well (Begins n call is b) = begins_go plan tells base story old stands g n call said new b well
  says_go made reader said new well (Asks number is of a) = answers_go plan tells base story old stands g number said new a
  says_go made reader said new well (GivesUp number is of u) = gives_up_go plan tells base story old stands g number said new u
  says_go made reader said new well (Posts number keep is of p) = posts_go plan tells base story old stands g number keep said new p well
  says_go made reader said new well (Drops number is d) = loses_all plan tells base story old stands g Dropped number d.flies false new d.loses

  pub reader_goes : (made : MadeStep) → IsReaderStep made → (new : World) → MakesStep plan tells old made.step made.outcome new → Goal new
  reader_goes made reader new makes = by made.outcome (well_of made reader) makes
    where
      by : (outcome : StepOutcome) → GoesWell outcome → MakesStep plan tells old made.step outcome new → Goal new
      by (Says said) well m = says_go made reader said new (λ n e. well.disks n (ap Says e)) m.1
      by (Refused fault) well m = same_go plan tells base story old stands g new m.1
      by (NoMemory None) well m = same_go plan tells base story old stands g new m
      by (NoMemory (Some n)) well m = absurd (well.memory n refl)

-- at first, with the story that stands
pub from_start : (tells : Bool) (story : List (List login.Slot)) (old : World) (e : Membership) → ReadersStand old e → login_parts.Sound (reads_of tells story old) → Goes story (reads_of tells story old)
from_start tells story old e r sound = record { sound = sound; since = λ moment m. inl m; letters = λ letter m. read_body letter.body (r.letters letter m) }

pub steps_stand : (plan : Plan) (tells : Bool) (story : List (List login.Slot)) (old new : World) (made : MadeStep) → Stands plan tells story old → (e : Membership) → ReadersStand old e
    → MakesStep plan tells old made.step made.outcome new → IsReaderStep made → ReadersStand new e × IsStill old new
steps_stand plan tells story old new made stands e r makes reader =
    let s = reader_goes plan tells story story old stands.whole (from_start tells story old e r stands.reads) made reader new makes in (
      record { settled = settled_on old new e s.rests r.settled; letters = λ letter m. body_reads letter.body (s.goes.goes.letters letter m) },
      rests_still old new s.rests,
    )

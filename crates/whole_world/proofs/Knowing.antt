-- What is known of epochs once all letters are posted was known before.
use Rattle.std.proofs.Common.{◌≡◌, inl, inr, ⊎_elim, ℕ, Bool, false, subst}
use Rattle.mail_model.specs.Plan.{Plan}
use Rattle.object_model.specs.Lists.{Among}
use Rattle.object_model.specs.Letters.{Membership, Body, Letter}
use Rattle.object_model.specs.Letters.Body.{Install}
use Rattle.cluster_model.specs.World as mail
use Rattle.cluster_model.specs.World.{letters_of}
use Rattle.cluster_model.specs.Steps as mail_steps
use Rattle.cluster_model.specs.Steps.Step.{Start, Post}
use Rattle.cluster_model.specs.Makes as mail_makes
use Rattle.cluster_model.proofs.Stepping.{flew}
use Rattle.whole_model.specs.Whole.{with_slot, maps_disk_of}
use Rattle.whole_model.specs.Rules.{IsMailBody}
use Rattle.whole_world.specs.World.{World, mail_world_of, slot_up, Reaction}
use Rattle.whole_world.specs.Steps.{Said}
use Rattle.whole_world.specs.Steps.Step.{OfMessages, ConcludeGroup}
use Rattle.whole_world.specs.Steps.StepOutcome.{Says}
use Rattle.whole_world.specs.Makes.{done_for_maps, learnt, promise_by, MakesStep, IsForMessages}
use Rattle.whole_world.specs.Makes.HearsMaps.{Hears, FailsHearing}
use Rattle.whole_world.specs.Makes.DoesStep.{ForMessages, PostsMaps, Starts, OpensGroup, ConcludesGroup, SendsReports}
use Rattle.whole_world.specs.Laws.{Stands}
use Rattle.whole_world.specs.Settled.{IsKnownEpoch}
use Rattle.whole_world.specs.Sweeps.{IsFine, Flows}
use Rattle.whole_world.specs.Sweeps.Flows.{Flowed, FlowsOn}
use Rattle.whole_world.specs.Epochs.{HadInstalled, HearsInstall}
use Rattle.whole_world.proofs.Plain.{IsMailOf}
use Rattle.whole_world.proofs.Stepwise.{flew_on, steps_plain}
use Rattle.whole_world.proofs.Keeping.{apart, of_mail}
use Rattle.whole_world.proofs.Seeing.{put_among}
use Rattle.whole_world.proofs.Stepping.{makes_stand}
use Rattle.whole_world.proofs.Charting.{sends_none}
use Rattle.whole_world.proofs.Beginning.{epochs_begin}

module _ (plan : Plan) (tells : Bool) (old new : World) (stands : Stands plan old) where
  -- a post puts no Install in flight
  flew_before : (number : ℕ) (said : Said) → MakesStep plan tells old (OfMessages (Post number false)) (Says said) new → IsFine said
      → (letter : Letter) → Among letter (letters_of new.flying) → (g : Membership) → letter.body ≡ Install g → Among letter (letters_of old.flying)
  flew_before number said (fits, ForMessages one step answer says for_mail does follow) fine letter m g e =
      let posts : mail_makes.DoesStep plan tells (mail_world_of old) (Post number false) answer (mail_world_of new) = subst (λ (k : mail_steps.Step). mail_makes.DoesStep plan tells (mail_world_of old) k answer (mail_world_of new)) (inside one step) does in
      let plain = steps_plain (mail_world_of old) (mail_world_of new) (apart plan old stands) plan tells (Post number false) answer (λ n e. not_start n e) (of_mail old (Post number false) (subst (IsForMessages old) (inside one step) for_mail)) posts in
      ⊎_elim (λ stood. stood) (λ (sent : IsMailOf (mail_world_of old) letter). absurd (none letter.body sent.mail.body e)) (plain.letters letter m)
    where
      inside : (k : mail_steps.Step) → OfMessages (Post number false) ≡ OfMessages k → k ≡ Post number false
      inside k e = cc

      not_start : (n : ℕ) → Post number false ≡ Start n → ⊥
      not_start n e = cc

      none : (body : Body) → IsMailBody body → body ≡ Install g → ⊥
      none body of e = subst IsMailBody e of
  flew_before number said (fits, PostsMaps other keep step (Hears f node disk up of fresh did h says is)) fine letter m g e = ⊎_elim
      (λ stood. flew_on (mail_world_of old) other f keep letter stood)
      (λ sent. absurd (sends_none f.letter.to node.maps (maps_disk_of disk) f.letter did letter g f.letter.body of h sent e))
      (put_among did.out (record left { slots = with_slot old.slots f.letter.to (slot_up now.node now.disk) }) letter (subst (λ (w : World). Among letter (letters_of w.flying)) is m))
    where
      now : Reaction
      now = done_for_maps (learnt node f.letter.body) disk did (promise_by node.maps f.letter.body) did.out

      left : World
      left = record old { flying = mail.flies_on (mail_world_of old) other f keep }
  flew_before number said (fits, PostsMaps other keep step (FailsHearing f node disk up of fresh says down d is)) fine letter m g e = absurd (fine f.letter.to says)
  flew_before number said (fits, Starts n step h) fine letter m g e = absurd (clash n step)
    where
      clash : (n : ℕ) → OfMessages (Post number false) ≡ OfMessages (Start n) → ⊥
      clash n e = cc
  flew_before number said (fits, OpensGroup n step h) fine letter m g e = absurd (cc step)
  flew_before number said (fits, ConcludesGroup n step h) fine letter m g e = absurd (cc step)
  flew_before number said (fits, SendsReports a b step h) fine letter m g e = absurd (cc step)

  known_before : (number : ℕ) (said : Said) → MakesStep plan tells old (OfMessages (Post number false)) (Says said) new → IsFine said → (g : Membership) → IsKnownEpoch new g → IsKnownEpoch old g
  known_before number said made fine g (inl (n, node, disk, up, installed)) = ⊎_elim
      (λ (had : HadInstalled old n node.maps.boot g). inl (n, had.node, had.disk, had.up, had.installed))
      (λ more. ⊎_elim
      (λ (hears : HearsInstall old (OfMessages (Post number false)) n node.maps.boot g). inr (hears.flies.letter, flew (mail_world_of old) hears.number hears.flies, hears.body))
      (λ concludes. absurd (clash n concludes))
      more)
      (epochs_begin plan old stands tells (OfMessages (Post number false)) (Says said) new made n node disk up g installed)
    where
      clash : (n : ℕ) → OfMessages (Post number false) ≡ ConcludeGroup n → ⊥
      clash n e = cc
  known_before number said made fine g (inr (letter, m, body)) = inr (letter, flew_before number said made fine letter m g body, body)

pub brings_none : (plan : Plan) (tells : Bool) (w new : World) → Stands plan w → Flows plan tells w new → (g : Membership) → IsKnownEpoch new g → IsKnownEpoch w g
brings_none plan tells w new stands (Flowed _ _ none e) g known = subst (λ (v : World). IsKnownEpoch v g) e known
brings_none plan tells w new stands (FlowsOn _ _ flight m low said mid made fine rest) g known =
    known_before plan tells w mid stands flight.number said made fine g
    (brings_none plan tells mid new (makes_stand plan w stands tells (OfMessages (Post flight.number false)) (Says said) mid made) rest g known)

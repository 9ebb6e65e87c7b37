-- Letters that fly are posted: who is live in an epoch stays so, where no Install is of a later one.
use Rattle.mail_model.specs.Plan.{Plan}
use Rattle.mail_model.specs.Record.{Record}
use Rattle.object_model.specs.Letters.{Membership, Body, Letter}
use Rattle.object_model.specs.Letters.Body.{Group, Join, Install, Report, ReportAck}
use Rattle.cluster_model.specs.World as mail
use Rattle.cluster_model.specs.Steps as mail_steps
use Rattle.cluster_model.specs.Steps.Step.{Start, Post}
use Rattle.cluster_model.proofs.Stepping.{flew}
use Rattle.maps_model.specs.Cluster as maps
use Rattle.maps_model.specs.Rules as maps_rules
use Rattle.maps_model.specs.Rules.HearsGroup.{Rises, Again, Old as OldGroup}
use Rattle.maps_model.specs.Rules.HearsJoin.{Late, Above, Joins}
use Rattle.maps_model.specs.Rules.HearsInstall.{Old as OldInstall, NotPromised, NotMember, Enters}
use Rattle.maps_model.specs.Rules.HearsReport.{Stale as StaleReport, Takes, Older}
use Rattle.maps_model.specs.Rules.HearsAck.{Stale as StaleAck, Clears, Other}
use Rattle.maps_model.proofs.Lists.{same_or_apart}
use Rattle.whole_model.specs.Whole.{Node, Slot, slot_at, with_slot, maps_disk_of}
use Rattle.whole_model.specs.Whole.Life.{Up}
use Rattle.whole_model.specs.Rules.{IsMapsBody, IsMailBody}
use Rattle.whole_world.specs.World.{World, mail_world_of, slot_up, IsUp, Reaction, after}
use Rattle.whole_world.specs.Steps.{Said}
use Rattle.whole_world.specs.Steps.StepOutcome.{Says}
use Rattle.whole_world.specs.Makes.{done_for_maps, learnt, promise_by, MakesStep, IsForMessages}
use Rattle.whole_world.specs.Makes.HearsMaps.{Hears, FailsHearing}
use Rattle.whole_world.specs.Makes.DoesStep.{ForMessages, PostsMaps, Starts, OpensGroup, ConcludesGroup, SendsReports}
use Rattle.whole_world.specs.Laws.{Stands}
use Rattle.whole_world.proofs.Plain.{IsMailOf}
use Rattle.whole_world.proofs.Stepwise.{flew_on, steps_plain}
use Rattle.whole_world.proofs.Keeping.{apart, of_mail}
use Rattle.whole_world.proofs.Seeing.{put_slots, put_among}
use Rattle.whole_world.proofs.Stepping.{makes_stand}
use Rattle.whole_world.proofs.Viewing.{slot_here, slot_other}
use Rattle.object_model.specs.Letters.{Member}
use Rattle.cluster_model.specs.Makes as mail_makes
use Rattle.whole_world.specs.Steps.Step.{OfMessages}
use Rattle.whole_world.specs.Steps.Said.{Told}
use Rattle.whole_world.specs.Settled.{IsLive}
use Rattle.whole_world.specs.Sweeps.{IsFine, Flows}
use Rattle.whole_world.specs.Sweeps.Flows.{Flowed, FlowsOn}
use Rattle.std.proofs.Common.{◌≡◌, ⊎_elim, ℕ, Bool, false, List, [], Option, Some, refl, sym, ap, ◌∙◌, subst}
use Rattle.cluster_model.proofs.Stepping.{flew}
use Rattle.maps_model.specs.Epochs.{IsBefore, IsAtMost}
use Rattle.maps_model.specs.Rules.HearsGroup.{Rises, Again, Old as OldGroup}
use Rattle.maps_model.specs.Rules.HearsJoin.{Late, Above, Joins}
use Rattle.maps_model.specs.Rules.HearsInstall.{Old as OldInstall, NotPromised, NotMember, Enters}
use Rattle.maps_model.specs.Rules.HearsReport.{Stale as StaleReport, Takes, Older}
use Rattle.maps_model.specs.Rules.HearsAck.{Stale as StaleAck, Clears, Other}
use Rattle.maps_model.proofs.Order.{before_not_most}
use Rattle.whole_world.specs.Settled.{IsSettled}
use Rattle.whole_world.specs.Sweeps.{NoLaterInstall, SettlesSo, SettlesEpoch}
use Rattle.whole_world.specs.Sweeps.SettlesSo.{Settled, SweepsOn}
use Rattle.whole_world.proofs.Charting.{sends_none}
use Rattle.whole_world.proofs.Staying.{plain_stays, posts_up, sweeps_stay}

-- what a node of the epoch hears leaves it there, if no Install is of a later epoch
record KeepsEpoch (x : maps.Node) (did : maps_rules.Reaction) : Type 0 where
  boot : did.node.boot ≡ x.boot
  installed : did.node.installed ≡ x.installed

module _ (own : ℕ) (x : maps.Node) (disk : maps.Disk) (letter : Letter) (did : maps_rules.Reaction) (g : Membership) (installed : x.installed ≡ Some g) where
  keeps : (y : maps.Node) → did.node ≡ y → y.boot ≡ x.boot → y.installed ≡ x.installed → KeepsEpoch x did
  keeps y e boots same = record { boot = ap (λ (k : maps.Node). k.boot) e ∙ boots; installed = ap (λ (k : maps.Node). k.installed) e ∙ same }

  stays_there : (body : Body) → IsMapsBody body → ((other : Membership) → body ≡ Install other → IsAtMost other.epoch g.epoch) → maps_rules.Hears own x disk letter body did → KeepsEpoch x did
  stays_there (Group epoch) of most (Rises b e) = keeps _ (ap (λ (d : maps_rules.Reaction). d.node) e) refl refl
  stays_there (Group epoch) of most (Again b e) = keeps _ (ap (λ (d : maps_rules.Reaction). d.node) e) refl refl
  stays_there (Group epoch) of most (OldGroup b e) = keeps _ (ap (λ (d : maps_rules.Reaction). d.node) e) refl refl
  stays_there (Join epoch promise boot was claims) of most (Late n e) = keeps _ (ap (λ (d : maps_rules.Reaction). d.node) e) refl refl
  stays_there (Join epoch promise boot was claims) of most (Above k a b c e) = keeps _ (ap (λ (d : maps_rules.Reaction). d.node) e) refl refl
  stays_there (Join epoch promise boot was claims) of most (Joins k a b c e) = keeps _ (ap (λ (d : maps_rules.Reaction). d.node) e) refl refl
  stays_there (Install k) of most (OldInstall w e) = keeps _ (ap (λ (d : maps_rules.Reaction). d.node) e) refl refl
  stays_there (Install k) of most (NotPromised w e) = keeps _ (ap (λ (d : maps_rules.Reaction). d.node) e) refl refl
  stays_there (Install k) of most (NotMember w e) = keeps _ (ap (λ (d : maps_rules.Reaction). d.node) e) refl refl
  stays_there (Install k) of most (Enters a b c marked rows entering e) = absurd (before_not_most g.epoch k.epoch (subst (λ (o : Option Membership). IsBefore (maps.epoch_in o) k.epoch) installed b) (most k refl))
  stays_there (Report row) of most (StaleReport n e) = keeps _ (ap (λ (d : maps_rules.Reaction). d.node) e) refl refl
  stays_there (Report row) of most (Takes k a b c e) = keeps _ (ap (λ (d : maps_rules.Reaction). d.node) e) refl refl
  stays_there (Report row) of most (Older k a b s c d e) = keeps _ (ap (λ (d : maps_rules.Reaction). d.node) e) refl refl
  stays_there (ReportAck user version) of most (StaleAck n e) = keeps _ (ap (λ (d : maps_rules.Reaction). d.node) e) refl refl
  stays_there (ReportAck user version) of most (Clears k a b c e) = keeps _ (ap (λ (d : maps_rules.Reaction). d.node) e) refl refl
  stays_there (ReportAck user version) of most (Other k a b c e) = keeps _ (ap (λ (d : maps_rules.Reaction). d.node) e) refl refl
  stays_there body of most h = absurd of

-- who is in the epoch stays in it, and no Install of a later one is sent
record Within (g : Membership) (old new : World) : Type 0 where
  ups : (n : ℕ) (node : Node) (disk : List Record) → IsUp old n node disk → node.maps.installed ≡ Some g
      → (now : Node) × (its : List Record) × IsUp new n now its × (now.maps.boot ≡ node.maps.boot) × (now.maps.installed ≡ Some g)
  most : NoLaterInstall old g → NoLaterInstall new g

within_on : (g : Membership) (a b c : World) → Within g a b → Within g b c → Within g a c
within_on g a b c p q = record {
  ups = λ n node disk up i. let s = p.ups n node disk up i in let t = q.ups n s.0 s.1 s.2 s.4 in (t.0, t.1, t.2, t.3 ∙ s.3, t.4);
  most = λ m. q.most (p.most m);
}

mail_no_install : (body : Body) → IsMailBody body → (g : Membership) → body ≡ Install g → ⊥
mail_no_install body of g e = subst IsMailBody e of

module _ (plan : Plan) (tells : Bool) (g : Membership) (old new : World) (stands : Stands plan old) (most : NoLaterInstall old g) where
  -- a letter of maps is heard
  heard_within : (number : ℕ) (keep : Bool) (f : mail.Flies (mail_world_of old) number) (node : Node) (disk : List Record) → IsUp old f.letter.to node disk → IsMapsBody f.letter.body
      → (did : maps_rules.Reaction) → maps_rules.Hears f.letter.to node.maps (maps_disk_of disk) f.letter f.letter.body did
      → new ≡ after (record old { flying = mail.flies_on (mail_world_of old) number f keep }) f.letter.to (done_for_maps (learnt node f.letter.body) disk did (promise_by node.maps f.letter.body) did.out) → Within g old new
  heard_within number keep f node disk up of did h is = subst (Within g old) (sym is) (record { ups = ups; most = sends })
    where
      own : ℕ
      own = f.letter.to

      now : Reaction
      now = done_for_maps (learnt node f.letter.body) disk did (promise_by node.maps f.letter.body) did.out

      left : World
      left = record old { flying = mail.flies_on (mail_world_of old) number f keep }

      written : World
      written = record left { slots = with_slot old.slots own (slot_up now.node now.disk) }

      slots : (after left own now).slots ≡ with_slot old.slots own (slot_up now.node now.disk)
      slots = put_slots did.out written

      slot_same : (o : Option Slot) (a b : Slot) → o ≡ Some a → o ≡ Some b → a ≡ b
      slot_same o a b p q = cc

      same_node : (a b : Node) → Up a ≡ Up b → a ≡ b
      same_node a b e = cc

      ups : (n : ℕ) (other : Node) (its : List Record) → IsUp old n other its → other.maps.installed ≡ Some g
          → (z : Node) × (d : List Record) × IsUp (after left own now) n z d × (z.maps.boot ≡ other.maps.boot) × (z.maps.installed ≡ Some g)
      ups n other its there i = ⊎_elim
          (λ same.
          let slot : slot_up other its ≡ slot_up node disk = slot_same (slot_at old.slots own) (slot_up other its) (slot_up node disk) (ap (slot_at old.slots) (sym same.1) ∙ there) up in
          let who : other ≡ node = same_node other node (ap (λ (s : Slot). s.life) slot) in
          let its_epoch : node.maps.installed ≡ Some g = subst (λ (k : Node). k.maps.installed ≡ Some g) who i in
          let k = stays_there own node.maps (maps_disk_of disk) f.letter did g its_epoch f.letter.body of (λ m e. most f.letter (flew (mail_world_of old) number f) m e) h in (
            now.node,
            now.disk,
            ap (λ (l : List Slot). slot_at l n) slots ∙ ap (slot_at (with_slot old.slots own (slot_up now.node now.disk))) same.1 ∙ slot_here old.slots own (slot_up node disk) (slot_up now.node now.disk) up,
            k.boot ∙ ap (λ (x : Node). x.maps.boot) (sym who),
            k.installed ∙ its_epoch,
          ))
          (λ d. (other, its, ap (λ (l : List Slot). slot_at l n) slots ∙ slot_other old.slots own n (slot_up now.node now.disk) d.1 ∙ there, refl, i))
          (same_or_apart n own)

      sends : NoLaterInstall old g → NoLaterInstall (after left own now) g
      sends before letter m other e = ⊎_elim
          (λ stood. before letter (flew_on (mail_world_of old) number f keep letter stood) other e)
          (λ sent. absurd (sends_none own node.maps (maps_disk_of disk) f.letter did letter other f.letter.body of h sent e))
          (put_among did.out written letter m)

  post_within : (number : ℕ) (said : Said) → MakesStep plan tells old (OfMessages (Post number false)) (Says said) new → IsFine said → Within g old new
  post_within number said (fits, ForMessages one step answer says for_mail does follow) fine =
      let posts : mail_makes.DoesStep plan tells (mail_world_of old) (Post number false) answer (mail_world_of new) = subst (λ (k : mail_steps.Step). mail_makes.DoesStep plan tells (mail_world_of old) k answer (mail_world_of new)) (inside one step) does in
      let plain = steps_plain (mail_world_of old) (mail_world_of new) (apart plan old stands) plan tells (Post number false) answer (λ n e. not_start n e) (of_mail old (Post number false) (subst (IsForMessages old) (inside one step) for_mail)) posts in
      let s = plain_stays old new plain follow (posts_up (mail_world_of old) (mail_world_of new) plan tells number false answer (λ n e. fine n (says ∙ ap Told e)) posts) in
      record {
        ups = λ n node disk up i. let k = s.ups n node disk up in (k.0, k.1, k.2, k.3, k.4 ∙ i);
        most = λ before letter m other e. ⊎_elim (λ stood. before letter stood other e) (λ (sent : IsMailOf (mail_world_of old) letter). absurd (mail_no_install letter.body sent.mail.body other e)) (plain.letters letter m);
      }
    where
      inside : (k : mail_steps.Step) → OfMessages (Post number false) ≡ OfMessages k → k ≡ Post number false
      inside k e = cc

      not_start : (n : ℕ) → Post number false ≡ Start n → ⊥
      not_start n e = cc
  post_within number said (fits, PostsMaps other keep step (Hears f node disk up of fresh did h says is)) fine = heard_within other keep f node disk up of did h is
  post_within number said (fits, PostsMaps other keep step (FailsHearing f node disk up of fresh says down d is)) fine = absurd (fine f.letter.to says)
  post_within number said (fits, Starts n step h) fine = absurd (clash n step)
    where
      clash : (n : ℕ) → OfMessages (Post number false) ≡ OfMessages (Start n) → ⊥
      clash n e = cc
  post_within number said (fits, OpensGroup n step h) fine = absurd (cc step)
  post_within number said (fits, ConcludesGroup n step h) fine = absurd (cc step)
  post_within number said (fits, SendsReports a b step h) fine = absurd (cc step)

flows_within : (plan : Plan) (tells : Bool) (g : Membership) (w new : World) → Flows plan tells w new → Stands plan w → NoLaterInstall w g → Stands plan new × Within g w new × (new.flying ≡ [])
flows_within plan tells g w new (Flowed _ _ none e) stands most = (
  subst (Stands plan) (sym e) stands,
  subst (Within g w) (sym e) (record { ups = λ n x d u i. (x, d, u, refl, i); most = λ m. m }),
  ap (λ (v : World). v.flying) e ∙ none,
)
flows_within plan tells g w new (FlowsOn _ _ flight m low said mid made fine rest) stands most =
    let step = post_within plan tells g w mid stands most flight.number said made fine in
    let more = flows_within plan tells g mid new rest (makes_stand plan w stands tells (OfMessages (Post flight.number false)) (Says said) mid made) (step.most most) in
    (more.0, within_on g w mid new step more.1, more.2)

pub flows_stay_live : (plan : Plan) (tells : Bool) (w new : World) (g : Membership) → Stands plan w → NoLaterInstall w g → Flows plan tells w new
    → Stands plan new × (new.flying ≡ []) × ((member : Member) → IsLive w g member → IsLive new g member)
flows_stay_live plan tells w new g stands most flows =
    let s = flows_within plan tells g w new flows stands most in
    (s.0, s.2, λ member live. let k = s.1.ups member.node live.node live.disk live.up live.installed in record { node = k.0; disk = k.1; up = k.2; boot = k.3 ∙ live.boot; installed = k.4 })

goes_settled : (plan : Plan) (tells : Bool) (g : Membership) (pairs : List (ℕ × ℕ)) (w new : World) → SettlesSo plan tells g pairs w new → Stands plan w → w.flying ≡ [] → Stands plan new × IsSettled new g × (new.flying ≡ [])
goes_settled plan tells g pairs w new (Settled _ _ settled e) stands still = (
  subst (Stands plan) (sym e) stands,
  subst (λ (v : World). IsSettled v g) (sym e) settled,
  ap (λ (v : World). v.flying) e ∙ still,
)
goes_settled plan tells g pairs w new (SweepsOn _ mid _ sweeps rest) stands still =
    let s = sweeps_stay plan tells w mid pairs stands still sweeps in goes_settled plan tells g pairs mid new rest s.0 s.1

pub settle_settles : (plan : Plan) (tells : Bool) (old new : World) (g : Membership) (pairs : List (ℕ × ℕ)) → Stands plan old → NoLaterInstall old g → SettlesEpoch plan tells g pairs old new
    → Stands plan new × IsSettled new g × (new.flying ≡ [])
settle_settles plan tells old new g pairs stands most s =
    let f = flows_stay_live plan tells old s.flown g stands most s.flows in goes_settled plan tells g pairs s.flown new s.goes f.0 f.1

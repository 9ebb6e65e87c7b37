-- A login that begins in a settled epoch at a member is fresh, and steps of readers leave it so.
use Rattle.std.proofs.Common.{◌≡◌, ⊎_elim, ℕ, arith, Bool, List, map, refl, sym, ap, ◌∙◌, subst}
use Rattle.mail_model.specs.Plan.{Plan, Proof}
use Rattle.mail_model.specs.Record.{Record}
use Rattle.object_model.specs.Letters.{Number, Membership}
use Rattle.object_model.proofs.Lists.{same_some}
use Rattle.cluster_model.specs.Reads.{IsListedCopy}
use Rattle.cluster_model.specs.Rules.{new_number}
use Rattle.cluster_model.specs.Steps as mail_steps
use Rattle.cluster_model.specs.Steps.NodeCall.{Login}
use Rattle.cluster_model.specs.Steps.Step.{Begin}
use Rattle.cluster_model.specs.Steps.Said.{Begun}
use Rattle.whole_world.specs.Makes.{MadeStep}
use Rattle.whole_world.specs.Steps.Step.{OfMessages}
use Rattle.whole_world.specs.Steps.Said.{Told}
use Rattle.whole_world.specs.Steps.StepOutcome.{Says}
use Rattle.login_model.specs.Cluster as login
use Rattle.login_model.specs.Cluster.{Slot}
use Rattle.login_model.specs.Readings.Subject.{OfUser}
use Rattle.login_model.specs.Facts.{DrawnAt, IsDrawn}
use Rattle.login_model.specs.Listing.{SameFor, IsStillSlot}
use Rattle.login_model.proofs.Still.{since_fresh}
use Rattle.joint_model.specs.Joint.{Node, slot_up, read_node, read_slot}
use Rattle.joint_model.proofs.Kept.{read_here}
use Rattle.joint_world.specs.World.{World, reads_of, IsUp}
use Rattle.joint_world.specs.Makes.{BeginsRead, DoesStep, MakesStep}
use Rattle.joint_world.specs.Makes.BeginsRead.{FailsAtOnce, BeginsLogin, BeginsFetch, FailsReading, Leaves}
use Rattle.joint_world.specs.Makes.DoesStep.{ForWhole, Begins, Asks, GivesUp, Posts, Drops}
use Rattle.joint_world.specs.Laws.{Stands}
use Rattle.joint_world.proofs.Subjects.{subject_begins, subject_stays}
use Rattle.settled_logins.specs.Reading.{IsReaderStep, login_begun}
use Rattle.settled_logins.specs.Settled.{ReadersStand, IsMember, BeganSettled}
use Rattle.settled_logins.proofs.Readers.{reader_goes, from_start}
use Rattle.settled_logins.proofs.Resting.{rests_seen, rests_back}

-- the number that a Begin says is the next of its node
record Draws (old : World) (n : ℕ) (number : Number) : Type 0 where
  node : Node
  disk : List Record
  up : IsUp old n node disk
  is : number ≡ new_number n node.whole.mail

draws : (plan : Plan) (tells : Bool) (old new : World) (n : ℕ) (user : List ℕ) (proof : Proof) (number : Number) → DoesStep plan tells old (OfMessages (Begin n (Login user proof))) (Told (Begun number)) new → Draws old n number
draws plan tells old new n user proof number does = by does
  where
    number_is : (a b : Number) → Told (Begun a) ≡ Told (Begun b) → a ≡ b
    number_is a b k = cc

    from : (own : ℕ) (call : mail_steps.NodeCall) → BeginsRead plan tells old own call (Told (Begun number)) new → Draws old own number
    from own call (FailsAtOnce node disk kind up fails says is) = record { node = node; disk = disk; up = up; is = number_is number (new_number own node.whole.mail) says }
    from own call (BeginsLogin node disk name secret up is did l says does_) = record { node = node; disk = disk; up = up; is = number_is number (new_number own node.whole.mail) says }
    from own call (BeginsFetch node disk name id at most holders up is did f says does_) = record { node = node; disk = disk; up = up; is = number_is number (new_number own node.whole.mail) says }
    from own call (FailsReading node disk name id at most holders up is own_holds says is_new) = absurd (cc says)
    from own call (Leaves node disk name number_ manager up is says does_) = absurd (cc says)

    node_is : (a : ℕ) (c : mail_steps.NodeCall) → OfMessages (Begin n (Login user proof)) ≡ OfMessages (Begin a c) → a ≡ n
    node_is a c e = cc

    by : DoesStep plan tells old (OfMessages (Begin n (Login user proof))) (Told (Begun number)) new → Draws old n number
    by (ForWhole of makes stay) = absurd of
    by (Begins own call is b) = subst (λ k. Draws old k number) (node_is own call is) (from own call b)
    by (Asks k is of a) = absurd (cc is)
    by (GivesUp k is of g) = absurd (cc is)
    by (Posts k keep is of p) = absurd (cc is)
    by (Drops k is d) = absurd (cc is)

-- such a number was not drawn before
undrawn : (tells : Bool) (old : World) (n : ℕ) (number : Number) → Draws old n number → IsDrawn (map (read_slot tells) old.slots) number → ⊥
undrawn tells old n number d drawn = by (subst (IsDrawn (map (read_slot tells) old.slots)) d.is drawn)
  where
    by : IsDrawn (map (read_slot tells) old.slots) (new_number n d.node.whole.mail) → ⊥
    by k =
        let same : k.slot ≡ login.slot_up (read_node tells d.node) d.disk = same_some (login.slot_at (map (read_slot tells) old.slots) n) k.slot (login.slot_up (read_node tells d.node) d.disk) k.here
        (read_here tells old.slots n (slot_up d.node d.disk) d.up) in
        ⊎_elim (λ earlier. omega (arith, earlier)) (λ (boot, seq). omega (arith, seq)) (subst (λ (s : Slot). DrawnAt s (new_number n d.node.whole.mail)) same k.drawn)

pub begins_settled : (plan : Plan) (tells : Bool) (story : List (List login.Slot)) (old new : World) → Stands plan tells story old → (g : Membership) → ReadersStand old g
    → (n : ℕ) → IsMember g n → (user : List ℕ) (proof : Proof) (number : Number) → MakesStep plan tells old (OfMessages (Begin n (Login user proof))) (Says (Told (Begun number))) new
    → BeganSettled tells new g number user
begins_settled plan tells story old new stands g r n member user proof number makes =
    let reader : IsReaderStep (login_begun n user proof number) = IsReaderStep.LogsIn n user proof refl (record { disks = λ k e. cc e; memory = λ k e. cc e }) in
    let s = reader_goes plan tells story story old stands.whole (from_start tells story old g r stands.reads) (login_begun n user proof number) reader new makes in
    let d = draws plan tells old new n user proof number makes.1 in
    record {
      member = (member.0, member.1, member.2 ∙ sym (ap (λ (k : Number). k.node) d.is));
      about = subject_begins plan tells story old new n (Login user proof) number (OfUser user) makes stands refl;
      story = s.goes.story;
      sound = s.goes.goes.sound;
      fresh = since_fresh story (reads_of tells s.goes.story new) number s.goes.goes.since (λ moment m was. undrawn tells old n number d (stands.reads.knows.past moment m number was)) user;
    }

-- nothing of a user changes where slots are still
same_for : (user : List ℕ) (a b : Slot) → IsStillSlot a b → SameFor user a b
same_for user a b s = record {
  lists = λ copy. (λ l. subst (λ d. IsListedCopy user d copy) s.disk l, λ l. subst (λ d. IsListedCopy user d copy) (sym s.disk) l);
  named = λ old new x y. let m = s.maps old new x y in (ap (λ (f : List ℕ → ℕ). f user) m.0, ap (λ (f : List ℕ → _). f user) m.1);
}

same_then : (user : List ℕ) (a b c : Slot) → SameFor user a b → IsStillSlot b c → IsStillSlot c b → SameFor user a c
same_then user a b c p still back = record {
  lists = λ copy. (λ l. subst (λ d. IsListedCopy user d copy) still.disk ((p.lists copy).0 l), λ l. (p.lists copy).1 (subst (λ d. IsListedCopy user d copy) (sym still.disk) l));
  named = λ old new x y.
      let mid = back.up new y in
      let first = p.named old mid.0 x mid.1 in
      let second = still.maps mid.0 new mid.1 y in
      (first.0 ∙ ap (λ (f : List ℕ → ℕ). f user) second.0, first.1 ∙ ap (λ (f : List ℕ → _). f user) second.1);
}

pub stays_settled : (plan : Plan) (tells : Bool) (story : List (List login.Slot)) (old new : World) (made : MadeStep) → Stands plan tells story old → (g : Membership) → ReadersStand old g
    → MakesStep plan tells old made.step made.outcome new → IsReaderStep made → (number : Number) (user : List ℕ) → BeganSettled tells old g number user → BeganSettled tells new g number user
stays_settled plan tells story old new made stands g r makes reader number user began =
    let s = reader_goes plan tells began.story began.story old stands.whole (from_start tells began.story old g r began.sound) made reader new makes in
    record {
      member = began.member;
      about = subject_stays plan tells story old new made.step made.outcome number (OfUser user) makes stands began.about;
      story = s.goes.story;
      sound = s.goes.goes.sound;
      fresh = λ moment m drawn n slot at. ⊎_elim
          (λ was.
          let before = began.fresh moment was drawn n slot at in
          let now = rests_seen tells old new s.rests n before.0 before.1 in
          (now.0, now.1, same_then user slot before.0 now.0 before.2 now.2 (rests_back tells old new s.rests n before.0 now.0 before.1 now.1)))
          (λ still. let now = still n slot at in (now.0, now.1, same_for user slot now.0 now.2))
          (s.goes.goes.since moment m);
    }

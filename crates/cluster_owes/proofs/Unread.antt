-- A call of messages begins: among calls that read there is no ticket of its number.
use Rattle.std.proofs.Common.{◌≡◌, ◌⊎◌, inl, inr, ⊎_elim, ◌≤◌, ◌+◌, ℕ, Bool, true, List, map, Some, refl, sym, ap, ◌∙◌, subst, arith}
use Rattle.std.specs.FinMap as fin
use Rattle.mail_model.specs.Plan.{Plan}
use Rattle.mail_model.specs.Record.{Record}
use Rattle.object_model.specs.Letters.{Number}
use Rattle.cluster_model.specs.Cluster as mail_cluster
use Rattle.cluster_model.specs.Claims.{IsIdDrawn, DrawnIn}
use Rattle.cluster_model.specs.Deeds as mail_deeds
use Rattle.cluster_model.specs.Rules.{new_number}
use Rattle.cluster_model.specs.Steps.{NodeCall}
use Rattle.cluster_model.specs.Steps.NodeCall.{Deliver, Strike}
use Rattle.cluster_model.specs.Steps.Step.{Begin}
use Rattle.cluster_model.specs.Steps.Said.{Begun}
use Rattle.cluster_model.specs.Makes as mail_makes
use Rattle.cluster_model.specs.Makes.BeginsCall.{FailsAtOnce, Goes, FailsInIt}
use Rattle.cluster_model.specs.Makes.BeginsRead.{HasNoManager, Draws, FailsReading, Leaves}
use Rattle.whole_model.specs.Whole as whole
use Rattle.whole_world.specs.Steps.Step.{OfMessages}
use Rattle.whole_world.specs.Steps.Said.{Told}
use Rattle.whole_world.specs.Steps.StepOutcome.{Says}
use Rattle.whole_world.proofs.Projecting.{makes_seen}
use Rattle.login_model.specs.Cluster as login
use Rattle.login_model.specs.Readings.{ReadTicket, Subject}
use Rattle.login_model.specs.Facts.{IsDrawn}
use Rattle.login_model.specs.Facts as login_facts
use Rattle.login_model.proofs.Hears as login_hears
use Rattle.joint_model.specs.Joint.{Node, Life, Slot, slot_at, slot_up, whole_life, whole_slot, read_node, read_life, read_slot}
use Rattle.joint_model.specs.Joint.Life.{Up, Down, Lost}
use Rattle.joint_model.proofs.Kept.{read_here}
use Rattle.joint_world.specs.World.{World, whole_world_of, mail_world_of}
use Rattle.joint_world.specs.Laws.{Stands}
use Rattle.joint_world.specs.Staying.{IsMailCall, KeepsReads, ReadsStay}
use Rattle.joint_world.specs.Makes.{FailsFor, HasTicket, BeginsRead, DoesStep, MakesStep}
use Rattle.joint_world.specs.Subjects.{IsAbout}
use Rattle.joint_world.proofs.Views.{mail_at, mail_back}
use Rattle.cluster_owes.proofs.Standing.{IsWithinCalls}
use Rattle.cluster_owes.proofs.WorldSteps.{boot_id}

-- what messages know of a number that was drawn calls that read know, too
drawn_life : (life : Life) (disk : List Record) (number : Number) → DrawnIn (whole.mail_life (whole_life life)) disk (boot_id number) → ((node : Node) → life ≡ Up node → number.boot ≡ node.whole.mail.boot → number.seq ≤ node.whole.mail.calls)
    → login_facts.DrawnIn (read_life true life) disk number
drawn_life (Up node) disk number d calls = ⊎_elim (λ less. inl less) (λ (same, le). inr (same, calls node refl same)) d
drawn_life (Down pending) disk number d calls = d
drawn_life Lost disk number d calls = d

drawn_flag : (tells : Bool) (life : Life) (disk : List Record) (number : Number) → login_facts.DrawnIn (read_life true life) disk number → login_facts.DrawnIn (read_life tells life) disk number
drawn_flag tells (Up node) disk number d = d
drawn_flag tells (Down pending) disk number d = d
drawn_flag tells Lost disk number d = d

drawn_seen : (tells : Bool) (w : World) (number : Number) → IsIdDrawn (mail_world_of w).slots (boot_id number) → IsWithinCalls (mail_world_of w).slots number → IsDrawn (map (read_slot tells) w.slots) number
drawn_seen tells w number drawn within =
    let (slot, here, same) = mail_back w number.node drawn.slot drawn.here in record {
      slot = read_slot tells slot;
      here = read_here tells w.slots number.node slot here;
      drawn = drawn_flag tells slot.life slot.disk number (drawn_life slot.life slot.disk number
          (subst (λ (s : mail_cluster.Slot). DrawnIn s.life s.disk (boot_id number)) (sym same) drawn.drawn)
          (λ node up boot. within node.whole.mail slot.disk (mail_at w number.node slot here ∙ ap (λ (l : Life). Some (record { life = whole.mail_life (whole_life l); disk = slot.disk })) up) boot));
    }

-- the node that began the call, and the number that it drew
pub record DrewNumber (old : World) (n : ℕ) (number : Number) : Type 0 where
  pub node : mail_cluster.Node
  pub disk : List Record
  pub up : mail_makes.IsUp (mail_world_of old) n node disk
  pub is : number ≡ new_number n node

drew : (plan : Plan) (tells : Bool) (old new : World) (n : ℕ) (call : NodeCall) (number : Number) → IsMailCall call
    → mail_makes.BeginsCall plan tells (mail_world_of old) n call (Begun number) (mail_world_of new) ⊎ mail_makes.BeginsRead plan (mail_world_of old) n call (Begun number) (mail_world_of new) → DrewNumber old n number
drew plan tells old new n call number of (inl (FailsAtOnce node disk kind up of_kind fails is new_world)) = record { node = node; disk = disk; up = up; is = cc is }
drew plan tells old new n call number of (inl (Goes node disk octets up fails filed is new_world)) = record { node = node; disk = disk; up = up; is = cc is }
drew plan tells old new n call number of (inl (FailsInIt node disk octets up filed is g)) = absurd (cc is)
drew plan tells old new n call number of (inr (HasNoManager node disk user proof up logs_in goes is new_world)) = record { node = node; disk = disk; up = up; is = cc is }
drew plan tells old new n call number of (inr (Draws node disk up draws goes is on)) = record { node = node; disk = disk; up = up; is = cc is }
drew plan tells old new n call number of (inr (FailsReading node disk user id from most holders up fetches reads is new_world)) = absurd (cc is)
drew plan tells old new n call number of (inr (Leaves node disk user login manager up leaves is on)) = absurd (cc is)

module _ (plan : Plan) (tells : Bool) (story : List (List login.Slot)) (old new : World) (stands : Stands plan tells story old) (n : ℕ) (number : Number) (drew : DrewNumber old n number) (stay : ReadsStay old new) where
  -- no ticket that stood had the number
  undrawn : (slot : Slot) → slot_at old.slots n ≡ Some slot → (x : Node) → slot.life ≡ Up x → x.whole.mail ≡ drew.node → (ticket : ReadTicket) → fin.get x.reads number.seq ≡ Some ticket → ⊥
  undrawn slot here x up same ticket at =
      let ready = stands.reads.order.each n (read_slot tells slot) (read_here tells old.slots n slot here) in
      let le = (ready.each (read_node tells x) (ap (read_life tells) up)).numbered number.seq ticket at in
      let seq : number.seq ≡ drew.node.calls + 1 = ap (λ (k : Number). k.seq) drew.is in
      let calls : x.whole.mail.calls ≡ drew.node.calls = ap (λ (m : mail_cluster.Node). m.calls) same in
      omega (arith, le, seq, calls)

  none_there : HasTicket new number → ⊥
  none_there one = by slot.0 slot.1 slot.0.life refl (ap (λ (s : mail_cluster.Slot). s.life) slot.2)
    where
      slot : (slot : Slot) × (slot_at old.slots n ≡ Some slot) × (whole.mail_slot (whole_slot slot) ≡ mail_deeds.slot_up drew.node drew.disk)
      slot = mail_back old n (mail_deeds.slot_up drew.node drew.disk) drew.up

      at_n : number.node ≡ n
      at_n = ap (λ (k : Number). k.node) drew.is

      here_now : slot_at new.slots n ≡ Some (slot_up one.node one.disk)
      here_now = ap (slot_at new.slots) (sym at_n) ∙ one.up

      ticket_there : fin.get one.node.reads number.seq ≡ Some one.ticket
      ticket_there = (login_hears.read_here number.node (read_node true one.node) number one.ticket one.here).here

      mail_same : (a b : mail_cluster.Node) → mail_cluster.Life.Up a ≡ mail_cluster.Life.Up b → a ≡ b
      mail_same a b e = cc

      by : (slot : Slot) → slot_at old.slots n ≡ Some slot → (life : Life) → slot.life ≡ life → whole.mail_life (whole_life slot.life) ≡ mail_cluster.Life.Up drew.node → ⊥
      by slot here (Up x) is e =
          let keeps : KeepsReads (Up x) one.node = subst (λ (l : Life). KeepsReads l one.node) is (stay.each n slot (slot_up one.node one.disk) here here_now one.node refl) in
          undrawn slot here x is (mail_same x.whole.mail drew.node (subst (λ (l : Life). whole.mail_life (whole_life l) ≡ mail_cluster.Life.Up drew.node) is e)) one.ticket (ap (λ r. fin.get r number.seq) (sym keeps.0) ∙ ticket_there)
      by slot here (Down pending) is e = clash (subst (λ (l : Life). whole.mail_life (whole_life l) ≡ mail_cluster.Life.Up drew.node) is e)
        where
          clash : mail_cluster.Life.Down pending ≡ mail_cluster.Life.Up drew.node → ⊥
          clash p = cc
      by slot here Lost is e = clash (subst (λ (l : Life). whole.mail_life (whole_life l) ≡ mail_cluster.Life.Up drew.node) is e)
        where
          clash : mail_cluster.Life.Lost ≡ mail_cluster.Life.Up drew.node → ⊥
          clash p = cc

-- so of such a call each subject may be said to be that of its ticket
pub mail_about : (plan : Plan) (tells : Bool) (story : List (List login.Slot)) (old new : World) (n : ℕ) (call : NodeCall) (number : Number) → IsMailCall call
    → MakesStep plan tells old (OfMessages (Begin n call)) (Says (Told (Begun number))) new → Stands plan tells story old
    → IsIdDrawn (mail_world_of new).slots (boot_id number) → IsWithinCalls (mail_world_of new).slots number → (subject : Subject) → IsAbout tells new number subject
mail_about plan tells story old new n call number of made stands drawn within subject = record {
  drawn = drawn_seen tells new number drawn within;
  reads = λ one. absurd (by one made.1);
}
  where
    no_read : (own : ℕ) (other : NodeCall) → OfMessages (Begin n call) ≡ OfMessages (Begin own other) → BeginsRead plan tells old own other (Told (Begun number)) new → ⊥
    no_read own other is (BeginsRead.FailsAtOnce node disk kind up fails says new_world) = never other (subst IsMailCall (let same : call ≡ other = cc is in same) of) fails
      where
        never : (c : NodeCall) → IsMailCall c → FailsFor tells node c kind → ⊥
        never (Deliver mail) m f = f
        never (Strike user items) m f = f
        never c m f = m
    no_read own other is (BeginsRead.BeginsLogin node disk user proof up is_call did logs says does) = subst IsMailCall (let same : call ≡ other = cc is in same ∙ is_call) of
    no_read own other is (BeginsRead.BeginsFetch node disk user id at most holders up is_call did fetches says does) = subst IsMailCall (let same : call ≡ other = cc is in same ∙ is_call) of
    no_read own other is (BeginsRead.FailsReading node disk user id at most holders up is_call reads says new_world) = subst IsMailCall (let same : call ≡ other = cc is in same ∙ is_call) of
    no_read own other is (BeginsRead.Leaves node disk user login manager up is_call says does) = subst IsMailCall (let same : call ≡ other = cc is in same ∙ is_call) of

    by : HasTicket new number → DoesStep plan tells old (OfMessages (Begin n call)) (Told (Begun number)) new → ⊥
    by one (DoesStep.ForWhole for made stay) = none_there plan tells story old new stands n number
        (drew plan tells old new n call number of (makes_seen plan tells (whole_world_of old) (whole_world_of new) (OfMessages (Begin n call)) (Says (Told (Begun number))) made).1) stay one
    by one (DoesStep.Begins own other is read) = no_read own other is read
    by one (DoesStep.Asks other is reads answers) = cc is
    by one (DoesStep.GivesUp other is reads gives) = cc is
    by one (DoesStep.Posts letter keep is of posts) = cc is
    by one (DoesStep.Drops letter is drops) = cc is

-- A step of the whole machine, in which tickets stay, is a step in which calls that read do nothing.
use Rattle.std.proofs.Common.{◌≡◌, ◌⊎◌, inl, inr, ⊎_elim, ◌≤◌, ◌<◌, arith, Bool, List, ◌∷◌, map, refl, sym, ap, ◌∙◌, subst, le_of_eq}
use Rattle.std.specs.FinMap as fin
use Rattle.mail_model.specs.Record.{Record}
use Rattle.object_model.specs.Letters.{Body, Letter}
use Rattle.object_model.specs.Letters.Body.{File, Filed, LoginAsk, LoginTold, ListAsk, ListTold, FetchAsk, FetchTold, Strike, StrikeTold, Unlock, Push, PushAck, Retire, Group, Join, Install, Report, ReportAck}
use Rattle.cluster_model.specs.Cluster as mail
use Rattle.cluster_model.specs.Claims.{boot_of}
use Rattle.whole_model.specs.Whole as whole
use Rattle.login_model.specs.Cluster as login
use Rattle.login_model.specs.Facts.{IsReadBody}
use Rattle.login_model.specs.NodeLaws.{IsOtherLetter}
use Rattle.login_model.specs.Parts as login_parts
use Rattle.login_model.specs.Beside.{TurnsBeside, IsBeside}
use Rattle.login_model.specs.Beside.TurnsBeside.{Works as StaysUp, IsOff as GoesOff, Starts as ComesUp}
use Rattle.login_model.proofs.Beside.{beside_sound}
use Rattle.joint_model.specs.Joint.{Node, Life, Slot, whole_slot, read_node, read_life, read_slot}
use Rattle.joint_model.specs.Joint.Life.{Up, Down, Lost}
use Rattle.joint_model.proofs.Kept.{read_here}
use Rattle.joint_model.proofs.Settled.{read_back}
use Rattle.joint_world.specs.World.{World, mail_world_of, reads_of}
use Rattle.joint_world.specs.Staying.{KeepsReads, ReadsStay}
use Rattle.joint_world.proofs.Calm.{Turns, IsCalm}
use Rattle.joint_world.proofs.Calm.Turns.{Rests, Works, IsOff, Starts}
use Rattle.joint_world.proofs.Views.{mail_at, mail_back}

-- each letter is one of a call that reads, or asks and tells nothing
pub read_or_other : (letter : Letter) → IsReadBody letter.body ⊎ IsOtherLetter letter
read_or_other letter = by letter.body refl
  where
    other : (body : Body) → letter.body ≡ body → IsOtherLetter (record letter { body = body }) → IsOtherLetter letter
    other body is o = subst (λ b. IsOtherLetter (record letter { body = b })) (sym is) o

    read : (body : Body) → letter.body ≡ body → IsReadBody body → IsReadBody letter.body
    read body is r = subst IsReadBody (sym is) r

    by : (body : Body) → letter.body ≡ body → IsReadBody letter.body ⊎ IsOtherLetter letter
    by (LoginAsk user proof) is = inl (read (LoginAsk user proof) is tt)
    by (LoginTold word) is = inl (read (LoginTold word) is tt)
    by (ListAsk user) is = inl (read (ListAsk user) is tt)
    by (ListTold items) is = inl (read (ListTold items) is tt)
    by (FetchAsk user id at most) is = inl (read (FetchAsk user id at most) is tt)
    by (FetchTold part) is = inl (read (FetchTold part) is tt)
    by (Unlock user login_) is = inl (read (Unlock user login_) is tt)
    by (File id stamp targets users octets) is = inr (other (File id stamp targets users octets) is (refl, λ e. cc e))
    by (Filed id) is = inr (other (Filed id) is (refl, λ e. cc e))
    by (Strike user marks) is = inr (other (Strike user marks) is (refl, λ e. cc e))
    by (StrikeTold user ids) is = inr (other (StrikeTold user ids) is (refl, λ e. cc e))
    by (Push key state octets) is = inr (other (Push key state octets) is (refl, λ e. cc e))
    by (PushAck key state) is = inr (other (PushAck key state) is (refl, λ e. cc e))
    by (Retire key state) is = inr (other (Retire key state) is (refl, λ e. cc e))
    by (Group epoch) is = inr (other (Group epoch) is (refl, λ e. cc e))
    by (Join epoch promise boot was claims) is = inr (other (Join epoch promise boot was claims) is (refl, λ e. cc e))
    by (Install membership) is = inr (other (Install membership) is (refl, λ e. cc e))
    by (Report row) is = inr (other (Report row) is (refl, λ e. cc e))
    by (ReportAck user version) is = inr (other (ReportAck user version) is (refl, λ e. cc e))

-- lives as messages see them
seen_up : (a b : mail.Node) → mail.Life.Up a ≡ mail.Life.Up b → a ≡ b
seen_up a b e = cc

down_up : (p : List Record) (a : mail.Node) → mail.Life.Down p ≡ mail.Life.Up a → ⊥
down_up p a e = cc

lost_up : (a : mail.Node) → mail.Life.Lost ≡ mail.Life.Up a → ⊥
lost_up a e = cc

abbrev seen : Slot → mail.Slot
seen slot = whole.mail_slot (whole_slot slot)

rises : (before after : mail.Slot) → Turns before after → boot_of before.disk ≤ boot_of after.disk
rises before after (Rests e) = le_of_eq (ap (λ (s : mail.Slot). boot_of s.disk) e)
rises before after (Works a b ea eb boot calls disks g) = le_of_eq (sym disks)
rises before after (IsOff not up g) = up
rises before after (Starts b was eb boot later g) = omega (arith, later, boot)

module _ (tells : Bool) (before after : Slot) (t : Turns (seen before) (seen after)) (keeps : (node : Node) → after.life ≡ Up node → KeepsReads before.life node) where
  off : ((node : login.Node) → read_life tells after.life ≡ login.Life.Up node → ⊥) → TurnsBeside (read_slot tells before) (read_slot tells after)
  off not = GoesOff not (rises (seen before) (seen after) t)

  -- it was up, and is
  works : (x y : Node) → before.life ≡ Up x → after.life ≡ Up y → TurnsBeside (read_slot tells before) (read_slot tells after)
  works x y ex ey = by t
    where
      from : (seen before).life ≡ mail.Life.Up x.whole.mail
      from = ap (λ l. (seen (record { life = l; disk = before.disk })).life) ex

      to : (seen after).life ≡ mail.Life.Up y.whole.mail
      to = ap (λ l. (seen (record { life = l; disk = after.disk })).life) ey

      kept : KeepsReads (Up x) y
      kept = subst (λ l. KeepsReads l y) ex (keeps y ey)

      made : y.whole.mail.boot ≡ x.whole.mail.boot → x.whole.mail.calls ≤ y.whole.mail.calls → boot_of after.disk ≡ boot_of before.disk → TurnsBeside (read_slot tells before) (read_slot tells after)
      made boot calls disks = StaysUp (read_node tells x) (read_node tells y) (ap (read_life tells) ex) (ap (read_life tells) ey) boot calls kept.0 disks

      by : Turns (seen before) (seen after) → TurnsBeside (read_slot tells before) (read_slot tells after)
      by (Rests e) =
          let same : x.whole.mail ≡ y.whole.mail = seen_up x.whole.mail y.whole.mail (sym from ∙ ap (λ (s : mail.Slot). s.life) e ∙ to) in
          made (ap (λ (n : mail.Node). n.boot) (sym same)) (le_of_eq (ap (λ (n : mail.Node). n.calls) same)) (ap (λ (s : mail.Slot). boot_of s.disk) (sym e))
      by (Works a b ea eb boot calls disks g) =
          let first : x.whole.mail ≡ a = seen_up x.whole.mail a (sym from ∙ ea) in
          let second : y.whole.mail ≡ b = seen_up y.whole.mail b (sym to ∙ eb) in
          made (ap (λ (n : mail.Node). n.boot) second ∙ boot ∙ ap (λ (n : mail.Node). n.boot) (sym first))
          (subst (λ (n : mail.Node). n.calls ≤ y.whole.mail.calls) (sym first) (subst (λ (n : mail.Node). a.calls ≤ n.calls) (sym second) calls)) disks
      by (IsOff not up g) = absurd (not y.whole.mail to)
      by (Starts b was eb boot later g) = absurd (was x.whole.mail from)

  -- it was not, and is
  starts : (y : Node) → after.life ≡ Up y → ((node : mail.Node) → (seen before).life ≡ mail.Life.Up node → ⊥) → ((node : login.Node) → read_life tells before.life ≡ login.Life.Up node → ⊥) → y.reads ≡ fin.empty
      → TurnsBeside (read_slot tells before) (read_slot tells after)
  starts y ey not_up unseen none = by t
    where
      to : (seen after).life ≡ mail.Life.Up y.whole.mail
      to = ap (λ l. (seen (record { life = l; disk = after.disk })).life) ey

      by : Turns (seen before) (seen after) → TurnsBeside (read_slot tells before) (read_slot tells after)
      by (Rests e) = absurd (not_up y.whole.mail (ap (λ (s : mail.Slot). s.life) e ∙ to))
      by (Works a b ea eb boot calls disks g) = absurd (not_up a ea)
      by (IsOff not up g) = absurd (not y.whole.mail to)
      by (Starts b was eb boot later g) =
          let same : y.whole.mail ≡ b = seen_up y.whole.mail b (sym to ∙ eb) in
          ComesUp (read_node tells y) unseen (ap (read_life tells) ey) (ap (λ (n : mail.Node). n.boot) same ∙ boot) (subst (λ (n : mail.Node). boot_of before.disk < n.boot) (sym same) later) none

  pub turned : TurnsBeside (read_slot tells before) (read_slot tells after)
  turned = by after.life refl before.life refl
    where
      down : (p : List Record) → after.life ≡ Down p → (node : login.Node) → read_life tells after.life ≡ login.Life.Up node → ⊥
      down p is node e = clash (sym (ap (read_life tells) is) ∙ e)
        where
          clash : login.Life.Down ≡ login.Life.Up node → ⊥
          clash k = cc

      lost : after.life ≡ Lost → (node : login.Node) → read_life tells after.life ≡ login.Life.Up node → ⊥
      lost is node e = clash (sym (ap (read_life tells) is) ∙ e)
        where
          clash : login.Life.Lost ≡ login.Life.Up node → ⊥
          clash k = cc

      by : (l : Life) → after.life ≡ l → (k : Life) → before.life ≡ k → TurnsBeside (read_slot tells before) (read_slot tells after)
      by (Down p) e k f = off (down p e)
      by Lost e k f = off (lost e)
      by (Up y) e (Up x) f = works x y f e
      by (Up y) e (Down p) f = starts y e
          (λ node u. down_up p node (sym (ap (λ l. (seen (record { life = l; disk = before.disk })).life) f) ∙ u))
          (λ node u. clash node (sym (ap (read_life tells) f) ∙ u))
          (subst (λ l. KeepsReads l y) f (keeps y e)).0
        where
          clash : (node : login.Node) → login.Life.Down ≡ login.Life.Up node → ⊥
          clash node k = cc
      by (Up y) e Lost f = starts y e
          (λ node u. lost_up node (sym (ap (λ l. (seen (record { life = l; disk = before.disk })).life) f) ∙ u))
          (λ node u. clash node (sym (ap (read_life tells) f) ∙ u))
          (subst (λ l. KeepsReads l y) f (keeps y e)).0
        where
          clash : (node : login.Node) → login.Life.Lost ≡ login.Life.Up node → ⊥
          clash node k = cc

-- so all of it
pub is_beside : (tells : Bool) (story : List (List login.Slot)) (old new : World) → IsCalm (mail_world_of old) (mail_world_of new) → ReadsStay old new
    → IsBeside (reads_of tells story old) (reads_of tells (map (read_slot tells) new.slots ∷ story) new)
is_beside tells story old new calm stay = record {
  turns = λ n after at.
      let one = read_back tells new.slots n after at in
      let t = calm.turns n (seen one.0) (mail_at new n one.0 one.1) in
      let was = mail_back old n t.0 t.1 in
      let turns : Turns (seen was.0) (seen one.0) = subst (λ (m : mail.Slot). Turns m (seen one.0)) (sym was.2) t.2 in (
        read_slot tells was.0,
        read_here tells old.slots n was.0 was.1,
        subst (TurnsBeside (read_slot tells was.0)) one.2 (turned tells was.0 one.0 turns (λ node up. stay.each n was.0 one.0 was.1 one.1 node up)),
      );
  stays = λ n before at.
      let one = read_back tells old.slots n before at in
      let there = calm.stays n (seen one.0) (mail_at old n one.0 one.1) in
      let now = mail_back new n there.0 there.1 in
      (read_slot tells now.0, read_here tells new.slots n now.0 now.1);
  kept = λ letter m. ⊎_elim (λ read. inr (calm.kept letter m read)) (λ other. inl other) (read_or_other letter);
  came = λ letter m. ⊎_elim (λ read. inr (calm.came letter m read)) (λ other. inl other) (read_or_other letter);
  story = refl;
}

pub besides : (tells : Bool) (story : List (List login.Slot)) (old new : World) → IsCalm (mail_world_of old) (mail_world_of new) → ReadsStay old new → login_parts.Sound (reads_of tells story old)
    → login_parts.Sound (reads_of tells (map (read_slot tells) new.slots ∷ story) new)
besides tells story old new calm stay s = beside_sound (reads_of tells story old) (reads_of tells (map (read_slot tells) new.slots ∷ story) new) (is_beside tells story old new calm stay) s

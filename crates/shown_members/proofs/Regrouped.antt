-- Once a node has regrouped, what it told is shown: all nodes that are up have installed it, and no Install that was in flight before names one of them and is of a later epoch.
use Rattle.std.proofs.Common.{◌≡◌, ◌≢◌, ◌⊎◌, inl, inr, ⊎_elim, ℕ, suc, ◌+◌, ◌≤◌, Bool, false, List, [], ◌∷◌, Option, Some, None, refl, sym, ap, ◌∙◌, subst, arith}
use Rattle.mail_model.specs.Identity.{EpochId}
use Rattle.mail_model.specs.Plan.{Plan}
use Rattle.mail_model.specs.Record.{Record}
use Rattle.object_model.specs.Lists.{Among}
use Rattle.object_model.specs.Letters.{Membership, Letter}
use Rattle.object_model.specs.Letters.Body.{Install}
use Rattle.cluster_model.specs.World.{letters_of}
use Rattle.cluster_model.specs.Steps.Step.{Start, Post}
use Rattle.maps_model.specs.Cluster as maps
use Rattle.maps_model.specs.Words as words
use Rattle.maps_model.specs.Epochs.{IsAtMost}
use Rattle.maps_model.specs.Rules as maps_rules
use Rattle.maps_model.proofs.Lists.{same_or_apart}
use Rattle.maps_model.proofs.Order.{most_most}
use Rattle.whole_model.specs.Whole.{Node, Slot, maps_slot, with_slot}
use Rattle.whole_model.specs.Whole.Life.{Up}
use Rattle.whole_world.specs.World.{World, maps_world_of, slot_up, IsUp, Reaction}
use Rattle.whole_world.specs.Steps.{Step, Said}
use Rattle.whole_world.specs.Steps.Step.{OfMessages, ConcludeGroup}
use Rattle.whole_world.specs.Steps.Said.{Concluded}
use Rattle.whole_world.specs.Steps.StepOutcome.{Says}
use Rattle.whole_world.specs.Makes.{done_for_maps, Forms, MakesStep}
use Rattle.whole_world.specs.Makes.DoesStep.{ForMessages, PostsMaps, Starts, OpensGroup, ConcludesGroup, SendsReports}
use Rattle.whole_world.specs.Laws.{Stands}
use Rattle.whole_world.specs.Settled.{IsKnownEpoch}
use Rattle.whole_world.specs.Regroup.{PostsEach, ThrownOld, ConcludesAll, Regroups, maps_at, AreNumbered, HasRoomFor, HasFormed}
use Rattle.whole_world.specs.Regroup.Regroups.{AtOnce, Again}
use Rattle.whole_world.proofs.Along.{maps_here}
use Rattle.whole_world.proofs.Entering.{posts_stand, round_stands, concluded_tells, installs_of}
use Rattle.whole_world.proofs.Forming.{regroups_form}
use Rattle.whole_world.proofs.Returning.{written_back}
use Rattle.whole_world.proofs.Rounding.{some_same, none_some, view_up, up_view, RoundDone, round_done}
use Rattle.whole_world.proofs.Seeing.{put_slots, put_among}
use Rattle.whole_world.proofs.Settling.{one_map_per_epoch}
use Rattle.whole_world.proofs.Stepping.{makes_stand}
use Rattle.whole_world.proofs.Turning.{ordered}
use Rattle.shown_members.specs.Shown.{IsTold}
use Rattle.shown_members.proofs.Onward.{From, Onward, BringsNone, makes_onward}
use Rattle.shown_members.proofs.Onward.From.{Stays, Goes, Begins}

-- whoever is up was up in its boot
abbrev WereUp : World → World → Type 0
WereUp old new = (n : ℕ) (node : Node) (disk : List Record) → IsUp new n node disk → (was : Node) × (its : List Record) × IsUp old n was its × (node.maps.boot ≡ was.maps.boot)

-- letters are posted, one after another: nobody starts, and no Install is put in flight
posts_back : (plan : Plan) (tells : Bool) (w : World) (number : ℕ) (saids : List Said) (new : World) → PostsEach plan tells w number saids new → Stands plan w → WereUp w new × BringsNone w new
posts_back plan tells w number [] new e stands = (
  λ n node disk up. (node, disk, subst (λ (v : World). IsUp v n node disk) e up, refl),
  λ letter m k body. subst (λ (v : World). Among letter (letters_of v.flying)) e m,
)
posts_back plan tells w number (said ∷ saids) new (mid, made, fine, rest) stands =
    let more = posts_back plan tells mid (number + 1) saids new rest (makes_stand plan w stands tells step (Says said) mid made) in (
      λ n node disk up. let s = more.0 n node disk up in let t = was n s.0 (on.nodes n s.0 s.1 s.2) in (t.0, t.1, t.2, s.3 ∙ t.3),
      λ letter m k body. on.installs letter (more.1 letter m k body) k body,
    )
  where
    step : Step
    step = OfMessages (Post (number + 1) false)

    on : Onward w step mid
    on = makes_onward plan w stands tells step (Says said) mid made (λ n it is. absurd (clash n is))
      where
        clash : (n : ℕ) → OfMessages (Post (number + 1) false) ≡ ConcludeGroup n → ⊥
        clash n e = cc

    was : (n : ℕ) (node : Node) → From w step n node → (was : Node) × (its : List Record) × IsUp w n was its × (node.maps.boot ≡ was.maps.boot)
    was n node (Stays x its up boots same) = (x, its, up, boots)
    was n node (Goes x its up boots letter m k body names before is) = (x, its, up, boots)
    was n node (Begins starts slot here later none) = absurd (clash n starts)
      where
        clash : (n : ℕ) → OfMessages (Post (number + 1) false) ≡ OfMessages (Start n) → ⊥
        clash n e = cc

same_told : (a b : EpochId) (s t : ℕ) → Concluded a s ≡ Concluded b t → b ≡ a
same_told a b s t e = cc

same_installed : (a b : Membership) → Install a ≡ Install b → a ≡ b
same_installed a b e = cc

same_node : (a b : Node) (d e : List Record) → slot_up a d ≡ slot_up b e → a ≡ b
same_node a b d e h = same a b (ap (λ (s : Slot). s.life) h)
  where
    same : (a b : Node) → Up a ≡ Up b → a ≡ b
    same a b e = cc

-- a group is concluded: whoever is up was, and each Install that is put in flight is of its epoch
record IsConcluded (w formed : World) (n : ℕ) (epoch : EpochId) : Type 0 where
  node : Node
  disk : List Record
  up : IsUp w n node disk
  backs : WereUp w formed
  installs : (letter : Letter) → Among letter (letters_of formed.flying) → (k : Membership) → letter.body ≡ Install k → Among letter (letters_of w.flying) ⊎ (k.epoch ≡ epoch)

concluded : (plan : Plan) (tells : Bool) (w : World) (n : ℕ) (epoch : EpochId) (members : ℕ) (formed : World) → MakesStep plan tells w (ConcludeGroup n) (Says (Concluded epoch members)) formed → IsConcluded w formed n epoch
concluded plan tells w n epoch members formed (fits, ForMessages one step answer says for_mail does follow) = absurd (cc step)
concluded plan tells w n epoch members formed (fits, PostsMaps number keep step h) = absurd (cc step)
concluded plan tells w n epoch members formed (fits, Starts m step h) = absurd (cc step)
concluded plan tells w n epoch members formed (fits, OpensGroup m step g) = absurd (cc step)
concluded plan tells w n epoch members formed (fits, SendsReports from to step h) = absurd (cc step)
concluded plan tells w n epoch members formed (fits, ConcludesGroup m step made) = by (subst (λ k. Forms plan w k (Concluded epoch members) formed) (same m step) made)
  where
    same : (m : ℕ) → ConcludeGroup n ≡ ConcludeGroup m → m ≡ n
    same m e = cc

    by : Forms plan w n (Concluded epoch members) formed → IsConcluded w formed n epoch
    by f = record { node = f.node; disk = f.disk; up = f.up; backs = backs; installs = installs }
      where
        now : Reaction
        now = done_for_maps f.node f.disk f.did None f.did.out

        written : World
        written = record w { slots = with_slot w.slots n (slot_up now.node now.disk) }

        slots : formed.slots ≡ with_slot w.slots n (slot_up now.node now.disk)
        slots = ap (λ (v : World). v.slots) f.new_world ∙ put_slots f.did.out written

        its_boot : f.did.node.boot ≡ f.node.maps.boot
        its_boot = ap (λ (d : maps_rules.Reaction). d.node.boot) f.concludes.is

        backs : WereUp w formed
        backs q node disk up = ⊎_elim
            (λ own. (
              f.node,
              f.disk,
              subst (λ k. IsUp w k f.node f.disk) (sym own.0) f.up,
              ap (λ (x : Node). x.maps.boot) (sym (same_node now.node node now.disk disk own.1)) ∙ its_boot,
            ))
            (λ stood. (node, disk, stood, refl))
            (written_back w.slots formed.slots n (slot_up f.node f.disk) (slot_up now.node now.disk) f.up slots q (slot_up node disk) up)

        its_epoch : f.concludes.group.epoch ≡ epoch
        its_epoch = same_told epoch f.concludes.group.epoch members _ f.said_is

        installs : (letter : Letter) → Among letter (letters_of formed.flying) → (k : Membership) → letter.body ≡ Install k → Among letter (letters_of w.flying) ⊎ (k.epoch ≡ epoch)
        installs letter m k body = ⊎_elim
            (λ stood. inl stood)
            (λ sent.
            let i = installs_of n (maps_rules.membership_of f.concludes.group f.concludes.rows) f.concludes.group.joins letter (subst (Among letter) (ap (λ (d : maps_rules.Reaction). d.out) f.concludes.is) sent) in
            inr (ap (λ (g : Membership). g.epoch) (same_installed k _ (sym body ∙ ap (λ (l : Letter). l.body) i.2)) ∙ its_epoch))
            (put_among f.did.out written letter (subst (λ (v : World). Among letter (letters_of v.flying)) f.new_world m))

-- Where all nodes that are up have promised no later epoch before a group is concluded, and all have installed it after, it is shown.
module _ (plan : Plan) (tells : Bool) (old mid new : World) (n : ℕ) (epoch : EpochId) (members : ℕ) (stands : Stands plan mid) (conclude : ConcludesAll plan tells mid n epoch members new)
    (formed : HasFormed epoch members old new) (downs : (q : ℕ) → maps_at old q ≡ None → maps_at mid q ≡ None) (promised : (q : ℕ) (z : maps.Node) → maps_at mid q ≡ Some z → IsAtMost z.promise epoch) where
  abbrev g : Membership
  g = formed.membership

  its : IsConcluded mid conclude.formed n epoch
  its = concluded plan tells mid n epoch members conclude.formed conclude.concludes

  formed_stands : Stands plan conclude.formed
  formed_stands = makes_stand plan mid stands tells (ConcludeGroup n) (Says (Concluded epoch members)) conclude.formed conclude.concludes

  new_stands : Stands plan new
  new_stands = posts_stand plan tells conclude.formed mid.sent conclude.installs new conclude.posts formed_stands

  after : WereUp conclude.formed new × BringsNone conclude.formed new
  after = posts_back plan tells conclude.formed mid.sent conclude.installs new conclude.posts formed_stands

  backs : WereUp mid new
  backs q node disk up = let s = after.0 q node disk up in let t = its.backs q s.0 s.1 s.2 in (t.0, t.1, t.2, s.3 ∙ t.3)

  -- whoever was up has installed it
  has_it : (q : ℕ) (x : maps.Node) → maps_at mid q ≡ Some x → (now : maps.Node) × (maps_at new q ≡ Some now) × (now.installed ≡ Some g)
  has_it q x h = by (maps_at old q) refl
    where
      by : (o : Option maps.Node) → maps_at old q ≡ o → (now : maps.Node) × (maps_at new q ≡ Some now) × (now.installed ≡ Some g)
      by None e = absurd (none_some x (sym (downs q e) ∙ h))
      by (Some u) e = let s = formed.all_up q u e in (s.0, s.1, s.2)

  has_installed : (q : ℕ) (node : Node) (disk : List Record) → IsUp new q node disk → node.maps.installed ≡ Some g
  has_installed q node disk up =
      let s = backs q node disk up in
      let t = has_it q s.0.maps (up_view mid q s.0 s.1 s.2) in
      ap (λ (x : maps.Node). x.installed) (some_same (maps_at new q) node.maps t.0 (up_view new q node disk up) t.1) ∙ t.2

  -- its own node has installed it too
  known : IsKnownEpoch new g
  known =
      let s = has_it n its.node.maps (up_view mid n its.node its.disk its.up) in
      let u = view_up new n s.0 s.1 in
      inl (n, u.0, u.1, u.2, ap (λ (x : maps.Node). x.installed) u.3 ∙ s.2)

  -- an Install that was in flight before and names one of them is of no later epoch
  not_later : (letter : Letter) → Among letter (letters_of mid.flying) → (k : Membership) → letter.body ≡ Install k → (q : ℕ) (was : Node) (disk : List Record) → IsUp mid q was disk
      → maps.NamesNode k q was.maps.boot → IsAtMost k.epoch epoch
  not_later letter m k body q was disk up names = most_most k.epoch was.maps.promise epoch
      (subst (IsAtMost k.epoch) (ap (λ (s : maps.Slot). s.disk.promise) slots ∙ sym (ordered plan mid stands q was disk up).promised) join.0.promised)
      (promised q was.maps (up_view mid q was disk up))
    where
      join : words.JoinStands (maps_world_of mid).slots (maps_world_of mid).flying q was.maps.boot k.epoch names.member.was
      join = stands.sound.maps.joins.named k (inr (record { letter = letter; inside = m; is = body })) q was.maps.boot names.member.was (record { member = names.member; is = names.is; same = names.same; from = refl })

      slots : join.0.slot ≡ maps_slot (slot_up was disk)
      slots = some_same (maps.slot_at (maps_world_of mid).slots q) join.0.slot (maps_slot (slot_up was disk)) join.0.here (maps_here mid.slots q (slot_up was disk) up)

  is_told : IsTold epoch members new
  is_told = record {
    membership = g;
    epoch_is = formed.epoch_is;
    members_are = formed.members_are;
    shows = record {
      installed = λ q node disk up h e. some_same node.maps.installed h g e (has_installed q node disk up);
      installs = λ letter m k body. ⊎_elim
          (λ stood. inr (λ q node disk up names.
          let s = backs q node disk up in (
            has_installed q node disk up,
            subst (IsAtMost k.epoch) (sym formed.epoch_is) (not_later letter stood k body q s.0 s.1 s.2 (subst (maps.NamesNode k q) s.3 names)),
          )))
          (λ same. inl (one_map_per_epoch plan new new_stands k g (inr (letter, m, body)) known (same ∙ sym formed.epoch_is)))
          (its.installs letter (after.1 letter m k body) k body);
    };
  }

-- what was concluded is the epoch of the round before it
same_epoch : (plan : Plan) (tells : Bool) (old mid new : World) (n : ℕ) (opened epoch : EpochId) (members : ℕ) (saids : List Said) → RoundDone old mid n opened saids plan.nodes
    → ConcludesAll plan tells mid n epoch members new → opened ≡ epoch
same_epoch plan tells old mid new n opened epoch members saids r c = sym ((concluded_tells plan tells mid n r.y r.here r.group r.opened epoch members c.formed c.concludes).0 ∙ r.same)

-- after a round that nobody threw as old, all nodes that are up have promised its epoch
promised_at_once : (old mid : World) (n : ℕ) (epoch : EpochId) (saids : List Said) (count : ℕ) → RoundDone old mid n epoch saids count → (Among ThrownOld saids → ⊥) → (q : ℕ) (z : maps.Node) → maps_at mid q ≡ Some z → IsAtMost z.promise epoch
promised_at_once old mid n epoch saids count r none q z h = ⊎_elim
    (λ same. inr (ap (λ (x : maps.Node). x.promise) (some_same (maps_at mid n) z r.y (ap (maps_at mid) (sym same.1) ∙ h) r.here) ∙ r.promise))
    (λ apart. by apart.1 (maps_at old q) refl)
    (same_or_apart q n)
  where
    by : q ≢ n → (o : Option maps.Node) → maps_at old q ≡ o → IsAtMost z.promise epoch
    by apart None e = absurd (none_some z (sym (r.downs q e) ∙ h))
    by apart (Some u) e =
        let s = r.stays q u apart e in
        inr (ap (λ (x : maps.Node). x.promise) (some_same (maps_at mid q) z s.0 h s.1) ∙ ⊎_elim (λ a. a.0) (λ b. absurd (none b.1)) s.4)

-- Its second round has an epoch that is later than all that was promised before, as it has heard.
promised_again : (old mid last : World) (n : ℕ) (first epoch : EpochId) (saids others : List Said) (count : ℕ) → RoundDone old mid n first saids count → RoundDone mid last n epoch others count
    → (q : ℕ) (z : maps.Node) → maps_at last q ≡ Some z → IsAtMost z.promise epoch
promised_again old mid last n first epoch saids others count one two q z h = ⊎_elim
    (λ same. inr (ap (λ (x : maps.Node). x.promise) (some_same (maps_at last n) z two.y (ap (maps_at last) (sym same.1) ∙ h) two.here) ∙ two.promise))
    (λ apart. by apart.1 (maps_at mid q) refl)
    (same_or_apart q n)
  where
    below : (a b : EpochId) (heard : ℕ) → a.count ≤ heard → b.count ≡ heard + 1 → IsAtMost a b
    below a b heard l e = inl (inl (omega (arith, l, e)))

    heard : q ≢ n → (v : maps.Node) → maps_at mid q ≡ Some v → (o : Option maps.Node) → maps_at old q ≡ o → v.promise.count ≤ two.x.heard
    heard apart v k None e = absurd (none_some v (sym (one.downs q e) ∙ k))
    heard apart v k (Some u) e =
        let s = one.stays q u apart e in
        subst (λ (x : maps.Node). v.promise.count ≤ x.heard) (some_same (maps_at mid n) one.y two.x one.here two.before)
        (subst (λ (x : maps.Node). x.promise.count ≤ one.y.heard) (some_same (maps_at mid q) s.0 v s.1 k) s.3)

    by : q ≢ n → (o : Option maps.Node) → maps_at mid q ≡ o → IsAtMost z.promise epoch
    by apart None e = absurd (none_some z (sym (two.downs q e) ∙ h))
    by apart (Some v) e =
        let s = two.stays q v apart e in
        subst (λ (x : maps.Node). IsAtMost x.promise epoch) (some_same (maps_at last q) s.0 z s.1 h)
        (⊎_elim
        (λ same. subst (λ p. IsAtMost p epoch) (sym same) (below v.promise epoch two.x.heard (heard apart v e (maps_at old q) refl) (ap (λ (a : EpochId). a.count) two.epoch_is)))
        (λ rose. inr rose.0)
        s.2.promise)

pub regroup_shows : (plan : Plan) (tells : Bool) (old new : World) (n : ℕ) (epoch : EpochId) (members : ℕ) → Stands plan old → AreNumbered old → HasRoomFor (suc plan.nodes) old.flying
    → Regroups plan tells old n epoch members new → IsTold epoch members new
regroup_shows plan tells old new n epoch members stands low room (AtOnce opened saids mid round none c) =
    is_told plan tells old mid new n epoch members (round_stands plan tells old n opened saids mid round stands) c
    (regroups_form plan tells old new n epoch members stands low room (AtOnce opened saids mid round none c)) r.downs
    (subst (λ e. (q : ℕ) (z : maps.Node) → maps_at mid q ≡ Some z → IsAtMost z.promise e) (same_epoch plan tells old mid new n opened epoch members saids r c)
    (promised_at_once old mid n opened saids plan.nodes r none))
  where
    r : RoundDone old mid n opened saids plan.nodes
    r = round_done plan tells old stands low room n opened saids mid round
regroup_shows plan tells old new n epoch members stands low room (Again first saids mid round some opened others last again c) =
    is_told plan tells old last new n epoch members (round_stands plan tells mid n opened others last again mid_stands) c
    (regroups_form plan tells old new n epoch members stands low room (Again first saids mid round some opened others last again c)) (λ q e. two.downs q (one.downs q e))
    (subst (λ e. (q : ℕ) (z : maps.Node) → maps_at last q ≡ Some z → IsAtMost z.promise e) (same_epoch plan tells mid last new n opened epoch members others two c)
    (promised_again old mid last n first opened saids others plan.nodes one two))
  where
    one : RoundDone old mid n first saids plan.nodes
    one = round_done plan tells old stands low room n first saids mid round

    mid_stands : Stands plan mid
    mid_stands = round_stands plan tells old n first saids mid round stands

    mid_low : AreNumbered mid
    mid_low = record { each = λ f m. le f.number old.sent mid.sent (low.each f (subst (Among f) one.flying m)) one.sent }
      where
        le : (a b c : ℕ) → a ≤ b → b ≤ c → a ≤ c
        le a b c p q = omega (arith, p, q)

    two : RoundDone mid last n opened others plan.nodes
    two = round_done plan tells mid mid_stands mid_low (subst (HasRoomFor (suc plan.nodes)) (sym one.flying) room) n opened others last again

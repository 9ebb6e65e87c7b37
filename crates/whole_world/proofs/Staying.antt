-- What pushes, reports and posts leave of an epoch: who was live is live.
use Rattle.std.proofs.Common.{◌≡◌, ◌≢◌, ◌⊎◌, inl, inr, ⊎_elim, ℕ, zero, suc, ◌+◌, ◌<◌, Bool, true, false, List, [], ◌∷◌, ◌++◌, length, drop, Option, Some, None, refl, sym, ap, ◌∙◌, subst, if◌then◌else◌}
use Rattle.std.specs.Prelude.{slice_get}
use Rattle.std.specs.Option.{option_map}
use Rattle.mail_model.specs.Identity.{EpochId}
use Rattle.mail_model.specs.Identity.Key.{Profile, Message}
use Rattle.mail_model.specs.Plan.{Plan}
use Rattle.mail_model.specs.Record.{Record}
use Rattle.mail_model.specs.Record.Record.{Boot, Promise, Octets, Stated, Retired}
use Rattle.object_model.specs.Lists.{Among}
use Rattle.object_model.specs.Letters.{Membership, Body, Letter}
use Rattle.object_model.specs.Letters.Body.{Group, Join, Install, Report, ReportAck}
use Rattle.cluster_model.specs.Cluster as mail_cluster
use Rattle.cluster_model.specs.Room.{Flight}
use Rattle.cluster_model.specs.World as mail
use Rattle.cluster_model.specs.World.{letters_of}
use Rattle.cluster_model.specs.Steps as mail_steps
use Rattle.cluster_model.specs.Steps.Step.{Start, Post}
use Rattle.cluster_model.proofs.Filing.{among_map}
use Rattle.cluster_model.proofs.Stepping.{flew}
use Rattle.maps_model.specs.Cluster as maps
use Rattle.maps_model.specs.Rules as maps_rules
use Rattle.maps_model.specs.Rules.HearsReport.{Stale as StaleReport, Takes, Older}
use Rattle.maps_model.specs.Rules.HearsAck.{Stale as StaleAck, Clears, Other}
use Rattle.maps_model.proofs.Lists.{same_or_apart}
use Rattle.whole_model.specs.Whole.{Node, Life, Slot, slot_at, with_slot, maps_disk_of, holds_of}
use Rattle.whole_model.specs.Whole.Life.{Up, Down, Lost}
use Rattle.whole_model.specs.Rules.{differ, turned_for, followed, follows, IsMapsBody, IsMailBody}
use Rattle.whole_world.specs.World.{World, mail_world_of, slot_up, IsUp, FollowsAlong, Reaction, after}
use Rattle.whole_world.specs.Steps.{Said}
use Rattle.whole_world.specs.Steps.StepOutcome.{Says}
use Rattle.whole_world.specs.Makes.{done_for_maps, learnt, promise_by, MakesStep, IsForMessages}
use Rattle.whole_world.specs.Makes.Reports.{Sends, HasNone}
use Rattle.whole_world.specs.Makes.HearsMaps.{Hears, FailsHearing}
use Rattle.whole_world.specs.Makes.DoesStep.{ForMessages, PostsMaps, Starts, OpensGroup, ConcludesGroup, SendsReports}
use Rattle.whole_world.specs.Laws.{Stands}
use Rattle.whole_world.proofs.Plain.{IsPlain, IsMailOf}
use Rattle.whole_world.proofs.Stepwise.{flew_on, steps_plain}
use Rattle.whole_world.proofs.Along.{mail_here}
use Rattle.whole_world.proofs.Keeping.{follows_epoch, apart, of_mail}
use Rattle.whole_world.proofs.Seeing.{put_slots, put_among}
use Rattle.whole_world.proofs.Stepping.{makes_stand}
use Rattle.whole_world.proofs.Returning.{plain_back, written_back}
use Rattle.whole_world.proofs.Viewing.{slot_here, slot_other}
use Rattle.object_model.specs.Letters.{Member}
use Rattle.object_model.specs.Mishaps.MishapKind.{Crowded, Stale as StaleKind, Down as DownKind}
use Rattle.cluster_model.specs.Deeds as mail_deeds
use Rattle.cluster_model.specs.Rules as mail_rules
use Rattle.cluster_model.specs.Room.{has_room}
use Rattle.cluster_model.specs.Makes as mail_makes
use Rattle.cluster_model.specs.Makes.Posts.{NobodyUp, OfOtherEpoch, TooLate, IsHeard, FailsHearing as MailFails, IsForMaps, FailsForMaps}
use Rattle.cluster_model.specs.Makes.Pushes.{Sends as MailSends, FailsPushing}
use Rattle.cluster_model.specs.Steps.Said.{Faulted}
use Rattle.cluster_model.specs.Steps.Step.{PushTo}
use Rattle.cluster_model.proofs.Slots as mail_slots
use Rattle.cluster_model.proofs.Reading.{SeesOne, posts_seen}
use Rattle.cluster_model.proofs.Reading.SeesOne.{Turns as SeesTurn, Refuses, Sends as SendsOne, Takes as TakesOut}
use Rattle.whole_world.specs.Steps.Step.{OfMessages, ReportTo}
use Rattle.whole_world.specs.Steps.Said.{Told}
use Rattle.whole_world.specs.Settled.{IsLive}
use Rattle.whole_world.specs.Regroup.{maps_in, maps_of_slot}
use Rattle.whole_world.specs.Sweeps.{IsFine, Flows, TellsMember, Sweeps, IsCalmBody, boot_and_epoch, EpochsStay}
use Rattle.whole_world.specs.Sweeps.Flows.{Flowed, FlowsOn}
use Rattle.whole_world.proofs.Along.{up_slot}
use Rattle.whole_world.proofs.Plain.{IsSoft, AllSoft, soft_missed}
use Rattle.whole_world.proofs.Plain.IsSoft.{Same, Inner}
use Rattle.whole_world.proofs.Quieting.{place_found}
use Rattle.std.proofs.lemmas.Option.{slice_get_within}

-- Nodes that are up stay up where only tickets change.
soft_on : (a b c : mail_cluster.Slot) → IsSoft a b → IsSoft b c → IsSoft a c
soft_on a b c (Same e) t = subst (λ x. IsSoft x c) (sym e) t
soft_on a b c (Inner x y disk ea eb same) (Same e) = Inner x y disk ea (sym e ∙ eb) same
soft_on a b c (Inner x y disk ea eb same) (Inner u v its eu ev also) =
    let slots : mail_deeds.slot_up u its ≡ mail_deeds.slot_up y disk = sym eu ∙ eb in
    Inner x v disk ea (ev ∙ ap (mail_deeds.slot_up v) (ap (λ (s : mail_cluster.Slot). s.disk) slots)) (also ∙ ap (λ (n : mail_cluster.Node). n.installed) (up_up u y (ap (λ (s : mail_cluster.Slot). s.life) slots)) ∙ same)
  where
    up_up : (a b : mail_cluster.Node) → mail_cluster.Life.Up a ≡ mail_cluster.Life.Up b → a ≡ b
    up_up a b e = cc

all_soft_on : (a b c : List mail_cluster.Slot) → AllSoft a b → AllSoft b c → AllSoft a c
all_soft_on a b c p q = record {
  each = λ n after_ h. let s = q.each n after_ h in let t = p.each n s.0 s.1 in (t.0, t.1, soft_on t.0 s.0 after_ t.2 s.2);
  size = q.size ∙ p.size;
}

put_soft : (letters : List Letter) (w : mail.World) → AllSoft w.slots (mail.put has_room letters w).slots
put_soft [] w = record { each = λ n after_ h. (after_, h, Same refl); size = refl }
put_soft (letter ∷ letters) w = by (λ v. put_soft letters v) (has_room w.flying letter)
  where
    flown : mail.World
    flown = record w { flying = w.flying ++ record { number = w.sent + 1; letter = letter } ∷ []; sent = w.sent + 1 }

    by : ((v : mail.World) → AllSoft v.slots (mail.put has_room letters v).slots) → (b : Bool)
        → AllSoft w.slots ((λ (v : mail.World). v.slots) (if b then mail.put has_room letters flown else mail.put has_room letters (record w { slots = mail.missed Crowded w.slots letter })))
    by rest true = rest flown
    by rest false = all_soft_on w.slots (mail.missed Crowded w.slots letter) _ (soft_missed Crowded w.slots letter) (rest (record w { slots = mail.missed Crowded w.slots letter }))

abbrev KeepsUp : List mail_cluster.Slot → List mail_cluster.Slot → Type 0
KeepsUp old new = (n : ℕ) (a : mail_cluster.Node) (disk : List Record) → mail_cluster.slot_at old n ≡ Some (mail_deeds.slot_up a disk) → (b : mail_cluster.Node) × (d : List Record) × (mail_cluster.slot_at new n ≡ Some (mail_deeds.slot_up b d))

slots_same : (o : Option mail_cluster.Slot) (a b : mail_cluster.Slot) → o ≡ Some a → o ≡ Some b → a ≡ b
slots_same o a b p q = cc

soft_up : (old new : List mail_cluster.Slot) → AllSoft old new → KeepsUp old new
soft_up old new soft zero a disk e = absurd (cc e)
soft_up old new soft (suc k) a disk e =
    let p = place_found new k (subst (λ m. k < m) (sym soft.size) (slice_get_within old k (mail_deeds.slot_up a disk) e)) in
    let s = soft.each (suc k) p.0 p.1 in
    by p.0 p.1 s.2 (slots_same (slice_get old k) s.0 (mail_deeds.slot_up a disk) s.1 e)
  where
    by : (now : mail_cluster.Slot) → slice_get new k ≡ Some now → {before : mail_cluster.Slot} → IsSoft before now → before ≡ mail_deeds.slot_up a disk
        → (b : mail_cluster.Node) × (d : List Record) × (slice_get new k ≡ Some (mail_deeds.slot_up b d))
    by now h (Same i) was = (a, disk, h ∙ ap Some (sym i ∙ was))
    by now h (Inner x y its ex ey same) was = (y, its, h ∙ ap Some ey)

up_on : (a b c : List mail_cluster.Slot) → KeepsUp a b → KeepsUp b c → KeepsUp a c
up_on a b c p q n x disk e = let s = p n x disk e in q n s.0 s.1 s.2

write_up : (slots : List mail_cluster.Slot) (own : ℕ) (a b : mail_cluster.Node) (disk d : List Record) → mail_cluster.slot_at slots own ≡ Some (mail_deeds.slot_up a disk) → KeepsUp slots (mail_cluster.with_slot slots own (mail_deeds.slot_up b d))
write_up slots own a b disk d here n x its e = ⊎_elim
    (λ one. (b, d, one.2))
    (λ stood. (x, its, stood))
    (mail_slots.read_before slots own n (mail_deeds.slot_up a disk) (mail_deeds.slot_up b d) (mail_deeds.slot_up x its) here e)

after_up : (old x : mail.World) (own : ℕ) (a : mail_cluster.Node) (disk : List Record) (did : mail_rules.Reaction) → x.slots ≡ old.slots → mail_cluster.slot_at old.slots own ≡ Some (mail_deeds.slot_up a disk)
    → KeepsUp old.slots (mail_makes.after x own did).slots
after_up old x own a disk did same here = up_on old.slots (mail_cluster.with_slot x.slots own (mail_deeds.slot_up did.node did.disk)) (mail_makes.after x own did).slots
    (subst (λ (s : List mail_cluster.Slot). KeepsUp old.slots (mail_cluster.with_slot s own (mail_deeds.slot_up did.node did.disk))) (sym same) (write_up old.slots own a did.node disk did.disk here))
    (soft_up (mail_cluster.with_slot x.slots own (mail_deeds.slot_up did.node did.disk)) (mail_makes.after x own did).slots (put_soft did.out (record x { slots = mail_cluster.with_slot x.slots own (mail_deeds.slot_up did.node did.disk) })))

module _ (old new : mail.World) where
  To : mail.World → Type 0
  To w = KeepsUp old.slots w.slots

  pushes_up : (own to : ℕ) (said : mail_steps.Said) → ((n : ℕ) → said ≢ Faulted n) → mail_makes.Pushes old own to said new → KeepsUp old.slots new.slots
  pushes_up own to said fine (MailSends node disk up says is) = subst (λ (w : mail.World). KeepsUp old.slots w.slots) (sym is)
      (after_up old old own node disk (mail_rules.push own to (Rattle.cluster_model.specs.Room.keys_pushed old.flying own to node disk) node disk) refl up)
  pushes_up own to said fine (FailsPushing node disk up says is) = absurd (fine own says)

  mail_up : (plan : Plan) (number : ℕ) (keep : Bool) (said : mail_steps.Said) → ((n : ℕ) → said ≢ Faulted n) → mail_makes.Posts plan old number keep said new → KeepsUp old.slots new.slots
  mail_up plan number keep said fine (NobodyUp f nobody says is) = subst (λ (w : mail.World). KeepsUp old.slots w.slots) (sym is) (soft_up old.slots (mail.missed DownKind old.slots f.letter) (soft_missed DownKind old.slots f.letter))
  mail_up plan number keep said fine (OfOtherEpoch f node disk up thrown says is) = subst (λ (w : mail.World). KeepsUp old.slots w.slots) (sym is) (soft_up old.slots (mail.missed StaleKind old.slots f.letter) (soft_missed StaleKind old.slots f.letter))
  mail_up plan number keep said fine (TooLate f node disk up thrown says is) = subst (λ (w : mail.World). KeepsUp old.slots w.slots) (sym is) (λ n a d e. (a, d, e))
  mail_up plan number keep said fine (IsHeard f node disk up thrown says is) = subst (λ (w : mail.World). KeepsUp old.slots w.slots) (sym is)
      (after_up old (record old { flying = mail.flies_on old number f keep }) f.letter.to node disk (mail_deeds.hear f.letter.to plan.nodes node disk f.letter) refl up)
  mail_up plan number keep said fine (IsForMaps f node disk up of fresh says did forms is) = subst (λ (w : mail.World). KeepsUp old.slots w.slots) (sym is)
      (after_up old (record old { flying = mail.flies_on old number f keep }) f.letter.to node disk did refl up)
  mail_up plan number keep said fine (FailsForMaps f node disk promise up of fresh says down g is) = absurd (fine f.letter.to says)
  mail_up plan number keep said fine (MailFails f node disk up thrown says down g is) = absurd (fine f.letter.to says)

-- what messages see of calls that read leaves those up that are
abbrev StayUp : mail.World → mail.World → Type 0
StayUp a b = KeepsUp a.slots b.slots

stay_up : (w : mail.World) → StayUp w w
stay_up w n a d e = (a, d, e)

up_then : (a b c : mail.World) → StayUp a b → StayUp b c → StayUp a c
up_then a b c = up_on a.slots b.slots c.slots

sees_up : (a b : mail.World) → SeesOne a b → StayUp a b
sees_up a b (SeesTurn own node disk calls count up e) = subst (λ (w : mail.World). KeepsUp a.slots w.slots) (sym e) (write_up a.slots own node (record node { calls = calls; count = count }) disk disk up)
sees_up a b (Refuses own node disk kind mishaps up e) = subst (λ (w : mail.World). KeepsUp a.slots w.slots) (sym e) (write_up a.slots own node (mail_rules.refuse kind mishaps 0 node disk).node disk disk up)
sees_up a b (SendsOne letter l e) = subst (λ (w : mail.World). KeepsUp a.slots w.slots) (sym e) (stay_up a)
sees_up a b (TakesOut number flies keep of e) = subst (λ (w : mail.World). KeepsUp a.slots w.slots) (sym e) (stay_up a)

pub posts_up : (old new : mail.World) (plan : Plan) (tells : Bool) (number : ℕ) (keep : Bool) (said : mail_steps.Said) → ((n : ℕ) → said ≢ Faulted n)
    → mail_makes.DoesStep plan tells old (Post number keep) said new → KeepsUp old.slots new.slots
posts_up old new plan tells number keep said fine (inl d) = mail_up old new plan number keep said fine d.0
posts_up old new plan tells number keep said fine (inr d) = posts_seen StayUp stay_up up_then sees_up number keep said old new (λ n e a b f. absurd (fine n e)) d

-- records of messages leave the boot
turned_boot : (own : ℕ) (node : maps.Node) (seen : List Record) (user : List ℕ) (full : Bool) → (turned_for own node seen user full).boot ≡ node.boot
turned_boot own node seen user full = by (differ (holds_of seen user) full) (maps.manages_in node.installed own user)
  where
    changed : maps.Node
    changed = record node { version = maps_rules.set_at node.version user (node.version user + 1) }

    by : (b c : Bool) → (λ (x : maps.Node). x.boot) (if b
        then (if c then record changed { rows = maps_rules.set_row node.rows own node.boot user (record (maps_rules.own_row own node (maps_disk_of seen) user) { version = node.version user + 1; full = full }) }
        else record changed { marked = maps_rules.set_at node.marked user true }) else node) ≡ node.boot
    by true true = refl
    by true false = refl
    by false c = refl

followed_boot : (own : ℕ) (node : maps.Node) (seen : List Record) (one : Record) → (followed own node seen one).boot ≡ node.boot
followed_boot own node seen (Stated (Message user id) state) = turned_boot own node seen user (holds_of (seen ++ Stated (Message user id) state ∷ []) user)
followed_boot own node seen (Stated (Profile user) state) = refl
followed_boot own node seen (Boot boot) = refl
followed_boot own node seen (Promise epoch) = refl
followed_boot own node seen (Octets id octets) = refl
followed_boot own node seen (Retired key state) = refl

pub follows_boot : (own : ℕ) (node : maps.Node) (seen records : List Record) → (follows own node seen records).boot ≡ node.boot
follows_boot own node seen [] = refl
follows_boot own node seen (one ∷ records) = follows_boot own (followed own node seen one) (seen ++ one ∷ []) records ∙ followed_boot own node seen one

-- who was up is up, in its boot and its epoch, and who is up was; and letters that fly form no epoch
pub record Stays (old new : World) : Type 0 where
  pub ups : (n : ℕ) (node : Node) (disk : List Record) → IsUp old n node disk → (now : Node) × (its : List Record) × IsUp new n now its × (now.maps.boot ≡ node.maps.boot) × (now.maps.installed ≡ node.maps.installed)
  pub backs : (n : ℕ) (node : Node) (disk : List Record) → IsUp new n node disk → (was : Node) × (its : List Record) × IsUp old n was its × (node.maps.boot ≡ was.maps.boot) × (node.maps.installed ≡ was.maps.installed)
  pub calm : ((letter : Letter) → Among letter (letters_of old.flying) → IsCalmBody letter.body) → (letter : Letter) → Among letter (letters_of new.flying) → IsCalmBody letter.body

stays_on : (a b c : World) → Stays a b → Stays b c → Stays a c
stays_on a b c p q = record {
  ups = λ n node disk up. let s = p.ups n node disk up in let t = q.ups n s.0 s.1 s.2 in (t.0, t.1, t.2, t.3 ∙ s.3, t.4 ∙ s.4);
  backs = λ n node disk up. let s = q.backs n node disk up in let t = p.backs n s.0 s.1 s.2 in (t.0, t.1, t.2, s.3 ∙ t.3, s.4 ∙ t.4);
  calm = λ before. q.calm (p.calm before);
}

stays_itself : (w : World) → Stays w w
stays_itself w = record { ups = λ n x d u. (x, d, u, refl, refl); backs = λ n x d u. (x, d, u, refl, refl); calm = λ before. before }

mail_calm : (body : Body) → IsMailBody body → IsCalmBody body
mail_calm (Group epoch) of = of
mail_calm (Join epoch promise boot was claims) of = of
mail_calm (Install g) of = of
mail_calm (Report row) of = tt
mail_calm (ReportAck user version) of = tt
mail_calm (Rattle.object_model.specs.Letters.Body.File id stamp targets users octets) of = tt
mail_calm (Rattle.object_model.specs.Letters.Body.Filed id) of = tt
mail_calm (Rattle.object_model.specs.Letters.Body.LoginAsk user proof) of = tt
mail_calm (Rattle.object_model.specs.Letters.Body.LoginTold word) of = tt
mail_calm (Rattle.object_model.specs.Letters.Body.ListAsk user) of = tt
mail_calm (Rattle.object_model.specs.Letters.Body.ListTold items) of = tt
mail_calm (Rattle.object_model.specs.Letters.Body.FetchAsk user id at most) of = tt
mail_calm (Rattle.object_model.specs.Letters.Body.FetchTold part) of = tt
mail_calm (Rattle.object_model.specs.Letters.Body.Strike user marks) of = tt
mail_calm (Rattle.object_model.specs.Letters.Body.StrikeTold user ids) of = tt
mail_calm (Rattle.object_model.specs.Letters.Body.Unlock user login) of = tt
mail_calm (Rattle.object_model.specs.Letters.Body.Push key state octets) of = tt
mail_calm (Rattle.object_model.specs.Letters.Body.PushAck key state) of = tt
mail_calm (Rattle.object_model.specs.Letters.Body.Retire key state) of = tt

-- a step for messages
pub plain_stays : (old new : World) → IsPlain (mail_world_of old) (mail_world_of new) → FollowsAlong old new → KeepsUp (mail_world_of old).slots (mail_world_of new).slots → Stays old new
plain_stays old new plain follow keeps = record {
  ups = λ n node disk up.
      let k = keeps n node.mail disk (mail_here old.slots n (slot_up node disk) up) in
      let u = up_slot new.slots n k.0 k.1 k.2 in
      let e = follow.each n (slot_up node disk) (slot_up u.0 k.1) up u.1 node u.0 refl refl in (
        u.0,
        k.1,
        u.1,
        ap (λ (x : maps.Node). x.boot) e ∙ follows_boot n node.maps disk (drop (length disk) k.1),
        ap (λ (x : maps.Node). x.installed) e ∙ follows_epoch n node.maps disk (drop (length disk) k.1),
      );
  backs = λ n node disk up.
      let was = plain_back old new plain follow n node disk up in (
        was.before,
        was.its,
        was.up,
        ap (λ (x : maps.Node). x.boot) was.maps_are ∙ follows_boot n was.before.maps was.its (drop (length was.its) disk),
        ap (λ (x : maps.Node). x.installed) was.maps_are ∙ follows_epoch n was.before.maps was.its (drop (length was.its) disk),
      );
  calm = λ before letter m. ⊎_elim (λ stood. before letter stood) (λ (sent : IsMailOf (mail_world_of old) letter). mail_calm letter.body sent.mail.body) (plain.letters letter m);
}

-- a node does something for maps, and keeps its boot and its epoch
turned_stays : (old : World) (own : ℕ) (node : Node) (disk : List Record) → IsUp old own node disk → (x : World) → x.slots ≡ old.slots → ((letter : Letter) → Among letter (letters_of x.flying) → Among letter (letters_of old.flying))
    → (from : Node) (did : maps_rules.Reaction) (promise : Option EpochId) (out : List Letter) → did.node.boot ≡ node.maps.boot → did.node.installed ≡ node.maps.installed
    → ((letter : Letter) → Among letter out → IsCalmBody letter.body) → Stays old (after x own (done_for_maps from disk did promise out))
turned_stays old own node disk up x same flown from did promise out boots epochs calm = record {
  ups = λ n other its there. ⊎_elim
      (λ is. let slot : slot_up other its ≡ slot_up node disk = slot_same (slot_at old.slots own) (slot_up other its) (slot_up node disk) (ap (slot_at old.slots) (sym is.1) ∙ there) up in
      let who : other ≡ node = same_node other node (ap (λ (s : Slot). s.life) slot) in (
        now.node,
        now.disk,
        ap (λ (l : List Slot). slot_at l n) slots ∙ ap (slot_at (with_slot old.slots own (slot_up now.node now.disk))) is.1 ∙ slot_here old.slots own (slot_up node disk) (slot_up now.node now.disk) up,
        boots ∙ ap (λ (k : Node). k.maps.boot) (sym who),
        epochs ∙ ap (λ (k : Node). k.maps.installed) (sym who),
      ))
      (λ d. (other, its, ap (λ (l : List Slot). slot_at l n) slots ∙ slot_other old.slots own n (slot_up now.node now.disk) d.1 ∙ there, refl, refl))
      (same_or_apart n own);
  backs = λ n z its there. ⊎_elim
      (λ is.
      let who : now.node ≡ z = same_node now.node z (ap (λ (s : Slot). s.life) is.1) in (
        node,
        disk,
        subst (λ k. IsUp old k node disk) (sym is.0) up,
        ap (λ (k : Node). k.maps.boot) (sym who) ∙ boots,
        ap (λ (k : Node). k.maps.installed) (sym who) ∙ epochs,
      ))
      (λ stood. (z, its, stood, refl, refl))
      (written_back old.slots (after x own now).slots own (slot_up node disk) (slot_up now.node now.disk) up slots n (slot_up z its) there);
  calm = λ before letter m. ⊎_elim (λ stood. before letter (flown letter stood)) (λ sent. calm letter sent) (put_among out (record x { slots = with_slot x.slots own (slot_up now.node now.disk) }) letter m);
}
  where
    now : Reaction
    now = done_for_maps from disk did promise out

    slots : (after x own now).slots ≡ with_slot old.slots own (slot_up now.node now.disk)
    slots = put_slots out (record x { slots = with_slot x.slots own (slot_up now.node now.disk) }) ∙ ap (λ (s : List Slot). with_slot s own (slot_up now.node now.disk)) same

    slot_same : (o : Option Slot) (a b : Slot) → o ≡ Some a → o ≡ Some b → a ≡ b
    slot_same o a b p q = cc

    same_node : (a b : Node) → Up a ≡ Up b → a ≡ b
    same_node a b e = cc

-- Reports and their acknowledgements leave boot and epoch, and are answered by letters that form no epoch.
record IsCalmDid (x : maps.Node) (did : maps_rules.Reaction) : Type 0 where
  boot : did.node.boot ≡ x.boot
  installed : did.node.installed ≡ x.installed
  out : (letter : Letter) → Among letter did.out → IsCalmBody letter.body

calm_of : (x : maps.Node) (did r : maps_rules.Reaction) → did ≡ r → IsCalmDid x r → IsCalmDid x did
calm_of x did r e c = subst (IsCalmDid x) (sym e) c

one_calm : (one letter : Letter) → IsCalmBody one.body → Among letter (one ∷ []) → IsCalmBody letter.body
one_calm one letter c m = ⊎_elim (λ e. subst (λ (l : Letter). IsCalmBody l.body) e c) (λ none. absurd none) m

hears_calm : (own : ℕ) (x : maps.Node) (disk : maps.Disk) (letter : Letter) (did : maps_rules.Reaction) (body : Body) → IsMapsBody body → IsCalmBody body → maps_rules.Hears own x disk letter body did → IsCalmDid x did
hears_calm own x disk letter did (Group epoch) of calm h = absurd calm
hears_calm own x disk letter did (Join epoch promise boot was claims) of calm h = absurd calm
hears_calm own x disk letter did (Install g) of calm h = absurd calm
hears_calm own x disk letter did (Report row) of calm (StaleReport n e) = calm_of x did _ e (record { boot = refl; installed = refl; out = λ l m. absurd m })
hears_calm own x disk letter did (Report row) of calm (Takes g a b c e) = calm_of x did _ e (record { boot = refl; installed = refl; out = λ l m. one_calm _ l tt m })
hears_calm own x disk letter did (Report row) of calm (Older g a b s c d e) = calm_of x did _ e (record { boot = refl; installed = refl; out = λ l m. one_calm _ l tt m })
hears_calm own x disk letter did (ReportAck user version) of calm (StaleAck n e) = calm_of x did _ e (record { boot = refl; installed = refl; out = λ l m. absurd m })
hears_calm own x disk letter did (ReportAck user version) of calm (Clears g a b c e) = calm_of x did _ e (record { boot = refl; installed = refl; out = λ l m. absurd m })
hears_calm own x disk letter did (ReportAck user version) of calm (Other g a b c e) = calm_of x did _ e (record { boot = refl; installed = refl; out = λ l m. absurd m })
hears_calm own x disk letter did body of calm h = absurd of

module _ (plan : Plan) (tells : Bool) (old new : World) (stands : Stands plan old) (calm : (letter : Letter) → Among letter (letters_of old.flying) → IsCalmBody letter.body) where
  told_fine : (said : Said) (answer : mail_steps.Said) → said ≡ Told answer → IsFine said → (n : ℕ) → answer ≢ Faulted n
  told_fine said answer is fine n e = fine n (is ∙ ap Told e)

  pub push_stays : (from to : ℕ) (said : Said) → MakesStep plan tells old (OfMessages (PushTo from to)) (Says said) new → IsFine said → Stays old new
  push_stays from to said (fits, ForMessages one step answer says for_mail does follow) fine =
      let same : one ≡ PushTo from to = inside one step in
      let pushes : mail_makes.DoesStep plan tells (mail_world_of old) (PushTo from to) answer (mail_world_of new) = subst (λ (k : mail_steps.Step). mail_makes.DoesStep plan tells (mail_world_of old) k answer (mail_world_of new)) same does in
      plain_stays old new (steps_plain (mail_world_of old) (mail_world_of new) (apart plan old stands) plan tells (PushTo from to) answer (λ n e. not_start n e) tt pushes) follow
      (pushes_up (mail_world_of old) (mail_world_of new) from to answer (told_fine said answer says fine) pushes)
    where
      inside : (k : mail_steps.Step) → OfMessages (PushTo from to) ≡ OfMessages k → k ≡ PushTo from to
      inside k e = cc

      not_start : (n : ℕ) → PushTo from to ≡ Start n → ⊥
      not_start n e = cc
  push_stays from to said (fits, PostsMaps number keep step h) fine = absurd (clash number keep step)
    where
      clash : (number : ℕ) (keep : Bool) → OfMessages (PushTo from to) ≡ OfMessages (Post number keep) → ⊥
      clash number keep e = cc
  push_stays from to said (fits, Starts n step h) fine = absurd (clash n step)
    where
      clash : (n : ℕ) → OfMessages (PushTo from to) ≡ OfMessages (Start n) → ⊥
      clash n e = cc
  push_stays from to said (fits, OpensGroup n step h) fine = absurd (cc step)
  push_stays from to said (fits, ConcludesGroup n step h) fine = absurd (cc step)
  push_stays from to said (fits, SendsReports a b step h) fine = absurd (cc step)

  pub post_stays : (number : ℕ) (said : Said) → MakesStep plan tells old (OfMessages (Post number false)) (Says said) new → IsFine said → Stays old new
  post_stays number said (fits, ForMessages one step answer says for_mail does follow) fine =
      let same : one ≡ Post number false = inside one step in
      let posts : mail_makes.DoesStep plan tells (mail_world_of old) (Post number false) answer (mail_world_of new) = subst (λ (k : mail_steps.Step). mail_makes.DoesStep plan tells (mail_world_of old) k answer (mail_world_of new)) same does in
      plain_stays old new (steps_plain (mail_world_of old) (mail_world_of new) (apart plan old stands) plan tells (Post number false) answer (λ n e. not_start n e) (of_mail old (Post number false) (subst (IsForMessages old) (inside one step) for_mail)) posts) follow
      (posts_up (mail_world_of old) (mail_world_of new) plan tells number false answer (told_fine said answer says fine) posts)
    where
      inside : (k : mail_steps.Step) → OfMessages (Post number false) ≡ OfMessages k → k ≡ Post number false
      inside k e = cc

      not_start : (n : ℕ) → Post number false ≡ Start n → ⊥
      not_start n e = cc
  post_stays number said (fits, PostsMaps other keep step (Hears f node disk up of fresh did h says is)) fine =
      let c = hears_calm f.letter.to node.maps (maps_disk_of disk) f.letter did f.letter.body of (calm f.letter (flew (mail_world_of old) other f)) h in
      subst (Stays old) (sym is) (turned_stays old f.letter.to node disk up (record old { flying = mail.flies_on (mail_world_of old) other f keep }) refl (λ letter m. flew_on (mail_world_of old) other f keep letter m)
      (learnt node f.letter.body) did (promise_by node.maps f.letter.body) did.out c.boot c.installed c.out)
  post_stays number said (fits, PostsMaps other keep step (FailsHearing f node disk up of fresh says down g is)) fine = absurd (fine f.letter.to says)
  post_stays number said (fits, Starts n step h) fine = absurd (clash n step)
    where
      clash : (n : ℕ) → OfMessages (Post number false) ≡ OfMessages (Start n) → ⊥
      clash n e = cc
  post_stays number said (fits, OpensGroup n step h) fine = absurd (cc step)
  post_stays number said (fits, ConcludesGroup n step h) fine = absurd (cc step)
  post_stays number said (fits, SendsReports a b step h) fine = absurd (cc step)

  pub report_stays : (from to : ℕ) (said : Said) → MakesStep plan tells old (ReportTo from to) (Says said) new → IsFine said → Stays old new
  report_stays from to said (fits, SendsReports a b step (Sends node disk up users first some did r says is)) fine = subst (Stays old) (sym is)
      (turned_stays old a node disk up old refl (λ letter m. m) node did None did.out (ap (λ (k : maps_rules.Reaction). k.node.boot) r.is) (ap (λ (k : maps_rules.Reaction). k.node.installed) r.is)
      (λ letter m. let k = among_map (λ user. record { from = a; to = b; epoch = r.membership.epoch; ticket = None; body = Report (maps_rules.own_row a node.maps (maps_disk_of disk) user) }) letter users
      (subst (λ (d : maps_rules.Reaction). Among letter d.out) r.is m) in
      subst (λ (l : Letter). IsCalmBody l.body) k.2 tt))
  report_stays from to said (fits, SendsReports a b step (HasNone node disk up none says is)) fine = subst (Stays old) (sym is) (stays_itself old)
  report_stays from to said (fits, ForMessages one step answer says for_mail does follow) fine = absurd (cc step)
  report_stays from to said (fits, PostsMaps number keep step h) fine = absurd (cc step)
  report_stays from to said (fits, Starts n step h) fine = absurd (cc step)
  report_stays from to said (fits, OpensGroup n step h) fine = absurd (cc step)
  report_stays from to said (fits, ConcludesGroup n step h) fine = absurd (cc step)

abbrev AllCalm : World → Type 0
AllCalm w = (letter : Letter) → Among letter (letters_of w.flying) → IsCalmBody letter.body

none_stays : (w new : World) → new ≡ w → Stays w new
none_stays w new e = subst (Stays w) (sym e) (stays_itself w)

pub flows_stay : (plan : Plan) (tells : Bool) (w new : World) → Flows plan tells w new → Stands plan w → AllCalm w → Stands plan new × Stays w new × (new.flying ≡ [])
flows_stay plan tells w new (Flowed _ _ none e) stands calm = (subst (Stands plan) (sym e) stands, none_stays w new e, ap (λ (v : World). v.flying) e ∙ none)
flows_stay plan tells w new (FlowsOn _ _ flight m low said mid made fine rest) stands calm =
    let step = post_stays plan tells w mid stands calm flight.number said made fine in
    let more = flows_stay plan tells mid new rest (makes_stand plan w stands tells (OfMessages (Post flight.number false)) (Says said) mid made) (step.calm calm) in
    (more.0, stays_on w mid new step more.1, more.2)

pub tells_stay : (plan : Plan) (tells : Bool) (from to : ℕ) (w new : World) → TellsMember plan tells from to w new → Stands plan w → AllCalm w → Stands plan new × Stays w new × (new.flying ≡ [])
tells_stay plan tells from to w new t stands calm =
    let first = push_stays plan tells w t.pushed stands calm from to t.push_said t.pushes t.push_fine in
    let stands_two = makes_stand plan w stands tells (OfMessages (PushTo from to)) (Says t.push_said) t.pushed t.pushes in
    let flown = flows_stay plan tells t.pushed t.between t.flows_first stands_two (first.calm calm) in
    let calm_two = flown.1.calm (first.calm calm) in
    let second = report_stays plan tells t.between t.reported flown.0 calm_two from to t.report_said t.reports t.report_fine in
    let stands_three = makes_stand plan t.between flown.0 tells (ReportTo from to) (Says t.report_said) t.reported t.reports in
    let more = flows_stay plan tells t.reported new t.flows stands_three (second.calm calm_two) in
    (more.0, stays_on w t.pushed new first (stays_on t.pushed t.between new flown.1 (stays_on t.between t.reported new second more.1)), more.2)

pub none_calm : (w : World) → w.flying ≡ [] → AllCalm w
none_calm w e letter m = absurd (subst (λ (f : List Flight). Among letter (letters_of f)) e m)

sweeps_keep : (plan : Plan) (tells : Bool) (pairs : List (ℕ × ℕ)) (w new : World) → Sweeps plan tells pairs w new → Stands plan w → w.flying ≡ [] → Stands plan new × Stays w new × (new.flying ≡ [])
sweeps_keep plan tells [] w new e stands none = (subst (Stands plan) (sym e) stands, none_stays w new e, ap (λ (v : World). v.flying) e ∙ none)
sweeps_keep plan tells (pair ∷ pairs) w new (mid, first, rest) stands none =
    let one = tells_stay plan tells pair.0 pair.1 w mid first stands (none_calm w none) in
    let more = sweeps_keep plan tells pairs mid new rest one.0 one.2 in
    (more.0, stays_on w mid new one.1 more.1, more.2)

-- a node is up, or has no epoch that is known
up_or_not : (w : World) (n : ℕ) → ((node : Node) × (disk : List Record) × IsUp w n node disk) ⊎ (boot_and_epoch w n ≡ None)
up_or_not w n = by (slot_at w.slots n) refl
  where
    by_life : (slot : Slot) (life : Life) → slot.life ≡ life → slot_at w.slots n ≡ Some slot → ((node : Node) × (disk : List Record) × IsUp w n node disk) ⊎ (boot_and_epoch w n ≡ None)
    by_life slot (Up node) is here = inl (node, slot.disk, here ∙ ap (λ (l : Life). Some (record { life = l; disk = slot.disk })) is)
    by_life slot (Down pending) is here = inr (ap (λ (o : Option Slot). option_map (λ (x : maps.Node). (x.boot, x.installed)) (maps_of_slot o)) here ∙ ap (λ (l : Life). option_map (λ (x : maps.Node). (x.boot, x.installed)) (maps_in l)) is)
    by_life slot Lost is here = inr (ap (λ (o : Option Slot). option_map (λ (x : maps.Node). (x.boot, x.installed)) (maps_of_slot o)) here ∙ ap (λ (l : Life). option_map (λ (x : maps.Node). (x.boot, x.installed)) (maps_in l)) is)

    by : (o : Option Slot) → slot_at w.slots n ≡ o → ((node : Node) × (disk : List Record) × IsUp w n node disk) ⊎ (boot_and_epoch w n ≡ None)
    by None is = inr (ap (λ (o : Option Slot). option_map (λ (x : maps.Node). (x.boot, x.installed)) (maps_of_slot o)) is)
    by (Some slot) is = by_life slot slot.life refl is

epoch_up : (w : World) (n : ℕ) (node : Node) (disk : List Record) → IsUp w n node disk → boot_and_epoch w n ≡ Some (node.maps.boot, node.maps.installed)
epoch_up w n node disk up = ap (λ (o : Option Slot). option_map (λ (x : maps.Node). (x.boot, x.installed)) (maps_of_slot o)) up

epochs_stay : (old new : World) → Stays old new → EpochsStay old new
epochs_stay old new s n = ⊎_elim
    (λ (node, disk, up). let k = s.ups n node disk up in epoch_up new n k.0 k.1 k.2 ∙ (λ i. Some (k.3 i, k.4 i)) ∙ sym (epoch_up old n node disk up))
    (λ none. ⊎_elim
    (λ (node, disk, up). let k = s.backs n node disk up in epoch_up new n node disk up ∙ (λ i. Some (k.3 i, k.4 i)) ∙ sym (epoch_up old n k.0 k.1 k.2))
    (λ still. still ∙ sym none)
    (up_or_not new n))
    (up_or_not old n)

pub sweeps_stay : (plan : Plan) (tells : Bool) (w new : World) (pairs : List (ℕ × ℕ)) → Stands plan w → w.flying ≡ [] → Sweeps plan tells pairs w new
    → Stands plan new × (new.flying ≡ []) × ((g : Membership) (member : Member) → IsLive w g member → IsLive new g member) × EpochsStay w new
sweeps_stay plan tells w new pairs stands none sweeps =
    let s = sweeps_keep plan tells pairs w new sweeps stands none in
    (s.0, s.2, λ g member live. let k = s.1.ups member.node live.node live.disk live.up in record { node = k.0; disk = k.1; up = k.2; boot = k.3 ∙ live.boot; installed = k.4 ∙ live.installed }, epochs_stay w new s.1)

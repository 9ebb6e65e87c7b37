-- How epochs begin, how a cluster is opened, and what is refused of a post.
use Rattle.mail_model.specs.Identity.{Id, EpochId}
use Rattle.mail_model.specs.Plan.{Plan}
use Rattle.mail_model.specs.Record.{Record}
use Rattle.object_model.specs.Lists.{Among}
use Rattle.object_model.specs.Letters.{Membership, Body, Letter, is_read_body}
use Rattle.object_model.specs.Letters.Body.{Group, Join, Install, Report, ReportAck}
use Rattle.cluster_model.specs.Cluster as mail_cluster
use Rattle.cluster_model.specs.Room.{Flight}
use Rattle.cluster_model.specs.World as mail
use Rattle.cluster_model.specs.Steps as mail_steps
use Rattle.cluster_model.specs.Steps.Step.{Start, Post}
use Rattle.maps_model.specs.Cluster as maps
use Rattle.maps_model.specs.Rules as maps_rules
use Rattle.maps_model.specs.Rules.HearsGroup.{Rises, Again, Old as OldGroup}
use Rattle.maps_model.specs.Rules.HearsJoin.{Late, Above, Joins}
use Rattle.maps_model.specs.Rules.HearsInstall.{Old as OldInstall, NotPromised, NotMember, Enters}
use Rattle.maps_model.specs.Rules.HearsReport.{Stale as StaleReport, Takes, Older}
use Rattle.maps_model.specs.Rules.HearsAck.{Stale as StaleAck, Clears, Other}
use Rattle.maps_model.proofs.Lists.{same_or_apart}
use Rattle.whole_model.specs.Whole.{Node, Slot, slot_at, with_slot, maps_disk_of}
use Rattle.whole_model.specs.Whole.Life.{Up, Down}
use Rattle.whole_model.specs.Rules.{IsMapsBody}
use Rattle.whole_world.specs.World.{World, mail_world_of, slot_up, IsUp, FollowsAlong, Reaction, after}
use Rattle.whole_world.specs.Steps.{Step, Said, StepOutcome}
use Rattle.whole_world.specs.Steps.StepOutcome.{Says, Refused, NoMemory}
use Rattle.whole_world.specs.Makes.{done_for_maps, learnt, promise_by, NodeGoesDown, HearsMaps, started, IsForMessages, DoesStep, RunsShort, MakesStep}
use Rattle.whole_world.specs.Makes.Groups.{Opens, FailsOpening}
use Rattle.whole_world.specs.Makes.Reports.{Sends, HasNone}
use Rattle.whole_world.specs.Makes.HearsMaps.{Hears, FailsHearing}
use Rattle.whole_world.specs.Makes.StartsUp.{Comes, FailsStarting}
use Rattle.whole_world.specs.Makes.DoesStep.{ForMessages, PostsMaps, Starts, OpensGroup, ConcludesGroup, SendsReports}
use Rattle.whole_world.specs.Makes.RunsShort.{InMessages, Starting, Promising}
use Rattle.whole_world.specs.Laws.{Stands}
use Rattle.whole_world.proofs.Plain.{IsPlain}
use Rattle.whole_world.proofs.Stepwise.{steps_plain, short_plain}
use Rattle.whole_world.proofs.Along.{mail_here}
use Rattle.whole_world.proofs.Keeping.{follows_epoch, apart, of_mail}
use Rattle.whole_world.proofs.Seeing.{put_slots}
use Rattle.whole_world.proofs.Viewing.{slot_here, slot_other}
use Rattle.std.proofs.Common.{◌≡◌, ◌≢◌, ◌⊎◌, inl, inr, ⊎_elim, ℕ, ◌+◌, Bool, true, false, ◌&&◌, ◌||◌, List, [], ◌∷◌, ◌++◌, length, drop, reverse, Option, Some, None, is_some, refl, sym, ap, ◌∙◌, subst, nat_eq, nat_le, true≢false, eq-eqb, if◌then◌else◌}
use Rattle.mail_model.specs.Book.{BookEntry, Acked}
use Rattle.mail_model.specs.Book.BookEntry.{Acknowledged, Struck, Dropped, CameUp, WasLost}
use Rattle.cluster_model.specs.Claims.{boot_of}
use Rattle.cluster_model.specs.Steps.StepFault.{Worn, NoSuchLetter}
use Rattle.cluster_model.specs.Claims.{EntryClaims}
use Rattle.cluster_model.specs.Parts as mail_parts
use Rattle.whole_world.specs.Steps.{step_fault}
use Rattle.std.specs.Option.{option_map}
use Rattle.whole_world.specs.Steps.Step.{OfMessages, ConcludeGroup}
use Rattle.whole_world.specs.Steps.StepFault.{Fault}
use Rattle.whole_world.specs.Epochs.{HadInstalled, HearsInstall, AreLosses, LosesLetter}
use Rattle.object_model.proofs.Lists.{among_front, among_behind}
use Rattle.object_model.specs.Mishaps.MishapKind.{Stale as StaleKind}
use Rattle.cluster_model.specs.Deeds as mail_deeds
use Rattle.cluster_model.specs.Makes as mail_makes
use Rattle.cluster_model.specs.Makes.Posts.{NobodyUp, OfOtherEpoch, TooLate, IsHeard, FailsHearing as MailFails, IsForMaps, FailsForMaps}
use Rattle.cluster_model.specs.Thrown as mail_thrown
use Rattle.cluster_model.specs.Thrown.{is_stale}
use Rattle.cluster_model.specs.Thrown.Why.{Stale, Late as LateWhy}
use Rattle.cluster_model.specs.Steps.Said.{Thrown}
use Rattle.whole_world.specs.Steps.Said.{Told}
use Rattle.whole_world.proofs.Viewing.{split_one}
use Rattle.whole_world.proofs.Returning.{plain_back}
use Rattle.whole_world.proofs.Staying.{follows_boot}

-- What a node hears of maps: its epoch stood, or it enters.
module _ (own : ℕ) (x : maps.Node) (disk : maps.Disk) (letter : Letter) (did : maps_rules.Reaction) where
  stood : (y : maps.Node) → did.node ≡ y → y.installed ≡ x.installed → y.boot ≡ x.boot → (g : Membership) → did.node.installed ≡ Some g
      → ((did.node.boot ≡ x.boot) × (x.installed ≡ Some g)) ⊎ ((did.node.boot ≡ x.boot) × (letter.body ≡ Install g) × maps.NamesNode g own x.boot)
  stood y e same boots g h = inl (ap (λ (k : maps.Node). k.boot) e ∙ boots, sym (ap (λ (k : maps.Node). k.installed) e ∙ same) ∙ h)

  came : (k : Membership) → letter.body ≡ Install k → did.node.boot ≡ x.boot → maps.NamesNode k own x.boot → did.node.installed ≡ Some k → (g : Membership) → did.node.installed ≡ Some g
      → ((did.node.boot ≡ x.boot) × (x.installed ≡ Some g)) ⊎ ((did.node.boot ≡ x.boot) × (letter.body ≡ Install g) × maps.NamesNode g own x.boot)
  came k is boots names e g h = let s : k ≡ g = same k g (sym e ∙ h) in inr (boots, is ∙ ap Install s, subst (λ m. maps.NamesNode m own x.boot) s names)
    where
      same : (p q : Membership) → Some p ≡ Some q → p ≡ q
      same p q i = cc

  hears_from : (body : Body) → letter.body ≡ body → IsMapsBody body → maps_rules.Hears own x disk letter body did → (g : Membership) → did.node.installed ≡ Some g
      → ((did.node.boot ≡ x.boot) × (x.installed ≡ Some g)) ⊎ ((did.node.boot ≡ x.boot) × (letter.body ≡ Install g) × maps.NamesNode g own x.boot)
  hears_from (Group epoch) is of (Rises b e) = stood _ (ap (λ (d : maps_rules.Reaction). d.node) e) refl refl
  hears_from (Group epoch) is of (Again b e) = stood _ (ap (λ (d : maps_rules.Reaction). d.node) e) refl refl
  hears_from (Group epoch) is of (OldGroup b e) = stood _ (ap (λ (d : maps_rules.Reaction). d.node) e) refl refl
  hears_from (Join epoch promise boot was claims) is of (Late n e) = stood _ (ap (λ (d : maps_rules.Reaction). d.node) e) refl refl
  hears_from (Join epoch promise boot was claims) is of (Above g a b c e) = stood _ (ap (λ (d : maps_rules.Reaction). d.node) e) refl refl
  hears_from (Join epoch promise boot was claims) is of (Joins g a b c e) = stood _ (ap (λ (d : maps_rules.Reaction). d.node) e) refl refl
  hears_from (Install k) is of (OldInstall w e) = stood _ (ap (λ (d : maps_rules.Reaction). d.node) e) refl refl
  hears_from (Install k) is of (NotPromised w e) = stood _ (ap (λ (d : maps_rules.Reaction). d.node) e) refl refl
  hears_from (Install k) is of (NotMember w e) = stood _ (ap (λ (d : maps_rules.Reaction). d.node) e) refl refl
  hears_from (Install k) is of (Enters a b c marked rows entering e) = came k is (ap (λ (d : maps_rules.Reaction). d.node.boot) e) c (ap (λ (d : maps_rules.Reaction). d.node.installed) e)
  hears_from (Report row) is of (StaleReport n e) = stood _ (ap (λ (d : maps_rules.Reaction). d.node) e) refl refl
  hears_from (Report row) is of (Takes g a b c e) = stood _ (ap (λ (d : maps_rules.Reaction). d.node) e) refl refl
  hears_from (Report row) is of (Older g a b s c d e) = stood _ (ap (λ (d : maps_rules.Reaction). d.node) e) refl refl
  hears_from (ReportAck user version) is of (StaleAck n e) = stood _ (ap (λ (d : maps_rules.Reaction). d.node) e) refl refl
  hears_from (ReportAck user version) is of (Clears g a b c e) = stood _ (ap (λ (d : maps_rules.Reaction). d.node) e) refl refl
  hears_from (ReportAck user version) is of (Other g a b c e) = stood _ (ap (λ (d : maps_rules.Reaction). d.node) e) refl refl
  hears_from body is of h = absurd of

module _ (plan : Plan) (old : World) (stands : Stands plan old) where
  abbrev Begins : World → Step → Type 0
  Begins new step = (n : ℕ) (node : Node) (disk : List Record) → IsUp new n node disk → (g : Membership) → node.maps.installed ≡ Some g
      → HadInstalled old n node.maps.boot g ⊎ HearsInstall old step n node.maps.boot g ⊎ (step ≡ ConcludeGroup n)

  slot_same : (o : Option Slot) (a b : Slot) → o ≡ Some a → o ≡ Some b → a ≡ b
  slot_same o a b p q = cc

  same_node : (a b : Node) → Up a ≡ Up b → a ≡ b
  same_node a b e = cc

  same_begins : (new : World) (step : Step) → new ≡ old → Begins new step
  same_begins new step e n node disk up g h = inl (record { node = node; disk = disk; up = subst (λ (w : World). IsUp w n node disk) e up; same = refl; installed = h })

  -- one slot is written
  write_begins : (new : World) (step : Step) (own : ℕ) (before now : Slot) → slot_at old.slots own ≡ Some before → new.slots ≡ with_slot old.slots own now
      → ((node : Node) → now.life ≡ Up node → (g : Membership) → node.maps.installed ≡ Some g → HadInstalled old own node.maps.boot g ⊎ HearsInstall old step own node.maps.boot g ⊎ (step ≡ ConcludeGroup own)) → Begins new step
  write_begins new step own before now here is begins n node disk up g h = ⊎_elim
      (λ same.
      let slot : now ≡ slot_up node disk = slot_same (slot_at new.slots n) now (slot_up node disk) (ap (λ (l : List Slot). slot_at l n) is ∙ ap (slot_at (with_slot old.slots own now)) same.1 ∙ slot_here old.slots own before now here) up in
      subst (λ k. HadInstalled old k node.maps.boot g ⊎ HearsInstall old step k node.maps.boot g ⊎ (step ≡ ConcludeGroup k)) (sym same.1) (begins node (ap (λ (s : Slot). s.life) slot) g h))
      (λ d. inl (record { node = node; disk = disk; up = sym (ap (λ (l : List Slot). slot_at l n) is ∙ slot_other old.slots own n now d.1) ∙ up; same = refl; installed = h }))
      (same_or_apart n own)

  down_begins : (new : World) (step : Step) (own : ℕ) (before : Slot) (pending disk : List Record) → slot_at old.slots own ≡ Some before → new.slots ≡ with_slot old.slots own (record { life = Down pending; disk = disk }) → Begins new step
  down_begins new step own before pending disk here is = write_begins new step own before (record { life = Down pending; disk = disk }) here is (λ node e. absurd (cc e))

  turned_begins : (step : Step) (own : ℕ) (node : Node) (disk : List Record) → IsUp old own node disk → (x : World) → x.slots ≡ old.slots → (from : Node) (did : maps_rules.Reaction) (promise : Option EpochId) (out : List Letter)
      → ((g : Membership) → did.node.installed ≡ Some g → HadInstalled old own did.node.boot g ⊎ HearsInstall old step own did.node.boot g ⊎ (step ≡ ConcludeGroup own))
      → Begins (after x own (done_for_maps from disk did promise out)) step
  turned_begins step own node disk up x same from did promise out begins = write_begins (after x own now) step own (slot_up node disk) (slot_up now.node now.disk) up
      (put_slots out (record x { slots = with_slot x.slots own (slot_up now.node now.disk) }) ∙ ap (λ (s : List Slot). with_slot s own (slot_up now.node now.disk)) same)
      (λ other e. let is = same_node now.node other e in
      subst (λ (k : Node). (g : Membership) → k.maps.installed ≡ Some g → HadInstalled old own k.maps.boot g ⊎ HearsInstall old step own k.maps.boot g ⊎ (step ≡ ConcludeGroup own)) is begins)
    where
      now : Reaction
      now = done_for_maps from disk did promise out

  plain_begins : (new : World) (step : Step) → IsPlain (mail_world_of old) (mail_world_of new) → FollowsAlong old new → Begins new step
  plain_begins new step plain follow n node disk up g h =
      let was = plain_back old new plain follow n node disk up in
      inl (record {
        node = was.before;
        disk = was.its;
        up = was.up;
        same = sym (ap (λ (k : maps.Node). k.boot) was.maps_are ∙ follows_boot n was.before.maps was.its (drop (length was.its) disk));
        installed = sym (ap (λ (k : maps.Node). k.installed) was.maps_are ∙ follows_epoch n was.before.maps was.its (drop (length was.its) disk)) ∙ h;
      })

  cut_begins : (step : Step) (own : ℕ) (node : Node) (disk added : List Record) → IsUp old own node disk → (new : World) → NodeGoesDown old own disk added new → Begins new step
  cut_begins step own node disk added up new g = down_begins new step own (slot_up node disk) g.pending (disk ++ g.front) up (ap (λ (w : World). w.slots) g.is)

  stood_at : (step : Step) (own : ℕ) (node : Node) (disk : List Record) → IsUp old own node disk → (did : maps_rules.Reaction) → did.node.boot ≡ node.maps.boot → did.node.installed ≡ node.maps.installed
      → (g : Membership) → did.node.installed ≡ Some g → HadInstalled old own did.node.boot g ⊎ HearsInstall old step own did.node.boot g ⊎ (step ≡ ConcludeGroup own)
  stood_at step own node disk up did boots same g h = inl (record { node = node; disk = disk; up = up; same = sym boots; installed = sym same ∙ h })

  does_begin : (tells : Bool) (step : Step) (said : Said) (new : World) → DoesStep plan tells old step said new → Begins new step
  does_begin tells step said new (ForMessages one is answer says for_mail does follow) = plain_begins new step
      (steps_plain (mail_world_of old) (mail_world_of new) (apart plan old stands) plan tells one answer (λ n e. starts_not n (subst (IsForMessages old) e for_mail)) (of_mail old one for_mail) does) follow
    where
      starts_not : (n : ℕ) → IsForMessages old (Start n) → ⊥
      starts_not n p = p
  does_begin tells step said new (PostsMaps number keep is (Hears f node disk up of fresh did h says new_world)) = subst (λ (w : World). Begins w step) (sym new_world)
      (turned_begins step f.letter.to node disk up (record old { flying = mail.flies_on (mail_world_of old) number f keep }) refl (learnt node f.letter.body) did (promise_by node.maps f.letter.body) did.out
      (λ g installed. ⊎_elim
      (λ stood. inl (record { node = node; disk = disk; up = up; same = sym stood.0; installed = stood.1 }))
      (λ came. inr (inl (record { number = number; keep = keep; is = is; flies = f; to = refl; body = came.1; names = subst (maps.NamesNode g f.letter.to) (sym came.0) came.2 })))
      (hears_from f.letter.to node.maps (maps_disk_of disk) f.letter did f.letter.body refl of h g installed)))
  does_begin tells step said new (PostsMaps number keep is (FailsHearing f node disk up of fresh says down g new_world)) = subst (λ (w : World). Begins w step) (sym new_world)
      (down_begins (record down { flying = mail.flies_on (mail_world_of old) number f keep }) step f.letter.to (slot_up node disk) g.pending (disk ++ g.front) up (ap (λ (w : World). w.slots) g.is))
  does_begin tells step said new (Starts n is (Comes disk pending kept here pending_is below says records rec new_world)) = subst (λ (w : World). Begins w step) (sym new_world)
      (write_begins (record old { slots = with_slot old.slots n (slot_up (started n plan.nodes (disk ++ kept) records) records); book = old.book ++ CameUp n (boot_of (disk ++ kept) + 1) ∷ [] }) step n (record { life = Down pending; disk = disk }) (slot_up (started n plan.nodes (disk ++ kept) records) records) here refl
      (λ node e g h. absurd (none g (ap (λ (k : Node). k.maps.installed) (same_node (started n plan.nodes (disk ++ kept) records) node e) ∙ h))))
    where
      none : (g : Membership) → None ≡ Some g → ⊥
      none g e = cc
  does_begin tells step said new (Starts n is (FailsStarting disk pending next records here stops says new_world)) = down_begins new step n (record { life = Down pending; disk = disk }) next records here (ap (λ (w : World). w.slots) new_world)
  does_begin tells step said new (OpensGroup n is (Opens node disk up says new_world)) = subst (λ (w : World). Begins w step) (sym new_world)
      (turned_begins step n node disk up old refl node (maps_rules.start_group n plan.nodes node.maps (maps_disk_of disk)) (Some (maps_rules.next_epoch n node.maps)) (reverse (maps_rules.start_group n plan.nodes node.maps (maps_disk_of disk)).out) (stood_at step n node disk up (maps_rules.start_group n plan.nodes node.maps (maps_disk_of disk)) refl refl))
  does_begin tells step said new (OpensGroup n is (FailsOpening node disk up says g)) = cut_begins step n node disk _ up new g
  does_begin tells step said new (ConcludesGroup n is f) = subst (λ (w : World). Begins w step) (sym f.new_world) (turned_begins step n f.node f.disk f.up old refl f.node f.did None f.did.out (λ g h. inr (inr is)))
  does_begin tells step said new (SendsReports from to is (Sends node disk up users first some did r says new_world)) = subst (λ (w : World). Begins w step) (sym new_world)
      (turned_begins step from node disk up old refl node did None did.out (stood_at step from node disk up did (ap (λ (d : maps_rules.Reaction). d.node.boot) r.is) (ap (λ (d : maps_rules.Reaction). d.node.installed) r.is)))
  does_begin tells step said new (SendsReports from to is (HasNone node disk up none says new_world)) = same_begins new step new_world

  short_begins : (step : Step) (n : ℕ) (new : World) → RunsShort plan old step n new → Begins new step
  short_begins step n new (InMessages one is for_mail short follow) = plain_begins new step (short_plain (mail_world_of old) (mail_world_of new) (apart plan old stands) plan one n (of_mail old one for_mail) short) follow
  short_begins step n new (Starting disk pending next records is here stops new_world) = down_begins new step n (record { life = Down pending; disk = disk }) next records here (ap (λ (w : World). w.slots) new_world)
  short_begins step n new (Promising node disk promise up why g) = cut_begins step n node disk _ up new g

  pub epochs_begin : (tells : Bool) (step : Step) (outcome : StepOutcome) (new : World) → MakesStep plan tells old step outcome new → (n : ℕ) (node : Node) (disk : List Record) → IsUp new n node disk → (g : Membership) → node.maps.installed ≡ Some g
      → HadInstalled old n node.maps.boot g ⊎ HearsInstall old step n node.maps.boot g ⊎ (step ≡ ConcludeGroup n)
  epochs_begin tells step (Says said) new m = does_begin tells step said new m.1
  epochs_begin tells step (Refused fault) new m = same_begins new step m.1
  epochs_begin tells step (NoMemory None) new m = same_begins new step m
  epochs_begin tells step (NoMemory (Some n)) new m = short_begins step n new m

-- a book of losses claims nothing
losses_claim : (book : List BookEntry) → AreLosses book → (entry : BookEntry) → Among entry book → (m : ℕ) (fact : _) → EntryClaims entry m fact → ⊥
losses_claim book losses entry m k fact c = let l = losses entry m in subst (λ (e : BookEntry). EntryClaims e k fact) (sym l.1) c

pub begins_anew : (plan : Plan) (w : World) (book : List BookEntry) → Stands plan w → ((user : List ℕ) (id : Id) → Among (Struck user id) w.book → ⊥) → AreLosses book → Stands plan (record w { sent = 0; book = book })
begins_anew plan w book stands unstruck losses = record {
  in_plan = stands.in_plan;
  sound = record {
    mail = record {
      order = m.order;
      contents = record {
        one = m.contents.one;
        ended = m.contents.ended;
        wanted = m.contents.wanted;
        acked = λ copy octets i. absurd (not_acked copy i);
        held_drawn = m.contents.held_drawn;
        wanted_drawn = m.contents.wanted_drawn;
        acked_drawn = λ copy i. absurd (not_acked copy i);
        filed_drawn = m.contents.filed_drawn;
      };
      deletions = record {
        disks = λ n slot at user id s. absurd (unstruck user id (m.deletions.disks n slot at user id s));
        letters = λ letter i user id s. absurd (unstruck user id (m.deletions.letters letter i user id s));
      };
      claims = record {
        nodes = m.claims.nodes;
        letters = m.claims.letters;
        files = m.claims.files;
        filed = m.claims.filed;
        booked = λ entry i k fact c. absurd (losses_claim book losses entry i k fact c);
      };
      fit = m.fit;
      waits = m.waits;
      enough = record { acked = λ copy i. absurd (not_acked copy i); dropped = λ user id confirmers i. absurd (not_dropped user id confirmers i) };
    };
    maps = stands.sound.maps;
  };
  one_epoch = stands.one_epoch;
}
  where
    m : mail_parts.Sound plan.confirm (mail.cluster_of (mail_world_of w))
    m = stands.sound.mail

    not_acked : (copy : Acked) → Among (Acknowledged copy) book → ⊥
    not_acked copy i = clash (losses (Acknowledged copy) i).0 copy (losses (Acknowledged copy) i).1
      where
        clash : (n : ℕ) (copy : Acked) → WasLost n ≡ Acknowledged copy → ⊥
        clash n copy e = cc

    not_dropped : (user : List ℕ) (id : Id) (confirmers : ℕ) → Among (Dropped user id confirmers) book → ⊥
    not_dropped user id confirmers i = clash (losses (Dropped user id confirmers) i).0 (losses (Dropped user id confirmers) i).1
      where
        clash : (n : ℕ) → WasLost n ≡ Dropped user id confirmers → ⊥
        clash n e = cc

-- a letter in flight is found by its number
letter_found : (flying : List Flight) (flight : Flight) → Among flight flying → is_some (mail_steps.letter_at flight.number flying) ≡ true
letter_found [] flight m = absurd m
letter_found (first ∷ flying) flight m = by (λ k. letter_found flying flight k) (nat_eq first.number flight.number) refl m
  where
    by : (Among flight flying → is_some (mail_steps.letter_at flight.number flying) ≡ true) → (b : Bool) → nat_eq first.number flight.number ≡ b → (first ≡ flight) ⊎ Among flight flying
        → is_some (if b then Some first.letter else mail_steps.letter_at flight.number flying) ≡ true
    by rest true e k = refl
    by rest false e (inl is) = absurd (true≢false (sym (eq-eqb first.number flight.number (ap (λ (f : Flight). f.number) is)) ∙ e))
    by rest false e (inr k) = rest k

pub post_worn : (plan : Plan) (w : World) (flight : Flight) (keep : Bool) → Among flight w.flying
    → (step_fault plan (OfMessages (Post flight.number keep)) w ≡ None) ⊎ (step_fault plan (OfMessages (Post flight.number keep)) w ≡ Some (Fault Worn))
post_worn plan w flight keep m = by (is_some (mail_steps.letter_at flight.number w.flying)) (letter_found w.flying flight m) ((true && nat_le mail_steps.letters_end w.sent) || false)
  where
    by : (a : Bool) → a ≡ true → (b : Bool)
        → (option_map Fault (mail_steps.first_fault (None ∷ None ∷ (if a then None else Some NoSuchLetter) ∷ (if b then Some Worn else None) ∷ None ∷ [])) ≡ None)
        ⊎ (option_map Fault (mail_steps.first_fault (None ∷ None ∷ (if a then None else Some NoSuchLetter) ∷ (if b then Some Worn else None) ∷ None ∷ [])) ≡ Some (Fault Worn))
    by true e true = inr refl
    by true e false = inl refl
    by false e b = absurd (true≢false (sym e))

-- a letter of another epoch
module _ (plan : Plan) (tells : Bool) (old new : World) (number : ℕ) (flies : mail.Flies (mail_world_of old) number) (keep : Bool) (said : Said)
    (alone : (other : Flight) → Among other (flies.front ++ flies.back) → other.number ≢ number) (node : Node) (disk : List Record) (up : IsUp old flies.letter.to node disk)
    (stale : is_stale flies.letter node.mail.installed ≡ true) where
  same_letter : (f : mail.Flies (mail_world_of old) number) → (flies.letter ≡ f.letter) × (flies.front ≡ f.front) × (flies.back ≡ f.back)
  same_letter f = split_one number flies.letter f.letter flies.front flies.back f.front f.back (sym flies.is ∙ f.is)
      (λ x m. alone x (among_front x flies.front flies.back m)) (λ x m. alone x (among_behind x flies.front flies.back m))

  seen_up : mail_makes.IsUp (mail_world_of old) flies.letter.to node.mail disk
  seen_up = mail_here old.slots flies.letter.to (slot_up node disk) up

  mail_same : (a b : mail_cluster.Node) (d e : List Record) (l : Letter) → flies.letter ≡ l → mail_makes.IsUp (mail_world_of old) l.to b e → b ≡ node.mail
  mail_same a b d e l is there = up_is b node.mail (ap (λ (s : mail_cluster.Slot). s.life) (slots_are (mail_deeds.slot_up b e) (mail_deeds.slot_up node.mail disk) (subst (λ (k : Letter). mail_makes.IsUp (mail_world_of old) k.to b e) (sym is) there) seen_up))
    where
      slots_are : (x y : mail_cluster.Slot) → mail_cluster.slot_at (mail_world_of old).slots flies.letter.to ≡ Some x → mail_cluster.slot_at (mail_world_of old).slots flies.letter.to ≡ Some y → x ≡ y
      slots_are x y p q = cc

      up_is : (x y : mail_cluster.Node) → mail_cluster.Life.Up x ≡ mail_cluster.Life.Up y → x ≡ y
      up_is x y p = cc

  -- its receiver throws it as stale
  stale_is : (b : mail_cluster.Node) (l : Letter) → flies.letter ≡ l → b ≡ node.mail → is_stale l b.installed ≡ true
  stale_is b l is same = subst (λ (k : Letter). is_stale k b.installed ≡ true) is (subst (λ (x : mail_cluster.Node). is_stale flies.letter x.installed ≡ true) (sym same) stale)

  thrown_is : (b : mail_cluster.Node) (l : Letter) → flies.letter ≡ l → b ≡ node.mail → mail_thrown.thrown_by l.to b l ≡ Some Stale
  thrown_is b l is same = ap (λ (s : Bool). if s then Some Stale else (if mail_thrown.is_late l.to b l then Some LateWhy else None)) (stale_is b l is same)

  posts_stale : (answer : mail_steps.Said) → mail_makes.Posts plan (mail_world_of old) number keep answer (mail_world_of new)
      → (answer ≡ Thrown Stale) × (mail_world_of new ≡ mail_makes.lost_letter StaleKind (mail_world_of old) number flies keep)
  posts_stale answer (NobodyUp f nobody told is) = absurd (nobody node.mail disk (subst (λ (k : Letter). mail_makes.IsUp (mail_world_of old) k.to node.mail disk) (same_letter f).0 seen_up))
  posts_stale answer (OfOtherEpoch f b e there thrown told is) = (told, is ∙ by keep)
    where
      s : (flies.letter ≡ f.letter) × (flies.front ≡ f.front) × (flies.back ≡ f.back)
      s = same_letter f

      by : (k : Bool) → mail_makes.lost_letter StaleKind (mail_world_of old) number f k ≡ mail_makes.lost_letter StaleKind (mail_world_of old) number flies k
      by true = λ i. record (mail_world_of old) { slots = mail.missed StaleKind (mail_world_of old).slots (sym s.0 i); flying = (mail_world_of old).flying }
      by false = λ i. record (mail_world_of old) { slots = mail.missed StaleKind (mail_world_of old).slots (sym s.0 i); flying = sym s.1 i ++ sym s.2 i }
  posts_stale answer (TooLate f b e there thrown told is) = absurd (clash (sym (thrown_is b f.letter (same_letter f).0 (mail_same node.mail b disk e f.letter (same_letter f).0 there)) ∙ thrown))
    where
      clash : Some Stale ≡ Some LateWhy → ⊥
      clash h = cc
  posts_stale answer (IsHeard f b e there thrown told is) = absurd (clash (sym (thrown_is b f.letter (same_letter f).0 (mail_same node.mail b disk e f.letter (same_letter f).0 there)) ∙ thrown))
    where
      clash : Some Stale ≡ None → ⊥
      clash h = cc
  posts_stale answer (IsForMaps f b e there of fresh told did forms is) = absurd (true≢false (sym (stale_is b f.letter (same_letter f).0 (mail_same node.mail b disk e f.letter (same_letter f).0 there)) ∙ fresh))
  posts_stale answer (FailsForMaps f b e promise there of fresh told down g is) = absurd (true≢false (sym (stale_is b f.letter (same_letter f).0 (mail_same node.mail b disk e f.letter (same_letter f).0 there)) ∙ fresh))
  posts_stale answer (MailFails f b e there thrown told down g is) = absurd (clash (sym (thrown_is b f.letter (same_letter f).0 (mail_same node.mail b disk e f.letter (same_letter f).0 there)) ∙ thrown))
    where
      clash : Some Stale ≡ None → ⊥
      clash h = cc

  -- one of a call that reads
  reads_stale : (answer : mail_steps.Said) → mail_makes.PostsRead (mail_world_of old) number keep answer (mail_world_of new)
      → (answer ≡ Thrown Stale) × (is_read_body flies.letter.body ≡ true) × mail_makes.GoesOnReading (record (mail_world_of old) { flying = mail.flies_on (mail_world_of old) number flies keep }) (mail_world_of new)
  reads_stale answer (mail_makes.PostsRead.NobodyUp f of nobody told g) = absurd (nobody node.mail disk (subst (λ (k : Letter). mail_makes.IsUp (mail_world_of old) k.to node.mail disk) (same_letter f).0 seen_up))
  reads_stale answer (mail_makes.PostsRead.OfOtherEpoch f b e of there thrown told g) = (
    told,
    subst (λ (k : Letter). is_read_body k.body ≡ true) (sym (same_letter f).0) of,
    subst (λ (l : List Flight). mail_makes.GoesOnReading (record (mail_world_of old) { flying = l }) (mail_world_of new)) (by keep) g,
  )
    where
      by : (k : Bool) → mail.flies_on (mail_world_of old) number f k ≡ mail.flies_on (mail_world_of old) number flies k
      by true = refl
      by false = λ i. sym (same_letter f).1 i ++ sym (same_letter f).2 i
  reads_stale answer (mail_makes.PostsRead.TooLate f b e of there fresh late told is) = absurd (true≢false (sym (stale_is b f.letter (same_letter f).0 (mail_same node.mail b disk e f.letter (same_letter f).0 there)) ∙ fresh))
  reads_stale answer (mail_makes.PostsRead.IsHeard f b e of there fresh told g) = absurd (true≢false (sym (stale_is b f.letter (same_letter f).0 (mail_same node.mail b disk e f.letter (same_letter f).0 there)) ∙ fresh))
  reads_stale answer (mail_makes.PostsRead.FailsForReads f b e of there fresh told g) = absurd (true≢false (sym (stale_is b f.letter (same_letter f).0 (mail_same node.mail b disk e f.letter (same_letter f).0 there)) ∙ fresh))

  posted_same : (answer : mail_steps.Said) → (posts : mail_makes.Posts plan (mail_world_of old) number keep answer (mail_world_of new)) → mail_makes.posted_letter posts ≡ flies.letter
  posted_same answer (NobodyUp f nobody told is) = sym (same_letter f).0
  posted_same answer (OfOtherEpoch f b e there thrown told is) = sym (same_letter f).0
  posted_same answer (TooLate f b e there thrown told is) = sym (same_letter f).0
  posted_same answer (IsHeard f b e there thrown told is) = sym (same_letter f).0
  posted_same answer (MailFails f b e there thrown told down g is) = sym (same_letter f).0
  posted_same answer (IsForMaps f b e there of fresh told did forms is) = sym (same_letter f).0
  posted_same answer (FailsForMaps f b e promise there of fresh told down g is) = sym (same_letter f).0

  pub stale_changes : MakesStep plan tells old (OfMessages (Post number keep)) (Says said) new
      → (said ≡ Told (Thrown Stale)) × LosesLetter StaleKind (mail_world_of old) number flies keep (mail_world_of new) × FollowsAlong old new
  stale_changes (fits, ForMessages one step answer says for_mail does follow) =
      either (subst (λ (k : mail_steps.Step). mail_makes.DoesStep plan tells (mail_world_of old) k answer (mail_world_of new)) (inside one step) does)
    where
      either : mail_makes.DoesStep plan tells (mail_world_of old) (Post number keep) answer (mail_world_of new)
          → (said ≡ Told (Thrown Stale)) × LosesLetter StaleKind (mail_world_of old) number flies keep (mail_world_of new) × FollowsAlong old new
      either (inl d) = let p = posts_stale answer d.0 in (says ∙ ap Told p.0, inl (subst (λ (k : Letter). is_read_body k.body ≡ false) (posted_same answer d.0) d.1, p.1), follow)
      either (inr d) = let p = reads_stale answer d in (says ∙ ap Told p.0, inr (p.1, p.2), follow)

      inside : (k : mail_steps.Step) → OfMessages (Post number keep) ≡ OfMessages k → k ≡ Post number keep
      inside k e = cc
  stale_changes (fits, PostsMaps other kept step h) = absurd (by (subst (λ k. HearsMaps old k kept said new) (inside other kept step) h))
    where
      inside : (k : ℕ) (b : Bool) → OfMessages (Post number keep) ≡ OfMessages (Post k b) → k ≡ number
      inside k b e = cc

      not_fresh : (f : mail.Flies (mail_world_of old) number) (x : Node) (d : List Record) → IsUp old f.letter.to x d → is_stale f.letter x.mail.installed ≡ false → ⊥
      not_fresh f x d there fresh = true≢false (sym (subst (λ (k : Letter). is_stale k x.mail.installed ≡ true) (same_letter f).0
          (subst (λ (y : mail_cluster.Node). is_stale flies.letter y.installed ≡ true) (sym (mail_same node.mail x.mail disk d f.letter (same_letter f).0 (mail_here old.slots f.letter.to (slot_up x d) there))) stale)) ∙ fresh)

      by : HearsMaps old number kept said new → ⊥
      by (Hears f x d there of fresh did hh says is) = not_fresh f x d there fresh
      by (FailsHearing f x d there of fresh says down g is) = not_fresh f x d there fresh
  stale_changes (fits, Starts n step h) = absurd (clash n step)
    where
      clash : (n : ℕ) → OfMessages (Post number keep) ≡ OfMessages (Start n) → ⊥
      clash n e = cc
  stale_changes (fits, OpensGroup n step h) = absurd (cc step)
  stale_changes (fits, ConcludesGroup n step h) = absurd (cc step)
  stale_changes (fits, SendsReports a b step h) = absurd (cc step)

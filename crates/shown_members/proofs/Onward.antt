-- What a step that forms no epoch makes of nodes that are up, and of Installs in flight.
use Rattle.std.proofs.Common.{◌≡◌, ◌⊎◌, ⊎_elim, ℕ, ◌+◌, ◌<◌, ◌≤◌, Bool, List, [], ◌∷◌, ◌++◌, length, drop, reverse, append-nil, Option, Some, None, refl, sym, ap, ◌∙◌, subst, arith}
use Rattle.mail_model.specs.Identity.{EpochId}
use Rattle.mail_model.specs.Plan.{Plan}
use Rattle.mail_model.specs.Record.{Record}
use Rattle.mail_model.specs.Book.BookEntry.{CameUp}
use Rattle.object_model.specs.Lists.{Among}
use Rattle.object_model.specs.Letters.{Membership, Body, Letter}
use Rattle.object_model.specs.Letters.Body.{Group, Join, Install, Report, ReportAck}
use Rattle.cluster_model.specs.Claims.{boot_of}
use Rattle.cluster_model.specs.World as mail
use Rattle.cluster_model.specs.World.{letters_of}
use Rattle.cluster_model.specs.Steps.Step.{Start}
use Rattle.cluster_model.proofs.Filing.{among_map}
use Rattle.cluster_model.proofs.Stepping.{flew}
use Rattle.maps_model.specs.Cluster as maps
use Rattle.maps_model.specs.Epochs.{IsBefore}
use Rattle.maps_model.specs.Rules as maps_rules
use Rattle.maps_model.specs.Rules.HearsGroup.{Rises, Again, Old as OldGroup}
use Rattle.maps_model.specs.Rules.HearsJoin.{Late, Above, Joins}
use Rattle.maps_model.specs.Rules.HearsInstall.{Old as OldInstall, NotPromised, NotMember, Enters}
use Rattle.maps_model.specs.Rules.HearsReport.{Stale as StaleReport, Takes, Older}
use Rattle.maps_model.specs.Rules.HearsAck.{Stale as StaleAck, Clears, Other}
use Rattle.whole_model.specs.Whole.{Node, Slot, slot_at, with_slot, maps_slot, maps_disk_of}
use Rattle.whole_model.specs.Whole.Life.{Up, Down}
use Rattle.whole_model.specs.Rules.{IsMapsBody, IsMailBody}
use Rattle.whole_world.specs.World.{World, mail_world_of, slot_up, IsUp, FollowsAlong, Reaction, after}
use Rattle.whole_world.specs.Steps.{Step, Said, StepOutcome}
use Rattle.whole_world.specs.Steps.Step.{OfMessages}
use Rattle.whole_world.specs.Steps.StepOutcome.{Says, Refused, NoMemory}
use Rattle.whole_world.specs.Makes.{done_for_maps, learnt, promise_by, NodeGoesDown, started, IsForMessages, DoesStep, RunsShort, MakesStep}
use Rattle.whole_world.specs.Makes.Groups.{Opens, FailsOpening}
use Rattle.whole_world.specs.Makes.Reports.{Sends, HasNone}
use Rattle.whole_world.specs.Makes.HearsMaps.{Hears, FailsHearing}
use Rattle.whole_world.specs.Makes.StartsUp.{Comes, FailsStarting}
use Rattle.whole_world.specs.Makes.DoesStep.{ForMessages, PostsMaps, Starts, OpensGroup, ConcludesGroup, SendsReports}
use Rattle.whole_world.specs.Makes.RunsShort.{InMessages, Starting, Promising}
use Rattle.whole_world.specs.Laws.{Stands}
use Rattle.whole_world.proofs.Along.{maps_here}
use Rattle.whole_world.proofs.Plain.{IsPlain, IsMailOf}
use Rattle.whole_world.proofs.Stepwise.{flew_on, steps_plain, short_plain}
use Rattle.whole_world.proofs.Keeping.{follows_epoch, apart, of_mail}
use Rattle.whole_world.proofs.Staying.{follows_boot}
use Rattle.whole_world.proofs.Seeing.{among_reverse, put_slots, put_among}
use Rattle.whole_world.proofs.Charting.{sends_none}
use Rattle.whole_world.proofs.Returning.{plain_back, written_back}
use Rattle.shown_members.specs.Shown.{FormsNoEpoch}

-- What a node hears of maps: it stays in its epoch, or it enters a later one of a membership that names it.
data Came (own : ℕ) (x : maps.Node) (letter : Letter) (y : maps.Node) : Type 0 where
  Stood : y.boot ≡ x.boot → y.installed ≡ x.installed → Came own x letter y
  Moved : y.boot ≡ x.boot → (k : Membership) → letter.body ≡ Install k → maps.NamesNode k own x.boot → IsBefore (maps.epoch_of x) k.epoch → y.installed ≡ Some k → Came own x letter y

module _ (own : ℕ) (x : maps.Node) (disk : maps.Disk) (letter : Letter) (did : maps_rules.Reaction) where
  stood : (y : maps.Node) → did.node ≡ y → y.boot ≡ x.boot → y.installed ≡ x.installed → Came own x letter did.node
  stood y e boots same = Stood (ap (λ (k : maps.Node). k.boot) e ∙ boots) (ap (λ (k : maps.Node). k.installed) e ∙ same)

  hears_came : (body : Body) → letter.body ≡ body → IsMapsBody body → maps_rules.Hears own x disk letter body did → Came own x letter did.node
  hears_came (Group epoch) is of (Rises b e) = stood _ (ap (λ (d : maps_rules.Reaction). d.node) e) refl refl
  hears_came (Group epoch) is of (Again b e) = stood _ (ap (λ (d : maps_rules.Reaction). d.node) e) refl refl
  hears_came (Group epoch) is of (OldGroup b e) = stood _ (ap (λ (d : maps_rules.Reaction). d.node) e) refl refl
  hears_came (Join epoch promise boot was claims) is of (Late n e) = stood _ (ap (λ (d : maps_rules.Reaction). d.node) e) refl refl
  hears_came (Join epoch promise boot was claims) is of (Above g a b c e) = stood _ (ap (λ (d : maps_rules.Reaction). d.node) e) refl refl
  hears_came (Join epoch promise boot was claims) is of (Joins g a b c e) = stood _ (ap (λ (d : maps_rules.Reaction). d.node) e) refl refl
  hears_came (Install k) is of (OldInstall w e) = stood _ (ap (λ (d : maps_rules.Reaction). d.node) e) refl refl
  hears_came (Install k) is of (NotPromised w e) = stood _ (ap (λ (d : maps_rules.Reaction). d.node) e) refl refl
  hears_came (Install k) is of (NotMember w e) = stood _ (ap (λ (d : maps_rules.Reaction). d.node) e) refl refl
  hears_came (Install k) is of (Enters a b c marked rows entering e) = Moved (ap (λ (d : maps_rules.Reaction). d.node.boot) e) k is c b (ap (λ (d : maps_rules.Reaction). d.node.installed) e)
  hears_came (Report row) is of (StaleReport n e) = stood _ (ap (λ (d : maps_rules.Reaction). d.node) e) refl refl
  hears_came (Report row) is of (Takes g a b c e) = stood _ (ap (λ (d : maps_rules.Reaction). d.node) e) refl refl
  hears_came (Report row) is of (Older g a b s c d e) = stood _ (ap (λ (d : maps_rules.Reaction). d.node) e) refl refl
  hears_came (ReportAck user version) is of (StaleAck n e) = stood _ (ap (λ (d : maps_rules.Reaction). d.node) e) refl refl
  hears_came (ReportAck user version) is of (Clears g a b c e) = stood _ (ap (λ (d : maps_rules.Reaction). d.node) e) refl refl
  hears_came (ReportAck user version) is of (Other g a b c e) = stood _ (ap (λ (d : maps_rules.Reaction). d.node) e) refl refl
  hears_came body is of h = absurd of

-- Whoever is up after a step was up before it, in its boot and its epoch; or it entered an epoch by an Install in flight; or it started, in a later boot, and has no epoch.
pub data From (old : World) (step : Step) (n : ℕ) (node : Node) : Type 0 where
  Stays : (was : Node) (its : List Record) → IsUp old n was its → node.maps.boot ≡ was.maps.boot → node.maps.installed ≡ was.maps.installed → From old step n node
  Goes : (was : Node) (its : List Record) → IsUp old n was its → node.maps.boot ≡ was.maps.boot → (letter : Letter) → Among letter (letters_of old.flying) → (k : Membership) → letter.body ≡ Install k
      → maps.NamesNode k n was.maps.boot → IsBefore (maps.epoch_of was.maps) k.epoch → node.maps.installed ≡ Some k → From old step n node
  Begins : step ≡ OfMessages (Start n) → (slot : Slot) → slot_at old.slots n ≡ Some slot → boot_of slot.disk < node.maps.boot → node.maps.installed ≡ None → From old step n node

-- no Install is put in flight
abbrev pub BringsNone : World → World → Type 0
BringsNone old new = (letter : Letter) → Among letter (letters_of new.flying) → (k : Membership) → letter.body ≡ Install k → Among letter (letters_of old.flying)

pub record Onward (old : World) (step : Step) (new : World) : Type 0 where
  pub nodes : (n : ℕ) (node : Node) (disk : List Record) → IsUp new n node disk → From old step n node
  pub installs : BringsNone old new

module _ (plan : Plan) (old : World) (stands : Stands plan old) where
  same_node : (a b : Node) → Up a ≡ Up b → a ≡ b
  same_node a b e = cc

  same_onward : (new : World) (step : Step) → new ≡ old → Onward old step new
  same_onward new step e = record {
    nodes = λ n node disk up. Stays node disk (subst (λ (w : World). IsUp w n node disk) e up) refl refl;
    installs = λ letter m k body. subst (λ (w : World). Among letter (letters_of w.flying)) e m;
  }

  -- one slot is written
  written : (new : World) (step : Step) (own : ℕ) (before now : Slot) → slot_at old.slots own ≡ Some before → new.slots ≡ with_slot old.slots own now
      → ((node : Node) → now.life ≡ Up node → From old step own node) → BringsNone old new → Onward old step new
  written new step own before now here is from installs = record {
    nodes = λ n node disk up. ⊎_elim
        (λ same. subst (λ k. From old step k node) (sym same.0) (from node (ap (λ (s : Slot). s.life) same.1)))
        (λ stood. Stays node disk stood refl refl)
        (written_back old.slots new.slots own before now here is n (slot_up node disk) up);
    installs = installs;
  }

  down : (new : World) (step : Step) (own : ℕ) (before : Slot) (pending disk : List Record) → slot_at old.slots own ≡ Some before → new.slots ≡ with_slot old.slots own (record { life = Down pending; disk = disk })
      → BringsNone old new → Onward old step new
  down new step own before pending disk here is = written new step own before (record { life = Down pending; disk = disk }) here is (λ node e. absurd (cc e))

  -- a node does something for membership and maps
  turned : (step : Step) (own : ℕ) (node : Node) (disk : List Record) → IsUp old own node disk → (x : World) → x.slots ≡ old.slots → BringsNone old x → (from : Node) (did : maps_rules.Reaction)
      → (promise : Option EpochId) (out : List Letter) → ((now : Node) → now.maps ≡ did.node → From old step own now) → ((letter : Letter) → Among letter out → (k : Membership) → letter.body ≡ Install k → ⊥)
      → Onward old step (after x own (done_for_maps from disk did promise out))
  turned step own node disk up x same flown from did promise out came none = written (after x own now) step own (slot_up node disk) (slot_up now.node now.disk) up
      (put_slots out (record x { slots = with_slot x.slots own (slot_up now.node now.disk) }) ∙ ap (λ (s : List Slot). with_slot s own (slot_up now.node now.disk)) same)
      (λ other e. came other (ap (λ (k : Node). k.maps) (sym (same_node now.node other e))))
      (λ letter m k body. ⊎_elim (λ stood. flown letter stood k body) (λ sent. absurd (none letter sent k body)) (put_among out (record x { slots = with_slot x.slots own (slot_up now.node now.disk) }) letter m))
    where
      now : Reaction
      now = done_for_maps from disk did promise out

  -- where it stays in its boot and its epoch
  stays_at : (step : Step) (own : ℕ) (node : Node) (disk : List Record) → IsUp old own node disk → (did : maps_rules.Reaction) → did.node.boot ≡ node.maps.boot → did.node.installed ≡ node.maps.installed
      → (now : Node) → now.maps ≡ did.node → From old step own now
  stays_at step own node disk up did boots same now e = Stays node disk up (ap (λ (k : maps.Node). k.boot) e ∙ boots) (ap (λ (k : maps.Node). k.installed) e ∙ same)

  -- a step for messages
  plain_onward : (new : World) (step : Step) → IsPlain (mail_world_of old) (mail_world_of new) → FollowsAlong old new → Onward old step new
  plain_onward new step plain follow = record {
    nodes = λ n node disk up.
        let was = plain_back old new plain follow n node disk up in
        Stays was.before was.its was.up
        (ap (λ (k : maps.Node). k.boot) was.maps_are ∙ follows_boot n was.before.maps was.its (drop (length was.its) disk))
        (ap (λ (k : maps.Node). k.installed) was.maps_are ∙ follows_epoch n was.before.maps was.its (drop (length was.its) disk));
    installs = λ letter m k body. ⊎_elim (λ stood. stood) (λ (sent : IsMailOf (mail_world_of old) letter). absurd (no_install letter.body sent.mail.body k body)) (plain.letters letter m);
  }
    where
      no_install : (body : Body) → IsMailBody body → (k : Membership) → body ≡ Install k → ⊥
      no_install body of k e = subst IsMailBody e of

  cut : (step : Step) (own : ℕ) (node : Node) (disk added : List Record) → IsUp old own node disk → (new : World) → NodeGoesDown old own disk added new → Onward old step new
  cut step own node disk added up new g = down new step own (slot_up node disk) g.pending (disk ++ g.front) up (ap (λ (w : World). w.slots) g.is)
      (λ letter m k body. subst (λ (w : World). Among letter (letters_of w.flying)) g.is m)

  -- a node that starts is in a later boot than its disk has
  boot_later : (n : ℕ) (disk pending kept : List Record) → slot_at old.slots n ≡ Some (record { life = Down pending; disk = disk }) → (kept ≡ []) ⊎ (kept ≡ pending) → boot_of disk < boot_of (disk ++ kept) + 1
  boot_later n disk pending kept here is = below (boot_of disk) (boot_of (disk ++ kept)) (⊎_elim
      (λ none. subst (λ k. boot_of disk ≤ boot_of (disk ++ k)) (sym none) (same (boot_of disk) (boot_of (disk ++ [])) (ap boot_of (append-nil disk))))
      (λ all. subst (λ k. boot_of disk ≤ boot_of (disk ++ k)) (sym all) (stands.sound.maps.order.each n (maps_slot slot) (maps_here old.slots n slot here)).0)
      is)
    where
      slot : Slot
      slot = record { life = Down pending; disk = disk }

      below : (a b : ℕ) → a ≤ b → a < b + 1
      below a b h = omega (arith, h)

      same : (a b : ℕ) → b ≡ a → a ≤ b
      same a b e = omega (arith, e)

  does_onward : (tells : Bool) (step : Step) (said : Said) (new : World) → DoesStep plan tells old step said new → FormsNoEpoch step (Says said) → Onward old step new
  does_onward tells step said new (ForMessages one is answer says for_mail does follow) calm = plain_onward new step
      (steps_plain (mail_world_of old) (mail_world_of new) (apart plan old stands) plan tells one answer (λ n e. starts_not n (subst (IsForMessages old) e for_mail)) (of_mail old one for_mail) does) follow
    where
      starts_not : (n : ℕ) → IsForMessages old (Start n) → ⊥
      starts_not n p = p
  does_onward tells step said new (PostsMaps number keep is (Hears f node disk up of fresh did h says new_world)) calm = subst (Onward old step) (sym new_world)
      (turned step f.letter.to node disk up (record old { flying = mail.flies_on (mail_world_of old) number f keep }) refl (λ letter m k body. flew_on (mail_world_of old) number f keep letter m) (learnt node f.letter.body) did
      (promise_by node.maps f.letter.body) did.out (by (hears_came f.letter.to node.maps (maps_disk_of disk) f.letter did f.letter.body refl of h))
      (λ letter m k body. sends_none f.letter.to node.maps (maps_disk_of disk) f.letter did letter k f.letter.body of h m body))
    where
      by : Came f.letter.to node.maps f.letter did.node → (now : Node) → now.maps ≡ did.node → From old step f.letter.to now
      by (Stood boots same) now e = stays_at step f.letter.to node disk up did boots same now e
      by (Moved boots k body names before installed) now e = Goes node disk up (ap (λ (x : maps.Node). x.boot) e ∙ boots) f.letter (flew (mail_world_of old) number f) k body names before (ap (λ (x : maps.Node). x.installed) e ∙ installed)
  does_onward tells step said new (PostsMaps number keep is (FailsHearing f node disk up of fresh says fallen g new_world)) calm = subst (Onward old step) (sym new_world)
      (down (record fallen { flying = mail.flies_on (mail_world_of old) number f keep }) step f.letter.to (slot_up node disk) g.pending (disk ++ g.front) up (ap (λ (w : World). w.slots) g.is)
      (λ letter m k body. flew_on (mail_world_of old) number f keep letter m))
  does_onward tells step said new (Starts n is (Comes disk pending kept here kept_is below says records rec new_world)) calm = subst (Onward old step) (sym new_world)
      (written (record old { slots = with_slot old.slots n (slot_up (started n plan.nodes (disk ++ kept) records) records); book = old.book ++ CameUp n (boot_of (disk ++ kept) + 1) ∷ [] }) step n (record { life = Down pending; disk = disk })
      (slot_up (started n plan.nodes (disk ++ kept) records) records) here refl
      (λ node e. let same = same_node (started n plan.nodes (disk ++ kept) records) node e in
      Begins is (record { life = Down pending; disk = disk }) here (subst (λ (k : Node). boot_of disk < k.maps.boot) same (boot_later n disk pending kept here kept_is)) (ap (λ (k : Node). k.maps.installed) (sym same)))
      (λ letter m k body. m))
  does_onward tells step said new (Starts n is (FailsStarting disk pending next records here stops says new_world)) calm = down new step n (record { life = Down pending; disk = disk }) next records here
      (ap (λ (w : World). w.slots) new_world) (λ letter m k body. subst (λ (w : World). Among letter (letters_of w.flying)) new_world m)
  does_onward tells step said new (OpensGroup n is (Opens node disk up says new_world)) calm = subst (Onward old step) (sym new_world)
      (turned step n node disk up old refl (λ letter m k body. m) node did (Some (maps_rules.next_epoch n node.maps)) (reverse did.out) (stays_at step n node disk up did refl refl)
      (λ letter m k body. let r = among_map (maps_rules.letter_to n (Group (maps_rules.next_epoch n node.maps))) letter (maps_rules.others n plan.nodes) (among_reverse letter did.out m) in
      clash k (ap (λ (l : Letter). l.body) r.2 ∙ body)))
    where
      did : maps_rules.Reaction
      did = maps_rules.start_group n plan.nodes node.maps (maps_disk_of disk)

      clash : (k : Membership) → Group (maps_rules.next_epoch n node.maps) ≡ Install k → ⊥
      clash k e = cc
  does_onward tells step said new (OpensGroup n is (FailsOpening node disk up says g)) calm = cut step n node disk _ up new g
  does_onward tells step said new (ConcludesGroup n is f) calm = absurd (calm n said is refl)
  does_onward tells step said new (SendsReports from to is (Sends node disk up users first some did r says new_world)) calm = subst (Onward old step) (sym new_world)
      (turned step from node disk up old refl (λ letter m k body. m) node did None did.out
      (stays_at step from node disk up did (ap (λ (d : maps_rules.Reaction). d.node.boot) r.is) (ap (λ (d : maps_rules.Reaction). d.node.installed) r.is))
      (λ letter m k body. let one = among_map _ letter users (subst (Among letter) (ap (λ (d : maps_rules.Reaction). d.out) r.is) m) in clash k (maps_rules.own_row from node.maps (maps_disk_of disk) one.0) (ap (λ (l : Letter). l.body) one.2 ∙ body)))
    where
      clash : (k : Membership) (row : _) → Report row ≡ Install k → ⊥
      clash k row e = cc
  does_onward tells step said new (SendsReports from to is (HasNone node disk up none says new_world)) calm = same_onward new step new_world

  short_onward : (step : Step) (n : ℕ) (new : World) → RunsShort plan old step n new → Onward old step new
  short_onward step n new (InMessages one is for_mail short follow) = plain_onward new step (short_plain (mail_world_of old) (mail_world_of new) (apart plan old stands) plan one n (of_mail old one for_mail) short) follow
  short_onward step n new (Starting disk pending next records is here stops new_world) = down new step n (record { life = Down pending; disk = disk }) next records here (ap (λ (w : World). w.slots) new_world)
      (λ letter m k body. subst (λ (w : World). Among letter (letters_of w.flying)) new_world m)
  short_onward step n new (Promising node disk promise up why g) = cut step n node disk _ up new g

  pub makes_onward : (tells : Bool) (step : Step) (outcome : StepOutcome) (new : World) → MakesStep plan tells old step outcome new → FormsNoEpoch step outcome → Onward old step new
  makes_onward tells step (Says said) new m calm = does_onward tells step said new m.1 calm
  makes_onward tells step (Refused fault) new m calm = same_onward new step m.1
  makes_onward tells step (NoMemory None) new m calm = same_onward new step m
  makes_onward tells step (NoMemory (Some n)) new m calm = short_onward step n new m

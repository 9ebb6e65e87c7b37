-- Every step keeps that nobody marks a user of its own, and that each epoch has a manager for each bucket.
use Rattle.std.proofs.Common.{◌≡◌, ◌⊎◌, inl, inr, ⊎_elim, ℕ, zero, suc, ◌+◌, ◌<◌, Bool, true, false, cond, List, [], ◌∷◌, ◌++◌, length, drop, reverse, Option, Some, None, refl, sym, ap, ◌∙◌, subst, nat_eq, true≢false, if◌then◌else◌}
use Rattle.std.specs.Cmp.Lexicographic.{pointwise, bytes_decides}
use Rattle.std.specs.Prelude.{slice_get}
use Rattle.mail_model.specs.Identity.{EpochId}
use Rattle.mail_model.specs.Identity.Key.{Profile, Message}
use Rattle.mail_model.specs.Plan.{Plan}
use Rattle.mail_model.specs.Record.{Record}
use Rattle.mail_model.specs.Record.Record.{Boot, Promise, Octets, Stated, Retired}
use Rattle.object_model.specs.Lists.{Among}
use Rattle.object_model.specs.Letters.{Membership, Body, Letter}
use Rattle.object_model.specs.Letters.Body.{Group, Join, Install, Report, ReportAck}
use Rattle.cluster_model.specs.World as mail
use Rattle.cluster_model.specs.World.{letters_of}
use Rattle.cluster_model.specs.Steps.Step.{Start}
use Rattle.cluster_model.proofs.HearLogs.{among_flat}
use Rattle.cluster_model.proofs.Filing.{among_map}
use Rattle.cluster_model.proofs.Stepping.{flew}
use Rattle.maps_model.specs.Cluster as maps
use Rattle.maps_model.specs.Rules as maps_rules
use Rattle.maps_model.specs.Rules.HearsGroup.{Rises, Again, Old as OldGroup}
use Rattle.maps_model.specs.Rules.HearsJoin.{Late, Above, Joins}
use Rattle.maps_model.specs.Rules.HearsInstall.{Old as OldInstall, NotPromised, NotMember, Enters}
use Rattle.maps_model.specs.Rules.HearsReport.{Stale as StaleReport, Takes, Older}
use Rattle.maps_model.specs.Rules.HearsAck.{Stale as StaleAck, Clears, Other}
use Rattle.maps_model.specs.Rules.MarkAt.{TellsItself, Marks, Spares}
use Rattle.maps_model.proofs.Lists.{same_or_apart, node_is}
use Rattle.whole_model.specs.Whole.{Node, Slot, slot_at, with_slot, maps_disk_of, holds_of}
use Rattle.whole_model.specs.Whole.Life.{Up, Down}
use Rattle.whole_model.specs.Rules.{differ, turned_for, followed, follows, IsMapsBody, IsMailBody}
use Rattle.whole_world.specs.World.{World, mail_world_of, slot_up, IsUp, FollowsAlong, Reaction, after}
use Rattle.whole_world.specs.Steps.{Step, Said, StepOutcome}
use Rattle.whole_world.specs.Steps.StepOutcome.{Says, Refused, NoMemory}
use Rattle.whole_world.specs.Makes.{done_for_maps, learnt, promise_by, NodeGoesDown, started, IsForMessages, DoesStep, RunsShort, MadeStep, MakesStep, MakesAll}
use Rattle.whole_world.specs.Makes.Groups.{Opens, FailsOpening}
use Rattle.whole_world.specs.Makes.Reports.{Sends, HasNone}
use Rattle.whole_world.specs.Makes.HearsMaps.{Hears, FailsHearing}
use Rattle.whole_world.specs.Makes.StartsUp.{Comes, FailsStarting}
use Rattle.whole_world.specs.Makes.DoesStep.{ForMessages, PostsMaps, Starts, OpensGroup, ConcludesGroup, SendsReports}
use Rattle.whole_world.specs.Makes.RunsShort.{InMessages, Starting, Promising}
use Rattle.whole_world.specs.Laws.{Stands}
use Rattle.whole_world.specs.Settled.{empty_slots, unopened_world}
use Rattle.whole_world.specs.Sweeps.{IsCharted}
use Rattle.whole_world.proofs.Plain.{IsPlain, IsMailOf}
use Rattle.whole_world.proofs.Stepwise.{flew_on, steps_plain, short_plain}
use Rattle.whole_world.proofs.Keeping.{follows_epoch, apart, of_mail}
use Rattle.whole_world.proofs.Seeing.{among_reverse, put_slots, put_among}
use Rattle.whole_world.proofs.Returning.{plain_back}
use Rattle.whole_world.proofs.Stepping.{makes_stand}
use Rattle.whole_world.proofs.Viewing.{slot_here, slot_other}

-- a node marks nobody whom it manages itself
abbrev pub IsFair : ℕ → maps.Node → Type 0
IsFair n x = (user : List ℕ) → maps.manages_in x.installed n user ≡ true → x.marked user ≡ false

set_there : (f : List ℕ → Bool) (user : List ℕ) (u : List ℕ) → (u ≡ user → ⊥) → f u ≡ false → maps_rules.set_at f user true u ≡ false
set_there f user u apart none = by (pointwise nat_eq u user) refl
  where
    by : (b : Bool) → pointwise nat_eq u user ≡ b → cond b true (f u) ≡ false
    by true e = absurd (apart ((bytes_decides u user).0 e))
    by false e = none

set_false : (f : List ℕ → Bool) (user : List ℕ) (u : List ℕ) → f u ≡ false → maps_rules.set_at f user false u ≡ false
set_false f user u none = by (pointwise nat_eq u user)
  where
    by : (b : Bool) → cond b false (f u) ≡ false
    by true = refl
    by false = none

pub turned_fair : (own : ℕ) (x : maps.Node) (seen : List Record) (user : List ℕ) (full : Bool) → IsFair own x → IsFair own (turned_for own x seen user full)
turned_fair own x seen user full fair = by (differ (holds_of seen user) full) (maps.manages_in x.installed own user) refl
  where
    changed : maps.Node
    changed = record x { version = maps_rules.set_at x.version user (x.version user + 1) }

    by : (b c : Bool) → maps.manages_in x.installed own user ≡ c → IsFair own (if b
        then (if c then record changed { rows = maps_rules.set_row x.rows own x.boot user (record (maps_rules.own_row own x (maps_disk_of seen) user) { version = x.version user + 1; full = full }) }
        else record changed { marked = maps_rules.set_at x.marked user true }) else x)
    by true true h = λ u m. fair u m
    by true false h = λ u m. set_there x.marked user u (λ same. true≢false (sym m ∙ ap (maps.manages_in x.installed own) same ∙ h)) (fair u m)
    by false c h = fair

followed_fair : (own : ℕ) (x : maps.Node) (seen : List Record) (one : Record) → IsFair own x → IsFair own (followed own x seen one)
followed_fair own x seen (Stated (Message user id) state) fair = turned_fair own x seen user (holds_of (seen ++ Stated (Message user id) state ∷ []) user) fair
followed_fair own x seen (Stated (Profile user) state) fair = fair
followed_fair own x seen (Boot boot) fair = fair
followed_fair own x seen (Promise epoch) fair = fair
followed_fair own x seen (Octets id octets) fair = fair
followed_fair own x seen (Retired key state) fair = fair

follows_fair : (own : ℕ) (x : maps.Node) (seen records : List Record) → IsFair own x → IsFair own (follows own x seen records)
follows_fair own x seen [] fair = fair
follows_fair own x seen (one ∷ records) fair = follows_fair own (followed own x seen one) (seen ++ one ∷ []) records (followed_fair own x seen one fair)

entered_fair : (own : ℕ) (x : maps.Node) (disk : maps.Disk) (g : Membership) (marked : List ℕ → Bool) (rows : ℕ → ℕ → List ℕ → Option _) → maps_rules.Entering own x disk g marked rows
    → (user : List ℕ) → maps.manages g own user ≡ true → marked user ≡ false
entered_fair own x disk g marked rows entering user m = by (entering.marks user)
  where
    its : maps.manager_of g user ≡ Some own
    its = node_is (maps.manager_of g user) own m

    by : maps_rules.MarkAt own x disk g user (marked user) → marked user ≡ false
    by (TellsItself managed e) = e
    by (Marks other due e) = absurd (other its)
    by (Spares other none why e) = e

module _ (own : ℕ) (x : maps.Node) (disk : maps.Disk) (letter : Letter) (did : maps_rules.Reaction) where
  same_fair : (y : maps.Node) → did.node ≡ y → IsFair own y → IsFair own did.node
  same_fair y e fair = subst (IsFair own) (sym e) fair

  hears_fair : (body : Body) → IsMapsBody body → maps_rules.Hears own x disk letter body did → IsFair own x → IsFair own did.node
  hears_fair (Group epoch) of (Rises b e) fair = same_fair _ (ap (λ (d : maps_rules.Reaction). d.node) e) fair
  hears_fair (Group epoch) of (Again b e) fair = same_fair _ (ap (λ (d : maps_rules.Reaction). d.node) e) fair
  hears_fair (Group epoch) of (OldGroup b e) fair = same_fair _ (ap (λ (d : maps_rules.Reaction). d.node) e) fair
  hears_fair (Join epoch promise boot was claims) of (Late n e) fair = same_fair _ (ap (λ (d : maps_rules.Reaction). d.node) e) fair
  hears_fair (Join epoch promise boot was claims) of (Above g a b c e) fair = same_fair _ (ap (λ (d : maps_rules.Reaction). d.node) e) fair
  hears_fair (Join epoch promise boot was claims) of (Joins g a b c e) fair = same_fair _ (ap (λ (d : maps_rules.Reaction). d.node) e) fair
  hears_fair (Install g) of (OldInstall w e) fair = same_fair _ (ap (λ (d : maps_rules.Reaction). d.node) e) fair
  hears_fair (Install g) of (NotPromised w e) fair = same_fair _ (ap (λ (d : maps_rules.Reaction). d.node) e) fair
  hears_fair (Install g) of (NotMember w e) fair = same_fair _ (ap (λ (d : maps_rules.Reaction). d.node) e) fair
  hears_fair (Install g) of (Enters a b c marked rows entering e) fair = same_fair (maps_rules.entered x g marked rows) (ap (λ (d : maps_rules.Reaction). d.node) e) (λ user m. entered_fair own x disk g marked rows entering user m)
  hears_fair (Report row) of (StaleReport n e) fair = same_fair _ (ap (λ (d : maps_rules.Reaction). d.node) e) fair
  hears_fair (Report row) of (Takes g a b c e) fair = same_fair _ (ap (λ (d : maps_rules.Reaction). d.node) e) fair
  hears_fair (Report row) of (Older g a b s c d e) fair = same_fair _ (ap (λ (d : maps_rules.Reaction). d.node) e) fair
  hears_fair (ReportAck user version) of (StaleAck n e) fair = same_fair _ (ap (λ (d : maps_rules.Reaction). d.node) e) fair
  hears_fair (ReportAck user version) of (Clears g a b c e) fair = same_fair (record x { marked = maps_rules.set_at x.marked user false }) (ap (λ (d : maps_rules.Reaction). d.node) e) (λ u m. set_false x.marked user u (fair u m))
  hears_fair (ReportAck user version) of (Other g a b c e) fair = same_fair _ (ap (λ (d : maps_rules.Reaction). d.node) e) fair
  hears_fair body of h fair = absurd of

  stood : (y : maps.Node) → did.node ≡ y → y.installed ≡ x.installed → (g : Membership) → did.node.installed ≡ Some g → (x.installed ≡ Some g) ⊎ (letter.body ≡ Install g)
  stood y e same g h = inl (sym (ap (λ (k : maps.Node). k.installed) e ∙ same) ∙ h)

  into : (k : Membership) → letter.body ≡ Install k → did.node.installed ≡ Some k → (g : Membership) → did.node.installed ≡ Some g → (x.installed ≡ Some g) ⊎ (letter.body ≡ Install g)
  into k is e g h = inr (is ∙ ap Install (same k g (sym e ∙ h)))
    where
      same : (p q : Membership) → Some p ≡ Some q → p ≡ q
      same p q i = cc

  -- what is sent is no Install
  pub sends_none : (one : Letter) (g : Membership) (body : Body) → IsMapsBody body → maps_rules.Hears own x disk letter body did → Among one did.out → one.body ≡ Install g → ⊥
  sends_none one g body of h m i = by body of h
    where
      only : (sent : Letter) → did.out ≡ sent ∷ [] → (sent.body ≡ Install g → ⊥) → ⊥
      only sent e none = ⊎_elim (λ is. none (ap (λ (l : Letter). l.body) is ∙ i)) (λ n. n) (subst (Among one) e m)

      nothing : did.out ≡ [] → ⊥
      nothing e = subst (Among one) e m

      by : (body : Body) → IsMapsBody body → maps_rules.Hears own x disk letter body did → ⊥
      by (Group epoch) of (Rises b e) = only _ (ap (λ (d : maps_rules.Reaction). d.out) e) (λ h. cc h)
      by (Group epoch) of (Again b e) = only _ (ap (λ (d : maps_rules.Reaction). d.out) e) (λ h. cc h)
      by (Group epoch) of (OldGroup b e) = only _ (ap (λ (d : maps_rules.Reaction). d.out) e) (λ h. cc h)
      by (Join epoch promise boot was claims) of (Late n e) = nothing (ap (λ (d : maps_rules.Reaction). d.out) e)
      by (Join epoch promise boot was claims) of (Above g a b c e) = nothing (ap (λ (d : maps_rules.Reaction). d.out) e)
      by (Join epoch promise boot was claims) of (Joins g a b c e) = nothing (ap (λ (d : maps_rules.Reaction). d.out) e)
      by (Install k) of (OldInstall w e) = nothing (ap (λ (d : maps_rules.Reaction). d.out) e)
      by (Install k) of (NotPromised w e) = nothing (ap (λ (d : maps_rules.Reaction). d.out) e)
      by (Install k) of (NotMember w e) = nothing (ap (λ (d : maps_rules.Reaction). d.out) e)
      by (Install k) of (Enters a b c marked rows entering e) = nothing (ap (λ (d : maps_rules.Reaction). d.out) e)
      by (Report row) of (StaleReport n e) = nothing (ap (λ (d : maps_rules.Reaction). d.out) e)
      by (Report row) of (Takes g a b c e) = only _ (ap (λ (d : maps_rules.Reaction). d.out) e) (λ h. cc h)
      by (Report row) of (Older g a b s c d e) = only _ (ap (λ (d : maps_rules.Reaction). d.out) e) (λ h. cc h)
      by (ReportAck user version) of (StaleAck n e) = nothing (ap (λ (d : maps_rules.Reaction). d.out) e)
      by (ReportAck user version) of (Clears g a b c e) = nothing (ap (λ (d : maps_rules.Reaction). d.out) e)
      by (ReportAck user version) of (Other g a b c e) = nothing (ap (λ (d : maps_rules.Reaction). d.out) e)
      by other of h = absurd of

  hears_known : (body : Body) → letter.body ≡ body → IsMapsBody body → maps_rules.Hears own x disk letter body did → (g : Membership) → did.node.installed ≡ Some g → (x.installed ≡ Some g) ⊎ (letter.body ≡ Install g)
  hears_known (Group epoch) is of (Rises b e) = stood _ (ap (λ (d : maps_rules.Reaction). d.node) e) refl
  hears_known (Group epoch) is of (Again b e) = stood _ (ap (λ (d : maps_rules.Reaction). d.node) e) refl
  hears_known (Group epoch) is of (OldGroup b e) = stood _ (ap (λ (d : maps_rules.Reaction). d.node) e) refl
  hears_known (Join epoch promise boot was claims) is of (Late n e) = stood _ (ap (λ (d : maps_rules.Reaction). d.node) e) refl
  hears_known (Join epoch promise boot was claims) is of (Above g a b c e) = stood _ (ap (λ (d : maps_rules.Reaction). d.node) e) refl
  hears_known (Join epoch promise boot was claims) is of (Joins g a b c e) = stood _ (ap (λ (d : maps_rules.Reaction). d.node) e) refl
  hears_known (Install k) is of (OldInstall w e) = stood _ (ap (λ (d : maps_rules.Reaction). d.node) e) refl
  hears_known (Install k) is of (NotPromised w e) = stood _ (ap (λ (d : maps_rules.Reaction). d.node) e) refl
  hears_known (Install k) is of (NotMember w e) = stood _ (ap (λ (d : maps_rules.Reaction). d.node) e) refl
  hears_known (Install k) is of (Enters a b c marked rows entering e) = into k is (ap (λ (d : maps_rules.Reaction). d.node.installed) e)
  hears_known (Report row) is of (StaleReport n e) = stood _ (ap (λ (d : maps_rules.Reaction). d.node) e) refl
  hears_known (Report row) is of (Takes g a b c e) = stood _ (ap (λ (d : maps_rules.Reaction). d.node) e) refl
  hears_known (Report row) is of (Older g a b s c d e) = stood _ (ap (λ (d : maps_rules.Reaction). d.node) e) refl
  hears_known (ReportAck user version) is of (StaleAck n e) = stood _ (ap (λ (d : maps_rules.Reaction). d.node) e) refl
  hears_known (ReportAck user version) is of (Clears g a b c e) = stood _ (ap (λ (d : maps_rules.Reaction). d.node) e) refl
  hears_known (ReportAck user version) is of (Other g a b c e) = stood _ (ap (λ (d : maps_rules.Reaction). d.node) e) refl
  hears_known body is of h = absurd of

module _ (plan : Plan) (old : World) (stands : Stands plan old) (charted : IsCharted plan old) where
  abbrev Good : Membership → Type 0
  Good g = (length g.map ≡ plan.buckets) × (0 < plan.buckets)

  same_node : (a b : Node) → Up a ≡ Up b → a ≡ b
  same_node a b e = cc

  -- one slot is written
  written : (new : World) (own : ℕ) (before now : Slot) → slot_at old.slots own ≡ Some before → new.slots ≡ with_slot old.slots own now
      → ((node : Node) → now.life ≡ Up node → IsFair own node.maps × ((g : Membership) → node.maps.installed ≡ Some g → Good g))
      → ((letter : Letter) → Among letter (letters_of new.flying) → (g : Membership) → letter.body ≡ Install g → Good g) → IsCharted plan new
  written new own before now here is fair letters = record {
    not_own = λ n node disk up. (at n node disk up).0;
    mapped = λ g known. ⊎_elim
        (λ (n, node, disk, up, installed). (at n node disk up).1 g installed)
        (λ (letter, m, body). letters letter m g body) known;
  }
    where
      slot_same : (o : Option Slot) (a b : Slot) → o ≡ Some a → o ≡ Some b → a ≡ b
      slot_same o a b p q = cc

      at : (n : ℕ) (node : Node) (disk : List Record) → IsUp new n node disk → IsFair n node.maps × ((g : Membership) → node.maps.installed ≡ Some g → Good g)
      at n node disk up = ⊎_elim
          (λ same.
          let slot : now ≡ slot_up node disk = slot_same (slot_at new.slots n) now (slot_up node disk) (ap (λ (l : List Slot). slot_at l n) is ∙ ap (slot_at (with_slot old.slots own now)) same.1 ∙ slot_here old.slots own before now here) up in
          subst (λ k. IsFair k node.maps × ((g : Membership) → node.maps.installed ≡ Some g → Good g)) (sym same.1) (fair node (ap (λ (s : Slot). s.life) slot)))
          (λ apart_. let stood = sym (ap (λ (l : List Slot). slot_at l n) is ∙ slot_other old.slots own n now apart_.1) ∙ up in
          ((λ user m. charted.not_own n node disk stood user m), (λ g installed. charted.mapped g (inl (n, node, disk, stood, installed)))))
          (same_or_apart n own)

  old_letters : (letter : Letter) → Among letter (letters_of old.flying) → (g : Membership) → letter.body ≡ Install g → Good g
  old_letters letter m g body = charted.mapped g (inr (letter, m, body))

  -- a node does something for membership and maps
  turned_chart : (own : ℕ) (node : Node) (disk : List Record) → IsUp old own node disk → (x : World) → x.slots ≡ old.slots → ((letter : Letter) → Among letter (letters_of x.flying) → Among letter (letters_of old.flying))
      → (from : Node) (did : maps_rules.Reaction) (promise : Option EpochId) (out : List Letter) → IsFair own did.node → ((g : Membership) → did.node.installed ≡ Some g → Good g)
      → ((letter : Letter) → Among letter out → (g : Membership) → letter.body ≡ Install g → Good g) → IsCharted plan (after x own (done_for_maps from disk did promise out))
  turned_chart own node disk up x same flown from did promise out fair known sends =
      written (after x own now) own (slot_up node disk) (slot_up now.node now.disk) up
      (put_slots out (record x { slots = with_slot x.slots own (slot_up now.node now.disk) }) ∙ ap (λ (s : List Slot). with_slot s own (slot_up now.node now.disk)) same)
      (λ other e. let is = same_node now.node other e in subst (λ (k : Node). IsFair own k.maps × ((g : Membership) → k.maps.installed ≡ Some g → Good g)) is (fair, known))
      (λ letter m. ⊎_elim (λ stood. old_letters letter (flown letter stood)) (λ sent. sends letter sent) (put_among out (record x { slots = with_slot x.slots own (slot_up now.node now.disk) }) letter m))
    where
      now : Reaction
      now = done_for_maps from disk did promise out

  fair_at : (own : ℕ) (node : Node) (disk : List Record) → IsUp old own node disk → IsFair own node.maps
  fair_at own node disk up = λ user m. charted.not_own own node disk up user m

  known_at : (own : ℕ) (node : Node) (disk : List Record) → IsUp old own node disk → (g : Membership) → node.maps.installed ≡ Some g → Good g
  known_at own node disk up g e = charted.mapped g (inl (own, node, disk, up, e))

  -- who goes down
  down_chart : (new : World) (own : ℕ) (before : Slot) (pending disk : List Record) → slot_at old.slots own ≡ Some before → new.slots ≡ with_slot old.slots own (record { life = Down pending; disk = disk })
      → ((letter : Letter) → Among letter (letters_of new.flying) → Among letter (letters_of old.flying)) → IsCharted plan new
  down_chart new own before pending disk here is flown = written new own before (record { life = Down pending; disk = disk }) here is (λ node e. absurd (cc e)) (λ letter m. old_letters letter (flown letter m))

  no_install : (body : Body) → IsMailBody body → (g : Membership) → body ≡ Install g → ⊥
  no_install body of g e = subst IsMailBody e of

  -- a step for messages
  plain_chart : (new : World) → IsPlain (mail_world_of old) (mail_world_of new) → FollowsAlong old new → IsCharted plan new
  plain_chart new plain follow = record {
    not_own = λ n node disk up. (at n node disk up).0;
    mapped = λ g known. ⊎_elim
        (λ (n, node, disk, up, installed). (at n node disk up).1 g installed)
        (λ (letter, m, body). ⊎_elim
        (λ stood. old_letters letter stood g body)
        (λ (sent : IsMailOf (mail_world_of old) letter). absurd (no_install letter.body sent.mail.body g body))
        (plain.letters letter m)) known;
  }
    where
      at : (n : ℕ) (node : Node) (disk : List Record) → IsUp new n node disk → IsFair n node.maps × ((g : Membership) → node.maps.installed ≡ Some g → Good g)
      at n node disk up =
          let was = plain_back old new plain follow n node disk up in (
            subst (IsFair n) (sym was.maps_are) (follows_fair n was.before.maps was.its (drop (length was.its) disk) (fair_at n was.before was.its was.up)),
            λ g installed. known_at n was.before was.its was.up g (sym (ap (λ (k : maps.Node). k.installed) was.maps_are ∙ follows_epoch n was.before.maps was.its (drop (length was.its) disk)) ∙ installed),
          )

  cut_chart : (own : ℕ) (node : Node) (disk added : List Record) → IsUp old own node disk → (new : World) → NodeGoesDown old own disk added new → IsCharted plan new
  cut_chart own node disk added up new g = down_chart new own (slot_up node disk) g.pending (disk ++ g.front) up (ap (λ (w : World). w.slots) g.is)
      (λ letter m. subst (λ (w : World). Among letter (letters_of w.flying)) g.is m)

  does_chart : (tells : Bool) (step : Step) (said : Said) (new : World) → DoesStep plan tells old step said new → IsCharted plan new
  does_chart tells step said new (ForMessages one is answer says for_mail does follow) = plain_chart new
      (steps_plain (mail_world_of old) (mail_world_of new) (apart plan old stands) plan tells one answer (λ n e. starts_not n (subst (IsForMessages old) e for_mail)) (of_mail old one for_mail) does) follow
    where
      starts_not : (n : ℕ) → IsForMessages old (Start n) → ⊥
      starts_not n p = p
  does_chart tells step said new (PostsMaps number keep is (Hears f node disk up of fresh did h says new_world)) = subst (IsCharted plan) (sym new_world)
      (turned_chart f.letter.to node disk up (record old { flying = mail.flies_on (mail_world_of old) number f keep }) refl (λ letter m. flew_on (mail_world_of old) number f keep letter m) (learnt node f.letter.body) did
      (promise_by node.maps f.letter.body) did.out (hears_fair f.letter.to node.maps (maps_disk_of disk) f.letter did f.letter.body of h (fair_at f.letter.to node disk up))
      (λ g installed. ⊎_elim
      (λ stood. known_at f.letter.to node disk up g stood)
      (λ body. old_letters f.letter (flew (mail_world_of old) number f) g body)
      (hears_known f.letter.to node.maps (maps_disk_of disk) f.letter did f.letter.body refl of h g installed))
      (λ letter m g body. absurd (sends_none f.letter.to node.maps (maps_disk_of disk) f.letter did letter g f.letter.body of h m body)))
  does_chart tells step said new (PostsMaps number keep is (FailsHearing f node disk up of fresh says down g new_world)) = subst (IsCharted plan) (sym new_world)
      (down_chart (record down { flying = mail.flies_on (mail_world_of old) number f keep }) f.letter.to (slot_up node disk) g.pending (disk ++ g.front) up (ap (λ (w : World). w.slots) g.is)
      (λ letter m. flew_on (mail_world_of old) number f keep letter m))
  does_chart tells step said new (Starts n is (Comes disk pending kept here pending_is below says records rec new_world)) = subst (IsCharted plan) (sym new_world)
      (written _ n (record { life = Down pending; disk = disk }) (slot_up (started n plan.nodes (disk ++ kept) records) records) here refl
      (λ node e. let same = same_node (started n plan.nodes (disk ++ kept) records) node e in
      subst (λ (k : Node). IsFair n k.maps × ((g : Membership) → k.maps.installed ≡ Some g → Good g)) same ((λ user m. refl), (λ g i. absurd (cc i))))
      (λ letter m. old_letters letter m))
  does_chart tells step said new (Starts n is (FailsStarting disk pending next records here stops says new_world)) = down_chart new n (record { life = Down pending; disk = disk }) next records here
      (ap (λ (w : World). w.slots) new_world) (λ letter m. subst (λ (w : World). Among letter (letters_of w.flying)) new_world m)
  does_chart tells step said new (OpensGroup n is (Opens node disk up says new_world)) = subst (IsCharted plan) (sym new_world)
      (turned_chart n node disk up old refl (λ letter m. m) node did (Some (maps_rules.next_epoch n node.maps)) (reverse did.out) (fair_at n node disk up) (known_at n node disk up)
      (λ letter m g body. let r = among_map (maps_rules.letter_to n (Group (maps_rules.next_epoch n node.maps))) letter (maps_rules.others n plan.nodes) (among_reverse letter did.out m) in
      absurd (clash g (ap (λ (l : Letter). l.body) r.2 ∙ body))))
    where
      did : maps_rules.Reaction
      did = maps_rules.start_group n plan.nodes node.maps (maps_disk_of disk)

      clash : (g : Membership) → Group (maps_rules.next_epoch n node.maps) ≡ Install g → ⊥
      clash g e = cc
  does_chart tells step said new (OpensGroup n is (FailsOpening node disk up says g)) = cut_chart n node disk _ up new g
  does_chart tells step said new (ConcludesGroup n is f) = subst (IsCharted plan) (sym f.new_world)
      (turned_chart n f.node f.disk f.up old refl (λ letter m. m) f.node f.did None f.did.out
      (subst (λ (d : maps_rules.Reaction). IsFair n d.node) (sym c.is) (λ user m. entered_fair n f.node.maps (maps_disk_of f.disk) formed c.marked c.told c.entering user m))
      (λ g e. subst Good (same formed g (sym (ap (λ (d : maps_rules.Reaction). d.node.installed) c.is) ∙ e)) good)
      (λ letter m g body. sends letter m g body))
    where
      c : maps_rules.Concludes n plan.buckets f.node.maps (maps_disk_of f.disk) f.did
      c = f.concludes

      formed : Membership
      formed = maps_rules.membership_of c.group c.rows

      good : Good formed
      good = (c.assigned.size, c.some)

      same : (a b : Membership) → Some a ≡ Some b → a ≡ b
      same a b e = cc

      sends : (letter : Letter) → Among letter f.did.out → (g : Membership) → letter.body ≡ Install g → Good g
      sends letter m g body =
          let k = among_flat (λ join. if nat_eq join.member.node n then [] else maps_rules.letter_to n (Install (maps_rules.membership_of c.group c.rows)) join.member.node ∷ []) letter c.group.joins (subst (λ (d : maps_rules.Reaction). Among letter d.out) c.is m) in
          by k.0 (nat_eq k.0.member.node n) k.1
        where
          installs : (a b : Membership) → Install a ≡ Install b → a ≡ b
          installs a b e = cc

          by : (join : maps.Joined) (b : Bool) → Among letter (if b then [] else maps_rules.letter_to n (Install (maps_rules.membership_of c.group c.rows)) join.member.node ∷ []) → Good g
          by join true i = absurd i
          by join false i = ⊎_elim (λ e. subst Good (installs formed g (ap (λ (l : Letter). l.body) e ∙ body)) good) (λ none. absurd none) i
  does_chart tells step said new (SendsReports from to is (Sends node disk up users first some did r says new_world)) = subst (IsCharted plan) (sym new_world)
      (turned_chart from node disk up old refl (λ letter m. m) node did None did.out (subst (λ (d : maps_rules.Reaction). IsFair from d.node) (sym r.is) (fair_at from node disk up))
      (λ g e. known_at from node disk up g (sym (ap (λ (d : maps_rules.Reaction). d.node.installed) r.is) ∙ e))
      (λ letter m g body. let k = among_map (λ user. record { from = from; to = to; epoch = r.membership.epoch; ticket = None; body = Report (maps_rules.own_row from node.maps (maps_disk_of disk) user) }) letter users
      (subst (λ (d : maps_rules.Reaction). Among letter d.out) r.is m) in
      absurd (clash g _ (ap (λ (l : Letter). l.body) k.2 ∙ body))))
    where
      clash : (g : Membership) (row : _) → Report row ≡ Install g → ⊥
      clash g row e = cc
  does_chart tells step said new (SendsReports from to is (HasNone node disk up none says new_world)) = subst (IsCharted plan) (sym new_world) charted

  short_chart : (tells : Bool) (step : Step) (n : ℕ) (new : World) → RunsShort plan old step n new → IsCharted plan new
  short_chart tells step n new (InMessages one is for_mail short follow) = plain_chart new (short_plain (mail_world_of old) (mail_world_of new) (apart plan old stands) plan one n (of_mail old one for_mail) short) follow
  short_chart tells step n new (Starting disk pending next records is here stops new_world) = down_chart new n (record { life = Down pending; disk = disk }) next records here
      (ap (λ (w : World). w.slots) new_world) (λ letter m. subst (λ (w : World). Among letter (letters_of w.flying)) new_world m)
  short_chart tells step n new (Promising node disk promise up why g) = cut_chart n node disk _ up new g

  makes_chart : (tells : Bool) (step : Step) (outcome : StepOutcome) (new : World) → MakesStep plan tells old step outcome new → IsCharted plan new
  makes_chart tells step (Says said) new m = does_chart tells step said new m.1
  makes_chart tells step (Refused fault) new m = subst (IsCharted plan) (sym m.1) charted
  makes_chart tells step (NoMemory None) new m = subst (IsCharted plan) (sym m) charted
  makes_chart tells step (NoMemory (Some n)) new m = short_chart tells step n new m

pub all_chart : (plan : Plan) (tells : Bool) (old new : World) (steps : List MadeStep) → MakesAll plan tells old steps new → Stands plan old → IsCharted plan old → IsCharted plan new
all_chart plan tells old new [] is stands charted = subst (IsCharted plan) (sym is) charted
all_chart plan tells old new (made ∷ steps) (mid, first, others) stands charted =
    all_chart plan tells mid new steps others (makes_stand plan old stands tells made.step made.outcome mid first) (makes_chart plan old stands charted tells made.step made.outcome mid first)

pub opens_charted : (plan : Plan) → IsCharted plan (unopened_world plan.nodes)
opens_charted plan = record {
  not_own = λ n node disk up. absurd (none plan.nodes n node disk up);
  mapped = λ g known. ⊎_elim (λ (n, node, disk, up, e). absurd (none plan.nodes n node disk up)) (λ (letter, m, e). absurd m) known;
}
  where
    here : (n k : ℕ) (node : Node) (disk : List Record) → slice_get (empty_slots n) k ≡ Some (slot_up node disk) → ⊥
    here zero k node disk e = absurd (cc e)
    here (suc n) zero node disk e = down_up (ap (λ (s : Slot). s.life) (some (record { life = Down []; disk = [] }) (slot_up node disk) e))
      where
        some : (a b : Slot) → Some a ≡ Some b → a ≡ b
        some a b h = cc

        down_up : Down [] ≡ Up node → ⊥
        down_up h = cc
    here (suc n) (suc k) node disk e = here n k node disk e

    none : (nodes n : ℕ) (node : Node) (disk : List Record) → slot_at (empty_slots nodes) n ≡ Some (slot_up node disk) → ⊥
    none nodes zero node disk e = absurd (cc e)
    none nodes (suc k) node disk e = here nodes k node disk e

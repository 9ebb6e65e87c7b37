-- The steps for membership and maps, and the start of a node, keep what holds of a world.
use Rattle.std.proofs.Common.{◌≡◌, ◌⊎◌, inl, inr, ⊎_elim, ℕ, zero, suc, ◌+◌, Bool, true, false, List, [], ◌∷◌, ◌++◌, append-nil, map, length, drop, reverse, Option, Some, None, refl, sym, ap, ◌∙◌, subst}
use Rattle.mail_model.specs.Identity.{Id, EpochId}
use Rattle.mail_model.specs.Plan.{Plan}
use Rattle.mail_model.specs.Record.{Record}
use Rattle.mail_model.specs.Record.Record.{Boot}
use Rattle.mail_model.specs.Book.BookEntry.{CameUp, WentDown}
use Rattle.object_model.specs.Lists.{Among}
use Rattle.object_model.specs.Letters.{Letter}
use Rattle.object_model.proofs.Lists.{get_after}
use Rattle.cluster_model.specs.Cluster as mail_cluster
use Rattle.cluster_model.specs.Claims.{boot_of}
use Rattle.cluster_model.specs.Starts as mail_starts
use Rattle.cluster_model.specs.Moves as mail_moves
use Rattle.cluster_model.specs.Deeds as mail_deeds
use Rattle.cluster_model.specs.Rules as mail_rules
use Rattle.cluster_model.specs.Thrown.{stamps_in, count_through}
use Rattle.cluster_model.specs.Room.{Flight, has_room}
use Rattle.cluster_model.specs.World as mail
use Rattle.cluster_model.specs.World.{letters_of, Leads}
use Rattle.cluster_model.specs.Steps as mail_steps
use Rattle.cluster_model.specs.Steps.Step.{Start}
use Rattle.cluster_model.specs.Makes as mail_makes
use Rattle.cluster_model.proofs.Slots as mail_slots
use Rattle.cluster_model.proofs.Learning.{counted_ready, learns}
use Rattle.cluster_model.proofs.Leading.{led_on}
use Rattle.cluster_model.proofs.Starting.{start_acts}
use Rattle.cluster_model.proofs.Stepping.{slot_again, flew, quiet_leads, books_one, letter_idle, heard_leads}
use Rattle.maps_model.specs.Cluster as maps
use Rattle.maps_model.specs.Rules as maps_rules
use Rattle.maps_model.specs.Epochs.{IsBefore}
use Rattle.maps_model.proofs.Hears.{hears}
use Rattle.maps_model.proofs.Lives.{starts}
use Rattle.maps_model.proofs.Grouping.{groups, next_later}
use Rattle.maps_model.proofs.Installing.{concludes}
use Rattle.maps_model.proofs.Reporting.{reports}
use Rattle.whole_model.specs.Whole.{Node, Slot, slot_at, with_slot, maps_slot, maps_disk_of}
use Rattle.whole_model.specs.Whole.Life.{Up, Down}
use Rattle.whole_model.specs.Rules.{follows, IsMapsBody, promise_records}
use Rattle.whole_model.proofs.Following.{after_promise, after_boot}
use Rattle.whole_model.proofs.Leading.{act_leads}
use Rattle.whole_model.proofs.Membership.{membership_acts}
use Rattle.whole_world.specs.World.{World, mail_world_of, maps_world_of, slot_up, IsUp, FollowsAlong, Reaction, after}
use Rattle.whole_world.specs.Steps.{Step, Said, StepOutcome}
use Rattle.whole_world.specs.Steps.StepOutcome.{Says, Refused, NoMemory}
use Rattle.whole_world.specs.Makes.{done_for_maps, learnt, promise_by, NodeGoesDown, Groups, Forms, Reports, HearsMaps, started, IsForMessages, DoesStep, RunsShort, MadeStep, MakesStep, MakesAll}
use Rattle.whole_world.specs.Laws.{OneEpoch, Stands}
use Rattle.whole_world.proofs.Stepwise.{flew_on, steps_plain, short_plain}
use Rattle.whole_world.proofs.Along.{LeadsTo, to_on, taken_to, maps_here, mail_here}
use Rattle.whole_world.proofs.Seeing.{IsPlainMaps, mail_set, maps_set, put_slots, mail_did, after_seen, group_sends, among_reverse, conclude_sends, report_sends, hear_sends}
use Rattle.whole_world.proofs.Turning.{none_covered, mail_up, ordered, mail_turned, mail_cut, maps_turned, maps_cut}
use Rattle.whole_world.specs.Makes.Groups.{Opens, FailsOpening}
use Rattle.whole_world.specs.Makes.Reports.{Sends, HasNone}
use Rattle.whole_world.specs.Makes.HearsMaps.{Hears, FailsHearing}
use Rattle.whole_world.specs.Makes.StartsUp.{Comes, FailsStarting}
use Rattle.whole_world.specs.Makes.DoesStep.{ForMessages, PostsMaps, Starts, OpensGroup, ConcludesGroup, SendsReports}
use Rattle.whole_world.specs.Makes.RunsShort.{InMessages, Starting, Promising}
use Rattle.whole_world.specs.Steps.{step_fault}
use Rattle.whole_world.specs.Steps.StepFault.{Fault}
use Rattle.std.specs.Option.{option_map}
use Rattle.whole_world.proofs.Keeping.{one_epoch_write, disks_heard, promised_above, joined, plain_stands, apart, of_mail}

-- no world changes
module _ (plan : Plan) (old : World) (stands : Stands plan old) where
  pub unchanged : (new : World) → new ≡ old → Stands plan new
  unchanged new e = subst (Stands plan) (sym e) stands

  -- what a node is turned to, in one epoch
  turned_one : (own : ℕ) (before : Slot) → slot_at old.slots own ≡ Some before → (x : World) → x.slots ≡ old.slots → (node : Node) (disk : List Record) (did : maps_rules.Reaction) (promise : Option EpochId) (out : List Letter)
      → OneEpoch (after x own (done_for_maps node disk did promise out)).slots
  turned_one own before here x same node disk did promise out =
      let now : Reaction = done_for_maps node disk did promise out in
      subst OneEpoch (sym (put_slots out (record x { slots = with_slot x.slots own (slot_up now.node now.disk) }) ∙ ap (λ (s : List Slot). with_slot s own (slot_up now.node now.disk)) same))
      (one_epoch_write old.slots own before (slot_up now.node now.disk) stands.one_epoch here (λ other up. up_same now.node other up refl))
    where
      up_same : (a b : Node) → Up a ≡ Up b → a.mail.installed ≡ a.maps.installed → b.mail.installed ≡ b.maps.installed
      up_same a b e h = subst (λ (y : Node). y.mail.installed ≡ y.maps.installed) (same_node a b e) h
        where
          same_node : (a b : Node) → Up a ≡ Up b → a ≡ b
          same_node a b e = cc

  -- a node that is down is in no epoch
  down_one : (own : ℕ) (before : Slot) (pending disk : List Record) → slot_at old.slots own ≡ Some before → OneEpoch (with_slot old.slots own (record { life = Down pending; disk = disk }))
  down_one own before pending disk here = one_epoch_write old.slots own before (record { life = Down pending; disk = disk }) stands.one_epoch here (λ node up. absurd (cc up))

  cut_stands : (own : ℕ) (node : Node) (disk : List Record) → IsUp old own node disk → (promise : Option EpochId) → ((epoch : EpochId) → promise ≡ Some epoch → IsBefore node.maps.promise epoch)
      → (new : World) → NodeGoesDown old own disk (promise_records promise) new → Stands plan new
  cut_stands own node disk up promise later new g = joined plan old stands new (mail_cut plan old stands own node disk up promise new g) (maps_cut plan old stands own node disk up promise later new g)
      (subst (λ (w : World). OneEpoch w.slots) (sym g.is) (down_one own (slot_up node disk) g.pending (disk ++ g.front) up))

  next_above : (own : ℕ) (node : Node) (disk : List Record) → IsUp old own node disk → (epoch : EpochId) → Some (maps_rules.next_epoch own node.maps) ≡ Some epoch → IsBefore node.maps.promise epoch
  next_above own node disk up epoch e = subst (IsBefore node.maps.promise) (same (maps_rules.next_epoch own node.maps) epoch e) (next_later own node.maps (maps_disk_of disk) (ordered plan old stands own node disk up))
    where
      same : (a b : EpochId) → Some a ≡ Some b → a ≡ b
      same a b h = cc

  groups_stand : (own : ℕ) (said : Said) (new : World) → Groups plan old own said new → Stands plan new
  groups_stand own said new (Opens node disk up is new_world) = subst (Stands plan) (sym new_world) (joined plan old stands (after old own (done_for_maps node disk did (Some next) (reverse did.out)))
      (mail_turned plan old stands own node disk up did (Some next) (reverse did.out) (λ letter m. group_sends own plan.nodes node.maps (maps_disk_of disk) letter (among_reverse letter did.out m)))
      (maps_turned plan old stands own node disk up old refl (λ letter m. m) None (λ letter e. absurd (cc e)) node refl did (Some next) (reverse did.out) (λ letter m. among_reverse letter did.out m)
      (sym (after_promise disk next)) (λ ready. groups own plan.nodes node.maps (maps_disk_of disk) ready.order))
      (turned_one own (slot_up node disk) up old refl node disk did (Some next) (reverse did.out)))
    where
      next : EpochId
      next = maps_rules.next_epoch own node.maps

      did : maps_rules.Reaction
      did = maps_rules.start_group own plan.nodes node.maps (maps_disk_of disk)
  groups_stand own said new (FailsOpening node disk up is g) = cut_stands own node disk up (Some (maps_rules.next_epoch own node.maps)) (next_above own node disk up) new g

  forms_stand : (own : ℕ) (said : Said) (new : World) → Forms plan old own said new → Stands plan new
  forms_stand own said new f = subst (Stands plan) (sym f.new_world) (joined plan old stands (after old own (done_for_maps f.node f.disk f.did None f.did.out))
      (mail_turned plan old stands own f.node f.disk f.up f.did None f.did.out (λ letter m. conclude_sends own plan.buckets f.node.maps (maps_disk_of f.disk) f.did f.concludes letter m))
      (maps_turned plan old stands own f.node f.disk f.up old refl (λ letter m. m) None (λ letter e. absurd (cc e)) f.node refl f.did None f.did.out (λ letter m. m)
      (ap (λ (r : maps_rules.Reaction). r.disk) f.concludes.is ∙ ap maps_disk_of (sym (append-nil f.disk))) (λ ready. concludes own plan.buckets f.node.maps (maps_disk_of f.disk) ready.order f.did f.concludes))
      (turned_one own (slot_up f.node f.disk) f.up old refl f.node f.disk f.did None f.did.out))

  reports_stand : (own to : ℕ) (said : Said) (new : World) → Reports old own to said new → Stands plan new
  reports_stand own to said new (Sends node disk up users first some did r is new_world) = subst (Stands plan) (sym new_world) (joined plan old stands (after old own (done_for_maps node disk did None did.out))
      (mail_turned plan old stands own node disk up did None did.out (λ letter m. report_sends own to users node.maps (maps_disk_of disk) did r letter m))
      (maps_turned plan old stands own node disk up old refl (λ letter m. m) None (λ letter e. absurd (cc e)) node refl did None did.out (λ letter m. m)
      (ap (λ (x : maps_rules.Reaction). x.disk) r.is ∙ ap maps_disk_of (sym (append-nil disk))) (λ ready. reports own to users node.maps (maps_disk_of disk) ready.order did r))
      (turned_one own (slot_up node disk) up old refl node disk did None did.out))
  reports_stand own to said new (HasNone node disk up none is new_world) = unchanged new new_world

  -- a letter of membership or maps is heard
  module _ (number : ℕ) (flies : mail.Flies (mail_world_of old) number) (node : Node) (disk : List Record) (up : IsUp old flies.letter.to node disk) (of : IsMapsBody flies.letter.body) where
    abbrev Seen : mail.World
    Seen = mail_world_of old

    abbrev May : Id → List ℕ → Type 0
    May = λ id o. ⊥

    abbrev own : ℕ
    own = flies.letter.to

    abbrev knowing : Node
    knowing = learnt node flies.letter.body

    abbrev count : ℕ
    count = count_through node.mail.count (stamps_in flies.letter.body)

    abbrev learnt_world : mail.World
    learnt_world = record Seen { slots = mail_cluster.with_slot Seen.slots own (mail_deeds.slot_up knowing.mail disk) }

    seen_up : mail_makes.IsUp Seen own node.mail disk
    seen_up = mail_up plan old stands own node disk up

    learns_lead : Leads plan.confirm May (mail.cluster_of Seen) (mail.cluster_of learnt_world)
    learns_lead = quiet_leads plan.confirm May Seen (mail_deeds.act_of own node.mail disk (mail_rules.idle knowing.mail disk) None None []) refl refl refl refl seen_up
        (λ r. (learns own node.mail disk count r).is)

    ready : mail_moves.IsReady own (mail_deeds.slot_up node.mail disk) (Some flies.letter)
    ready = record {
      order = stands.sound.mail.order.each own (mail_deeds.slot_up node.mail disk) seen_up;
      fits = stands.sound.mail.fit.slots_fit own (mail_deeds.slot_up node.mail disk) seen_up;
      heard_fits = λ one e. stands.sound.mail.fit.letters_fit one (subst (λ (l : Letter). Among l (letters_of Seen.flying)) (same one e) (flew Seen number flies));
    }
      where
        same : (one : Letter) → Some flies.letter ≡ Some one → flies.letter ≡ one
        same one e = cc

    abbrev flies_then : mail.Flies learnt_world number
    flies_then = record { front = flies.front; letter = flies.letter; back = flies.back; is = flies.is }

    now_up : mail_makes.IsUp learnt_world own knowing.mail disk
    now_up = mail_slots.at_same Seen.slots own (mail_deeds.slot_up node.mail disk) (mail_deeds.slot_up knowing.mail disk) seen_up

    same_flying : (keep : Bool) → mail.flies_on learnt_world number flies_then keep ≡ mail.flies_on Seen number flies keep
    same_flying true = refl
    same_flying false = refl

    came : (letter : Letter) → Some flies.letter ≡ Some letter → Among letter (letters_of old.flying) × (letter.to ≡ own)
    came letter e = subst (λ (l : Letter). Among l (letters_of old.flying) × (l.to ≡ own)) (same letter e) (flew Seen number flies, refl)
      where
        same : (one : Letter) → Some flies.letter ≡ Some one → flies.letter ≡ one
        same one e = cc

    abbrev left : Bool → World
    left keep = record old { flying = mail.flies_on Seen number flies keep }

    heard_mail : (keep : Bool) (did : maps_rules.Reaction) (promise : Option EpochId) (out : List Letter) → ((letter : Letter) → Among letter out → IsPlainMaps letter)
        → Leads plan.confirm May (mail.cluster_of Seen) (mail.cluster_of (mail_world_of (after (left keep) own (done_for_maps knowing disk did promise out))))
    heard_mail keep did promise out plain =
        let r : mail_rules.Reaction = mail_did knowing disk did.node.installed promise out in
        subst (λ (w : mail.World). Leads plan.confirm May (mail.cluster_of Seen) (mail.cluster_of w)) (sym (after_seen (left keep) own knowing disk did promise out plain))
        (led_on plan.confirm May (mail.cluster_of Seen) (mail.cluster_of learnt_world) _ learns_lead
        (subst (λ (s : List mail_cluster.Slot). Leads plan.confirm May (mail.cluster_of learnt_world) (mail.cluster_of (mail.put has_room out (record Seen { slots = s; flying = mail.flies_on Seen number flies keep }))))
        (slot_again Seen.slots own (mail_deeds.slot_up knowing.mail disk) (mail_deeds.slot_up r.node r.disk))
        (subst (λ (f : List Flight). Leads plan.confirm May (mail.cluster_of learnt_world) (mail.cluster_of (mail.put has_room out (record Seen { slots = mail_cluster.with_slot learnt_world.slots own (mail_deeds.slot_up r.node r.disk); flying = f }))))
        (same_flying keep)
        (heard_leads plan.confirm May learnt_world number flies_then knowing.mail disk r now_up
        (membership_acts own knowing.mail disk did.node.installed promise (Some flies.letter) out
        (λ letter e. subst (λ (l : Letter). IsMapsBody l.body) (same letter e) of) (λ letter m. (plain letter m).body)
        (counted_ready own node.mail disk count (Some flies.letter) ready)) keep))))
      where
        same : (one : Letter) → Some flies.letter ≡ Some one → flies.letter ≡ one
        same one e = cc

    hears_stand : (keep : Bool) (did : maps_rules.Reaction) → maps_rules.Hears own node.maps (maps_disk_of disk) flies.letter flies.letter.body did
        → Stands plan (after (left keep) own (done_for_maps knowing disk did (promise_by node.maps flies.letter.body) did.out))
    hears_stand keep did h = joined plan old stands (after (left keep) own (done_for_maps knowing disk did (promise_by node.maps flies.letter.body) did.out))
        (heard_mail keep did (promise_by node.maps flies.letter.body) did.out (λ letter m. hear_sends own node.maps (maps_disk_of disk) flies.letter did letter flies.letter.body of h m))
        (maps_turned plan old stands own node disk up (left keep) refl (λ letter m. flew_on Seen number flies keep letter m) (Some flies.letter) came knowing refl did (promise_by node.maps flies.letter.body) did.out (λ letter m. m)
        (disks_heard own node.maps disk flies.letter did flies.letter.body of h) (λ r. hears own node.maps (maps_disk_of disk) flies.letter did r flies.letter.body refl h))
        (turned_one own (slot_up node disk) up (left keep) refl knowing disk did (promise_by node.maps flies.letter.body) did.out)

    -- its disk fails as it promises, and the letter is taken out or kept
    fails_stand : (keep : Bool) (down : World) → NodeGoesDown old own disk (promise_records (promise_by node.maps flies.letter.body)) down → Stands plan (record down { flying = mail.flies_on Seen number flies keep })
    fails_stand keep down g = joined plan old stands (record down { flying = mail.flies_on Seen number flies keep })
        (led_on plan.confirm May (mail.cluster_of Seen) (mail.cluster_of (mail_world_of down)) _ (mail_cut plan old stands own node disk up (promise_by node.maps flies.letter.body) down g)
        (subst (λ (f : List Flight). Leads plan.confirm May (mail.cluster_of (mail_world_of down)) (mail.cluster_of (record (mail_world_of down) { flying = f }))) (on_same keep)
        (letter_idle plan.confirm May (mail_world_of down) number there keep (λ n m asked c wait. none_covered flies.letter of n m asked c))))
        (to_on (maps_world_of old) (maps_world_of down) _ (maps_cut plan old stands own node disk up (promise_by node.maps flies.letter.body) (promised_above node.maps flies.letter.body) down g)
        (taken_to (map maps_slot down.slots) (letters_of down.flying) (letters_of (mail.flies_on Seen number flies keep))
        (λ letter m. subst (λ (f : List Flight). Among letter (letters_of f)) (sym flying_same) (flew_on Seen number flies keep letter m))))
        (subst (λ (w : World). OneEpoch w.slots) (sym g.is) (down_one own (slot_up node disk) g.pending (disk ++ g.front) up))
      where
        flying_same : down.flying ≡ old.flying
        flying_same = ap (λ (w : World). w.flying) g.is

        there : mail.Flies (mail_world_of down) number
        there = record { front = flies.front; letter = flies.letter; back = flies.back; is = flying_same ∙ flies.is }

        on_same : (keep : Bool) → mail.flies_on (mail_world_of down) number there keep ≡ mail.flies_on Seen number flies keep
        on_same true = flying_same
        on_same false = refl

  posts_stand : (number : ℕ) (keep : Bool) (said : Said) (new : World) → HearsMaps old number keep said new → Stands plan new
  posts_stand number keep said new (Hears flies node disk up of fresh did h is new_world) = subst (Stands plan) (sym new_world) (hears_stand number flies node disk up of keep did h)
  posts_stand number keep said new (FailsHearing flies node disk up of fresh is down g new_world) = subst (Stands plan) (sym new_world) (fails_stand number flies node disk up of keep down g)

  -- a node that is down starts, without an epoch
  module _ (n : ℕ) (disk pending kept : List Record) (here : slot_at old.slots n ≡ Some (record { life = Down pending; disk = disk })) (pending_is : (kept ≡ []) ⊎ (kept ≡ pending)) where
    abbrev found : List Record
    found = disk ++ kept

    abbrev boot : ℕ
    boot = boot_of found + 1

    abbrev now : List Record
    now = found ++ Boot boot ∷ []

    abbrev first : mail_cluster.Node
    first = mail_starts.started n None boot now

    abbrev node_now : Node
    node_now = started n plan.nodes found now

    abbrev seen_old : mail.World
    seen_old = mail_world_of old

    abbrev no_octets : Id → List ℕ → Type 0
    no_octets = λ id o. ⊥

    abbrev up_slots : List Slot
    up_slots = with_slot old.slots n (slot_up node_now now)

    abbrev new_world : World
    new_world = record old { slots = up_slots; book = old.book ++ CameUp n boot ∷ [] }

    down_seen : mail_cluster.slot_at seen_old.slots n ≡ Some (record { life = mail_cluster.Life.Down pending; disk = disk })
    down_seen = mail_here old.slots n (record { life = Down pending; disk = disk }) here

    -- as messages see it
    abbrev begun_world : mail.World
    begun_world = record seen_old { slots = mail_cluster.with_slot seen_old.slots n (mail_deeds.slot_up first now) }

    starts_node : mail_starts.StartsNode n disk pending first now
    starts_node = record { kept = kept; pending_is = pending_is; records = refl; is = refl }

    starts_mail : Leads plan.confirm no_octets (mail.cluster_of seen_old) (mail.cluster_of (mail_world_of new_world))
    starts_mail = subst (λ (s : List mail_cluster.Slot). Leads plan.confirm no_octets (mail.cluster_of seen_old) (record { slots = s; flying = letters_of old.flying; book = old.book ++ CameUp n boot ∷ [] }))
        (sym (mail_set old.slots n (slot_up node_now now)))
        (led_on plan.confirm no_octets (mail.cluster_of seen_old) (mail.cluster_of begun_world) _
        (quiet_leads plan.confirm no_octets seen_old (mail_deeds.start_act n disk pending first now) refl refl refl refl down_seen (λ ready. start_acts n disk pending now first starts_node ready))
        (books_one plan.confirm no_octets (mail.cluster_of begun_world) (CameUp n boot) tt))

    -- and as maps see it
    starts_maps : LeadsTo (maps_world_of old) (maps_world_of new_world)
    starts_maps =
        let led = act_leads n (maps_slot (record { life = Down pending; disk = disk })) (maps.slot_up (maps_rules.started (maps_disk_of found)) (maps_rules.booted (maps_disk_of found))) None []
        (λ ready. starts n (maps_disk_of disk) (maps_disk_of (disk ++ pending)) (maps_disk_of found) image ready)
        (maps_world_of old) (maps_here old.slots n (record { life = Down pending; disk = disk }) here) (λ letter e. absurd (cc e)) in
        record {
          moves = led.moves;
          may = led.may;
          is = led.is ∙ (λ i. record { slots = slots i; flying = append-nil (letters_of old.flying) i });
        }
      where
        image : (maps_disk_of found ≡ maps_disk_of disk) ⊎ (maps_disk_of found ≡ maps_disk_of (disk ++ pending))
        image = ⊎_elim (λ none. inl (ap maps_disk_of (ap (λ k. disk ++ k) none ∙ append-nil disk))) (λ all. inr (ap (λ k. maps_disk_of (disk ++ k)) all)) pending_is

        slots : maps.with_slot (map maps_slot old.slots) n (maps.slot_up (maps_rules.started (maps_disk_of found)) (maps_rules.booted (maps_disk_of found))) ≡ map maps_slot up_slots
        slots = ap (λ d. maps.with_slot (map maps_slot old.slots) n (maps.slot_up (maps_rules.started (maps_disk_of found)) d)) (sym (after_boot found boot)) ∙ sym (maps_set old.slots n (slot_up node_now now))

    starts_stand : Stands plan new_world
    starts_stand = joined plan old stands new_world starts_mail starts_maps
        (one_epoch_write old.slots n (record { life = Down pending; disk = disk }) (slot_up node_now now) stands.one_epoch here (λ node up. same node up))
      where
        same : (node : Node) → Up node_now ≡ Up node → node.mail.installed ≡ node.maps.installed
        same node e = subst (λ (x : Node). x.mail.installed ≡ x.maps.installed) (same_node node_now node e) refl
          where
            same_node : (a b : Node) → Up a ≡ Up b → a ≡ b
            same_node a b e = cc

  -- a start that its disk cuts is a step for messages
  stops_stand : (tells : Bool) (n : ℕ) (disk pending next records : List Record) (new : World) → slot_at old.slots n ≡ Some (record { life = Down pending; disk = disk })
      → mail_starts.StopsStart disk pending next records
      → new ≡ record old { slots = with_slot old.slots n (record { life = Down next; disk = records }); book = old.book ++ WentDown n ∷ [] } → Stands plan new
  stops_stand tells n disk pending next records new here stops is = subst (Stands plan) (sym is)
      (plain_stands plan old stands tells fallen (Start n) (mail_steps.StepOutcome.NoMemory (Some n)) short (short_plain (mail_world_of old) (mail_world_of fallen) (apart plan old stands) plan (Start n) n tt short) follow)
    where
      fallen : World
      fallen = record old { slots = with_slot old.slots n (record { life = Down next; disk = records }); book = old.book ++ WentDown n ∷ [] }

      seen_is : mail_world_of fallen ≡ record (mail_world_of old) { slots = mail_cluster.with_slot (mail_world_of old).slots n (record { life = mail_cluster.Life.Down next; disk = records }); book = old.book ++ WentDown n ∷ [] }
      seen_is = ap (λ (s : List mail_cluster.Slot). record (mail_world_of fallen) { slots = s }) (mail_set old.slots n (record { life = Down next; disk = records }))

      short : mail_makes.RunsShort plan (mail_world_of old) (Start n) n (mail_world_of fallen)
      short = mail_makes.RunsShort.Starting disk pending next records refl (mail_here old.slots n (record { life = Down pending; disk = disk }) here) stops seen_is

      follow : FollowsAlong old fallen
      follow = record { each = λ m before after_ h k a b e f. by m before after_ h k a b e f }
        where
          by : (m : ℕ) (before after_ : Slot) → slot_at old.slots m ≡ Some before → slot_at fallen.slots m ≡ Some after_ → (a b : Node) → before.life ≡ Up a → after_.life ≡ Up b
              → b.maps ≡ follows m a.maps before.disk (drop (length before.disk) after_.disk)
          by zero before after_ h k a b e f = absurd (cc h)
          by (suc m) before after_ h k a b e f = ⊎_elim
              (λ new. absurd (down_up (ap (λ (s : Slot). s.life) new ∙ f)))
              (λ stood. rests (same_slot before after_ h stood))
              (written n m h k here)
            where
              down_up : Down next ≡ Up b → ⊥
              down_up p = cc

              same_slot : (x y : Slot) → slot_at old.slots (suc m) ≡ Some x → slot_at old.slots (suc m) ≡ Some y → x ≡ y
              same_slot x y p q = cc

              written : (n m : ℕ) → slot_at old.slots (suc m) ≡ Some before → slot_at (with_slot old.slots n (record { life = Down next; disk = records })) (suc m) ≡ Some after_
                  → slot_at old.slots n ≡ Some (record { life = Down pending; disk = disk })
                  → (record { life = Down next; disk = records } ≡ after_) ⊎ (slot_at old.slots (suc m) ≡ Some after_)
              written zero m h k at = inr k
              written (suc n) m h k at = ⊎_elim (λ new. inl (sym new.1)) (λ stood. inr stood) (get_after old.slots n m (record { life = Down pending; disk = disk }) (record { life = Down next; disk = records }) after_ at k)

              rests : before ≡ after_ → b.maps ≡ follows (suc m) a.maps before.disk (drop (length before.disk) after_.disk)
              rests same = ap (λ (x : Node). x.maps) (up_same a b (sym e ∙ ap (λ (s : Slot). s.life) same ∙ f)) ∙ ap (follows (suc m) a.maps before.disk) (sym (nothing_more before.disk) ∙ ap (λ (s : Slot). drop (length before.disk) s.disk) same)
                where
                  up_same : (a b : Node) → Up a ≡ Up b → b ≡ a
                  up_same a b e = cc

                  nothing_more : (xs : List Record) → drop (length xs) xs ≡ []
                  nothing_more [] = refl
                  nothing_more (x ∷ xs) = nothing_more xs

  no_fault : (o : Option mail_steps.StepFault) → option_map Fault o ≡ None → o ≡ None
  no_fault None e = refl
  no_fault (Some f) e = absurd (cc e)

  -- whatever step is made, and whatever comes of it
  does_stand : (tells : Bool) (step : Step) (said : Said) (new : World) → step_fault plan step old ≡ None → DoesStep plan tells old step said new → Stands plan new
  does_stand tells step said new fits (ForMessages one is answer says for_mail does follow) =
      plain_stands plan old stands tells new one (mail_steps.StepOutcome.Says answer)
      (no_fault (mail_steps.step_fault plan one (mail_world_of old)) (subst (λ (s : Step). step_fault plan s old ≡ None) is fits), does)
      (steps_plain (mail_world_of old) (mail_world_of new) (apart plan old stands) plan tells one answer (λ n e. starts_not n (subst (IsForMessages old) e for_mail)) (of_mail old one for_mail) does) follow
    where
      starts_not : (n : ℕ) → IsForMessages old (Start n) → ⊥
      starts_not n p = p
  does_stand tells step said new fits (PostsMaps number keep is h) = posts_stand number keep said new h
  does_stand tells step said new fits (Starts n is (Comes disk pending kept here pending_is below says records rec new_world)) =
      subst (Stands plan) (sym (new_world ∙ ap (λ (r : List Record). record old { slots = with_slot old.slots n (slot_up (started n plan.nodes (disk ++ kept) r) r); book = old.book ++ CameUp n (boot_of (disk ++ kept) + 1) ∷ [] }) rec))
      (starts_stand n disk pending kept here pending_is)
  does_stand tells step said new fits (Starts n is (FailsStarting disk pending next records here stops says new_world)) = stops_stand tells n disk pending next records new here stops new_world
  does_stand tells step said new fits (OpensGroup n is g) = groups_stand n said new g
  does_stand tells step said new fits (ConcludesGroup n is f) = forms_stand n said new f
  does_stand tells step said new fits (SendsReports from to is r) = reports_stand from to said new r

  short_stand : (tells : Bool) (step : Step) (n : ℕ) (new : World) → RunsShort plan old step n new → Stands plan new
  short_stand tells step n new (InMessages one is for_mail short follow) = plain_stands plan old stands tells new one (mail_steps.StepOutcome.NoMemory (Some n)) short
      (short_plain (mail_world_of old) (mail_world_of new) (apart plan old stands) plan one n (of_mail old one for_mail) short) follow
  short_stand tells step n new (Starting disk pending next records is here stops new_world) = stops_stand tells n disk pending next records new here stops new_world
  short_stand tells step n new (Promising node disk promise up why g) = cut_stands n node disk up promise (⊎_elim
      (λ (is, p). λ epoch e. next_above n node disk up epoch (sym p ∙ e))
      (⊎_elim (λ (is, p). λ epoch e. absurd (cc (sym p ∙ e)))
      (λ (number, keep, flies, is, at, of, fresh, p). λ epoch e. promised_above node.maps flies.letter.body epoch (sym p ∙ e)))
      why) new g

  pub makes_stand : (tells : Bool) (step : Step) (outcome : StepOutcome) (new : World) → MakesStep plan tells old step outcome new → Stands plan new
  makes_stand tells step (Says said) new m = does_stand tells step said new m.0 m.1
  makes_stand tells step (Refused fault) new m = unchanged new m.1
  makes_stand tells step (NoMemory None) new m = unchanged new m
  makes_stand tells step (NoMemory (Some n)) new m = short_stand tells step n new m

pub all_stand : (plan : Plan) (tells : Bool) (old new : World) (steps : List MadeStep) → MakesAll plan tells old steps new → Stands plan old → Stands plan new
all_stand plan tells old new [] is stands = subst (Stands plan) (sym is) stands
all_stand plan tells old new (made ∷ steps) (mid, first, others) stands = all_stand plan tells mid new steps others (makes_stand plan old stands tells made.step made.outcome mid first)

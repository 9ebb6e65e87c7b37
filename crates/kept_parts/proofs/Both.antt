-- The parts on deletions and on octets are such parts.
use Rattle.std.proofs.Common.{◌≡◌, ⊎_elim, ℕ, ◌≤◌, Bool, List, [], ◌∷◌, ◌++◌, append-nil, map, Option, Some, None, true, refl, sym, ap, subst, true≢false}
use Rattle.std.specs.Prelude.{zero, suc, slice_get}
use Rattle.mail_model.specs.Identity.{Id, Key, State}
use Rattle.mail_model.specs.Identity.Key.{Message}
use Rattle.mail_model.specs.Identity.Value.{Here}
use Rattle.mail_model.specs.Plan.{Plan}
use Rattle.mail_model.specs.Listing.{octets_in}
use Rattle.mail_model.specs.Record.{Record}
use Rattle.mail_model.specs.Record.Record.{Boot, Promise, Stated}
use Rattle.object_model.specs.Lists.{Among}
use Rattle.object_model.specs.Said.{said}
use Rattle.object_model.specs.Letters.{MapRow, Body, Letter, is_read_body}
use Rattle.object_model.specs.Letters.Body.{Push}
use Rattle.object_model.proofs.Lists.{among_front, among_either}
use Rattle.cluster_model.specs.Cluster as mail_cluster
use Rattle.cluster_model.specs.Cluster.{Node}
use Rattle.cluster_model.specs.Claims.{all_records}
use Rattle.cluster_model.specs.Moves.{Content}
use Rattle.cluster_model.specs.Parts.{Sound}
use Rattle.cluster_model.specs.Rules.{Reaction, begin_deliver, begin_strike, push, widen}
use Rattle.cluster_model.specs.Deeds.{act_of, hear}
use Rattle.cluster_model.specs.Thrown.{with_stamps}
use Rattle.cluster_model.specs.World as mail
use Rattle.cluster_model.specs.Steps.{NodeCall}
use Rattle.cluster_model.specs.Steps.NodeCall.{Deliver, Login, Fetch, Strike, Leave}
use Rattle.cluster_model.specs.Makes as mail_makes
use Rattle.cluster_model.specs.Makes.{begun_by, targets_for, asked_for}
use Rattle.cluster_model.specs.Starts.{first_epoch}
use Rattle.cluster_model.specs.WorldLaws.{InPlan, fresh_slot, fresh_slots, opening_world}
use Rattle.cluster_model.proofs.Opening.{of_opening, no_state, opening_sound}
use Rattle.cluster_model.proofs.Running.{steps_sound}
use Rattle.gone_model.specs.Gone.{AreForAll, IsBodyForAll, KeepsGone}
use Rattle.gone_model.proofs.Keeping as gone
use Rattle.here_model.specs.Here.{EachHereHasOctets, IsBodyWithOctets, KeepsOctets}
use Rattle.here_model.proofs.Held.{prefix_has, plain_more}
use Rattle.here_model.proofs.Keeping as here_proofs
use Rattle.whole_model.specs.Whole as whole
use Rattle.whole_model.specs.Rules.{IsMapsBody}
use Rattle.whole_world.specs.World.{World, mail_world_of}
use Rattle.whole_world.specs.Makes.{MadeStep, MakesAll}
use Rattle.whole_world.specs.Laws.{Stands}
use Rattle.whole_world.specs.Settled.{empty_slots, unopened_world}
use Rattle.whole_world.proofs.Along.{mail_here}
use Rattle.whole_world.proofs.Opening.{opens}
use Rattle.kept_parts.specs.Kept.{PartsHold}
use Rattle.kept_parts.proofs.Holding.{Stays, Holds, Keeps}
use Rattle.kept_parts.proofs.Stepping.{Rules, one_hold}
use Rattle.kept_parts.proofs.Whole.{all_maps}

-- letters of membership and maps say nothing of messages
gone_maps : (nodes : ℕ) (body : Body) → IsMapsBody body → IsBodyForAll nodes body
gone_maps nodes (Push key state octets) of = absurd of
gone_maps nodes body of = tt

here_maps : (body : Body) → IsMapsBody body → IsBodyWithOctets body
here_maps (Push key state octets) of = absurd of
here_maps body of = tt

-- nor do those of calls that read
gone_reads : (nodes : ℕ) (body : Body) → is_read_body body ≡ true → IsBodyForAll nodes body
gone_reads nodes (Push key state octets) of = absurd (true≢false (sym of))
gone_reads nodes body of = tt

here_reads : (body : Body) → is_read_body body ≡ true → IsBodyWithOctets body
here_reads (Push key state octets) of = absurd (true≢false (sym of))
here_reads body of = tt

module _ (plan : Plan) (few : plan.nodes ≤ 64) where
  abbrev Gone : List Record → Type 0
  Gone = AreForAll plan.nodes

  abbrev GoneBody : Body → Type 0
  GoneBody = IsBodyForAll plan.nodes

  gone_stays : Stays Gone GoneBody
  gone_stays = record {
    prefix = λ kept lost all key state m. all key state (among_front (Stated key state) kept lost m);
    plain = λ disk added none all key state m. ⊎_elim (λ old. all key state old) (λ new. absurd (none key state new)) (among_either (Stated key state) disk added m);
    maps = λ body of. gone_maps plan.nodes body of;
    reads = λ body of. gone_reads plan.nodes body of;
  }

  gone_by : (own : ℕ) (node : Node) (disk : List Record) (did : Reaction) (heard : Option Letter) (files : Option Content) (strikes : List (List ℕ × Id)) → KeepsGone plan.nodes (act_of own node disk did heard files strikes)
      → ((letter : Letter) → heard ≡ Some letter → GoneBody letter.body) → Keeps Gone GoneBody disk did
  gone_by own node disk did heard files strikes k came = λ p. (
    subst Gone (append-nil did.disk) (k.disk (subst Gone (sym (append-nil disk)) p) came),
    λ one m. k.sent (subst Gone (sym (append-nil disk)) p) came one m,
  )

  gone_begins : (w : mail.World) (own : ℕ) (node : Node) (disk : List Record) (call : NodeCall) (octets : List ℕ) → Keeps Gone GoneBody disk (begun_by plan w own node disk call octets)
  gone_begins w own node disk (Deliver mail) octets = gone_by own node disk (begin_deliver own plan.nodes w.seconds node disk mail.mailboxes octets (targets_for plan own node)) None None []
      (gone.delivers_keep plan.nodes own w.seconds node disk mail.mailboxes octets (targets_for plan own node) None) (λ letter e. absurd (cc e))
  gone_begins w own node disk (Strike user items) octets = gone_by own node disk (begin_strike own plan.nodes node disk user (asked_for plan own node items)) None None []
      (gone.strikes_keep plan.nodes own node disk user (asked_for plan own node items) [] few) (λ letter e. absurd (cc e))
  gone_begins w own node disk (Login user proof) octets = λ p. (p, λ one m. absurd m)
  gone_begins w own node disk (Fetch user id from most holders) octets = λ p. (p, λ one m. absurd m)
  gone_begins w own node disk (Leave user login manager) octets = λ p. (p, λ one m. absurd m)

  some_letter : (a b : Letter) → Some a ≡ Some b → a ≡ b
  some_letter a b e = cc

  gone_rules : Rules Gone GoneBody gone_stays plan
  gone_rules = record {
    hears = λ own node disk letter fits. gone_by own (with_stamps letter.body node) disk (hear own plan.nodes node disk letter) (Some letter) None []
        (gone.hears_keep plan.nodes own node disk letter few) (λ one e. subst (λ (l : Letter). GoneBody l.body) (some_letter letter one e) fits);
    begins = gone_begins;
    pushes = λ own to keys node disk ready. gone_by own node disk (push own to keys node disk) None None [] (gone.pushes_keep plan.nodes own to keys node disk ready) (λ letter e. absurd (cc e));
    widens = λ own to key node disk. gone_by own node disk (widen own to key node disk) None None [] (gone.widens_keep plan.nodes own to key node disk) (λ letter e. absurd (cc e));
  }

  here_stays : Stays EachHereHasOctets IsBodyWithOctets
  here_stays = record {
    prefix = λ kept lost all. prefix_has kept lost (kept ++ lost) refl all;
    plain = λ disk added none all. plain_more disk added none all;
    maps = here_maps;
    reads = here_reads;
  }

  here_by : (own : ℕ) (node : Node) (disk : List Record) (did : Reaction) (heard : Option Letter) (files : Option Content) (strikes : List (List ℕ × Id)) → KeepsOctets (act_of own node disk did heard files strikes)
      → ((letter : Letter) → heard ≡ Some letter → IsBodyWithOctets letter.body) → Keeps EachHereHasOctets IsBodyWithOctets disk did
  here_by own node disk did heard files strikes k came = λ p. (
    subst EachHereHasOctets (append-nil did.disk) (k.disk (subst EachHereHasOctets (sym (append-nil disk)) p) came),
    λ one m. k.sent (subst EachHereHasOctets (sym (append-nil disk)) p) came one m,
  )

  here_begins : (w : mail.World) (own : ℕ) (node : Node) (disk : List Record) (call : NodeCall) (octets : List ℕ) → Keeps EachHereHasOctets IsBodyWithOctets disk (begun_by plan w own node disk call octets)
  here_begins w own node disk (Deliver mail) octets = here_by own node disk (begin_deliver own plan.nodes w.seconds node disk mail.mailboxes octets (targets_for plan own node)) None None []
      (here_proofs.delivers_keep own plan.nodes w.seconds node disk mail.mailboxes octets (targets_for plan own node) None) (λ letter e. absurd (cc e))
  here_begins w own node disk (Strike user items) octets = here_by own node disk (begin_strike own plan.nodes node disk user (asked_for plan own node items)) None None []
      (here_proofs.strikes_keep own plan.nodes node disk user (asked_for plan own node items) []) (λ letter e. absurd (cc e))
  here_begins w own node disk (Login user proof) octets = λ p. (p, λ one m. absurd m)
  here_begins w own node disk (Fetch user id from most holders) octets = λ p. (p, λ one m. absurd m)
  here_begins w own node disk (Leave user login manager) octets = λ p. (p, λ one m. absurd m)

  here_rules : Rules EachHereHasOctets IsBodyWithOctets here_stays plan
  here_rules = record {
    hears = λ own node disk letter fits. here_by own (with_stamps letter.body node) disk (hear own plan.nodes node disk letter) (Some letter) None []
        (here_proofs.hears_keep own plan.nodes node disk letter) (λ one e. subst (λ (l : Letter). IsBodyWithOctets l.body) (some_letter letter one e) fits);
    begins = here_begins;
    pushes = λ own to keys node disk ready. here_by own node disk (push own to keys node disk) None None [] (here_proofs.pushes_keep own to keys node disk ready) (λ letter e. absurd (cc e));
    widens = λ own to key node disk. here_by own node disk (widen own to key node disk) None None [] (here_proofs.widens_keep own to key node disk) (λ letter e. absurd (cc e));
  }

  -- both, as parts of a world of messages
  gone_of : (w : mail.World) → PartsHold plan w → Holds Gone GoneBody w
  gone_of w p = record { disks = p.gone.disks; letters = p.gone.letters }

  here_of : (w : mail.World) → PartsHold plan w → Holds EachHereHasOctets IsBodyWithOctets w
  here_of w p = record { disks = p.here.disks; letters = p.here.letters }

  both_of : (w : mail.World) → Holds Gone GoneBody w → Holds EachHereHasOctets IsBodyWithOctets w → PartsHold plan w
  both_of w g h = record { gone = record { disks = g.disks; letters = g.letters }; here = record { disks = h.disks; letters = h.letters } }

  pub mail_all : (tells : Bool) (old new : mail.World) (steps : List mail_makes.MadeStep) → mail_makes.MakesAll plan tells old steps new → InPlan plan.nodes old.slots → Sound plan.confirm (mail.cluster_of old)
      → PartsHold plan old → PartsHold plan new
  mail_all tells old new [] is in_plan sound p = subst (PartsHold plan) (sym is) p
  mail_all tells old new (made ∷ steps) (mid, first, others) in_plan sound p =
      let next = steps_sound plan tells old mid (made ∷ []) (mid, first, refl) in_plan sound in
      mail_all tells mid new steps others next.0 next.1 (both_of mid
      (one_hold Gone GoneBody gone_stays plan gone_rules old sound (gone_of old p) tells made.step made.outcome mid first)
      (one_hold EachHereHasOctets IsBodyWithOctets here_stays plan here_rules old sound (here_of old p) tells made.step made.outcome mid first))

  -- where a cluster of messages opens, each disk has the record of its first boot and the promise of the first epoch
  fresh_at : (managers : List MapRow) (k n : ℕ) (slot : mail_cluster.Slot) → slice_get (fresh_slots plan.nodes managers k) n ≡ Some slot → all_records slot ≡ Boot 1 ∷ Promise first_epoch ∷ []
  fresh_at managers zero n slot e = absurd (cc e)
  fresh_at managers (suc k) zero slot e = ap all_records (sym (same (fresh_slot plan.nodes managers) slot e))
    where
      same : (a b : mail_cluster.Slot) → Some a ≡ Some b → a ≡ b
      same a b h = cc
  fresh_at managers (suc k) (suc n) slot e = fresh_at managers k n slot e

  boots_alone : (managers : List MapRow) (n : ℕ) (slot : mail_cluster.Slot) → mail_cluster.slot_at (fresh_slots plan.nodes managers plan.nodes) n ≡ Some slot → (key : Key) (state : State) → Among (Stated key state) (all_records slot) → ⊥
  boots_alone managers zero slot e key state m = absurd (cc e)
  boots_alone managers (suc n) slot e key state m = no_state key state (of_opening (Stated key state) (subst (Among (Stated key state)) (fresh_at managers plan.nodes n slot e) m))

  pub mail_worlds : (tells : Bool) (managers : List MapRow) (steps : List mail_makes.MadeStep) (w : mail.World) → mail_makes.MakesAll plan tells (opening_world plan.nodes managers) steps w → PartsHold plan w
  mail_worlds tells managers steps w made =
      let sound = opening_sound plan.nodes plan.confirm managers few in
      mail_all tells (opening_world plan.nodes managers) w steps made sound.0 sound.1 (record {
        gone = gone.empty_has plan.nodes (mail.cluster_of (opening_world plan.nodes managers)) (boots_alone managers) refl;
        here = here_proofs.empty_has (mail.cluster_of (opening_world plan.nodes managers)) (boots_alone managers) refl;
      })

  pub whole_all : (tells : Bool) (old new : World) (steps : List MadeStep) → MakesAll plan tells old steps new → Stands plan old → PartsHold plan (mail_world_of old) → PartsHold plan (mail_world_of new)
  whole_all tells old new steps made stands p = both_of (mail_world_of new)
      (all_maps Gone GoneBody gone_stays plan gone_rules tells old new steps made stands (gone_of (mail_world_of old) p))
      (all_maps EachHereHasOctets IsBodyWithOctets here_stays plan here_rules tells old new steps made stands (here_of (mail_world_of old) p))

  -- before a cluster opens
  empty_at : (k n : ℕ) (slot : mail_cluster.Slot) → slice_get (map whole.mail_slot (empty_slots k)) n ≡ Some slot → all_records slot ≡ []
  empty_at zero n slot e = absurd (cc e)
  empty_at (suc k) zero slot e = ap all_records (sym (same _ slot e))
    where
      same : (a b : mail_cluster.Slot) → Some a ≡ Some b → a ≡ b
      same a b h = cc
  empty_at (suc k) (suc n) slot e = empty_at k n slot e

  none_stated : (n : ℕ) (slot : mail_cluster.Slot) → mail_cluster.slot_at (map whole.mail_slot (empty_slots plan.nodes)) n ≡ Some slot → (key : Key) (state : State) → Among (Stated key state) (all_records slot) → ⊥
  none_stated zero slot e key state m = absurd (cc e)
  none_stated (suc n) slot e key state m = subst (Among (Stated key state)) (empty_at plan.nodes n slot e) m

  pub opening_has : PartsHold plan (mail_world_of (unopened_world plan.nodes))
  opening_has = record {
    gone = gone.empty_has plan.nodes (mail.cluster_of (mail_world_of (unopened_world plan.nodes))) none_stated refl;
    here = here_proofs.empty_has (mail.cluster_of (mail_world_of (unopened_world plan.nodes))) none_stated refl;
  }

  pub worlds_have : (tells : Bool) (steps : List MadeStep) (w : World) → MakesAll plan tells (unopened_world plan.nodes) steps w → PartsHold plan (mail_world_of w)
  worlds_have tells steps w made = whole_all tells (unopened_world plan.nodes) w steps made (opens plan few) opening_has

  pub stored : (tells : Bool) (steps : List MadeStep) (w : World) → MakesAll plan tells (unopened_world plan.nodes) steps w
      → (n : ℕ) (slot : whole.Slot) → whole.slot_at w.slots n ≡ Some slot → (user : List ℕ) (id : Id) (state : State) → said (Message user id) slot.disk ≡ Some state → state.value ≡ Here
      → (octets : List ℕ) × (octets_in id slot.disk ≡ Some octets)
  stored tells steps w made n slot here user id state says is =
      let all = (worlds_have tells steps w made).here.disks n (whole.mail_slot slot) (mail_here w.slots n slot here) in
      here_proofs.here_reads slot.disk user id state (prefix_has slot.disk (mail_cluster.pending_of (whole.mail_slot slot).life) (all_records (whole.mail_slot slot)) refl all) says is

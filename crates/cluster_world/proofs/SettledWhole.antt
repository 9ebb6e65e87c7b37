-- A settle as the whole machine makes it, and what then is known of it.
use Rattle.std.proofs.Common.{◌≡◌, ◌≢◌, ◌⊎◌, inl, inr, ⊎_elim, ℕ, zero, suc, ◌+◌, ◌≤◌, ◌<◌, Bool, true, false, true≢false, not, ◌&&◌, nat_eq, nat_lt, List, [], ◌∷◌, ◌++◌, length, Option, Some, None, Result, Ok, Err, refl, sym, ap, ◌∙◌, subst, arith, nat_le, leb-true, leb-false, if◌then◌else◌}
use Rattle.std.specs.Option.{option_map}
use Rattle.std.specs.Prelude.{slice_get}
use Rattle.std.proofs.lemmas.Bool.{eqb-true}
use Rattle.mail_model.specs.Plan.{Plan}
use Rattle.mail_model.specs.Record.{Record}
use Rattle.mail_model.specs.Identity.{EpochId}
use Rattle.object_model.specs.Lists.{Among}
use Rattle.object_model.specs.Sets.{has}
use Rattle.object_model.specs.Letters.{Member, Membership, Body, Letter}
use Rattle.object_model.specs.Letters.Body.{Install}
use Rattle.object_model.specs.Letters.{Body as bodies}
use Rattle.object_model.proofs.Lists.{among_front, among_behind}
use Rattle.cluster_model.specs.Cluster.{set_of_members, members_in}
use Rattle.cluster_model.specs.Room.{Flight}
use Rattle.cluster_model.specs.Steps as mail_steps
use Rattle.cluster_model.specs.World.{letters_of}
use Rattle.maps_model.specs.Cluster as maps
use Rattle.maps_model.specs.Epochs.{IsBefore, IsAtMost}
use Rattle.whole_model.specs.Whole as whole
use Rattle.whole_model.specs.Whole.{mail_slot, maps_disk_of}
use Rattle.whole_world.specs.Laws.{Stands}
use Rattle.whole_world.specs.Makes.{MakesStep}
use Rattle.whole_world.specs.Settled.{IsLive, IsSettled, IsKnownEpoch}
use Rattle.whole_world.specs.Steps as whole_steps
use Rattle.whole_world.specs.Sweeps as sweep
use Rattle.whole_world.specs.Sweeps.{Flows, TellsMember, IsCharted, NoLaterInstall, boot_and_epoch, EpochsStay}
use Rattle.whole_world.specs.Sweeps.Flows.{Flowed, FlowsOn}
use Rattle.whole_world.specs.Regroup.{maps_at, maps_of_slot}
use Rattle.whole_world.specs.Thrown.{is_before}
use Rattle.whole_world.specs.World as whole_world
use Rattle.whole_world.specs.World.{mail_world_of, slot_up, IsUp}
use Rattle.whole_world.proofs.Along.{mail_here, maps_here}
use Rattle.whole_world.proofs.Before.{before_true, true_before}
use Rattle.whole_world.proofs.Flowing.{flows_stay_live}
use Rattle.whole_world.proofs.Knowing.{brings_none}
use Rattle.whole_world.proofs.Quieting.{member_has}
use Rattle.whole_world.proofs.Settling.{one_map_per_epoch}
use Rattle.whole_world.proofs.Staying.{sweeps_stay}
use Rattle.whole_world.proofs.Sweeping.{sweeps_send}
use Rattle.node_store.specs.Disks.{View}
use Rattle.node_maps.specs.Nodes.{node_of}
use Rattle.whole_node.specs.declared.node.WholeNode.{WholeNode}
use Rattle.joint_world.specs.World.{whole_world_of}
use Rattle.cluster_world.specs.Flows.{IsDelivered, AllDelivered, IsLowest, PostsLowest}
use Rattle.cluster_world.specs.Lives.{of_node}
use Rattle.cluster_world.specs.Maps.{StandsForWhole}
use Rattle.cluster_world.specs.Made.{StepMade, has_failed}
use Rattle.cluster_world.specs.Regroups.{sent_in}
use Rattle.cluster_world.specs.Rests.{SettlesWell, HasSettled}
use Rattle.cluster_world.specs.Seen.{whole_said}
use Rattle.cluster_world.specs.Settling.{installed_at, latest_in, is_live_at, is_live_in, absent_since, absent_in, all_settled, rest_by, rest_of, rest_in, IsAtRest, pairs_from, pairs_up_to, pairs_of, pairs_in, IsRefusedBy, AllFlowed, TellsOne, TellsEach, Sweeps, Swept, Goes, SweepsInVain, SettlesSo, MakesSettle, HasLaterInstall}
use Rattle.cluster_world.specs.Settling.Swept.{NoMore, OneMore}
use Rattle.cluster_world.specs.Steps.{IsStep}
use Rattle.cluster_world.specs.Sound.{IsWhole}
use Rattle.cluster_world.specs.Worlds.{WorldState, state_of, plan_of, disks_tell}
use Rattle.cluster_world.specs.declared.fault.StepFault.{StepFault}
use Rattle.cluster_world.specs.declared.life.Life.{Life}
use Rattle.cluster_world.specs.declared.life.Life.TheVariants.{Up}
use Rattle.cluster_world.specs.declared.settling.Rest.{Rest}
use Rattle.cluster_world.specs.declared.settling.Rest.TheVariants.{Absent, Calm, Owing}
use Rattle.cluster_world.specs.declared.settling.Settle.{Settle}
use Rattle.cluster_world.specs.declared.settling.Settle.TheVariants.{Settled, NotAllUp, Fault}
use Rattle.cluster_world.specs.declared.step.Said.{Said}
use Rattle.cluster_world.specs.declared.step.Step.{Step}
use Rattle.cluster_world.specs.declared.step.Step.TheVariants as step
use Rattle.cluster_world.specs.declared.world.World.{World}
use Rattle.cluster_world.proofs.Leading.{same_whole}
use Rattle.cluster_world.proofs.AtOpening.{UpHere, up_here, settled_here}
use Rattle.cluster_world.proofs.Formed.{fine_of, maps_up}
use Rattle.cluster_world.proofs.Mirrors.{IsOf}
use Rattle.cluster_world.proofs.AtRest.{rest_is_settled, PresentIn, present_words, owing_present, present_all, absent_none, LatestAt, latest_at, LiveNode, live_words, live_test, LatestFrom, latest_least, one_epoch, most_or}
use Rattle.cluster_world.proofs.Righted.{latest_known, has_member}
use Rattle.cluster_world.proofs.Settles.{delivered_goes}
use Rattle.cluster_world.proofs.Still.{some_same}
use Rattle.cluster_world.proofs.Wholes.{as_whole, UpWhole, whole_up, StepsWhole, step_whole, is_of_next}

module _ {D : Type 0} (on : View D) (plan : Plan) where
  -- a world of the program with its world of the whole machine
  pub record At (world : World D) (Goes : whole_world.World → Type 0) : Type 0 where
    pub of : IsOf on plan true world
    pub whole : IsWhole on plan world
    pub goes : Goes (whole_world_of whole.v)

  -- letters that were posted
  flows_whole : (steps : List StepMade) (old new : World D) → IsOf on plan true old → PostsLowest on steps old new → AllDelivered steps → (state_of new).flying.flights ≡ [] → (h : IsWhole on plan old) → At new (λ v. Flows plan true (whole_world_of h.v) v)
  flows_whole [] old new of same all clear h = record {
    of = subst (IsOf on plan true) (sym same) of;
    whole = same_whole on plan old new same h;
    goes = Flowed (whole_world_of h.v) (whole_world_of h.v) (sym h.stands.mail.flying ∙ ap (λ (w : World D). (state_of w).flying.flights) (sym same) ∙ clear) refl;
  }
  flows_whole (one ∷ more) old new of (letter, mid, low, is, did, rest) (post, goes, all) clear h = by one.result (delivered_goes one.result goes) (subst (λ (s : Step). IsStep on one.result s old mid) is did) (λ of_mid at. flows_whole more mid new of_mid rest all clear at)
    where
      by : (r : Result Said StepFault) → has_failed r ≡ false → IsStep on r (step.Post letter false) old mid → ((of_mid : IsOf on plan true mid) (at : IsWhole on plan mid) → At new (λ v. Flows plan true (whole_world_of at.v) v)) → At new (λ v. Flows plan true (whole_world_of h.v) v)
      by (Err why) went made more_whole = absurd (true≢false went)
      by (Ok what) went made more_whole =
          let s = step_whole on plan true (Ok what) (step.Post letter false) old mid of (inr tt) tt made h in
          let next = more_whole (is_of_next on plan true (Ok what) (step.Post letter false) old mid of made) s.whole in
          record {
            of = next.of;
            whole = next.whole;
            goes = FlowsOn (whole_world_of h.v) (whole_world_of next.whole.v) low.flight (subst (Among low.flight) h.stands.mail.flying low.flies)
                (λ other m. subst (λ k. k ≤ other.number) (sym low.is) (low.least other (subst (Among other) (sym h.stands.mail.flying) m)))
                (whole_said what) (whole_world_of s.whole.v)
                (subst (λ k. MakesStep plan true (whole_world_of h.v) (whole_steps.Step.OfMessages (mail_steps.Step.Post k false)) (whole_steps.StepOutcome.Says (whole_said what)) (whole_world_of s.whole.v)) (sym low.is) s.made)
                (λ n. fine_of what n went) next.goes;
          }

  flowed_whole : (old new : World D) (steps : List StepMade) → IsOf on plan true old → AllFlowed on old new steps → (h : IsWhole on plan old) → At new (λ v. Flows plan true (whole_world_of h.v) v)
  flowed_whole old new steps of f h = flows_whole steps old new of f.lowest f.well f.clear h

  -- one node told another
  one_whole : (from to : ℕ) (old new : World D) (steps : List StepMade) → IsOf on plan true old → TellsOne on from to old new steps → (h : IsWhole on plan old) → At new (λ v. TellsMember plan true from to (whole_world_of h.v) v)
  one_whole from to old new steps of t h =
      let p = step_whole on plan true (Ok t.push) (step.Push from to) old t.pushed of (inl refl) tt t.pushes h in
      let a = flowed_whole t.pushed t.heard t.first (is_of_next on plan true (Ok t.push) (step.Push from to) old t.pushed of t.pushes) t.flows p.whole in
      let r = step_whole on plan true (Ok t.report) (step.Report from to) t.heard t.reported a.of (inr tt) tt t.reports a.whole in
      let b = flowed_whole t.reported new t.second (is_of_next on plan true (Ok t.report) (step.Report from to) t.heard t.reported a.of t.reports) t.flows_again r.whole in
      record {
        of = b.of;
        whole = b.whole;
        goes = record {
          pushed = (whole_world_of p.whole.v);
          between = (whole_world_of a.whole.v);
          reported = (whole_world_of r.whole.v);
          push_said = whole_said t.push;
          report_said = whole_said t.report;
          pushes = p.made;
          push_fine = λ n. fine_of t.push n t.push_goes;
          flows_first = a.goes;
          reports = r.made;
          report_fine = λ n. fine_of t.report n t.report_goes;
          flows = b.goes;
        };
      }

  each_whole : (pairs : List (ℕ × ℕ)) (old new : World D) (steps : List StepMade) → IsOf on plan true old → TellsEach on pairs old new steps → (h : IsWhole on plan old) → At new (λ v. sweep.Sweeps plan true pairs (whole_world_of h.v) v)
  each_whole [] old new steps of (none, same) h = record {
    of = subst (IsOf on plan true) (sym same) of;
    whole = same_whole on plan old new same h;
    goes = refl;
  }
  each_whole (pair ∷ pairs) old new steps of (mid, one, more, split, t, rest) h =
      let a = one_whole pair.0 pair.1 old mid one of t h in
      let b = each_whole pairs mid new more a.of rest a.whole in
      record { of = b.of; whole = b.whole; goes = ((whole_world_of a.whole.v), a.goes, b.goes) }

  -- nothing is in flight after each
  each_clear : (pairs : List (ℕ × ℕ)) (old new : World D) (steps : List StepMade) → TellsEach on pairs old new steps → (state_of old).flying.flights ≡ [] → (state_of new).flying.flights ≡ []
  each_clear [] old new steps (none, same) clear = ap (λ (w : World D). (state_of w).flying.flights) same ∙ clear
  each_clear (pair ∷ pairs) old new steps (mid, one, more, split, t, rest) clear = each_clear pairs mid new more rest t.flows_again.clear

  -- What stays in sweeps: nothing is in flight, and each node's boot and epoch are as they were.
  pub record Stayed (v : whole_world.World) (new : whole_world.World) : Type 0 where
    pub live : (g : Membership) (member : Member) → IsLive v g member → IsLive new g member
    pub epochs : EpochsStay v new

  swept_whole : (old new : World D) (steps : List StepMade) → IsOf on plan true old → (state_of old).flying.flights ≡ [] → Swept on old new steps → (h : IsWhole on plan old) → At new (λ v. Stayed (whole_world_of h.v) v) × ((state_of new).flying.flights ≡ [])
  swept_whole old new steps of clear (NoMore _ _ same none) h = (
    record {
      of = subst (IsOf on plan true) (sym same) of;
      whole = same_whole on plan old new same h;
      goes = record { live = λ g member l. l; epochs = λ n. refl };
    },
    ap (λ (w : World D). (state_of w).flying.flights) same ∙ clear,
  )
  swept_whole old new steps of clear (OneMore mid _ front last _ swept sweeps sent split) h =
      let (a, none) = swept_whole old mid front of clear swept h in
      let pairs = pairs_in (state_of mid) in
      let b = each_whole pairs mid new last a.of sweeps.tells a.whole in
      let s = sweeps_stay plan true (whole_world_of a.whole.v) (whole_world_of b.whole.v) pairs a.whole.sound.whole (sym a.whole.stands.mail.flying ∙ none) b.goes in (
        record {
          of = b.of;
          whole = b.whole;
          goes = record {
            live = λ g member l. s.2 g member (a.goes.live g member l);
            epochs = λ n. s.3 n ∙ a.goes.epochs n;
          };
        },
        each_clear pairs mid new last sweeps.tells none,
      )

-- Each two members are a pair.
pairs_from_have : (n members nodes m : ℕ) → 1 ≤ m → m ≤ nodes → has members m ≡ true → n ≢ m → Among {X = ℕ × ℕ} (n, m) (pairs_from n members nodes)
pairs_from_have n members zero m some within inside apart = absurd (omega (arith, some, within))
pairs_from_have n members (suc k) m some within inside apart = ⊎_elim
    (λ (same : m ≡ suc k). among_behind {X = ℕ × ℕ} (n, m) (pairs_from n members k) (if has members (suc k) && not (nat_eq n (suc k)) then (n, suc k) ∷ [] else []) (subst (λ (j : ℕ). Among {X = ℕ × ℕ} (n, j) (if has members (suc k) && not (nat_eq n (suc k)) then (n, suc k) ∷ [] else [])) (sym same)
    (subst (λ (b : Bool). Among {X = ℕ × ℕ} (n, suc k) (if b then (n, suc k) ∷ [] else [])) (sym (tests (has members (suc k)) (nat_eq n (suc k)) (subst (λ (j : ℕ). has members j ≡ true) same inside) (differ n (suc k) (λ e. apart (e ∙ sym same))))) (inl refl))))
    (λ (lower : m ≤ k). among_front {X = ℕ × ℕ} (n, m) (pairs_from n members k) (if has members (suc k) && not (nat_eq n (suc k)) then (n, suc k) ∷ [] else []) (pairs_from_have n members k m some lower inside apart))
    (last_or m k within)
  where
    tests : (a b : Bool) → a ≡ true → b ≡ false → (a && not b) ≡ true
    tests true false p q = refl
    tests true true p q = absurd (true≢false q)
    tests false b p q = absurd (true≢false (sym p))

    differ : (a b : ℕ) → a ≢ b → nat_eq a b ≡ false
    differ a b apart = by (nat_eq a b) refl
      where
        by : (t : Bool) → nat_eq a b ≡ t → t ≡ false
        by true e = absurd (apart (eqb-true a b e))
        by false e = refl

    last_or : (m k : ℕ) → m ≤ suc k → (m ≡ suc k) ⊎ (m ≤ k)
    last_or m k within = by (nat_le m k) refl
      where
        by : (t : Bool) → nat_le m k ≡ t → (m ≡ suc k) ⊎ (m ≤ k)
        by true e = inr (leb-true m k e)
        by false e = let above = leb-false m k e in inl (omega (arith, above, within))

pairs_have : (members nodes first n m : ℕ) → 1 ≤ n → n ≤ first → 1 ≤ m → m ≤ nodes → has members n ≡ true → has members m ≡ true → n ≢ m → Among {X = ℕ × ℕ} (n, m) (pairs_up_to members nodes first)
pairs_have members nodes zero n m some within other inside p q apart = absurd (omega (arith, some, within))
pairs_have members nodes (suc k) n m some within other inside p q apart = ⊎_elim
    (λ (same : n ≡ suc k). among_behind {X = ℕ × ℕ} (n, m) (pairs_up_to members nodes k) (if has members (suc k) then pairs_from (suc k) members nodes else [])
    (subst (λ (b : Bool). Among {X = ℕ × ℕ} (n, m) (if b then pairs_from (suc k) members nodes else [])) (sym (subst (λ (j : ℕ). has members j ≡ true) same p))
    (subst (λ (j : ℕ). Among {X = ℕ × ℕ} (n, m) (pairs_from j members nodes)) same (pairs_from_have n members nodes m other inside q apart))))
    (λ (lower : n ≤ k). among_front {X = ℕ × ℕ} (n, m) (pairs_up_to members nodes k) (if has members (suc k) then pairs_from (suc k) members nodes else []) (pairs_have members nodes k n m some lower other inside p q apart))
    (last_or n k within)
  where
    last_or : (m k : ℕ) → m ≤ suc k → (m ≡ suc k) ⊎ (m ≤ k)
    last_or m k within = by (nat_le m k) refl
      where
        by : (t : Bool) → nat_le m k ≡ t → (m ≡ suc k) ⊎ (m ≤ k)
        by true e = inr (leb-true m k e)
        by false e = let above = leb-false m k e in inl (omega (arith, above, within))

module _ {D : Type 0} (on : View D) (plan : Plan) (world : World D) (h : IsWhole on plan world) where
  even : length (state_of world).disks ≡ length (state_of world).lives
  even = world.nodes.disk_each ∙ sym world.nodes.all

  -- members that are live here are live there
  pub live_whole : (p : PresentIn (state_of world).lives) (member : Member) → Among member p.membership.members → IsLive (whole_world_of h.v) p.membership member
  live_whole p member m =
      let l = live_words (of_node (state_of world).lives member.node) p.membership.epoch member.boot ((present_all (state_of world).lives p.membership.epoch None p.membership.members p.present).1 member m) in
      let u = whole_up on (state_of world) (whole_world_of h.v) member.node l.node even (as_whole on plan world h) l.up in
      let known : IsKnownEpoch (whole_world_of h.v) l.own = inl (member.node, u.seen, u.disk, u.up, ap (λ (x : maps.Node). x.installed) u.maps ∙ l.installed) in
      let same = one_map_per_epoch plan (whole_world_of h.v) h.sound.whole l.own p.membership known (latest_known on plan world h p.membership p.latest) l.epoch_is in
      record {
        node = u.seen;
        disk = u.disk;
        up = u.up;
        boot = ap (λ (x : maps.Node). x.boot) u.maps ∙ l.boot_is;
        installed = ap (λ (x : maps.Node). x.installed) u.maps ∙ l.installed ∙ ap Some same;
      }

  -- and the other way round
  pub live_back : (g : Membership) (member : Member) → IsLive (whole_world_of h.v) g member → (x : WholeNode) × (of_node (state_of world).lives member.node ≡ Some (Up x)) × ((node_of x.maps).boot ≡ member.boot) × ((node_of x.maps).installed ≡ Some g)
  live_back g member l =
      let u = up_here on plan world (whole_world_of h.v) h.sound.whole (as_whole on plan world h) member.node l.node l.disk l.up in
      (u.node, u.up, ap (λ (x : maps.Node). x.boot) (sym u.maps_are) ∙ l.boot, ap (λ (x : maps.Node). x.installed) (sym u.maps_are) ∙ l.installed)

-- a node numbered from 1 at its place
place_of : {X : Type 0} (xs : List X) (n : ℕ) (x : X) → of_node xs n ≡ Some x → (k : ℕ) × (slice_get xs k ≡ Some x)
place_of xs zero x e = absurd (let never : None ≡ Some x = e in cc)
place_of xs (suc k) x e = (k, e)

flight_of : (letter : Letter) (flights : List Flight) → Among letter (letters_of flights) → (flight : Flight) × Among flight flights × (flight.letter ≡ letter)
flight_of letter [] m = absurd m
flight_of letter (flight ∷ flights) (inl same) = (flight, inl refl, same)
flight_of letter (flight ∷ flights) (inr m) = let (one, inside, is) = flight_of letter flights m in (one, inr inside, is)

-- the membership of an Install
abbrev installed_by : Body → Option Membership
installed_by (Install g) = Some g
installed_by body = None

install_is : (body : Body) (g : Membership) → installed_by body ≡ Some g → body ≡ Install g
install_is (Install x) g e = ap Install (some_same x g e)
install_is (bodies.File id stamp targets users octets) g e = absurd (cc e)
install_is (bodies.Filed id) g e = absurd (cc e)
install_is (bodies.LoginAsk user proof) g e = absurd (cc e)
install_is (bodies.LoginTold word) g e = absurd (cc e)
install_is (bodies.ListAsk user) g e = absurd (cc e)
install_is (bodies.ListTold items) g e = absurd (cc e)
install_is (bodies.FetchAsk user id at most) g e = absurd (cc e)
install_is (bodies.FetchTold part) g e = absurd (cc e)
install_is (bodies.Strike user marks) g e = absurd (cc e)
install_is (bodies.StrikeTold user ids) g e = absurd (cc e)
install_is (bodies.Unlock user login) g e = absurd (cc e)
install_is (bodies.Push key state octets) g e = absurd (cc e)
install_is (bodies.PushAck key state) g e = absurd (cc e)
install_is (bodies.Retire key state) g e = absurd (cc e)
install_is (bodies.Group epoch) g e = absurd (cc e)
install_is (bodies.Join epoch promise boot was claims) g e = absurd (cc e)
install_is (bodies.Report row) g e = absurd (cc e)
install_is (bodies.ReportAck user version) g e = absurd (cc e)

-- an Install of a later epoch flies, or none does
later_flies : (g : Membership) (flights : List Flight) → ((flight : Flight) × Among flight flights × (later : Membership) × (flight.letter.body ≡ Install later) × (is_before g.epoch later.epoch ≡ true))
    ⊎ ((flight : Flight) → Among flight flights → (later : Membership) → flight.letter.body ≡ Install later → is_before g.epoch later.epoch ≡ false)
later_flies g [] = inr (λ flight m later e. absurd m)
later_flies g (one ∷ flights) = ⊎_elim
    (λ (flight, m, later, body, less). inl (flight, inr m, later, body, less))
    (λ none. by (installed_by one.letter.body) refl none)
    (later_flies g flights)
  where
    by : (o : Option Membership) → installed_by one.letter.body ≡ o
        → ((flight : Flight) → Among flight flights → (later : Membership) → flight.letter.body ≡ Install later → is_before g.epoch later.epoch ≡ false)
        → ((flight : Flight) × Among flight (one ∷ flights) × (later : Membership) × (flight.letter.body ≡ Install later) × (is_before g.epoch later.epoch ≡ true))
        ⊎ ((flight : Flight) → Among flight (one ∷ flights) → (later : Membership) → flight.letter.body ≡ Install later → is_before g.epoch later.epoch ≡ false)
    by None is none = inr (λ flight m later body. ⊎_elim
        (λ same. let never : None ≡ Some later = sym is ∙ ap (λ (f : Flight). installed_by f.letter.body) same ∙ ap installed_by body in absurd (cc never))
        (λ rest. none flight rest later body) m)
    by (Some x) is none = tests (is_before g.epoch x.epoch) refl
      where
        tests : (t : Bool) → is_before g.epoch x.epoch ≡ t
            → ((flight : Flight) × Among flight (one ∷ flights) × (later : Membership) × (flight.letter.body ≡ Install later) × (is_before g.epoch later.epoch ≡ true))
            ⊎ ((flight : Flight) → Among flight (one ∷ flights) → (later : Membership) → flight.letter.body ≡ Install later → is_before g.epoch later.epoch ≡ false)
        tests true less = inl (one, inl refl, x, install_is one.letter.body x is, less)
        tests false less_not = inr (λ flight m later body. ⊎_elim
            (λ same. subst (λ (y : Membership). is_before g.epoch y.epoch ≡ false) (some_same x later (sym is ∙ ap (λ (f : Flight). installed_by f.letter.body) same ∙ ap installed_by body)) less_not)
            (λ rest. none flight rest later body) m)

module _ {D : Type 0} (on : View D) (plan : Plan) where
  -- A sweep that sent nothing has found a settled epoch.
  pub never_vain : (why : StepFault) (old new : World D) (steps : List StepMade) → IsOf on plan true old → IsWhole on plan old → SweepsInVain on why old new steps → ⊥
  never_vain why old new steps of h s =
      let g = s.goes in
      let f = flowed_whole on plan old g.flown g.first of g.flows h in
      let (a, clear) = swept_whole on plan g.flown s.mid g.more f.of g.flows.clear g.sweeps f.whole in
      let pairs = pairs_in (state_of s.mid) in
      let b = each_whole on plan pairs s.mid new s.last a.of s.sweeps.tells a.whole in
      let p = owing_present (state_of s.mid).lives s.sweeps.due in
      let live = live_whole on plan s.mid a.whole p in
      let flying : (whole_world_of a.whole.v).flying ≡ [] = sym a.whole.stands.mail.flying ∙ clear in
      let sends = sweeps_send plan true (whole_world_of a.whole.v) (whole_world_of b.whole.v) pairs a.whole.sound.whole a.whole.charted flying p.membership live (λ x y mx my apart. in_pairs s.mid a.of a.whole p x y mx my apart) b.goes in
      let none : (whole_world_of b.whole.v).sent ≤ (whole_world_of a.whole.v).sent = subst (λ k. k ≤ (whole_world_of a.whole.v).sent) b.whole.stands.mail.sent (subst (λ k. sent_in new ≤ k) a.whole.stands.mail.sent s.none) in
      let settled = sends.1 (omega (arith, sends.0, none)) in
      let rest = (rest_is_settled D (state_of s.mid)).1 (settled_here on plan s.mid (whole_world_of a.whole.v) a.whole.sound.whole (as_whole on plan s.mid a.whole) p.membership p.latest settled clear) in
      let never : Calm ≡ Owing = sym rest.calm ∙ s.sweeps.due in cc never
    where
      in_pairs : (mid : World D) → IsOf on plan true mid → (h : IsWhole on plan mid) (p : PresentIn (state_of mid).lives) (x y : Member) → Among x p.membership.members → Among y p.membership.members → y.node ≢ x.node
          → Among {X = ℕ × ℕ} (x.node, y.node) (pairs_in (state_of mid))
      in_pairs mid of h p x y mx my apart =
          let lx = live_whole on plan mid h p x mx in
          let ly = live_whole on plan mid h p y my in
          let px = h.sound.whole.in_plan x.node (mail_slot (slot_up lx.node lx.disk)) (mail_here (whole_world_of h.v).slots x.node (slot_up lx.node lx.disk) lx.up) in
          let py = h.sound.whole.in_plan y.node (mail_slot (slot_up ly.node ly.disk)) (mail_here (whole_world_of h.v).slots y.node (slot_up ly.node ly.disk) ly.up) in
          let set = set_of_members p.membership.members in
          let nodes : (plan_of mid).nodes ≡ plan.nodes = ap (λ (q : Plan). q.nodes) of.plan_is in
          subst (λ (o : Option Membership). Among {X = ℕ × ℕ} (x.node, y.node) (pairs_of (members_in o) (plan_of mid).nodes)) (sym p.latest)
          (subst (λ k. Among {X = ℕ × ℕ} (x.node, y.node) (pairs_of set k)) (sym nodes)
          (pairs_have set plan.nodes plan.nodes x.node y.node (positive x.node px.some) px.within (positive y.node py.some) py.within
          (member_has p.membership.members x mx px.some (few x.node plan.nodes px.within px.few)) (member_has p.membership.members y my py.some (few y.node plan.nodes py.within py.few))
          (λ e. apart (sym e))))
        where
          few : (a b : ℕ) → a ≤ b → b ≤ 64 → a ≤ 64
          few a b x y = omega (arith, x, y)

          positive : (a : ℕ) → a ≢ 0 → 1 ≤ a
          positive zero p = absurd (p refl)
          positive (suc k) p = omega arith

  -- What was installed once all letters were posted and sweeps were made was known before.
  known_before : (v flown new : whole_world.World) → Stands plan v → Flows plan true v flown → EpochsStay flown new → (n : ℕ) (node : whole.Node) (disk : List Record) (g : Membership) → IsUp new n node disk → node.maps.installed ≡ Some g
      → IsKnownEpoch v g
  known_before v flown new sound flows epochs n node disk g up installed =
      brings_none plan true v flown sound flows g (by (maps_at flown n) refl)
    where
      there : boot_and_epoch new n ≡ Some (node.maps.boot, Some g)
      there = ap (λ (o : Option whole.Slot). option_map (λ (x : maps.Node). (x.boot, x.installed)) (maps_of_slot o)) up ∙ ap (λ (o : Option Membership). Some (node.maps.boot, o)) installed

      by : (o : Option maps.Node) → maps_at flown n ≡ o → IsKnownEpoch flown g
      by None is = let never : None ≡ Some (node.maps.boot, Some g) = sym (ap (option_map (λ (x : maps.Node). (x.boot, x.installed))) is) ∙ sym (epochs n) ∙ there in absurd (cc never)
      by (Some x) is =
          let pair : Some (x.boot, x.installed) ≡ Some (node.maps.boot, Some g) = sym (ap (option_map (λ (y : maps.Node). (y.boot, y.installed))) is) ∙ sym (epochs n) ∙ there in
          let (seen, records, at, same) = maps_up (whole.slot_at flown.slots n) x is in
          inl (n, seen, records, at, ap (λ (y : maps.Node). y.installed) same ∙ ap (λ (z : ℕ × Option Membership). z.1) (some_same (x.boot, x.installed) (node.maps.boot, Some g) pair))

  -- Where no Install of a later epoch flew, all members are live at the end.
  pub stays_present : (old new : World D) (steps : List StepMade) (n : ℕ) → IsOf on plan true old → (h : IsWhole on plan old) → Goes on old new steps → (p : PresentIn (state_of old).lives)
      → ((flight : Flight) → Among flight (state_of old).flying.flights → (later : Membership) → flight.letter.body ≡ Install later → is_before p.membership.epoch later.epoch ≡ false)
      → rest_in (state_of new) ≡ Absent n → ⊥
  stays_present old new steps n of h s p none absent =
      let g = p.membership in
      let f = flowed_whole on plan old s.flown s.first of s.flows h in
      let (a, clear) = swept_whole on plan s.flown new s.more f.of s.flows.clear s.sweeps f.whole in
      let most : NoLaterInstall (whole_world_of h.v) g = λ letter m later body.
      let (flight, flies, is) = flight_of letter (whole_world_of h.v).flying m in
      most_or later.epoch g.epoch (none flight (subst (Among flight) (sym h.stands.mail.flying) flies) later (ap (λ (l : Letter). l.body) is ∙ body)) in
      let stay = flows_stay_live plan true (whole_world_of h.v) (whole_world_of f.whole.v) g h.sound.whole most f.goes in
      let live = λ (member : Member) (m : Among member g.members). a.goes.live g member (stay.2 member (live_whole on plan old h p member m)) in
      let (first, inside) = has_member on plan old h g p.latest in
      let (x, up, boot, installed) = live_back on plan new a.whole g first (live first inside) in
      let (k, here) = place_of (state_of new).lives first.node (Up x) up in
      let latest = latest_least (state_of new).lives k x g here installed in
      let at = latest_at (state_of new).lives latest.membership latest.latest in
      let u = whole_up on (state_of new) (whole_world_of a.whole.v) (suc at.place) at.node (even on plan new a.whole) (as_whole on plan new a.whole) at.up in
      let known = known_before (whole_world_of h.v) (whole_world_of f.whole.v) (whole_world_of a.whole.v) h.sound.whole f.goes a.goes.epochs (suc at.place) u.seen u.disk latest.membership u.up (ap (λ (y : maps.Node). y.installed) u.maps ∙ at.installed) in
      let not_above : is_before g.epoch latest.membership.epoch ≡ false = by known in
      let epochs : latest.membership.epoch ≡ g.epoch = one_epoch latest.membership.epoch g.epoch latest.not_less not_above in
      let same : latest.membership ≡ g = one_map_per_epoch plan (whole_world_of h.v) h.sound.whole latest.membership g known (latest_known on plan old h g p.latest) epochs in
      let present : absent_in (state_of new).lives g ≡ None = absent_none (state_of new).lives g.epoch None g.members (λ member m.
      let (y, is_up, boots, has_it) = live_back on plan new a.whole g member (live member m) in live_test (of_node (state_of new).lives member.node) g.epoch member.boot y g is_up boots has_it refl) in
      let never : rest_by None (all_settled (state_of new).lives g.members) ≡ Absent n =
      ap (λ (o : Option ℕ). rest_by o (all_settled (state_of new).lives g.members)) (sym present) ∙ ap (λ (y : Membership). rest_by (absent_in (state_of new).lives y) (all_settled (state_of new).lives y.members)) (sym same) ∙ ap (rest_of (state_of new).lives) (sym latest.latest) ∙ absent in
      no_absent (all_settled (state_of new).lives g.members) never
    where
      no_absent : (b : Bool) → rest_by None b ≡ Absent n → ⊥
      no_absent true e = let never : Calm ≡ Absent n = e in cc never
      no_absent false e = let never : Owing ≡ Absent n = e in cc never

      by : {x : Membership} → IsKnownEpoch (whole_world_of h.v) x → is_before p.membership.epoch x.epoch ≡ false
      by {x} (inl (m, node, disk, up, installed)) =
          let u = up_here on plan old (whole_world_of h.v) h.sound.whole (as_whole on plan old h) m node disk up in
          let (k, here) = place_of (state_of old).lives m (Up u.node) u.up in
          let l = latest_least (state_of old).lives k u.node x here (ap (λ (y : maps.Node). y.installed) (sym u.maps_are) ∙ installed) in
          subst (λ (y : Membership). is_before y.epoch x.epoch ≡ false) (some_same l.membership p.membership (sym l.latest ∙ p.latest)) l.not_less
      by {x} (inr (letter, m, body)) =
          let (flight, flies, is) = flight_of letter (whole_world_of h.v).flying m in
          none flight (subst (Among flight) (sym h.stands.mail.flying) flies) x (ap (λ (l : Letter). l.body) is ∙ body)

  -- So a settle does well.
  pub settles_well : (r : Result Settle StepFault) (old new : World D) (steps : List StepMade) → IsOf on plan true old → (h : IsWhole on plan old) → SettlesSo on r old new steps → SettlesWell on r old new steps
  settles_well (Ok Settled) old new steps of h so = tt
  settles_well (Ok (NotAllUp n)) old new steps of h (done, absent) = ⊎_elim
      (λ (none, same). inl (subst (λ (w : World D). rest_in (state_of w) ≡ Absent n) same absent))
      (λ goes.
      let p = present_words (state_of old).lives goes.present in
      ⊎_elim
      (λ (flight, flies, later, body, less). inr (record { latest = p.membership; is = p.latest; flight = flight; flies = flies; later = later; body = body; after = less }))
      (λ none. absurd (stays_present old new steps n of h goes p none absent))
      (later_flies p.membership (state_of old).flying.flights))
      done
  settles_well (Ok (Fault n)) old new steps of h so = tt
  settles_well (Err why) old new steps of h so = ⊎_elim (λ refused. refused) (λ vain. absurd (never_vain why old new steps of h vain)) so

pub has_settled : {D : Type 0} (on : View D) (r : Result Settle StepFault) (old new : World D) → MakesSettle on r old new → HasSettled on r old new
has_settled on r old new m = record {
  makes = m;
  well = λ h tells. settles_well on (plan_of old) r old new m.steps (record { plan_is = refl; told_is = tells }) h m.shape;
}

-- A conclusion and its Installs: whoever is to enter the epoch has entered it once they are posted.
use Rattle.std.proofs.Common.{◌≡◌, ◌≢◌, ◌⊎◌, inl, inr, ⊎_elim, ℕ, suc, ◌+◌, ◌≤◌, ◌<◌, Bool, true, false, List, [], ◌∷◌, ◌++◌, map, length, flat_map, Some, None, refl, sym, ap, ◌∙◌, subst, nat_eq, true≢false, eq-eqb, arith, if◌then◌else◌}
use Rattle.std.proofs.lemmas.Bool.{eqb-true, eqb-false}
use Rattle.mail_model.specs.Identity.{EpochId}
use Rattle.mail_model.specs.Plan.{Plan}
use Rattle.object_model.specs.Lists.{Among}
use Rattle.object_model.specs.Letters.{Member, MapRow, Membership, Letter}
use Rattle.object_model.specs.Letters.Body.{Install}
use Rattle.object_model.proofs.Lists.{among_front, among_behind, among_either}
use Rattle.cluster_model.specs.Cluster.{set_of_members}
use Rattle.cluster_model.specs.Room.{Flight}
use Rattle.maps_model.specs.Cluster as maps
use Rattle.maps_model.specs.Epochs.{IsBefore}
use Rattle.maps_model.specs.Rules as maps_rules
use Rattle.maps_model.specs.Rules.HearsInstall.{Old as OldInstall, NotPromised, NotMember, Enters}
use Rattle.maps_model.proofs.Lists.{same_or_apart}
use Rattle.maps_model.proofs.RoundLaws.{members_enter}
use Rattle.whole_model.specs.Whole.{Slot, slot_at, with_slot}
use Rattle.whole_world.specs.World.{World, slot_up, Reaction, put}
use Rattle.whole_world.specs.Steps.{Said}
use Rattle.whole_world.specs.Steps.Step.{OfMessages, OpenGroup, ConcludeGroup}
use Rattle.whole_world.specs.Steps.Said.{Grouped, Concluded}
use Rattle.whole_world.specs.Steps.StepOutcome.{Says}
use Rattle.whole_world.specs.Makes.{done_for_maps, Forms, MakesStep}
use Rattle.whole_world.specs.Makes.DoesStep.{ForMessages, PostsMaps, Starts, OpensGroup, ConcludesGroup, SendsReports}
use Rattle.whole_world.specs.Laws.{Stands}
use Rattle.whole_world.specs.Regroup.{PostsEach, Round, maps_of_slot, maps_at}
use Rattle.whole_world.proofs.Seeing.{put_slots}
use Rattle.whole_world.proofs.Stepping.{makes_stand}
use Rattle.whole_world.proofs.Viewing.{numbered, AreLight, slot_here, slot_other, Posted, posted}
use Rattle.whole_world.proofs.Viewing.Posted.{NotUp, Reached}
use Rattle.whole_world.proofs.Asking.{numbers_above, install_of}
use Rattle.whole_world.proofs.Rounding.{some_same, none_some, up_view}

pub posts_stand : (plan : Plan) (tells : Bool) (w : World) (number : ℕ) (saids : List Said) (new : World) → PostsEach plan tells w number saids new → Stands plan w → Stands plan new
posts_stand plan tells w number [] new e s = subst (Stands plan) (sym e) s
posts_stand plan tells w number (said ∷ saids) new (mid, made, fine, rest) s = posts_stand plan tells mid (number + 1) saids new rest (makes_stand plan w s tells (OfMessages (Rattle.cluster_model.specs.Steps.Step.Post (number + 1) false)) (Says said) mid made)

pub round_stands : (plan : Plan) (tells : Bool) (old : World) (n : ℕ) (epoch : EpochId) (saids : List Said) (new : World) → Round plan tells old n epoch saids new → Stands plan old → Stands plan new
round_stands plan tells old n epoch saids new r s =
    posts_stand plan tells r.asked r.opened.sent r.answers new r.hears (posts_stand plan tells r.opened old.sent saids r.asked r.asks (makes_stand plan old s tells (OpenGroup n) (Says (Grouped epoch)) r.opened r.opens))

-- a member is found by its number
pub member_found : (joins : List maps.Joined) (m : ℕ) (join : maps.Joined) → Among join joins → join.member.node ≡ m → (member : Member) × (maps.member_of (map (λ j. j.member) joins) m ≡ Some member)
member_found [] m join i e = absurd i
member_found (first ∷ joins) m join i e = by (λ k. member_found joins m join k e) (nat_eq first.member.node m) refl i
  where
    by : (Among join joins → (member : Member) × (maps.member_of (map (λ j. j.member) joins) m ≡ Some member)) → (b : Bool) → nat_eq first.member.node m ≡ b → (first ≡ join) ⊎ Among join joins
        → (member : Member) × ((if b then Some first.member else maps.member_of (map (λ j. j.member) joins) m) ≡ Some member)
    by rest true h k = (first.member, refl)
    by rest false h (inl is) = absurd (true≢false (sym (eq-eqb first.member.node m (ap (λ (j : maps.Joined). j.member.node) is ∙ e)) ∙ h))
    by rest false h (inr k) = rest k

-- one Install is heard by a node that is to enter, or has entered
module _ (g : Membership) where
  abbrev pub IsToEnter : maps.Node → Type 0
  IsToEnter x = (x.installed ≡ Some g) ⊎ ((g.epoch ≡ x.promise) × IsBefore (maps.epoch_of x) g.epoch)

  pub record HasEntered (x y : maps.Node) : Type 0 where
    pub boot : y.boot ≡ x.boot
    pub installed : y.installed ≡ Some g

  pub enters : (r : ℕ) (x : maps.Node) (disk : maps.Disk) (did : maps_rules.Reaction) → maps_rules.HearsInstall r x disk g did → maps.NamesNode g r x.boot → IsToEnter x → HasEntered x did.node × (did.out ≡ [])
  enters r x disk did h names to = (record { boot = boots h; installed = ⊎_elim (λ already. stays h already) (λ ready. members_enter r x disk g did ready.0 ready.1 names h) to }, outs h)
    where
      boots : maps_rules.HearsInstall r x disk g did → did.node.boot ≡ x.boot
      boots (OldInstall w e) = ap (λ (d : maps_rules.Reaction). d.node.boot) e
      boots (NotPromised w e) = ap (λ (d : maps_rules.Reaction). d.node.boot) e
      boots (NotMember w e) = ap (λ (d : maps_rules.Reaction). d.node.boot) e
      boots (Enters a b c marked rows entering e) = ap (λ (d : maps_rules.Reaction). d.node.boot) e

      outs : maps_rules.HearsInstall r x disk g did → did.out ≡ []
      outs (OldInstall w e) = ap (λ (d : maps_rules.Reaction). d.out) e
      outs (NotPromised w e) = ap (λ (d : maps_rules.Reaction). d.out) e
      outs (NotMember w e) = ap (λ (d : maps_rules.Reaction). d.out) e
      outs (Enters a b c marked rows entering e) = ap (λ (d : maps_rules.Reaction). d.out) e

      stays : maps_rules.HearsInstall r x disk g did → x.installed ≡ Some g → did.node.installed ≡ Some g
      stays (OldInstall w e) already = ap (λ (d : maps_rules.Reaction). d.node.installed) e ∙ already
      stays (NotPromised w e) already = ap (λ (d : maps_rules.Reaction). d.node.installed) e ∙ already
      stays (NotMember w e) already = ap (λ (d : maps_rules.Reaction). d.node.installed) e ∙ already
      stays (Enters a b c marked rows entering e) already = ap (λ (d : maps_rules.Reaction). d.node.installed) e

  -- a node that is up and named, and is to enter
  pub record IsReadyAt (w : World) (r : ℕ) : Type 0 where
    pub x : maps.Node
    pub here : maps_at w r ≡ Some x
    pub names : maps.NamesNode g r x.boot
    pub to : IsToEnter x

  pub record KeptAt (w new : World) (q : ℕ) (x : maps.Node) : Type 0 where
    pub y : maps.Node
    pub here : maps_at new q ≡ Some y
    pub boot : y.boot ≡ x.boot
    pub installed : (y.installed ≡ x.installed) ⊎ (y.installed ≡ Some g)

  -- all Installs are posted
  pub record AllEntered (n : ℕ) (letters : List Letter) (w new : World) : Type 0 where
    pub keeps : (q : ℕ) (x : maps.Node) → maps_at w q ≡ Some x → KeptAt w new q x
    pub enters : (r : ℕ) → Among (maps_rules.letter_to n (Install g) r) letters → (y : maps.Node) × (maps_at new r ≡ Some y) × (y.installed ≡ Some g)

  module _ (plan : Plan) (tells : Bool) (n : ℕ) (base : List Flight) where
    pub installs_all : (start : ℕ) (letters : List Letter) (saids : List Said) (w new : World) → ((f : Flight) → Among f base → f.number ≤ start) → w.flying ≡ base ++ numbered start letters
        → ((letter : Letter) → Among letter letters → (r : ℕ) × (letter ≡ maps_rules.letter_to n (Install g) r) × IsReadyAt w r) → length saids ≡ length letters → PostsEach plan tells w start saids new → AllEntered n letters w new
    installs_all start [] [] w new low flying ready size e = record { keeps = λ q x h. record { y = x; here = ap (λ (v : World). maps_at v q) e ∙ h; boot = refl; installed = inl refl }; enters = λ r m. absurd m }
    installs_all start [] (said ∷ saids) w new low flying ready size e = absurd (cc size)
    installs_all start (letter ∷ letters) [] w new low flying ready size e = absurd (cc size)
    installs_all start (letter ∷ letters) (said ∷ saids) w new low flying ready size (mid, made, fine, rest) = by (posted plan tells w mid (start + 1) letter base (numbered (start + 1) letters) flying
        (λ f m e. lower f.number start (low f m) e) (λ f m e. higher f.number start (numbers_above (start + 1) letters f m) e)
        (subst Rattle.whole_world.proofs.Viewing.IsOfRounds (sym first.1) (install_of n first.0 g)) said made fine)
        (λ m f k. installs_all (start + 1) letters saids m new (λ a i. omega (arith, low a i)) f k (sizes size))
      where
        first : (r : ℕ) × (letter ≡ maps_rules.letter_to n (Install g) r) × IsReadyAt w r
        first = ready letter (inl refl)

        to_is : letter.to ≡ first.0
        to_is = ap (λ (l : Letter). l.to) first.1

        lower : (a b : ℕ) → a ≤ b → a ≡ b + 1 → ⊥
        lower a b p e = omega (arith, p, e)

        higher : (a b : ℕ) → b + 1 < a → a ≡ b + 1 → ⊥
        higher a b p e = omega (arith, p, e)

        sizes : suc (length saids) ≡ suc (length letters) → length saids ≡ length letters
        sizes e = cc

        by : Posted w (base ++ numbered (start + 1) letters) letter said mid
            → ((m : World) → m.flying ≡ base ++ numbered (start + 1) letters → ((l : Letter) → Among l letters → (r : ℕ) × (l ≡ maps_rules.letter_to n (Install g) r) × IsReadyAt m r)
            → PostsEach plan tells m (start + 1) saids new → AllEntered n letters m new)
            → AllEntered n (letter ∷ letters) w new
        by (NotUp none says f s views) go = absurd (none_some first.2.x (sym none ∙ ap (maps_at w) to_is ∙ first.2.here))
        by (Reached node disk did at h says now others putting pf ps nf ns) go =
            let x : maps.Node = first.2.x in
            let node_is : node ≡ x = some_same (Some node) node x refl (sym at ∙ ap (maps_at w) to_is ∙ first.2.here) in
            let hears : maps_rules.HearsInstall first.0 x disk g did = subst (λ (k : maps.Node). maps_rules.HearsInstall first.0 k disk g did) node_is (subst (λ (l : Letter). maps_rules.Hears l.to node disk l l.body did) first.1 h) in
            let entered = enters first.0 x disk did hears first.2.names first.2.to in
            let here_now : maps_at mid first.0 ≡ Some did.node = ap (maps_at mid) (sym to_is) ∙ now in
            let elsewhere : (q : ℕ) → q ≢ first.0 → maps_at mid q ≡ maps_at w q = λ q apart. others q (λ e. apart (e ∙ to_is)) in
            let flew : mid.flying ≡ base ++ numbered (start + 1) letters = nf ∙ ap (λ (l : List Letter). (put l putting).flying) entered.1 ∙ pf in
            let more = go mid flew (λ l m. let k = ready l (inr m) in (
              k.0,
              k.1,
              ⊎_elim
                  (λ same. record {
                    x = did.node;
                    here = ap (maps_at mid) same.1 ∙ here_now;
                    names = subst (λ b. maps.NamesNode g k.0 b) (ap (λ (u : maps.Node). u.boot) (some_same (maps_at w first.0) k.2.x x (ap (maps_at w) (sym same.1) ∙ k.2.here) first.2.here) ∙ sym entered.0.boot) k.2.names;
                    to = inl entered.0.installed;
                  })
                  (λ apart. record { x = k.2.x; here = elsewhere k.0 apart.1 ∙ k.2.here; names = k.2.names; to = k.2.to })
                  (same_or_apart k.0 first.0),
            )) rest in
            record {
              keeps = λ q u v. ⊎_elim
                  (λ same. let its : u ≡ x = some_same (maps_at w first.0) u x (ap (maps_at w) (sym same.1) ∙ v) first.2.here in
                  let kept = more.keeps q did.node (ap (maps_at mid) same.1 ∙ here_now) in
                  record { y = kept.y; here = kept.here; boot = kept.boot ∙ entered.0.boot ∙ ap (λ (z : maps.Node). z.boot) (sym its); installed = inr (⊎_elim (λ stood. stood ∙ entered.0.installed) (λ new_one. new_one) kept.installed) })
                  (λ apart. let kept = more.keeps q u (elsewhere q apart.1 ∙ v) in record { y = kept.y; here = kept.here; boot = kept.boot; installed = kept.installed })
                  (same_or_apart q first.0);
              enters = λ r m. ⊎_elim
                  (λ is. let same : first.0 ≡ r = ap (λ (l : Letter). l.to) (sym first.1 ∙ is) in
                  let kept = more.keeps r did.node (ap (maps_at mid) (sym same) ∙ here_now) in
                  (kept.y, kept.here, ⊎_elim (λ stood. stood ∙ entered.0.installed) (λ new_one. new_one) kept.installed))
                  (λ later. more.enters r later) m;
            }

-- a group that is concluded
module _ (plan : Plan) (tells : Bool) (w : World) (n : ℕ) (y : maps.Node) (here : maps_at w n ≡ Some y) (group : maps.OpenGroup) (opened : y.group ≡ Some group) (epoch : EpochId) where
  pub record Formed (formed : World) : Type 0 where
    pub rows : List MapRow
    pub out : List Letter
    pub flying : formed.flying ≡ (put out w).flying
    pub sent : formed.sent ≡ (put out w).sent
    pub now : maps.Node
    pub at : maps_at formed n ≡ Some now
    pub boot : now.boot ≡ y.boot
    pub installed : now.installed ≡ Some (maps_rules.membership_of group rows)
    pub others : (q : ℕ) → q ≢ n → maps_at formed q ≡ maps_at w q
    pub out_is : out ≡ flat_map (λ join. if nat_eq join.member.node n then [] else maps_rules.letter_to n (Install (maps_rules.membership_of group rows)) join.member.node ∷ []) group.joins

  pub concludes_group : (members : ℕ) (formed : World) → MakesStep plan tells w (ConcludeGroup n) (Says (Concluded epoch members)) formed → Formed formed
  concludes_group members formed (fits, ForMessages one step answer says for_mail does follow) = absurd (cc step)
  concludes_group members formed (fits, PostsMaps number keep step h) = absurd (cc step)
  concludes_group members formed (fits, Starts m step h) = absurd (cc step)
  concludes_group members formed (fits, OpensGroup m step g) = absurd (cc step)
  concludes_group members formed (fits, SendsReports from to step h) = absurd (cc step)
  concludes_group members formed (fits, ConcludesGroup m step f) = by (subst (λ k. Forms plan w k (Concluded epoch members) formed) (same m step) f)
    where
      same : (m : ℕ) → ConcludeGroup n ≡ ConcludeGroup m → m ≡ n
      same m e = cc

      by : Forms plan w n (Concluded epoch members) formed → Formed formed
      by f =
          let node_is : f.node.maps ≡ y = some_same (Some f.node.maps) f.node.maps y refl (sym (up_view w n f.node f.disk f.up) ∙ here) in
          let c = f.concludes in
          let groups : c.group ≡ group = some_same y.group c.group group (ap (λ (k : maps.Node). k.group) (sym node_is) ∙ c.opened) opened in
          let now : Reaction = done_for_maps f.node f.disk f.did None f.did.out in
          let written : World = record w { slots = with_slot w.slots n (slot_up now.node now.disk) } in
          let slots : formed.slots ≡ with_slot w.slots n (slot_up now.node now.disk) = ap (λ (v : World). v.slots) f.new_world ∙ put_slots f.did.out written in
          record {
            rows = c.rows;
            out = f.did.out;
            flying = ap (λ (v : World). v.flying) f.new_world ∙ put_flying f.did.out written w refl refl;
            sent = ap (λ (v : World). v.sent) f.new_world ∙ put_sent f.did.out written w refl refl;
            now = f.did.node;
            at = ap maps_of_slot (ap (λ (l : List Slot). slot_at l n) slots ∙ slot_here w.slots n (slot_up f.node f.disk) (slot_up now.node now.disk) f.up);
            boot = ap (λ (d : maps_rules.Reaction). d.node.boot) c.is ∙ ap (λ (k : maps.Node). k.boot) node_is;
            installed = ap (λ (d : maps_rules.Reaction). d.node.installed) c.is ∙ ap (λ (k : maps.OpenGroup). Some (maps_rules.membership_of k c.rows)) groups;
            others = λ q apart. ap maps_of_slot (ap (λ (l : List Slot). slot_at l q) slots ∙ slot_other w.slots n q (slot_up now.node now.disk) apart);
            out_is = ap (λ (d : maps_rules.Reaction). d.out) c.is ∙ ap (λ (k : maps.OpenGroup). flat_map (λ join. if nat_eq join.member.node n then [] else maps_rules.letter_to n (Install (maps_rules.membership_of k c.rows)) join.member.node ∷ []) k.joins) groups;
          }
        where
          -- the slots count for nothing as letters are put in flight
          put_flying : (letters : List Letter) (a b : World) → a.flying ≡ b.flying → a.sent ≡ b.sent → (put letters a).flying ≡ (put letters b).flying
          put_flying [] a b e f = e
          put_flying (l ∷ letters) a b e f = either (λ c d p q. put_flying letters c d p q) (Rattle.cluster_model.specs.Room.has_room a.flying l) (Rattle.cluster_model.specs.Room.has_room b.flying l) (ap (λ (x : List Flight). Rattle.cluster_model.specs.Room.has_room x l) e)
            where
              flown : World → World
              flown v = record v { flying = v.flying ++ record { number = v.sent + 1; letter = l } ∷ []; sent = v.sent + 1 }

              either : ((c d : World) → c.flying ≡ d.flying → c.sent ≡ d.sent → (put letters c).flying ≡ (put letters d).flying) → (s t : Bool) → s ≡ t
                  → (λ (v : World). v.flying) (if s then put letters (flown a) else put letters a) ≡ (λ (v : World). v.flying) (if t then put letters (flown b) else put letters b)
              either rest true true h = rest (flown a) (flown b) (λ i. e i ++ record { number = f i + 1; letter = l } ∷ []) (ap (λ k. k + 1) f)
              either rest false false h = rest a b e f
              either rest true false h = absurd (true≢false h)
              either rest false true h = absurd (true≢false (sym h))

          put_sent : (letters : List Letter) (a b : World) → a.flying ≡ b.flying → a.sent ≡ b.sent → (put letters a).sent ≡ (put letters b).sent
          put_sent [] a b e f = f
          put_sent (l ∷ letters) a b e f = either (λ c d p q. put_sent letters c d p q) (Rattle.cluster_model.specs.Room.has_room a.flying l) (Rattle.cluster_model.specs.Room.has_room b.flying l) (ap (λ (x : List Flight). Rattle.cluster_model.specs.Room.has_room x l) e)
            where
              flown : World → World
              flown v = record v { flying = v.flying ++ record { number = v.sent + 1; letter = l } ∷ []; sent = v.sent + 1 }

              either : ((c d : World) → c.flying ≡ d.flying → c.sent ≡ d.sent → (put letters c).sent ≡ (put letters d).sent) → (s t : Bool) → s ≡ t
                  → (λ (v : World). v.sent) (if s then put letters (flown a) else put letters a) ≡ (λ (v : World). v.sent) (if t then put letters (flown b) else put letters b)
              either rest true true h = rest (flown a) (flown b) (λ i. e i ++ record { number = f i + 1; letter = l } ∷ []) (ap (λ k. k + 1) f)
              either rest false false h = rest a b e f
              either rest true false h = absurd (true≢false h)
              either rest false true h = absurd (true≢false (sym h))

  -- what it told is the epoch of the open group, and the nodes that joined it
  pub concluded_tells : (members : ℕ) (formed : World) → MakesStep plan tells w (ConcludeGroup n) (Says (Concluded epoch members)) formed
      → (epoch ≡ group.epoch) × (members ≡ set_of_members (map (λ join. join.member) group.joins))
  concluded_tells members formed (fits, ForMessages one step answer says for_mail does follow) = absurd (cc step)
  concluded_tells members formed (fits, PostsMaps number keep step h) = absurd (cc step)
  concluded_tells members formed (fits, Starts m step h) = absurd (cc step)
  concluded_tells members formed (fits, OpensGroup m step g) = absurd (cc step)
  concluded_tells members formed (fits, SendsReports from to step h) = absurd (cc step)
  concluded_tells members formed (fits, ConcludesGroup m step f) = by (subst (λ k. Forms plan w k (Concluded epoch members) formed) (same m step) f)
    where
      same : (m : ℕ) → ConcludeGroup n ≡ ConcludeGroup m → m ≡ n
      same m e = cc

      epochs : (a b : EpochId) (s t : ℕ) → Concluded a s ≡ Concluded b t → a ≡ b
      epochs a b s t e = cc

      masks : (a b : EpochId) (s t : ℕ) → Concluded a s ≡ Concluded b t → s ≡ t
      masks a b s t e = cc

      by : Forms plan w n (Concluded epoch members) formed → (epoch ≡ group.epoch) × (members ≡ set_of_members (map (λ join. join.member) group.joins))
      by f =
          let node_is : f.node.maps ≡ y = some_same (Some f.node.maps) f.node.maps y refl (sym (up_view w n f.node f.disk f.up) ∙ here) in
          let c = f.concludes in
          let groups : c.group ≡ group = some_same y.group c.group group (ap (λ (k : maps.Node). k.group) (sym node_is) ∙ c.opened) opened in
          let told : ℕ = set_of_members (map (λ join. join.member) c.group.joins) in (
            epochs epoch c.group.epoch members told f.said_is ∙ ap (λ (k : maps.OpenGroup). k.epoch) groups,
            masks epoch c.group.epoch members told f.said_is ∙ ap (λ (k : maps.OpenGroup). set_of_members (map (λ join. join.member) k.joins)) groups,
          )

-- the Installs of these joins
module _ (n : ℕ) (g : Membership) where
  abbrev pub install_to : maps.Joined → List Letter
  install_to join = if nat_eq join.member.node n then [] else maps_rules.letter_to n (Install g) join.member.node ∷ []

  pub installs_few : (joins : List maps.Joined) → length (flat_map install_to joins) ≤ length joins
  installs_few [] = omega arith
  installs_few (join ∷ joins) = by (installs_few joins) (nat_eq join.member.node n)
    where
      by : length (flat_map install_to joins) ≤ length joins → (b : Bool) → length ((if b then [] else maps_rules.letter_to n (Install g) join.member.node ∷ []) ++ flat_map install_to joins) ≤ suc (length joins)
      by rest true = omega (arith, rest)
      by rest false = omega (arith, rest)

  pub installs_light : (joins : List maps.Joined) → AreLight (flat_map install_to joins)
  installs_light joins l m = let f = installs_from joins l m in subst (λ (k : Letter). Rattle.cluster_model.specs.Room.message_octets k.body ≡ 0) (sym f.2) refl
    where
      installs_from : (joins : List maps.Joined) (l : Letter) → Among l (flat_map install_to joins) → (join : maps.Joined) × Among join joins × (l ≡ maps_rules.letter_to n (Install g) join.member.node)
      installs_from [] l m = absurd m
      installs_from (join ∷ joins) l m = ⊎_elim
          (λ first. by (nat_eq join.member.node n) first)
          (λ later. let k = installs_from joins l later in (k.0, inr k.1, k.2))
          (among_either l (install_to join) (flat_map install_to joins) m)
        where
          by : (b : Bool) → Among l (if b then [] else maps_rules.letter_to n (Install g) join.member.node ∷ []) → (one : maps.Joined) × Among one (join ∷ joins) × (l ≡ maps_rules.letter_to n (Install g) one.member.node)
          by true i = absurd i
          by false i = ⊎_elim (λ e. (join, inl refl, sym e)) (λ none. absurd none) i

  pub installs_of : (joins : List maps.Joined) (l : Letter) → Among l (flat_map install_to joins) → (join : maps.Joined) × Among join joins × (l ≡ maps_rules.letter_to n (Install g) join.member.node) × (join.member.node ≢ n)
  installs_of [] l m = absurd m
  installs_of (join ∷ joins) l m = ⊎_elim
      (λ first. by (nat_eq join.member.node n) refl first)
      (λ later. let k = installs_of joins l later in (k.0, inr k.1, k.2, k.3))
      (among_either l (install_to join) (flat_map install_to joins) m)
    where
      by : (b : Bool) → nat_eq join.member.node n ≡ b → Among l (if b then [] else maps_rules.letter_to n (Install g) join.member.node ∷ []) → (one : maps.Joined) × Among one (join ∷ joins) × (l ≡ maps_rules.letter_to n (Install g) one.member.node) × (one.member.node ≢ n)
      by true h i = absurd i
      by false h i = ⊎_elim (λ e. (join, inl refl, sym e, eqb-false join.member.node n h)) (λ none. absurd none) i

  pub installs_to : (joins : List maps.Joined) (join : maps.Joined) → Among join joins → join.member.node ≢ n → Among (maps_rules.letter_to n (Install g) join.member.node) (flat_map install_to joins)
  installs_to [] join m apart = absurd m
  installs_to (first ∷ joins) join m apart = ⊎_elim
      (λ is. among_front (maps_rules.letter_to n (Install g) join.member.node) (install_to first) (flat_map install_to joins) (by (nat_eq first.member.node n) refl is))
      (λ later. among_behind (maps_rules.letter_to n (Install g) join.member.node) (install_to first) (flat_map install_to joins) (installs_to joins join later apart))
      m
    where
      by : (b : Bool) → nat_eq first.member.node n ≡ b → first ≡ join → Among (maps_rules.letter_to n (Install g) join.member.node) (if b then [] else maps_rules.letter_to n (Install g) first.member.node ∷ [])
      by true h is = absurd (apart (ap (λ (j : maps.Joined). j.member.node) (sym is) ∙ eqb-true first.member.node n h))
      by false h is = inl (ap (λ (j : maps.Joined). maps_rules.letter_to n (Install g) j.member.node) is)

-- The second half of a round: the node hears all Joins that answer it.
use Rattle.std.proofs.Common.{◌≡◌, ◌≢◌, ◌⊎◌, inl, inr, ⊎_elim, ℕ, suc, ◌+◌, ◌≤◌, ◌<◌, max, Bool, true, false, List, [], ◌∷◌, ◌++◌, append-nil, length, Option, Some, None, refl, sym, ap, ◌∙◌, subst, nat_lt, arith, if◌then◌else◌}
use Rattle.std.proofs.lemmas.Bool.{ltb-true, ltb-false}
use Rattle.mail_model.specs.Identity.{EpochId, no_epoch}
use Rattle.mail_model.specs.Plan.{Plan}
use Rattle.object_model.specs.Lists.{Among}
use Rattle.object_model.specs.Letters.{Claim, Letter}
use Rattle.object_model.specs.Letters.Body.{Join}
use Rattle.object_model.proofs.Lists.{among_front, among_behind, among_either}
use Rattle.cluster_model.specs.Room.{Flight}
use Rattle.maps_model.specs.Cluster as maps
use Rattle.maps_model.specs.Epochs.{IsBefore, IsAtMost}
use Rattle.maps_model.specs.Rules as maps_rules
use Rattle.maps_model.specs.Rules.HearsJoin.{Late, Above, Joins}
use Rattle.maps_model.specs.RoundLaws.{HasJoinOf}
use Rattle.maps_model.proofs.Joining.{join_among}
use Rattle.maps_model.proofs.Order.{before_not_most}
use Rattle.whole_world.specs.World.{World, put}
use Rattle.whole_world.specs.Steps.{Said}
use Rattle.whole_world.specs.Regroup.{PostsEach, ThrownOld, maps_at}
use Rattle.whole_world.proofs.Viewing.{numbered, Posted, posted}
use Rattle.whole_world.proofs.Viewing.Posted.{NotUp, Reached}
use Rattle.whole_world.proofs.Asking.{Views, numbers_above, join_of, Answered, Asks}
use Rattle.whole_world.proofs.Asking.Answered.{Silent, Promises, TooOld}
use Rattle.whole_world.proofs.Asking.Asks.{NoneLeft, AsksOne}

-- a join of a node stays among the joins, or one of a later boot takes its place
pub join_stays : (new : maps.Joined) (olds : List maps.Joined) (m boot : ℕ) → HasJoinOf olds m boot → HasJoinOf (maps_rules.with_join new olds) m boot
join_stays new [] m boot h = absurd h.inside
join_stays new (old ∷ olds) m boot h = by (λ k. join_stays new olds m boot k) (nat_lt new.member.node old.member.node) (nat_lt old.member.node new.member.node) (nat_lt old.member.boot new.member.boot) refl refl refl h.inside
  where
    here : (join : maps.Joined) (joins : List maps.Joined) → Among join joins → join.member.node ≡ m → boot ≤ join.member.boot → HasJoinOf joins m boot
    here join joins i s n = record { join = join; inside = i; same = s; not_below = n }

    further : (x : maps.Joined) (joins : List maps.Joined) → HasJoinOf joins m boot → HasJoinOf (x ∷ joins) m boot
    further x joins k = record { join = k.join; inside = inr k.inside; same = k.same; not_below = k.not_below }

    by : (HasJoinOf olds m boot → HasJoinOf (maps_rules.with_join new olds) m boot) → (a b c : Bool) → nat_lt new.member.node old.member.node ≡ a → nat_lt old.member.node new.member.node ≡ b → nat_lt old.member.boot new.member.boot ≡ c
        → Among h.join (old ∷ olds) → HasJoinOf (if a then new ∷ old ∷ olds else if b then old ∷ maps_rules.with_join new olds else if c then new ∷ olds else old ∷ olds) m boot
    by rest true b c e f g i = here h.join (new ∷ old ∷ olds) (inr i) h.same h.not_below
    by rest false true c e f g (inl is) = here h.join (old ∷ maps_rules.with_join new olds) (inl is) h.same h.not_below
    by rest false true c e f g (inr i) = further old (maps_rules.with_join new olds) (rest (here h.join olds i h.same h.not_below))
    by rest false false true e f g (inl is) =
        let nodes : old.member.node ≡ m = ap (λ (j : maps.Joined). j.member.node) is ∙ h.same in
        here new (new ∷ olds) (inl refl) (same_node new.member.node old.member.node m (ltb-false new.member.node old.member.node e) (ltb-false old.member.node new.member.node f) nodes)
        (above boot h.join.member.boot old.member.boot new.member.boot h.not_below (ap (λ (j : maps.Joined). j.member.boot) is) (ltb-true old.member.boot new.member.boot g))
      where
        same_node : (a b m : ℕ) → b ≤ a → a ≤ b → b ≡ m → a ≡ m
        same_node a b m p q e = omega (arith, p, q, e)

        above : (boot was old new : ℕ) → boot ≤ was → old ≡ was → old < new → boot ≤ new
        above boot was old new p e q = omega (arith, p, e, q)
    by rest false false true e f g (inr i) = here h.join (new ∷ olds) (inr i) h.same h.not_below
    by rest false false false e f g i = here h.join (old ∷ olds) i h.same h.not_below

-- a join that is added is among them
pub join_added : (new : maps.Joined) (olds : List maps.Joined) → HasJoinOf (maps_rules.with_join new olds) new.member.node new.member.boot
join_added new [] = record { join = new; inside = inl refl; same = refl; not_below = omega arith }
join_added new (old ∷ olds) =
    by (nat_lt new.member.node old.member.node) (nat_lt old.member.node new.member.node) (nat_lt old.member.boot new.member.boot) (join_added new olds) refl refl refl
  where
    by : (a b c : Bool) → HasJoinOf (maps_rules.with_join new olds) new.member.node new.member.boot → nat_lt new.member.node old.member.node ≡ a → nat_lt old.member.node new.member.node ≡ b → nat_lt old.member.boot new.member.boot ≡ c
        → HasJoinOf (if a then new ∷ old ∷ olds else if b then old ∷ maps_rules.with_join new olds else if c then new ∷ olds else old ∷ olds) new.member.node new.member.boot
    by true b c rest e f g = record { join = new; inside = inl refl; same = refl; not_below = omega arith }
    by false true c rest e f g = record { join = rest.join; inside = inr rest.inside; same = rest.same; not_below = rest.not_below }
    by false false true rest e f g = record { join = new; inside = inl refl; same = refl; not_below = omega arith }
    by false false false rest e f g = record {
      join = old;
      inside = inl refl;
      same = omega (arith, ltb-false new.member.node old.member.node e, ltb-false old.member.node new.member.node f);
      not_below = ltb-false old.member.boot new.member.boot g;
    }

-- it is one more at most
pub join_size : (new : maps.Joined) (olds : List maps.Joined) → length (maps_rules.with_join new olds) ≤ length olds + 1
join_size new [] = omega arith
join_size new (old ∷ olds) = by (join_size new olds) (nat_lt new.member.node old.member.node) (nat_lt old.member.node new.member.node) (nat_lt old.member.boot new.member.boot)
  where
    two : (k : ℕ) → suc (suc k) ≤ suc k + 1
    two k = omega arith

    by : length (maps_rules.with_join new olds) ≤ length olds + 1 → (a b c : Bool) → length (if a then new ∷ old ∷ olds else if b then old ∷ maps_rules.with_join new olds else if c then new ∷ olds else old ∷ olds) ≤ suc (length olds) + 1
    by rest true b c = two (length olds)
    by rest false true c = more (length (maps_rules.with_join new olds)) (length olds) rest
      where
        more : (a b : ℕ) → a ≤ b + 1 → suc a ≤ suc b + 1
        more a b h = omega (arith, h)
    by rest false false true = same (length olds)
      where
        same : (k : ℕ) → suc k ≤ suc k + 1
        same k = omega arith
    by rest false false false = same (length olds)
      where
        same : (k : ℕ) → suc k ≤ suc k + 1
        same k = omega arith

one_more : (k : ℕ) → k ≤ k + 1
one_more k = omega arith

none_more : (k : ℕ) → k ≤ k + 0
none_more k = omega arith

module _ (n : ℕ) (epoch : EpochId) where
  -- a letter that joins the group, in that boot and under that promise
  pub record IsJoinTo (letter : Letter) (r : ℕ) (promise : EpochId) (boot : ℕ) : Type 0 where
    pub was : EpochId
    pub claims : List Claim
    pub is : letter ≡ maps_rules.letter_to r (Join epoch promise boot was claims) n

  pub record IsSomeJoin (letter : Letter) : Type 0 where
    pub r : ℕ
    pub promise : EpochId
    pub boot : ℕ
    pub join : IsJoinTo letter r promise boot

  -- what the node has of its group once it heard these letters
  pub record Gathered (x y : maps.Node) (letters : List Letter) : Type 0 where
    pub boot : y.boot ≡ x.boot
    pub installed : y.installed ≡ x.installed
    pub promise : y.promise ≡ x.promise
    pub heard : x.heard ≤ y.heard
    pub group : maps.OpenGroup
    pub opened : y.group ≡ Some group
    pub same : group.epoch ≡ epoch
    pub stays : (before : maps.OpenGroup) → x.group ≡ Some before → (m b : ℕ) → HasJoinOf before.joins m b → HasJoinOf group.joins m b
    pub adds : (letter : Letter) → Among letter letters → (r : ℕ) (p : EpochId) (b : ℕ) → IsJoinTo letter r p b → IsAtMost p epoch → HasJoinOf group.joins r b
    pub hears : (letter : Letter) → Among letter letters → (r : ℕ) (p : EpochId) (b : ℕ) → IsJoinTo letter r p b → IsBefore epoch p → p.count ≤ y.heard
    pub size : (before : maps.OpenGroup) → x.group ≡ Some before → length group.joins ≤ length before.joins + length letters
    pub from : (before : maps.OpenGroup) → x.group ≡ Some before → (join : maps.Joined) → Among join group.joins → Among join before.joins
        ⊎ ((letter : Letter) × Among letter letters × ((p : EpochId) × IsJoinTo letter join.member.node p join.member.boot))

  pub record GatheredAll (base : List Flight) (letters : List Letter) (x : maps.Node) (new : World) (w : World) : Type 0 where
    pub y : maps.Node
    pub here : maps_at new n ≡ Some y
    pub gathered : Gathered x y letters
    pub others : (q : ℕ) → q ≢ n → maps_at new q ≡ maps_at w q
    pub flying : new.flying ≡ base
    pub sent : new.sent ≡ w.sent

  some_same : {X : Type 0} (a b : X) → Some a ≡ Some b → a ≡ b
  some_same a b e = cc

  -- the parts of a join letter
  pub parts : (letter : Letter) (r s : ℕ) (p q : EpochId) (b c : ℕ) → IsJoinTo letter r p b → IsJoinTo letter s q c → (r ≡ s) × (p ≡ q) × (b ≡ c)
  parts letter r s p q b c i j =
      let e : maps_rules.letter_to r (Join epoch p b i.was i.claims) n ≡ maps_rules.letter_to s (Join epoch q c j.was j.claims) n = sym i.is ∙ j.is in
      let bodies : Join epoch p b i.was i.claims ≡ Join epoch q c j.was j.claims = ap (λ (l : Letter). l.body) e in
      (ap (λ (l : Letter). l.from) e, promises bodies, boots bodies)
    where
      promises : Join epoch p b i.was i.claims ≡ Join epoch q c j.was j.claims → p ≡ q
      promises h = cc

      boots : Join epoch p b i.was i.claims ≡ Join epoch q c j.was j.claims → b ≡ c
      boots h = cc

  -- one Join is heard
  pub hears_one : (x : maps.Node) (group : maps.OpenGroup) → x.group ≡ Some group → group.epoch ≡ epoch → (disk : maps.Disk) (letter : Letter) (r : ℕ) (p : EpochId) (b : ℕ) (j : IsJoinTo letter r p b) (did : maps_rules.Reaction)
      → maps_rules.HearsJoin x disk r epoch p b j.was j.claims did → Gathered x did.node (letter ∷ []) × (did.out ≡ [])
  hears_one x group opened same disk letter r p b j did (Late none e) = absurd (none group opened same)
  hears_one x group opened same disk letter r p b j did (Above other at s above e) = (
    subst (λ (d : maps_rules.Reaction). Gathered x d.node (letter ∷ [])) (sym e) (record {
      boot = refl;
      installed = refl;
      promise = refl;
      heard = omega arith;
      group = group;
      opened = opened;
      same = same;
      stays = λ before h m c k. subst (λ (g : maps.OpenGroup). HasJoinOf g.joins m c) (some_same before group (sym h ∙ opened)) k;
      adds = λ l m s q c i most. ⊎_elim
          (λ is. let q_is = parts letter r s p q b c j (subst (λ (k : Letter). IsJoinTo k s q c) (sym is) i) in
          absurd (before_not_most epoch q (subst (IsBefore epoch) q_is.1 above) most))
          (λ none. absurd none) m;
      hears = λ l m s q c i below. ⊎_elim
          (λ is. let q_is = parts letter r s p q b c j (subst (λ (k : Letter). IsJoinTo k s q c) (sym is) i) in
          subst (λ (k : EpochId). k.count ≤ max x.heard p.count) q_is.1 (omega arith))
          (λ none. absurd none) m;
      size = λ before h. subst (λ (g : maps.OpenGroup). length group.joins ≤ length g.joins + 1) (some_same group before (sym opened ∙ h)) (one_more (length group.joins));
      from = λ before h join m. inl (subst (λ (g : maps.OpenGroup). Among join g.joins) (some_same group before (sym opened ∙ h)) m);
    }),
    ap (λ (d : maps_rules.Reaction). d.out) e,
  )
  hears_one x group opened same disk letter r p b j did (Joins other at s most e) =
      let new : maps.Joined = record { member = record { node = r; boot = b; was = j.was }; claims = j.claims } in (
        subst (λ (d : maps_rules.Reaction). Gathered x d.node (letter ∷ [])) (sym e) (record {
          boot = refl;
          installed = refl;
          promise = refl;
          heard = omega arith;
          group = record other { joins = maps_rules.with_join new other.joins };
          opened = refl;
          same = s;
          stays = λ before h m c k. join_stays new other.joins m c (subst (λ (g : maps.OpenGroup). HasJoinOf g.joins m c) (some_same before other (sym h ∙ at)) k);
          adds = λ l m t q c i upto. ⊎_elim
              (λ is. let q_is = parts letter r t p q b c j (subst (λ (k : Letter). IsJoinTo k t q c) (sym is) i) in
              subst (λ k. HasJoinOf (maps_rules.with_join new other.joins) k c) q_is.0 (subst (λ k. HasJoinOf (maps_rules.with_join new other.joins) r k) q_is.2 (join_added new other.joins)))
              (λ none. absurd none) m;
          hears = λ l m t q c i below. ⊎_elim
              (λ is. let q_is = parts letter r t p q b c j (subst (λ (k : Letter). IsJoinTo k t q c) (sym is) i) in
              absurd (before_not_most epoch q below (subst (λ k. IsAtMost k epoch) q_is.1 most)))
              (λ none. absurd none) m;
          size = λ before h. subst (λ (g : maps.OpenGroup). length (maps_rules.with_join new other.joins) ≤ length g.joins + 1) (some_same other before (sym at ∙ h)) (join_size new other.joins);
          from = λ before h join m. ⊎_elim
              (λ is. inr (letter, inl refl, (p, subst (λ (k : maps.Joined). IsJoinTo letter k.member.node p k.member.boot) is (record { was = j.was; claims = j.claims; is = j.is }))))
              (λ old. inl (subst (λ (g : maps.OpenGroup). Among join g.joins) (some_same other before (sym at ∙ h)) old))
              (join_among join new other.joins m);
        }),
        ap (λ (d : maps_rules.Reaction). d.out) e,
      )

  none_gathered : (x : maps.Node) (group : maps.OpenGroup) → x.group ≡ Some group → group.epoch ≡ epoch → Gathered x x []
  none_gathered x group opened same = record {
    boot = refl;
    installed = refl;
    promise = refl;
    heard = omega arith;
    group = group;
    opened = opened;
    same = same;
    stays = λ before h m b k. subst (λ (g : maps.OpenGroup). HasJoinOf g.joins m b) (some_same before group (sym h ∙ opened)) k;
    adds = λ l m. absurd m;
    hears = λ l m. absurd m;
    size = λ before h. subst (λ (g : maps.OpenGroup). length group.joins ≤ length g.joins + 0) (some_same group before (sym opened ∙ h)) (none_more (length group.joins));
    from = λ before h join m. inl (subst (λ (g : maps.OpenGroup). Among join g.joins) (some_same group before (sym opened ∙ h)) m);
  }

  more_gathered : (x y z : maps.Node) (letter : Letter) (letters : List Letter) → Gathered x y (letter ∷ []) → Gathered y z letters → Gathered x z (letter ∷ letters)
  more_gathered x y z letter letters f g = record {
    boot = g.boot ∙ f.boot;
    installed = g.installed ∙ f.installed;
    promise = g.promise ∙ f.promise;
    heard = omega (arith, f.heard, g.heard);
    group = g.group;
    opened = g.opened;
    same = g.same;
    stays = λ before h m b k. g.stays f.group f.opened m b (f.stays before h m b k);
    adds = λ l m r p b i most. ⊎_elim
        (λ is. g.stays f.group f.opened r b (f.adds letter (inl refl) r p b (subst (λ (k : Letter). IsJoinTo k r p b) (sym is) i) most))
        (λ more. g.adds l more r p b i most) m;
    hears = λ l m r p b i below. ⊎_elim
        (λ is. omega (arith, f.hears letter (inl refl) r p b (subst (λ (k : Letter). IsJoinTo k r p b) (sym is) i) below, g.heard))
        (λ more. g.hears l more r p b i below) m;
    size = λ before h. omega (arith, f.size before h, g.size f.group f.opened);
    from = λ before h join m. ⊎_elim
        (λ old. ⊎_elim (λ first. inl first) (λ (l, k, i). inr (l, ⊎_elim (λ is. inl is) (λ none. absurd none) k, i)) (f.from before h join old))
        (λ (l, k, i). inr (l, inr k, i))
        (g.from f.group f.opened join m);
  }

  -- and all of them
  module _ (plan : Plan) (tells : Bool) (base : List Flight) where
    pub gathers_all : (start : ℕ) (letters : List Letter) (saids : List Said) (x : maps.Node) (group : maps.OpenGroup) (w new : World) → ((f : Flight) → Among f base → f.number ≤ start)
        → ((letter : Letter) → Among letter letters → IsSomeJoin letter) → w.flying ≡ base ++ numbered start letters → maps_at w n ≡ Some x → x.group ≡ Some group → group.epoch ≡ epoch
        → length saids ≡ length letters → PostsEach plan tells w start saids new → GatheredAll base letters x new w
    gathers_all start [] [] x group w new low joins flying here opened same size e = record {
      y = x;
      here = ap (λ (v : World). maps_at v n) e ∙ here;
      gathered = none_gathered x group opened same;
      others = λ q apart. ap (λ (v : World). maps_at v q) e;
      flying = ap (λ (v : World). v.flying) e ∙ flying ∙ append-nil base;
      sent = ap (λ (v : World). v.sent) e;
    }
    gathers_all start [] (said ∷ saids) x group w new low joins flying here opened same size e = absurd (cc size)
    gathers_all start (letter ∷ letters) [] x group w new low joins flying here opened same size e = absurd (cc size)
    gathers_all start (letter ∷ letters) (said ∷ saids) x group w new low joins flying here opened same size (mid, made, fine, rest) = by (posted plan tells w mid (start + 1) letter base (numbered (start + 1) letters) flying
        (λ f m e. lower f.number start (low f m) e) (λ f m e. higher f.number start (numbers_above (start + 1) letters f m) e)
        (subst Rattle.whole_world.proofs.Viewing.IsOfRounds (sym first.join.is) (join_of first.r n epoch first.promise first.boot first.join.was first.join.claims)) said made fine)
        (λ y g m f at o s. gathers_all (start + 1) letters saids y g m new (λ k i. omega (arith, low k i)) (λ l i. joins l (inr i)) f at o s (sizes size))
      where
        first : IsSomeJoin letter
        first = joins letter (inl refl)

        to_is : letter.to ≡ n
        to_is = ap (λ (l : Letter). l.to) first.join.is

        lower : (a b : ℕ) → a ≤ b → a ≡ b + 1 → ⊥
        lower a b p e = omega (arith, p, e)

        higher : (a b : ℕ) → b + 1 < a → a ≡ b + 1 → ⊥
        higher a b p e = omega (arith, p, e)

        sizes : suc (length saids) ≡ suc (length letters) → length saids ≡ length letters
        sizes e = cc

        none_some : (y : maps.Node) → None ≡ Some y → ⊥
        none_some y e = cc

        by : Posted w (base ++ numbered (start + 1) letters) letter said mid
            → ((y : maps.Node) (g : maps.OpenGroup) (m : World) → m.flying ≡ base ++ numbered (start + 1) letters → maps_at m n ≡ Some y → y.group ≡ Some g → g.epoch ≡ epoch
            → PostsEach plan tells m (start + 1) saids new → GatheredAll base letters y new m)
            → GatheredAll base (letter ∷ letters) x new w
        by (NotUp none says f s views) go = absurd (none_some x (sym none ∙ ap (maps_at w) to_is ∙ here))
        by (Reached node disk did at h says now others putting pf ps nf ns) go =
            let node_is : node ≡ x = some_same node x (sym at ∙ ap (maps_at w) to_is ∙ here) in
            let hears : maps_rules.HearsJoin x disk first.r epoch first.promise first.boot first.join.was first.join.claims did =
            subst (λ (k : maps.Node). maps_rules.HearsJoin k disk first.r epoch first.promise first.boot first.join.was first.join.claims did) node_is
            (subst (λ (l : Letter). maps_rules.Hears l.to node disk l l.body did) first.join.is h) in
            let one = hears_one x group opened same disk letter first.r first.promise first.boot first.join did hears in
            let flew : mid.flying ≡ base ++ numbered (start + 1) letters = nf ∙ ap (λ (l : List Letter). (put l putting).flying) one.1 ∙ pf in
            let more = go did.node one.0.group mid flew (ap (maps_at mid) (sym to_is) ∙ now) one.0.opened one.0.same rest in
            record {
              y = more.y;
              here = more.here;
              gathered = more_gathered x did.node more.y letter letters one.0 more.gathered;
              others = λ q apart. more.others q apart ∙ others q (λ e. apart (e ∙ to_is));
              flying = more.flying;
              sent = more.sent ∙ ns ∙ ap (λ (l : List Letter). (put l putting).sent) one.1 ∙ ps;
            }

  -- What the asking came to.
  -- each letter is a Join of a node that was up, in its boot
  pub asked_joins : (v w : Views) (rs : List ℕ) (saids : List Said) (letters : List Letter) → Asks n epoch v rs saids w letters → (letter : Letter) → Among letter letters
      → (r : ℕ) × (x : maps.Node) × (v r ≡ Some x) × ((p : EpochId) × IsJoinTo letter r p x.boot)
  asked_joins v w rs saids letters (NoneLeft _ _ same) letter m = absurd m
  asked_joins v w (r ∷ rs) (said ∷ saids) letters (AsksOne _ mid _ _ _ _ _ answer more answered others rest) letter m = ⊎_elim
      (λ first. of_answer answered first)
      (λ later. let k = asked_joins mid w rs saids more rest letter later in back k.0 k.1 k.2 k.3)
      (among_either letter answer more m)
    where
      one : (l : Letter) → answer ≡ l ∷ [] → Among letter answer → l ≡ letter
      one l e i = ⊎_elim (λ h. h) (λ none. absurd none) (subst (Among letter) e i)

      of_answer : Answered n epoch r (v r) (mid r) answer said → Among letter answer → (q : ℕ) × (x : maps.Node) × (v q ≡ Some x) × ((p : EpochId) × IsJoinTo letter q p x.boot)
      of_answer (Silent a b e) i = absurd (subst (Among letter) e i)
      of_answer (Promises x y a b c d f g was claims e) i = (r, x, a, (epoch, record { was = was; claims = claims; is = sym (one _ e i) }))
      of_answer (TooOld x a b c d e) i = (r, x, a, (x.promise, record { was = no_epoch; claims = []; is = sym (one _ e i) }))

      -- a node that was up in between was up before, in the same boot
      back : (q : ℕ) (x : maps.Node) → mid q ≡ Some x → ((p : EpochId) × IsJoinTo letter q p x.boot) → (s : ℕ) × (y : maps.Node) × (v s ≡ Some y) × ((p : EpochId) × IsJoinTo letter s p y.boot)
      back q x at j = ⊎_elim
          (λ same. of_same answered (subst (λ k. mid k ≡ Some x) same.1 at) (subst (λ k. (p : EpochId) × IsJoinTo letter k p x.boot) same.1 j))
          (λ apart. (q, x, sym (others q apart.1) ∙ at, j))
          (Rattle.maps_model.proofs.Lists.same_or_apart q r)
        where
          of_same : Answered n epoch r (v r) (mid r) answer said → mid r ≡ Some x → ((p : EpochId) × IsJoinTo letter r p x.boot) → (s : ℕ) × (y : maps.Node) × (v s ≡ Some y) × ((p : EpochId) × IsJoinTo letter s p y.boot)
          of_same (Silent a b e) h k = absurd (none_some x (sym b ∙ h))
            where
              none_some : (y : maps.Node) → None ≡ Some y → ⊥
              none_some y e = cc
          of_same (Promises y z a b c d f g was claims e) h k = (r, y, a, subst (λ t. (p : EpochId) × IsJoinTo letter r p t) (ap (λ (t : maps.Node). t.boot) (some_same x z (sym h ∙ b)) ∙ c) k)
          of_same (TooOld y a b c d e) h k = (r, y, a, subst (λ t. (p : EpochId) × IsJoinTo letter r p t) (ap (λ (t : maps.Node). t.boot) (some_same x y (sym h ∙ b))) k)

  -- who was up is up, in its boot and its epoch, and its promise rose to this epoch at most
  pub record StaysUp (x y : maps.Node) : Type 0 where
    pub boot : y.boot ≡ x.boot
    pub installed : y.installed ≡ x.installed
    pub promise : (y.promise ≡ x.promise) ⊎ ((y.promise ≡ epoch) × IsAtMost x.promise epoch)

  stays_on : (x y z : maps.Node) → StaysUp x y → StaysUp y z → StaysUp x z
  stays_on x y z f g = record {
    boot = g.boot ∙ f.boot;
    installed = g.installed ∙ f.installed;
    promise = ⊎_elim
        (λ same. ⊎_elim (λ first. inl (same ∙ first)) (λ rose. inr (same ∙ rose.0, rose.1)) f.promise)
        (λ rose. inr (rose.0, ⊎_elim (λ first. subst (λ p. IsAtMost p epoch) first rose.1) (λ up. up.1) f.promise))
        g.promise;
  }

  answered_stays : (r : ℕ) (before after : Option maps.Node) (answer : List Letter) (said : Said) → Answered n epoch r before after answer said → (x : maps.Node) → before ≡ Some x
      → (y : maps.Node) × (after ≡ Some y) × StaysUp x y
  answered_stays r before after answer said (Silent a b e) x h = absurd (none_some x (sym a ∙ h))
    where
      none_some : (y : maps.Node) → None ≡ Some y → ⊥
      none_some y e = cc
  answered_stays r before after answer said (Promises x y a b c d f g was claims e) z h =
      let same : x ≡ z = some_same x z (sym a ∙ h) in (y, b, subst (λ (k : maps.Node). StaysUp k y) same (record { boot = c; installed = d; promise = inr (f, g) }))
  answered_stays r before after answer said (TooOld x a b c d e) z h =
      let same : x ≡ z = some_same x z (sym a ∙ h) in (x, b, subst (λ (k : maps.Node). StaysUp k x) same (record { boot = refl; installed = refl; promise = inl refl }))

  pub asked_stays : (v w : Views) (rs : List ℕ) (saids : List Said) (letters : List Letter) → Asks n epoch v rs saids w letters → (q : ℕ) (x : maps.Node) → v q ≡ Some x → (y : maps.Node) × (w q ≡ Some y) × StaysUp x y
  asked_stays v w rs saids letters (NoneLeft _ _ same) q x h = (x, same q ∙ h, record { boot = refl; installed = refl; promise = inl refl })
  asked_stays v w (r ∷ rs) (said ∷ saids) letters (AsksOne _ mid _ _ _ _ _ answer more answered others rest) q x h = ⊎_elim
      (λ same. let a = answered_stays r (v r) (mid r) answer said answered x (subst (λ k. v k ≡ Some x) same.1 h) in
      let b = asked_stays mid w rs saids more rest q a.0 (subst (λ k. mid k ≡ Some a.0) (sym same.1) a.1) in (b.0, b.1, stays_on x a.0 b.0 a.2 b.2))
      (λ apart. asked_stays mid w rs saids more rest q x (others q apart.1 ∙ h))
      (Rattle.maps_model.proofs.Lists.same_or_apart q r)

  -- who was not up is not up
  pub asked_downs : (v w : Views) (rs : List ℕ) (saids : List Said) (letters : List Letter) → Asks n epoch v rs saids w letters → (q : ℕ) → v q ≡ None → w q ≡ None
  asked_downs v w rs saids letters (NoneLeft _ _ same) q h = same q ∙ h
  asked_downs v w (r ∷ rs) (said ∷ saids) letters (AsksOne _ mid _ _ _ _ _ answer more answered others rest) q h = ⊎_elim
      (λ same. asked_downs mid w rs saids more rest q (subst (λ k. mid k ≡ None) (sym same.1) (of_same answered (subst (λ k. v k ≡ None) same.1 h))))
      (λ apart. asked_downs mid w rs saids more rest q (others q apart.1 ∙ h))
      (Rattle.maps_model.proofs.Lists.same_or_apart q r)
    where
      none_some : (y : maps.Node) → None ≡ Some y → ⊥
      none_some y e = cc

      of_same : Answered n epoch r (v r) (mid r) answer said → v r ≡ None → mid r ≡ None
      of_same (Silent a b e) k = b
      of_same (Promises x y a b c d f g was claims e) k = absurd (none_some x (sym k ∙ a))
      of_same (TooOld x a b c d e) k = absurd (none_some x (sym k ∙ a))

  -- who is not asked stays as it is
  pub asked_others : (v w : Views) (rs : List ℕ) (saids : List Said) (letters : List Letter) → Asks n epoch v rs saids w letters → (q : ℕ) → (Among q rs → ⊥) → w q ≡ v q
  asked_others v w rs saids letters (NoneLeft _ _ same) q none = same q
  asked_others v w (r ∷ rs) (said ∷ saids) letters (AsksOne _ mid _ _ _ _ _ answer more answered others rest) q none =
      asked_others mid w rs saids more rest q (λ m. none (inr m)) ∙ others q (λ e. none (inl (sym e)))

  -- each node that was asked and was up has answered, and has promised the epoch or a later one
  pub asked_answers : (v w : Views) (rs : List ℕ) (saids : List Said) (letters : List Letter) → Asks n epoch v rs saids w letters → (q : ℕ) (x : maps.Node) → Among q rs → v q ≡ Some x
      → (letter : Letter) × Among letter letters × (((y : maps.Node) × (w q ≡ Some y) × (y.promise ≡ epoch) × IsJoinTo letter q epoch x.boot)
      ⊎ (((y : maps.Node) × (w q ≡ Some y) × IsBefore epoch y.promise × IsJoinTo letter q y.promise x.boot) × Among ThrownOld saids))
  asked_answers v w rs saids letters (NoneLeft _ _ same) q x m h = absurd m
  asked_answers v w (r ∷ rs) (said ∷ saids) letters (AsksOne _ mid _ _ _ _ _ answer more answered others rest) q x m h = ⊎_elim
      (λ same. at answered (subst (λ k. v k ≡ Some x) same.1 h) same.1)
      (λ apart. let a = asked_answers mid w rs saids more rest q x (⊎_elim (λ e. absurd (apart.1 (sym e))) (λ l. l) m) (others q apart.1 ∙ h) in
      (a.0, among_behind a.0 answer more a.1, ⊎_elim (λ first. inl first) (λ second. inr (second.0, inr second.1)) a.2))
      (Rattle.maps_model.proofs.Lists.same_or_apart q r)
    where
      none_some : (y : maps.Node) → None ≡ Some y → ⊥
      none_some y e = cc

      inside : (l : Letter) → answer ≡ l ∷ [] → Among l (answer ++ more)
      inside l e = among_front l answer more (subst (Among l) (sym e) (inl refl))

      at : Answered n epoch r (v r) (mid r) answer said → v r ≡ Some x → q ≡ r
          → (letter : Letter) × Among letter (answer ++ more) × (((y : maps.Node) × (w q ≡ Some y) × (y.promise ≡ epoch) × IsJoinTo letter q epoch x.boot)
          ⊎ (((y : maps.Node) × (w q ≡ Some y) × IsBefore epoch y.promise × IsJoinTo letter q y.promise x.boot) × Among ThrownOld (said ∷ saids)))
      at (Silent a b e) k s = absurd (none_some x (sym a ∙ k))
      at (Promises y z a b c d f g was claims e) k s =
          let stays = asked_stays mid w rs saids more rest q z (ap mid s ∙ b) in
          let promised : stays.0.promise ≡ epoch = ⊎_elim (λ same. same ∙ f) (λ rose. rose.0) stays.2.promise in (
            maps_rules.letter_to r (Join epoch epoch y.boot was claims) n,
            inside _ e,
            inl (
              stays.0,
              stays.1,
              promised,
              record {
                was = was;
                claims = claims;
                is = (λ i. maps_rules.letter_to (sym s i) (Join epoch epoch (some_same y x (sym a ∙ k) i).boot was claims) n);
              },
            ),
          )
      at (TooOld y a b c d e) k s =
          let stays = asked_stays mid w rs saids more rest q y (ap mid s ∙ b) in
          let promised : stays.0.promise ≡ y.promise = ⊎_elim (λ same. same) (λ rose. absurd (before_not_most epoch y.promise c rose.1)) stays.2.promise in (
            maps_rules.letter_to r (Join epoch y.promise y.boot no_epoch []) n,
            inside _ e,
            inr (
              (
                stays.0,
                stays.1,
                subst (IsBefore epoch) (sym promised) c,
                record {
                  was = no_epoch;
                  claims = [];
                  is = (λ i. maps_rules.letter_to (sym s i) (Join epoch (sym promised i) (some_same y x (sym a ∙ k) i).boot no_epoch []) n);
                },
              ),
              inl d,
            ),
          )

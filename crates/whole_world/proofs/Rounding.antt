-- A round: a group is opened, and all its Group letters and the Joins that answer them are posted.
use Rattle.std.proofs.Common.{◌≡◌, ◌≢◌, ◌⊎◌, inl, inr, ⊎_elim, ℕ, zero, suc, ◌+◌, ◌≤◌, ◌<◌, Bool, true, false, List, [], ◌∷◌, ◌++◌, append-nil, map, length, reverse, Option, Some, None, refl, sym, ap, ◌∙◌, subst, nat_eq, true≢false, eq-eqb, arith, if◌then◌else◌}
use Rattle.std.proofs.lemmas.List.{reverse-append}
use Rattle.std.proofs.lemmas.Bool.{eqb-true}
use Rattle.mail_model.specs.Identity.{EpochId}
use Rattle.mail_model.specs.Plan.{Plan}
use Rattle.mail_model.specs.Record.{Record}
use Rattle.object_model.specs.Lists.{Among}
use Rattle.object_model.specs.Letters.{Letter}
use Rattle.object_model.specs.Letters.Body.{Group}
use Rattle.object_model.proofs.Lists.{among_front, among_behind}
use Rattle.cluster_model.specs.Room.{Flight}
use Rattle.maps_model.specs.Cluster as maps
use Rattle.maps_model.specs.Epochs.{IsBefore}
use Rattle.maps_model.specs.Rules as maps_rules
use Rattle.maps_model.specs.RoundLaws.{HasJoinOf}
use Rattle.maps_model.proofs.Lists.{same_or_apart}
use Rattle.maps_model.proofs.Order.{most_itself}
use Rattle.whole_model.specs.Whole.{Node, Life, Slot, slot_at, with_slot, mail_slot, maps_disk_of}
use Rattle.whole_model.specs.Whole.Life.{Up, Down, Lost}
use Rattle.whole_world.specs.World.{World, slot_up, IsUp, Reaction, put, after}
use Rattle.whole_world.specs.Steps.{Said}
use Rattle.whole_world.specs.Steps.Step.{OpenGroup}
use Rattle.whole_world.specs.Steps.Said.{Grouped}
use Rattle.whole_world.specs.Steps.StepOutcome.{Says}
use Rattle.whole_world.specs.Makes.{done_for_maps, Groups, MakesStep}
use Rattle.whole_world.specs.Makes.Groups.{Opens, FailsOpening}
use Rattle.whole_world.specs.Makes.DoesStep.{ForMessages, PostsMaps, Starts, OpensGroup, ConcludesGroup, SendsReports}
use Rattle.whole_world.specs.Laws.{Stands}
use Rattle.whole_world.specs.Regroup.{Round, ThrownOld, maps_in, maps_of_slot, maps_at, AreNumbered, HasRoomFor}
use Rattle.whole_world.proofs.Along.{mail_here}
use Rattle.whole_world.proofs.Seeing.{put_slots, among_reverse}
use Rattle.whole_world.proofs.Viewing.{numbered, AreLight, AllPut, put_all, slot_here, slot_other}
use Rattle.whole_world.proofs.Asking.{asking, AskedAll, asks_all}
use Rattle.whole_world.proofs.Gathering.{IsJoinTo, IsSomeJoin, GatheredAll, gathers_all, asked_joins, asked_stays, asked_downs, asked_others, asked_answers, StaysUp}

pub some_same : {X : Type 0} (o : Option X) (a b : X) → o ≡ Some a → o ≡ Some b → a ≡ b
some_same o a b p q = cc

pub none_some : {X : Type 0} (x : X) → None ≡ Some x → ⊥
none_some x e = cc

-- a node that maps see is up
pub view_up : (w : World) (q : ℕ) (x : maps.Node) → maps_at w q ≡ Some x → (node : Node) × (disk : List Record) × IsUp w q node disk × (node.maps ≡ x)
view_up w q x h = by (slot_at w.slots q) refl
  where
    by : (o : Option Slot) → slot_at w.slots q ≡ o → (node : Node) × (disk : List Record) × IsUp w q node disk × (node.maps ≡ x)
    by None e = absurd (none_some x (sym (ap maps_of_slot e) ∙ h))
    by (Some slot) e = lives slot.life refl
      where
        lives : (life : Life) → slot.life ≡ life → (node : Node) × (disk : List Record) × IsUp w q node disk × (node.maps ≡ x)
        lives (Up node) l = (node, slot.disk, e ∙ ap (λ (z : Life). Some (record { life = z; disk = slot.disk })) l, some_same (Some node.maps) node.maps x refl (sym (ap maps_of_slot e ∙ ap maps_in l) ∙ h))
        lives (Down p) l = absurd (none_some x (sym (ap maps_of_slot e ∙ ap maps_in l) ∙ h))
        lives Lost l = absurd (none_some x (sym (ap maps_of_slot e ∙ ap maps_in l) ∙ h))

pub up_view : (w : World) (q : ℕ) (node : Node) (disk : List Record) → IsUp w q node disk → maps_at w q ≡ Some node.maps
up_view w q node disk up = ap maps_of_slot up

-- the other nodes
pub other_apart : (n k q : ℕ) → Among q (maps_rules.others n k) → q ≢ n
other_apart n zero q m e = m
other_apart n (suc k) q m e = by (λ i. other_apart n k q i e) (nat_eq (suc k) n) refl m
  where
    by : (Among q (maps_rules.others n k) → ⊥) → (b : Bool) → nat_eq (suc k) n ≡ b → Among q (if b then maps_rules.others n k else suc k ∷ maps_rules.others n k) → ⊥
    by rest true h i = rest i
    by rest false h i = ⊎_elim (λ is. true≢false (sym (eq-eqb (suc k) n (is ∙ e)) ∙ h)) (λ more. rest more) i

pub other_among : (n k q : ℕ) → q ≢ 0 → q ≤ k → q ≢ n → Among q (maps_rules.others n k)
other_among n zero q some within apart = absurd (some (omega (arith, within)))
other_among n (suc k) q some within apart = by (λ i. other_among n k q some i apart) (nat_eq (suc k) n) refl (same_or_apart q (suc k))
  where
    below : q ≢ suc k → q ≤ k
    below h = le_of q k within h
      where
        le_of : (q k : ℕ) → q ≤ suc k → q ≢ suc k → q ≤ k
        le_of q k p h = ⊎_elim (λ l. omega (arith, l)) (λ e. absurd (h e)) (split q (suc k) p)
          where
            split : (a b : ℕ) → a ≤ b → (a < b) ⊎ (a ≡ b)
            split a b p = ⊎_elim (λ e. inr e.1) (λ d. inl (lt_of a b p d.1)) (same_or_apart a b)
              where
                lt_of : (a b : ℕ) → a ≤ b → a ≢ b → a < b
                lt_of a b p d = omega (arith, p, d)

    by : (q ≤ k → Among q (maps_rules.others n k)) → (b : Bool) → nat_eq (suc k) n ≡ b → ((nat_eq q (suc k) ≡ true) × (q ≡ suc k)) ⊎ ((nat_eq q (suc k) ≡ false) × (q ≢ suc k))
        → Among q (if b then maps_rules.others n k else suc k ∷ maps_rules.others n k)
    by rest true h (inl s) = absurd (apart (s.1 ∙ eqb-true (suc k) n h))
    by rest true h (inr d) = rest (below d.1)
    by rest false h (inl s) = inl (sym s.1)
    by rest false h (inr d) = inr (rest (below d.1))

pub others_few : (n k : ℕ) → length (maps_rules.others n k) ≤ k
others_few n zero = omega arith
others_few n (suc k) = by (others_few n k) (nat_eq (suc k) n)
  where
    by : length (maps_rules.others n k) ≤ k → (b : Bool) → length (if b then maps_rules.others n k else suc k ∷ maps_rules.others n k) ≤ suc k
    by rest true = omega (arith, rest)
    by rest false = omega (arith, rest)

module _ {X : Type 0} where
  pub among_backwards : (x : X) (xs : List X) → Among x xs → Among x (reverse xs)
  among_backwards x [] m = m
  among_backwards x (y ∷ ys) m = subst (Among x) (sym (reverse-append (y ∷ []) ys)) (⊎_elim
      (λ e. among_behind x (reverse ys) (y ∷ []) (inl e))
      (λ more. among_front x (reverse ys) (y ∷ []) (among_backwards x ys more)) m)

  pub length_backwards : (xs : List X) → length (reverse xs) ≡ length xs
  length_backwards [] = refl
  length_backwards (y ∷ ys) = ap length (reverse-append (y ∷ []) ys) ∙ both (reverse ys) y ∙ ap suc (length_backwards ys)
    where
      both : (zs : List X) (y : X) → length (zs ++ y ∷ []) ≡ suc (length zs)
      both [] y = refl
      both (z ∷ zs) y = ap suc (both zs y)

pub map_backwards : (f : ℕ → Letter) (xs : List ℕ) → reverse (map f xs) ≡ map f (reverse xs)
map_backwards f [] = refl
map_backwards f (x ∷ xs) = reverse-append (f x ∷ []) (map f xs) ∙ ap (λ (l : List Letter). l ++ f x ∷ []) (map_backwards f xs) ∙ sym (both (reverse xs) x) ∙ ap (map f) (sym (reverse-append (x ∷ []) xs))
  where
    both : (ys : List ℕ) (y : ℕ) → map f (ys ++ y ∷ []) ≡ map f ys ++ f y ∷ []
    both [] y = refl
    both (z ∷ ys) y = ap (λ (l : List Letter). f z ∷ l) (both ys y)

-- what a round comes to
pub record RoundDone (old new : World) (n : ℕ) (epoch : EpochId) (saids : List Said) (count : ℕ) : Type 0 where
  pub x : maps.Node
  pub before : maps_at old n ≡ Some x
  pub epoch_is : epoch ≡ maps_rules.next_epoch n x
  pub y : maps.Node
  pub here : maps_at new n ≡ Some y
  pub boot : y.boot ≡ x.boot
  pub installed : y.installed ≡ x.installed
  pub promise : y.promise ≡ epoch
  pub heard : epoch.count ≤ y.heard
  pub group : maps.OpenGroup
  pub opened : y.group ≡ Some group
  pub same : group.epoch ≡ epoch
  pub own : HasJoinOf group.joins n y.boot
  pub size : length group.joins ≤ suc count
  pub stays : (q : ℕ) (u : maps.Node) → q ≢ n → maps_at old q ≡ Some u → (z : maps.Node) × (maps_at new q ≡ Some z) × StaysUp n epoch u z × (z.promise.count ≤ y.heard)
      × (((z.promise ≡ epoch) × HasJoinOf group.joins q z.boot) ⊎ (IsBefore epoch z.promise × Among ThrownOld saids))
  pub from : (join : maps.Joined) → Among join group.joins → (u : maps.Node) × (maps_at old join.member.node ≡ Some u) × (u.boot ≡ join.member.boot)
  pub downs : (q : ℕ) → maps_at old q ≡ None → maps_at new q ≡ None
  pub flying : new.flying ≡ old.flying
  pub sent : old.sent ≤ new.sent

module _ (plan : Plan) (tells : Bool) (old : World) (stands : Stands plan old) (low : AreNumbered old) (room : HasRoomFor (suc plan.nodes) old.flying) (n : ℕ) where
  -- a group that is opened
  pub record Opened (epoch : EpochId) (opened : World) : Type 0 where
    pub node : Node
    pub disk : List Record
    pub up : IsUp old n node disk
    pub epoch_is : epoch ≡ maps_rules.next_epoch n node.maps
    pub is : opened ≡ after old n (done_for_maps node disk (maps_rules.start_group n plan.nodes node.maps (maps_disk_of disk)) (Some (maps_rules.next_epoch n node.maps)) (reverse (maps_rules.start_group n plan.nodes node.maps (maps_disk_of disk)).out))

  pub opens_group : (epoch : EpochId) (opened : World) → MakesStep plan tells old (OpenGroup n) (Says (Grouped epoch)) opened → Opened epoch opened
  opens_group epoch opened (fits, ForMessages one step answer says for_mail does follow) = absurd (cc step)
  opens_group epoch opened (fits, PostsMaps number keep step h) = absurd (cc step)
  opens_group epoch opened (fits, Starts m step h) = absurd (cc step)
  opens_group epoch opened (fits, ConcludesGroup m step h) = absurd (cc step)
  opens_group epoch opened (fits, SendsReports from to step h) = absurd (cc step)
  opens_group epoch opened (fits, OpensGroup m step g) = by (subst (λ k. Groups plan old k (Grouped epoch) opened) (same m step) g)
    where
      same : (m : ℕ) → OpenGroup n ≡ OpenGroup m → m ≡ n
      same m e = cc

      epochs : (a b : EpochId) → Grouped a ≡ Grouped b → a ≡ b
      epochs a b e = cc

      by : Groups plan old n (Grouped epoch) opened → Opened epoch opened
      by (Opens node disk up says is) = record { node = node; disk = disk; up = up; epoch_is = epochs epoch (maps_rules.next_epoch n node.maps) says; is = is }
      by (FailsOpening node disk up says g) = absurd (cc says)

  pub round_done : (epoch : EpochId) (saids : List Said) (new : World) → Round plan tells old n epoch saids new → RoundDone old new n epoch saids plan.nodes
  round_done epoch saids new r = record {
    x = x;
    before = here_old;
    epoch_is = o.epoch_is;
    y = g.y;
    here = g.here;
    boot = g.gathered.boot;
    installed = g.gathered.installed;
    promise = g.gathered.promise ∙ sym o.epoch_is;
    heard = le_trans_of epoch.count (maps_rules.next_epoch n x).count started.heard g.y.heard (ap (λ (e : EpochId). e.count) o.epoch_is) (greatest x.heard (maps_rules.next_epoch n x).count) g.gathered.heard;
    group = g.gathered.group;
    opened = g.gathered.opened;
    same = g.gathered.same;
    own = subst (HasJoinOf g.gathered.group.joins n) (sym g.gathered.boot) (g.gathered.stays first refl n x.boot (record { join = maps_rules.own_join n x; inside = inl refl; same = refl; not_below = omega arith }));
    size = sizes (length g.gathered.group.joins) (length asked.letters) (length rs) plan.nodes (g.gathered.size first refl) asked.few few;
    stays = stays;
    from = from;
    downs = λ q h. ⊎_elim
        (λ is. absurd (none_some x (sym h ∙ ap (maps_at old) is.1 ∙ here_old)))
        (λ apart. g.others q apart.1 ∙ asked_downs n epoch (maps_at r.opened) (maps_at r.asked) rs saids asked.letters asked.asks q (other_view q apart.1 ∙ h))
        (same_or_apart q n);
    flying = g.flying;
    sent = sent_more old.sent (length rs) r.opened.sent r.asked.sent (length r.answers) new.sent opened_sent r.all_heard g.sent;
  }
    where
      o : Opened epoch r.opened
      o = opens_group epoch r.opened r.opens

      x : maps.Node
      x = o.node.maps

      here_old : maps_at old n ≡ Some x
      here_old = up_view old n o.node o.disk o.up

      rs : List ℕ
      rs = reverse (maps_rules.others n plan.nodes)

      did : maps_rules.Reaction
      did = maps_rules.start_group n plan.nodes x (maps_disk_of o.disk)

      started : maps.Node
      started = did.node

      first : maps.OpenGroup
      first = record { epoch = maps_rules.next_epoch n x; joins = maps_rules.own_join n x ∷ [] }

      out_is : reverse did.out ≡ asking n epoch rs
      out_is = map_backwards (maps_rules.letter_to n (Group (maps_rules.next_epoch n x))) (maps_rules.others n plan.nodes) ∙ ap (λ e. asking n e rs) (sym o.epoch_is)

      few : length rs ≤ plan.nodes
      few = subst (λ k. k ≤ plan.nodes) (sym (length_backwards (maps_rules.others n plan.nodes))) (others_few n plan.nodes)

      now : Reaction
      now = done_for_maps o.node o.disk did (Some (maps_rules.next_epoch n x)) (reverse did.out)

      written : World
      written = record old { slots = with_slot old.slots n (slot_up now.node now.disk) }

      asking_len : (xs : List ℕ) → length (asking n epoch xs) ≡ length xs
      asking_len [] = refl
      asking_len (q ∷ qs) = ap suc (asking_len qs)

      asking_lights : (xs : List ℕ) → AreLight (asking n epoch xs)
      asking_lights [] l m = absurd m
      asking_lights (q ∷ qs) l m = ⊎_elim (λ e. subst (λ (k : Letter). Rattle.cluster_model.specs.Room.message_octets k.body ≡ 0) e refl) (λ more. asking_lights qs l more) m

      put_is : AllPut (asking n epoch rs) written (put (asking n epoch rs) written)
      put_is = put_all (suc plan.nodes) old.flying (asking n epoch rs) [] written (sym (append-nil old.flying)) room (λ f m. absurd m) (asking_lights rs) (subst (λ k. 0 + k ≤ suc plan.nodes) (sym (asking_len rs)) (omega (arith, few)))

      opened_is : r.opened ≡ put (asking n epoch rs) written
      opened_is = o.is ∙ ap (λ (l : List Letter). put l written) out_is

      opened_flying : r.opened.flying ≡ old.flying ++ numbered old.sent (asking n epoch rs)
      opened_flying = ap (λ (w : World). w.flying) opened_is ∙ put_is.flying

      opened_sent : r.opened.sent ≡ old.sent + length rs
      opened_sent = ap (λ (w : World). w.sent) opened_is ∙ put_is.sent ∙ ap (λ k. old.sent + k) (asking_len rs)

      opened_slots : r.opened.slots ≡ with_slot old.slots n (slot_up now.node now.disk)
      opened_slots = ap (λ (w : World). w.slots) opened_is ∙ put_slots (asking n epoch rs) written

      own_view : maps_at r.opened n ≡ Some started
      own_view = ap maps_of_slot (ap (λ (l : List Slot). slot_at l n) opened_slots ∙ slot_here old.slots n (slot_up o.node o.disk) (slot_up now.node now.disk) o.up)

      other_view : (q : ℕ) → q ≢ n → maps_at r.opened q ≡ maps_at old q
      other_view q apart = ap maps_of_slot (ap (λ (l : List Slot). slot_at l q) opened_slots ∙ slot_other old.slots n q (slot_up now.node now.disk) apart)

      same_lengths : (a b c : ℕ) → a ≡ c + b → (d : ℕ) → a ≡ c + d → b ≡ d
      same_lengths a b c p d q = omega (arith, p, q)

      zero_more : (a : ℕ) → a ≡ a + 0
      zero_more a = omega arith

      asked : AskedAll n epoch old.flying (old.sent + length rs) rs [] saids r.opened r.asked
      asked = asks_all n epoch plan tells old.flying (suc plan.nodes) room old.sent rs [] saids r.opened r.asked (λ f m. low.each f m)
          (record { flying = opened_flying ∙ ap (λ (l : List Flight). old.flying ++ l) (sym (append-nil (numbered old.sent (asking n epoch rs)))); sent = opened_sent ∙ zero_more (old.sent + length rs); light = λ l m. absurd m })
          (omega (arith, few)) (same_lengths r.opened.sent (length saids) old.sent r.all_asked (length rs) opened_sent) r.asks

      not_asked : Among n rs → ⊥
      not_asked m = other_apart n plan.nodes n (among_reverse n (maps_rules.others n plan.nodes) m) refl

      joins : (letter : Letter) → Among letter asked.letters → IsSomeJoin n epoch letter
      joins letter m = let j = asked_joins n epoch (maps_at r.opened) (maps_at r.asked) rs saids asked.letters asked.asks letter m in record { r = j.0; promise = j.3.0; boot = j.1.boot; join = j.3.1 }

      g : GatheredAll n epoch old.flying asked.letters started new r.asked
      g = gathers_all n epoch plan tells old.flying r.opened.sent asked.letters r.answers started first r.asked new (λ f m. lower f.number old.sent (length rs) r.opened.sent (low.each f m) opened_sent) joins
          (asked.flying ∙ ap (λ k. old.flying ++ numbered k asked.letters) (sym opened_sent))
          (asked_others n epoch (maps_at r.opened) (maps_at r.asked) rs saids asked.letters asked.asks n not_asked ∙ own_view) refl (sym o.epoch_is)
          (same_lengths r.asked.sent (length r.answers) r.opened.sent r.all_heard (length asked.letters) (asked.sent ∙ ap (λ k. k + length asked.letters) (sym opened_sent))) r.hears
        where
          lower : (a b c d : ℕ) → a ≤ b → d ≡ b + c → a ≤ d
          lower a b c d p e = omega (arith, p, e)

      le_trans_of : (a b c d : ℕ) → a ≡ b → b ≤ c → c ≤ d → a ≤ d
      le_trans_of a b c d p q r = omega (arith, p, q, r)

      greatest : (a b : ℕ) → b ≤ Rattle.std.specs.Prelude.max a b
      greatest a b = omega arith

      sizes : (joins letters rs nodes : ℕ) → joins ≤ 1 + letters → letters ≤ rs → rs ≤ nodes → joins ≤ suc nodes
      sizes joins letters rs nodes p q r = omega (arith, p, q, r)

      sent_more : (a b c d e f : ℕ) → c ≡ a + b → d ≡ c + e → f ≡ d → a ≤ f
      sent_more a b c d e f p q r = omega (arith, p, q, r)

      in_plan_at : (q : ℕ) (u : maps.Node) → maps_at old q ≡ Some u → (q ≢ 0) × (q ≤ plan.nodes)
      in_plan_at q u h = let up = view_up old q u h in let p = stands.in_plan q (mail_slot (slot_up up.0 up.1)) (mail_here old.slots q (slot_up up.0 up.1) up.2) in (p.some, p.within)

      stays : (q : ℕ) (u : maps.Node) → q ≢ n → maps_at old q ≡ Some u → (z : maps.Node) × (maps_at new q ≡ Some z) × StaysUp n epoch u z × (z.promise.count ≤ g.y.heard)
          × (((z.promise ≡ epoch) × HasJoinOf g.gathered.group.joins q z.boot) ⊎ (IsBefore epoch z.promise × Among ThrownOld saids))
      stays q u apart h =
          let p = in_plan_at q u h in
          let now_up = other_view q apart ∙ h in
          let k = asked_stays n epoch (maps_at r.opened) (maps_at r.asked) rs saids asked.letters asked.asks q u now_up in
          let a = asked_answers n epoch (maps_at r.opened) (maps_at r.asked) rs saids asked.letters asked.asks q u (among_backwards q (maps_rules.others n plan.nodes) (other_among n plan.nodes q p.0 p.1 apart)) now_up in
          by k a
        where
          by : (k : (z : maps.Node) × (maps_at r.asked q ≡ Some z) × StaysUp n epoch u z)
              → ((letter : Letter) × Among letter asked.letters × (((z : maps.Node) × (maps_at r.asked q ≡ Some z) × (z.promise ≡ epoch) × IsJoinTo n epoch letter q epoch u.boot)
              ⊎ (((z : maps.Node) × (maps_at r.asked q ≡ Some z) × IsBefore epoch z.promise × IsJoinTo n epoch letter q z.promise u.boot) × Among ThrownOld saids)))
              → (z : maps.Node) × (maps_at new q ≡ Some z) × StaysUp n epoch u z × (z.promise.count ≤ g.y.heard)
              × (((z.promise ≡ epoch) × HasJoinOf g.gathered.group.joins q z.boot) ⊎ (IsBefore epoch z.promise × Among ThrownOld saids))
          by (z, at, kept) (letter, m, inl (v, there, promised, join)) =
              let same : v ≡ z = some_same (maps_at r.asked q) v z there at in
              let its : z.promise ≡ epoch = ap (λ (k : maps.Node). k.promise) (sym same) ∙ promised in (
                z,
                g.others q apart ∙ at,
                kept,
                le_trans_of z.promise.count (maps_rules.next_epoch n x).count started.heard g.y.heard (ap (λ (e : EpochId). e.count) (its ∙ o.epoch_is)) (greatest x.heard (maps_rules.next_epoch n x).count) g.gathered.heard,
                inl (its, subst (HasJoinOf g.gathered.group.joins q) (sym kept.boot) (g.gathered.adds letter m q epoch u.boot join (most_itself epoch))),
              )
          by (z, at, kept) (letter, m, inr ((v, there, above, join), old_said)) =
              let same : v ≡ z = some_same (maps_at r.asked q) v z there at in
              let its : IsBefore epoch z.promise = subst (λ (k : maps.Node). IsBefore epoch k.promise) same above in
              let mine : IsJoinTo n epoch letter q z.promise u.boot = subst (λ (k : maps.Node). IsJoinTo n epoch letter q k.promise u.boot) same join in
              (z, g.others q apart ∙ at, kept, g.gathered.hears letter m q z.promise u.boot mine its, inr (its, old_said))

      from : (join : maps.Joined) → Among join g.gathered.group.joins → (u : maps.Node) × (maps_at old join.member.node ≡ Some u) × (u.boot ≡ join.member.boot)
      from join m = ⊎_elim
          (λ (own : Among join first.joins). ⊎_elim (λ is. subst (λ (j : maps.Joined). (u : maps.Node) × (maps_at old j.member.node ≡ Some u) × (u.boot ≡ j.member.boot)) is (x, here_old, refl)) (λ none. absurd none) own)
          (λ (letter, k, (p, j)). told letter k p j)
          (g.gathered.from first refl join m)
        where
          told : (letter : Letter) → Among letter asked.letters → (p : EpochId) → IsJoinTo n epoch letter join.member.node p join.member.boot → (u : maps.Node) × (maps_at old join.member.node ≡ Some u) × (u.boot ≡ join.member.boot)
          told letter k p j =
              let a = asked_joins n epoch (maps_at r.opened) (maps_at r.asked) rs saids asked.letters asked.asks letter k in
              let parts_are = Rattle.whole_world.proofs.Gathering.parts n epoch letter a.0 join.member.node a.3.0 p a.1.boot join.member.boot a.3.1 j in
              let node_is : a.0 ≡ join.member.node = parts_are.0 in
              ⊎_elim
              (λ own. (x, ap (maps_at old) own.1 ∙ here_old, sym (ap (λ (k : maps.Node). k.boot) (some_same (maps_at r.opened n) a.1 started (ap (maps_at r.opened) (sym own.1 ∙ sym node_is) ∙ a.2) own_view)) ∙ parts_are.2))
              (λ apart. (a.1, ap (maps_at old) (sym node_is) ∙ sym (other_view a.0 (λ e. apart.1 (sym node_is ∙ e))) ∙ a.2, parts_are.2))
              (same_or_apart join.member.node n)

-- what is posted keeps what holds of a world

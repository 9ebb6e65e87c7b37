-- A mishap of a letter leaves all that is told of nodes, but for a ticket: the machine notes it likewise.
use Rattle.std.proofs.Common.{◌≡◌, ◌≢◌, ⊎_elim, ℕ, zero, suc, ◌+◌, ◌<◌, ◌≤◌, Bool, true, false, nat_eq, List, [], ◌∷◌, ◌++◌, length, take, Option, Some, None, refl, sym, ap, ◌∙◌, subst, arith, if◌then◌else◌}
use Rattle.std.specs.Prelude.{slice_get}
use Rattle.std.proofs.lemmas.Option.{slice_get_cases}
use Rattle.mail_model.specs.Plan.{Plan}
use Rattle.object_model.specs.Letters.{Number, Letter}
use Rattle.object_model.specs.Mishaps.{MishapKind}
use Rattle.session_model.specs.Events.{NodeLife, turned}
use Rattle.cluster_model.specs.Cluster as plain
use Rattle.cluster_model.specs.Cluster.{slot_at}
use Rattle.cluster_model.specs.World.{missed, missed_under, missed_at, other_end}
use Rattle.node_store.specs.Disks.{View}
use Rattle.node_core.specs.Nodes.{node_seen, IsNodeOf, IsWhole}
use Rattle.whole_node.specs.Nodes.{WholeWorks}
use Rattle.whole_node.specs.declared.node.WholeNode.{WholeNode}
use Rattle.cluster_world.specs.Keeping.{HasSameReads}
use Rattle.cluster_world.specs.Lives.{life_seen, of_node, with_node_at, falls_left, all_falls_left, CanWorkOn}
use Rattle.cluster_world.specs.Stands.{SlotsStand}
use Rattle.cluster_world.specs.Worlds.{seen_life}
use Rattle.cluster_world.specs.Changes.{ChangesNode}
use Rattle.cluster_world.specs.Missing.{all_missed, Noticed}
use Rattle.cluster_world.specs.Noting.{LifeNoted, LifeChanges, LivesNoted, NotedUnder, LettersNoted}
use Rattle.cluster_world.specs.declared.life.Life.{Life}
use Rattle.cluster_world.specs.declared.life.Life.TheVariants.{Up, Down, Lost}
use Rattle.cluster_world.specs.declared.nodes.Nodes.{Nodes}
use Rattle.cluster_world.proofs.SameReads.{same_reads, reads_more, tickets_reads}
use Rattle.cluster_world.proofs.Still.{some_same}
use Rattle.cluster_world.proofs.Changing.{there, changed_at, set_same}
use Rattle.cluster_world.proofs.Turning.{up_same}
use Rattle.cluster_world.proofs.Turned.{same_or, life_there, life_else, slot_of, slots_stand, lives_turned, still_ready, falls_now}
use Rattle.cluster_world.proofs.Noted.{life_noted}
use Rattle.cluster_world.proofs.Putting.{missed_more}

-- the life that a mishap leaves, with its disk
abbrev pub Noted : MishapKind → ℕ → Number → (D : Type 0) → Life → D → Life → D → Type 0
Noted kind at number D life disk life' disk' = LifeNoted kind at number life life' × (disk' ≡ disk)

-- it is told as before
pub seen_as_before : (kind : MishapKind) (at : ℕ) (number : Number) (life life' : Life) → LifeNoted kind at number life life' → life_seen life' ≡ life_seen life
seen_as_before kind at number (Up old) (Up new) n = ap (λ (node : plain.Node). Rattle.session_model.specs.Events.NodeLife.Up node.boot) n.mail.seen
seen_as_before kind at number Down Down n = refl
seen_as_before kind at number Lost Lost n = refl
seen_as_before kind at number (Up old) Down n = absurd n
seen_as_before kind at number (Up old) Lost n = absurd n
seen_as_before kind at number Down (Up new) n = absurd n
seen_as_before kind at number Down Lost n = absurd n
seen_as_before kind at number Lost (Up new) n = absurd n
seen_as_before kind at number Lost Down n = absurd n

pub falls_as_before : (kind : MishapKind) (at : ℕ) (number : Number) (life life' : Life) → LifeNoted kind at number life life' → falls_left life' ≡ falls_left life
falls_as_before kind at number (Up old) (Up new) n = refl
falls_as_before kind at number Down Down n = refl
falls_as_before kind at number Lost Lost n = refl
falls_as_before kind at number (Up old) Down n = absurd n
falls_as_before kind at number (Up old) Lost n = absurd n
falls_as_before kind at number Down (Up new) n = absurd n
falls_as_before kind at number Down Lost n = absurd n
falls_as_before kind at number Lost (Up new) n = absurd n
falls_as_before kind at number Lost Down n = absurd n

-- its maps are as before
pub maps_as_before : (kind : MishapKind) (at : ℕ) (number : Number) (life life' : Life) → LifeNoted kind at number life life' → (x y : WholeNode) → life ≡ Up x → life' ≡ Up y → y.maps ≡ x.maps
maps_as_before kind at number (Up old) (Up new) n x y e f = ap (λ (z : WholeNode). z.maps) (up_same y new (sym f)) ∙ n.maps ∙ ap (λ (z : WholeNode). z.maps) (up_same old x e)
maps_as_before kind at number Down Down n x y e f = absurd (let never : Down ≡ Up x = e in cc)
maps_as_before kind at number Lost Lost n x y e f = absurd (let never : Lost ≡ Up x = e in cc)
maps_as_before kind at number (Up old) Down n x y e f = absurd n
maps_as_before kind at number (Up old) Lost n x y e f = absurd n
maps_as_before kind at number Down (Up new) n x y e f = absurd n
maps_as_before kind at number Down Lost n x y e f = absurd n
maps_as_before kind at number Lost (Up new) n x y e f = absurd n
maps_as_before kind at number Lost Down n x y e f = absurd n

-- so are its tickets of calls that read, and its locks
pub beside_as_before : (kind : MishapKind) (at : ℕ) (number : Number) (life life' : Life) → LifeNoted kind at number life life' → (x y : WholeNode) → life ≡ Up x → life' ≡ Up y → HasSameReads x y
beside_as_before kind at number (Up old) (Up new) n x y e f =
    reads_more x old y (same_reads x old (up_same old x e)) (reads_more old new y (tickets_reads _ old new n) (same_reads new y (up_same y new (sym f))))
beside_as_before kind at number Down Down n x y e f = absurd (let never : Down ≡ Up x = e in cc)
beside_as_before kind at number Lost Lost n x y e f = absurd (let never : Lost ≡ Up x = e in cc)
beside_as_before kind at number (Up old) Down n x y e f = absurd n
beside_as_before kind at number (Up old) Lost n x y e f = absurd n
beside_as_before kind at number Down (Up new) n x y e f = absurd n
beside_as_before kind at number Down Lost n x y e f = absurd n
beside_as_before kind at number Lost (Up new) n x y e f = absurd n
beside_as_before kind at number Lost Down n x y e f = absurd n

-- it works on
pub works_on : (kind : MishapKind) (at : ℕ) (number : Number) (life life' : Life) → LifeNoted kind at number life life' → (plan : Plan) (own : ℕ) (seen : Option (List ℕ))
    → ((node : WholeNode) → life ≡ Up node → IsNodeOf plan own node.mail × WholeWorks seen node) → (node : WholeNode) → life' ≡ Up node → IsNodeOf plan own node.mail × WholeWorks seen node
works_on kind at number (Up old) (Up new) n plan own seen was node e =
    let same : new ≡ node = cc in
    let old_is = was old refl in
    subst (λ x. IsNodeOf plan own x.mail × WholeWorks seen x) same (n.mail.same plan own old_is.0, n.works seen old_is.1)
works_on kind at number Down Down n plan own seen was node e = absurd (let never : Down ≡ Up node = e in cc)
works_on kind at number Lost Lost n plan own seen was node e = absurd (let never : Lost ≡ Up node = e in cc)
works_on kind at number (Up old) Down n plan own seen was node e = absurd n
works_on kind at number (Up old) Lost n plan own seen was node e = absurd n
works_on kind at number Down (Up new) n plan own seen was node e = absurd n
works_on kind at number Down Lost n plan own seen was node e = absurd n
works_on kind at number Lost (Up new) n plan own seen was node e = absurd n
works_on kind at number Lost Down n plan own seen was node e = absurd n

-- a node that was turned to what it is
pub turned_still : (n m : ℕ) (lives : ℕ → NodeLife) (now : NodeLife) → now ≡ lives n → turned n now m (lives m) ≡ lives m
turned_still n m lives now e = by (nat_eq n m) refl
  where
    by : (b : Bool) → nat_eq n m ≡ b → (if b then now else lives m) ≡ lives m
    by true f = let same : n ≡ m = grind arith in e ∙ ap lives same
    by false f = refl

slot_past : (slots : List plain.Slot) (n : ℕ) → length slots < n → slot_at slots n ≡ None
slot_past slots zero past = absurd (omega (arith, past))
slot_past slots (suc k) past = ⊎_elim (λ (slot, within, here, _). absurd (omega (arith, within, past))) (λ (_, none). none) (slice_get_cases slots k).1

pub within_of : {X : Type 0} (xs : List X) (k : ℕ) (x : X) → slice_get xs k ≡ Some x → k < length xs
within_of xs k x e = ⊎_elim (λ (y, within, here, _). within) (λ (_, none). absurd (let never : Some x ≡ None = sym e ∙ none in cc)) (slice_get_cases xs k).1

same_at : {X : Type 0} (xs : List X) (n : ℕ) (x : X) → of_node xs n ≡ Some x → with_node_at xs n x ≡ xs
same_at xs zero x e = refl
same_at xs (suc k) x e = set_same xs k x e

module _ {D : Type 0} (on : View D) (plan : Plan) (kind : MishapKind) where
  -- nothing was
  pub nothing_noted : (old new : Nodes D) (change : List plain.Slot → List plain.Slot) → ((slots : List plain.Slot) → SlotsStand on old.lives.items old.disks.items slots → change slots ≡ slots) → new.plan ≡ old.plan → new.disks.items ≡ old.disks.items → new.lives.items ≡ old.lives.items
      → CanWorkOn on.seen plan old.lives.items old.disks.items → Noticed on plan change old new
  nothing_noted old new change same p d l works = record {
    only = record {
      plan = p;
      disks = d;
      lives = λ n. ap (λ xs. seen_life (of_node xs n)) l;
      maps = λ n x y e f. ap (λ (z : WholeNode). z.maps) (up_same y x (some_same (Up y) (Up x) (sym f ∙ ap (λ xs. of_node xs n) l ∙ e)));
      beside = λ n x y e f. same_reads x y (up_same y x (some_same (Up y) (Up x) (sym f ∙ ap (λ xs. of_node xs n) l ∙ e)));
      falls = ap all_falls_left l;
      slots = λ slots s. subst (λ xs. SlotsStand on new.lives.items new.disks.items xs) (sym (same slots s)) (subst (λ xs. SlotsStand on xs new.disks.items slots) (sym l) (subst (λ xs. SlotsStand on old.lives.items xs slots) (sym d) s));
    };
    works = subst (λ xs. CanWorkOn on.seen plan xs new.disks.items) (sym l) (subst (λ xs. CanWorkOn on.seen plan old.lives.items xs) (sym d) works);
  }

  module _ (at : ℕ) (number : Number) (old new : Nodes D) (works : CanWorkOn on.seen plan old.lives.items old.disks.items) where
    own_node : (n : ℕ) (life : Life) (disk : D) → of_node old.lives.items n ≡ Some life → of_node old.disks.items n ≡ Some disk → (node : WholeNode) → life ≡ Up node → IsNodeOf plan n node.mail × WholeWorks (on.seen disk) node
    own_node zero life disk a b node e = absurd (let never : None ≡ Some life = a in cc)
    own_node (suc k) life disk a b node e = works.each k node disk (a ∙ ap Some e) b

    pub one_noted : ChangesNode number.node (λ l d l' d'. Noted kind at number D l d l' d') old new → Noticed on plan (λ slots. missed_at kind slots at number (slot_at slots number.node)) old new
    one_noted ch =
        let disk_same : ch.disk' ≡ ch.disk = ch.does.1 in
        let seen_same = seen_as_before kind at number ch.life ch.life' ch.does.0 in
        record {
          only = record {
            plan = ch.plan;
            disks = ch.disks_are ∙ same_at old.disks.items number.node ch.disk' (ch.held ∙ ap Some (sym disk_same));
            lives = λ m. lives_turned number.node (λ l d l' d'. Noted kind at number D l d l' d') old new ch m
                ∙ turned_still number.node m (λ k. seen_life (of_node old.lives.items k)) (life_seen ch.life') (seen_same ∙ sym (ap seen_life ch.was));
            maps = λ m x y e f. ⊎_elim
                (λ (same : m ≡ number.node).
                let was : ch.life ≡ Up x = some_same ch.life (Up x) (sym ch.was ∙ ap (of_node old.lives.items) (sym same) ∙ e) in
                let is : ch.life' ≡ Up y = some_same ch.life' (Up y) (sym (life_there number.node (λ l d l' d'. Noted kind at number D l d l' d') old new ch) ∙ ap (of_node new.lives.items) (sym same) ∙ f) in
                maps_as_before kind at number ch.life ch.life' ch.does.0 x y was is)
                (λ (other : m ≢ number.node).
                ap (λ (z : WholeNode). z.maps) (up_same y x (some_same (Up y) (Up x) (sym f ∙ life_else number.node (λ l d l' d'. Noted kind at number D l d l' d') old new ch m other ∙ e))))
                (same_or m number.node);
            beside = λ m x y e f. ⊎_elim
                (λ (same : m ≡ number.node).
                let was : ch.life ≡ Up x = some_same ch.life (Up x) (sym ch.was ∙ ap (of_node old.lives.items) (sym same) ∙ e) in
                let is : ch.life' ≡ Up y = some_same ch.life' (Up y) (sym (life_there number.node (λ l d l' d'. Noted kind at number D l d l' d') old new ch) ∙ ap (of_node new.lives.items) (sym same) ∙ f) in
                beside_as_before kind at number ch.life ch.life' ch.does.0 x y was is)
                (λ (other : m ≢ number.node).
                same_reads x y (up_same y x (some_same (Up y) (Up x) (sym f ∙ life_else number.node (λ l d l' d'. Noted kind at number D l d l' d') old new ch m other ∙ e))))
                (same_or m number.node);
            falls = omega (arith, falls_now number.node (λ l d l' d'. Noted kind at number D l d l' d') old new ch, falls_as_before kind at number ch.life ch.life' ch.does.0);
            slots = λ slots s.
                let (slot, here, stands) = slot_of on old.lives.items old.disks.items slots number.node ch.life ch.disk s ch.was ch.held in
                let noted = life_noted on number.node kind at number ch.life ch.life' ch.disk slots slot refl
                (λ node up. (own_node number.node ch.life ch.disk ch.was ch.held node up).0.own_is) here stands ch.does.0 in
                subst (λ xs. SlotsStand on new.lives.items new.disks.items xs) (sym (ap (missed_at kind slots at number) here ∙ noted.is))
                (slots_stand number.node (λ l d l' d'. Noted kind at number D l d l' d') old new ch on slots noted.to s
                (subst (λ d. Rattle.cluster_world.specs.Stands.SlotStands on number.node ch.life' d noted.to) (sym disk_same) noted.stands));
          };
          works = still_ready number.node (λ l d l' d'. Noted kind at number D l d l' d') old new ch on.seen plan works
              (λ node up. works_on kind at number ch.life ch.life' ch.does.0 plan number.node (on.seen ch.disk') (λ was up'.
              subst (λ d. IsNodeOf plan number.node was.mail × WholeWorks (on.seen d) was) (sym disk_same) (own_node number.node ch.life ch.disk ch.was ch.held was up')) node up);
        }

    pub lives_noted : new.plan ≡ old.plan → new.disks.items ≡ old.disks.items → length old.disks.items ≡ length old.lives.items → LivesNoted kind at number old.lives.items new.lives.items
        → Noticed on plan (λ slots. missed_at kind slots at number (slot_at slots number.node)) old new
    lives_noted p d even noted = ⊎_elim
        (λ (past, same). nothing_noted old new (λ slots. missed_at kind slots at number (slot_at slots number.node))
        (λ slots s. ap (missed_at kind slots at number) (slot_past slots number.node (omega (arith, past, s.count)))) p d same works)
        (λ (c : LifeChanges (LifeNoted kind at number) number.node old.lives.items new.lives.items).
        let within : c.place < length old.disks.items = omega (arith, even, within_of old.lives.items c.place c.from c.was) in
        let (disk, held) = there old.disks.items c.place within in
        one_noted (changed_at number.node c.place (λ l d l' d'. Noted kind at number D l d l' d') old new c.from c.to disk disk c.at c.was held p c.becomes
        (d ∙ sym (set_same old.disks.items c.place disk held)) (c.step, refl)))
        noted

  -- so a mishap of a letter is the machine's
  pub letter_noted : (letter : Letter) (old new : Nodes D) → CanWorkOn on.seen plan old.lives.items old.disks.items → new.plan ≡ old.plan → new.disks.items ≡ old.disks.items
      → length old.disks.items ≡ length old.lives.items → LettersNoted kind letter old.lives.items new.lives.items → Noticed on plan (λ slots. missed kind slots letter) old new
  letter_noted letter old new works p d even noted = by letter.ticket noted
    where
      by : (o : Option Number) → NotedUnder kind letter o old.lives.items new.lives.items → Noticed on plan (λ slots. missed_under kind slots letter o) old new
      by None same = nothing_noted old new (λ slots. slots) (λ slots s. refl) p d same works
      by (Some number) n = lives_noted (other_end letter number) number old new works p d even n

-- each node that is up is whole
pub all_whole : {D : Type 0} (seen : D → Option (List ℕ)) (plan : Plan) (lives : List Life) (disks : List D) → length disks ≡ length lives → CanWorkOn seen plan lives disks
    → (k : ℕ) (node : WholeNode) → slice_get lives k ≡ Some (Up node) → IsWhole node.mail
all_whole seen plan lives disks even works k node here =
    let (disk, held) = there disks k (omega (arith, even, within_of lives k (Up node) here)) in
    (works.each k node disk here held).1.mail.whole

-- a node that is up is up as long as that is told of it
pub up_too : (o p : Option Life) (x : WholeNode) → o ≡ Some (Up x) → seen_life p ≡ seen_life o → (y : WholeNode) × (p ≡ Some (Up y))
up_too o None x e same = absurd (let never : NodeLife.Lost ≡ NodeLife.Up (node_seen x.mail).boot = same ∙ ap seen_life e in cc)
up_too o (Some (Up y)) x e same = (y, refl)
up_too o (Some Down) x e same = absurd (let never : NodeLife.Down ≡ NodeLife.Up (node_seen x.mail).boot = same ∙ ap seen_life e in cc)
up_too o (Some Lost) x e same = absurd (let never : NodeLife.Lost ≡ NodeLife.Up (node_seen x.mail).boot = same ∙ ap seen_life e in cc)

module _ {D : Type 0} (on : View D) (plan : Plan) where
  -- one after the other
  pub noticed_more : (f g : List plain.Slot → List plain.Slot) (old mid new : Nodes D) → Noticed on plan f old mid → Noticed on plan g mid new → Noticed on plan (λ slots. g (f slots)) old new
  noticed_more f g old mid new a b = record {
    only = record {
      plan = b.only.plan ∙ a.only.plan;
      disks = b.only.disks ∙ a.only.disks;
      lives = λ n. b.only.lives n ∙ a.only.lives n;
      maps = λ n x y e f.
          let (z, g) = up_too (of_node old.lives.items n) (of_node mid.lives.items n) x e (a.only.lives n) in
          b.only.maps n z y g f ∙ a.only.maps n x z e g;
      beside = λ n x y e f.
          let (z, g) = up_too (of_node old.lives.items n) (of_node mid.lives.items n) x e (a.only.lives n) in
          reads_more x z y (a.only.beside n x z e g) (b.only.beside n z y g f);
      falls = b.only.falls ∙ a.only.falls;
      slots = λ slots s. b.only.slots (f slots) (a.only.slots slots s);
    };
    works = b.works;
  }

  pub noticed_none : (nodes : Nodes D) → CanWorkOn on.seen plan nodes.lives.items nodes.disks.items → Noticed on plan (λ slots. slots) nodes nodes
  noticed_none nodes works = record { only = record { plan = refl; disks = refl; lives = λ n. refl; maps = λ n x y e f. ap (λ (z : WholeNode). z.maps) (up_same y x (some_same (Up y) (Up x) (sym f ∙ e))); beside = λ n x y e f. same_reads x y (up_same y x (some_same (Up y) (Up x) (sym f ∙ e))); falls = refl; slots = λ slots s. s }; works = works }

  pub missed_last : (kind : MishapKind) (letters : List Letter) (letter : Letter) (old new : Nodes D) → Noticed on plan (λ slots. missed kind (all_missed kind slots letters) letter) old new
      → Noticed on plan (λ slots. all_missed kind slots (letters ++ letter ∷ [])) old new
  missed_last kind letters letter old new n = record {
    only = record {
      plan = n.only.plan;
      disks = n.only.disks;
      lives = n.only.lives;
      maps = n.only.maps;
      beside = n.only.beside;
      falls = n.only.falls;
      slots = λ slots s. subst (λ xs. SlotsStand on new.lives.items new.disks.items xs) (sym (missed_more kind slots letters letter)) (n.only.slots slots s);
    };
    works = n.works;
  }

pub take_more : {X : Type 0} (xs : List X) (k : ℕ) (x : X) → slice_get xs k ≡ Some x → take (suc k) xs ≡ take k xs ++ x ∷ []
take_more [] k x e = absurd (let never : None ≡ Some x = e in cc)
take_more {X} (y ∷ xs) zero x e = ap (λ (z : X). z ∷ []) (some_same y x e)
take_more {X} (y ∷ xs) (suc k) x e = ap (λ (zs : List X). y ∷ zs) (take_more xs k x e)

pub take_whole : {X : Type 0} (xs : List X) (k : ℕ) → length xs ≤ k → take k xs ≡ xs
take_whole [] zero h = refl
take_whole [] (suc k) h = refl
take_whole {X} (x ∷ xs) zero h = absurd (omega (arith, h))
take_whole {X} (x ∷ xs) (suc k) h = ap (λ (zs : List X). x ∷ zs) (take_whole xs k (omega (arith, h)))

suc_is : (k : ℕ) → suc k ≡ k + 1
suc_is k = omega arith

-- one letter more
pub one_more_noted : {D : Type 0} (on : View D) (kind : MishapKind) (letters : List Letter) (k : ℕ) (letter : Letter) (old mid new : Nodes D) → slice_get letters k ≡ Some letter
    → Noticed on old.plan (λ slots. all_missed kind slots (take k letters)) old mid → Noticed on mid.plan (λ slots. missed kind slots letter) mid new
    → Noticed on old.plan (λ slots. all_missed kind slots (take (k + 1) letters)) old new
one_more_noted on kind letters k letter old mid new here a b =
    let step = missed_last on old.plan kind (take k letters) letter old new
    (noticed_more on old.plan (λ slots. all_missed kind slots (take k letters)) (λ slots. missed kind slots letter) old mid new a (subst (λ p. Noticed on p (λ slots. missed kind slots letter) mid new) a.only.plan b)) in
    subst (λ xs. Noticed on old.plan (λ slots. all_missed kind slots xs) old new) (sym (take_more letters k letter here) ∙ ap (λ i. take i letters) (suc_is k)) step

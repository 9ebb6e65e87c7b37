-- A mishap of a letter of a call that reads is the machine's, and nothing else has changed.
use Rattle.std.proofs.Common.{◌≡◌, ⊎_elim, ℕ, zero, suc, ◌+◌, ◌<◌, ◌≤◌, Bool, true, List, [], ◌∷◌, length, map, Option, Some, None, refl, sym, ap, ◌∙◌, subst, arith}
use Rattle.std.specs.Prelude.{slice_get}
use Rattle.mail_model.specs.Plan.{Plan}
use Rattle.mail_model.specs.Record.{Record}
use Rattle.object_model.specs.Letters.{Number, Letter}
use Rattle.object_model.specs.Lists.{Among}
use Rattle.object_model.specs.Mishaps.{MishapKind}
use Rattle.session_model.specs.Events.{NodeLife}
use Rattle.cluster_model.specs.Cluster as plain
use Rattle.login_model.specs.Facts.{far_end}
use Rattle.joint_model.specs.Joint as joint
use Rattle.joint_model.specs.Joint.{read_node}
use Rattle.joint_world.specs.Rules.{Reaction, befallen}
use Rattle.joint_world.specs.Putting.{Missed, missed_by, missed_at, missed_under, missed}
use Rattle.joint_world.specs.Ending.{chances_in}
use Rattle.joint_world.proofs.Ending.{mishap_of, mishap_falls}
use Rattle.node_store.specs.Disks.{View}
use Rattle.node_core.specs.Nodes.{node_seen, IsNodeOf, NodeKeeps}
use Rattle.node_reads.specs.Readings.{listed}
use Rattle.whole_node.specs.Nodes as whole_node
use Rattle.whole_node.specs.Nodes.{WholeWorks, joint_seen}
use Rattle.whole_node.specs.ReadTickets.{BefallsRead}
use Rattle.whole_node.specs.declared.node.WholeNode.{WholeNode}
use Rattle.cluster_world.specs.Changes.{ChangesNode}
use Rattle.cluster_world.specs.Lives.{life_seen, of_node, with_node_at, falls_left, all_falls_left, CanWorkOn}
use Rattle.cluster_world.specs.Noting.{LifeChanges}
use Rattle.cluster_world.specs.Reading.{AllStand, StaysBeside, LifeBefell, LivesBefell, BefellUnder, chances_of_life, chances_for, AreFor, HasBefallen}
use Rattle.cluster_world.specs.Stands.{SlotStands}
use Rattle.cluster_world.specs.Worlds.{seen_life}
use Rattle.cluster_world.specs.declared.life.Life.{Life}
use Rattle.cluster_world.specs.declared.life.Life.TheVariants.{Up, Down, Lost}
use Rattle.cluster_world.specs.declared.nodes.Nodes.{Nodes}
use Rattle.cluster_world.proofs.Befallen.{turned_still, within_of}
use Rattle.cluster_world.proofs.Changing.{there, changed_at, set_same}
use Rattle.cluster_world.proofs.ReadSlots.{FitsLife, slot_for, up_for, stands_kept, fits_seen, all_changed, all_same, mail_of}
use Rattle.cluster_world.proofs.Turned.{lives_turned, still_ready, falls_now, life_there}
use Rattle.cluster_world.proofs.Turning.{up_same}

-- a node that works has what a call asks of it
pub has_reads : (seen : Option (List ℕ)) (node : WholeNode) → WholeWorks seen node → whole_node.HasReads node
has_reads seen node works = record { whole = works.mail.whole; maps = works.maps; reads = works.reads }

pub all_have_reads : {D : Type 0} (seen : D → Option (List ℕ)) (plan : Plan) (lives : List Life) (disks : List D) → length disks ≡ length lives → CanWorkOn seen plan lives disks
    → (k : ℕ) (node : WholeNode) → slice_get lives k ≡ Some (Up node) → whole_node.HasReads node
all_have_reads seen plan lives disks even works k node here =
    let (disk, held) = there disks k (omega (arith, even, within_of lives k (Up node) here)) in
    has_reads (seen disk) node (works.each k node disk here held).1

-- the life that it leaves, with its disk
abbrev pub Befell : MishapKind → ℕ → Number → Option Letter → (D : Type 0) → Life → D → Life → D → Type 0
Befell kind at number out D life disk life' disk' = LifeBefell kind at number out life life' × (disk' ≡ disk)

-- A mishap that a node notes leaves one of three lives: one that is up, or down, or lost.
pub data Kind (kind : MishapKind) (at : ℕ) (number : Number) (out : Option Letter) (life life' : Life) : Type 0 where
  WasUp : (old new : WholeNode) → life ≡ Up old → life' ≡ Up new → BefallsRead kind at number out old new → new.mail ≡ old.mail → ((seen : Option (List ℕ)) → WholeWorks seen old → WholeWorks seen new) → Kind kind at number out life life'
  WasDown : life ≡ Down → life' ≡ Down → out ≡ None → Kind kind at number out life life'
  WasLost : life ≡ Lost → life' ≡ Lost → out ≡ None → Kind kind at number out life life'

pub kind_of : (kind : MishapKind) (at : ℕ) (number : Number) (out : Option Letter) (life life' : Life) → LifeBefell kind at number out life life' → Kind kind at number out life life'
kind_of kind at number out (Up old) (Up new) (does, mail, works) = WasUp old new refl refl does mail works
kind_of kind at number out Down Down none = WasDown refl refl none
kind_of kind at number out Lost Lost none = WasLost refl refl none
kind_of kind at number out (Up old) Down n = absurd n
kind_of kind at number out (Up old) Lost n = absurd n
kind_of kind at number out Down (Up new) n = absurd n
kind_of kind at number out Down Lost n = absurd n
kind_of kind at number out Lost (Up new) n = absurd n
kind_of kind at number out Lost Down n = absurd n

same_at : {X : Type 0} (xs : List X) (n : ℕ) (x : X) → of_node xs n ≡ Some x → with_node_at xs n x ≡ xs
same_at xs zero x e = refl
same_at xs (suc k) x e = set_same xs k x e

life_up_same : (a b : joint.Node) → ◌≡◌ {A = joint.Life} (joint.Life.Up a) (joint.Life.Up b) → a ≡ b
life_up_same a b e = cc

module _ (kind : MishapKind) (at : ℕ) (number : Number) (out : Option Letter) (life life' : Life) (befell : LifeBefell kind at number out life life') where
  -- it is told as before
  seen_as_before : life_seen life' ≡ life_seen life
  seen_as_before = by (kind_of kind at number out life life' befell)
    where
      by : Kind kind at number out life life' → life_seen life' ≡ life_seen life
      by (WasUp old new was is does mail keeps) = ap life_seen is ∙ ap (λ m. NodeLife.Up (node_seen m).boot) mail ∙ sym (ap life_seen was)
      by (WasDown was is none) = ap life_seen (is ∙ sym was)
      by (WasLost was is none) = ap life_seen (is ∙ sym was)

  falls_as_before : falls_left life' ≡ falls_left life
  falls_as_before = by (kind_of kind at number out life life' befell)
    where
      by : Kind kind at number out life life' → falls_left life' ≡ falls_left life
      by (WasUp old new was is does mail keeps) = ap falls_left is ∙ sym (ap falls_left was)
      by (WasDown was is none) = ap falls_left (is ∙ sym was)
      by (WasLost was is none) = ap falls_left (is ∙ sym was)

  -- it works on
  works_on : (plan : Plan) (own : ℕ) (seen : Option (List ℕ)) → ((node : WholeNode) → life ≡ Up node → IsNodeOf plan own node.mail × WholeWorks seen node) → (node : WholeNode) → life' ≡ Up node → IsNodeOf plan own node.mail × WholeWorks seen node
  works_on plan own seen was node e = by (kind_of kind at number out life life' befell)
    where
      by : Kind kind at number out life life' → IsNodeOf plan own node.mail × WholeWorks seen node
      by (WasUp old new up is does mail keeps) =
          let same : new ≡ node = up_same new node (sym is ∙ e) in
          let one = was old up in
          subst (λ x. IsNodeOf plan own x.mail × WholeWorks seen x) same (subst (λ m. IsNodeOf plan own m) (sym mail) one.0, keeps seen one.1)
      by (WasDown up is none) = absurd (let never : Down ≡ Up node = sym is ∙ e in cc)
      by (WasLost up is none) = absurd (let never : Lost ≡ Up node = sym is ∙ e in cc)

module _ {D : Type 0} (on : View D) (plan : Plan) (kind : MishapKind) where
  -- nothing was noted
  stays_beside : (old new : Nodes D) → new.plan ≡ old.plan → new.disks.items ≡ old.disks.items → new.lives.items ≡ old.lives.items → StaysBeside on.seen old new
  stays_beside old new p d l = record {
    plan = p;
    disks = d;
    lives = λ n. ap (λ xs. seen_life (of_node xs n)) l;
    falls = ap all_falls_left l;
    works = λ w. subst (λ q. CanWorkOn on.seen q new.lives.items new.disks.items) (sym p) (subst (λ xs. CanWorkOn on.seen old.plan xs new.disks.items) (sym l) (subst (λ xs. CanWorkOn on.seen old.plan old.lives.items xs) (sym d) w));
  }

  module _ (letter : Letter) (out : Option Letter) (old new : Nodes D) (works : CanWorkOn on.seen old.plan old.lives.items old.disks.items) where
    nothing : ((tells : Bool) (slots : List joint.Slot) → AllStand on old.lives.items old.disks.items slots → missed tells kind slots letter ≡ record { slots = slots; out = [] })
        → new.plan ≡ old.plan → new.disks.items ≡ old.disks.items → new.lives.items ≡ old.lives.items → out ≡ None → HasBefallen on kind letter out old new
    nothing same p d l none = record {
      beside = stays_beside old new p d l;
      none = λ _. none;
      each = λ tells slots s.
          let e = same tells slots s in
          (subst (λ (m : Missed). AllStand on new.lives.items new.disks.items m.slots) (sym e) (all_same on old new slots l d s), ap listed none ∙ sym (ap (λ (m : Missed). m.out) e));
      fewer = λ ticket of. subst (λ (o : Option Letter). AreFor ticket (listed o) × (length (listed o) + chances_for new.lives.items ticket ≤ chances_for old.lives.items ticket)) (sym none)
          ((λ one among. absurd among), subst (λ xs. 0 + chances_for new.lives.items ticket ≤ chances_for xs ticket) l (omega arith));
    }

    module _ (number : Number) (here : letter.ticket ≡ Some number) where
      abbrev at : ℕ
      at = far_end letter number

      own_node : (n : ℕ) (life : Life) (disk : D) → of_node old.lives.items n ≡ Some life → of_node old.disks.items n ≡ Some disk → (node : WholeNode) → life ≡ Up node → IsNodeOf old.plan n node.mail × WholeWorks (on.seen disk) node
      own_node zero life disk a b node e = absurd (let never : None ≡ Some life = a in cc)
      own_node (suc k) life disk a b node e = works.each k node disk (a ∙ ap Some e) b

      -- what the machine makes of the slots
      missed_is : (tells : Bool) (slots : List joint.Slot) (slot : joint.Slot) → joint.slot_at slots number.node ≡ Some slot → missed tells kind slots letter ≡ missed_by tells kind slots letter number slot.disk slot.life
      missed_is tells slots slot e = ap (missed_under tells kind slots letter) here ∙ ap (missed_at tells kind slots letter number) e

      one_noted : ChangesNode number.node (λ l d l' d'. Befell kind at number out D l d l' d') old new → HasBefallen on kind letter out old new
      one_noted ch = by (kind_of kind at number out ch.life ch.life' ch.does.0)
        where
          P : Life → D → Life → D → Type 0
          P l d l' d' = Befell kind at number out D l d l' d'

          disk_same : ch.disk' ≡ ch.disk
          disk_same = ch.does.1

          beside : StaysBeside on.seen old new
          beside = record {
            plan = ch.plan;
            disks = ch.disks_are ∙ same_at old.disks.items number.node ch.disk' (ch.held ∙ ap Some (sym disk_same));
            lives = λ m. lives_turned number.node P old new ch m
                ∙ turned_still number.node m (λ k. seen_life (of_node old.lives.items k)) (life_seen ch.life') (seen_as_before kind at number out ch.life ch.life' ch.does.0 ∙ sym (ap seen_life ch.was));
            falls = omega (arith, falls_now number.node P old new ch, falls_as_before kind at number out ch.life ch.life' ch.does.0);
            works = λ w. subst (λ q. CanWorkOn on.seen q new.lives.items new.disks.items) (sym ch.plan)
                (still_ready number.node P old new ch on.seen old.plan w
                (λ node up. works_on kind at number out ch.life ch.life' ch.does.0 old.plan number.node (on.seen ch.disk') (λ was up'.
                subst (λ d. IsNodeOf old.plan number.node was.mail × WholeWorks (on.seen d) was) (sym disk_same) (own_node number.node ch.life ch.disk ch.was ch.held was up')) node up));
          }

          -- where the life is as it was
          still : ch.life' ≡ ch.life → out ≡ None → ((tells : Bool) (slots : List joint.Slot) (slot : joint.Slot) → SlotStands on number.node ch.life ch.disk (mail_of slot) → missed_by tells kind slots letter number slot.disk slot.life ≡ record { slots = slots; out = [] })
              → HasBefallen on kind letter out old new
          still same none rule = nothing
              (λ tells slots s. let (slot, there, stands) = slot_for on old.lives.items old.disks.items slots s number.node ch.life ch.disk ch.was ch.held in missed_is tells slots slot there ∙ rule tells slots slot stands)
              ch.plan beside.disks (ch.lives_are ∙ same_at old.lives.items number.node ch.life' (ch.was ∙ ap Some (sym same))) none

          by_down : (slots : List joint.Slot) (tells : Bool) (disk : List Record) (life : joint.Life) → ((node : joint.Node) → life ≡ joint.Life.Up node → ⊥) → missed_by tells kind slots letter number disk life ≡ record { slots = slots; out = [] }
          by_down slots tells disk (joint.Life.Up node) not_up = absurd (not_up node refl)
          by_down slots tells disk (joint.Life.Down pending) not_up = refl
          by_down slots tells disk joint.Life.Lost not_up = refl

          not_up : (slot : joint.Slot) (l : plain.Life) → (mail_of slot).life ≡ l → ((node : plain.Node) → l ≡ plain.Life.Up node → ⊥) → (node : joint.Node) → slot.life ≡ joint.Life.Up node → ⊥
          not_up slot l is none node up = none node.whole.mail (sym is ∙ ap (λ x. Rattle.whole_model.specs.Whole.mail_life (joint.whole_life x)) up)

          by : Kind kind at number out ch.life ch.life' → HasBefallen on kind letter out old new
          by (WasDown was is none) = still (is ∙ sym was) none (λ tells slots slot stands.
              let (pending, is_down, fit, holds) = subst (λ l. SlotStands on number.node l ch.disk (mail_of slot)) was stands in
              by_down slots tells slot.disk slot.life (not_up slot (plain.Life.Down pending) is_down (λ node e. let never : plain.Life.Down pending ≡ plain.Life.Up node = e in cc)))
          by (WasLost was is none) = still (is ∙ sym was) none (λ tells slots slot stands.
              let (is_lost, fit, holds) = subst (λ l. SlotStands on number.node l ch.disk (mail_of slot)) was stands in
              by_down slots tells slot.disk slot.life (not_up slot plain.Life.Lost is_lost (λ node e. let never : plain.Life.Lost ≡ plain.Life.Up node = e in cc)))
          by (WasUp a b was is does mail keeps) = record {
            beside = beside;
            none = λ none. absurd (let never : None ≡ Some number = sym none ∙ here in cc);
            each = λ tells slots s.
                let up = up_for on old.lives.items old.disks.items slots s number.node a ch.disk (ch.was ∙ ap Some was) ch.held in
                let own : IsNodeOf old.plan number.node a.mail × WholeWorks (on.seen ch.disk) a = own_node number.node ch.life ch.disk ch.was ch.held a was in
                let rule = ruled tells up.records up.stands.keeps own.0.own_is in
                let m : missed tells kind slots letter ≡ missed_by tells kind slots letter number up.records (joint.Life.Up (joint_seen a)) = missed_is tells slots (joint.slot_up (joint_seen a) up.records) up.here in
                let node_is = ap (λ (r : Reaction). r.node) rule in (
                  subst (λ (x : Missed). AllStand on new.lives.items new.disks.items x.slots) (sym m)
                      (subst (λ (x : joint.Node). AllStand on new.lives.items new.disks.items (joint.with_slot slots number.node (joint.slot_up x up.records))) node_is
                      (all_changed number.node P old new ch on slots (joint.slot_up (joint_seen a) up.records) (joint.slot_up (joint_seen b) up.records) s up.here
                      (subst (λ l. SlotStands on number.node l ch.disk' (mail_of (joint.slot_up (joint_seen b) up.records))) (sym is)
                      (subst (λ d. SlotStands on number.node (Up b) d (mail_of (joint.slot_up (joint_seen b) up.records))) (sym disk_same)
                      (node_seen b.mail, refl, stands_kept on number.node a b ch.disk up.records does.mail up.stands)))
                      (subst (λ l. FitsLife l (joint.slot_up (joint_seen b) up.records)) (sym is) (fits_seen b up.records)))),
                  ap (λ (r : Reaction). r.out) rule ∙ sym (ap (λ (x : Missed). x.out) m),
                );
            fewer = λ ticket of. ⊎_elim
                (λ none. absurd (let never : None ≡ Some number = sym none ∙ here in cc))
                (λ same. subst (λ (t : Option Number). AreFor t (listed out) × (length (listed out) + chances_for new.lives.items t ≤ chances_for old.lives.items t)) (sym here ∙ same) taken)
                of;
          }
            where
              ruled : (tells : Bool) (records : List Record) → NodeKeeps records a.mail → a.mail.store.own ≡ number.node
                  → record { node = joint_seen b; out = listed out } ≡ befallen tells number.node kind at (joint_seen a) number
              ruled tells records keeps_records own_is = does.did tells records keeps_records ∙ ap (λ n. befallen tells n kind at (joint_seen a) number) own_is

              taken : AreFor (Some number) (listed out) × (length (listed out) + chances_for new.lives.items (Some number) ≤ chances_for old.lives.items (Some number))
              taken =
                  let own = own_node number.node ch.life ch.disk ch.was ch.held a was in
                  let rule = ruled true own.1.maps.records own.1.maps.keeps own.0.own_is in
                  let out_is = ap (λ (r : Reaction). r.out) rule in
                  let node_is = ap (λ (r : Reaction). r.node) rule in
                  let falls = mishap_falls number.node kind at (read_node true (joint_seen a)) number in
                  let old_is : of_node old.lives.items number.node ≡ Some (Up a) = ch.was ∙ ap Some was in
                  let new_is : of_node new.lives.items number.node ≡ Some (Up b) = life_there number.node P old new ch ∙ ap Some is in (
                    λ one among. mishap_of number.node kind at (read_node true (joint_seen a)) number one (subst (λ (l : List Letter). Among one l) out_is among),
                    subst (λ (o : Option Life). length (listed out) + chances_of_life number o ≤ chances_for old.lives.items (Some number)) (sym new_is)
                        (subst (λ (o : Option Life). length (listed out) + chances_in number (joint.Life.Up (joint_seen b)) ≤ chances_of_life number o) (sym old_is)
                        (subst (λ (n : joint.Node). length (listed out) + chances_in number (joint.Life.Up n) ≤ chances_in number (joint.Life.Up (joint_seen a))) (sym node_is)
                        (subst (λ (l : List Letter). length l + chances_in number (joint.Life.Up (befallen true number.node kind at (joint_seen a) number).node) ≤ chances_in number (joint.Life.Up (joint_seen a))) (sym out_is) falls))),
                  )

      lives_befell : new.plan ≡ old.plan → new.disks.items ≡ old.disks.items → length old.disks.items ≡ length old.lives.items → LivesBefell kind at number out old.lives.items new.lives.items → HasBefallen on kind letter out old new
      lives_befell p d even noted = ⊎_elim
          (λ (past, same, none). nothing (λ tells slots s. ap (missed_under tells kind slots letter) here ∙ ap (missed_at tells kind slots letter number) (slot_past slots number.node (omega (arith, past, counted slots s)))) p d same none)
          (λ (c : LifeChanges (LifeBefell kind at number out) number.node old.lives.items new.lives.items).
          let within : c.place < length old.disks.items = omega (arith, even, within_of old.lives.items c.place c.from c.was) in
          let (disk, held) = there old.disks.items c.place within in
          one_noted (changed_at number.node c.place (λ l d l' d'. Befell kind at number out D l d l' d') old new c.from c.to disk disk c.at c.was held p c.becomes
          (d ∙ sym (set_same old.disks.items c.place disk held)) (c.step, refl)))
          noted
        where
          map_length : {X Y : Type 0} (f : X → Y) (xs : List X) → length (map f xs) ≡ length xs
          map_length f [] = refl
          map_length f (x ∷ xs) = ap suc (map_length f xs)

          counted : (slots : List joint.Slot) → AllStand on old.lives.items old.disks.items slots → length slots ≡ length old.lives.items
          counted slots s = sym (map_length Rattle.whole_model.specs.Whole.mail_slot (map joint.whole_slot slots) ∙ map_length joint.whole_slot slots) ∙ s.mail.count

          get_past : (slots : List joint.Slot) (k : ℕ) → length slots ≤ k → slice_get slots k ≡ None
          get_past [] k h = refl
          get_past (x ∷ slots) zero h = absurd (omega (arith, h))
          get_past (x ∷ slots) (suc k) h = get_past slots k (omega (arith, h))

          slot_past : (slots : List joint.Slot) (n : ℕ) → length slots < n → joint.slot_at slots n ≡ None
          slot_past slots zero past = absurd (omega (arith, past))
          slot_past slots (suc k) past = get_past slots k (omega (arith, past))

    -- so it is of a letter
    pub has_befallen : new.plan ≡ old.plan → new.disks.items ≡ old.disks.items → length old.disks.items ≡ length old.lives.items → BefellUnder kind letter letter.ticket out old.lives.items new.lives.items
        → HasBefallen on kind letter out old new
    has_befallen p d even noted = by letter.ticket refl noted
      where
        by : (o : Option Number) → letter.ticket ≡ o → BefellUnder kind letter o out old.lives.items new.lives.items → HasBefallen on kind letter out old new
        by None e (same, none) = nothing (λ tells slots s. ap (missed_under tells kind slots letter) e) p d same none
        by (Some number) e n = lives_befell number e p d even n

-- What a node does for a call that reads keeps what is known of these calls.
use Rattle.std.proofs.Common.{◌≡◌, ◌⊎◌, inl, inr, ⊎_elim, ℕ, Bool, true, false, List, [], ◌∷◌, ◌++◌, append-nil, map, Option, Some, None, refl, sym, ap, ◌∙◌, subst, le_refl}
use Rattle.mail_model.specs.Record.{Record}
use Rattle.object_model.specs.Lists.{Among}
use Rattle.object_model.specs.Mishaps.{MishapKind}
use Rattle.object_model.specs.Letters.{Number, Body, Letter}
use Rattle.object_model.proofs.Lists.{among_front, among_behind, among_either, same_some}
use Rattle.cluster_model.specs.Claims.{boot_of}
use Rattle.cluster_model.specs.World as mail
use Rattle.cluster_model.specs.World.{letters_of}
use Rattle.cluster_model.proofs.Stepping.{letters_both, letters_around, flew}
use Rattle.login_model.specs.Cluster as login
use Rattle.login_model.specs.Readings.{Reading}
use Rattle.object_model.specs.Locks.{Held}
use Rattle.login_model.specs.Rules as login_rules
use Rattle.login_model.specs.Facts.{far_end}
use Rattle.login_model.specs.Moves as login_moves
use Rattle.login_model.specs.Putting.{with_queue}
use Rattle.login_model.specs.NodeLaws as login_laws
use Rattle.login_model.specs.NodeLaws.{lost_moves}
use Rattle.login_model.proofs.Lost.{lost_may, late_may, heard_may}
use Rattle.login_model.proofs.Others.{falls}
use Rattle.joint_model.specs.Joint.{Node, Life, Slot, slot_at, with_slot, slot_up, read_node, read_life, read_slot}
use Rattle.joint_model.specs.Joint.Life.{Up, Down, Lost}
use Rattle.joint_model.proofs.Kept.{read_here, read_set}
use Rattle.joint_model.proofs.Settled.{read_back}
use Rattle.joint_world.specs.World.{World, mail_world_of, reads_of, IsUp}
use Rattle.joint_world.specs.Rules.{reacted, befallen}
use Rattle.joint_world.specs.Putting.{Missed, missed_by, missed_at, missed_under, missed, Puts}
use Rattle.joint_world.specs.Makes.{learnt, Does, fallen}
use Rattle.joint_world.specs.Laws.{TellAlike, HasGrown}
use Rattle.joint_world.proofs.Rules.{Alone, seen_is}
use Rattle.joint_world.proofs.Since.{Keeps, Going, going_self, going_on, all_going}
use Rattle.joint_world.proofs.Views.{alike_more, SameDisks, disks_on, disks_write, OfDisks, of_disks, of_disks_on}
use Rattle.joint_world.proofs.Putting.{Grown, one_more, noted_slots, puts_sound, missed_disks, puts_disks}

-- a step of a call that reads: what is known of these calls is known with a longer story, and no disk changes
pub record Kept (base : List login.Slot) (tells : Bool) (story : List (List login.Slot)) (old new : World) : Type 0 where
  pub grown : Grown tells old.slots story (λ now. Going base (reads_of tells now new))
  pub disks : SameDisks old.slots new.slots

-- letters about one that is taken out or kept
pub left_of : (w : World) (number : ℕ) (flies : mail.Flies (mail_world_of w) number) (keep : Bool) (one : Letter) → Among one (letters_of (mail.flies_on (mail_world_of w) number flies keep)) → Among one (letters_of w.flying)
left_of w number flies true one m = m
left_of w number flies false one m = subst (Among one) (sym (letters_around (mail_world_of w) number flies)) (⊎_elim
    (λ front. among_front one (letters_of flies.front) (flies.letter ∷ letters_of flies.back) front)
    (λ back. among_behind one (letters_of flies.front) (flies.letter ∷ letters_of flies.back) (inr back))
    (among_either one (letters_of flies.front) (letters_of flies.back) (subst (Among one) (letters_both flies.front flies.back) m)))

pub others_of : (w : World) (number : ℕ) (flies : mail.Flies (mail_world_of w) number) (keep : Bool) (one : Letter) → Among one (letters_of w.flying)
    → Among one (letters_of (mail.flies_on (mail_world_of w) number flies keep)) ⊎ (one ≡ flies.letter)
others_of w number flies true one m = inl m
others_of w number flies false one m = ⊎_elim
    (λ front. inl (subst (Among one) (sym (letters_both flies.front flies.back)) (among_front one (letters_of flies.front) (letters_of flies.back) front)))
    (λ back. ⊎_elim
    (λ is. inr (sym is))
    (λ more. inl (subst (Among one) (sym (letters_both flies.front flies.back)) (among_behind one (letters_of flies.front) (letters_of flies.back) more))) back)
    (among_either one (letters_of flies.front) (flies.letter ∷ letters_of flies.back) (subst (Among one) (letters_around (mail_world_of w) number flies) m))

module _ (tells : Bool) where
  abbrev R : List (List login.Slot) → World → login.Cluster
  R story w = reads_of tells story w

  -- the moment of these slots
  abbrev seen_slots : List Slot → List login.Slot
  seen_slots slots = map (read_slot tells) slots

  -- a node is turned to what a rule left
  turned_slots : (slots : List Slot) (own : ℕ) (node : Node) (disk : List Record) (did : login_rules.Reaction) (locks : Held) → Alone (read_node tells node) did.node
      → seen_slots (with_slot slots own (slot_up (reacted node did locks).node disk)) ≡ login.with_slot (seen_slots slots) own (login.slot_up did.node disk)
  turned_slots slots own node disk did locks same = read_set tells slots own (slot_up (reacted node did locks).node disk)
      ∙ ap (λ (n : login.Node). login.with_slot (seen_slots slots) own (login.slot_up n disk)) (seen_is tells node did locks same.alone)

  module _ (base : List login.Slot) (story : List (List login.Slot)) (old : World) (alike : TellAlike tells story) (s : Going base (R story old)) where
    abbrev Goal : World → Type 0
    Goal new = Kept base tells story old new

    -- from a moment more
    more : (slots : List Slot) (new : World) → SameDisks old.slots slots → SameDisks slots new.slots → Grown tells slots (seen_slots slots ∷ story) (λ now. Going base (R now new)) → Goal new
    more slots new first second g = record { grown = one_more tells old.slots slots story (λ now. Going base (R now new)) first g; disks = disks_on old.slots slots new.slots first second }

    -- A node that hears nothing does something, and its letters are put in flight.
    module _ (own : ℕ) (node : Node) (disk : List Record) (up : IsUp old own node disk) (did : login_rules.Reaction) (locks : Held) (same : Alone (read_node tells node) did.node)
        (acts : login_moves.IsReady own (login.slot_up (read_node tells node) disk) None → login_moves.IsCallDone (login_laws.act_of own (read_node tells node) disk did None)) where
      abbrev pub turned : World
      turned = record old { slots = with_slot old.slots own (slot_up (reacted node did locks).node disk) }

      slots_are : seen_slots turned.slots ≡ login.with_slot (seen_slots old.slots) own (login.slot_up did.node disk)
      slots_are = turned_slots old.slots own node disk did locks same

      acted : Going base (with_queue (R (seen_slots turned.slots ∷ story) turned) did.out)
      acted = subst (λ (x : List login.Slot). Going base (record { slots = x; flying = letters_of old.flying ++ did.out; story = x ∷ story })) (sym slots_are)
          (going_on base (login_moves.Move.Acted (login_laws.act_of own (read_node tells node) disk did None)) (R story old)
          (read_here tells old.slots own (slot_up node disk) up, (λ ready. (acts ready).is), λ letter e. absurd (cc e)) s)

      pub does_sound : (new : World) → Does tells old own disk (reacted node did locks) new → Goal new
      does_sound new puts = more turned.slots new (disks_write old.slots own (slot_up node disk) (slot_up (reacted node did locks).node disk) up refl) (puts_disks tells did.out turned new puts)
          (puts_sound tells base did.out (seen_slots turned.slots ∷ story) turned new (alike_more tells story turned.slots alike) puts acted)

      -- what stands once the node has acted stays, as its letters are put in flight
      pub does_since : (new : World) → Does tells old own disk (reacted node did locks) new → Keeps (seen_slots turned.slots) (seen_slots new.slots)
      does_since new puts = (puts_sound tells (seen_slots turned.slots) did.out (seen_slots turned.slots ∷ story) turned new (alike_more tells story turned.slots alike) puts
          (going_self (with_queue (R (seen_slots turned.slots ∷ story) turned) did.out) acted.sound)).holds.since

    -- A letter is heard, and taken out or kept.
    pub heard_sound : (number : ℕ) (flies : mail.Flies (mail_world_of old) number) (keep : Bool) (node : Node) (disk : List Record) → IsUp old flies.letter.to node disk → (body : Body) (did : login_rules.Reaction) (locks : Held)
        → Alone (read_node tells (learnt node body)) did.node
        → (login_moves.IsReady flies.letter.to (login.slot_up (read_node tells node) disk) (Some flies.letter) → login_moves.IsCallDone (login_laws.act_of flies.letter.to (read_node tells node) disk did (Some flies.letter)))
        → (new : World) → Does tells (record old { flying = mail.flies_on (mail_world_of old) number flies keep }) flies.letter.to disk (reacted (learnt node body) did locks) new → Goal new
    heard_sound number flies keep node disk up body did locks same acts new puts =
        more turned.slots new (disks_write old.slots own (slot_up node disk) now up refl) (puts_disks tells did.out turned new puts)
        (puts_sound tells base did.out (seen_slots turned.slots ∷ story) turned new (alike_more tells story turned.slots alike) puts acted)
      where
        own : ℕ
        own = flies.letter.to

        left : List Letter
        left = letters_of (mail.flies_on (mail_world_of old) number flies keep)

        now : Slot
        now = slot_up (reacted (learnt node body) did locks).node disk

        turned : World
        turned = record old { slots = with_slot old.slots own (slot_up (reacted (learnt node body) did locks).node disk); flying = mail.flies_on (mail_world_of old) number flies keep }

        slots_are : seen_slots turned.slots ≡ login.with_slot (seen_slots old.slots) own (login.slot_up did.node disk)
        slots_are = turned_slots old.slots own (learnt node body) disk did locks same

        act : login_moves.NodeAct
        act = login_laws.act_of own (read_node tells node) disk did (Some flies.letter)

        moves : List login_moves.Move
        moves = login_moves.Move.Acted act ∷ login_moves.Move.Taken flies.letter (left ++ did.out) ∷ []

        may : login_moves.MayMoves moves (R story old)
        may = heard_may (R story old) s.sound act flies.letter left (read_here tells old.slots own (slot_up node disk) up) refl (flew (mail_world_of old) number flies) refl acts
            (λ one m. left_of old number flies keep one m) (λ one m. others_of old number flies keep one m)

        acted : Going base (with_queue (R (seen_slots turned.slots ∷ story) turned) did.out)
        acted = subst (λ (x : List login.Slot). Going base (record { slots = x; flying = left ++ did.out; story = x ∷ story })) (sym slots_are)
            (all_going base (R story old) moves may s)

    -- The mishap of a letter is noted, and it is taken out or kept.
    pub lost_sound : (kind : MishapKind) (letter : Letter) (left : List Letter) → Among letter (letters_of old.flying) → ((one : Letter) → Among one left → Among one (letters_of old.flying))
        → ((one : Letter) → Among one (letters_of old.flying) → Among one left ⊎ (one ≡ letter))
        → (v : World) → v.slots ≡ (missed tells kind old.slots letter).slots → letters_of v.flying ≡ left → (new : World) → Puts tells (missed tells kind old.slots letter).out v new → Goal new
    lost_sound kind letter left flies fewer others v slots flying new puts = go (missed_under tells kind old.slots letter letter.ticket) refl (of letter.ticket refl)
      where
        Known : Missed → Type 0
        Known m = (grown : List (List login.Slot)) × TellAlike tells grown × HasGrown story grown × ((moment : List login.Slot) → Among moment grown → Among moment story ⊎ OfDisks old.slots moment)
            × Going base (record { slots = seen_slots m.slots; flying = left ++ m.out; story = grown })

        go : (m : Missed) → missed tells kind old.slots letter ≡ m → Known m → Goal new
        go m is (grown, now, grows, disks, sound) =
            let there : v.slots ≡ m.slots = slots ∙ ap (λ (x : Missed). x.slots) is in
            let out : (missed tells kind old.slots letter).out ≡ m.out = ap (λ (x : Missed). x.out) is in
            let ready : Going base (with_queue (R grown v) (missed tells kind old.slots letter).out) =
            subst (λ (c : login.Cluster). Going base c) (λ i. record { slots = seen_slots (sym there i); flying = sym flying i ++ sym out i; story = grown }) sound in
            let g = puts_sound tells base (missed tells kind old.slots letter).out grown v new now puts ready in
            let same : SameDisks old.slots v.slots = subst (SameDisks old.slots) (sym slots) (missed_disks tells kind old.slots letter) in
            record {
              grown = record {
                now = g.now;
                alike = g.alike;
                grows = λ moment k. g.grows moment (grows moment k);
                disks = λ moment k. ⊎_elim (λ inside. disks moment inside) (λ of_. inr (of_disks_on old.slots v.slots moment same of_)) (g.disks moment k);
                holds = g.holds;
              };
              disks = disks_on old.slots v.slots new.slots same (puts_disks tells (missed tells kind old.slots letter).out v new puts);
            }

        -- nothing is noted
        quiet : ((number : Number) → letter.ticket ≡ Some number → (reading : Reading) → login.NodesRead (seen_slots old.slots) number reading → ⊥) → Known (record { slots = old.slots; out = [] })
        quiet nobody = (
          story,
          alike,
          λ moment k. k,
          λ moment k. inl k,
          subst (λ (f : List Letter). Going base (record { slots = seen_slots old.slots; flying = f; story = story })) (sym (append-nil left))
              (all_going base (R story old) (login_moves.Move.Taken letter left ∷ []) (late_may (R story old) letter left fewer others nobody, tt) s),
        )

        number_same : (a b : Number) → Some a ≡ Some b → a ≡ b
        number_same a b e = cc

        -- no node that is up reads for the ticket
        none_up : (number : Number) → letter.ticket ≡ Some number → ((slot : login.Slot) → login.slot_at (seen_slots old.slots) number.node ≡ Some slot → (node : login.Node) → slot.life ≡ login.Life.Up node → ⊥)
            → (other : Number) → letter.ticket ≡ Some other → (reading : Reading) → login.NodesRead (seen_slots old.slots) other reading → ⊥
        none_up number t down other e reading r =
            let same : other ≡ number = number_same other number (sym e ∙ t) in
            down r.slot (subst (λ (n : Number). login.slot_at (seen_slots old.slots) n.node ≡ Some r.slot) same r.here) r.reads.node r.reads.up

        by_life : (number : Number) → letter.ticket ≡ Some number → (slot : Slot) → slot_at old.slots number.node ≡ Some slot → (life : Life) → slot.life ≡ life → Known (missed_by tells kind old.slots letter number slot.disk life)
        by_life number t slot at (Down pending) is = quiet (none_up number t (λ other h node up. clash node (sym (ap (read_life tells) is) ∙ ap (λ (x : login.Slot). x.life)
            (same_some (login.slot_at (seen_slots old.slots) number.node) (read_slot tells slot) other (read_here tells old.slots number.node slot at) h) ∙ up)))
          where
            clash : (node : login.Node) → login.Life.Down ≡ login.Life.Up node → ⊥
            clash node e = cc
        by_life number t slot at Lost is = quiet (none_up number t (λ other h node up. clash node (sym (ap (read_life tells) is) ∙ ap (λ (x : login.Slot). x.life)
            (same_some (login.slot_at (seen_slots old.slots) number.node) (read_slot tells slot) other (read_here tells old.slots number.node slot at) h) ∙ up)))
          where
            clash : (node : login.Node) → login.Life.Lost ≡ login.Life.Up node → ⊥
            clash node e = cc
        by_life number t slot at (Up node) is = (
          seen_slots now ∷ story,
          alike_more tells story now alike,
          λ moment k. inr k,
          λ moment k. ⊎_elim (λ e. inr (subst (OfDisks old.slots) e (of_disks tells old.slots now (disks_write old.slots number.node slot (slot_up (befallen tells number.node kind (far_end letter number) node number).node slot.disk) at refl))))
              (λ stood. inl stood) k,
          subst (λ (x : List login.Slot). Going base (record { slots = x; flying = left ++ rule.out; story = x ∷ story })) (sym (noted_slots tells kind old.slots letter number node slot.disk))
              (all_going base (R story old) (lost_moves number.node (read_node tells node) slot.disk kind letter number left)
              (lost_may (R story old) s.sound kind letter number left t flies fewer others (read_node tells node) slot.disk
              (read_here tells old.slots number.node slot at ∙ ap (λ (l : Life). Some (read_slot tells (record { life = l; disk = slot.disk }))) is)) s),
        )
          where
            rule : login_rules.Reaction
            rule = login_rules.mishap number.node kind (far_end letter number) (read_node tells node) number

            now : List Slot
            now = (missed_by tells kind old.slots letter number slot.disk (Up node)).slots

        by_slot : (number : Number) → letter.ticket ≡ Some number → (o : Option Slot) → slot_at old.slots number.node ≡ o → Known (missed_at tells kind old.slots letter number o)
        by_slot number t None at = quiet (none_up number t (λ other h node up. let r = read_back tells old.slots number.node other h in none_some (slot_at old.slots number.node) r.0 at r.1))
          where
            none_some : (o : Option Slot) (x : Slot) → o ≡ None → o ≡ Some x → ⊥
            none_some o x p q = cc
        by_slot number t (Some slot) at = by_life number t slot at slot.life refl

        of : (ticket : Option Number) → letter.ticket ≡ ticket → Known (missed_under tells kind old.slots letter ticket)
        of None t = quiet (λ number e. absurd (none_some letter.ticket number t e))
          where
            none_some : (o : Option Number) (x : Number) → o ≡ None → o ≡ Some x → ⊥
            none_some o x p q = cc
        of (Some number) t = by_slot number t (slot_at old.slots number.node) refl

    -- a node goes down as its disk fails
    pub fell_sound : (own : ℕ) (node : Node) (disk : List Record) → IsUp old own node disk → Goal (fallen old own disk)
    fell_sound own node disk up = record {
      grown = record {
        now = seen_slots down.slots ∷ story;
        alike = alike_more tells story down.slots alike;
        grows = λ moment m. inr m;
        disks = λ moment m. ⊎_elim (λ e. inr (subst (OfDisks old.slots) e (of_disks tells old.slots down.slots same))) (λ stood. inl stood) m;
        holds = subst (λ (x : List login.Slot). Going base (record { slots = x; flying = letters_of old.flying; story = x ∷ story })) (sym (read_set tells old.slots own (record { life = Down []; disk = disk })))
            (subst (λ (f : List Letter). Going base (record { slots = login.with_slot (seen_slots old.slots) own off; flying = f; story = login.with_slot (seen_slots old.slots) own off ∷ story })) (append-nil (letters_of old.flying))
            (going_on base (login_moves.Move.Acted act) (R story old)
            (read_here tells old.slots own (slot_up node disk) up, (λ ready. falls own act.before login.Life.Down disk None (inl refl) (le_refl (boot_of disk)) ready), λ letter e. absurd (cc e)) s));
      };
      disks = same;
    }
      where
        down : World
        down = fallen old own disk

        same : SameDisks old.slots down.slots
        same = disks_write old.slots own (slot_up node disk) (record { life = Down []; disk = disk }) up refl

        off : login.Slot
        off = record { life = login.Life.Down; disk = disk }

        act : login_moves.NodeAct
        act = record { node = own; before = login.slot_up (read_node tells node) disk; after = off; heard = None; out = [] }

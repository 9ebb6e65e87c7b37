-- In what a node does for a call that reads, and as its letters are put in flight, each new moment of the story has the disks and the maps of the old ones.
use Rattle.std.proofs.Common.{◌≡◌, ◌⊎◌, inl, inr, ⊎_elim, ℕ, zero, suc, ◌+◌, Bool, true, false, List, [], ◌∷◌, ◌++◌, append-nil, append_assoc, map, Option, Some, None, refl, sym, ap, ◌∙◌, subst, if◌then◌else◌}
use Rattle.mail_model.specs.Record.{Record}
use Rattle.object_model.specs.Lists.{Among}
use Rattle.object_model.specs.Locks.{Held}
use Rattle.object_model.specs.Mishaps.{MishapKind}
use Rattle.object_model.specs.Mishaps.MishapKind.{Crowded}
use Rattle.object_model.specs.Letters.{Number, Body, Letter}
use Rattle.object_model.proofs.Lists.{among_front, among_behind, among_either, same_some}
use Rattle.cluster_model.specs.Room.{has_room}
use Rattle.cluster_model.specs.World as mail
use Rattle.cluster_model.specs.World.{letters_of}
use Rattle.cluster_model.proofs.Stepping.{letters_both, flew}
use Rattle.login_model.specs.Cluster as login
use Rattle.login_model.specs.Readings.{Reading}
use Rattle.login_model.specs.Rules as login_rules
use Rattle.login_model.specs.Facts.{IsReadBody, far_end}
use Rattle.login_model.specs.Moves as login_moves
use Rattle.login_model.specs.Moves.{NodeAct, after_move, MayMove}
use Rattle.login_model.specs.Moves.Move.{Acted, Taken}
use Rattle.login_model.specs.Listing.{IsStillSlot, IsStillSince}
use Rattle.login_model.specs.NodeLaws as login_laws
use Rattle.login_model.specs.Parts as login_parts
use Rattle.login_model.specs.Putting.{with_queue}
use Rattle.login_model.proofs.Going.{mishap_goes}
use Rattle.login_model.proofs.Kept.{kept}
use Rattle.login_model.proofs.Lost.{lost_may, late_may, heard_may}
use Rattle.login_model.proofs.Reacts.{same_up}
use Rattle.login_model.proofs.Still.{act_still, since_more}
use Rattle.joint_model.specs.Joint.{Node, Life, Slot, slot_at, with_slot, slot_up, read_node, read_life, read_slot}
use Rattle.joint_model.specs.Joint.Life.{Up, Down, Lost}
use Rattle.joint_model.specs.Laws.{ChangesTicketsAlone}
use Rattle.joint_model.proofs.Kept.{read_here, read_set}
use Rattle.joint_model.proofs.Settled.{read_back}
use Rattle.joint_world.specs.World.{World, mail_world_of, reads_of, IsUp, with_letter}
use Rattle.joint_world.specs.Rules.{reacted}
use Rattle.joint_world.specs.Putting.{Missed, missed_by, missed_at, missed_under, missed, put, Puts}
use Rattle.joint_world.specs.Makes.{Does, learnt}
use Rattle.joint_world.proofs.Putting.{noted_slots}
use Rattle.joint_world.proofs.Reading.{left_of, others_of}
use Rattle.joint_world.proofs.Rules.{Alone, seen_is, mishap_alone}

-- What is known of calls that read is known with a story that is still since these moments, and all letters in flight are of such calls.
pub record Goes (base : List (List login.Slot)) (w : login.Cluster) : Type 0 where
  pub sound : login_parts.Sound w
  pub since : IsStillSince base w.slots w.story
  pub letters : (letter : Letter) → Among letter w.flying → IsReadBody letter.body

module _ (base : List (List login.Slot)) (w : login.Cluster) where
  pub goes_acted : (act : NodeAct) → MayMove (Acted act) w → IsStillSlot act.before act.after → ((one : Letter) → Among one act.out → IsReadBody one.body) → Goes base w → Goes base (after_move (Acted act) w)
  goes_acted act may still reads g = record {
    sound = kept (Acted act) w may g.sound;
    since = since_more base w.story w.slots (login.with_slot w.slots act.node act.after) g.since (act_still w.slots act.node act.before act.after may.0 still);
    letters = λ letter m. ⊎_elim (λ old. g.letters letter old) (λ new. reads letter new) (among_either letter w.flying act.out m);
  }

  pub goes_taken : (letter : Letter) (left : List Letter) → MayMove (Taken letter left) w → Goes base w → Goes base (after_move (Taken letter left) w)
  goes_taken letter left may g = record {
    sound = kept (Taken letter left) w may g.sound;
    since = g.since;
    letters = λ one m. g.letters one (may.0 one m);
  }

-- a rule changes tickets alone
pub rule_still : (node new : login.Node) (disk : List Record) → ChangesTicketsAlone node new → IsStillSlot (login.slot_up node disk) (login.slot_up new disk)
rule_still node new disk same = record {
  disk = refl;
  maps = λ old now a b.
      let x = same_up node old a in
      let y = same_up new now b in
      (sym (ap (λ (k : login.Node). k.named) x) ∙ sym same.named ∙ ap (λ (k : login.Node). k.named) y, sym (ap (λ (k : login.Node). k.manager) x) ∙ sym same.manager ∙ ap (λ (k : login.Node). k.manager) y);
  up = λ old a. (new, refl);
}

module _ (tells : Bool) (base : List (List login.Slot)) where
  abbrev R : List (List login.Slot) → World → login.Cluster
  R story w = reads_of tells story w

  abbrev pub seen_slots : List Slot → List login.Slot
  seen_slots slots = map (read_slot tells) slots

  abbrev as_seen : List Slot → List Letter → List (List login.Slot) → login.Cluster
  as_seen slots flying story = record { slots = seen_slots slots; flying = flying; story = story }

  -- so it goes on with some story
  pub record GoesOn (w : World) : Type 0 where
    pub story : List (List login.Slot)
    pub goes : Goes base (R story w)

  -- a letter is taken out, with its mishap
  record GoesLost (left : List Letter) (m : Missed) : Type 0 where
    story : List (List login.Slot)
    goes : Goes base (as_seen m.slots (left ++ m.out) story)

  module _ (kind : MishapKind) (letter : Letter) (slots : List Slot) (flying left : List Letter) (story : List (List login.Slot)) (g : Goes base (as_seen slots flying story)) (flies : Among letter flying)
      (fewer : (one : Letter) → Among one left → Among one flying) (others : (one : Letter) → Among one flying → Among one left ⊎ (one ≡ letter)) where
    -- nothing is noted
    quiet : ((number : Number) → letter.ticket ≡ Some number → (reading : Reading) → login.NodesRead (seen_slots slots) number reading → ⊥) → GoesLost left (record { slots = slots; out = [] })
    quiet nobody = record {
      story = story;
      goes = subst (λ (f : List Letter). Goes base (as_seen slots f story)) (sym (append-nil left)) (goes_taken base (as_seen slots flying story) letter left (late_may (as_seen slots flying story) letter left fewer others nobody) g);
    }

    number_same : (a b : Number) → Some a ≡ Some b → a ≡ b
    number_same a b e = cc

    -- no node that is up reads for the ticket
    none_up : (number : Number) → letter.ticket ≡ Some number → ((slot : login.Slot) → login.slot_at (seen_slots slots) number.node ≡ Some slot → (node : login.Node) → slot.life ≡ login.Life.Up node → ⊥)
        → (other : Number) → letter.ticket ≡ Some other → (reading : Reading) → login.NodesRead (seen_slots slots) other reading → ⊥
    none_up number t down other e reading r =
        let same : other ≡ number = number_same other number (sym e ∙ t) in
        down r.slot (subst (λ (n : Number). login.slot_at (seen_slots slots) n.node ≡ Some r.slot) same r.here) r.reads.node r.reads.up

    off : (number : Number) → letter.ticket ≡ Some number → (slot : Slot) → slot_at slots number.node ≡ Some slot → (life : Life) → slot.life ≡ life → ((node : login.Node) → read_life tells life ≡ login.Life.Up node → ⊥)
        → GoesLost left (record { slots = slots; out = [] })
    off number t slot at life is clash = quiet (none_up number t (λ other h node up. clash node (sym (ap (read_life tells) is) ∙ ap (λ (x : login.Slot). x.life)
        (same_some (login.slot_at (seen_slots slots) number.node) (read_slot tells slot) other (read_here tells slots number.node slot at) h) ∙ up)))

    by_life : (number : Number) → letter.ticket ≡ Some number → (slot : Slot) → slot_at slots number.node ≡ Some slot → (life : Life) → slot.life ≡ life → GoesLost left (missed_by tells kind slots letter number slot.disk life)
    by_life number t slot at (Down pending) is = off number t slot at (Down pending) is clash
      where
        clash : (node : login.Node) → login.Life.Down ≡ login.Life.Up node → ⊥
        clash node e = cc
    by_life number t slot at Lost is = off number t slot at Lost is clash
      where
        clash : (node : login.Node) → login.Life.Lost ≡ login.Life.Up node → ⊥
        clash node e = cc
    by_life number t slot at (Up node) is = record {
      story = seen_slots now ∷ story;
      goes = subst (λ (x : List login.Slot). Goes base (record { slots = x; flying = left ++ rule.out; story = x ∷ story })) (sym (noted_slots tells kind slots letter number node slot.disk))
          (goes_taken base (after_move (Acted act) (as_seen slots flying story)) letter (left ++ rule.out) may.1.0
          (goes_acted base (as_seen slots flying story) act may.0
          (rule_still (read_node tells node) rule.node slot.disk (mishap_alone number.node kind (far_end letter number) (read_node tells node) number).0.alone)
          (λ one m. (mishap_goes number.node kind (far_end letter number) (read_node tells node) number one m).body) g));
    }
      where
        rule : login_rules.Reaction
        rule = login_rules.mishap number.node kind (far_end letter number) (read_node tells node) number

        act : NodeAct
        act = login_laws.act_of number.node (read_node tells node) slot.disk rule None

        may : login_moves.MayMoves (Acted act ∷ Taken letter (left ++ rule.out) ∷ []) (as_seen slots flying story)
        may = lost_may (as_seen slots flying story) g.sound kind letter number left t flies fewer others (read_node tells node) slot.disk
            (read_here tells slots number.node slot at ∙ ap (λ (l : Life). Some (read_slot tells (record { life = l; disk = slot.disk }))) is)

        now : List Slot
        now = (missed_by tells kind slots letter number slot.disk (Up node)).slots

    by_slot : (number : Number) → letter.ticket ≡ Some number → (o : Option Slot) → slot_at slots number.node ≡ o → GoesLost left (missed_at tells kind slots letter number o)
    by_slot number t None at = quiet (none_up number t (λ other h node up. let r = read_back tells slots number.node other h in none_some (slot_at slots number.node) r.0 at r.1))
      where
        none_some : (o : Option Slot) (x : Slot) → o ≡ None → o ≡ Some x → ⊥
        none_some o x p q = cc
    by_slot number t (Some slot) at = by_life number t slot at slot.life refl

    by_ticket : (ticket : Option Number) → letter.ticket ≡ ticket → GoesLost left (missed_under tells kind slots letter ticket)
    by_ticket None t = quiet (λ number e. absurd (none_some letter.ticket number t e))
      where
        none_some : (o : Option Number) (x : Number) → o ≡ None → o ≡ Some x → ⊥
        none_some o x p q = cc
    by_ticket (Some number) t = by_slot number t (slot_at slots number.node) refl

    lost_goes : GoesLost left (missed tells kind slots letter)
    lost_goes = by_ticket letter.ticket refl

  -- letters are put in flight
  puts_all : (fuel : ℕ) (queue : List Letter) (story : List (List login.Slot)) (w new : World) → put tells fuel queue w ≡ Some new → Goes base (with_queue (R story w) queue) → GoesOn new
  puts_all fuel [] story w new e g = subst GoesOn (some_is w new e) (record { story = story; goes = subst (λ (f : List Letter). Goes base (as_seen w.slots f story)) (append-nil (letters_of w.flying)) g })
    where
      some_is : (a b : World) → Some a ≡ Some b → a ≡ b
      some_is a b p = cc
  puts_all zero (letter ∷ queue) story w new e g = absurd (cc e)
  puts_all (suc fuel) (letter ∷ queue) story w new e g = by (has_room w.flying letter) (λ q s v f h. puts_all fuel q s v new f h) e
    where
      flying : List Letter
      flying = letters_of w.flying

      m : Missed
      m = missed tells Crowded w.slots letter

      fewer : (one : Letter) → Among one (flying ++ queue) → Among one (flying ++ letter ∷ queue)
      fewer one k = ⊎_elim (λ front. among_front one flying (letter ∷ queue) front) (λ back. among_behind one flying (letter ∷ queue) (inr back)) (among_either one flying queue k)

      others : (one : Letter) → Among one (flying ++ letter ∷ queue) → Among one (flying ++ queue) ⊎ (one ≡ letter)
      others one k = ⊎_elim
          (λ front. inl (among_front one flying queue front))
          (λ back. ⊎_elim (λ is. inr (sym is)) (λ more. inl (among_behind one flying queue more)) back)
          (among_either one flying (letter ∷ queue) k)

      l : GoesLost (flying ++ queue) m
      l = lost_goes Crowded letter w.slots (flying ++ letter ∷ queue) (flying ++ queue) story g (among_behind letter flying (letter ∷ queue) (inl refl)) fewer others

      by : (b : Bool) → ((q : List Letter) (s : List (List login.Slot)) (v : World) → put tells fuel q v ≡ Some new → Goes base (with_queue (R s v) q) → GoesOn new)
          → (if b then put tells fuel queue (with_letter w letter) else put tells fuel (queue ++ m.out) (record w { slots = m.slots })) ≡ Some new → GoesOn new
      by true rest f = rest queue story (with_letter w letter) f (subst (λ (x : List Letter). Goes base (as_seen w.slots x story))
          (sym (append_assoc flying (letter ∷ []) queue) ∙ ap (λ (x : List Letter). x ++ queue) (sym (letters_both w.flying (record { number = w.sent + 1; letter = letter } ∷ [])))) g)
      by false rest f = rest (queue ++ m.out) l.story (record w { slots = m.slots }) f (subst (λ (x : List Letter). Goes base (as_seen m.slots x l.story)) (append_assoc flying queue m.out) l.goes)

  pub puts_go : (queue : List Letter) (story : List (List login.Slot)) (w new : World) → Puts tells queue w new → Goes base (with_queue (R story w) queue) → GoesOn new
  puts_go queue story w new (fuel, e) g = puts_all fuel queue story w new e g

  module _ (story : List (List login.Slot)) (old : World) (g : Goes base (R story old)) where
    turned_slots : (own : ℕ) (node : Node) (disk : List Record) (did : login_rules.Reaction) (locks : Held) → Alone (read_node tells node) did.node
        → seen_slots (with_slot old.slots own (slot_up (reacted node did locks).node disk)) ≡ login.with_slot (seen_slots old.slots) own (login.slot_up did.node disk)
    turned_slots own node disk did locks same = read_set tells old.slots own (slot_up (reacted node did locks).node disk)
        ∙ ap (λ (n : login.Node). login.with_slot (seen_slots old.slots) own (login.slot_up n disk)) (seen_is tells node did locks same.alone)

    -- a node that hears nothing does something, and its letters are put in flight
    pub does_go : (own : ℕ) (node : Node) (disk : List Record) → IsUp old own node disk → (did : login_rules.Reaction) (locks : Held) → Alone (read_node tells node) did.node
        → (login_moves.IsReady own (login.slot_up (read_node tells node) disk) None → login_moves.IsCallDone (login_laws.act_of own (read_node tells node) disk did None))
        → ((one : Letter) → Among one did.out → IsReadBody one.body) → (new : World) → Does tells old own disk (reacted node did locks) new → GoesOn new
    does_go own node disk up did locks same acts reads new puts = puts_go did.out (seen_slots turned.slots ∷ story) turned new puts
        (subst (λ (x : List login.Slot). Goes base (record { slots = x; flying = letters_of old.flying ++ did.out; story = x ∷ story })) (sym (turned_slots own node disk did locks same))
        (goes_acted base (R story old) (login_laws.act_of own (read_node tells node) disk did None)
        (read_here tells old.slots own (slot_up node disk) up, (λ ready. (acts ready).is), λ letter e. absurd (cc e)) (rule_still (read_node tells node) did.node disk same.alone) reads g))
      where
        turned : World
        turned = record old { slots = with_slot old.slots own (slot_up (reacted node did locks).node disk) }

    -- a letter is heard, and taken out or kept
    pub heard_go : (number : ℕ) (flies : mail.Flies (mail_world_of old) number) (keep : Bool) (node : Node) (disk : List Record) → IsUp old flies.letter.to node disk → (body : Body) (did : login_rules.Reaction) (locks : Held)
        → Alone (read_node tells (learnt node body)) did.node
        → (login_moves.IsReady flies.letter.to (login.slot_up (read_node tells node) disk) (Some flies.letter) → login_moves.IsCallDone (login_laws.act_of flies.letter.to (read_node tells node) disk did (Some flies.letter)))
        → ((one : Letter) → Among one did.out → IsReadBody one.body)
        → (new : World) → Does tells (record old { flying = mail.flies_on (mail_world_of old) number flies keep }) flies.letter.to disk (reacted (learnt node body) did locks) new → GoesOn new
    heard_go number flies keep node disk up body did locks same acts reads new puts = puts_go did.out (seen_slots turned.slots ∷ story) turned new puts
        (subst (λ (x : List login.Slot). Goes base (record { slots = x; flying = left ++ did.out; story = x ∷ story })) (sym (turned_slots own (learnt node body) disk did locks same))
        (goes_taken base (after_move (Acted act) (R story old)) flies.letter (left ++ did.out) may.1.0
        (goes_acted base (R story old) act may.0 (rule_still (read_node tells node) did.node disk same.alone) reads g)))
      where
        own : ℕ
        own = flies.letter.to

        left : List Letter
        left = letters_of (mail.flies_on (mail_world_of old) number flies keep)

        turned : World
        turned = record old { slots = with_slot old.slots own (slot_up (reacted (learnt node body) did locks).node disk); flying = mail.flies_on (mail_world_of old) number flies keep }

        act : NodeAct
        act = login_laws.act_of own (read_node tells node) disk did (Some flies.letter)

        may : login_moves.MayMoves (Acted act ∷ Taken flies.letter (left ++ did.out) ∷ []) (R story old)
        may = heard_may (R story old) g.sound act flies.letter left (read_here tells old.slots own (slot_up node disk) up) refl (flew (mail_world_of old) number flies) refl acts
            (λ one m. left_of old number flies keep one m) (λ one m. others_of old number flies keep one m)

    -- a letter is lost, with its mishap
    pub loses_go : (kind : MishapKind) (number : ℕ) (flies : mail.Flies (mail_world_of old) number) (keep : Bool) (new : World)
        → Puts tells (missed tells kind old.slots flies.letter).out (record old { slots = (missed tells kind old.slots flies.letter).slots; flying = mail.flies_on (mail_world_of old) number flies keep }) new → GoesOn new
    loses_go kind number flies keep new puts =
        let l = lost_goes kind flies.letter old.slots (letters_of old.flying) (letters_of (mail.flies_on (mail_world_of old) number flies keep)) story g (flew (mail_world_of old) number flies)
        (λ one m. left_of old number flies keep one m) (λ one m. others_of old number flies keep one m) in
        puts_go (missed tells kind old.slots flies.letter).out l.story (record old { slots = (missed tells kind old.slots flies.letter).slots; flying = mail.flies_on (mail_world_of old) number flies keep }) new puts l.goes

-- Letters of calls that read that are put in flight, as calls that read see it and as the whole machine does.
use Rattle.std.proofs.Common.{◌≡◌, ◌⊎◌, inl, inr, ⊎_elim, ℕ, zero, suc, ◌+◌, Bool, true, false, List, [], ◌∷◌, ◌++◌, append-nil, map, length, Option, Some, None, refl, sym, ap, ◌∙◌, subst, if◌then◌else◌}
use Rattle.mail_model.specs.Record.{Record}
use Rattle.object_model.specs.Lists.{Among}
use Rattle.object_model.specs.Mishaps.{MishapKind}
use Rattle.object_model.specs.Mishaps.MishapKind.{Crowded}
use Rattle.object_model.specs.Letters.{Number, Letter}
use Rattle.object_model.proofs.Lists.{among_either}
use Rattle.cluster_model.specs.Room.{Flight, fits, octets_of, octets_of_all, has_room}
use Rattle.cluster_model.specs.Cluster as mail_cluster
use Rattle.cluster_model.specs.Deeds as mail_deeds
use Rattle.cluster_model.specs.Makes.{IsReadLetter, GoesOnReading}
use Rattle.cluster_model.specs.World as mail
use Rattle.cluster_model.specs.World.{letters_of}
use Rattle.cluster_model.proofs.Stepping.{letters_both}
use Rattle.whole_model.specs.Whole as whole
use Rattle.whole_world.specs.World as whole_world
use Rattle.whole_world.proofs.Along.{mail_here}
use Rattle.login_model.specs.Cluster as login
use Rattle.login_model.specs.Rules as login_rules
use Rattle.login_model.specs.Facts.{GoesOut, far_end}
use Rattle.login_model.specs.Putting as login_putting
use Rattle.login_model.specs.Putting.{with_did, missed_life, missed_slot, with_queue}
use Rattle.login_model.proofs.Going.{mishap_goes}
use Rattle.login_model.proofs.Putting.{puts_may}
use Rattle.joint_model.specs.Joint.{Node, Life, Slot, slot_at, with_slot, slot_up, whole_slot, read_node, read_slot}
use Rattle.joint_model.specs.Joint.Life.{Up, Down, Lost}
use Rattle.joint_model.proofs.Kept.{whole_here, read_here, read_set}
use Rattle.joint_world.specs.World.{World, mail_world_of, reads_of, with_letter}
use Rattle.joint_world.specs.Rules.{Reaction, locks_befallen, befallen}
use Rattle.joint_world.specs.Putting.{Missed, missed_by, missed_at, missed_under, missed, put, Puts}
use Rattle.joint_world.specs.Laws.{TellAlike, HasGrown}
use Rattle.joint_world.proofs.Bodies.{body_reads}
use Rattle.joint_world.proofs.Since.{Going, all_going}
use Rattle.joint_world.proofs.Rules.{seen_is, mishap_alone}
use Rattle.joint_world.proofs.Views.{read_none, whole_same, whole_set, alike_more, SameDisks, disks_self, disks_on, disks_write, OfDisks, of_disks, of_disks_on}

-- A world with a story of slots, as calls that read see it, that has grown from a story: each new moment has the disks of these slots.
pub record Grown (tells : Bool) (base : List Slot) (story : List (List login.Slot)) (P : List (List login.Slot) → Type 0) : Type 0 where
  pub now : List (List login.Slot)
  pub alike : TellAlike tells now
  pub grows : HasGrown story now
  pub disks : (moment : List login.Slot) → Among moment now → Among moment story ⊎ OfDisks base moment
  pub holds : P now

-- one moment more, with the same disks
pub one_more : (tells : Bool) (base slots : List Slot) (story : List (List login.Slot)) (P : List (List login.Slot) → Type 0) → SameDisks base slots → Grown tells slots (map (read_slot tells) slots ∷ story) P → Grown tells base story P
one_more tells base slots story P same g = record {
  now = g.now;
  alike = g.alike;
  grows = λ moment m. g.grows moment (inr m);
  disks = λ moment m. ⊎_elim
      (λ inside. ⊎_elim (λ is. inr (subst (OfDisks base) is (of_disks tells base slots same))) (λ old. inl old) inside)
      (λ of. inr (of_disks_on base slots moment same of))
      (g.disks moment m);
  holds = g.holds;
}

-- whether there is room, by letters alone
abbrev pub room : List Letter → Letter → Bool
room flying letter = fits (length flying) (octets_of_all flying) (octets_of letter)

as_many : (flying : List Flight) → length (letters_of flying) ≡ length flying
as_many [] = refl
as_many (f ∷ flying) = ap suc (as_many flying)

room_is : (flying : List Flight) (letter : Letter) → room (letters_of flying) letter ≡ has_room flying letter
room_is flying letter = ap (λ n. fits n (octets_of_all (letters_of flying)) (octets_of letter)) (as_many flying)

-- what the mishap of a letter leaves, as calls that read see it
module _ (tells : Bool) where
  abbrev R : List (List login.Slot) → World → login.Cluster
  R story w = reads_of tells story w

  -- the node that notes the mishap, as it is seen
  noted : (kind : MishapKind) (letter : Letter) (number : Number) (node : Node)
      → read_node tells (befallen tells number.node kind (far_end letter number) node number).node ≡ (login_rules.mishap number.node kind (far_end letter number) (read_node tells node) number).node
  noted kind letter number node = seen_is tells node (login_rules.mishap number.node kind (far_end letter number) (read_node tells node) number)
      (locks_befallen number.node (far_end letter number) number node.locks (login_rules.read_at number.node (read_node tells node) (Some number))) (mishap_alone number.node kind (far_end letter number) (read_node tells node) number).0.alone

  pub noted_slots : (kind : MishapKind) (slots : List Slot) (letter : Letter) (number : Number) (node : Node) (disk : List Record)
      → map (read_slot tells) (with_slot slots number.node (slot_up (befallen tells number.node kind (far_end letter number) node number).node disk))
      ≡ login.with_slot (map (read_slot tells) slots) number.node (login.slot_up (login_rules.mishap number.node kind (far_end letter number) (read_node tells node) number).node disk)
  noted_slots kind slots letter number node disk = read_set tells slots number.node (slot_up (befallen tells number.node kind (far_end letter number) node number).node disk)
      ∙ ap (λ (n : login.Node). login.with_slot (map (read_slot tells) slots) number.node (login.slot_up n disk)) (noted kind letter number node)

  -- a queue that is put in flight is put so by `login_model`
  abbrev Seen : ℕ → List Letter → List (List login.Slot) → World → World → List (List login.Slot) → Type 0
  Seen fuel queue story w new now = login_putting.put room fuel queue (R story w) ≡ Some (R now new)

  seen_puts : (fuel : ℕ) (queue : List Letter) (story : List (List login.Slot)) (w new : World) → TellAlike tells story → put tells fuel queue w ≡ Some new → Grown tells w.slots story (Seen fuel queue story w new)
  seen_puts fuel [] story w new alike e = record { now = story; alike = alike; grows = λ moment m. m; disks = λ moment m. inl m; holds = ap (λ (v : World). Some (R story v)) (some_is w new e) }
    where
      some_is : (a b : World) → Some a ≡ Some b → a ≡ b
      some_is a b p = cc
  seen_puts zero (letter ∷ queue) story w new alike e = absurd (cc e)
  seen_puts (suc fuel) (letter ∷ queue) story w new alike e = by (has_room w.flying letter) refl (λ q s v a f. seen_puts fuel q s v new a f) e
    where
      Rest : Type 0
      Rest = (q : List Letter) (s : List (List login.Slot)) (v : World) → TellAlike tells s → put tells fuel q v ≡ Some new → Grown tells v.slots s (Seen fuel q s v new)

      -- where it finds room
      flies : has_room w.flying letter ≡ true → Grown tells w.slots story (λ now. login_putting.put room fuel queue (record (R story w) { flying = letters_of w.flying ++ letter ∷ [] }) ≡ Some (R now new)) → Grown tells w.slots story (Seen (suc fuel) (letter ∷ queue) story w new)
      flies h g = record {
        now = g.now;
        alike = g.alike;
        grows = g.grows;
        disks = g.disks;
        holds = ap (λ (b : Bool). if b then login_putting.put room fuel queue (record (R story w) { flying = letters_of w.flying ++ letter ∷ [] }) else login_putting.missed (login_putting.put room fuel) queue (R story w) letter letter.ticket)
            (room_is w.flying letter ∙ h) ∙ g.holds;
      }

      -- and where it does not
      misses : has_room w.flying letter ≡ false → Grown tells w.slots story (λ now. login_putting.missed (login_putting.put room fuel) queue (R story w) letter letter.ticket ≡ Some (R now new)) → Grown tells w.slots story (Seen (suc fuel) (letter ∷ queue) story w new)
      misses h g = record {
        now = g.now;
        alike = g.alike;
        grows = g.grows;
        disks = g.disks;
        holds = ap (λ (b : Bool). if b then login_putting.put room fuel queue (record (R story w) { flying = letters_of w.flying ++ letter ∷ [] }) else login_putting.missed (login_putting.put room fuel) queue (R story w) letter letter.ticket)
            (room_is w.flying letter ∙ h) ∙ g.holds;
      }

      -- nothing is noted
      alone : Rest → put tells fuel (queue ++ []) w ≡ Some new → Grown tells w.slots story (λ now. login_putting.put room fuel queue (R story w) ≡ Some (R now new))
      alone rest f = rest queue story w alike (subst (λ q. put tells fuel q w ≡ Some new) (append-nil queue) f)

      Missing : Type 0
      Missing = Grown tells w.slots story (λ now. login_putting.missed (login_putting.put room fuel) queue (R story w) letter letter.ticket ≡ Some (R now new))

      by_life : Rest → (number : Number) (slot : Slot) → slot_at w.slots number.node ≡ Some slot → (life : Life) → put tells fuel (queue ++ (missed_by tells Crowded w.slots letter number slot.disk life).out) (record w { slots = (missed_by tells Crowded w.slots letter number slot.disk life).slots }) ≡ Some new
          → Grown tells w.slots story (λ now. missed_life (login_putting.put room fuel) queue (R story w) letter number slot.disk (read_slot tells (record { life = life; disk = slot.disk })).life ≡ Some (R now new))
      by_life rest number slot at (Down pending) f = alone rest f
      by_life rest number slot at Lost f = alone rest f
      by_life rest number slot at (Up node) f =
          let did = befallen tells number.node Crowded (far_end letter number) node number in
          let v : World = record w { slots = with_slot w.slots number.node (slot_up did.node slot.disk) } in
          let moment : List login.Slot = map (read_slot tells) v.slots in
          let g = rest (queue ++ did.out) (moment ∷ story) v (alike_more tells story v.slots alike) f in
          let rule = login_rules.mishap number.node Crowded (far_end letter number) (read_node tells node) number in
          let same = noted_slots Crowded w.slots letter number node slot.disk in
          let seen : with_did (R story w) number.node slot.disk rule ≡ R (moment ∷ story) v = λ i. record { slots = sym same i; flying = letters_of w.flying; story = sym same i ∷ story } in
          let disks : SameDisks w.slots v.slots = disks_write w.slots number.node slot (slot_up did.node slot.disk) at refl in
          let one = one_more tells w.slots v.slots story (Seen fuel (queue ++ did.out) (moment ∷ story) v new) disks g in
          record {
            now = one.now;
            alike = one.alike;
            grows = one.grows;
            disks = one.disks;
            holds = ap (λ (c : login.Cluster). login_putting.put room fuel (queue ++ rule.out) c) seen ∙ one.holds;
          }

      by_slot : Rest → (number : Number) (o : Option Slot) → slot_at w.slots number.node ≡ o → put tells fuel (queue ++ (missed_at tells Crowded w.slots letter number o).out) (record w { slots = (missed_at tells Crowded w.slots letter number o).slots }) ≡ Some new
          → Grown tells w.slots story (λ now. missed_slot (login_putting.put room fuel) queue (R story w) letter number (login.slot_at (R story w).slots number.node) ≡ Some (R now new))
      by_slot rest number None at f = subst (λ (o : Option login.Slot). Grown tells w.slots story (λ now. missed_slot (login_putting.put room fuel) queue (R story w) letter number o ≡ Some (R now new))) (sym (read_none tells w.slots number.node at)) (alone rest f)
      by_slot rest number (Some slot) at f = subst (λ (o : Option login.Slot). Grown tells w.slots story (λ now. missed_slot (login_putting.put room fuel) queue (R story w) letter number o ≡ Some (R now new)))
          (sym (read_here tells w.slots number.node slot at)) (by_life rest number slot at slot.life f)

      by_ticket : Rest → (ticket : Option Number) → put tells fuel (queue ++ (missed_under tells Crowded w.slots letter ticket).out) (record w { slots = (missed_under tells Crowded w.slots letter ticket).slots }) ≡ Some new
          → Grown tells w.slots story (λ now. login_putting.missed (login_putting.put room fuel) queue (R story w) letter ticket ≡ Some (R now new))
      by_ticket rest None f = alone rest f
      by_ticket rest (Some number) f = by_slot rest number (slot_at w.slots number.node) refl f

      by : (b : Bool) → has_room w.flying letter ≡ b → Rest
          → (if b then put tells fuel queue (with_letter w letter) else put tells fuel (queue ++ (missed tells Crowded w.slots letter).out) (record w { slots = (missed tells Crowded w.slots letter).slots })) ≡ Some new
          → Grown tells w.slots story (Seen (suc fuel) (letter ∷ queue) story w new)
      by true h rest f =
          let g = rest queue story (with_letter w letter) alike f in
          let same : R story (with_letter w letter) ≡ record (R story w) { flying = letters_of w.flying ++ letter ∷ [] } =
          λ i. record { slots = map (read_slot tells) w.slots; flying = letters_both w.flying (record { number = w.sent + 1; letter = letter } ∷ []) i; story = story } in
          flies h (record { now = g.now; alike = g.alike; grows = g.grows; disks = g.disks; holds = subst (λ (c : login.Cluster). login_putting.put room fuel queue c ≡ Some (R g.now new)) same g.holds })
      by false h rest f = misses h (by_ticket rest letter.ticket f)

  -- so it goes on
  pub puts_sound : (base : List login.Slot) (queue : List Letter) (story : List (List login.Slot)) (w new : World) → TellAlike tells story → Puts tells queue w new → Going base (with_queue (R story w) queue)
      → Grown tells w.slots story (λ now. Going base (R now new))
  puts_sound base queue story w new alike (fuel, e) s =
      let g = seen_puts fuel queue story w new alike e in
      let m = puts_may room fuel queue (R story w) (R g.now new) g.holds s.sound in
      record { now = g.now; alike = g.alike; grows = g.grows; disks = g.disks; holds = subst (Going base) m.2 (all_going base (with_queue (R story w) queue) m.0 m.1 s) }

  -- As the whole machine sees it: letters of nodes that are up are sent.
  pub record Sender (slots : List whole.Slot) (letter : Letter) : Type 0 where
    pub own : ℕ
    pub node : whole.Node
    pub disk : List Record
    pub up : whole.slot_at slots own ≡ Some (whole_world.slot_up node disk)
    pub goes : GoesOut own letter

  -- a mishap changes nothing that it sees, and its letter has a sender
  pub record MissedSeen (kind : MishapKind) (slots : List Slot) (letter : Letter) : Type 0 where
    pub same : map whole_slot (missed tells kind slots letter).slots ≡ map whole_slot slots
    pub sends : (one : Letter) → Among one (missed tells kind slots letter).out → Sender (map whole_slot slots) one

  pub missed_seen : (kind : MishapKind) (slots : List Slot) (letter : Letter) → MissedSeen kind slots letter
  missed_seen kind slots letter = let s = of letter.ticket in record { same = s.0; sends = s.1 }
    where
      Said : Missed → Type 0
      Said m = (map whole_slot m.slots ≡ map whole_slot slots) × ((one : Letter) → Among one m.out → Sender (map whole_slot slots) one)

      none : Said (record { slots = slots; out = [] })
      none = (refl, λ one m. absurd m)

      by_life : (number : Number) (slot : Slot) → slot_at slots number.node ≡ Some slot → (life : Life) → slot.life ≡ life → Said (missed_by tells kind slots letter number slot.disk life)
      by_life number slot at (Down pending) is = none
      by_life number slot at Lost is = none
      by_life number slot at (Up node) is = (
        whole_set slots number.node (slot_up did.node slot.disk) ∙ ap (λ (n : whole.Node). whole.with_slot (map whole_slot slots) number.node (whole_world.slot_up n slot.disk)) same
            ∙ whole_same (map whole_slot slots) number.node (whole_world.slot_up node.whole slot.disk) here,
        λ one m. record { own = number.node; node = node.whole; disk = slot.disk; up = here; goes = mishap_goes number.node kind (far_end letter number) (read_node tells node) number one m },
      )
        where
          did : Reaction
          did = befallen tells number.node kind (far_end letter number) node number

          here : whole.slot_at (map whole_slot slots) number.node ≡ Some (whole_world.slot_up node.whole slot.disk)
          here = whole_here slots number.node slot at ∙ ap (λ (l : Life). Some (whole_slot (record { life = l; disk = slot.disk }))) is

          same : did.node.whole ≡ node.whole
          same = ap (λ (c : ℕ). record node.whole { mail = record node.whole.mail { calls = c } }) (mishap_alone number.node kind (far_end letter number) (read_node tells node) number).1

      by_slot : (number : Number) (o : Option Slot) → slot_at slots number.node ≡ o → Said (missed_at tells kind slots letter number o)
      by_slot number None at = none
      by_slot number (Some slot) at = by_life number slot at slot.life refl

      of : (ticket : Option Number) → Said (missed_under tells kind slots letter ticket)
      of None = none
      of (Some number) = by_slot number (slot_at slots number.node) refl

-- neither a mishap nor a letter that is put in flight changes a disk
module _ (tells : Bool) where
  pub missed_disks : (kind : MishapKind) (slots : List Slot) (letter : Letter) → SameDisks slots (missed tells kind slots letter).slots
  missed_disks kind slots letter = of letter.ticket
    where
      by_life : (number : Number) (slot : Slot) → slot_at slots number.node ≡ Some slot → (life : Life) → SameDisks slots (missed_by tells kind slots letter number slot.disk life).slots
      by_life number slot at (Down pending) = disks_self slots
      by_life number slot at Lost = disks_self slots
      by_life number slot at (Up node) = disks_write slots number.node slot (slot_up (befallen tells number.node kind (far_end letter number) node number).node slot.disk) at refl

      by_slot : (number : Number) (o : Option Slot) → slot_at slots number.node ≡ o → SameDisks slots (missed_at tells kind slots letter number o).slots
      by_slot number None at = disks_self slots
      by_slot number (Some slot) at = by_life number slot at slot.life

      of : (ticket : Option Number) → SameDisks slots (missed_under tells kind slots letter ticket).slots
      of None = disks_self slots
      of (Some number) = by_slot number (slot_at slots number.node) refl

  put_disks : (fuel : ℕ) (queue : List Letter) (w new : World) → put tells fuel queue w ≡ Some new → SameDisks w.slots new.slots
  put_disks fuel [] w new e = subst (λ (v : World). SameDisks w.slots v.slots) (some_is w new e) (disks_self w.slots)
    where
      some_is : (a b : World) → Some a ≡ Some b → a ≡ b
      some_is a b p = cc
  put_disks zero (letter ∷ queue) w new e = absurd (cc e)
  put_disks (suc fuel) (letter ∷ queue) w new e = by (has_room w.flying letter) (λ q v f. put_disks fuel q v new f) e
    where
      by : (b : Bool) → ((q : List Letter) (v : World) → put tells fuel q v ≡ Some new → SameDisks v.slots new.slots)
          → (if b then put tells fuel queue (with_letter w letter) else put tells fuel (queue ++ (missed tells Crowded w.slots letter).out) (record w { slots = (missed tells Crowded w.slots letter).slots })) ≡ Some new → SameDisks w.slots new.slots
      by true rest f = rest queue (with_letter w letter) f
      by false rest f = disks_on w.slots (missed tells Crowded w.slots letter).slots new.slots (missed_disks Crowded w.slots letter)
          (rest (queue ++ (missed tells Crowded w.slots letter).out) (record w { slots = (missed tells Crowded w.slots letter).slots }) f)

  pub puts_disks : (queue : List Letter) (w new : World) → Puts tells queue w new → SameDisks w.slots new.slots
  puts_disks queue w new (fuel, e) = put_disks fuel queue w new e

-- As messages see it, letters of these calls are sent; and the whole machine sees no node change.
pub record Sent (w new : World) : Type 0 where
  pub goes : GoesOnReading (mail_world_of w) (mail_world_of new)
  pub slots : map whole_slot new.slots ≡ map whole_slot w.slots

module _ (tells : Bool) where
  letter_of : (w : World) (letter : Letter) → Sender tells (map whole_slot w.slots) letter → has_room w.flying letter ≡ true → IsReadLetter (mail_world_of w) letter
  letter_of w letter s room_ = record {
    body = body_reads letter.body s.goes.body;
    other = λ e. s.goes.to (e ∙ s.goes.from);
    node = s.node.mail;
    disk = s.disk;
    up = subst (λ (n : ℕ). mail_cluster.slot_at (mail_world_of w).slots n ≡ Some (mail_deeds.slot_up s.node.mail s.disk)) (sym s.goes.from) (mail_here (map whole_slot w.slots) s.own (whole_world.slot_up s.node s.disk) s.up);
    room = room_;
  }

  put_goes : (fuel : ℕ) (queue : List Letter) (w new : World) → put tells fuel queue w ≡ Some new → ((letter : Letter) → Among letter queue → Sender tells (map whole_slot w.slots) letter) → Sent w new
  put_goes fuel [] w new e sends = subst (Sent w) (some_is w new e) (record { goes = record { letters = []; sends = refl }; slots = refl })
    where
      some_is : (a b : World) → Some a ≡ Some b → a ≡ b
      some_is a b p = cc
  put_goes zero (letter ∷ queue) w new e sends = absurd (cc e)
  put_goes (suc fuel) (letter ∷ queue) w new e sends = by (has_room w.flying letter) refl (λ q v f s. put_goes fuel q v new f s) e
    where
      m : Missed
      m = missed tells Crowded w.slots letter

      seen : MissedSeen tells Crowded w.slots letter
      seen = missed_seen tells Crowded w.slots letter

      by : (b : Bool) → has_room w.flying letter ≡ b → ((q : List Letter) (v : World) → put tells fuel q v ≡ Some new → ((one : Letter) → Among one q → Sender tells (map whole_slot v.slots) one) → Sent v new)
          → (if b then put tells fuel queue (with_letter w letter) else put tells fuel (queue ++ m.out) (record w { slots = m.slots })) ≡ Some new → Sent w new
      by true free rest f =
          let g = rest queue (with_letter w letter) f (λ one k. sends one (inr k)) in
          record { goes = record { letters = letter ∷ g.goes.letters; sends = (letter_of w letter (sends letter (inl refl)) free, g.goes.sends) }; slots = g.slots }
      by false full rest f =
          let g = rest (queue ++ m.out) (record w { slots = m.slots }) f (λ one k. subst (λ (s : List whole.Slot). Sender tells s one) (sym seen.same)
          (⊎_elim (λ old. sends one (inr old)) (λ new_. seen.sends one new_) (among_either one queue m.out k))) in
          record {
            goes = subst (λ (v : mail.World). GoesOnReading v (mail_world_of new)) (ap (λ (s : List whole.Slot). record (mail_world_of w) { slots = map whole.mail_slot s }) seen.same) g.goes;
            slots = g.slots ∙ seen.same;
          }

  pub puts_go : (queue : List Letter) (w new : World) → Puts tells queue w new → ((letter : Letter) → Among letter queue → Sender tells (map whole_slot w.slots) letter) → Sent w new
  puts_go queue w new (fuel, e) sends = put_goes fuel queue w new e sends

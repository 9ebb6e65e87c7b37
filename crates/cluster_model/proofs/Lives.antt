-- A node that goes down or is lost acts as the invariant asks.
use Rattle.std.proofs.Common.{◌≡◌, ◌≢◌, ◌⊎◌, inl, inr, ⊎_elim, ◌≤◌, ℕ, List, [], ◌∷◌, ◌++◌, Option, Some, None, refl, sym, ap, ◌∙◌, subst, le_of_lt, le_of_eq}
use Rattle.std.specs.FinMap as fin
use Rattle.std.specs.Ordering.{nat_cmp}
use Rattle.mail_model.specs.Identity.{Id}
use Rattle.mail_model.specs.Record.{Record}
use Rattle.mail_model.specs.Record.Record.{Boot, Octets, Stated, Promise, Retired}
use Rattle.object_model.specs.Lists.{Among}
use Rattle.object_model.specs.Letters.{Letter}
use Rattle.cluster_model.specs.Cluster.{Ticket, Tickets, Want, Node, Life, Slot, tickets_of, pending_of}
use Rattle.cluster_model.specs.Cluster.Life.{Up, Down, Lost}
use Rattle.cluster_model.specs.Claims.{Fact, Wants, LetterHolds, LetterClaims, LetterSpeaks, DrawnIn, TicketClaims, LogClaims, DiskClaims, SlotClaims, DiskSpeaks, TicketSpeaks, all_records, boot_of, boot_after}
use Rattle.cluster_model.specs.Moves.{Content, NodeAct, IsReady, Heard, ComesFrom, IsBacked, IsFactConfirmed, IsAct}
use Rattle.cluster_model.specs.Rules.{Reaction}
use Rattle.object_model.proofs.Lists.{among_front, among_behind, among_either}
use Rattle.cluster_model.proofs.StoreSteps.{boot_both}
use Rattle.cluster_model.specs.Deeds.{act_of, slot_up, cut_act, drop_act}

-- records without a boot leave it
boot_stays : (boot : ℕ) (records : List Record) → ((other : ℕ) → Among (Boot other) records → ⊥) → boot_after boot records ≡ boot
boot_stays boot [] none = refl
boot_stays boot (Boot other ∷ records) none = absurd (none other (inl refl))
boot_stays boot (Octets id octets ∷ records) none = boot_stays boot records (λ o m. none o (inr m))
boot_stays boot (Stated key state ∷ records) none = boot_stays boot records (λ o m. none o (inr m))
boot_stays boot (Promise epoch ∷ records) none = boot_stays boot records (λ o m. none o (inr m))
boot_stays boot (Retired key state ∷ records) none = boot_stays boot records (λ o m. none o (inr m))

boot_with : (disk more : List Record) → ((other : ℕ) → Among (Boot other) more → ⊥) → boot_of (disk ++ more) ≡ boot_of disk
boot_with disk more none = boot_both 0 disk more ∙ boot_stays (boot_of disk) more none

-- whoever has no tickets asks for nothing
pub no_wants : (life : Life) → tickets_of life ≡ fin.empty → (seq : ℕ) (want : Want) → Wants life seq want → ⊥
no_wants life none seq want w = clash (fin.get (fin.empty {R = nat_cmp}) seq) w.ticket (fin.get-empty nat_cmp seq) (subst (λ (t : Tickets). fin.get t seq ≡ Some w.ticket) none w.here)
  where
    clash : (o : Option Ticket) (t : Ticket) → o ≡ None → o ≡ Some t → ⊥
    clash o t p q = cc

pub nothing_behind : (xs : List Record) → xs ++ [] ≡ xs
nothing_behind [] = refl
nothing_behind (x ∷ xs) = ap (λ (l : List Record). x ∷ l) (nothing_behind xs)

-- a call is cut by a fault of the disk: a prefix of its records stands, the next may stand, nothing is sent, and the node is down.
module _ (own : ℕ) (node : Node) (disk : List Record) (did : Reaction) (heard : Option Letter) (files : Option Content) (strikes : List (List ℕ × Id))
    (ready : IsReady own (slot_up node disk) heard) (is : IsAct (act_of own node disk did heard files strikes))
    (front pending missing : List Record) (split : is.grows.0 ≡ (front ++ pending) ++ missing) where
  abbrev whole : NodeAct
  whole = act_of own node disk did heard files strikes

  abbrev fallen : Slot
  fallen = record { life = Down pending; disk = disk ++ front }

  abbrev cut : NodeAct
  cut = cut_act own node disk heard files strikes front pending

  -- what stands, stands once the call is done
  stands_whole : (one : Record) → Among one (all_records fallen) → Among one (all_records (slot_up did.node did.disk))
  stands_whole one m = among_front one did.disk [] (subst (Among one) (sym is.grows.1) (subst (λ l. Among one (disk ++ l)) (sym split) (⊎_elim
      (λ first. ⊎_elim
      (λ old. among_front one disk ((front ++ pending) ++ missing) old)
      (λ new. among_behind one disk ((front ++ pending) ++ missing) (among_front one (front ++ pending) missing (among_front one front pending new)))
      (among_either one disk front first))
      (λ last. among_behind one disk ((front ++ pending) ++ missing) (among_front one (front ++ pending) missing (among_behind one front pending last)))
      (among_either one (disk ++ front) pending m))))

  no_boot : (boot : ℕ) → Among (Boot boot) (front ++ pending) → ⊥
  no_boot boot m = is.bootless node refl boot (subst (Among (Boot boot)) (sym split) (among_front (Boot boot) (front ++ pending) missing m))

  boot_front : boot_of (disk ++ front) ≡ boot_of disk
  boot_front = boot_with disk front (λ o m. no_boot o (among_front (Boot o) front pending m))

  drawn_down : (id : Id) → id.boot ≤ node.boot → id.boot ≤ boot_of (disk ++ front)
  drawn_down id le = subst (λ b. id.boot ≤ b) (ready.order.booted node refl ∙ sym boot_front) le

  boot_le : (life : Node) (id : Id) → DrawnIn (Up life) disk id → id.boot ≤ life.boot
  boot_le life id (inl below) = le_of_lt below
  boot_le life id (inr (same, le)) = le_of_eq same

  heard_too : (P : Letter → Type 0) → Heard whole P → Heard cut P
  heard_too P h = record { letter = h.letter; is = h.is; holds = h.holds }

  from_too : (id : Id) (octets : List ℕ) → ComesFrom whole id octets → ComesFrom cut id octets
  from_too id octets (inl old) = inl old
  from_too id octets (inr (inl h)) = inr (inl (heard_too (λ letter. LetterHolds letter id octets) h))
  from_too id octets (inr (inr b)) = inr (inr (record { content = b.content; is = b.is; same_id = b.same_id; same_octets = b.same_octets }))

  claimed : (m : ℕ) (fact : Fact) → SlotClaims own fallen m fact → IsBacked cut m fact ⊎ IsFactConfirmed cut m fact
  claimed m fact (inl c) = absurd (no_wants (Down pending) refl c.seq c.want c.stands)
  claimed m fact (inr (inl c)) = absurd (cc c.up)
  claimed m fact (inr (inr c)) = ⊎_elim
      (λ b. ⊎_elim
      (λ old. inl (inl old))
      (λ other. ⊎_elim
      (λ mine. absurd (c.other mine.0))
      (λ h. inl (inr (inr (heard_too (λ letter. LetterClaims letter m fact) h)))) other) b)
      (λ (k : IsFactConfirmed whole m fact). inr (record { filing = k.filing; stood = k.stood; heard = record { letter = k.heard.letter; is = k.heard.is; holds = k.heard.holds }; is = k.is }))
      (is.claims.claimed m fact (inr (inr (record { key = c.key; state = c.state; inside = stands_whole (Retired c.key c.state) c.inside; target = c.target; other = c.other; is = c.is }))))

  pub cut_acts : IsAct cut
  cut_acts = record {
    was = λ e. cc;
    grows = (front, refl);
    bootless = λ other up boot m. no_boot boot (among_front (Boot boot) front pending m);
    order = record {
      booted = λ other up. absurd (cc up);
      rises = le_of_eq (boot_front ∙ sym (ap boot_of (assoc disk front pending) ∙ boot_with disk (front ++ pending) no_boot));
      logged = λ other up. absurd (cc up);
      owed = λ other up. absurd (cc up);
    };
    contents = record {
      drawn = λ id d. drawn_down id (boot_le node id d);
      ended = is.contents.ended;
      fresh = λ content e. let f = is.contents.fresh content e in (f.0, f.1, drawn_down content.id (new_boot content.id f.2));
      held = λ id octets m. from_too id octets (is.contents.held id octets (stands_whole (Octets id octets) m));
      sent = λ letter m. absurd m;
      wanted = λ filing w. absurd (no_wants (Down pending) refl w.seq w.want w.stands);
    };
    files = record { file = λ letter m. absurd m; filed = λ letter m. absurd m };
    claims = record { claimed = claimed; sent = λ letter m. absurd m };
    deletions = record {
      spoken = λ user id s. ⊎_elim
          (λ d. ⊎_elim
          (λ old. inl old)
          (λ other. ⊎_elim (λ h. inr (inl (heard_too (λ letter. LetterSpeaks letter user id) h))) (λ k. inr (inr k)) other)
          (is.deletions.spoken user id (inl (record { one = d.one; inside = stands_whole d.one d.inside; speaks = d.speaks }))))
          (λ (k : TicketSpeaks (Down pending) user id). absurd (no_wants (Down pending) refl k.seq k.want k.stands))
          s;
      sent = λ letter m. absurd m;
    };
    fit = record {
      slot = record {
        target = λ key state m. is.fit.slot.target key state (stands_whole (Stated key state) m);
        kind = λ key state m. is.fit.slot.kind key state (stands_whole (Stated key state) m);
      };
      sent = λ letter m. absurd m;
    };
    waits = record { waits = λ number here m asked w. absurd (cc w.up) };
  }
    where
      assoc : (xs ys zs : List Record) → (xs ++ ys) ++ zs ≡ xs ++ (ys ++ zs)
      assoc [] ys zs = refl
      assoc (x ∷ xs) ys zs = ap (λ (l : List Record). x ∷ l) (assoc xs ys zs)

      same_boot : did.node.boot ≡ node.boot
      same_boot = is.order.booted did.node refl ∙ ap boot_of is.grows.1 ∙ boot_with disk is.grows.0 (is.bootless node refl) ∙ sym (ready.order.booted node refl)

      new_boot : (id : Id) → DrawnIn (Up did.node) did.disk id → id.boot ≤ node.boot
      new_boot id (inl below) = subst (λ b. id.boot ≤ b) same_boot (le_of_lt below)
      new_boot id (inr (same, le)) = le_of_eq (same ∙ same_boot)

-- A node that is up goes down, or one that is up or down is lost: its disk stays as it is.
module _ (n : ℕ) (before : Slot) (life : Life) (was : before.life ≢ Lost) (ends : (life ≡ Down []) ⊎ (life ≡ Lost)) (ready : IsReady n before None) where
  abbrev dropped : Slot
  dropped = record before { life = life }

  no_tickets : tickets_of life ≡ fin.empty
  no_tickets = ⊎_elim (λ e. ap tickets_of e) (λ e. ap tickets_of e) ends

  none_pending : pending_of life ≡ []
  none_pending = ⊎_elim (λ e. ap pending_of e) (λ e. ap pending_of e) ends

  none_behind : before.disk ++ pending_of life ≡ before.disk
  none_behind = ap (λ (l : List Record). before.disk ++ l) none_pending ∙ nothing_behind before.disk

  stood : (one : Record) → Among one (all_records dropped) → Among one (all_records before)
  stood one m = among_front one before.disk (pending_of before.life) (subst (Among one) none_behind m)

  not_up : (node : Node) → life ≡ Up node → ⊥
  not_up node up = ⊎_elim (λ e. absurd (down (sym e ∙ up))) (λ e. absurd (lost (sym e ∙ up))) ends
    where
      down : Down [] ≡ Up node → ⊥
      down e = cc

      lost : Lost ≡ Up node → ⊥
      lost e = cc

  drawn_by : (old : Life) → before.life ≡ old → (id : Id) → DrawnIn old before.disk id → id.boot ≤ boot_of before.disk
  drawn_by (Up node) e id (inl below) = subst (λ b. id.boot ≤ b) (ready.order.booted node e) (le_of_lt below)
  drawn_by (Up node) e id (inr (same, le)) = subst (λ b. id.boot ≤ b) (ready.order.booted node e) (le_of_eq same)
  drawn_by (Down pending) e id d = d
  drawn_by Lost e id d = d

  drawn_in : (new : Life) → (new ≡ Down []) ⊎ (new ≡ Lost) → (id : Id) → id.boot ≤ boot_of before.disk → DrawnIn new before.disk id
  drawn_in (Up node) e id d = ⊎_elim (λ is. absurd (down is)) (λ is. absurd (lost is)) e
    where
      down : Up node ≡ Down [] → ⊥
      down e = cc

      lost : Up node ≡ Lost → ⊥
      lost e = cc
  drawn_in (Down pending) e id d = d
  drawn_in Lost e id d = d

  pub drop_acts : IsAct (drop_act n before life)
  drop_acts = record {
    was = was;
    grows = ([], sym (nothing_behind before.disk));
    bootless = λ node up boot m. m;
    order = record {
      booted = λ node up. absurd (not_up node up);
      rises = le_of_eq (sym (ap boot_of (none_behind)));
      logged = λ node up. absurd (not_up node up);
      owed = λ node up. absurd (not_up node up);
    };
    contents = record {
      drawn = λ id d. drawn_in life ends id (drawn_by before.life refl id d);
      fresh = λ content e. absurd (cc e);
      ended = λ content e. absurd (cc e);
      held = λ id octets m. inl (stood (Octets id octets) m);
      sent = λ letter m. absurd m;
      wanted = λ filing w. absurd (no_wants life no_tickets w.seq w.want w.stands);
    };
    files = record { file = λ letter m. absurd m; filed = λ letter m. absurd m };
    claims = record {
      claimed = λ m fact c. inl (inl (⊎_elim
          (λ (t : TicketClaims life m fact). absurd (no_wants life no_tickets t.seq t.want t.stands))
          (λ other. ⊎_elim
          (λ (l : LogClaims n dropped m fact). absurd (not_up l.node l.up))
          (λ (d : DiskClaims n dropped m fact). inr (inr (record { key = d.key; state = d.state; inside = stood (Retired d.key d.state) d.inside; target = d.target; other = d.other; is = d.is })))
          other)
          c));
      sent = λ letter m. absurd m;
    };
    deletions = record {
      spoken = λ user id s. ⊎_elim (λ (d : DiskSpeaks (all_records dropped) user id). inl (inl (record { one = d.one; inside = stood d.one d.inside; speaks = d.speaks }))) (λ (k : TicketSpeaks life user id). absurd (no_wants life no_tickets k.seq k.want k.stands)) s;
      sent = λ letter m. absurd m;
    };
    fit = record { slot = record { target = λ key state m. ready.fits.target key state (stood (Stated key state) m); kind = λ key state m. ready.fits.kind key state (stood (Stated key state) m) }; sent = λ letter m. absurd m };
    waits = record { waits = λ number here m asked w. absurd (not_up w.node w.up) };
  }

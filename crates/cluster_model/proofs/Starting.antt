-- A node that starts, or whose disk cuts its start, acts as the invariant asks.
use Rattle.std.proofs.Common.{◌≡◌, ◌⊎◌, inl, inr, ⊎_elim, ◌≤◌, ◌<◌, ◌+◌, ℕ, List, [], ◌∷◌, ◌++◌, Some, None, refl, sym, ap, ◌∙◌, subst, arith, le_of_eq}
use Rattle.std.specs.FinMap as fin
use Rattle.mail_model.specs.Identity.{Id, Key, State}
use Rattle.mail_model.specs.Record.{Record}
use Rattle.mail_model.specs.Record.Record.{Boot, Octets, Stated, Retired}
use Rattle.object_model.specs.Lists.{Among}
use Rattle.cluster_model.specs.Cluster.{Node, Life, Slot}
use Rattle.cluster_model.specs.Cluster.Life.{Up, Down}
use Rattle.cluster_model.specs.Claims.{TicketClaims, LogClaims, DiskClaims, DiskSpeaks, TicketSpeaks, boot_of}
use Rattle.cluster_model.specs.Moves.{IsReady, IsAct}
use Rattle.cluster_model.specs.Starts.{StartsNode, StopsStart, IsRecovered}
use Rattle.object_model.proofs.Lists.{among_front, among_behind, among_either}
use Rattle.cluster_model.proofs.StoreSteps.{boot_both}
use Rattle.cluster_model.specs.Deeds.{slot_up, start_act, stop_act}
use Rattle.cluster_model.proofs.Recovering.{recovers}
use Rattle.cluster_model.proofs.Lives.{no_wants, nothing_behind}

-- a start, by what it leaves
record Restarts (own : ℕ) (disk pending : List Record) (node : Node) (new : List Record) : Type 0 where
  kept : List Record
  pending_is : (kept ≡ []) ⊎ (kept ≡ pending)
  records : new ≡ (disk ++ kept) ++ Boot node.boot ∷ []
  boot : node.boot ≡ boot_of (disk ++ kept) + 1
  tickets : node.tickets ≡ fin.empty
  log : IsRecovered own node.log new

restarts : (own : ℕ) (disk pending new : List Record) (node : Node) → StartsNode own disk pending node new → Restarts own disk pending node new
restarts own disk pending new node s =
    let boot : node.boot ≡ boot_of (disk ++ s.kept) + 1 = ap (λ (x : Node). x.boot) s.is in
    record {
      kept = s.kept;
      pending_is = s.pending_is;
      records = s.records ∙ ap (λ b. (disk ++ s.kept) ++ Boot b ∷ []) (sym boot);
      boot = boot;
      tickets = ap (λ (x : Node). x.tickets) s.is;
      log = subst (λ l. IsRecovered own l new) (sym (ap (λ (x : Node). x.log) s.is)) (recovers own new);
    }

-- A node that was down starts.
module _ (n : ℕ) (disk pending new : List Record) (node : Node) (starts : Restarts n disk pending node new) where
  abbrev down : Slot
  down = record { life = Down pending; disk = disk }

  module _ (ready : IsReady n down None) where
    added : List Record
    added = starts.kept ++ Boot node.boot ∷ []

    -- a record of the new disk is the boot, or may have stood
    place : (one : Record) → Among one (new ++ []) → Among one (disk ++ pending) ⊎ (Boot node.boot ≡ one)
    place one m = ⊎_elim
        (λ inside. ⊎_elim
        (λ first. ⊎_elim
        (λ old. inl (among_front one disk pending old))
        (λ kept. inl (among_behind one disk pending (⊎_elim
        (λ none. absurd (subst (Among one) none kept))
        (λ all. subst (Among one) all kept) starts.pending_is)))
        (among_either one disk starts.kept first))
        (λ last. ⊎_elim (λ e. inr e) (λ none. absurd none) last)
        (among_either one (disk ++ starts.kept) (Boot node.boot ∷ []) (subst (Among one) starts.records inside)))
        (λ none. absurd none)
        (among_either one new [] m)

    boot_new : boot_of new ≡ node.boot
    boot_new = ap boot_of starts.records ∙ boot_both 0 (disk ++ starts.kept) (Boot node.boot ∷ [])

    boot_rises : boot_of disk ≤ boot_of (disk ++ starts.kept)
    boot_rises = ⊎_elim
        (λ none. subst (λ k. boot_of disk ≤ boot_of (disk ++ k)) (sym none) (le_of_eq (sym (ap boot_of (nothing_behind disk)))))
        (λ all. subst (λ k. boot_of disk ≤ boot_of (disk ++ k)) (sym all) ready.order.rises)
        starts.pending_is

    same_node : (other : Node) → ◌≡◌ {A = Life} (Up node) (Up other) → node ≡ other
    same_node other e = cc

    stated_before : {x : Record} (key : Key) (state : State) → x ≡ Stated key state → Boot node.boot ≡ x → ⊥
    stated_before key state e f = cc

    restart_acts : IsAct (start_act n disk pending node new)
    restart_acts = record {
      was = λ e. cc;
      grows = (starts.kept ++ Boot node.boot ∷ [], starts.records ∙ assoc disk starts.kept (Boot node.boot ∷ []));
      bootless = λ other up. absurd (cc up);
      order = record {
        booted = λ other up. subst (λ (x : Node). x.boot ≡ boot_of new) (same_node other up) (sym boot_new);
        rises = le_of_eq (sym (ap boot_of (nothing_behind new)));
        logged = λ other up key entry h. starts.log.logged key entry (subst (λ (x : Node). fin.get x.log key ≡ Some entry) (sym (same_node other up)) h);
        owed = λ other up key entry h. starts.log.owed key entry (subst (λ (x : Node). fin.get x.log key ≡ Some entry) (sym (same_node other up)) h);
      };
      contents = record {
        drawn = λ id d. inl (below id d boot_rises starts.boot);
        fresh = λ content e. absurd (cc e);
        ended = λ content e. absurd (cc e);
        held = λ id octets m. ⊎_elim (λ old. inl old) (λ is. absurd (cc is)) (place (Octets id octets) m);
        sent = λ letter m. absurd m;
        wanted = λ filing w. absurd (no_wants (Up node) starts.tickets w.seq w.want w.stands);
      };
      files = record { file = λ letter m. absurd m; filed = λ letter m. absurd m };
      claims = record {
        claimed = λ m fact c. inl (inl (inr (inr (⊎_elim
            (λ (t : TicketClaims (Up node) m fact). absurd (no_wants (Up node) starts.tickets t.seq t.want t.stands))
            (λ other. ⊎_elim
            (λ (l : LogClaims n (slot_up node new) m fact). record {
              key = l.key;
              state = l.state;
              target = l.target;
              other = l.other;
              is = l.is;
              inside = ⊎_elim (λ old. old) (λ is. absurd (cc is)) (place (Retired l.key l.state) (among_front (Retired l.key l.state) new []
                  (starts.log.whole l.key l.state m l.says l.target l.other (λ entry h. l.told entry (subst (λ (x : Node). fin.get x.log l.key ≡ Some entry) (same_node l.node l.up) h)))));
            })
            (λ (d : DiskClaims n (slot_up node new) m fact). record {
              key = d.key;
              state = d.state;
              target = d.target;
              other = d.other;
              is = d.is;
              inside = ⊎_elim (λ old. old) (λ is. absurd (cc is)) (place (Retired d.key d.state) d.inside);
            })
            other)
            c))));
        sent = λ letter m. absurd m;
      };
      deletions = record {
        spoken = λ user id s. ⊎_elim
            (λ (d : DiskSpeaks (new ++ []) user id). inl (inl (⊎_elim
            (λ old. record { one = d.one; inside = old; speaks = d.speaks })
            (λ is. absurd (⊎_elim (λ e. boot_states is e) (λ e. boot_retires is e) d.speaks.is))
            (place d.one d.inside))))
            (λ (k : TicketSpeaks (Up node) user id). absurd (no_wants (Up node) starts.tickets k.seq k.want k.stands))
            s;
        sent = λ letter m. absurd m;
      };
      fit = record {
        slot = record {
          target = λ key state m. ⊎_elim (λ old. ready.fits.target key state old) (λ is. absurd (cc is)) (place (Stated key state) m);
          kind = λ key state m. ⊎_elim (λ old. ready.fits.kind key state old) (λ is. absurd (cc is)) (place (Stated key state) m);
        };
        sent = λ letter m. absurd m;
      };
      waits = record { waits = λ number here m asked w. absurd (no_wants (Up node) starts.tickets number.seq w.want w.stands) };
    }
      where
        assoc : (xs ys zs : List Record) → (xs ++ ys) ++ zs ≡ xs ++ (ys ++ zs)
        assoc [] ys zs = refl
        assoc (x ∷ xs) ys zs = ap (λ (l : List Record). x ∷ l) (assoc xs ys zs)

        below : (id : Id) → id.boot ≤ boot_of disk → boot_of disk ≤ boot_of (disk ++ starts.kept) → node.boot ≡ boot_of (disk ++ starts.kept) + 1 → id.boot < node.boot
        below id a b c = omega (arith, a, b, c)

        boot_states : {one : Record} {a : Key} {x : State} → Boot node.boot ≡ one → one ≡ Stated a x → ⊥
        boot_states p q = cc

        boot_retires : {one : Record} {a : Key} {x : State} → Boot node.boot ≡ one → one ≡ Retired a x → ⊥
        boot_retires p q = cc

pub start_acts : (n : ℕ) (disk pending new : List Record) (node : Node) → StartsNode n disk pending node new → IsReady n (record { life = Down pending; disk = disk }) None
    → IsAct (start_act n disk pending node new)
start_acts n disk pending new node starts ready = restart_acts n disk pending new node (restarts n disk pending new node starts) ready

-- A start that its disk cuts: what was pending is kept or lost, and the boot's record may be pending.
module _ (n : ℕ) (disk pending next new : List Record) (stops : StopsStart disk pending next new) where
  abbrev before : Slot
  before = record { life = Down pending; disk = disk }

  abbrev stopped : Slot
  stopped = record { life = Down next; disk = new }

  -- a record of the new disk may have stood, or is the boot
  stood_or : (one : Record) → Among one (new ++ next) → Among one (disk ++ pending) ⊎ (Boot (boot_of (disk ++ stops.kept) + 1) ≡ one)
  stood_or one m = ⊎_elim
      (λ inside. ⊎_elim
      (λ old. inl (among_front one disk pending old))
      (λ kept. inl (among_behind one disk pending (⊎_elim
      (λ none. absurd (subst (Among one) none kept))
      (λ all. subst (Among one) all kept) stops.pending_is)))
      (among_either one disk stops.kept (subst (Among one) stops.records inside)))
      (λ behind. ⊎_elim
      (λ none. absurd (subst (Among one) none behind))
      (λ other. ⊎_elim
      (λ is. ⊎_elim (λ e. inr e) (λ none. absurd none) (subst (Among one) is behind))
      (λ (none, is). inl (among_behind one disk pending (subst (Among one) is behind)))
      other) stops.next_is)
      (among_either one new next m)

  boot_not_less : IsReady n before None → boot_of disk ≤ boot_of new
  boot_not_less ready = subst (λ l. boot_of disk ≤ boot_of l) (sym stops.records) (⊎_elim
      (λ none. subst (λ k. boot_of disk ≤ boot_of (disk ++ k)) (sym none) (le_of_eq (sym (ap boot_of (nothing_behind disk)))))
      (λ all. subst (λ k. boot_of disk ≤ boot_of (disk ++ k)) (sym all) ready.order.rises)
      stops.pending_is)

  rises : IsReady n before None → boot_of new ≤ boot_of (new ++ next)
  rises ready = ⊎_elim
      (λ none. subst (λ k. boot_of new ≤ boot_of (new ++ k)) (sym none) (le_of_eq (sym (ap boot_of (nothing_behind new)))))
      (λ other. ⊎_elim
      (λ is. subst (λ k. boot_of new ≤ boot_of (new ++ k)) (sym is)
      (above (boot_of new) (boot_of (disk ++ stops.kept)) (boot_of (new ++ Boot (boot_of (disk ++ stops.kept) + 1) ∷ [])) (ap boot_of stops.records)
      (boot_both 0 new (Boot (boot_of (disk ++ stops.kept) + 1) ∷ []))))
      (λ (none, is). subst (λ k. boot_of new ≤ boot_of (new ++ k)) (sym is)
      (subst (λ l. boot_of l ≤ boot_of (l ++ pending)) (sym (stops.records ∙ ap (λ k. disk ++ k) none ∙ nothing_behind disk)) ready.order.rises))
      other)
      stops.next_is
    where
      above : (a b c : ℕ) → a ≡ b → c ≡ b + 1 → a ≤ c
      above a b c p q = omega (arith, p, q)

  pub stop_acts : IsReady n before None → IsAct (stop_act n disk pending next new)
  stop_acts ready = record {
    was = λ e. cc;
    grows = (stops.kept, stops.records);
    bootless = λ other up. absurd (cc up);
    order = record {
      booted = λ other up. absurd (cc up);
      rises = rises ready;
      logged = λ other up. absurd (cc up);
      owed = λ other up. absurd (cc up);
    };
    contents = record {
      drawn = λ id d. down_too id d (boot_not_less ready);
      fresh = λ content e. absurd (cc e);
      ended = λ content e. absurd (cc e);
      held = λ id octets m. ⊎_elim (λ old. inl old) (λ is. absurd (cc is)) (stood_or (Octets id octets) m);
      sent = λ letter m. absurd m;
      wanted = λ filing w. absurd (no_wants (Down next) refl w.seq w.want w.stands);
    };
    files = record { file = λ letter m. absurd m; filed = λ letter m. absurd m };
    claims = record {
      claimed = λ m fact c. inl (inl (⊎_elim
          (λ (t : TicketClaims (Down next) m fact). absurd (no_wants (Down next) refl t.seq t.want t.stands))
          (λ other. ⊎_elim
          (λ (l : LogClaims n stopped m fact). absurd (cc l.up))
          (λ (d : DiskClaims n stopped m fact). inr (inr (record {
            key = d.key;
            state = d.state;
            target = d.target;
            other = d.other;
            is = d.is;
            inside = ⊎_elim (λ old. old) (λ is. absurd (cc is)) (stood_or (Retired d.key d.state) d.inside);
          })))
          other)
          c));
      sent = λ letter m. absurd m;
    };
    deletions = record {
      spoken = λ user id s. ⊎_elim
          (λ (d : DiskSpeaks (new ++ next) user id). inl (inl (⊎_elim
          (λ old. record { one = d.one; inside = old; speaks = d.speaks })
          (λ is. absurd (⊎_elim (λ e. boot_states is e) (λ e. boot_retires is e) d.speaks.is))
          (stood_or d.one d.inside))))
          (λ (k : TicketSpeaks (Down next) user id). absurd (no_wants (Down next) refl k.seq k.want k.stands))
          s;
      sent = λ letter m. absurd m;
    };
    fit = record {
      slot = record {
        target = λ key state m. ⊎_elim (λ old. ready.fits.target key state old) (λ is. absurd (cc is)) (stood_or (Stated key state) m);
        kind = λ key state m. ⊎_elim (λ old. ready.fits.kind key state old) (λ is. absurd (cc is)) (stood_or (Stated key state) m);
      };
      sent = λ letter m. absurd m;
    };
    waits = record { waits = λ number here m asked w. absurd (cc w.up) };
  }
    where
      down_too : (id : Id) → id.boot ≤ boot_of disk → boot_of disk ≤ boot_of new → id.boot ≤ boot_of new
      down_too id a b = omega (arith, a, b)

      boot_states : {one : Record} {a : Key} {x : State} → Boot (boot_of (disk ++ stops.kept) + 1) ≡ one → one ≡ Stated a x → ⊥
      boot_states p q = cc

      boot_retires : {one : Record} {a : Key} {x : State} → Boot (boot_of (disk ++ stops.kept) + 1) ≡ one → one ≡ Retired a x → ⊥
      boot_retires p q = cc

-- A cluster that opens over empty disks is sound.
use Rattle.std.proofs.Common.{◌≡◌, ◌≢◌, ◌⊎◌, inl, inr, ⊎_elim, ◌≤◌, ℕ, zero, suc, List, [], ◌∷◌, ◌++◌, Option, Some, None, refl, sym, subst, arith, le_refl}
use Rattle.std.specs.Prelude.{slice_get}
use Rattle.std.specs.FinMap as fin
use Rattle.std.specs.Ordering.{nat_cmp}
use Rattle.mail_model.specs.Identity.{Id, Key, State}
use Rattle.mail_model.specs.Identity.Key.{Message}
use Rattle.mail_model.specs.Record.{Record}
use Rattle.mail_model.specs.Record.Record.{Boot, Promise, Octets, Stated, Retired}
use Rattle.object_model.specs.Lists.{Among}
use Rattle.object_model.specs.Keys.{key_cmp}
use Rattle.object_model.specs.Said.{said}
use Rattle.object_model.specs.Letters.{MapRow}
use Rattle.object_model.specs.UpdateLog.{Logged}
use Rattle.cluster_model.specs.Cluster.{Ticket, Node, Slot, slot_at, Want}
use Rattle.cluster_model.specs.Cluster.Life.{Up}
use Rattle.cluster_model.specs.Claims.{Fact, Wants, SlotClaims, TicketClaims, LogClaims, DiskClaims, NodesWant, SlotSpeaks, DiskSpeaks, TicketSpeaks, SlotHolds}
use Rattle.cluster_model.specs.Moves.{IsInOrder, SlotFits}
use Rattle.cluster_model.specs.Parts.{IsHeldSomewhere, Sound}
use Rattle.cluster_model.specs.World.{cluster_of}
use Rattle.cluster_model.specs.Starts.{first_epoch}
use Rattle.cluster_model.specs.WorldLaws.{fresh_slot, fresh_slots, opening_world, InPlan}

get_fresh : (all : ℕ) (map : List MapRow) (nodes k : ℕ) (slot : Slot) → slice_get (fresh_slots all map nodes) k ≡ Some slot → (fresh_slot all map ≡ slot) × (suc k ≤ nodes)
get_fresh all map zero k slot e = absurd (cc e)
get_fresh all map (suc nodes) zero slot e = (cc, omega arith)
get_fresh all map (suc nodes) (suc k) slot e = let r = get_fresh all map nodes k slot e in (r.0, omega (arith, r.1))

at_fresh : (nodes : ℕ) (map : List MapRow) (n : ℕ) (slot : Slot) → slot_at (fresh_slots nodes map nodes) n ≡ Some slot → (fresh_slot nodes map ≡ slot) × (n ≢ 0) × (n ≤ nodes)
at_fresh nodes map zero slot e = absurd (cc e)
at_fresh nodes map (suc k) slot e = let r = get_fresh nodes map nodes k slot e in (r.0, λ z. cc, r.1)

-- a fresh disk has nothing but the boot and the promise of the first epoch
abbrev pub IsOfOpening : Record → Type 0
IsOfOpening one = (Boot 1 ≡ one) ⊎ (Promise first_epoch ≡ one)

pub of_opening : (one : Record) → Among one ((Boot 1 ∷ Promise first_epoch ∷ []) ++ []) → IsOfOpening one
of_opening one m = ⊎_elim (λ e. inl e) (λ rest. ⊎_elim (λ e. inr e) (λ none. absurd none) rest) m

no_octets : (id : Id) (octets : List ℕ) → IsOfOpening (Octets id octets) → ⊥
no_octets id octets of = ⊎_elim (λ e. cc e) (λ e. cc e) of

pub no_state : (key : Key) (state : State) → IsOfOpening (Stated key state) → ⊥
no_state key state of = ⊎_elim (λ e. cc e) (λ e. cc e) of

no_retired : (key : Key) (state : State) → IsOfOpening (Retired key state) → ⊥
no_retired key state of = ⊎_elim (λ e. cc e) (λ e. cc e) of

no_ticket : (all : ℕ) (map : List MapRow) (seq : ℕ) (want : Want) → Wants (fresh_slot all map).life seq want → ⊥
no_ticket all map seq want w = clash (fin.get (fin.empty {R = nat_cmp}) seq) w.ticket (fin.get-empty nat_cmp seq) w.here
  where
    clash : (o : Option Ticket) (t : Ticket) → o ≡ None → o ≡ Some t → ⊥
    clash o t p q = cc

no_entry : (key : Key) (entry : Logged) → fin.get (fin.empty {R = key_cmp}) key ≡ Some entry → ⊥
no_entry key entry e = clash (fin.get (fin.empty {R = key_cmp}) key) entry (fin.get-empty key_cmp key) e
  where
    clash : (o : Option Logged) (t : Logged) → o ≡ None → o ≡ Some t → ⊥
    clash o t p q = cc

fresh_boot : (all : ℕ) (map : List MapRow) (node : Node) → (fresh_slot all map).life ≡ Up node → node.boot ≡ 1
fresh_boot all map node e = cc

fresh_log : (all : ℕ) (map : List MapRow) (node : Node) → (fresh_slot all map).life ≡ Up node → fin.empty ≡ node.log
fresh_log all map node e = cc

fresh_order : (all : ℕ) (map : List MapRow) → IsInOrder (fresh_slot all map)
fresh_order all map = record {
  booted = fresh_boot all map;
  rises = le_refl 1;
  logged = λ node up key entry h. absurd (no_entry key entry (subst (λ (l : _). fin.get l key ≡ Some entry) (sym (fresh_log all map node up)) h));
  owed = λ node up key entry h. absurd (no_entry key entry (subst (λ (l : _). fin.get l key ≡ Some entry) (sym (fresh_log all map node up)) h));
}

no_claim : (all : ℕ) (map : List MapRow) (n m : ℕ) (fact : Fact) → SlotClaims n (fresh_slot all map) m fact → ⊥
no_claim all map n m fact c = ⊎_elim
    (λ (t : TicketClaims (fresh_slot all map).life m fact). no_ticket all map t.seq t.want t.stands)
    (λ other. ⊎_elim
    (λ (l : LogClaims n (fresh_slot all map) m fact). none_said (said l.key (Boot 1 ∷ Promise first_epoch ∷ [])) l.state refl l.says)
    (λ (d : DiskClaims n (fresh_slot all map) m fact). no_retired d.key d.state (of_opening (Retired d.key d.state) d.inside))
    other)
    c
  where
    none_said : (o : Option State) (s : State) → o ≡ None → o ≡ Some s → ⊥
    none_said o s p q = cc

no_speech : (all : ℕ) (map : List MapRow) (user : List ℕ) (id : Id) → SlotSpeaks (fresh_slot all map) user id → ⊥
no_speech all map user id s = ⊎_elim
    (λ (d : DiskSpeaks ((Boot 1 ∷ Promise first_epoch ∷ []) ++ []) user id). let of = of_opening d.one d.inside in ⊎_elim
    (λ e. no_state (Message user id) d.speaks.state (subst IsOfOpening e of))
    (λ e. no_retired (Message user id) d.speaks.state (subst IsOfOpening e of))
    d.speaks.is)
    (λ (t : TicketSpeaks (fresh_slot all map).life user id). no_ticket all map t.seq t.want t.stands)
    s

module _ (nodes confirm : ℕ) (map : List MapRow) (few : nodes ≤ 64) where
  none_held : (id : Id) (octets : List ℕ) → IsHeldSomewhere (fresh_slots nodes map nodes) [] id octets → ⊥
  none_held id octets h = ⊎_elim
      (λ (n, slot, here, holds). no_octets id octets (of_opening (Octets id octets) (subst (λ (s : Slot). SlotHolds s id octets) (sym (at_fresh nodes map n slot here).0) holds)))
      (λ (letter, m, holds). absurd m)
      h.where_

  none_wanted : (filing : _) → NodesWant (fresh_slots nodes map nodes) filing → ⊥
  none_wanted filing w = no_ticket nodes map w.seq w.want (subst (λ (s : Slot). Wants s.life w.seq w.want) (sym (at_fresh nodes map w.node w.slot w.here).0) w.stands)

  pub opening_sound : InPlan nodes (opening_world nodes map).slots × Sound confirm (cluster_of (opening_world nodes map))
  opening_sound = (
    λ n slot here. let r = at_fresh nodes map n slot here in record { some = r.1; within = r.2; few = few },
    record {
      order = record { each = λ n slot here. subst IsInOrder (at_fresh nodes map n slot here).0 (fresh_order nodes map) };
      contents = record {
        one = λ id octets others a b. absurd (none_held id octets a);
        ended = λ id octets h. absurd (none_held id octets h);
        wanted = λ filing octets w h. absurd (none_wanted filing w);
        acked = λ copy octets m h. absurd m;
        held_drawn = λ id octets h. absurd (none_held id octets h);
        wanted_drawn = λ filing w. absurd (none_wanted filing w);
        acked_drawn = λ copy m. absurd m;
        filed_drawn = λ letter m. absurd m;
      };
      deletions = record {
        disks = λ n slot here user id s. absurd (no_speech nodes map user id (subst (λ (k : Slot). SlotSpeaks k user id) (sym (at_fresh nodes map n slot here).0) s));
        letters = λ letter m. absurd m;
      };
      claims = record {
        nodes = λ m fact c. absurd (no_claim nodes map c.node m fact (subst (λ (s : Slot). SlotClaims c.node s m fact) (sym (at_fresh nodes map c.node c.slot c.here).0) c.claims));
        letters = λ letter m. absurd m;
        files = λ letter m. absurd m;
        filed = λ letter m. absurd m;
        booked = λ entry m. absurd m;
      };
      fit = record {
        slots_fit = λ n slot here. subst (SlotFits n) (at_fresh nodes map n slot here).0 (record {
          target = λ key state m. absurd (no_state key state (of_opening (Stated key state) m));
          kind = λ key state m. absurd (no_state key state (of_opening (Stated key state) m));
        });
        letters_fit = λ letter m. absurd m;
      };
      waits = record {
        each = λ number m asked w. absurd (no_ticket nodes map number.seq w.waits.want
            (subst (λ (s : Slot). Wants s.life number.seq w.waits.want) (sym (at_fresh nodes map number.node w.slot w.here).0) w.waits.stands));
      };
      enough = record { acked = λ copy m. absurd m; dropped = λ user id confirmers m. absurd m };
    },
  )

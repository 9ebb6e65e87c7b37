-- An entry that may be added keeps each part.
use Rattle.std.proofs.Common.{◌≡◌, inl, ⊎_elim, ℕ, List, [], ◌∷◌, ◌++◌, true, ◌≤◌, subst, sym, ap, ◌∙◌}
use Rattle.mail_model.specs.Identity.{Id}
use Rattle.mail_model.specs.Book.{Acked, BookEntry}
use Rattle.mail_model.specs.Book.BookEntry.{Acknowledged, Struck, Dropped, WentDown, CameUp, WasLost}
use Rattle.object_model.specs.Sets.{has, count_in}
use Rattle.object_model.specs.Lists.{Among}
use Rattle.cluster_model.specs.Cluster.{Slot, NodeFiling}
use Rattle.object_model.specs.Letters.{Letter}
use Rattle.cluster_model.specs.Claims.{Fact, FactStands, NodesWant, EntryClaims, AreOf, IsIdDrawn, TicketClaims, fact_of}
use Rattle.cluster_model.specs.Claims.Fact.{HasCopies, IsGone}
use Rattle.cluster_model.specs.Moves.{MayEnter}
use Rattle.cluster_model.specs.Parts.{IsHeldSomewhere, Contents, Deletions, Claims, Enough}
use Rattle.object_model.proofs.Lists.{among_front, among_last}

-- the copies of all users are those of each
pub of_each : (slots : List Slot) (m : ℕ) (users : List (List ℕ)) (user : List ℕ) (id : Id) → Among user users → FactStands slots m (HasCopies users id) → FactStands slots m (HasCopies (user ∷ []) id)
of_each slots m users user id inside h = record {
  slot = h.slot;
  here = h.here;
  stands = λ other e. ⊎_elim (λ same. h.stands other (subst (λ u. Among u users) same inside)) (λ none. absurd none) e;
}

module _ (confirm : ℕ) (slots : List Slot) (flying : List Letter) (book : List BookEntry) (entry : BookEntry) (may : MayEnter confirm entry slots)
    (held : Contents slots flying book) (p : Claims slots flying book) where
  -- what an entry of a message was taken from
  wants_of : (copy : Acked) → MayEnter confirm (Acknowledged copy) slots → (filing : NodeFiling) × NodesWant slots filing × (copy.id ≡ filing.id) × (copy.size ≡ filing.size) × (copy.digest ≡ filing.digest)
  wants_of copy (filing, node, slot, seq, want, here, stands, is, inside, same_id, same_size, same_digest, confirmers, enough) =
      (filing, record { node = node; slot = slot; here = here; seq = seq; want = want; stands = stands; is = is }, same_id, same_size, same_digest)

  acked_new : (copy : Acked) (octets : List ℕ) → MayEnter confirm (Acknowledged copy) slots → IsHeldSomewhere slots flying copy.id octets → AreOf copy.size copy.digest octets
  acked_new copy octets m h =
      let w = wants_of copy m in
      let a = held.wanted w.0 octets w.1 (subst (λ i. IsHeldSomewhere slots flying i octets) w.2 h) in
      (w.3 ∙ a.0, w.4 ∙ a.1)

  drawn_new : (copy : Acked) → MayEnter confirm (Acknowledged copy) slots → IsIdDrawn slots copy.id
  drawn_new copy m = let w = wants_of copy m in subst (IsIdDrawn slots) (sym w.2) (held.wanted_drawn w.0 w.1)

  pub contents_entered : Contents slots flying (book ++ entry ∷ [])
  contents_entered = record {
    one = held.one;
    ended = held.ended;
    wanted = held.wanted;
    acked = λ copy octets m h. ⊎_elim
        (λ old. held.acked copy octets old h)
        (λ new. acked_new copy octets (subst (λ (e : BookEntry). MayEnter confirm e slots) new may) h)
        (among_last (Acknowledged copy) book entry m);
    held_drawn = held.held_drawn;
    wanted_drawn = held.wanted_drawn;
    acked_drawn = λ copy m. ⊎_elim
        (λ old. held.acked_drawn copy old)
        (λ new. drawn_new copy (subst (λ (e : BookEntry). MayEnter confirm e slots) new may))
        (among_last (Acknowledged copy) book entry m);
    filed_drawn = held.filed_drawn;
  }

  pub deletions_entered : Deletions slots flying book → Deletions slots flying (book ++ entry ∷ [])
  deletions_entered d = record {
    disks = λ n slot here user id s. among_front (Struck user id) book (entry ∷ []) (d.disks n slot here user id s);
    letters = λ letter m user id s. among_front (Struck user id) book (entry ∷ []) (d.letters letter m user id s);
  }

  claimed_new : (one : BookEntry) → MayEnter confirm one slots → (m : ℕ) (fact : Fact) → EntryClaims one m fact → FactStands slots m fact
  claimed_new (Acknowledged copy) (filing, node, slot, seq, want, here, stands, is, inside, same_id, same_size, same_digest, confirmers, enough) m fact (counts, same) =
      let claim : TicketClaims slot.life m (HasCopies filing.users filing.id) = record {
        seq = seq;
        want = want;
        stands = stands;
        counts = subst (λ c. has c m ≡ true) confirmers counts;
        is = ap fact_of is;
      } in
      subst (FactStands slots m) same (subst (λ i. FactStands slots m (HasCopies (copy.user ∷ []) i)) (sym same_id)
      (of_each slots m filing.users copy.user filing.id inside (p.nodes m (HasCopies filing.users filing.id) (record { node = node; slot = slot; here = here; claims = inl claim }))))
  claimed_new (Struck user id) may_ m fact claim = absurd claim
  claimed_new (Dropped user id confirmers) (node, slot, seq, want, here, stands, is, same, enough) m fact (counts, e) =
      let claim : TicketClaims slot.life m (IsGone user id) = record {
        seq = seq;
        want = want;
        stands = stands;
        counts = subst (λ c. has c m ≡ true) same counts;
        is = ap fact_of is;
      } in
      subst (FactStands slots m) e (p.nodes m (IsGone user id) (record { node = node; slot = slot; here = here; claims = inl claim }))
  claimed_new (WentDown node) may_ m fact claim = absurd claim
  claimed_new (CameUp node boot) may_ m fact claim = absurd claim
  claimed_new (WasLost node) may_ m fact claim = absurd claim

  pub claims_entered : Claims slots flying (book ++ entry ∷ [])
  claims_entered = record {
    nodes = p.nodes;
    letters = p.letters;
    files = p.files;
    filed = p.filed;
    booked = λ one m n fact claim. ⊎_elim
        (λ old. p.booked one old n fact claim)
        (λ new. claimed_new one (subst (λ (e : BookEntry). MayEnter confirm e slots) new may) n fact claim)
        (among_last one book entry m);
  }

  acked_enough : (copy : Acked) → MayEnter confirm (Acknowledged copy) slots → confirm ≤ count_in copy.confirmers
  acked_enough copy (filing, node, slot, seq, want, here, stands, is, inside, same_id, same_size, same_digest, confirmers, enough) = subst (λ c. confirm ≤ count_in c) (sym confirmers) enough

  dropped_enough : (user : List ℕ) (id : Id) (confirmers : ℕ) → MayEnter confirm (Dropped user id confirmers) slots → confirm ≤ count_in confirmers
  dropped_enough user id confirmers (node, slot, seq, want, here, stands, is, same, enough) = subst (λ c. confirm ≤ count_in c) (sym same) enough

  pub enough_entered : Enough confirm book → Enough confirm (book ++ entry ∷ [])
  enough_entered e = record {
    acked = λ copy m. ⊎_elim
        (λ old. e.acked copy old)
        (λ new. acked_enough copy (subst (λ (o : BookEntry). MayEnter confirm o slots) new may))
        (among_last (Acknowledged copy) book entry m);
    dropped = λ user id confirmers m. ⊎_elim
        (λ old. e.dropped user id confirmers old)
        (λ new. dropped_enough user id confirmers (subst (λ (o : BookEntry). MayEnter confirm o slots) new may))
        (among_last (Dropped user id confirmers) book entry m);
  }

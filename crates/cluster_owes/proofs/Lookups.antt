-- What is found in lists of records, entries and calls.
use Rattle.std.proofs.Common.{◌≡◌, inl, inr, ⊎_elim, ◌≤◌, ◌+◌, ℕ, zero, suc, Bool, true, false, cond, ◌||◌, List, [], ◌∷◌, length, map, flat_map, take, All, Option, Some, None, refl, sym, ap, ◌∙◌, subst, arith, true≢false, if◌then◌else◌}
use Rattle.std.specs.Prelude.{slice_get, nat_eq}
use Rattle.mail_model.specs.Identity.{Id}
use Rattle.mail_model.specs.Grammar.{IsRecord}
use Rattle.mail_model.specs.Lines.{ends_in_crlf, closed, sent_line}
use Rattle.mail_model.specs.Listing.{is_same_id, octets_in}
use Rattle.mail_model.specs.Tape.{or_else}
use Rattle.mail_model.specs.Record.{Record, HoldsOctets}
use Rattle.mail_model.specs.Record.Record.{Boot, Promise, Octets, Stated, Retired}
use Rattle.mail_model.specs.Book.{Acked, BookEntry, acked_in, struck_in, dropped_in}
use Rattle.mail_model.specs.Book.BookEntry.{Acknowledged, Struck, Dropped, WentDown, CameUp, WasLost}
use Rattle.object_model.specs.Lists.{Among}
use Rattle.object_model.proofs.Lists.{among_front, among_behind, among_either}
use Rattle.object_model.proofs.StateLaws.{id_self}
use Rattle.session_model.specs.Calls.{Call}
use Rattle.session_model.specs.Calls.Call.{Deliver, Login, Fetch, Strike}
use Rattle.session_model.specs.Calls.Answer.{Dropped as WereDropped}
use Rattle.session_model.specs.Logs.{Asked, Answered}
use Rattle.session_model.specs.Books.{Among as AmongAsked, AmongAnswers, struck_by, dropped_by}
use Rattle.session_model.specs.Copies.{AreDisks}
use Rattle.session_model.specs.Facts.{IsIn}
use Rattle.cluster_model.proofs.Filing.{octets_stand}
use Rattle.cluster_owes.specs.Held.{filed_on}

abbrev Pairs : Type 0
Pairs = List (List ℕ × Id)

-- a place of a list is of it
pub got_among : {X : Type 0} (xs : List X) (m : ℕ) (x : X) → slice_get xs m ≡ Some x → Among x xs
got_among [] m x e = absurd (cc e)
got_among (y ∷ xs) zero x e = inl (cc e)
got_among (y ∷ xs) (suc m) x e = inr (got_among xs m x e)

-- all records of a disk are in the grammar
pub in_grammar : (node : ℕ) (stores : List (Option (List ℕ))) (disks : List (List Record)) → AreDisks node stores disks → (m : ℕ) (records : List Record) → slice_get disks m ≡ Some records → All IsRecord records
in_grammar node [] [] are m records e = absurd (cc e)
in_grammar node [] (first ∷ disks) are m records e = absurd are
in_grammar node (told ∷ stores) [] are m records e = absurd are
in_grammar node (told ∷ stores) (first ∷ disks) are zero records e = subst (All IsRecord) (let same : first ≡ records = cc e in same) are.0
in_grammar node (told ∷ stores) (first ∷ disks) are (suc m) records e = in_grammar (node + 1) stores disks are.2 m records e

-- octets that stand are found
pub octets_there : (id : Id) (octets : List ℕ) (records : List Record) → Among (Octets id octets) records → (first : List ℕ) × (octets_in id records ≡ Some first)
octets_there id octets [] m = absurd m
octets_there id octets (Boot boot ∷ records) m = octets_there id octets records (⊎_elim (λ e. absurd (cc e)) (λ k. k) m)
octets_there id octets (Promise epoch ∷ records) m = octets_there id octets records (⊎_elim (λ e. absurd (cc e)) (λ k. k) m)
octets_there id octets (Retired key state ∷ records) m = octets_there id octets records (⊎_elim (λ e. absurd (cc e)) (λ k. k) m)
octets_there id octets (Stated key state ∷ records) m = octets_there id octets records (⊎_elim (λ e. absurd (cc e)) (λ k. k) m)
octets_there id octets (Octets other held ∷ records) m = by (λ k. octets_there id octets records k) (is_same_id other id) refl
  where
    by : (Among (Octets id octets) records → (first : List ℕ) × (octets_in id records ≡ Some first)) → (b : Bool) → is_same_id other id ≡ b
        → (first : List ℕ) × (cond b (Some held) (octets_in id records) ≡ Some first)
    by rest true e = (held, refl)
    by rest false e = rest (⊎_elim (λ same. absurd (true≢false (sym (id_self id) ∙ ap (λ i. is_same_id i id) (sym (id_in same)) ∙ e))) (λ k. k) m)
      where
        id_in : Octets other held ≡ Octets id octets → other ≡ id
        id_in same = cc

-- what some disk has of a message is found on the first that has any
pub filed_found : (disks : List (List Record)) (m : ℕ) (records : List Record) (id : Id) (octets : List ℕ) → slice_get disks m ≡ Some records → Among (Octets id octets) records
    → (first : List ℕ) × (n : ℕ) × (holder : List Record) × (filed_on disks id ≡ Some first) × (slice_get disks n ≡ Some holder) × Among (Octets id first) holder
filed_found [] m records id octets e k = absurd (cc e)
filed_found (head ∷ disks) m records id octets e k = by (λ j f. filed_found disks j records id octets f k) m e (octets_in id head) refl
  where
    by : ((j : ℕ) → slice_get disks j ≡ Some records → (first : List ℕ) × (n : ℕ) × (holder : List Record) × (filed_on disks id ≡ Some first) × (slice_get disks n ≡ Some holder) × Among (Octets id first) holder)
        → (m : ℕ) → slice_get (head ∷ disks) m ≡ Some records → (o : Option (List ℕ)) → octets_in id head ≡ o
        → (first : List ℕ) × (n : ℕ) × (holder : List Record) × (or_else o (filed_on disks id) ≡ Some first) × (slice_get (head ∷ disks) n ≡ Some holder) × Among (Octets id first) holder
    by rest m e (Some first) g = (first, 0, head, refl, refl, octets_stand id first head g)
    by rest zero e None g =
        let same : head ≡ records = cc e in
        let there = octets_there id octets head (subst (Among (Octets id octets)) (sym same) k) in
        absurd (clash (octets_in id head) there.0 g there.1)
      where
        clash : (o : Option (List ℕ)) (x : List ℕ) → o ≡ None → o ≡ Some x → ⊥
        clash o x p q = cc
    by rest (suc j) e None g = let r = rest j e in (r.0, suc r.1, r.2, r.3, r.4, r.5)

-- octets that a disk holds stand on it
pub holds_among : (id : Id) (octets : List ℕ) (records : List Record) → HoldsOctets id octets records → Among (Octets id octets) records
holds_among id octets [] h = absurd h
holds_among id octets (first ∷ records) h = ⊎_elim (λ e. inl e) (λ later. inr (holds_among id octets records later.1)) h

-- the parts of a book
pub acked_among : (book : List BookEntry) (copy : Acked) → Among copy (acked_in book) → Among (Acknowledged copy) book
acked_among [] copy m = absurd m
acked_among (Acknowledged one ∷ book) copy m = ⊎_elim (λ e. inl (ap Acknowledged e)) (λ later. inr (acked_among book copy later)) m
acked_among (Struck user id ∷ book) copy m = inr (acked_among book copy m)
acked_among (Dropped user id confirmers ∷ book) copy m = inr (acked_among book copy m)
acked_among (WentDown node ∷ book) copy m = inr (acked_among book copy m)
acked_among (CameUp node boot ∷ book) copy m = inr (acked_among book copy m)
acked_among (WasLost node ∷ book) copy m = inr (acked_among book copy m)

pub struck_among : (book : List BookEntry) (user : List ℕ) (id : Id) → Among (Struck user id) book → Among (user, id) (struck_in book)
struck_among [] user id m = absurd m
struck_among (Acknowledged one ∷ book) user id m = struck_among book user id (⊎_elim (λ e. absurd (cc e)) (λ k. k) m)
struck_among (Struck name other ∷ book) user id m = ⊎_elim (λ e. inl (pair_of e)) (λ later. inr (struck_among book user id later)) m
  where
    same_user : Struck name other ≡ Struck user id → name ≡ user
    same_user e = cc

    same_id : Struck name other ≡ Struck user id → other ≡ id
    same_id e = cc

    pair_of : Struck name other ≡ Struck user id → ◌≡◌ {A = List ℕ × Id} (name, other) (user, id)
    pair_of e = λ i. (same_user e i, same_id e i)
struck_among (Dropped name other confirmers ∷ book) user id m = struck_among book user id (⊎_elim (λ e. absurd (cc e)) (λ k. k) m)
struck_among (WentDown node ∷ book) user id m = struck_among book user id (⊎_elim (λ e. absurd (cc e)) (λ k. k) m)
struck_among (CameUp node boot ∷ book) user id m = struck_among book user id (⊎_elim (λ e. absurd (cc e)) (λ k. k) m)
struck_among (WasLost node ∷ book) user id m = struck_among book user id (⊎_elim (λ e. absurd (cc e)) (λ k. k) m)

pub dropped_among : (book : List BookEntry) (user : List ℕ) (id : Id) → Among (user, id) (dropped_in book) → (confirmers : ℕ) × Among (Dropped user id confirmers) book
dropped_among [] user id m = absurd m
dropped_among (Acknowledged one ∷ book) user id m = let r = dropped_among book user id m in (r.0, inr r.1)
dropped_among (Struck name other ∷ book) user id m = let r = dropped_among book user id m in (r.0, inr r.1)
dropped_among (Dropped name other confirmers ∷ book) user id m = ⊎_elim
    (λ e. (confirmers, inl (λ i. Dropped ((ap (λ (p : List ℕ × Id). p.0) e) i) ((ap (λ (p : List ℕ × Id). p.1) e) i) confirmers)))
    (λ later. let r = dropped_among book user id later in (r.0, inr r.1)) m
dropped_among (WentDown node ∷ book) user id m = let r = dropped_among book user id m in (r.0, inr r.1)
dropped_among (CameUp node boot ∷ book) user id m = let r = dropped_among book user id m in (r.0, inr r.1)
dropped_among (WasLost node ∷ book) user id m = let r = dropped_among book user id m in (r.0, inr r.1)

-- the calls that asked for a deletion, and the answers that say that it is done
among_pair : (user name : List ℕ) (id : Id) (ids : List Id) → Among {X = List ℕ × Id} (user, id) (map (λ (i : Id). (name, i)) ids) → (name ≡ user) × IsIn id ids
among_pair user name id [] m = absurd m
among_pair user name id (first ∷ ids) m = ⊎_elim
    (λ e. (ap (λ (p : List ℕ × Id). p.0) e, inl (ap (λ (p : List ℕ × Id). p.1) e)))
    (λ later. let r = among_pair user name id ids later in (r.0, inr r.1)) m

pub in_pair : (user : List ℕ) (id : Id) (ids : List Id) → IsIn id ids → Among {X = List ℕ × Id} (user, id) (map (λ (i : Id). (user, i)) ids)
in_pair user id [] m = absurd m
in_pair user id (first ∷ ids) m = ⊎_elim (λ e. inl (λ i. (user, e i))) (λ later. inr (in_pair user id ids later)) m

pub struck_call : (asked : List Asked) (user : List ℕ) (id : Id) → Among (user, id) (flat_map (λ one. struck_by one.call) asked)
    → (k : ℕ) × (ids : List Id) × AmongAsked (record { session = k; call = Strike user ids }) asked × IsIn id ids
struck_call [] user id m = absurd m
struck_call (one ∷ asked) user id m = ⊎_elim
    (λ here. by one.call refl here)
    (λ later. let r = struck_call asked user id later in (r.0, r.1, inr r.2, r.3))
    (among_either (user, id) (struck_by one.call) (flat_map (λ o. struck_by o.call) asked) m)
  where
    by : (call : Call) → one.call ≡ call → Among (user, id) (struck_by call) → (k : ℕ) × (ids : List Id) × AmongAsked (record { session = k; call = Strike user ids }) (one ∷ asked) × IsIn id ids
    by (Strike name ids) same k =
        let r = among_pair user name id ids k in
        (one.session, ids, inl (λ i. record { session = one.session; call = (same ∙ ap (λ n. Strike n ids) r.0) i }), r.1)
    by (Deliver mail) same k = absurd k
    by (Login name given) same k = absurd k
    by (Fetch name other) same k = absurd k

pub dropped_answer : (answered : List Answered) (k : ℕ) (user : List ℕ) (ids : List Id) (id : Id) → AmongAnswers (record { session = k; call = Strike user ids; answer = WereDropped }) answered → IsIn id ids
    → Among (user, id) (flat_map (λ one. dropped_by one.call one.answer) answered)
dropped_answer [] k user ids id m inside = absurd m
dropped_answer (one ∷ answered) k user ids id m inside = ⊎_elim
    (λ same. among_front (user, id) (dropped_by one.call one.answer) (flat_map (λ o. dropped_by o.call o.answer) answered)
    (subst (λ (a : Answered). Among (user, id) (dropped_by a.call a.answer)) (sym same) (in_pair user id ids inside)))
    (λ later. among_behind (user, id) (dropped_by one.call one.answer) (flat_map (λ o. dropped_by o.call o.answer) answered) (dropped_answer answered k user ids id later inside))
    m

-- octets that are fewer than are taken
pub taken_all : (n : ℕ) (octets : List ℕ) → length octets ≤ n → take n octets ≡ octets
taken_all zero [] le = refl
taken_all (suc n) [] le = refl
taken_all zero (x ∷ octets) le = absurd (omega (arith, le))
taken_all (suc n) (x ∷ octets) le = ap (λ (l : List ℕ). x ∷ l) (taken_all n octets (omega (arith, le)))

-- octets that end in CRLF are closed
pub closed_is : (octets : List ℕ) → ends_in_crlf octets ≡ true → closed octets ≡ octets
closed_is octets e = by (nat_eq (length octets) 0) (ends_in_crlf octets) e
  where
    by : (a b : Bool) → b ≡ true → (if a || b then octets else sent_line octets) ≡ octets
    by true b e = refl
    by false true e = refl
    by false false e = absurd (true≢false (sym e))

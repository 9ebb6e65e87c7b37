-- What a node sends: to whom, in which order, and under which epoch.
use Rattle.std.proofs.Common.{◌≡◌, ◌≢◌, ◌⊎◌, inl, inr, ⊎_elim, ◌≤◌, ℕ, zero, suc, Bool, true, false, not, ◌&&◌, List, [], ◌∷◌, ◌++◌, map, Option, Some, None, refl, sym, ap, ◌∙◌, subst, true≢false, nat_eq, eq-eqb, eqb-true, arith, if◌then◌else◌}
use Rattle.std.specs.FinMap as fin
use Rattle.std.proofs.lemmas.Bool.{and_parts}
use Rattle.mail_model.specs.Identity.{Id, EpochId, Key, State}
use Rattle.mail_model.specs.Record.{Record}
use Rattle.mail_model.specs.Record.Record.{Retired}
use Rattle.object_model.specs.Lists.{Among}
use Rattle.object_model.specs.Sets.{has}
use Rattle.object_model.specs.Keys.{is_same_epoch}
use Rattle.object_model.specs.States.{is_same_state}
use Rattle.object_model.specs.Letters.{Number, DeletionMark, Membership, Body, Letter}
use Rattle.object_model.specs.Letters.Body.{File, Filed, Strike, StrikeTold, Push, PushAck, Retire}
use Rattle.object_model.specs.UpdateLog.{Logged, cleared}
use Rattle.cluster_model.specs.Cluster.{Ticket, Node, epoch_in, epoch_of}
use Rattle.cluster_model.specs.Rules.{Reaction, StrikeItem, answer, idle, receivers, letters_to, shrunk, acked_at, retired_at, told_at, ticket_at, marks_for, strike_to, strikes_to, dated, new_number, begin_deliver, begin_strike}
use Rattle.cluster_model.specs.Thrown.{has_epoch, is_stale, is_late, thrown_by, with_stamps}
use Rattle.cluster_model.specs.Thrown.Why.{Stale, Late}
use Rattle.cluster_model.specs.Deeds.{hear_body, hear}
use Rattle.cluster_model.specs.RuleLaws.{IsRising}
use Rattle.object_model.proofs.Lists.{among_either}
use Rattle.cluster_model.proofs.Logs.{receiver_is, sent_to}

epoch_is : (a b : EpochId) → is_same_epoch a b ≡ true → a ≡ b
epoch_is a b h =
    let parts = and_parts (nat_eq a.count b.count) (nat_eq a.node b.node) h in
    let counts : a.count ≡ b.count = eqb-true a.count b.count parts.0 in
    let nodes : a.node ≡ b.node = eqb-true a.node b.node parts.1 in
    λ i. record { count = counts i; node = nodes i }

-- a letter that is not thrown carries the epoch of its receiver, if any
same_epoch : (own : ℕ) (node : Node) (letter : Letter) → has_epoch letter.body ≡ true → thrown_by own node letter ≡ None → letter.epoch ≡ epoch_of node
same_epoch own node letter carries e = by node.installed refl
  where
    stale_not : (s l : Bool) → (if s then Some Stale else (if l then Some Late else None)) ≡ None → s ≡ false
    stale_not true l f = absurd (cc f)
    stale_not false l f = refl

    not_false : (b : Bool) → not b ≡ false → b ≡ true
    not_false true f = refl
    not_false false f = absurd (true≢false f)

    second : (a b : Bool) → a ≡ true → (a && b) ≡ false → b ≡ false
    second true b p q = q
    second false b p q = absurd (true≢false (sym p))

    fresh : is_stale letter node.installed ≡ false
    fresh = stale_not (is_stale letter node.installed) (is_late own node letter) e

    by : (installed : Option Membership) → node.installed ≡ installed → letter.epoch ≡ epoch_in node.installed
    by None i = absurd (true≢false (sym carries ∙ sym (ap (is_stale letter) i) ∙ fresh))
    by (Some membership) i = epoch_is letter.epoch membership.epoch (not_false (is_same_epoch letter.epoch membership.epoch)
        (second (has_epoch letter.body) (not (is_same_epoch letter.epoch membership.epoch)) carries (sym (ap (is_stale letter) i) ∙ fresh)))
        ∙ sym (ap epoch_in i)

-- a letter is right for one that was heard
abbrev Goes : ℕ → Node → Letter → Letter → Type 0
Goes own node letter one = (one.from ≡ own) × (one.epoch ≡ epoch_of node) × (((one.to ≡ letter.from) × (one.ticket ≡ letter.ticket)) ⊎ (one.ticket ≡ None))

module _ (own nodes : ℕ) (node : Node) (disk : List Record) (letter : Letter) (to : letter.to ≡ own) where
  answered : (body : Body) → letter.epoch ≡ epoch_of node → (one : Letter) → Among one (answer letter body ∷ []) → Goes own node letter one
  answered body epoch one m = ⊎_elim (λ is. subst (Goes own node letter) is (to, epoch, inl (refl, refl))) (λ none. absurd none) m

  retires : (key : Key) (state : State) (one : Letter) → Among one (letters_to own (epoch_of node) None (receivers own state.targets nodes) (Retire key state)) → Goes own node letter one
  retires key state one m = let r = sent_to own (epoch_of node) None (receivers own state.targets nodes) (Retire key state) one m in subst (Goes own node letter) r.2 (refl, refl, inr refl)

  shrinks : (key : Key) (entry : Logged) (one : Letter) → Among one (shrunk own nodes node disk key entry).out → Goes own node letter one
  shrinks key entry one m = by (nat_eq entry.remaining 0) m
    where
      by : (b : Bool) → Among one ((λ (r : Reaction). r.out) (if b
          then record { node = record node { log = fin.remove node.log key }; disk = disk ++ Retired key entry.state ∷ []; out = letters_to own (epoch_of node) None (receivers own entry.state.targets nodes) (Retire key entry.state) }
          else record { node = record node { log = fin.insert node.log key entry }; disk = disk; out = [] })) → Goes own node letter one
      by true k = retires key entry.state one k
      by false k = absurd k

  acked : (key : Key) (state : State) (from : ℕ) (found : Option Logged) (one : Letter) → Among one (acked_at own nodes node disk key state from found).out → Goes own node letter one
  acked key state from None one m = absurd m
  acked key state from (Some entry) one m = by (is_same_state entry.state state && has entry.remaining from) m
    where
      by : (b : Bool) → Among one ((λ (r : Reaction). r.out) (if b then shrunk own nodes node disk key (cleared from entry) else idle node disk)) → Goes own node letter one
      by true k = shrinks key (cleared from entry) one k
      by false k = absurd k

  retired : (key : Key) (state : State) (found : Option Logged) (one : Letter) → Among one (retired_at node disk key state found).out → ⊥
  retired key state None one m = m
  retired key state (Some entry) one m = by (is_same_state entry.state state) m
    where
      by : (b : Bool) → Among one ((λ (r : Reaction). r.out) (if b then record { node = record node { log = fin.remove node.log key }; disk = disk ++ Retired key entry.state ∷ []; out = [] } else idle node disk)) → ⊥
      by true k = k
      by false k = k

  told : (found : Option Ticket) (one : Letter) → Among one (told_at node disk letter found).out → ⊥
  told None one m = m
  told (Some ticket) one m = m

  by_body : (body : Body) → (has_epoch body ≡ true → letter.epoch ≡ epoch_of node) → (one : Letter) → Among one (hear_body own nodes node disk letter body).out → Goes own node letter one
  by_body (File id stamp targets users octets) epoch one m = answered (Filed id) (epoch refl) one m
  by_body (Filed id) epoch one m = absurd (told (ticket_at own node letter.ticket) one m)
  by_body (Strike user marks) epoch one m = answered (StrikeTold user (map (λ mark. mark.id) marks)) (epoch refl) one m
  by_body (StrikeTold user ids) epoch one m = absurd (told (ticket_at own node letter.ticket) one m)
  by_body (Push key state octets) epoch one m = answered (PushAck key state) (epoch refl) one m
  by_body (PushAck key state) epoch one m = acked key state letter.from (fin.get node.log key) one m
  by_body (Retire key state) epoch one m = absurd (retired key state (fin.get node.log key) one m)
  by_body body epoch one m = absurd m

pub answers_sender : (own nodes : ℕ) (node : Node) (disk : List Record) (letter : Letter) → letter.to ≡ own → thrown_by own node letter ≡ None
    → (one : Letter) → Among one (hear own nodes node disk letter).out
    → (one.from ≡ own) × (one.epoch ≡ epoch_of node) × (((one.to ≡ letter.from) × (one.ticket ≡ letter.ticket)) ⊎ (one.ticket ≡ None))
answers_sender own nodes node disk letter to kept one m =
    by_body own nodes (with_stamps letter.body node) disk letter to letter.body (λ carries. same_epoch own node letter carries kept) one m

-- a list of letters that rises goes on to rise
rising_more : (low high : ℕ) (letters : List Letter) (one : Letter) → IsRising low letters → ((l : Letter) → Among l letters → l.to ≤ high) → low ≤ high → one.to ≡ suc high → IsRising low (letters ++ one ∷ [])
rising_more low high [] one rising within le is = (omega (arith, le, is), tt)
rising_more low high (letter ∷ letters) one rising within le is = (rising.0, rising_more letter.to high letters one rising.1 (λ l m. within l (inr m)) (within letter (inl refl)) is)

letters_within : (own mask k : ℕ) (epoch : EpochId) (ticket : Option Number) (body : Body) (l : Letter) → Among l (letters_to own epoch ticket (receivers own mask k) body) → l.to ≤ k
letters_within own mask k epoch ticket body l m =
    let r = sent_to own epoch ticket (receivers own mask k) body l m in subst (λ (x : Letter). x.to ≤ k) r.2 (receiver_within k r.0 r.1)
  where
    receiver_within : (k m : ℕ) → Among m (receivers own mask k) → m ≤ k
    receiver_within zero m inside = absurd inside
    receiver_within (suc k) m inside = ⊎_elim
        (λ front. omega (arith, receiver_within k m front))
        (λ last. by (has mask (suc k) && not (nat_eq (suc k) own)) last)
        (among_either m (receivers own mask k) _ inside)
      where
        by : (b : Bool) → Among m (if b then suc k ∷ [] else []) → m ≤ suc k
        by true t = ⊎_elim (λ e. omega (arith, e)) (λ none. absurd none) t
        by false t = absurd t

nothing_behind : (xs : List Letter) → xs ++ [] ≡ xs
nothing_behind [] = refl
nothing_behind (x ∷ xs) = ap (λ (l : List Letter). x ∷ l) (nothing_behind xs)

letters_both : (own : ℕ) (epoch : EpochId) (ticket : Option Number) (xs ys : List ℕ) (body : Body) → letters_to own epoch ticket (xs ++ ys) body ≡ letters_to own epoch ticket xs body ++ letters_to own epoch ticket ys body
letters_both own epoch ticket [] ys body = refl
letters_both own epoch ticket (x ∷ xs) ys body = ap (λ (l : List Letter). record { from = own; to = x; epoch = epoch; ticket = ticket; body = body } ∷ l) (letters_both own epoch ticket xs ys body)

letters_rise : (own mask k : ℕ) (epoch : EpochId) (ticket : Option Number) (body : Body) → IsRising 0 (letters_to own epoch ticket (receivers own mask k) body)
letters_rise own mask zero epoch ticket body = tt
letters_rise own mask (suc k) epoch ticket body = by (letters_rise own mask k epoch ticket body) (has mask (suc k) && not (nat_eq (suc k) own))
  where
    by : IsRising 0 (letters_to own epoch ticket (receivers own mask k) body) → (b : Bool) → IsRising 0 (letters_to own epoch ticket (receivers own mask k ++ (if b then suc k ∷ [] else [])) body)
    by rest true = subst (IsRising 0) (sym (letters_both own epoch ticket (receivers own mask k) (suc k ∷ []) body))
        (rising_more 0 k (letters_to own epoch ticket (receivers own mask k) body) (record { from = own; to = suc k; epoch = epoch; ticket = ticket; body = body })
        rest (λ l m. letters_within own mask k epoch ticket body l m) (omega arith) refl)
    by rest false = subst (IsRising 0) (sym (letters_both own epoch ticket (receivers own mask k) [] body)) (subst (IsRising 0) (sym (nothing_behind (letters_to own epoch ticket (receivers own mask k) body))) rest)

module _ (own : ℕ) (epoch : EpochId) (number : Number) (user : List ℕ) (items : List StrikeItem) where
  strike_has : (m : ℕ) (marks : List DeletionMark) (l : Letter) → Among l (strike_to own epoch number user m marks) → m ≡ l.to
  strike_has m [] l inside = absurd inside
  strike_has m (mark ∷ marks) l inside = ⊎_elim (λ is. ap (λ (x : Letter). x.to) is) (λ none. absurd none) inside

  strikes_within : (k : ℕ) (l : Letter) → Among l (strikes_to own epoch number user items k) → (l.to ≤ k) × (l.to ≢ own)
  strikes_within zero l inside = absurd inside
  strikes_within (suc k) l inside = ⊎_elim
      (λ front. let r = strikes_within k l front in (omega (arith, r.0), r.1))
      (λ last. by (nat_eq (suc k) own) refl last)
      (among_either l (strikes_to own epoch number user items k) _ inside)
    where
      by : (b : Bool) → nat_eq (suc k) own ≡ b → Among l (if b then [] else strike_to own epoch number user (suc k) (marks_for (suc k) items)) → (l.to ≤ suc k) × (l.to ≢ own)
      by true e t = absurd t
      by false e t =
          let is = strike_has (suc k) (marks_for (suc k) items) l t in
          (omega (arith, is), λ same. true≢false (sym (eq-eqb (suc k) own (is ∙ same)) ∙ e))

  strikes_rise : (k : ℕ) → IsRising 0 (strikes_to own epoch number user items k)
  strikes_rise zero = tt
  strikes_rise (suc k) = by (strikes_rise k) (nat_eq (suc k) own) (marks_for (suc k) items)
    where
      by : IsRising 0 (strikes_to own epoch number user items k) → (b : Bool) (marks : List DeletionMark) → IsRising 0 (strikes_to own epoch number user items k ++ (if b then [] else strike_to own epoch number user (suc k) marks))
      by rest true marks = subst (IsRising 0) (sym (nothing_behind (strikes_to own epoch number user items k))) rest
      by rest false [] = subst (IsRising 0) (sym (nothing_behind (strikes_to own epoch number user items k))) rest
      by rest false (mark ∷ marks) = rising_more 0 k (strikes_to own epoch number user items k) (record { from = own; to = suc k; epoch = epoch; ticket = Some number; body = Strike user (mark ∷ marks) })
          rest (λ l m. (strikes_within k l m).0) (omega arith) refl

pub sends_in_order : (own nodes seconds : ℕ) (node : Node) (disk : List Record)
    → ((users : List (List ℕ)) (octets : List ℕ) (targets : ℕ) → IsRising 0 (begin_deliver own nodes seconds node disk users octets targets).out
    × ((one : Letter) → Among one (begin_deliver own nodes seconds node disk users octets targets).out → one.to ≢ own))
    × ((user : List ℕ) (asked : List (Id × ℕ)) → IsRising 0 (begin_strike own nodes node disk user asked).out
    × ((one : Letter) → Among one (begin_strike own nodes node disk user asked).out → one.to ≢ own))
sends_in_order own nodes seconds node disk = (
  λ users octets targets. (
    letters_rise own targets nodes (epoch_of node) (Some (new_number own node)) _,
    λ one m. let r = sent_to own (epoch_of node) (Some (new_number own node)) (receivers own targets nodes) _ one m in subst (λ (x : Letter). x.to ≢ own) r.2 (receiver_is own targets nodes r.0 r.1).1,
  ),
  λ user asked. (
    strikes_rise own (epoch_of node) (new_number own node) user (dated own node node.count asked) nodes,
    λ one m. (strikes_within own (epoch_of node) (new_number own node) user (dated own node node.count asked) nodes one m).1,
  ),
)

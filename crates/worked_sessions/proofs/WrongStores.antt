-- No wrong store keeps the promise on stored messages.
use Rattle.std.proofs.Common.{◌≡◌, ◌⊎◌, inl, inr, ⊎_elim, ◌-◌, ℕ, suc, Bool, true, false, List, [], ◌∷◌, ◌++◌, length, map, All, Some, refl, sym, ap, ◌∙◌, subst, arith, codes, slice_get, length-append, nat_eq, if◌then◌else◌}
use Rattle.std.specs.Prelude.{slice_index}
use Rattle.std.proofs.lemmas.Bool.{eq-eqb, ne_eqb, cond-false}
use Rattle.std.proofs.lemmas.List.Elements.{All-head, All-tail}
use Rattle.mail_model.specs.Identity.{Id, Stamp, Value}
use Rattle.mail_model.specs.Identity.Key.{Message}
use Rattle.mail_model.specs.Identity.Value.{Here, Gone}
use Rattle.mail_model.specs.Mail.{IsStored, trace_lines}
use Rattle.mail_model.specs.Plan.{Plan}
use Rattle.mail_model.specs.Record.{Record, IsAmongRecords, HoldsOctets}
use Rattle.mail_model.specs.Record.Record.{Boot, Octets, Stated}
use Rattle.mail_model.specs.Site.{nth_id, nth_stamp}
use Rattle.mail_model.specs.Stored.{Ack, HaveOtherIds, mails_in, stored_sessions, opened}
use Rattle.mail_model.specs.Told.{Mail}
use Rattle.mail_model.specs.Transcript.{Entry}
use Rattle.mail_model.specs.Tape.Protocol.{Smtp}
use Rattle.session_model.specs.Sessions.{Session, IsSession, AreSessions}
use Rattle.session_model.specs.Copies.{OnNode, OnEnough, KeepsCopy, EachStands}
use Rattle.session_model.specs.Promises.{StoredStands}
use Rattle.worked_sessions.specs.OneMessage.{plan_of_nodes, small_plan, small_mail, small_octets, small_lines, small_entries, small_records, at_quit}
use Rattle.worked_sessions.specs.WrongStores.{WrongStores, StoredStandsNot, empty_records, other_octets, other_records, second_lines, second_entries, two_nodes, lost_lines, lost_entries}
use Rattle.worked_sessions.proofs.Alike.{Shown, shown_at, talks, told_alike}

-- the user's copy of some message like the one that was told is kept on enough nodes
record Kept (plan : Plan) (disks : List (List Record)) (ack : Ack) : Type 0 where
  pub nodes : List ℕ
  pub copy : OnEnough plan disks (KeepsCopy ack (codes "alice")) nodes
  pub mail : ack.mail ≡ small_mail

-- the first message of some, and where it is kept
kept_first : (plan : Plan) (lines : List (List ℕ)) (disks : List (List Record)) (ack : Ack) (acks : List Ack) (confirmers : List (List ℕ)) → EachStands plan lines disks (ack ∷ acks) confirmers
    → ack.mail ≡ small_mail → Kept plan disks ack
kept_first plan lines disks ack acks [] stands mail = absurd stands
kept_first plan lines disks ack acks (nodes ∷ confirmers) stands mail = record {
  nodes = nodes;
  copy = All-head (λ (user : List ℕ). OnEnough plan disks (KeepsCopy ack user) nodes) (codes "alice") []
      (subst (λ (m : Mail). All (λ (user : List ℕ). OnEnough plan disks (KeepsCopy ack user) nodes) m.mailboxes) mail stands.0.copies);
  mail = mail;
}

-- the only message that a session told
pub mail_of_one : (ack : Ack) (acks : List Ack) (k : ℕ) → ack.session ≡ k → mails_in k (ack ∷ acks) ≡ small_mail ∷ [] → ack.mail ≡ small_mail
mail_of_one ack acks k own told = by (nat_eq ack.session k) refl told
  where
    by : (b : Bool) → nat_eq ack.session k ≡ b → (if b then ack.mail ∷ mails_in k acks else mails_in k acks) ≡ small_mail ∷ [] → ack.mail ≡ small_mail
    by true is same = cc same
    by false is same = absurd (let e : true ≡ false = sym (eq-eqb ack.session k own) ∙ is in cc)

-- a message of another session is none of this one
other_session : (ack : Ack) (acks : List Ack) (k : ℕ) → (ack.session ≡ k → ⊥) → mails_in k (ack ∷ acks) ≡ small_mail ∷ [] → mails_in k acks ≡ small_mail ∷ []
other_session ack acks k other told = sym (cond-false (nat_eq ack.session k) (ack.mail ∷ mails_in k acks) (mails_in k acks) (ne_eqb ack.session k other)) ∙ told

-- the first node, where one is all there is; and the second of two
pub on_first : (d : List Record) (disks : List (List Record)) (so : List Record → Type 0) (nodes : List ℕ) → OnEnough small_plan (d ∷ disks) so nodes → so d
on_first d disks so [] on = absurd (omega (arith, on.are.enough))
on_first d disks so (node ∷ nodes) on =
    let one = All-head (OnNode (d ∷ disks) so) node nodes on.each in
    let first : node - 1 ≡ 0 = omega (arith, on.are.rising.0, on.are.rising.1) in
    let there : Some d ≡ Some one.0 = ap (slice_get (d ∷ disks)) (sym first) ∙ one.1 in
    let same : d ≡ one.0 = cc there in
    subst so (sym same) one.2

on_second : (a b : List Record) (so : List Record → Type 0) (nodes : List ℕ) → OnEnough two_nodes (a ∷ b ∷ []) so nodes → so b
on_second a b so [] on = absurd (omega (arith, on.are.enough))
on_second a b so (node ∷ []) on = absurd (omega (arith, on.are.enough))
on_second a b so (first ∷ node ∷ nodes) on =
    let one = All-head (OnNode (a ∷ b ∷ []) so) node nodes (All-tail (OnNode (a ∷ b ∷ []) so) first (node ∷ nodes) on.each) in
    let second : node - 1 ≡ 1 = omega (arith, on.are.rising.0, on.are.rising.2.0, on.are.rising.2.1) in
    let there : Some b ≡ Some one.0 = ap (slice_get (a ∷ b ∷ [])) (sym second) ∙ one.1 in
    let same : b ≡ one.0 = cc there in
    subst so (sym same) one.2

-- the value of a record of a state
abbrev value_in : Record → Value
value_in (Stated key state) = state.value
value_in other = Here

-- a node that has nothing
none_there : (ack : Ack) (user : List ℕ) → KeepsCopy ack user empty_records → ⊥
none_there ack user keeps = ⊎_elim
    (λ (here, found). ⊎_elim (λ (is : Boot 1 ≡ Stated (Message user ack.id) (record { value = Here; stamp = here.stamp; targets = here.targets })). cc is) (λ none. none) here.here)
    (λ gone. ⊎_elim (λ (is : Boot 1 ≡ Stated (Message user ack.id) (record { value = Gone; stamp = gone.stamp; targets = gone.targets })). cc is) (λ none. none) gone.gone)
    keeps

-- a node with one message: no copy is gone, and the copy that is here is that of this message
module _ (octets : List ℕ) where
  abbrev pub with_one : List Record
  with_one = Boot 1 ∷ Octets (nth_id 1) octets ∷ Stated (Message (codes "alice") (nth_id 1)) (record { value = Here; stamp = nth_stamp 1; targets = 1 }) ∷ []

  pub not_gone : (user : List ℕ) (id : Id) (stamp : Stamp) (targets : ℕ) → IsAmongRecords (Stated (Message user id) (record { value = Gone; stamp = stamp; targets = targets })) with_one → ⊥
  not_gone user id stamp targets (inl is) = cc
  not_gone user id stamp targets (inr (inl is)) = cc
  not_gone user id stamp targets (inr (inr (inl is))) = let never : Here ≡ Gone = ap value_in is in cc
  not_gone user id stamp targets (inr (inr (inr is))) = is

  its_octets : (id : Id) (found : List ℕ) → HoldsOctets id found with_one → (nth_id 1 ≡ id) × (octets ≡ found)
  its_octets id found (inl is) = cc is
  its_octets id found (inr (other, inl is)) = both is
    where
      both : Octets (nth_id 1) octets ≡ Octets id found → (nth_id 1 ≡ id) × (octets ≡ found)
      both e = (cc e, cc e)
  its_octets id found (inr (other, inr (differs, inl is))) = cc is
  its_octets id found (inr (other, inr (differs, inr (again, none)))) = absurd none

  its_copy : (ack : Ack) (user : List ℕ) → KeepsCopy ack user with_one → (nth_id 1 ≡ ack.id) × IsStored ack.mail ack.id ack.seconds octets
  its_copy ack user keeps = ⊎_elim
      (λ (here, (found, stored, holds)). let is = its_octets ack.id found holds in (is.0, subst (IsStored ack.mail ack.id ack.seconds) (sym is.1) stored))
      (λ gone. absurd (not_gone user ack.id gone.stamp gone.targets gone.gone))
      keeps

-- lists that end alike
pub same_end : {X : Type 0} (a b x y : List X) → a ++ x ≡ b ++ y → length x ≡ length y → x ≡ y
same_end [] [] x y same long = same
same_end [] (v ∷ b) x y same long = absurd (omega (arith, long, ap length same, length-append b y))
same_end (u ∷ a) [] x y same long = absurd (omega (arith, long, ap length same, length-append a x))
same_end (u ∷ a) (v ∷ b) x y same long = same_end a b x y (cc same) long

another_text : (ack : Ack) → ack.mail ≡ small_mail → IsStored ack.mail ack.id ack.seconds other_octets → ⊥
another_text ack mail stored =
    let is : IsStored small_mail ack.id ack.seconds other_octets = subst (λ (m : Mail). IsStored m ack.id ack.seconds other_octets) mail stored in
    let texts = same_end (trace_lines small_mail (nth_id 1) (codes "Thu, 01 Jan 1970 00:00:00 +0000")) (trace_lines small_mail ack.id is.date) _ small_mail.text is.whole refl in
    let letters : 106 ≡ 104 = ap (λ (l : List ℕ). slice_index l 15) texts in
    absurd (omega (arith, letters))

-- the messages that were acknowledged, where their lines are one or two
module _ (n : ℕ) (lines : List (List ℕ)) (entries : List Entry) (disks : List (List Record)) (sessions : List Session) (acks : List Ack) (confirmers : List (List ℕ))
    (stands : StoredStands (plan_of_nodes n) lines entries disks sessions acks confirmers) where
  told_in : (k : ℕ) (shown : Shown (plan_of_nodes n) lines entries sessions k Smtp 1) → IsSession (plan_of_nodes n) lines entries k at_quit → mails_in k acks ≡ small_mail ∷ []
  told_in k shown own = (stands.told k shown.session shown.at shown.speaks).messages ∙ told_alike n lines entries sessions k shown own

  -- one
  one_kept : stored_sessions (opened lines) entries ≡ 1 ∷ [] → mails_in 1 acks ≡ small_mail ∷ [] → (ack : Ack) × Kept (plan_of_nodes n) disks ack
  one_kept says told = by acks (stands.lines_of ∙ says) told stands.stands
    where
      by : (all : List Ack) → map (λ (ack : Ack). ack.session) all ≡ 1 ∷ [] → mails_in 1 all ≡ small_mail ∷ [] → EachStands (plan_of_nodes n) lines disks all confirmers
          → (ack : Ack) × Kept (plan_of_nodes n) disks ack
      by [] is mails each = cc is
      by (ack ∷ all) is mails each = (ack, kept_first (plan_of_nodes n) lines disks ack all confirmers each (mail_of_one ack all 1 (cc is) mails))

-- the worked session is shown
module _ (n : ℕ) where
  pub own_small : IsSession (plan_of_nodes n) small_lines small_entries 1 at_quit
  own_small = record { talk = talks n; fed = refl; gets = record { part = []; missing = []; are = refl; cut = refl } }

  own_lost : IsSession (plan_of_nodes n) lost_lines lost_entries 1 at_quit
  own_lost = record { talk = talks n; fed = refl; gets = record { part = []; missing = []; are = refl; cut = refl } }

  own_both : (k : ℕ) → (k ≡ 1) ⊎ (k ≡ 2) → IsSession (plan_of_nodes n) (small_lines ++ second_lines) (small_entries ++ second_entries) k at_quit
  own_both k (inl is) = subst (λ (j : ℕ). IsSession (plan_of_nodes n) (small_lines ++ second_lines) (small_entries ++ second_entries) j at_quit) (sym is)
      (record { talk = talks n; fed = refl; gets = record { part = []; missing = []; are = refl; cut = refl } })
  own_both k (inr is) = subst (λ (j : ℕ). IsSession (plan_of_nodes n) (small_lines ++ second_lines) (small_entries ++ second_entries) j at_quit) (sym is)
      (record { talk = talks n; fed = refl; gets = record { part = []; missing = []; are = refl; cut = refl } })

-- row by row
small_kept : (disks : List (List Record)) (sessions : List Session) (acks : List Ack) (confirmers : List (List ℕ)) → AreSessions small_plan small_lines small_entries sessions
    → StoredStands small_plan small_lines small_entries disks sessions acks confirmers → (ack : Ack) × Kept small_plan disks ack
small_kept disks sessions acks confirmers are stands =
    one_kept 1 small_lines small_entries disks sessions acks confirmers stands refl
    (told_in 1 small_lines small_entries disks sessions acks confirmers stands 1 (shown_at small_plan small_lines small_entries sessions are 0 Smtp 1 refl) (own_small 1))

lacks : StoredStandsNot small_plan small_lines small_entries (empty_records ∷ [])
lacks sessions acks confirmers are stands =
    let kept = small_kept (empty_records ∷ []) sessions acks confirmers are stands in
    none_there kept.0 (codes "alice") (on_first empty_records [] (KeepsCopy kept.0 (codes "alice")) kept.1.nodes kept.1.copy)

has_another : StoredStandsNot small_plan small_lines small_entries (other_records ∷ [])
has_another sessions acks confirmers are stands =
    let kept = small_kept (other_records ∷ []) sessions acks confirmers are stands in
    another_text kept.0 kept.1.mail (its_copy other_octets kept.0 (codes "alice") (on_first other_records [] (KeepsCopy kept.0 (codes "alice")) kept.1.nodes kept.1.copy)).1

lost_first : StoredStandsNot two_nodes lost_lines lost_entries (small_records ∷ empty_records ∷ [])
lost_first sessions acks confirmers are stands =
    let kept = one_kept 2 lost_lines lost_entries (small_records ∷ empty_records ∷ []) sessions acks confirmers stands refl
    (told_in 2 lost_lines lost_entries (small_records ∷ empty_records ∷ []) sessions acks confirmers stands 1 (shown_at two_nodes lost_lines lost_entries sessions are 0 Smtp 1 refl) (own_lost 2)) in
    none_there kept.0 (codes "alice") (on_second small_records empty_records (KeepsCopy kept.0 (codes "alice")) kept.1.nodes kept.1.copy)

one_for_two : StoredStandsNot small_plan (small_lines ++ second_lines) (small_entries ++ second_entries) (small_records ∷ [])
one_for_two sessions acks confirmers are stands =
    by acks (stands.lines_of ∙ refl) (told 1 (inl refl) 0 refl refl) (told 2 (inr refl) 1 refl refl) stands.other_ids stands.stands
  where
    told : (k : ℕ) → (k ≡ 1) ⊎ (k ≡ 2) → (i : ℕ) → suc i ≡ k → slice_get (opened (small_lines ++ second_lines)) i ≡ Some (Smtp, 1) → mails_in k acks ≡ small_mail ∷ []
    told k which i is there =
        told_in 1 (small_lines ++ second_lines) (small_entries ++ second_entries) (small_records ∷ []) sessions acks confirmers stands k
        (subst (λ (j : ℕ). Shown small_plan (small_lines ++ second_lines) (small_entries ++ second_entries) sessions j Smtp 1) is
        (shown_at small_plan (small_lines ++ second_lines) (small_entries ++ second_entries) sessions are i Smtp 1 there)) (own_both 1 k which)

    id_of : (ack : Ack) → Kept small_plan (small_records ∷ []) ack → nth_id 1 ≡ ack.id
    id_of ack kept = (its_copy small_octets ack (codes "alice") (on_first small_records [] (KeepsCopy ack (codes "alice")) kept.nodes kept.copy)).0

    by : (all : List Ack) → map (λ (ack : Ack). ack.session) all ≡ 1 ∷ 2 ∷ [] → mails_in 1 all ≡ small_mail ∷ [] → mails_in 2 all ≡ small_mail ∷ [] → HaveOtherIds all
        → EachStands small_plan (small_lines ++ second_lines) (small_records ∷ []) all confirmers → ⊥
    by [] is mails more ids each = cc is
    by (a ∷ []) is mails more ids each = cc is
    by (a ∷ b ∷ all) is mails more ids each =
        let own_a : a.session ≡ 1 = cc is in
        let own_b : b.session ≡ 2 = cc is in
        let kept_a = kept_first small_plan (small_lines ++ second_lines) (small_records ∷ []) a (b ∷ all) confirmers each (mail_of_one a (b ∷ all) 1 own_a mails) in
        let later : mails_in 2 (b ∷ all) ≡ small_mail ∷ [] = other_session a (b ∷ all) 2 (λ e. absurd (omega (arith, own_a, e))) more in
        second a b all confirmers each kept_a (mail_of_one b all 2 own_b later) ids
      where
        second : (a b : Ack) (all : List Ack) (nodes : List (List ℕ)) → EachStands small_plan (small_lines ++ second_lines) (small_records ∷ []) (a ∷ b ∷ all) nodes → Kept small_plan (small_records ∷ []) a
            → b.mail ≡ small_mail → HaveOtherIds (a ∷ b ∷ all) → ⊥
        second a b all [] each kept mail ids = each
        second a b all (first ∷ nodes) each kept mail ids =
            ids.0.0 (sym (id_of b (kept_first small_plan (small_lines ++ second_lines) (small_records ∷ []) b all nodes each.1 mail)) ∙ id_of a kept)

pub wrong_stores : WrongStores
wrong_stores = record { lacks_message = lacks; has_another_text = has_another; has_one_id_for_two = one_for_two; lost_before = lost_first }

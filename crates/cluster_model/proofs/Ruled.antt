-- The rules of a node, as a reader states them.
use Rattle.std.proofs.Common.{◌≡◌, ◌≢◌, inl, inr, ⊎_elim, ◌<◌, ◌≤◌, ◌+◌, ℕ, zero, suc, Bool, true, false, not, ◌&&◌, ◌||◌, List, [], ◌∷◌, ◌++◌, map, Option, Some, None, refl, sym, ap, ◌∙◌, subst, true≢false, nat_eq, bit_or, arith, if◌then◌else◌}
use Rattle.std.specs.Prelude.{nat_le, nat_lt}
use Rattle.std.specs.Int.{bit_at}
use Rattle.std.specs.FinMap as fin
use Rattle.std.proofs.lemmas.Bool.{and_parts, cases_eq}
use Rattle.std.proofs.lemmas.Bool.Decides.{nat_tests}
use Rattle.mail_model.specs.Identity.{Id, Stamp, Key, State}
use Rattle.mail_model.specs.Identity.Key.{Message}
use Rattle.mail_model.specs.Identity.Value.{Gone}
use Rattle.mail_model.specs.Record.{Record}
use Rattle.mail_model.specs.Record.Record.{Retired}
use Rattle.mail_model.specs.Book.{Acked}
use Rattle.mail_model.specs.Book.BookEntry.{Acknowledged}
use Rattle.object_model.specs.Lists.{Among}
use Rattle.object_model.specs.Sets.{has, with_node, without_node, one_node, count_in, all_nodes}
use Rattle.object_model.specs.States.{is_same_state}
use Rattle.object_model.specs.Letters.{DeletionMark, Body, Letter}
use Rattle.object_model.specs.Letters.Body.{File, Filed, Strike, StrikeTold, Retire}
use Rattle.object_model.specs.UpdateLog.{Logged, cleared}
use Rattle.object_model.specs.Mishaps.{Mishaps}
use Rattle.cluster_model.specs.Cluster.{NodeFiling, AskedOfNodes, Want, Node, Slot, Cluster, slot_at, epoch_of}
use Rattle.cluster_model.specs.Cluster.AskedOfNodes.{Copies}
use Rattle.cluster_model.specs.Claims.{SaysFact, ShowsGone, DrawnAt, IsIdDrawn}
use Rattle.cluster_model.specs.Claims.Fact.{HasCopies}
use Rattle.cluster_model.specs.Moves.{IsReady}
use Rattle.cluster_model.specs.Parts.{IsHeldSomewhere, Sound}
use Rattle.cluster_model.specs.Store.{Store, Update, take_all, gone_updates}
use Rattle.cluster_model.specs.Rules.{Reaction, answer, tells, told_want, failed_want, new_want, idle, receivers, letters_to, shrunk, acked_at, hear_ack, store_of}
use Rattle.cluster_model.specs.Progress.{Ask}
use Rattle.cluster_model.specs.Progress.Ask.{Pending, Done}
use Rattle.cluster_model.specs.Progress.NodeAnswer.{Stored, Failed}
use Rattle.cluster_model.specs.Thrown.{with_stamps}
use Rattle.cluster_model.specs.Deeds.{slot_up, IsOfPlan, hear_body, hear}
use Rattle.cluster_model.specs.RuleLaws.{IsNodeAsked, TargetsStand, StoredByCount}
use Rattle.object_model.proofs.SetLaws.{has_left, has_right, has_one, one_has, has_with, left_in, still_in, has_none, all_has}
use Rattle.object_model.proofs.StateLaws.{state_is}
use Rattle.object_model.proofs.MapLaws.{key_total, key_exact, written}
use Rattle.cluster_model.proofs.Filing.{map_among, all_copied}
use Rattle.cluster_model.proofs.Takes.{took_all, all_cover}
use Rattle.cluster_model.proofs.Reacts.{fits_of}
use Rattle.cluster_model.proofs.HearCopies.{gone_fit, covers_gone}

pub after_records : (own nodes : ℕ) (node : Node) (disk : List Record) (letter : Letter) (id : Id) (stamp : Stamp) (targets : ℕ) (users : List (List ℕ)) (octets : List ℕ)
    → letter.body ≡ File id stamp targets users octets
    → ((hear own nodes node disk letter).out ≡ answer letter (Filed id) ∷ []) × SaysFact (hear own nodes node disk letter).disk (HasCopies users id)
after_records own nodes node disk letter id stamp targets users octets is =
    subst (λ b. ((hear_body own nodes (with_stamps letter.body node) disk letter b).out ≡ answer letter (Filed id) ∷ []) × SaysFact (hear_body own nodes (with_stamps letter.body node) disk letter b).disk (HasCopies users id))
    (sym is) (refl, all_copied own id stamp targets users octets (store_of (with_stamps letter.body node) disk))

pub after_gone : (own nodes : ℕ) (node : Node) (disk : List Record) (letter : Letter) (user : List ℕ) (marks : List DeletionMark)
    → IsOfPlan own nodes → IsReady own (slot_up node disk) (Some letter) → letter.body ≡ Strike user marks
    → ((hear own nodes node disk letter).out ≡ answer letter (StrikeTold user (map (λ mark. mark.id) marks)) ∷ [])
    × ((mark : DeletionMark) → Among mark marks → ShowsGone user mark.id (hear own nodes node disk letter).disk)
after_gone own nodes node disk letter user marks numbered ready is =
    subst (λ b. ((hear_body own nodes (with_stamps letter.body node) disk letter b).out ≡ answer letter (StrikeTold user (map (λ mark. mark.id) marks)) ∷ [])
    × ((mark : DeletionMark) → Among mark marks → ShowsGone user mark.id (hear_body own nodes (with_stamps letter.body node) disk letter b).disk))
    (sym is) (
      refl,
      λ mark inside.
          let d = (took_all own updates (λ i o. ⊥) (λ k s n. ⊥) updates (λ v k. k) store).fits (gone_fit own user (all_nodes nodes) marks (all_has nodes own numbered.some numbered.within numbered.few)) (fits_of own node disk ready.fits) in
          covers_gone user mark.id mark.stamp (all_nodes nodes) (take_all own updates store).disk d.kind
          (all_cover own updates (λ i o. ⊥) (λ k s n. ⊥) updates (λ v k. k) store (record { key = Message user mark.id; state = record { value = Gone; stamp = mark.stamp; targets = all_nodes nodes } })
          (map_among (λ (one : DeletionMark). record { key = Message user one.id; state = record { value = Gone; stamp = one.stamp; targets = all_nodes nodes } }) mark marks inside)),
    )
  where
    updates : List Update
    updates = gone_updates user (all_nodes nodes) marks

    store : Store
    store = store_of (with_stamps letter.body node) disk

-- what a set without a node has
without_self : (mask m : ℕ) → has (without_node mask m) m ≡ false
without_self mask m = by (has (without_node mask m) m) refl
  where
    by : (b : Bool) → has (without_node mask m) m ≡ b → b ≡ false
    by true e = absurd ((left_in mask m m e).1 refl)
    by false e = refl

pub counts_once : (body : Body) (from : ℕ) (want : Want) → told_want body from (told_want body from want) ≡ told_want body from want
counts_once body from want = by (tells body want.asked && (has want.waiting from || has want.failed from)) refl
  where
    said : Want
    said = record want { confirmed = with_node want.confirmed from; waiting = without_node want.waiting from; failed = without_node want.failed from }

    again : (tells body want.asked && (has (without_node want.waiting from) from || has (without_node want.failed from) from)) ≡ false
    again = ap (λ w. tells body want.asked && (w || has (without_node want.failed from) from)) (without_self want.waiting from)
        ∙ ap (λ w. tells body want.asked && w) (without_self want.failed from) ∙ last (tells body want.asked)
      where
        last : (b : Bool) → (b && false) ≡ false
        last true = refl
        last false = refl

    by : (b : Bool) → (tells body want.asked && (has want.waiting from || has want.failed from)) ≡ b → told_want body from (if b then said else want) ≡ (if b then said else want)
    by true e = ap (λ b. if b then record said { confirmed = with_node said.confirmed from; waiting = without_node said.waiting from; failed = without_node said.failed from } else said) again
    by false e = ap (λ b. if b then said else want) e

-- each target stays confirmed, waiting or failed
with_self : (mask m k : ℕ) → m ≡ suc k → k ≤ 63 → has (with_node mask m) m ≡ true
with_self mask m k is le = subst (λ n. has (with_node mask n) n ≡ true) (sym is) (has_right mask (one_node (suc k)) (suc k) (one_has k (omega (arith, le))))

bounded : (mask m : ℕ) → has mask m ≡ true → (k : ℕ) × (m ≡ suc k) × (k ≤ 63)
bounded mask zero h = absurd (true≢false (sym h))
bounded mask (suc k) h = (k, refl, small (and_parts (nat_lt k 64) (nat_eq (bit_at mask k) 1) h).0)
  where
    small : nat_lt k 64 ≡ true → k ≤ 63
    small e = let lt : k < 64 = grind (arith, nat_tests) in omega (arith, lt)

pub asked_told : (body : Body) (from : ℕ) (want : Want) (m : ℕ) → IsNodeAsked want m → IsNodeAsked (told_want body from want) m
asked_told body from want m asked = by (tells body want.asked && (has want.waiting from || has want.failed from)) refl
  where
    said : Want
    said = record want { confirmed = with_node want.confirmed from; waiting = without_node want.waiting from; failed = without_node want.failed from }

    now : (mask : ℕ) → has mask from ≡ true → has (with_node want.confirmed from) from ≡ true
    now mask h = let b = bounded mask from h in with_self want.confirmed from b.0 b.1 b.2

    by : (b : Bool) → (tells body want.asked && (has want.waiting from || has want.failed from)) ≡ b → IsNodeAsked (if b then said else want) m
    by true e = ⊎_elim
        (λ c. inl (has_left want.confirmed (one_node from) m c))
        (λ other. ⊎_elim
        (λ w. ⊎_elim (λ is. inl (subst (λ n. has (with_node want.confirmed from) n ≡ true) (sym is) (now want.waiting (subst (λ n. has want.waiting n ≡ true) is w)))) (λ apart. inr (inl (still_in want.waiting from m w apart))) (cases_eq m from))
        (λ f. ⊎_elim (λ is. inl (subst (λ n. has (with_node want.confirmed from) n ≡ true) (sym is) (now want.failed (subst (λ n. has want.failed n ≡ true) is f)))) (λ apart. inr (inr (still_in want.failed from m f apart))) (cases_eq m from))
        other)
        asked
    by false e = asked

pub asked_failed : (at : ℕ) (want : Want) (m : ℕ) → IsNodeAsked want m → IsNodeAsked (failed_want at want) m
asked_failed at want m asked = by (has want.waiting at) refl
  where
    by : (b : Bool) → has want.waiting at ≡ b → IsNodeAsked (if b then record want { waiting = without_node want.waiting at; failed = with_node want.failed at } else want) m
    by true e = ⊎_elim
        (λ c. inl c)
        (λ other. ⊎_elim
        (λ w. ⊎_elim
        (λ is. let b = bounded want.waiting at e in inr (inr (subst (λ n. has (with_node want.failed at) n ≡ true) (sym is) (with_self want.failed at b.0 b.1 b.2))))
        (λ apart. inr (inl (still_in want.waiting at m w apart)))
        (cases_eq m at))
        (λ f. inr (inr (has_left want.failed (one_node at) m f)))
        other)
        asked
    by false e = asked

stays_told : (body : Body) (from : ℕ) (want : Want) (m : ℕ) → has want.confirmed m ≡ true → has (told_want body from want).confirmed m ≡ true
stays_told body from want m h = by (tells body want.asked && (has want.waiting from || has want.failed from))
  where
    by : (b : Bool) → has (if b then record want { confirmed = with_node want.confirmed from; waiting = without_node want.waiting from; failed = without_node want.failed from } else want).confirmed m ≡ true
    by true = has_left want.confirmed (one_node from) m h
    by false = h

stays_failed : (at : ℕ) (want : Want) (m : ℕ) → has want.confirmed m ≡ true → has (failed_want at want).confirmed m ≡ true
stays_failed at want m h = by (has want.waiting at)
  where
    by : (b : Bool) → has (if b then record want { waiting = without_node want.waiting at; failed = with_node want.failed at } else want).confirmed m ≡ true
    by true = h
    by false = h

pub begins_asked : (own : ℕ) (asked : AskedOfNodes) (targets m : ℕ) → has targets m ≡ true → IsNodeAsked (new_want own asked targets) m
begins_asked own asked targets m h = ⊎_elim
    (λ is. let t : has targets own ≡ true = subst (λ n. has targets n ≡ true) is h in
    let b = bounded targets own t in
    inl (subst (λ n. has (if has targets own then one_node own else 0) n ≡ true) (sym is) (subst (λ c. has (if c then one_node own else 0) own ≡ true) (sym t) (subst (λ n. has (one_node n) n ≡ true) (sym b.1) (one_has b.0 (omega (arith, b.2)))))))
    (λ apart. inr (inl (still_in targets own m h apart)))
    (cases_eq m own)

only_begins : (own : ℕ) (asked : AskedOfNodes) (targets m : ℕ) → IsNodeAsked (new_want own asked targets) m → has targets m ≡ true
only_begins own asked targets m a = ⊎_elim
    (λ c. by (has targets own) refl c)
    (λ other. ⊎_elim (λ w. (left_in targets own m w).0) (λ f. absurd (true≢false (sym f ∙ has_none m))) other)
    a
  where
    by : (b : Bool) → has targets own ≡ b → has (if b then one_node own else 0) m ≡ true → has targets m ≡ true
    by true e h = subst (λ n. has targets n ≡ true) (sym (has_one own m h)) e
    by false e h = absurd (true≢false (sym h ∙ has_none m))

only_told : (body : Body) (from : ℕ) (want : Want) (m : ℕ) → IsNodeAsked (told_want body from want) m → IsNodeAsked want m
only_told body from want m a = by (tells body want.asked && (has want.waiting from || has want.failed from)) refl a
  where
    said : Want
    said = record want { confirmed = with_node want.confirmed from; waiting = without_node want.waiting from; failed = without_node want.failed from }

    sender : (w f : Bool) → has want.waiting from ≡ w → has want.failed from ≡ f → (w || f) ≡ true → IsNodeAsked want from
    sender true f p q e = inr (inl p)
    sender false true p q e = inr (inr q)
    sender false false p q e = absurd (true≢false (sym e))

    by : (b : Bool) → (tells body want.asked && (has want.waiting from || has want.failed from)) ≡ b → IsNodeAsked (if b then said else want) m → IsNodeAsked want m
    by true e g = ⊎_elim
        (λ c. ⊎_elim (λ old. inl old)
        (λ is. subst (IsNodeAsked want) (sym is) (sender (has want.waiting from) (has want.failed from) refl refl (and_parts (tells body want.asked) (has want.waiting from || has want.failed from) e).1))
        (has_with want.confirmed from m c))
        (λ other. ⊎_elim (λ w. inr (inl (left_in want.waiting from m w).0)) (λ f. inr (inr (left_in want.failed from m f).0)) other)
        g
    by false e g = g

only_failed : (at : ℕ) (want : Want) (m : ℕ) → IsNodeAsked (failed_want at want) m → IsNodeAsked want m
only_failed at want m a = by (has want.waiting at) refl a
  where
    by : (b : Bool) → has want.waiting at ≡ b → IsNodeAsked (if b then record want { waiting = without_node want.waiting at; failed = with_node want.failed at } else want) m → IsNodeAsked want m
    by true e g = ⊎_elim
        (λ c. inl c)
        (λ other. ⊎_elim
        (λ w. inr (inl (left_in want.waiting at m w).0))
        (λ f. ⊎_elim (λ old. inr (inr old)) (λ is. inr (inl (subst (λ n. has want.waiting n ≡ true) (sym is) e))) (has_with want.failed at m f)) other)
        g
    by false e g = g

pub targets_stand : (own : ℕ) (asked : AskedOfNodes) (targets : ℕ) (want : Want) (body : Body) (from at : ℕ) → TargetsStand own asked targets want body from at
targets_stand own asked targets want body from at = record {
  begins = λ m h. begins_asked own asked targets m h;
  told = λ m h. asked_told body from want m h;
  failed = λ m h. asked_failed at want m h;
  only_begins = λ m a. only_begins own asked targets m a;
  only_told = λ m a. only_told body from want m a;
  only_failed = λ m a. only_failed at want m a;
  stays_told = λ m h. stays_told body from want m h;
  stays_failed = λ m h. stays_failed at want m h;
}

-- an ask of a delivery goes by count
pub stored_at : (confirm : ℕ) (mishaps : Mishaps) (filing : NodeFiling) (want : Want) → want.asked ≡ Copies filing → StoredByCount confirm mishaps filing want
stored_at confirm mishaps filing want is = subst (λ a. StoredByCount confirm mishaps filing (record want { asked = a })) (sym is) (record {
  stored = λ enough. ap (λ b. when b (nat_le confirm (count_in (bit_or want.confirmed want.waiting)))) (le_true enough);
  failed = λ few left. ap (λ b. when b (nat_le confirm (count_in (bit_or want.confirmed want.waiting)))) (lt_false few) ∙ ap (when false) (lt_false left);
  waits = λ few left. ap (λ b. when b (nat_le confirm (count_in (bit_or want.confirmed want.waiting)))) (lt_false few) ∙ ap (when false) (le_true left);
})
  where
    when : Bool → Bool → Ask
    when a b = if (a && true) then Done (Stored filing.id want.confirmed) else (if not (b && true) then Done (Failed mishaps) else Pending (count_in want.confirmed) confirm)

    le_true : {n : ℕ} → confirm ≤ n → nat_le confirm n ≡ true
    le_true {n} le = grind (arith, nat_tests)

    lt_false : {n : ℕ} → n < confirm → nat_le confirm n ≡ false
    lt_false {n} lt = grind (arith, nat_tests)

-- an entry leaves the log by the acknowledgement of its last node alone
pub leaves_at_last : (own nodes : ℕ) (node : Node) (disk : List Record) (key : Key) (state : State) (from : ℕ) (entry : Logged) → fin.get node.log key ≡ Some entry
    → fin.get (hear_ack own nodes node disk key state from).node.log key ≡ None
    → (entry.state ≡ state) × (has entry.remaining from ≡ true) × ((m : ℕ) → has entry.remaining m ≡ true → m ≡ from)
leaves_at_last own nodes node disk key state from entry here gone = at (subst (λ o. fin.get (acked_at own nodes node disk key state from o).node.log key ≡ None) here gone)
  where
    clash : (o : Option Logged) (x : Logged) → o ≡ None → o ≡ Some x → ⊥
    clash o x p q = cc

    left : ℕ
    left = without_node entry.remaining from

    empty_or : (b : Bool) → nat_eq (without_node entry.remaining from) 0 ≡ b
        → fin.get (if b then fin.remove node.log key else fin.insert node.log key (cleared from entry)) key ≡ None → (m : ℕ) → has entry.remaining m ≡ true → m ≡ from
    empty_or true e g m h = ⊎_elim (λ is. is) (λ apart. absurd (true≢false (sym (still_in entry.remaining from m h apart) ∙ ap (λ s. has s m) (eq_of (without_node entry.remaining from) e) ∙ has_none m))) (cases_eq m from)
      where
        eq_of : (n : ℕ) → nat_eq n 0 ≡ true → n ≡ 0
        eq_of n f = grind (arith, nat_tests)
    empty_or false e g m h = absurd (clash (fin.get (fin.insert node.log key (cleared from entry)) key) (cleared from entry) g (written key_total key_exact node.log key (cleared from entry)))

    emptied : Reaction
    emptied = record {
      node = record node { log = fin.remove node.log key };
      disk = disk ++ Retired key entry.state ∷ [];
      out = letters_to own (epoch_of node) None (receivers own entry.state.targets nodes) (Retire key entry.state);
    }

    trimmed : Reaction
    trimmed = record { node = record node { log = fin.insert node.log key (cleared from entry) }; disk = disk; out = [] }

    -- the log once the entry was trimmed, or emptied
    log_if : (b : Bool) → fin.get ((λ (r : Reaction). r.node.log) (if b then emptied else trimmed)) key ≡ None → fin.get (if b then fin.remove node.log key else fin.insert node.log key (cleared from entry)) key ≡ None
    log_if true f = f
    log_if false f = f

    at : fin.get (acked_at own nodes node disk key state from (Some entry)).node.log key ≡ None → (entry.state ≡ state) × (has entry.remaining from ≡ true) × ((m : ℕ) → has entry.remaining m ≡ true → m ≡ from)
    at g = by (is_same_state entry.state state && has entry.remaining from) refl g
      where
        by : (b : Bool) → (is_same_state entry.state state && has entry.remaining from) ≡ b
            → fin.get ((λ (r : Reaction). r.node.log) (if b then shrunk own nodes node disk key (cleared from entry) else idle node disk)) key ≡ None
            → (entry.state ≡ state) × (has entry.remaining from ≡ true) × ((m : ℕ) → has entry.remaining m ≡ true → m ≡ from)
        by true e f =
            let parts = and_parts (is_same_state entry.state state) (has entry.remaining from) e in
            (state_is entry.state state parts.0, parts.1, empty_or (nat_eq (without_node entry.remaining from) 0) refl (log_if (nat_eq (without_node entry.remaining from) 0) f))
        by false e f = absurd (clash (fin.get node.log key) entry f here)

-- the next id of a node is new
pub ids_new : (confirm : ℕ) (w : Cluster) → Sound confirm w → (own : ℕ) (node : Node) (disk : List Record) → slot_at w.slots own ≡ Some (slot_up node disk)
    → (id : Id) → (record { node = own; boot = node.boot; seq = node.drawn + 1 }) ≡ id
    → ((octets : List ℕ) → IsHeldSomewhere w.slots w.flying id octets → ⊥) × ((copy : Acked) → Among (Acknowledged copy) w.book → copy.id ≢ id)
ids_new confirm w sound own node disk here id is = (
  λ octets h. not_drawn (subst (λ (i : Id). IsIdDrawn w.slots i) (sym is) (sound.contents.held_drawn id octets h)),
  λ copy m same. not_drawn (subst (λ (i : Id). IsIdDrawn w.slots i) (same ∙ sym is) (sound.contents.acked_drawn copy m)),
)
  where
    next : Id
    next = record { node = own; boot = node.boot; seq = node.drawn + 1 }

    same_slot : (o : Option Slot) (a b : Slot) → o ≡ Some a → o ≡ Some b → a ≡ b
    same_slot o a b p q = cc

    not_drawn : IsIdDrawn w.slots (record { node = own; boot = node.boot; seq = node.drawn + 1 }) → ⊥
    not_drawn d = ⊎_elim (λ below. omega (arith, below)) (λ (same, le). omega (arith, le))
        (subst (λ (s : Slot). DrawnAt s (record { node = own; boot = node.boot; seq = node.drawn + 1 })) (same_slot (slot_at w.slots own) d.slot (slot_up node disk) d.here here) d.drawn)

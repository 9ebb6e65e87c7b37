-- What a node does for messages leads its maps along, record by record.
use Rattle.std.proofs.Common.{◌≡◌, inl, inr, ◌≤◌, ℕ, zero, suc, Bool, true, false, cond, List, [], ◌∷◌, ◌++◌, Option, Some, None, refl, sym, ap, ◌∙◌, subst, true≢false}
use Rattle.std.specs.Prelude.{slice_get, slice_set}
use Rattle.mail_model.specs.Identity.Key.{Profile, Message}
use Rattle.mail_model.specs.Record.{Record}
use Rattle.mail_model.specs.Record.Record.{Boot, Promise, Octets, Stated, Retired}
use Rattle.object_model.specs.Lists.{Among}
use Rattle.object_model.specs.Letters.{Letter}
use Rattle.cluster_model.specs.Claims.{boot_of}
use Rattle.maps_model.specs.Cluster as maps
use Rattle.maps_model.specs.Epochs.{IsAtMost}
use Rattle.maps_model.specs.Moves as moves
use Rattle.maps_model.specs.Rules.{change}
use Rattle.maps_model.specs.NodeLaws.{act_of}
use Rattle.maps_model.proofs.Making.{IsPlain, rests}
use Rattle.maps_model.proofs.Lives.{gone}
use Rattle.maps_model.proofs.Reporting.{changes}
use Rattle.whole_model.specs.Whole.{Node, maps_disk_of, holds_of, promise_of, maps_slot}
use Rattle.whole_model.specs.Whole.Life.{Up, Down}
use Rattle.whole_model.specs.Moves.{LeadsMaps}
use Rattle.whole_model.specs.Rules.{differ, followed, follows, IsOfMessages, AreOfMessages, IsMailBody, IsMail}
use Rattle.whole_model.proofs.Following.{after_octets, after_retired, after_profile, after_copy, set_same}

nothing_sent : (xs : List Letter) → xs ++ [] ≡ xs
nothing_sent [] = refl
nothing_sent (x ∷ xs) = ap (λ (l : List Letter). x ∷ l) (nothing_sent xs)

set_again : (xs : List maps.Slot) (k : ℕ) (a b : maps.Slot) → slice_set (slice_set xs k a) k b ≡ slice_set xs k b
set_again [] k a b = refl
set_again (x ∷ xs) zero a b = refl
set_again (x ∷ xs) (suc k) a b = ap (λ (l : List maps.Slot). x ∷ l) (set_again xs k a b)

slot_again : (slots : List maps.Slot) (n : ℕ) (a b : maps.Slot) → maps.with_slot (maps.with_slot slots n a) n b ≡ maps.with_slot slots n b
slot_again slots zero a b = refl
slot_again slots (suc k) a b = set_again slots k a b

get_set : (xs : List maps.Slot) (k : ℕ) (a b : maps.Slot) → slice_get xs k ≡ Some a → slice_get (slice_set xs k b) k ≡ Some b
get_set [] k a b e = absurd (cc e)
get_set (x ∷ xs) zero a b e = refl
get_set (x ∷ xs) (suc k) a b e = get_set xs k a b e

slot_set : (slots : List maps.Slot) (n : ℕ) (a b : maps.Slot) → maps.slot_at slots n ≡ Some a → maps.slot_at (maps.with_slot slots n b) n ≡ Some b
slot_set slots zero a b e = absurd (cc e)
slot_set slots (suc k) a b e = get_set slots k a b e

set_same_slot : (xs : List maps.Slot) (k : ℕ) (a : maps.Slot) → slice_get xs k ≡ Some a → slice_set xs k a ≡ xs
set_same_slot [] k a e = refl
set_same_slot (x ∷ xs) zero a e = ap (λ (s : maps.Slot). s ∷ xs) (some a x e)
  where
    some : (p q : maps.Slot) → Some q ≡ Some p → p ≡ q
    some p q h = cc
set_same_slot (x ∷ xs) (suc k) a e = ap (λ (l : List maps.Slot). x ∷ l) (set_same_slot xs k a e)

slot_same : (slots : List maps.Slot) (n : ℕ) (a : maps.Slot) → maps.slot_at slots n ≡ Some a → maps.with_slot slots n a ≡ slots
slot_same slots zero a e = refl
slot_same slots (suc k) a e = set_same_slot slots k a e

after_both : (first second : List moves.Move) (c : maps.Cluster) → moves.after_moves (first ++ second) c ≡ moves.after_moves second (moves.after_moves first c)
after_both [] second c = refl
after_both (move ∷ first) second c = after_both first second (moves.after_move move c)

may_both : (first second : List moves.Move) (c : maps.Cluster) → moves.MayMoves first c → moves.MayMoves second (moves.after_moves first c) → moves.MayMoves (first ++ second) c
may_both [] second c p q = q
may_both (move ∷ first) second c p q = (p.0, may_both first second (moves.after_move move c) p.1 q)

-- a slot leads to itself
pub stays_led : (own : ℕ) (slot : maps.Slot) → LeadsMaps own slot slot None []
stays_led own slot w here heard =
    let slots : w.slots ≡ maps.with_slot w.slots own slot = sym (slot_same w.slots own slot here) in
    let flying : w.flying ≡ w.flying ++ [] = sym (nothing_sent w.flying) in
    record { moves = []; may = tt; is = λ i. record { slots = slots i; flying = flying i } }

-- one lead goes on to another that hears and sends nothing
pub led_on : (own : ℕ) (a b c : maps.Slot) (heard : Option Letter) (out : List Letter) → LeadsMaps own a b heard out → LeadsMaps own b c None [] → LeadsMaps own a c heard out
led_on own a b c heard out p q w here flew =
    let first = p w here flew in
    let mid : maps.Cluster = record { slots = maps.with_slot w.slots own b; flying = w.flying ++ out } in
    let second = q mid (slot_set w.slots own a b here) (λ letter e. absurd (cc e)) in
    let slots : maps.with_slot (maps.with_slot w.slots own b) own c ≡ maps.with_slot w.slots own c = slot_again w.slots own b c in
    let flying : (w.flying ++ out) ++ [] ≡ w.flying ++ out = nothing_sent (w.flying ++ out) in
    record {
      moves = first.moves ++ second.moves;
      may = may_both first.moves second.moves w first.may (subst (moves.MayMoves second.moves) (sym first.is) second.may);
      is = after_both first.moves second.moves w ∙ ap (moves.after_moves second.moves) first.is ∙ second.is ∙ (λ i. record { slots = slots i; flying = flying i });
    }

-- one act is a lead
pub act_leads : (own : ℕ) (a b : maps.Slot) (heard : Option Letter) (out : List Letter)
    → (moves.IsReady own a heard → moves.IsAct (record { node = own; before = a; after = b; heard = heard; out = out })) → LeadsMaps own a b heard out
act_leads own a b heard out acts w here flew = record {
  moves = moves.Move.Acted (record { node = own; before = a; after = b; heard = heard; out = out }) ∷ [];
  may = ((here, acts, flew), tt);
  is = refl;
}

-- a letter of messages says nothing to maps
plain : (own : ℕ) (act : moves.NodeAct) (letter : Letter) → act.node ≡ own → IsMail own letter → IsPlain act letter
plain own act letter at mail = record {
  from = mail.from ∙ sym at;
  to = λ same. mail.to (same ∙ at);
  install = λ g e. subst IsMailBody e mail.body;
  join = λ epoch promise b was claims e. absurd (subst IsMailBody e mail.body);
  report = λ user b row r. subst IsMailBody r.is mail.body;
  ack = λ user version a. subst IsMailBody a.is mail.body;
}

-- a node that is up hears and sends letters of messages
rests_led : (own : ℕ) (node : maps.Node) (disk : maps.Disk) (heard : Option Letter) (out : List Letter) → ((letter : Letter) → Among letter out → IsMail own letter)
    → LeadsMaps own (maps.slot_up node disk) (maps.slot_up node disk) heard out
rests_led own node disk heard out mail = act_leads own (maps.slot_up node disk) (maps.slot_up node disk) heard out
    (λ ready. rests own node disk heard out ready.order (λ letter m. plain own (act_of own node disk (record { node = node; disk = disk; out = out }) heard) letter refl (mail letter m)))

-- a row that turns
change_led : (own : ℕ) (node : maps.Node) (disk : maps.Disk) (user : List ℕ) (full : Bool)
    → LeadsMaps own (maps.slot_up node disk) (maps.slot_up (change own node disk user full).node (change own node disk user full).disk) None []
change_led own node disk user full = act_leads own (maps.slot_up node disk) (maps.slot_up (change own node disk user full).node (change own node disk user full).disk) None []
    (λ ready. changes own node disk user full ready.order)

-- the same disk, as maps see it
same_led : (own : ℕ) (node : maps.Node) (a b : maps.Disk) → b ≡ a → LeadsMaps own (maps.slot_up node a) (maps.slot_up node b) None []
same_led own node a b e = subst (λ d. LeadsMaps own (maps.slot_up node a) (maps.slot_up node d) None []) (sym e) (stays_led own (maps.slot_up node a))

differs : (a b : Bool) → differ a b ≡ false → a ≡ b
differs true true e = refl
differs true false e = absurd (true≢false e)
differs false true e = absurd (true≢false e)
differs false false e = refl

-- one record of messages
one_led : (own : ℕ) (node : maps.Node) (seen : List Record) (one : Record) → IsOfMessages one
    → LeadsMaps own (maps.slot_up node (maps_disk_of seen)) (maps.slot_up (followed own node seen one) (maps_disk_of (seen ++ one ∷ []))) None []
one_led own node seen (Boot boot) of = absurd of
one_led own node seen (Promise epoch) of = absurd of
one_led own node seen (Octets id octets) of = same_led own node (maps_disk_of seen) (maps_disk_of (seen ++ Octets id octets ∷ [])) (after_octets seen id octets)
one_led own node seen (Retired key state) of = same_led own node (maps_disk_of seen) (maps_disk_of (seen ++ Retired key state ∷ [])) (after_retired seen key state)
one_led own node seen (Stated (Profile name) state) of = same_led own node (maps_disk_of seen) (maps_disk_of (seen ++ Stated (Profile name) state ∷ [])) (after_profile seen name state)
one_led own node seen (Stated (Message user id) state) of = by (differ (holds_of seen user) full) refl
  where
    full : Bool
    full = holds_of (seen ++ Stated (Message user id) state ∷ []) user

    by : (b : Bool) → differ (holds_of seen user) full ≡ b
        → LeadsMaps own (maps.slot_up node (maps_disk_of seen)) (maps.slot_up (cond b (change own node (maps_disk_of seen) user full).node node) (maps_disk_of (seen ++ Stated (Message user id) state ∷ []))) None []
    by true e = subst (λ d. LeadsMaps own (maps.slot_up node (maps_disk_of seen)) (maps.slot_up (change own node (maps_disk_of seen) user full).node d) None []) (sym (after_copy seen user id state))
        (change_led own node (maps_disk_of seen) user full)
    by false e = same_led own node (maps_disk_of seen) (maps_disk_of (seen ++ Stated (Message user id) state ∷ [])) (after_copy seen user id state ∙ set_same seen user full (differs (holds_of seen user) full e))

split : (seen : List Record) (one : Record) (records : List Record) → (seen ++ one ∷ []) ++ records ≡ seen ++ one ∷ records
split [] one records = refl
split (x ∷ seen) one records = ap (λ (l : List Record). x ∷ l) (split seen one records)

no_records : (seen : List Record) → seen ++ [] ≡ seen
no_records [] = refl
no_records (x ∷ seen) = ap (λ (l : List Record). x ∷ l) (no_records seen)

-- and records, one after another
pub all_led : (own : ℕ) (node : maps.Node) (seen added : List Record) → AreOfMessages added
    → LeadsMaps own (maps.slot_up node (maps_disk_of seen)) (maps.slot_up (follows own node seen added) (maps_disk_of (seen ++ added))) None []
all_led own node seen [] of = same_led own node (maps_disk_of seen) (maps_disk_of (seen ++ [])) (ap maps_disk_of (no_records seen))
all_led own node seen (one ∷ added) of = led_on own (maps.slot_up node (maps_disk_of seen)) (maps.slot_up (followed own node seen one) (maps_disk_of (seen ++ one ∷ [])))
    (maps.slot_up (follows own node seen (one ∷ added)) (maps_disk_of (seen ++ one ∷ added))) None []
    (one_led own node seen one (of one (inl refl)))
    (subst (λ d. LeadsMaps own (maps.slot_up (followed own node seen one) (maps_disk_of (seen ++ one ∷ []))) (maps.slot_up (follows own (followed own node seen one) (seen ++ one ∷ []) added) (maps_disk_of d)) None [])
    (split seen one added)
    (all_led own (followed own node seen one) (seen ++ one ∷ []) added (λ r m. of r (inr m))))

pub messages_led : (own : ℕ) (old new : Node) (disk added : List Record) (heard : Option Letter) (out : List Letter)
    → AreOfMessages added → ((letter : Letter) → Among letter out → IsMail own letter) → new.maps ≡ follows own old.maps disk added
    → LeadsMaps own (maps_slot (record { life = Up old; disk = disk })) (maps_slot (record { life = Up new; disk = disk ++ added })) heard out
messages_led own old new disk added heard out of mail is = subst (λ n. LeadsMaps own (maps.slot_up old.maps (maps_disk_of disk)) (maps.slot_up n (maps_disk_of (disk ++ added))) heard out) (sym is)
    (led_on own (maps.slot_up old.maps (maps_disk_of disk)) (maps.slot_up old.maps (maps_disk_of disk)) (maps.slot_up (follows own old.maps disk added) (maps_disk_of (disk ++ added))) heard out
    (rests_led own old.maps (maps_disk_of disk) heard out mail)
    (all_led own old.maps disk added of))

pub falls_led : (own : ℕ) (old : Node) (disk front pending : List Record) (heard : Option Letter)
    → boot_of disk ≤ boot_of (disk ++ front) → boot_of (disk ++ front) ≤ boot_of ((disk ++ front) ++ pending)
    → IsAtMost (promise_of disk) (promise_of (disk ++ front)) → IsAtMost (promise_of (disk ++ front)) (promise_of ((disk ++ front) ++ pending))
    → LeadsMaps own (maps_slot (record { life = Up old; disk = disk })) (maps_slot (record { life = Down pending; disk = disk ++ front })) heard []
falls_led own old disk front pending heard boots later promises above = act_leads own before after heard []
    (λ ready. gone own before after heard up_not_lost boots promises (later, above) (λ new e. down_not_up new e))
  where
    before : maps.Slot
    before = maps_slot (record { life = Up old; disk = disk })

    after : maps.Slot
    after = maps_slot (record { life = Down pending; disk = disk ++ front })

    up_not_lost : maps.Life.Up old.maps ≡ maps.Life.Lost → ⊥
    up_not_lost e = cc

    down_not_up : (new : maps.Node) → maps.Life.Down (maps_disk_of ((disk ++ front) ++ pending)) ≡ maps.Life.Up new → ⊥
    down_not_up new e = cc

-- Which tickets stand after a slot is written, letters are lost or put in flight.
use Rattle.std.proofs.Common.{◌≡◌, ◌⊎◌, inl, inr, ⊎_elim, ◌≤◌, ◌+◌, ℕ, nat_eq, Bool, true, false, ◌&&◌, ◌||◌, List, [], ◌∷◌, ◌++◌, map, Option, Some, None, refl, sym, ap, ◌∙◌, subst, if◌then◌else◌, le_refl, le_trans}
use Rattle.std.specs.Prelude.{⊤}
use Rattle.std.specs.FinMap as fin
use Rattle.std.specs.Cmp.{nat_cmp_total}
use Rattle.std.proofs.lemmas.Bool.{and_parts}
use Rattle.std.proofs.lemmas.Map.Lookups.{exact_unsigned}
use Rattle.mail_model.specs.Record.{Record}
use Rattle.object_model.specs.Sets.{has, one_node, with_node, without_node}
use Rattle.object_model.specs.Letters.{Number, Body, Letter}
use Rattle.object_model.specs.Mishaps.{MishapKind, counted}
use Rattle.object_model.specs.Mishaps.MishapKind.{Crowded}
use Rattle.object_model.proofs.SetLaws.{has_left}
use Rattle.object_model.proofs.MapLaws.{found}
use Rattle.cluster_model.specs.Cluster.{Want, Ticket, Node, Life, Slot, slot_at, with_slot}
use Rattle.cluster_model.specs.Cluster.Life.{Up, Down, Lost}
use Rattle.cluster_model.specs.Rules.{tells, told_want, told_ticket, failed_want, failed_at, mishap, with_ticket}
use Rattle.cluster_model.specs.Deeds.{slot_up}
use Rattle.cluster_model.specs.Room.{Flight}
use Rattle.cluster_model.specs.World.{World, other_end, missed_by, missed_at, missed_under, missed, put}
use Rattle.cluster_model.proofs.Slots.{read_after}
use Rattle.cluster_owes.proofs.Masks.{IsMask, with_mask, within_64}

-- a ticket of this number stands
pub record StandsAs (slots : List Slot) (number : Number) (ticket : Ticket) : Type 0 where
  pub node : Node
  pub disk : List Record
  pub up : slot_at slots number.node ≡ Some (slot_up node disk)
  pub boot : number.boot ≡ node.boot
  pub here : fin.get node.tickets number.seq ≡ Some ticket

-- the number is not above those that its node has drawn in this boot
abbrev pub IsWithinCalls : List Slot → Number → Type 0
IsWithinCalls slots number = (node : Node) (disk : List Record) → slot_at slots number.node ≡ Some (slot_up node disk) → number.boot ≡ node.boot → number.seq ≤ node.calls

-- the want asks the same, its confirmations are a set as before, and none is taken back
pub record SameWant (old new : Want) : Type 0 where
  pub asked : old.asked ≡ new.asked
  pub mask : IsMask old.confirmed → IsMask new.confirmed
  pub kept : (m : ℕ) → has old.confirmed m ≡ true → has new.confirmed m ≡ true

abbrev pub SameWants : List Want → List Want → Type 0
SameWants [] [] = ⊤
SameWants (old ∷ olds) (new ∷ news) = SameWant old new × SameWants olds news
SameWants olds news = ⊥

-- the ticket is of the same call
pub record SameCall (old new : Ticket) : Type 0 where
  pub wants : SameWants old.wants new.wants

same_wants : (wants : List Want) → SameWants wants wants
same_wants [] = tt
same_wants (want ∷ wants) = (record { asked = refl; mask = λ m. m; kept = λ m h. h }, same_wants wants)

pub same_call : (ticket : Ticket) → SameCall ticket ticket
same_call ticket = record { wants = same_wants ticket.wants }

wants_through : (a b c : List Want) → SameWants a b → SameWants b c → SameWants a c
wants_through [] [] [] p q = tt
wants_through [] [] (z ∷ c) p q = absurd q
wants_through [] (y ∷ b) c p q = absurd p
wants_through (x ∷ a) [] c p q = absurd p
wants_through (x ∷ a) (y ∷ b) [] p q = absurd q
wants_through (x ∷ a) (y ∷ b) (z ∷ c) p q = (record { asked = p.0.asked ∙ q.0.asked; mask = λ m. q.0.mask (p.0.mask m); kept = λ m h. q.0.kept m (p.0.kept m h) }, wants_through a b c p.1 q.1)

pub call_through : (a b c : Ticket) → SameCall a b → SameCall b c → SameCall a c
call_through a b c p q = record { wants = wants_through a.wants b.wants c.wants p.wants q.wants }

wants_map : (f : Want → Want) → ((want : Want) → SameWant want (f want)) → (wants : List Want) → SameWants wants (map f wants)
wants_map f each [] = tt
wants_map f each (want ∷ wants) = (each want, wants_map f each wants)

-- a want that is told, and one at which a node fails
pub told_same : (body : Body) (from : ℕ) (want : Want) → SameWant want (told_want body from want)
told_same body from want = by (tells body want.asked && (has want.waiting from || has want.failed from)) refl
  where
    few : (a b : Bool) → has want.waiting from ≡ a → has want.failed from ≡ b → (a || b) ≡ true → from ≤ 64
    few true b p q e = within_64 want.waiting from p
    few false true p q e = within_64 want.failed from q
    few false false p q e = absurd (cc e)

    by : (b : Bool) → (tells body want.asked && (has want.waiting from || has want.failed from)) ≡ b
        → SameWant want (if b then record want { confirmed = with_node want.confirmed from; waiting = without_node want.waiting from; failed = without_node want.failed from } else want)
    by true e = record {
      asked = refl;
      mask = λ m. with_mask want.confirmed from (few (has want.waiting from) (has want.failed from) refl refl (and_parts (tells body want.asked) (has want.waiting from || has want.failed from) e).1) m;
      kept = λ m h. has_left want.confirmed (one_node from) m h;
    }
    by false e = record { asked = refl; mask = λ m. m; kept = λ m h. h }

failed_same : (at : ℕ) (want : Want) → SameWant want (failed_want at want)
failed_same at want = by (has want.waiting at)
  where
    by : (b : Bool) → SameWant want (if b then record want { waiting = without_node want.waiting at; failed = with_node want.failed at } else want)
    by true = record { asked = refl; mask = λ m. m; kept = λ m h. h }
    by false = record { asked = refl; mask = λ m. m; kept = λ m h. h }

pub told_call : (body : Body) (from : ℕ) (ticket : Ticket) → SameCall ticket (told_ticket body from ticket)
told_call body from ticket = record { wants = wants_map (told_want body from) (told_same body from) ticket.wants }

failed_call : (kind : MishapKind) (at : ℕ) (ticket : Ticket) → SameCall ticket (record ticket { wants = map (failed_want at) ticket.wants; mishaps = counted kind ticket.mishaps })
failed_call kind at ticket = record { wants = wants_map (failed_want at) (failed_same at) ticket.wants }

-- What a node's tickets come from: those that stood before, or `New`.
pub record NodeGoes (node next : Node) (New : ℕ → Ticket → Type 0) : Type 0 where
  pub boot : next.boot ≡ node.boot
  pub calls : node.calls ≤ next.calls
  pub came : (seq : ℕ) (ticket : Ticket) → fin.get next.tickets seq ≡ Some ticket → ((old : Ticket) × (fin.get node.tickets seq ≡ Some old) × SameCall old ticket) ⊎ New seq ticket

abbrev pub NoneNew : {X : Type 0} → X → Ticket → Type 0
NoneNew x ticket = ⊥

-- and so of all nodes
pub record TicketsGo (old new : List Slot) (New : Number → Ticket → Type 0) : Type 0 where
  pub calls : (number : Number) → IsWithinCalls old number → IsWithinCalls new number
  pub came : (number : Number) (ticket : Ticket) → StandsAs new number ticket → ((before : Ticket) × StandsAs old number before × SameCall before ticket) ⊎ New number ticket

pub still_tickets : (old new : List Slot) → new ≡ old → TicketsGo old new NoneNew
still_tickets old new same = record {
  calls = λ number within. subst (λ s. IsWithinCalls s number) (sym same) within;
  came = λ number ticket s. inl (ticket, subst (λ l. StandsAs l number ticket) same s, same_call ticket);
}

-- a node whose tickets are as they were
pub quiet_node : (node next : Node) → next.boot ≡ node.boot → next.calls ≡ node.calls → next.tickets ≡ node.tickets → NodeGoes node next NoneNew
quiet_node node next boot calls tickets = record {
  boot = boot;
  calls = subst (λ c. node.calls ≤ c) (sym calls) (le_refl node.calls);
  came = λ seq ticket e. inl (ticket, sym (ap (λ t. fin.get t seq) tickets) ∙ e, same_call ticket);
}

-- a ticket of a node is changed in place
pub node_with : (node : Node) (seq : ℕ) (old new : Ticket) → fin.get node.tickets seq ≡ Some old → SameCall old new → NodeGoes node (with_ticket node seq new) NoneNew
node_with node seq old new here same = record {
  boot = refl;
  calls = le_refl node.calls;
  came = λ at ticket e. inl (⊎_elim
      (λ (is, t). (old, ap (fin.get node.tickets) is ∙ here, subst (SameCall old) (sym t) same))
      (λ (apart, stood). (ticket, stood, same_call ticket))
      (found nat_cmp_total exact_unsigned node.tickets seq new at ticket e));
}

pub same_up : (node other : Node) (disk others : List Record) → ◌≡◌ {A = Option Slot} (Some (slot_up node disk)) (Some (slot_up other others)) → node ≡ other
same_up node other disk others e = ap node_in e
  where
    node_in : Option Slot → Node
    node_in None = node
    node_in (Some slot) = in_life slot.life
      where
        in_life : Life → Node
        in_life (Up n) = n
        in_life (Down pending) = node
        in_life Lost = node

-- a slot is written with its node after it did something
pub slot_goes : (slots : List Slot) (own : ℕ) (node next : Node) (disk after : List Record) (New : ℕ → Ticket → Type 0) → slot_at slots own ≡ Some (slot_up node disk) → NodeGoes node next New
    → TicketsGo slots (with_slot slots own (slot_up next after)) (λ number ticket. (number.node ≡ own) × (number.boot ≡ node.boot) × New number.seq ticket)
slot_goes slots own node next disk after New here goes = record {
  calls = λ number within other others up boot. ⊎_elim
      (λ (at, is).
      let same : other ≡ next = same_up other next others after (ap Some is) in
      let stood = within node disk (ap (slot_at slots) at ∙ here) (boot ∙ ap (λ (n : Node). n.boot) same ∙ goes.boot) in
      subst (λ (n : Node). number.seq ≤ n.calls) (sym same) (le_trans stood goes.calls))
      (λ old. within other others old boot)
      (read_after slots own number.node (slot_up node disk) (slot_up next after) (slot_up other others) here up);
  came = λ number ticket s. ⊎_elim
      (λ (at, is).
      let same : s.node ≡ next = same_up s.node next s.disk after (ap Some is) in
      let boot : number.boot ≡ node.boot = s.boot ∙ ap (λ (n : Node). n.boot) same ∙ goes.boot in
      ⊎_elim
      (λ (old, stood, call). inl (old, record { node = node; disk = disk; up = ap (slot_at slots) at ∙ here; boot = boot; here = stood }, call))
      (λ new. inr (at, boot, new))
      (goes.came number.seq ticket (ap (λ (n : Node). fin.get n.tickets number.seq) (sym same) ∙ s.here)))
      (λ old. inl (ticket, record { node = s.node; disk = s.disk; up = old; boot = s.boot; here = s.here }, same_call ticket))
      (read_after slots own number.node (slot_up node disk) (slot_up next after) (slot_up s.node s.disk) here s.up);
}

pub none_new : (old new : List Slot) (New : Number → Ticket → Type 0) → ((number : Number) (ticket : Ticket) → New number ticket → ⊥) → TicketsGo old new New → TicketsGo old new NoneNew
none_new old new New never goes = record { calls = goes.calls; came = λ number ticket s. ⊎_elim (λ before. inl before) (λ is. absurd (never number ticket is)) (goes.came number ticket s) }

pub slot_quiet : (slots : List Slot) (own : ℕ) (node next : Node) (disk after : List Record) → slot_at slots own ≡ Some (slot_up node disk) → NodeGoes node next NoneNew
    → TicketsGo slots (with_slot slots own (slot_up next after)) NoneNew
slot_quiet slots own node next disk after here goes = none_new slots (with_slot slots own (slot_up next after)) _ (λ number ticket is. is.2) (slot_goes slots own node next disk after NoneNew here goes)

-- a node is down after this, or lost
pub slot_falls : (slots : List Slot) (n : ℕ) (before after : Slot) → slot_at slots n ≡ Some before → ((node : Node) → after.life ≡ Up node → ⊥) → TicketsGo slots (with_slot slots n after) NoneNew
slot_falls slots n before after here none = record {
  calls = λ number within node disk up boot. ⊎_elim (λ (at, is). absurd (none node (sym (ap (λ (s : Slot). s.life) is)))) (λ old. within node disk old boot) (read_after slots n number.node before after (slot_up node disk) here up);
  came = λ number ticket s. ⊎_elim
      (λ (at, is). absurd (none s.node (sym (ap (λ (x : Slot). x.life) is))))
      (λ old. inl (ticket, record { node = s.node; disk = s.disk; up = old; boot = s.boot; here = s.here }, same_call ticket))
      (read_after slots n number.node before after (slot_up s.node s.disk) here s.up);
}

-- one after another
pub goes_through : (a b c : List Slot) (New : Number → Ticket → Type 0) → TicketsGo a b New → TicketsGo b c NoneNew
    → TicketsGo a c (λ number ticket. (first : Ticket) × New number first × SameCall first ticket)
goes_through a b c New p q = record {
  calls = λ number within. q.calls number (p.calls number within);
  came = λ number ticket s. ⊎_elim
      (λ (mid, stood, call). ⊎_elim
      (λ (old, was, same). inl (old, was, call_through old mid ticket same call))
      (λ new. inr (mid, new, call))
      (p.came number mid stood))
      (λ none. absurd none)
      (q.came number ticket s);
}

pub goes_on : (a b c : List Slot) → TicketsGo a b NoneNew → TicketsGo b c NoneNew → TicketsGo a c NoneNew
goes_on a b c p q = none_new a c _ (λ number ticket is. is.1) (goes_through a b c NoneNew p q)

-- a mishap is noted at a ticket
failed_goes : (kind : MishapKind) (node : Node) (disk : List Record) (seq at : ℕ) (stood : Option Ticket) → fin.get node.tickets seq ≡ stood → NodeGoes node (failed_at kind node disk seq at stood).node NoneNew
failed_goes kind node disk seq at None e = quiet_node node node refl refl refl
failed_goes kind node disk seq at (Some ticket) e = node_with node seq ticket _ e (failed_call kind at ticket)

pub missed_goes : (kind : MishapKind) (slots : List Slot) (letter : Letter) → TicketsGo slots (missed kind slots letter) NoneNew
missed_goes kind slots letter = by letter.ticket
  where
    at_boot : (at : ℕ) (number : Number) (node : Node) (disk : List Record) → slot_at slots number.node ≡ Some (slot_up node disk) → (b : Bool)
        → TicketsGo slots (if b then with_slot slots number.node (slot_up (mishap kind number.seq at node disk).node (mishap kind number.seq at node disk).disk) else slots) NoneNew
    at_boot at number node disk here true = slot_quiet slots number.node node (mishap kind number.seq at node disk).node disk (mishap kind number.seq at node disk).disk here
        (failed_goes kind node disk number.seq at (fin.get node.tickets number.seq) refl)
    at_boot at number node disk here false = still_tickets slots slots refl

    at_life : (at : ℕ) (number : Number) (disk : List Record) (life : Life) → slot_at slots number.node ≡ Some (record { life = life; disk = disk })
        → TicketsGo slots (missed_by kind slots at number disk life) NoneNew
    at_life at number disk (Up node) here = at_boot at number node disk here (boots number node)
      where
        boots : Number → Node → Bool
        boots number node = nat_eq number.boot node.boot
    at_life at number disk (Down pending) here = still_tickets slots slots refl
    at_life at number disk Lost here = still_tickets slots slots refl

    at_slot : (at : ℕ) (number : Number) (found : Option Slot) → slot_at slots number.node ≡ found → TicketsGo slots (missed_at kind slots at number found) NoneNew
    at_slot at number None e = still_tickets slots slots refl
    at_slot at number (Some slot) e = at_life at number slot.disk slot.life e

    by : (ticket : Option Number) → TicketsGo slots (missed_under kind slots letter ticket) NoneNew
    by None = still_tickets slots slots refl
    by (Some number) = at_slot (other_end letter number) number (slot_at slots number.node) refl

-- letters are put in flight
pub put_goes : (room : List Flight → Letter → Bool) (letters : List Letter) (w : World) → TicketsGo w.slots (put room letters w).slots NoneNew
put_goes room [] w = still_tickets w.slots w.slots refl
put_goes room (letter ∷ letters) w = by
    (λ (v : World). put_goes room letters v)
    (room w.flying letter)
  where
    by : ((v : World) → TicketsGo v.slots (put room letters v).slots NoneNew) → (b : Bool)
        → TicketsGo w.slots ((λ (x : World). x.slots) (if b
        then put room letters (record w { flying = w.flying ++ record { number = w.sent + 1; letter = letter } ∷ []; sent = w.sent + 1 })
        else put room letters (record w { slots = missed Crowded w.slots letter }))) NoneNew
    by rest true = rest (record w { flying = w.flying ++ record { number = w.sent + 1; letter = letter } ∷ []; sent = w.sent + 1 })
    by rest false = goes_on w.slots (missed Crowded w.slots letter) (put room letters (record w { slots = missed Crowded w.slots letter })).slots
        (missed_goes Crowded w.slots letter) (rest (record w { slots = missed Crowded w.slots letter }))

-- putting letters in flight changes neither clock nor book
pub put_keeps : (room : List Flight → Letter → Bool) (letters : List Letter) (w : World) → ((put room letters w).seconds ≡ w.seconds) × ((put room letters w).book ≡ w.book)
put_keeps room [] w = (refl, refl)
put_keeps room (letter ∷ letters) w = by (λ (v : World). put_keeps room letters v) (room w.flying letter)
  where
    by : ((v : World) → ((put room letters v).seconds ≡ v.seconds) × ((put room letters v).book ≡ v.book)) → (b : Bool)
        → ((λ (x : World). (x.seconds ≡ w.seconds) × (x.book ≡ w.book)) (if b
        then put room letters (record w { flying = w.flying ++ record { number = w.sent + 1; letter = letter } ∷ []; sent = w.sent + 1 })
        else put room letters (record w { slots = missed Crowded w.slots letter })))
    by rest true = rest (record w { flying = w.flying ++ record { number = w.sent + 1; letter = letter } ∷ []; sent = w.sent + 1 })
    by rest false = rest (record w { slots = missed Crowded w.slots letter })

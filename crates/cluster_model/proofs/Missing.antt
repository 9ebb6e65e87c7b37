-- A letter that is lost has a mishap at its ticket, which then waits for its other end no more.
use Rattle.std.proofs.Common.{◌≡◌, ⊎_elim, ℕ, ◌+◌, Bool, true, false, List, [], ◌∷◌, ◌++◌, Option, Some, None, refl, sym, ap, ◌∙◌, subst, true≢false, nat_eq, eqb-true, eq-eqb, if◌then◌else◌}
use Rattle.std.specs.FinMap as fin
use Rattle.mail_model.specs.Identity.{Id}
use Rattle.mail_model.specs.Record.{Record}
use Rattle.object_model.specs.Letters.{Number, Letter}
use Rattle.cluster_model.specs.Cluster.{AskedOfNodes, Ticket, Node, Life, Slot, Cluster, slot_at, with_slot}
use Rattle.cluster_model.specs.Cluster.Life.{Up, Down, Lost}
use Rattle.cluster_model.specs.Claims.{LifeWaits, NodesWait, Covers}
use Rattle.cluster_model.specs.Rules.{Reaction, mishap, failed_at}
use Rattle.cluster_model.specs.Deeds.{slot_up, act_of}
use Rattle.object_model.specs.Mishaps.{MishapKind}
use Rattle.object_model.specs.Mishaps.MishapKind.{Crowded}
use Rattle.cluster_model.specs.Room.{Flight}
use Rattle.cluster_model.specs.World.{World, Leads, letters_of, cluster_of, other_end, missed_by, missed_at, missed_under, missed, put}
use Rattle.cluster_model.proofs.Slots.{at_same}
use Rattle.cluster_model.proofs.Closing.{mishap_acts, mishap_settles}
use Rattle.cluster_model.proofs.Leading.{no_move, led_on, acted_leads, taken_leads}

nothing : {X : Type 0} (xs : List X) → xs ++ [] ≡ xs
nothing [] = refl
nothing (x ∷ xs) = ap (λ l. x ∷ l) (nothing xs)

-- a mishap sends nothing
quiet_mishap : (kind : MishapKind) (seq at : ℕ) (node : Node) (disk : List Record) → (mishap kind seq at node disk).out ≡ []
quiet_mishap kind seq at node disk = by (fin.get node.tickets seq)
  where
    by : (found : Option Ticket) → (failed_at kind node disk seq at found).out ≡ []
    by None = refl
    by (Some ticket) = refl

module _ (confirm : ℕ) (May : Id → List ℕ → Type 0) (kind : MishapKind) (c : Cluster) (letter : Letter) where
  by_life : (number : Number) (at : ℕ) (slot : Slot) → slot_at c.slots number.node ≡ Some slot → Leads confirm May c (record c { slots = missed_by kind c.slots at number slot.disk slot.life })
  by_life number at slot here = by slot.life refl
    where
      by : (life : Life) → slot.life ≡ life → Leads confirm May c (record c { slots = missed_by kind c.slots at number slot.disk life })
      by (Down pending) e = no_move confirm May c c refl
      by Lost e = no_move confirm May c c refl
      by (Up node) e = boots (nat_eq number.boot node.boot)
        where
          did : Reaction
          did = mishap kind number.seq at node slot.disk

          after : Cluster
          after = record c { slots = with_slot c.slots number.node (slot_up did.node did.disk) }

          boots : (b : Bool) → Leads confirm May c (record c { slots = if b then with_slot c.slots number.node (slot_up (mishap kind number.seq at node slot.disk).node (mishap kind number.seq at node slot.disk).disk) else c.slots })
          boots false = no_move confirm May c c refl
          boots true = led_on confirm May c (record after { flying = c.flying ++ did.out }) after
              (acted_leads confirm May c (act_of number.node node slot.disk did None None []) (here ∙ ap Some (λ i. record { life = e i; disk = slot.disk }))
              (λ ready. (mishap_acts number.node node slot.disk ready kind number.seq at).is) (λ one f. absurd (cc f)) (λ user id m. absurd m) (λ content f. absurd (cc f)))
              (no_move confirm May (record after { flying = c.flying ++ did.out }) after
              (ap (λ (f : List Letter). record after { flying = f }) (sym (nothing c.flying)) ∙ ap (λ (o : List Letter). record after { flying = c.flying ++ o }) (sym (quiet_mishap kind number.seq at node slot.disk))))

  -- the mishap is a move, if it is one at all
  pub note_leads : Leads confirm May c (record c { slots = missed kind c.slots letter })
  note_leads = by letter.ticket
    where
      found_by : (number : Number) (found : Option Slot) → slot_at c.slots number.node ≡ found → Leads confirm May c (record c { slots = missed_at kind c.slots (other_end letter number) number found })
      found_by number None e = no_move confirm May c c refl
      found_by number (Some slot) e = by_life number (other_end letter number) slot e

      by : (ticket : Option Number) → Leads confirm May c (record c { slots = missed_under kind c.slots letter ticket })
      by None = no_move confirm May c c refl
      by (Some number) = found_by number (slot_at c.slots number.node) refl

end_is : (letter : Letter) (number : Number) (m : ℕ) (asked : AskedOfNodes) → Covers letter number m asked → m ≡ other_end letter number
end_is letter number m asked c = by (nat_eq letter.from number.node) refl
  where
    by : (b : Bool) → nat_eq letter.from number.node ≡ b → m ≡ (if b then letter.to else letter.from)
    by true e = ⊎_elim (λ (from, to, asks). sym to) (λ (to, from, told). sym from ∙ eqb-true letter.from number.node e ∙ sym to) c.1
    by false e = ⊎_elim (λ (from, to, asks). absurd (true≢false (sym (eq-eqb letter.from number.node from) ∙ e))) (λ (to, from, told). sym from) c.1

-- then nobody waits on account of the letter
pub missed_settled : (kind : MishapKind) (slots : List Slot) (letter : Letter) (number : Number) (m : ℕ) (asked : AskedOfNodes) → Covers letter number m asked → NodesWait (missed kind slots letter) number m asked → ⊥
missed_settled kind slots letter number m asked c w =
    by (slot_at slots number.node) refl (subst (λ t. NodesWait (missed_under kind slots letter t) number m asked) c.0 w)
  where
    at : ℕ
    at = other_end letter number

    same_slot : (o : Option Slot) (a b : Slot) → o ≡ Some a → o ≡ Some b → a ≡ b
    same_slot o a b p q = cc

    still_there : (slot : Slot) (node : Node) → slot_at slots number.node ≡ Some slot → slot.life ≡ Up node → NodesWait slots number m asked → number.boot ≡ node.boot
    still_there slot node here up v =
        let same : v.slot ≡ slot = same_slot (slot_at slots number.node) v.slot slot v.here here in
        let life : ◌≡◌ {A = Life} (Up v.waits.node) (Up node) = sym v.waits.up ∙ ap (λ (s : Slot). s.life) same ∙ up in
        v.waits.boot ∙ ap boot_in life
      where
        boot_in : Life → ℕ
        boot_in (Up node) = node.boot
        boot_in (Down pending) = 0
        boot_in Lost = 0

    not_up : (slot : Slot) (life : Life) → slot_at slots number.node ≡ Some slot → slot.life ≡ life → ((node : Node) → life ≡ Up node → ⊥) → NodesWait slots number m asked → ⊥
    not_up slot life here is none v = none v.waits.node (sym is ∙ ap (λ (s : Slot). s.life) (same_slot (slot_at slots number.node) slot v.slot here v.here) ∙ v.waits.up)

    by_life : (slot : Slot) → slot_at slots number.node ≡ Some slot → (life : Life) → slot.life ≡ life → NodesWait (missed_by kind slots at number slot.disk life) number m asked → ⊥
    by_life slot here (Down pending) e v = not_up slot (Down pending) here e (λ node up. cc) v
    by_life slot here Lost e v = not_up slot Lost here e (λ node up. cc) v
    by_life slot here (Up node) e v = boots (nat_eq number.boot node.boot) refl v
      where
        did : Reaction
        did = mishap kind number.seq at node slot.disk

        boots : (b : Bool) → nat_eq number.boot node.boot ≡ b
            → NodesWait (if b then with_slot slots number.node (slot_up (mishap kind number.seq at node slot.disk).node (mishap kind number.seq at node slot.disk).disk) else slots) number m asked → ⊥
        boots false f u = true≢false (sym (eq-eqb number.boot node.boot (still_there slot node here e u)) ∙ f)
        boots true f u =
            let now = at_same slots number.node slot (slot_up did.node did.disk) here in
            let same : u.slot ≡ slot_up did.node did.disk = same_slot (slot_at (with_slot slots number.node (slot_up did.node did.disk)) number.node) u.slot (slot_up did.node did.disk) u.here now in
            mishap_settles kind node slot.disk number.seq at number asked refl (subst (λ k. LifeWaits (Up did.node) number k asked) (end_is letter number m asked c)
            (subst (λ (s : Slot). LifeWaits s.life number m asked) same u.waits))

    by : (found : Option Slot) → slot_at slots number.node ≡ found → NodesWait (missed_at kind slots at number found) number m asked → ⊥
    by None e v = absurd (none_some v.slot (sym e ∙ v.here))
      where
        none_some : (s : Slot) → None ≡ Some s → ⊥
        none_some s p = cc
    by (Some slot) e v = by_life slot e slot.life refl v

-- a letter that is lost: its mishap, and it is taken out
pub lost_leads : (confirm : ℕ) (May : Id → List ℕ → Type 0) (kind : MishapKind) (c : Cluster) (letter : Letter) (front back : List Letter) → c.flying ≡ front ++ letter ∷ back
    → Leads confirm May c (record c { slots = missed kind c.slots letter; flying = front ++ back })
lost_leads confirm May kind c letter front back is = led_on confirm May c (record c { slots = missed kind c.slots letter }) (record c { slots = missed kind c.slots letter; flying = front ++ back })
    (note_leads confirm May kind c letter)
    (taken_leads confirm May (record c { slots = missed kind c.slots letter }) letter front back is (λ number m asked covers waits. absurd (missed_settled kind c.slots letter number m asked covers waits)))

pub letters_last : (flying : List Flight) (flight : Flight) → letters_of (flying ++ flight ∷ []) ≡ letters_of flying ++ flight.letter ∷ []
letters_last [] flight = refl
letters_last (f ∷ flying) flight = ap (λ (l : List Letter). f.letter ∷ l) (letters_last flying flight)

pub assoc : (xs ys zs : List Letter) → (xs ++ ys) ++ zs ≡ xs ++ (ys ++ zs)
assoc [] ys zs = refl
assoc (x ∷ xs) ys zs = ap (λ (l : List Letter). x ∷ l) (assoc xs ys zs)

-- letters that were sent are put in flight
pub put_leads : (confirm : ℕ) (May : Id → List ℕ → Type 0) (room : List Flight → Letter → Bool) (letters : List Letter) (w : World)
    → Leads confirm May (record { slots = w.slots; flying = letters_of w.flying ++ letters; book = w.book }) (cluster_of (put room letters w))
put_leads confirm May room [] w = no_move confirm May (record { slots = w.slots; flying = letters_of w.flying ++ []; book = w.book }) (cluster_of w)
    (ap (λ (f : List Letter). record { slots = w.slots; flying = f; book = w.book }) (sym (nothing (letters_of w.flying))))
put_leads confirm May room (letter ∷ letters) w = by (λ v. put_leads confirm May room letters v) (room w.flying letter)
  where
    from : Cluster
    from = record { slots = w.slots; flying = letters_of w.flying ++ letter ∷ letters; book = w.book }

    numbered : World
    numbered = record w { flying = w.flying ++ record { number = w.sent + 1; letter = letter } ∷ []; sent = w.sent + 1 }

    crowded : World
    crowded = record w { slots = missed Crowded w.slots letter }

    by : ((v : World) → Leads confirm May (record { slots = v.slots; flying = letters_of v.flying ++ letters; book = v.book }) (cluster_of (put room letters v)))
        → (b : Bool) → Leads confirm May (record { slots = w.slots; flying = letters_of w.flying ++ letter ∷ letters; book = w.book })
        (cluster_of (if b then put room letters (record w { flying = w.flying ++ record { number = w.sent + 1; letter = letter } ∷ []; sent = w.sent + 1 }) else put room letters (record w { slots = missed Crowded w.slots letter })))
    by rest true = subst (λ (f : List Letter). Leads confirm May (record { slots = w.slots; flying = f; book = w.book }) (cluster_of (put room letters numbered)))
        (ap (λ (l : List Letter). l ++ letters) (letters_last w.flying (record { number = w.sent + 1; letter = letter })) ∙ assoc (letters_of w.flying) (letter ∷ []) letters)
        (rest numbered)
    by rest false = led_on confirm May from (record from { slots = missed Crowded w.slots letter; flying = letters_of w.flying ++ letters }) (cluster_of (put room letters crowded))
        (lost_leads confirm May Crowded from letter (letters_of w.flying) letters refl)
        (rest crowded)

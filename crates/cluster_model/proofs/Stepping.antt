-- What a node does, and what befalls a letter, is a list of moves.
use Rattle.std.proofs.Common.{◌≡◌, inl, ⊎_elim, ℕ, zero, suc, Bool, true, false, List, [], ◌∷◌, ◌++◌, Option, Some, None, refl, sym, ap, ◌∙◌, subst}
use Rattle.std.specs.Prelude.{slice_set}
use Rattle.mail_model.specs.Identity.{Id}
use Rattle.mail_model.specs.Record.{Record}
use Rattle.mail_model.specs.Book.{BookEntry}
use Rattle.mail_model.specs.Book.BookEntry.{Struck, WentDown}
use Rattle.object_model.specs.Lists.{Among}
use Rattle.object_model.specs.Letters.{Number, Letter}
use Rattle.object_model.specs.Mishaps.{MishapKind}
use Rattle.cluster_model.specs.Cluster.{AskedOfNodes, Node, Slot, Cluster, slot_at, with_slot}
use Rattle.cluster_model.specs.Cluster.Life.{Down}
use Rattle.cluster_model.specs.Claims.{LifeWaits, NodesWait, Covers, Covered}
use Rattle.cluster_model.specs.Moves.{Content, NodeAct, IsReady, IsAct, IsCallDone, MayEnter}
use Rattle.cluster_model.specs.Rules.{Reaction}
use Rattle.cluster_model.specs.Deeds.{slot_up, act_of, cut_act}
use Rattle.cluster_model.specs.Room.{Flight, has_room}
use Rattle.cluster_model.specs.World.{World, Leads, letters_of, cluster_of, missed, put, Flies, flies_on}
use Rattle.cluster_model.specs.Makes.{after, lost_letter, IsWorkCut, NodeGoesDown, cut_world}
use Rattle.object_model.proofs.Lists.{among_behind, same_some}
use Rattle.cluster_model.proofs.Slots.{at_same}
use Rattle.cluster_model.proofs.Lives.{cut_acts}
use Rattle.cluster_model.proofs.Leading.{no_move, led_on, acted_leads, taken_leads, entered_leads}
use Rattle.cluster_model.proofs.Missing.{note_leads, lost_leads, put_leads, assoc}

pub letters_both : (front back : List Flight) → letters_of (front ++ back) ≡ letters_of front ++ letters_of back
letters_both [] back = refl
letters_both (f ∷ front) back = ap (λ (l : List Letter). f.letter ∷ l) (letters_both front back)

pub letters_around : (w : World) (number : ℕ) (f : Flies w number) → letters_of w.flying ≡ letters_of f.front ++ f.letter ∷ letters_of f.back
letters_around w number f = ap letters_of f.is ∙ letters_both f.front (record { number = number; letter = f.letter } ∷ f.back)

pub flew : (w : World) (number : ℕ) (f : Flies w number) → Among f.letter (letters_of w.flying)
flew w number f = subst (Among f.letter) (sym (letters_around w number f)) (among_behind f.letter (letters_of f.front) (f.letter ∷ letters_of f.back) (inl refl))

-- a slot that is written twice, or with what it was
set_again : (xs : List Slot) (k : ℕ) (a b : Slot) → slice_set (slice_set xs k a) k b ≡ slice_set xs k b
set_again [] k a b = refl
set_again (x ∷ xs) zero a b = refl
set_again (x ∷ xs) (suc k) a b = ap (λ (l : List Slot). x ∷ l) (set_again xs k a b)

pub slot_again : (slots : List Slot) (n : ℕ) (a b : Slot) → with_slot (with_slot slots n a) n b ≡ with_slot slots n b
slot_again slots zero a b = refl
slot_again slots (suc k) a b = set_again slots k a b

nothing_letters : (xs : List Letter) → xs ++ [] ≡ xs
nothing_letters [] = refl
nothing_letters (x ∷ xs) = ap (λ (l : List Letter). x ∷ l) (nothing_letters xs)

same_rest : (xs ys zs : List Record) → xs ++ ys ≡ xs ++ zs → ys ≡ zs
same_rest [] ys zs e = e
same_rest (x ∷ xs) ys zs e = same_rest xs ys zs (tails e)
  where
    tails : x ∷ (xs ++ ys) ≡ x ∷ (xs ++ zs) → xs ++ ys ≡ xs ++ zs
    tails e = cc

-- a cut in which nothing was written
pub cut_nothing : (disk : List Record) → IsWorkCut disk disk [] []
cut_nothing disk = record { missing = []; is = behind disk }
  where
    behind : (xs : List Record) → xs ≡ xs ++ []
    behind [] = refl
    behind (x ∷ xs) = ap (λ (l : List Record). x ∷ l) (behind xs)

module _ (confirm : ℕ) (May : Id → List ℕ → Type 0) where
  -- a node that hears nothing acts, and what it sends is put in flight
  pub unheard_leads : (w : World) (own : ℕ) (node : Node) (disk : List Record) (did : Reaction) (files : Option Content) (strikes : List (List ℕ × Id)) → slot_at w.slots own ≡ Some (slot_up node disk)
      → (IsReady own (slot_up node disk) None → IsCallDone (act_of own node disk did None files strikes))
      → ((user : List ℕ) (id : Id) → Among (user, id) strikes → Among (Struck user id) w.book)
      → ((content : Content) → files ≡ Some content → May content.id content.octets)
      → Leads confirm May (cluster_of w) (cluster_of (after w own did))
  unheard_leads w own node disk did files strikes here done struck allowed = led_on confirm May (cluster_of w) _ _
      (acted_leads confirm May (cluster_of w) (act_of own node disk did None files strikes) here (λ ready. (done ready).is) (λ one f. absurd (cc f)) struck allowed)
      (put_leads confirm May has_room did.out (record w { slots = with_slot w.slots own (slot_up did.node did.disk) }))

  -- an act that hears and sends nothing
  pub quiet_leads : (w : World) (act : NodeAct) → act.out ≡ [] → act.heard ≡ None → act.files ≡ None → act.strikes ≡ [] → slot_at w.slots act.node ≡ Some act.before
      → (IsReady act.node act.before None → IsAct act) → Leads confirm May (cluster_of w) (cluster_of (record w { slots = with_slot w.slots act.node act.after }))
  quiet_leads w act none_out none_heard no_files no_strikes here acts = led_on confirm May (cluster_of w) (record now { flying = letters_of w.flying ++ act.out }) now
      (acted_leads confirm May (cluster_of w) act here (λ ready. acts (subst (IsReady act.node act.before) none_heard ready))
      (λ one e. absurd (clash one (sym none_heard ∙ e)))
      (λ user id m. absurd (subst (Among (user, id)) no_strikes m))
      (λ content e. absurd (clash_content content (sym no_files ∙ e))))
      (no_move confirm May (record now { flying = letters_of w.flying ++ act.out }) now
      (ap (λ (f : List Letter). record now { flying = f }) (sym (nothing_letters (letters_of w.flying)) ∙ ap (λ (o : List Letter). letters_of w.flying ++ o) (sym none_out))))
    where
      now : Cluster
      now = cluster_of (record w { slots = with_slot w.slots act.node act.after })

      clash : (one : Letter) → None ≡ Some one → ⊥
      clash one e = cc

      clash_content : (content : Content) → None ≡ Some content → ⊥
      clash_content content e = cc

  -- one entry more
  pub books_one : (c : Cluster) (one : BookEntry) → MayEnter confirm one c.slots → Leads confirm May c (record c { book = c.book ++ one ∷ [] })
  books_one c one may = entered_leads confirm May (one ∷ []) c (λ entry m. ⊎_elim (λ e. subst (λ (x : BookEntry). MayEnter confirm x c.slots) e may) (λ none. absurd none) m)

  -- a letter that is lost, and kept or not
  pub letter_lost : (w : World) (kind : MishapKind) (number : ℕ) (flies : Flies w number) (keep : Bool) → Leads confirm May (cluster_of w) (cluster_of (lost_letter kind w number flies keep))
  letter_lost w kind number flies true = note_leads confirm May kind (cluster_of w) flies.letter
  letter_lost w kind number flies false = subst (λ (f : List Letter). Leads confirm May (cluster_of w) (record { slots = missed kind w.slots flies.letter; flying = f; book = w.book }))
      (sym (letters_both flies.front flies.back))
      (lost_leads confirm May kind (cluster_of w) flies.letter (letters_of flies.front) (letters_of flies.back) (letters_around w number flies))

  -- a letter that nobody waits for any more is taken out, where it is not kept
  pub letter_idle : (w : World) (number : ℕ) (flies : Flies w number) (keep : Bool)
      → ((n : Number) (m : ℕ) (asked : AskedOfNodes) → Covers flies.letter n m asked → NodesWait w.slots n m asked → ⊥)
      → Leads confirm May (cluster_of w) (cluster_of (record w { flying = flies_on w number flies keep }))
  letter_idle w number flies true nobody = no_move confirm May (cluster_of w) (cluster_of w) refl
  letter_idle w number flies false nobody = subst (λ (f : List Letter). Leads confirm May (cluster_of w) (record { slots = w.slots; flying = f; book = w.book }))
      (sym (letters_both flies.front flies.back))
      (taken_leads confirm May (cluster_of w) flies.letter (letters_of flies.front) (letters_of flies.back) (letters_around w number flies) (λ n m asked c wait. absurd (nobody n m asked c wait)))

  -- a letter is heard, and what its receiver sends is put in flight
  module _ (w : World) (number : ℕ) (flies : Flies w number) (node : Node) (disk : List Record) (did : Reaction) (here : slot_at w.slots flies.letter.to ≡ Some (slot_up node disk))
      (done : IsCallDone (act_of flies.letter.to node disk did (Some flies.letter) None [])) where
    abbrev letter : Letter
    letter = flies.letter

    same_letter : (one : Letter) → Some letter ≡ Some one → letter ≡ one
    same_letter one e = cc

    abbrev slots : List Slot
    slots = with_slot w.slots letter.to (slot_up did.node did.disk)

    abbrev acted : Cluster
    acted = record { slots = slots; flying = letters_of w.flying ++ did.out; book = w.book }

    abbrev left : List Letter
    left = letters_of flies.back ++ did.out

    around : acted.flying ≡ letters_of flies.front ++ letter ∷ left
    around = ap (λ (f : List Letter). f ++ did.out) (letters_around w number flies) ∙ assoc (letters_of flies.front) (letter ∷ letters_of flies.back) did.out

    -- the letter was answered, or its ticket waits for it no more
    missed_by_none : (n : Number) (m : ℕ) (asked : AskedOfNodes) → Covers letter n m asked → NodesWait slots n m asked → Covered (letters_of flies.front ++ left) n m asked
    missed_by_none n m asked covers wait = ⊎_elim
        (λ (c : Covered did.out n m asked). record {
          letter = c.letter;
          inside = among_behind c.letter (letters_of flies.front) left (among_behind c.letter (letters_of flies.back) did.out c.inside);
          covers = c.covers;
        })
        (λ (at, never).
        let now = at_same w.slots letter.to (slot_up node disk) (slot_up did.node did.disk) here in
        let found : slot_at slots letter.to ≡ Some wait.slot = subst (λ k. slot_at slots k ≡ Some wait.slot) at wait.here in
        absurd (never (subst (λ (s : Slot). LifeWaits s.life n m asked) (same_some (slot_at slots letter.to) wait.slot (slot_up did.node did.disk) found now) wait.waits)))
        (done.settles.settled letter refl n m asked covers)

    by_keep : (keep : Bool) → Leads confirm May acted (cluster_of (put has_room did.out (record w { slots = slots; flying = flies_on w number flies keep })))
    by_keep true = put_leads confirm May has_room did.out (record w { slots = slots })
    by_keep false = led_on confirm May acted (record acted { flying = letters_of flies.front ++ left }) _
        (taken_leads confirm May acted letter (letters_of flies.front) left around missed_by_none)
        (subst (λ (f : List Letter). Leads confirm May (record acted { flying = f }) (cluster_of (put has_room did.out (record w { slots = slots; flying = flies.front ++ flies.back }))))
        (ap (λ (f : List Letter). f ++ did.out) (letters_both flies.front flies.back) ∙ assoc (letters_of flies.front) (letters_of flies.back) did.out)
        (put_leads confirm May has_room did.out (record w { slots = slots; flying = flies.front ++ flies.back })))

    pub heard_leads : (keep : Bool) → Leads confirm May (cluster_of w) (cluster_of (after (record w { flying = flies_on w number flies keep }) flies.letter.to did))
    heard_leads keep = led_on confirm May (cluster_of w) acted _
        (acted_leads confirm May (cluster_of w) (act_of letter.to node disk did (Some letter) None []) here (λ ready. done.is)
        (λ one e. subst (λ (l : Letter). Among l (letters_of w.flying)) (same_letter one e) (flew w number flies)) (λ user id m. absurd m) (λ content f. absurd (cc f)))
        (by_keep keep)

  -- A node goes down in its work: its disk has a prefix of the records, and the book has it.
  module _ (w : World) (own : ℕ) (node : Node) (disk : List Record) (did : Reaction) (heard : Option Letter) (files : Option Content) (strikes : List (List ℕ × Id))
      (here : slot_at w.slots own ≡ Some (slot_up node disk)) (done : IsReady own (slot_up node disk) heard → IsCallDone (act_of own node disk did heard files strikes))
      (front pending : List Record) (cut : IsWorkCut disk did.disk front pending) where
    abbrev down : World
    down = record w { slots = with_slot w.slots own (record { life = Down pending; disk = disk ++ front }) }

    acts : IsReady own (slot_up node disk) heard → IsAct (cut_act own node disk heard files strikes front pending)
    acts ready =
        let is = (done ready).is in
        cut_acts own node disk did heard files strikes ready is front pending cut.missing (same_rest disk is.grows.0 ((front ++ pending) ++ cut.missing) (sym is.grows.1 ∙ cut.is))

    pub cut_leads : ((letter : Letter) → heard ≡ Some letter → Among letter (letters_of w.flying)) → ((user : List ℕ) (id : Id) → Among (user, id) strikes → Among (Struck user id) w.book)
        → ((content : Content) → files ≡ Some content → May content.id content.octets)
        → Leads confirm May (cluster_of w) (cluster_of (cut_world w own disk front pending))
    cut_leads flown struck allowed = led_on confirm May (cluster_of w) (cluster_of down) (cluster_of (cut_world w own disk front pending))
        (led_on confirm May (cluster_of w) (record (cluster_of down) { flying = letters_of w.flying ++ [] }) (cluster_of down)
        (acted_leads confirm May (cluster_of w) (cut_act own node disk heard files strikes front pending) here acts flown struck allowed)
        (no_move confirm May (record (cluster_of down) { flying = letters_of w.flying ++ [] }) (cluster_of down) (ap (λ (f : List Letter). record (cluster_of down) { flying = f }) (sym (nothing_letters (letters_of w.flying))))))
        (books_one (cluster_of down) (WentDown own) tt)

  pub down_leads : (w new : World) (own : ℕ) (node : Node) (disk : List Record) (did : Reaction) (heard : Option Letter) (files : Option Content) (strikes : List (List ℕ × Id))
      → slot_at w.slots own ≡ Some (slot_up node disk) → (IsReady own (slot_up node disk) heard → IsCallDone (act_of own node disk did heard files strikes))
      → ((letter : Letter) → heard ≡ Some letter → Among letter (letters_of w.flying)) → ((user : List ℕ) (id : Id) → Among (user, id) strikes → Among (Struck user id) w.book)
      → ((content : Content) → files ≡ Some content → May content.id content.octets)
      → NodeGoesDown w own disk did.disk new → Leads confirm May (cluster_of w) (cluster_of new)
  down_leads w new own node disk did heard files strikes here done flown struck allowed g = subst (λ (x : World). Leads confirm May (cluster_of w) (cluster_of x)) (sym g.is)
      (cut_leads w own node disk did heard files strikes here done g.front g.pending g.cut flown struck allowed)

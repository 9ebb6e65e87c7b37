-- A node that did its work, or stopped in it, as a slot of the machine.
use Rattle.std.proofs.Common.{◌≡◌, inl, inr, ⊎_elim, ℕ, true, false, List, [], ◌∷◌, ◌++◌, length-append, append-nil, append_assoc, Option, Some, None, refl, sym, ap, ◌∙◌, subst, arith}
use Rattle.std.specs.Prelude.{IfSome, is_some, All}
use Rattle.std.proofs.lemmas.List.{get_or_append_left}
use Rattle.io_edge.specs.Moments.{Clock, Passed}
use Rattle.mail_model.specs.Record.{Record, IsJournal, payloads_of, payload_of}
use Rattle.mail_model.specs.Grammar.{IsRecord}
use Rattle.object_model.specs.Letters.{Letter}
use Rattle.cluster_model.specs.Cluster as plain
use Rattle.cluster_model.specs.Makes.{IsWorkCut}
use Rattle.disk_journal.specs.Journal.{EndsAt, TellsJournal}
use Rattle.disk_journal.specs.Images.{Extends, Adds, AddsAll}
use Rattle.node_store.specs.Disks.{View}
use Rattle.node_store.specs.Appends.{IsEither}
use Rattle.node_core.specs.Nodes.{node_seen, NodeKeeps, end_in}
use Rattle.node_core.specs.Works.{Rule, NodeDid, NodeStopped}
use Rattle.node_core.specs.Starting.{MayHold}
use Rattle.node_core.specs.declared.node.Node.{Node}
use Rattle.whole_node.specs.declared.node.WholeNode.{WholeNode}
use Rattle.cluster_world.specs.Stands.{StandsUp, SlotStands}
use Rattle.cluster_world.specs.Moments.{IsStopOf}
use Rattle.cluster_world.specs.Works.{SlotTurned, SlotCut}
use Rattle.cluster_world.specs.declared.life.Life.TheVariants.{Up, Down}

-- both hold where it is told
pub if_both : (o : Option (List ℕ)) (P Q R : Type 0) → (P → Q → R) → IfSome o (λ _. P) → IfSome o (λ _. Q) → IfSome o (λ _. R)
if_both None P Q R f p q = tt
if_both (Some c) P Q R f p q = f p q

-- and where the other is
pub if_told : (a b : Option (List ℕ)) (P : Type 0) → is_some b ≡ is_some a → IfSome a (λ _. P) → IfSome b (λ _. P)
if_told a None P e h = tt
if_told None (Some c) P e h = absurd (let never : true ≡ false = e in cc)
if_told (Some d) (Some c) P e h = h

pub payloads_more : (xs ys : List Record) → payloads_of (xs ++ ys) ≡ payloads_of xs ++ payloads_of ys
payloads_more [] ys = refl
payloads_more (x ∷ xs) ys = ap (λ (zs : List (List ℕ)). payload_of x ∷ zs) (payloads_more xs ys)

-- the first payloads are those of the first records
pub record Front (records : List Record) (part : List (List ℕ)) : Type 0 where
  pub front : List Record
  pub rest : List Record
  pub split : front ++ rest ≡ records
  pub is : payloads_of front ≡ part

same_head : {A : Type 0} (x y : A) (xs ys : List A) → ◌≡◌ {A = List A} (x ∷ xs) (y ∷ ys) → x ≡ y
same_head x y xs ys e = cc

same_tail : {A : Type 0} (x y : A) (xs ys : List A) → ◌≡◌ {A = List A} (x ∷ xs) (y ∷ ys) → xs ≡ ys
same_tail x y xs ys e = cc

pub front_of : (records : List Record) (part rest : List (List ℕ)) → part ++ rest ≡ payloads_of records → Front records part
front_of records [] rest e = record { front = []; rest = records; split = refl; is = refl }
front_of [] (p ∷ part) rest e = absurd (let never : ◌≡◌ {A = List (List ℕ)} (p ∷ part ++ rest) [] = e in cc)
front_of (r ∷ records) (p ∷ part) rest e =
    let f = front_of records part rest (same_tail p (payload_of r) (part ++ rest) (payloads_of records) e) in
    record {
      front = r ∷ f.front;
      rest = f.rest;
      split = ap (λ (xs : List Record). r ∷ xs) f.split;
      is = ap (λ x. x ∷ payloads_of f.front) (sym (same_head p (payload_of r) (part ++ rest) (payloads_of records) e)) ∙ ap (λ (xs : List (List ℕ)). p ∷ xs) f.is;
    }

module _ {D : Type 0} (clock : Clock D) (before after : D) where
  pub passed : (P Q : List ℕ → Type 0) → ((c : List ℕ) → P c → Q c) → Passed clock before after P → Passed clock before after Q
  passed P Q f h = record {
    later = h.later;
    since = λ t c le was. ⊎_elim (λ old. inl old) (λ p. inr (f c p)) (h.since t c le was);
    now = λ c image. f c (h.now c image);
  }

module _ {D : Type 0} (on : View D) (own : ℕ) (old : Node) (before after : D) (slot : plain.Slot) (seen : plain.Node) (st : StandsUp on own old before seen slot.disk) where
  -- what was appended is what a stop may leave
  stop_is : (added : List Record) → ((c : List ℕ) → on.clock.is_image before c → EndsAt own c (payloads_of slot.disk) (end_in old))
      → (c : List ℕ) → Extends on.clock before (end_in old) (payloads_of added) c → IsStopOf own slot added c
  stop_is added images c e =
      let f = front_of added e.part e.rest e.split in
      record {
        kept = [];
        pending_is = inl refl;
        front = f.front;
        rest = f.rest;
        split = f.split;
        is = subst (λ xs. IsJournal own c xs) (sym (payloads_more (slot.disk ++ []) f.front ∙ ap (λ xs. payloads_of xs ++ payloads_of f.front) (append-nil slot.disk) ∙ ap (λ xs. payloads_of slot.disk ++ xs) f.is))
            (e.is own (payloads_of slot.disk) (images e.base e.was));
      }

  pub stops_are : (added : List Record) → IfSome (on.seen before) (λ _. Adds on.clock before after (end_in old) (payloads_of added))
      → IfSome (on.seen before) (λ _. Passed on.clock before after (IsStopOf own slot added))
  stops_are added adds = if_both (on.seen before) _ _ _ (λ images moments. passed on.clock before after _ _ (stop_is added images) moments) st.images adds

module _ {D : Type 0} (on : View D) (own : ℕ) (rule : Rule) (old : WholeNode) (before after : D) (slot : plain.Slot) where
  abbrev whole : List Record
  whole = (rule (node_seen old.mail) slot.disk).disk

  abbrev Later : ℕ → List Record → Type 0
  Later end records = (c : List ℕ) → on.clock.is_image after c → EndsAt own c (payloads_of records) end

  -- each image has what was appended too
  images_after : (added : List Record) (end : ℕ) → ((c : List ℕ) → on.clock.is_image before c → EndsAt own c (payloads_of slot.disk) (end_in old.mail))
      → AddsAll on.clock before after (end_in old.mail) end (payloads_of added) → Later end (slot.disk ++ added)
  images_after added end images all c image =
      let e = all c image in
      subst (λ xs. EndsAt own c xs end) (sym (payloads_more slot.disk added)) (e.is own (payloads_of slot.disk) (images e.base e.was))

  -- the node did its work, and is up
  pub did_turned : (new : WholeNode) (sent : List Letter) → NodeDid on rule old.mail before new.mail after sent → SlotStands on own (Up old) before slot
      → SlotTurned on own rule (Up old) before (Up new) after sent slot
  did_turned new sent did (seen, is, st) =
      let grew : whole ≡ slot.disk ++ did.added = did.disk slot.disk st.keeps in
      record {
        node = node_seen old.mail;
        was = ap (λ l. record { life = l; disk = slot.disk }) (is ∙ ap plain.Life.Up (sym st.seen_is));
        stands = (
          (rule (node_seen old.mail) slot.disk).node,
          refl,
          record {
            seen_is = sym (did.node slot.disk st.keeps);
            keeps = subst (λ xs. NodeKeeps xs new.mail) (sym grew) (did.keeps slot.disk st.keeps);
            tells = subst (λ xs. TellsJournal (on.seen after) own (payloads_of xs) (end_in new.mail)) (sym grew) (did.appends.stand own slot.disk st.tells);
            images = subst (λ xs. IfSome (on.seen after) (λ _. Later (end_in new.mail) xs)) (sym grew)
                (if_told (on.seen before) (on.seen after) _ did.appends.told (if_both (on.seen before) _ _ _ (images_after did.added (end_in new.mail)) st.images did.appends.images));
          },
        );
        out = did.out slot.disk st.keeps;
        keeps = record {
          kept = [];
          pending_is = inl refl;
          added = did.added;
          grew = append-nil whole ∙ grew ∙ ap (λ xs. xs ++ did.added) (sym (append-nil slot.disk));
          stops = stops_are on own old.mail before after slot seen st did.added did.appends.moments;
        };
      }

  -- all of some records are all of the first of them
  first_fit : (xs ys : List Record) → All IsRecord (xs ++ ys) → All IsRecord xs
  first_fit xs ys h = λ k d within. subst IsRecord (get_or_append_left xs ys d k within) (h k d (omega (arith, within, length-append xs ys)))

  -- each image has what was written, or what is pending too
  images_cut : (front pending : List Record) → ((c : List ℕ) → on.clock.is_image before c → EndsAt own c (payloads_of slot.disk) (end_in old.mail))
      → ((c : List ℕ) → on.clock.is_image after c → IsEither on.clock before (end_in old.mail) front pending c) → All IsRecord ((slot.disk ++ front) ++ pending)
      → MayHold on after own (slot.disk ++ front) pending
  images_cut front pending images all fit = record {
    images = λ c image. let e = all c image in e.is own slot.disk (images e.base e.was);
    fit = fit;
  }

  -- it stopped in its work, and is down
  pub cut_down : NodeStopped on rule old.mail before after → SlotStands on own (Up old) before slot → SlotCut on own rule (Up old) before Down after slot
  cut_down stopped (seen, is, st) =
      let cut : IsWorkCut slot.disk whole stopped.front stopped.pending = stopped.cut slot.disk st.keeps in
      let stops = stopped.stops in
      record {
        node = node_seen old.mail;
        was = ap (λ l. record { life = l; disk = slot.disk }) (is ∙ ap plain.Life.Up (sym st.seen_is));
        front = stopped.front;
        pending = stopped.pending;
        one = stops.one;
        cut = cut;
        stands = (
          stopped.pending,
          refl,
          fit cut (stopped.fit slot.disk st.keeps),
          if_told (on.seen before) (on.seen after) _ stops.told
              (if_both (on.seen before) _ _ _ (λ images all. images_cut stopped.front stopped.pending images all (fit cut (stopped.fit slot.disk st.keeps))) st.images stops.images),
        );
        keeps = record {
          kept = [];
          pending_is = inl refl;
          added = stopped.front ++ stopped.pending;
          grew = append_assoc slot.disk stopped.front stopped.pending ∙ ap (λ xs. xs ++ (stopped.front ++ stopped.pending)) (sym (append-nil slot.disk));
          stops = stops_are on own old.mail before after slot seen st (stopped.front ++ stopped.pending) stops.moments;
        };
      }
    where
      fit : IsWorkCut slot.disk whole stopped.front stopped.pending → All IsRecord whole → All IsRecord ((slot.disk ++ stopped.front) ++ stopped.pending)
      fit c h =
          first_fit ((slot.disk ++ stopped.front) ++ stopped.pending) c.missing
          (subst (λ xs. All IsRecord xs) (c.is ∙ sym (append_assoc slot.disk (stopped.front ++ stopped.pending) c.missing)
          ∙ ap (λ xs. xs ++ c.missing) (sym (append_assoc slot.disk stopped.front stopped.pending))) h)

-- What a node does otherwise, how it falls and starts, and that an opening is sound.
use Rattle.std.proofs.Common.{◌≡◌, ◌⊎◌, inl, inr, ⊎_elim, ◌<◌, ◌≤◌, ℕ, zero, suc, true, List, [], ◌∷◌, Option, Some, None, refl, sym, subst, arith, le_trans}
use Rattle.std.specs.FinMap as map
use Rattle.std.specs.Prelude.{slice_get}
use Rattle.std.specs.Ordering.{nat_cmp}
use Rattle.mail_model.specs.Record.{Record}
use Rattle.object_model.specs.Lists.{Among}
use Rattle.object_model.specs.Letters.{Number, Body, Letter}
use Rattle.object_model.specs.Letters.Body.{LoginAsk, LoginTold, ListAsk, ListTold, FetchAsk, FetchTold}
use Rattle.cluster_model.specs.Claims.{boot_of}
use Rattle.login_model.specs.Readings.{ReadTicket, Reads}
use Rattle.login_model.specs.Cluster.{Node, Life, Slot, slot_at, slot_up}
use Rattle.login_model.specs.Cluster.Life.{Up, Down, Lost}
use Rattle.login_model.specs.Facts.{subject_asked, is_told, AnswerAwaited, AsksFor, TellsFor, Covers, DrawnIn, IsDrawn}
use Rattle.login_model.specs.Moves.{NodeInOrder, IsReady, IsAct, IsCallDone}
use Rattle.login_model.specs.Parts.{Sound}
use Rattle.login_model.specs.NodeLaws.{IsOtherLetter}
use Rattle.login_model.proofs.Hears.{none_some}
use Rattle.login_model.proofs.Reacts.{same_up, is_act}
use Rattle.login_model.proofs.Reacts.TicketFrom.{Stays}

-- a letter of another kind asks nothing and tells nothing
asks_nothing : (body : Body) (what : AnswerAwaited) → subject_asked body ≡ None → AsksFor body what → ⊥
asks_nothing (LoginAsk user proof) what e a = cc e
asks_nothing (ListAsk user) what e a = cc e
asks_nothing (FetchAsk user id at most) what e a = cc e
asks_nothing body AnswerAwaited.ForWord e a = a
asks_nothing body AnswerAwaited.ForList e a = a
asks_nothing body AnswerAwaited.ForPart e a = a

tells_nothing : (body : Body) (what : AnswerAwaited) → (is_told body ≡ true → ⊥) → TellsFor body what → ⊥
tells_nothing (LoginTold word) what quiet a = quiet refl
tells_nothing (ListTold items) what quiet a = quiet refl
tells_nothing (FetchTold part) what quiet a = quiet refl
tells_nothing body AnswerAwaited.ForWord quiet a = a
tells_nothing body AnswerAwaited.ForList quiet a = a
tells_nothing body AnswerAwaited.ForPart quiet a = a

pub covers_nothing : (letter : Letter) → IsOtherLetter letter → (number : Number) (m : ℕ) (what : AnswerAwaited) → Covers letter number m what → ⊥
covers_nothing letter other number m what c = ⊎_elim
    (λ (from, to, a). asks_nothing letter.body what other.0 a)
    (λ (to, from, t). tells_nothing letter.body what other.1 t)
    c.1

pub other_acts : (own : ℕ) (node new : Node) (disk after : List Record) (heard : Option Letter) (out : List Letter) → new.boot ≡ node.boot → node.calls ≤ new.calls → new.reads ≡ node.reads
    → boot_of after ≡ boot_of disk → ((letter : Letter) → heard ≡ Some letter → IsOtherLetter letter) → ((letter : Letter) → Among letter out → IsOtherLetter letter)
    → IsReady own (slot_up node disk) heard → IsCallDone (record { node = own; before = slot_up node disk; after = slot_up new after; heard = heard; out = out })
other_acts own node new disk after heard out boot calls reads boots of_heard of_out ready = is_act own node new disk after heard out ready boot calls boots
    (λ seq ticket h. Stays (subst (λ (r : Reads). map.get r seq ≡ Some ticket) reads h))
    (λ letter m subject e n t. absurd (none_some (subject_asked letter.body) subject (of_out letter m).0 e))
    (λ letter m told. absurd ((of_out letter m).1 told))
    (λ letter e number m what c. absurd (covers_nothing letter (of_heard letter e) number m what c))

not_up_down : (node : Node) → Down ≡ Up node → ⊥
not_up_down node e = cc

not_up_lost : (node : Node) → Lost ≡ Up node → ⊥
not_up_lost node e = cc

module _ (n : ℕ) (before : Slot) (life : Life) (after : List Record) (heard : Option Letter) (rises : boot_of before.disk ≤ boot_of after) (ready : IsReady n before heard) where
  -- a number that was drawn is of a boot that is on the disk
  drawn_down : (number : Number) → DrawnIn before.life before.disk number → number.boot ≤ boot_of after
  drawn_down number d = by before.life refl d
    where
      by : (l : Life) → before.life ≡ l → DrawnIn l before.disk number → number.boot ≤ boot_of after
      by (Up node) e (inl below) = omega (arith, below, (ready.order.each node e).booted, rises)
      by (Up node) e (inr (same, le)) = omega (arith, same, (ready.order.each node e).booted, rises)
      by Down e le = le_trans le rises
      by Lost e le = le_trans le rises

  fallen : ((node : Node) → life ≡ Up node → ⊥) → ((number : Number) → number.boot ≤ boot_of after → DrawnIn life after number) → IsAct (record { node = n; before = before; after = record { life = life; disk = after }; heard = heard; out = [] })
  fallen not drawn = record {
    order = record { each = λ node up. absurd (not node up) };
    drawn = λ number at d. drawn number (drawn_down number d);
    reads = λ number reading at r. absurd (not r.node r.up);
    asks = λ letter m. absurd m;
    tells = λ letter m. absurd m;
    waits = λ number at m what w. absurd (not w.reads.node w.reads.up);
  }

pub falls : (n : ℕ) (before : Slot) (life : Life) (after : List Record) (heard : Option Letter) → (life ≡ Down) ⊎ (life ≡ Lost) → boot_of before.disk ≤ boot_of after
    → IsReady n before heard → IsAct (record { node = n; before = before; after = record { life = life; disk = after }; heard = heard; out = [] })
falls n before life after heard how rises ready = ⊎_elim
    (λ down. subst (λ l. IsAct (record { node = n; before = before; after = record { life = l; disk = after }; heard = heard; out = [] })) (sym down)
    (fallen n before Down after heard rises ready not_up_down (λ number le. le)))
    (λ lost. subst (λ l. IsAct (record { node = n; before = before; after = record { life = l; disk = after }; heard = heard; out = [] })) (sym lost)
    (fallen n before Lost after heard rises ready not_up_lost (λ number le. le)))
    how

-- whoever has no tickets reads nothing
pub no_reads : (node : Node) → node.reads ≡ map.empty → (seq : ℕ) (ticket : ReadTicket) → map.get node.reads seq ≡ Some ticket → ⊥
no_reads node none seq ticket h = none_some (map.get (map.empty {R = nat_cmp}) seq) ticket (map.get-empty nat_cmp seq) (subst (λ (r : Reads). map.get r seq ≡ Some ticket) none h)

pub fresh_order : (node : Node) (disk : List Record) → node.boot ≡ boot_of disk → node.reads ≡ map.empty → NodeInOrder node (boot_of disk)
fresh_order node disk boot none = record { booted = boot; numbered = λ seq ticket h. absurd (no_reads node none seq ticket h); whole = λ seq ticket h. absurd (no_reads node none seq ticket h); counts = λ seq ticket h. absurd (no_reads node none seq ticket h) }

pub starts : (n : ℕ) (disk after : List Record) (node : Node) → node.boot ≡ boot_of after → boot_of disk < node.boot → node.reads ≡ map.empty
    → IsAct (record { node = n; before = record { life = Down; disk = disk }; after = slot_up node after; heard = None; out = [] })
starts n disk after node boot later none = record {
  order = record { each = λ other up. subst (λ (x : Node). NodeInOrder x (boot_of after)) (same_up node other up) (fresh_order node after boot none) };
  drawn = λ number at d. inl (omega (arith, d, later));
  reads = λ number reading at r. absurd (nothing r.node r.up number.seq r.ticket r.here);
  asks = λ letter m. absurd m;
  tells = λ letter m. absurd m;
  waits = λ number at m what w. absurd (nothing w.reads.node w.reads.up number.seq w.reads.ticket w.reads.here);
}
  where
    nothing : (other : Node) → Up node ≡ Up other → (seq : ℕ) (ticket : ReadTicket) → map.get other.reads seq ≡ Some ticket → ⊥
    nothing other up seq ticket h = no_reads node none seq ticket (subst (λ (x : Node). map.get x.reads seq ≡ Some ticket) (sym (same_up node other up)) h)

get_among : (slots : List Slot) (k : ℕ) (slot : Slot) → slice_get slots k ≡ Some slot → Among slot slots
get_among [] k slot e = absurd (cc e)
get_among (x ∷ slots) zero slot e = inl (first x slot e)
  where
    first : (a b : Slot) → Some a ≡ Some b → a ≡ b
    first a b p = cc
get_among (x ∷ slots) (suc k) slot e = inr (get_among slots k slot e)

at_among : (slots : List Slot) (n : ℕ) (slot : Slot) → slot_at slots n ≡ Some slot → Among slot slots
at_among slots zero slot e = absurd (cc e)
at_among slots (suc k) slot e = get_among slots k slot e

pub opens : (slots : List Slot) (flying : List Letter)
    → ((slot : Slot) → Among slot slots → (node : Node) → slot.life ≡ Up node → (node.boot ≡ boot_of slot.disk) × (node.reads ≡ map.empty))
    → ((letter : Letter) → Among letter flying → IsOtherLetter letter) → Sound (record { slots = slots; flying = flying; story = slots ∷ [] })
opens slots flying fresh others = record {
  order = record { each = λ n slot at. record { each = λ node up. let f = fresh slot (at_among slots n slot at) node up in fresh_order node slot.disk f.0 f.1 } };
  fit = record {
    asked_drawn = λ letter m subject e number t. absurd (none_some (subject_asked letter.body) subject (others letter m).0 e);
    told_drawn = λ letter m told. absurd ((others letter m).1 told);
    asked = λ letter m subject e number t. absurd (none_some (subject_asked letter.body) subject (others letter m).0 e);
  };
  knows = record {
    now = inl refl;
    past = λ moment m number d. ⊎_elim (λ is. subst (λ (x : List Slot). IsDrawn x number) (sym is) d) (λ none. absurd none) m;
    reads = λ number reading r. absurd (nothing r.slot number.node r.here r.reads.node r.reads.up number.seq r.reads.ticket r.reads.here);
    letters = λ letter m told. absurd ((others letter m).1 told);
  };
  waits = record { each = λ number m what w. absurd (nothing w.slot number.node w.here w.waits.reads.node w.waits.reads.up number.seq w.waits.reads.ticket w.waits.reads.here) };
}
  where
    nothing : (slot : Slot) (n : ℕ) → slot_at slots n ≡ Some slot → (node : Node) → slot.life ≡ Up node → (seq : ℕ) (ticket : ReadTicket) → map.get node.reads seq ≡ Some ticket → ⊥
    nothing slot n at node up seq ticket h = no_reads node (fresh slot (at_among slots n slot at) node up).1 seq ticket h

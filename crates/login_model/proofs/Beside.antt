-- A step in which no call that reads does anything keeps what is known of these calls.
use Rattle.std.proofs.Common.{◌≡◌, ◌⊎◌, inl, inr, ⊎_elim, ◌<◌, ◌≤◌, ℕ, true, List, ◌∷◌, Some, refl, sym, ap, ◌∙◌, subst, arith, le_trans}
use Rattle.std.specs.FinMap as map
use Rattle.object_model.specs.Lists.{Among}
use Rattle.object_model.specs.Letters.{Number, Letter}
use Rattle.object_model.proofs.Lists.{same_some}
use Rattle.cluster_model.specs.Claims.{boot_of}
use Rattle.login_model.specs.Readings.{Reading, ReadTicket, Reads, Subject}
use Rattle.login_model.specs.Cluster.{Node, Life, Slot, Cluster, slot_at, LifeReads, NodesRead}
use Rattle.login_model.specs.Cluster.Life.{Up, Down, Lost}
use Rattle.login_model.specs.Facts.{Fact, DrawnIn, DrawnAt, IsDrawn, WasTrue, subject_asked, is_told, AnswerAwaited, LifeWaits, NodesWait, Covered}
use Rattle.login_model.specs.Moves.{NodeInOrder, IsInOrder}
use Rattle.login_model.specs.Parts.{Sound}
use Rattle.login_model.specs.NodeLaws.{IsOtherLetter}
use Rattle.login_model.specs.Beside.{TurnsBeside, IsBeside}
use Rattle.login_model.specs.Beside.TurnsBeside.{Works, IsOff, Starts}
use Rattle.login_model.proofs.Reacts.{same_up}
use Rattle.login_model.proofs.Hears.{none_some}
use Rattle.login_model.proofs.Others.{covers_nothing, no_reads, fresh_order}

module _ (old new : Cluster) (b : IsBeside old new) (s : Sound old) where
  order_in : (n : ℕ) (slot : Slot) → slot_at new.slots n ≡ Some slot → IsInOrder slot
  order_in n slot at =
      let t = b.turns n slot at in
      by t.0 (s.order.each n t.0 t.1) t.2
    where
      by : (before : Slot) → IsInOrder before → TurnsBeside before slot → IsInOrder slot
      by before o (Works x y ex ey boot calls reads boots) =
          let was = o.each x ex in
          let here : NodeInOrder y (boot_of slot.disk) = record {
            booted = boot ∙ was.booted ∙ sym boots;
            numbered = λ seq ticket h. le_trans (was.numbered seq ticket (subst (λ (r : Reads). map.get r seq ≡ Some ticket) reads h)) calls;
            whole = λ seq ticket h. was.whole seq ticket (subst (λ (r : Reads). map.get r seq ≡ Some ticket) reads h);
            counts = λ seq ticket h. was.counts seq ticket (subst (λ (r : Reads). map.get r seq ≡ Some ticket) reads h);
          } in
          record { each = λ node up. subst (λ (k : Node). NodeInOrder k (boot_of slot.disk)) (same_up y node (sym ey ∙ up)) here }
      by before o (IsOff not rises) = record { each = λ node up. absurd (not node up) }
      by before o (Starts y was ey boot later none) = record { each = λ node up. subst (λ (k : Node). NodeInOrder k (boot_of slot.disk)) (same_up y node (sym ey ∙ up)) (fresh_order y slot.disk boot none) }

  -- a number that was drawn is drawn
  drawn_on : (number : Number) → IsDrawn old.slots number → IsDrawn new.slots number
  drawn_on number d =
      let there = b.stays number.node d.slot d.here in
      let t = b.turns number.node there.0 there.1 in
      let same : d.slot ≡ t.0 = same_some (slot_at old.slots number.node) d.slot t.0 d.here t.1 in
      record { slot = there.0; here = there.1; drawn = by t.0 there.0 (s.order.each number.node t.0 t.1) (subst (λ (x : Slot). DrawnAt x number) same d.drawn) t.2 }
    where
      -- a boot that was drawn in is on the disk
      on_disk : (slot : Slot) (life : Life) → slot.life ≡ life → IsInOrder slot → DrawnIn life slot.disk number → number.boot ≤ boot_of slot.disk
      on_disk slot (Up x) e o (inl below) = let is = (o.each x e).booted in omega (arith, below, is)
      on_disk slot (Up x) e o (inr (same, le)) = let is = (o.each x e).booted in omega (arith, same, is)
      on_disk slot Down e o le = le
      on_disk slot Lost e o le = le

      off : (slot : Slot) (life : Life) → slot.life ≡ life → ((node : Node) → life ≡ Up node → ⊥) → number.boot ≤ boot_of slot.disk → DrawnIn life slot.disk number
      off slot (Up x) e not le = absurd (not x refl)
      off slot Down e not le = le
      off slot Lost e not le = le

      by : (before after : Slot) → IsInOrder before → DrawnIn before.life before.disk number → TurnsBeside before after → DrawnIn after.life after.disk number
      by before after o d (Works x y ex ey boot calls reads boots) = subst (λ l. DrawnIn l after.disk number) (sym ey) (⊎_elim
          (λ below. inl (subst (λ k. number.boot < k) (sym boot) below))
          (λ (same, le). inr (same ∙ sym boot, le_trans le calls))
          (subst (λ l. DrawnIn l before.disk number) ex d))
      by before after o d (IsOff not rises) = off after after.life refl not (le_trans (on_disk before before.life refl o d) rises)
      by before after o d (Starts y was ey boot later none) = subst (λ l. DrawnIn l after.disk number) (sym ey) (inl (let le = on_disk before before.life refl o d in omega (arith, le, later)))

  -- whatever stands stood
  life_back : (before after : Slot) (number : Number) (reading : Reading) → TurnsBeside before after → LifeReads after.life number reading → LifeReads before.life number reading
  life_back before after number reading (Works x y ex ey boot calls reads boots) r =
      let same = same_up y r.node (sym ey ∙ r.up) in
      record {
        node = x;
        up = ex;
        boot = r.boot ∙ ap (λ (k : Node). k.boot) (sym same) ∙ boot;
        ticket = r.ticket;
        here = subst (λ (k : Reads). map.get k number.seq ≡ Some r.ticket) (ap (λ (k : Node). k.reads) (sym same) ∙ reads) r.here;
        is = r.is;
      }
  life_back before after number reading (IsOff not rises) r = absurd (not r.node r.up)
  life_back before after number reading (Starts y was ey boot later none) r =
      let same = same_up y r.node (sym ey ∙ r.up) in
      absurd (no_reads y none number.seq r.ticket (subst (λ (k : Node). map.get k.reads number.seq ≡ Some r.ticket) (sym same) r.here))

  reads_back : (number : Number) (reading : Reading) → NodesRead new.slots number reading → NodesRead old.slots number reading
  reads_back number reading r = let t = b.turns number.node r.slot r.here in record { slot = t.0; here = t.1; reads = life_back t.0 r.slot number reading t.2 r.reads }

  waits_back : (number : Number) (m : ℕ) (what : AnswerAwaited) → NodesWait new.slots number m what → NodesWait old.slots number m what
  waits_back number m what w =
      let t = b.turns number.node w.slot w.here in
      record { slot = t.0; here = t.1; waits = record { reading = w.waits.reading; reads = life_back t.0 w.slot number w.waits.reading t.2 w.waits.reads; waits = w.waits.waits } }

  in_story : (moment : List Slot) → Among moment old.story → Among moment new.story
  in_story moment m = subst (Among moment) (sym b.story) (inr m)

  was_on : (number : Number) (m : ℕ) (fact : Fact) → WasTrue old.story number m fact → WasTrue new.story number m fact
  was_on number m fact w = record { moment = w.moment; inside = in_story w.moment w.inside; since = w.since; slot = w.slot; here = w.here; shows = w.shows }

  -- letters that ask or tell flew
  asked_flew : (letter : Letter) → Among letter new.flying → (subject : Subject) → subject_asked letter.body ≡ Some subject → Among letter old.flying
  asked_flew letter m subject e = ⊎_elim (λ other. absurd (none_some (subject_asked letter.body) subject other.0 e)) (λ flew. flew) (b.came letter m)

  told_flew : (letter : Letter) → Among letter new.flying → is_told letter.body ≡ true → Among letter old.flying
  told_flew letter m told = ⊎_elim (λ other. absurd (other.1 told)) (λ flew. flew) (b.came letter m)

  pub beside_sound : Sound new
  beside_sound = record {
    order = record { each = order_in };
    fit = record {
      asked_drawn = λ letter m subject e number t. drawn_on number (s.fit.asked_drawn letter (asked_flew letter m subject e) subject e number t);
      told_drawn = λ letter m told number t. drawn_on number (s.fit.told_drawn letter (told_flew letter m told) told number t);
      asked = λ letter m subject e number t reading r. s.fit.asked letter (asked_flew letter m subject e) subject e number t reading (reads_back number reading r);
    };
    knows = record {
      now = subst (Among new.slots) (sym b.story) (inl refl);
      past = λ moment m number d. ⊎_elim
          (λ is. subst (λ (x : List Slot). IsDrawn x number) (sym is) d)
          (λ more. drawn_on number (s.knows.past moment more number d))
          (subst (Among moment) b.story m);
      reads = λ number reading r m fact c. was_on number m fact (s.knows.reads number reading (reads_back number reading r) m fact c);
      letters = λ letter m told number t reading r fact e.
          was_on number letter.from fact (s.knows.letters letter (told_flew letter m told) told number t reading (reads_back number reading r) fact e);
    };
    waits = record {
      each = λ number m what w. let c = s.waits.each number m what (waits_back number m what w) in ⊎_elim
          (λ other. absurd (covers_nothing c.letter other number m what c.covers))
          (λ flies. record { letter = c.letter; inside = flies; covers = c.covers })
          (b.kept c.letter c.inside);
    };
  }

-- An act keeps each part of the invariant.
use Rattle.std.proofs.Common.{◌≡◌, ◌⊎◌, inl, inr, ⊎_elim, ℕ, true, List, ◌∷◌, ◌++◌, Some, refl, sym, ap, ◌∙◌, subst}
use Rattle.std.specs.FinMap as map
use Rattle.object_model.specs.Lists.{Among}
use Rattle.object_model.specs.Letters.{Number, Body, Letter}
use Rattle.object_model.specs.Letters.Body.{LoginTold, ListTold, FetchTold}
use Rattle.object_model.proofs.Lists.{among_front, among_behind, among_either, same_some}
use Rattle.login_model.specs.Readings.{Reading, ReadTicket, Subject, subject_of}
use Rattle.login_model.specs.Cluster.{Node, Life, Slot, slot_at, with_slot, LifeReads, NodesRead}
use Rattle.login_model.specs.Cluster.Life.{Up}
use Rattle.login_model.specs.Facts.{Fact, SlotShows, DrawnIn, DrawnAt, IsDrawn, WasTrue, subject_asked, is_told, fact_told, ReadingClaims, AnswerAwaited, LifeWaits, Covered}
use Rattle.login_model.specs.Moves.{NodeAct, IsInOrder, ReadFrom, IsAct}
use Rattle.login_model.specs.Moves.ReadFrom.{Moved, Begun}
use Rattle.login_model.specs.Parts.{AllInOrder, LettersFit, Knows, WaitsForLetters}
use Rattle.login_model.proofs.Slots.{at_same, read_after, read_before}

-- only what tells has something to tell
pub tells_it : (body : Body) (subject : Subject) (fact : Fact) → fact_told body subject ≡ Some fact → is_told body ≡ true
tells_it (LoginTold word) subject fact e = refl
tells_it (ListTold items) subject fact e = refl
tells_it (FetchTold part) subject fact e = refl
tells_it body subject fact e = absurd (cc e)

same_node : (a b : Node) → ◌≡◌ {A = Life} (Up a) (Up b) → a ≡ b
same_node a b e = cc

-- one number has one reading
pub one_reading : (life : Life) (number : Number) (a b : Reading) → LifeReads life number a → LifeReads life number b → a ≡ b
one_reading life number a b x y =
    let nodes = same_node x.node y.node (sym x.up ∙ y.up) in
    let tickets = same_some (map.get y.node.reads number.seq) x.ticket y.ticket (subst (λ (n : Node). map.get n.reads number.seq ≡ Some x.ticket) nodes x.here) y.here in
    sym x.is ∙ ap (λ (t : ReadTicket). t.reading) tickets ∙ y.is

-- a ticket has a number that was drawn
pub reads_drawn : (slots : List Slot) → AllInOrder slots → (number : Number) (reading : Reading) → NodesRead slots number reading → IsDrawn slots number
reads_drawn slots p number reading r =
    let o = (p.each number.node r.slot r.here).each r.reads.node r.reads.up in
    record { slot = r.slot; here = r.here; drawn = subst (λ l. DrawnIn l r.slot.disk number) (sym r.reads.up) (inr (r.reads.boot, o.numbered number.seq r.reads.ticket r.reads.here)) }

-- what was true at a moment stays so
pub longer : (story : List (List Slot)) (slots : List Slot) (number : Number) (m : ℕ) (fact : Fact) → WasTrue story number m fact → WasTrue (slots ∷ story) number m fact
longer story slots number m fact w = record { moment = w.moment; inside = inr w.inside; since = w.since; slot = w.slot; here = w.here; shows = w.shows }

module _ (slots : List Slot) (flying : List Letter) (story : List (List Slot)) (act : NodeAct) (here : slot_at slots act.node ≡ Some act.before) (is : IsAct act)
    (flew : (letter : Letter) → act.heard ≡ Some letter → Among letter flying × (letter.to ≡ act.node)) where
  abbrev after : List Slot
  after = with_slot slots act.node act.after

  pub order_acted : AllInOrder slots → AllInOrder after
  order_acted p = record {
    each = λ n slot at. ⊎_elim
        (λ (same, e). subst IsInOrder (sym e) is.order)
        (λ old. p.each n slot old)
        (read_after slots act.node n act.before act.after slot here at);
  }

  drawn_after : (number : Number) → IsDrawn slots number → IsDrawn after number
  drawn_after number d = ⊎_elim
      (λ (same, e, at). record { slot = act.after; here = at; drawn = is.drawn number same (subst (λ s. DrawnAt s number) e d.drawn) })
      (λ old. record { slot = d.slot; here = old; drawn = d.drawn })
      (read_before slots act.node number.node act.before act.after d.slot here d.here)

  -- a reading that stands now is of this node, or stood
  came : (number : Number) (reading : Reading) → NodesRead after number reading → ((number.node ≡ act.node) × LifeReads act.after.life number reading) ⊎ NodesRead slots number reading
  came number reading r = ⊎_elim
      (λ (same, e). inl (same, subst (λ (s : Slot). LifeReads s.life number reading) e r.reads))
      (λ old. inr (record { slot = r.slot; here = old; reads = r.reads }))
      (read_after slots act.node number.node act.before act.after r.slot here r.here)

  own_now : (number : Number) → number.node ≡ act.node → slot_at after number.node ≡ Some act.after
  own_now number same = subst (λ n. slot_at after n ≡ Some act.after) (sym same) (at_same slots act.node act.before act.after here)

  own_reads : (number : Number) (reading : Reading) → number.node ≡ act.node → NodesRead after number reading → LifeReads act.after.life number reading
  own_reads number reading same r = subst (λ (s : Slot). LifeReads s.life number reading) (same_some (slot_at after number.node) r.slot act.after r.here (own_now number same)) r.reads

  stood : (number : Number) (reading : Reading) → number.node ≡ act.node → LifeReads act.before.life number reading → NodesRead slots number reading
  stood number reading same r = record { slot = act.before; here = subst (λ n. slot_at slots n ≡ Some act.before) (sym same) here; reads = r }

  undrawn : (number : Number) → number.node ≡ act.node → (DrawnAt act.before number → ⊥) → IsDrawn slots number → ⊥
  undrawn number same not d = not (subst (λ s. DrawnAt s number)
      (same_some (slot_at slots act.node) d.slot act.before (subst (λ n. slot_at slots n ≡ Some d.slot) same d.here) here) d.drawn)

  now_true : (number : Number) (fact : Fact) → IsDrawn after number → SlotShows act.after fact → WasTrue (after ∷ story) number act.node fact
  now_true number fact drawn shows = record { moment = after; inside = inl refl; since = drawn; slot = act.after; here = at_same slots act.node act.before act.after here; shows = shows }

  pub fit_acted : AllInOrder slots → LettersFit slots flying → LettersFit after (flying ++ act.out)
  fit_acted o p = record {
    asked_drawn = λ letter m subject e number t. ⊎_elim
        (λ old. drawn_after number (p.asked_drawn letter old subject e number t))
        (λ new. let a = is.asks letter new subject e number t in
        reads_drawn after (order_acted o) number a.reading (record { slot = act.after; here = own_now number a.own; reads = a.reads }))
        (among_either letter flying act.out m);
    told_drawn = λ letter m told number t. ⊎_elim
        (λ old. drawn_after number (p.told_drawn letter old told number t))
        (λ new. let a = is.tells letter new told in
        drawn_after number (p.asked_drawn a.heard.letter (flew a.heard.letter a.heard.is).0 a.subject a.heard.holds.1 number (a.heard.holds.0 ∙ t)))
        (among_either letter flying act.out m);
    asked = λ letter m subject e number t reading r. ⊎_elim
        (λ old. by letter old subject e number t reading (came number reading r))
        (λ new. let a = is.asks letter new subject e number t in
        a.same ∙ ap subject_of (one_reading act.after.life number a.reading reading a.reads (own_reads number reading a.own r)))
        (among_either letter flying act.out m);
  }
    where
      moved : (letter : Letter) → Among letter flying → (subject : Subject) → subject_asked letter.body ≡ Some subject → (number : Number) → letter.ticket ≡ Some number → number.node ≡ act.node → (reading : Reading)
          → ReadFrom act number reading → subject ≡ subject_of reading
      moved letter old subject e number t same reading (Moved was stands subj claims) = p.asked letter old subject e number t was (stood number was same stands) ∙ subj
      moved letter old subject e number t same reading (Begun not claims) = absurd (undrawn number same not (p.asked_drawn letter old subject e number t))

      by : (letter : Letter) → Among letter flying → (subject : Subject) → subject_asked letter.body ≡ Some subject → (number : Number) → letter.ticket ≡ Some number → (reading : Reading)
          → ((number.node ≡ act.node) × LifeReads act.after.life number reading) ⊎ NodesRead slots number reading → subject ≡ subject_of reading
      by letter old subject e number t reading (inl (same, l)) = moved letter old subject e number t same reading (is.reads number reading same l)
      by letter old subject e number t reading (inr stands) = p.asked letter old subject e number t reading stands

  -- what a letter asked for is what the ticket reads now
  still_asked : LettersFit slots flying → (letter : Letter) → Among letter flying → (subject : Subject) → subject_asked letter.body ≡ Some subject → (number : Number) → letter.ticket ≡ Some number
      → (reading : Reading) → NodesRead after number reading → subject ≡ subject_of reading
  still_asked p letter old subject e number t reading r = ⊎_elim
      (λ (same, l). by number same reading (is.reads number reading same l) t)
      (λ stands. p.asked letter old subject e number t reading stands)
      (came number reading r)
    where
      by : (number : Number) → number.node ≡ act.node → (reading : Reading) → ReadFrom act number reading → letter.ticket ≡ Some number → subject ≡ subject_of reading
      by number same reading (Moved was stands subj claims) t = p.asked letter old subject e number t was (stood number was same stands) ∙ subj
      by number same reading (Begun not claims) t = absurd (undrawn number same not (p.asked_drawn letter old subject e number t))

  pub knows_acted : AllInOrder slots → LettersFit slots flying → Knows slots flying story → Knows after (flying ++ act.out) (after ∷ story)
  knows_acted o f p = record {
    now = inl refl;
    past = λ moment m number d. ⊎_elim
        (λ is. subst (λ (x : List Slot). IsDrawn x number) (sym is) d)
        (λ old. drawn_after number (p.past moment old number d))
        m;
    reads = λ number reading r m fact c. ⊎_elim
        (λ (same, l). by number same reading (reads_drawn after (order_acted o) number reading r) (is.reads number reading same l) m fact (subst (λ n. ReadingClaims n reading m fact) same c))
        (λ stands. longer story after number m fact (p.reads number reading stands m fact c))
        (came number reading r);
    letters = λ letter m told number t reading r fact e. ⊎_elim
        (λ old. ⊎_elim
        (λ (same, l). moved letter old told number t same reading (is.reads number reading same l) fact e)
        (λ stands. longer story after number letter.from fact (p.letters letter old told number t reading stands fact e))
        (came number reading r))
        (λ new. let a = is.tells letter new told in
        let inside = (flew a.heard.letter a.heard.is).0 in
        let subject = still_asked f a.heard.letter inside a.subject a.heard.holds.1 number (a.heard.holds.0 ∙ t) reading r in
        subst (λ n. WasTrue (after ∷ story) number n fact) (sym a.from)
        (now_true number fact (drawn_after number (f.asked_drawn a.heard.letter inside a.subject a.heard.holds.1 number (a.heard.holds.0 ∙ t)))
        (a.true_ fact (subst (λ s. fact_told letter.body s ≡ Some fact) (sym subject) e))))
        (among_either letter flying act.out m);
  }
    where
      by : (number : Number) → number.node ≡ act.node → (reading : Reading) → IsDrawn after number → ReadFrom act number reading → (m : ℕ) (fact : Fact) → ReadingClaims act.node reading m fact
          → WasTrue (after ∷ story) number m fact
      by number same reading drawn (Moved was stands subj claims) m fact c = ⊎_elim
          (λ old. longer story after number m fact (p.reads number was (stood number was same stands) m fact (subst (λ n. ReadingClaims n was m fact) (sym same) old)))
          (λ new. ⊎_elim
          (λ (mine, shows). subst (λ n. WasTrue (after ∷ story) number n fact) (sym mine) (now_true number fact drawn shows))
          (λ h. let e = h.holds.2 in
          subst (λ n. WasTrue (after ∷ story) number n fact) h.holds.0 (longer story after number h.letter.from fact
          (p.letters h.letter (flew h.letter h.is).0 (tells_it h.letter.body (subject_of reading) fact e) number h.holds.1 was (stood number was same stands) fact
          (subst (λ s. fact_told h.letter.body s ≡ Some fact) (sym subj) e))))
          new)
          (claims m fact c)
      by number same reading drawn (Begun not claims) m fact c =
          let r = claims m fact c in subst (λ n. WasTrue (after ∷ story) number n fact) (sym r.0) (now_true number fact drawn r.1)

      moved : (letter : Letter) → Among letter flying → is_told letter.body ≡ true → (number : Number) → letter.ticket ≡ Some number → number.node ≡ act.node → (reading : Reading)
          → ReadFrom act number reading → (fact : Fact) → fact_told letter.body (subject_of reading) ≡ Some fact → WasTrue (after ∷ story) number letter.from fact
      moved letter old told number t same reading (Moved was stands subj claims) fact e = longer story after number letter.from fact
          (p.letters letter old told number t was (stood number was same stands) fact (subst (λ s. fact_told letter.body s ≡ Some fact) (sym subj) e))
      moved letter old told number t same reading (Begun not claims) fact e = absurd (undrawn number same not (f.told_drawn letter old told number t))

  pub waits_acted : WaitsForLetters slots flying → WaitsForLetters after (flying ++ act.out)
  waits_acted p = record {
    each = λ number m what w. ⊎_elim
        (λ (same, e). ⊎_elim
        (λ old. front number m what (p.each number m what (record { slot = act.before; here = subst (λ n. slot_at slots n ≡ Some act.before) (sym same) here; waits = old })))
        (λ new. record { letter = new.letter; inside = among_behind new.letter flying act.out new.inside; covers = new.covers })
        (is.waits number same m what (subst (λ (s : Slot). LifeWaits s.life number m what) e w.waits)))
        (λ old. front number m what (p.each number m what (record { slot = w.slot; here = old; waits = w.waits })))
        (read_after slots act.node number.node act.before act.after w.slot here w.here);
  }
    where
      front : (number : Number) (m : ℕ) (what : AnswerAwaited) → Covered flying number m what → Covered (flying ++ act.out) number m what
      front number m what c = record { letter = c.letter; inside = among_front c.letter flying act.out c.inside; covers = c.covers }

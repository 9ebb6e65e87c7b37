-- A call that reads begins, and a ticket has a mishap or ends: these are acts.
use Rattle.std.proofs.Common.{◌≡◌, ◌⊎◌, inl, inr, ⊎_elim, ◌≤◌, ◌<◌, ℕ, ◌+◌, ◌-◌, ◌^◌, Bool, true, false, true≢false, nat_lt, List, [], ◌∷◌, Option, Some, None, refl, sym, ap, ◌∙◌, subst, arith, if◌then◌else◌, nat_eq, le_refl}
use Rattle.std.specs.FinMap as map
use Rattle.std.specs.Cmp.{nat_cmp_total}
use Rattle.std.proofs.lemmas.Bool.{eqb-true, ltb-false}
use Rattle.std.proofs.lemmas.Map.Lookups.{exact_unsigned}
use Rattle.mail_model.specs.Identity.{Id}
use Rattle.mail_model.specs.Plan.{Plan, Proof, proves}
use Rattle.mail_model.specs.Record.{Record}
use Rattle.object_model.specs.Sets.{has, without_node}
use Rattle.cluster_model.specs.Rules.{receivers}
use Rattle.object_model.specs.Lists.{Among}
use Rattle.object_model.specs.Mishaps.{MishapKind, Mishaps, no_mishaps, one_more, counted, mishaps_of}
use Rattle.object_model.specs.Mishaps.MishapKind.{FewMembers, Year, Dropped, Stale, Down, Disk, Crowded}
use Rattle.object_model.specs.Letters.{Number, LoginWord, ToldItem, ToldPart, Letter}
use Rattle.object_model.specs.Letters.LoginWord.{Named, Wrong, InUse, NoProfile}
use Rattle.object_model.specs.Letters.Body.{LoginAsk, Unlock}
use Rattle.object_model.proofs.MapLaws.{found, written, left_found}
use Rattle.login_model.specs.Readings.{LoginStage, Login, FetchStage, Fetch, Reading, ReadTicket, Subject, subject_of}
use Rattle.login_model.specs.Readings.LoginStage.{AsksManager, IsDenied, AsksNodes, HasFailed}
use Rattle.login_model.specs.Readings.FetchStage.{AsksHolder, IsAnswered, NobodyLeft}
use Rattle.login_model.specs.Readings.Reading.{LogsIn, Fetches}
use Rattle.login_model.specs.Readings.Subject.{OfUser}
use Rattle.login_model.specs.Cluster.{Node, Life, slot_up}
use Rattle.login_model.specs.Cluster.Life.{Up}
use Rattle.login_model.specs.Rules.{ReadDid, same, Under, ask, judge, IsWordOf, first_stamp, take_word, ask_first, ask_next, fail, unlock, login_befell, fetch_befell, befell, befell_at, mishap, begin_login, begin_fetch, begin_read, end_read, give_up, given_up, give_up_read, leave, read_at, under, next_number, with_reading}
use Rattle.login_model.specs.Facts.{Fact, SlotShows, IsToldList, IsToldPart, subject_asked, is_told, has_failed, AnswerAwaited, ReadingWaits, Covers, Covered, LifeWaits}
use Rattle.login_model.specs.Facts.Fact.{Manages, Names, Lists}
use Rattle.login_model.specs.Facts.AnswerAwaited.{ForWord, ForList, ForPart}
use Rattle.login_model.specs.Moves.{AsksOwn, IsReady, IsCallDone}
use Rattle.login_model.specs.NodeLaws.{act_of, HasHolder}
use Rattle.cluster_model.proofs.BeginDeliver.{receiver_among}
use Rattle.login_model.proofs.Steps.{few, SentFor, ReadStep, ReadStart, same_step, named_claims, named_whole, named_waits, named_sent, holder_step, fail_step}
use Rattle.login_model.proofs.Reacts.{Backs, TicketFrom, is_act, changes_act}
use Rattle.login_model.proofs.Reacts.TicketFrom.{Stays, Begins}
use Rattle.login_model.proofs.Hears.{ReadHere, read_here, same_number}

-- what begins without a letter settles none
pub unheard : (own : ℕ) (out : List Letter) (life : Life) (letter : Letter) → ◌≡◌ {A = Option Letter} None (Some letter) → (number : Number) (m : ℕ) (what : AnswerAwaited) → Covers letter number m what
    → Covered out number m what ⊎ ((number.node ≡ own) × (LifeWaits life number m what → ⊥))
unheard own out life letter e number m what c = absurd (cc e)

-- a ticket begins
module _ (own : ℕ) (node : Node) (disk : List Record) (did : ReadDid) (ready : IsReady own (slot_up node disk) None) where
  abbrev new : Node
  new = (begin_read own node did).node

  abbrev first : ReadTicket
  first = record { reading = did.reading; mishaps = no_mishaps }

  module _ (start : ReadStart (under own node (next_number own node)) (λ m fact. (m ≡ own) × SlotShows (slot_up new disk) fact) did) where
    tickets : (seq : ℕ) (ticket : ReadTicket) → map.get (map.insert node.reads (node.calls + 1) first) seq ≡ Some ticket → TicketFrom own node new disk disk None did.out seq ticket
    tickets seq ticket h = ⊎_elim
        (λ (same, is). subst (λ (t : ReadTicket). TicketFrom own node new disk disk None did.out seq t) (sym is)
        (subst (λ k. TicketFrom own node new disk disk None did.out k first) (sym same) (Begins (omega arith) (le_refl (node.calls + 1)) start.claims start.whole (λ failed. absurd (start.fine failed)) start.waits)))
        (λ (apart, old). Stays old)
        (found nat_cmp_total exact_unsigned node.reads (node.calls + 1) first seq ticket h)

    asks : (letter : Letter) → Among letter did.out → (subject : Subject) → subject_asked letter.body ≡ Some subject → (n : Number) → letter.ticket ≡ Some n
        → AsksOwn (act_of own node disk (begin_read own node did) None) letter n subject
    asks letter m subject e n t =
        let s = (start.sent letter m).asks subject e in
        let same_n : next_number own node ≡ n = same_number (next_number own node) n (sym s.0 ∙ t) in
        record {
          own = ap (λ (k : Number). k.node) (sym same_n);
          reading = did.reading;
          reads = record {
            node = new;
            up = refl;
            boot = ap (λ (k : Number). k.boot) (sym same_n);
            ticket = first;
            here = subst (λ (k : Number). map.get (map.insert node.reads (node.calls + 1) first) k.seq ≡ Some first) same_n
                (written nat_cmp_total exact_unsigned node.reads (node.calls + 1) first);
            is = refl;
          };
          same = s.1;
        }

    pub begins_act : IsCallDone (act_of own node disk (begin_read own node did) None)
    begins_act = is_act own node new disk disk None did.out ready refl (omega arith) refl tickets asks (λ letter m told. absurd ((start.sent letter m).untold told)) (unheard own did.out (Up new))

-- a login begins
module _ (plan : Plan) (own : ℕ) (node : Node) (disk : List Record) (user : List ℕ) (proof : Proof) (manager : ℕ) (word : LoginWord) (mine : List ToldItem) (managed : node.manager user ≡ Some manager)
    (of : manager ≡ own → IsWordOf plan node user proof word) (lists : (named : ℕ) → manager ≡ own → word ≡ Named named → has named own ≡ true → IsToldList user disk mine) (ready : IsReady own (slot_up node disk) None) where
  abbrev u : Under
  u = under own node (next_number own node)

  abbrev login : Login
  login = record { user = user; manager = manager; stage = AsksManager }

  abbrev Shown : ReadDid → ℕ → Fact → Type 0
  Shown did m fact = (m ≡ own) × SlotShows (slot_up (begin_read own node did).node disk) fact

  manages : (did : ReadDid) (m : ℕ) (fact : Fact) → m ≡ own → Manages user manager ≡ fact → Shown did m fact
  manages did m fact is e = (is, subst (SlotShows (slot_up (begin_read own node did).node disk)) e (record { node = (begin_read own node did).node; up = refl; shows = managed }))

  denied : (other : LoginWord) → ReadStart u (Shown (same (LogsIn (record login { stage = IsDenied other })))) (same (LogsIn (record login { stage = IsDenied other })))
  denied other = record {
    claims = λ m fact c. ⊎_elim (λ (is, e). manages (same (LogsIn (record login { stage = IsDenied other }))) m fact is e) (λ none. absurd none) c;
    whole = tt;
    fine = λ e. cc e;
    waits = λ m what w. absurd w;
    sent = λ letter m. absurd m;
  }

  judged : nat_eq manager own ≡ true → (other : LoginWord) → word ≡ other → ReadStart u (Shown (take_word u login mine other)) (take_word u login mine other)
  judged is (Named named) j = record {
    claims = λ m fact c. ⊎_elim (λ (at, e). manages (take_word u login mine (Named named)) m fact at e) (λ b. b) (named_claims u (Shown (take_word u login mine (Named named))) refl login mine named told shown m fact c);
    whole = named_whole u (Shown (take_word u login mine (Named named))) refl login mine named told shown;
    fine = λ e. cc e;
    waits = named_waits u (Shown (take_word u login mine (Named named))) refl login mine named told shown;
    sent = named_sent u (Shown (take_word u login mine (Named named))) refl login mine named told shown;
  }
    where
      named_is : (b : Bool) → (if b then Named (node.named user) else Wrong first_stamp) ≡ Named named → node.named user ≡ named
      named_is true e = cc
      named_is false e = absurd (cc e)

      by_proof : IsWordOf plan node user proof (Named named) → node.named user ≡ named
      by_proof (inl e) = named_is (proves plan user proof) (sym e)
      by_proof (inr (right, by, e)) = absurd (cc e)

      told : Shown (take_word u login mine (Named named)) manager (Names user named)
      told = (eqb-true manager own is, record { node = (begin_read own node (take_word u login mine (Named named))).node; up = refl; shows = by_proof (subst (IsWordOf plan node user proof) j (of (eqb-true manager own is))) })

      shown : has named own ≡ true → Shown (take_word u login mine (Named named)) own (Lists user mine)
      shown h = (refl, record { node = (begin_read own node (take_word u login mine (Named named))).node; up = refl; shows = lists named (eqb-true manager own is) j h })
  judged is (Wrong stamp) j = denied (Wrong stamp)
  judged is (InUse by) j = denied (InUse by)
  judged is NoProfile j = denied NoProfile

  asked : ReadStart u (Shown (record { reading = LogsIn login; out = ask u manager (LoginAsk user proof) ∷ [] })) (record { reading = LogsIn login; out = ask u manager (LoginAsk user proof) ∷ [] })
  asked = record {
    claims = λ m fact c. ⊎_elim (λ (is, e). manages (record { reading = LogsIn login; out = ask u manager (LoginAsk user proof) ∷ [] }) m fact is e) (λ none. absurd none) c;
    whole = tt;
    fine = λ e. cc e;
    waits = by;
    sent = λ letter m. ⊎_elim (λ is. subst (SentFor u (LogsIn login)) is (record { untold = λ e. cc e; asks = λ subject e. (refl, of_user subject e) })) (λ none. absurd none) m;
  }
    where
      of_user : (subject : Subject) → ◌≡◌ {A = Option Subject} (Some (OfUser user)) (Some subject) → subject ≡ OfUser user
      of_user subject e = cc

      by : (m : ℕ) (what : AnswerAwaited) → ReadingWaits (LogsIn login) m what → Covered (ask u manager (LoginAsk user proof) ∷ []) u.number m what
      by m ForWord w = record { letter = ask u manager (LoginAsk user proof); inside = inl refl; covers = (refl, inl (refl, sym w, tt)) }
      by m ForList w = absurd w
      by m ForPart w = absurd w

  pub login_acts : IsCallDone (act_of own node disk (begin_read own node (begin_login u user proof manager word mine)) None)
  login_acts = by (nat_eq manager own) refl
    where
      by : (b : Bool) → nat_eq manager own ≡ b
          → IsCallDone (act_of own node disk (begin_read own node (if b then take_word u login mine word else record { reading = LogsIn login; out = ask u manager (LoginAsk user proof) ∷ [] })) None)
      by true e = begins_act own node disk (take_word u login mine word) ready (judged e word refl)
      by false e = begins_act own node disk (record { reading = LogsIn login; out = ask u manager (LoginAsk user proof) ∷ [] }) ready asked

-- a fetch begins
module _ (own : ℕ) (node : Node) (disk : List Record) (user : List ℕ) (id : Id) (at most holders : ℕ) (part : ToldPart) (some : HasHolder holders) (says : has holders own ≡ true → IsToldPart node.tells user id at most disk part)
    (ready : IsReady own (slot_up node disk) None) where
  abbrev of : Under
  of = under own node (next_number own node)

  abbrev fetch : Fetch
  fetch = record { user = user; id = id; at = at; most = most; stage = NobodyLeft }

  abbrev Has : ReadDid → ℕ → Fact → Type 0
  Has did m fact = (m ≡ own) × SlotShows (slot_up (begin_read own node did).node disk) fact

  asks_fine : (asked : List ℕ) (left : ℕ) → (asked ≡ [] → ⊥) → has_failed (ask_first of fetch left asked).reading ≡ true → ⊥
  asks_fine [] left some_ e = some_ refl
  asks_fine (holder ∷ others) left some_ e = cc e

  asks_on : (asked : List ℕ) (left : ℕ) → (asked ≡ [] → ⊥) → ReadStart of (Has (ask_first of fetch left asked)) (ask_first of fetch left asked)
  asks_on asked left some_ =
      let s = holder_step of (Has (ask_first of fetch left asked)) refl fetch left asked in
      record {
        claims = λ m fact c. ⊎_elim (λ none. absurd none) (λ b. b) (s.claims m fact c);
        whole = s.whole tt;
        fine = asks_fine asked left some_;
        waits = λ m what w. ⊎_elim (λ old. absurd (nothing m what old)) (λ new_. new_) (s.waits m what w);
        sent = s.sent;
      }
    where
      nothing : (m : ℕ) (what : AnswerAwaited) → ReadingWaits (Fetches fetch) m what → ⊥
      nothing m ForWord w = w
      nothing m ForList w = w
      nothing m ForPart w = w

  pub fetch_acts : IsCallDone (act_of own node disk (begin_read own node (begin_fetch of user id at most holders part)) None)
  fetch_acts = by (has holders own) refl
    where
      by : (b : Bool) → has holders own ≡ b → IsCallDone (act_of own node disk (begin_read own node (if b then same (Fetches (record fetch { stage = IsAnswered own part })) else ask_next of fetch holders)) None)
      by true e = begins_act own node disk (same (Fetches (record fetch { stage = IsAnswered own part }))) ready (record {
        claims = λ m fact c. (
          c.0,
          subst (SlotShows (slot_up (begin_read own node (same (Fetches (record fetch { stage = IsAnswered own part })))).node disk)) c.1
              (record { node = (begin_read own node (same (Fetches (record fetch { stage = IsAnswered own part })))).node; up = refl; shows = says e }),
        );
        whole = tt;
        fine = λ k. cc k;
        waits = λ m what w. absurd w;
        sent = λ letter m. absurd m;
      })
      by false e = begins_act own node disk (ask_next of fetch holders) ready (asks_on (receivers own holders 64) holders
          (λ none. subst (Among some.0) none (receiver_among own holders 64 some.0 some.1 (λ same_. true≢false (sym (subst (λ k. has holders k ≡ true) same_ some.1) ∙ e)) (few holders some.0 some.1))))

-- a mishap is counted
one_more_some : (count : ℕ) → 0 < one_more count
one_more_some count = by (nat_lt count (2 ^ 64 - 1)) refl
  where
    by : (b : Bool) → nat_lt count (2 ^ 64 - 1) ≡ b → 0 < (if b then count + 1 else count)
    by true e = omega arith
    by false e = let above = ltb-false count (2 ^ 64 - 1) e in omega (arith, above)

pub counted_some : (kind : MishapKind) (mishaps : Mishaps) → 0 < mishaps_of (counted kind mishaps)
counted_some FewMembers mishaps = let h = one_more_some mishaps.few_members in omega (arith, h)
counted_some Year mishaps = let h = one_more_some mishaps.year in omega (arith, h)
counted_some Dropped mishaps = let h = one_more_some mishaps.dropped in omega (arith, h)
counted_some Stale mishaps = let h = one_more_some mishaps.stale in omega (arith, h)
counted_some Down mishaps = let h = one_more_some mishaps.down in omega (arith, h)
counted_some Disk mishaps = let h = one_more_some mishaps.disk in omega (arith, h)
counted_some Crowded mishaps = let h = one_more_some mishaps.crowded in omega (arith, h)

-- a mishap
befell_step : (u : Under) (B : ℕ → Fact → Type 0) → u.own ≡ u.number.node → (at : ℕ) (reading : Reading) → ReadStep u B reading (befell u at reading)
befell_step u B here at (LogsIn login) = by login.stage
  where
    by : (stage : LoginStage) → ReadStep u B (LogsIn login) (login_befell u at login stage)
    by AsksManager = test (nat_eq at login.manager)
      where
        test : (b : Bool) → ReadStep u B (LogsIn login) (if b then fail u login else same (LogsIn login))
        test true = fail_step u B login
        test false = same_step u B (LogsIn login)
    by (IsDenied word) = same_step u B (LogsIn login)
    by (AsksNodes named waiting told) = test (has waiting at)
      where
        test : (b : Bool) → ReadStep u B (LogsIn login) (if b then fail u login else same (LogsIn login))
        test true = fail_step u B login
        test false = same_step u B (LogsIn login)
    by HasFailed = same_step u B (LogsIn login)
befell_step u B here at (Fetches fetch) = by fetch.stage
  where
    by : (stage : FetchStage) → ReadStep u B (Fetches fetch) (fetch_befell u at fetch stage)
    by (AsksHolder holder left) = test (nat_eq at holder)
      where
        test : (b : Bool) → ReadStep u B (Fetches fetch) (if b then ask_next u fetch (without_node left at) else same (Fetches fetch))
        test true = holder_step u B here fetch (without_node left at) (receivers u.own (without_node left at) 64)
        test false = same_step u B (Fetches fetch)
    by (IsAnswered other part) = same_step u B (Fetches fetch)
    by NobodyLeft = same_step u B (Fetches fetch)

module _ (own : ℕ) (node : Node) (disk : List Record) (ready : IsReady own (slot_up node disk) None) where
  -- nothing is done, but that some letters are sent which neither ask nor tell, and perhaps a ticket ends
  quiet_act : (new : Node) (out : List Letter) → new.boot ≡ node.boot → node.calls ≤ new.calls → ((seq : ℕ) (ticket : ReadTicket) → map.get new.reads seq ≡ Some ticket → map.get node.reads seq ≡ Some ticket)
      → ((letter : Letter) → Among letter out → (subject_asked letter.body ≡ None) × (is_told letter.body ≡ true → ⊥)) → IsCallDone (act_of own node disk (record { node = new; out = out }) None)
  quiet_act new out boot calls fewer silent = is_act own node new disk disk None out ready boot calls refl
      (λ seq ticket h. Stays (fewer seq ticket h))
      (λ letter m subject e n t. absurd (clash (subject_asked letter.body) subject (silent letter m).0 e))
      (λ letter m told. absurd ((silent letter m).1 told))
      (unheard own out (Up new))
    where
      clash : (o : Option Subject) (s : Subject) → o ≡ None → o ≡ Some s → ⊥
      clash o s p q = cc

  pub mishap_acts : (kind : MishapKind) (at : ℕ) (number : Number) → IsCallDone (act_of own node disk (mishap own kind at node number) None)
  mishap_acts kind at number = by (read_at own node (Some number)) refl
    where
      done : (ticket : ReadTicket) → ReadHere own node number ticket → IsCallDone (act_of own node disk (befell_at own kind at node number (Some ticket)) None)
      done ticket h =
          let n : Number = record { node = own; boot = node.boot; seq = number.seq } in
          let is : n ≡ number = λ i. record { node = sym h.at i; boot = sym h.boot i; seq = number.seq } in
          subst (λ (k : Number). IsCallDone (act_of own node disk
          (record { node = with_reading node number.seq (record { reading = (befell (under own node k) at ticket.reading).reading; mishaps = counted kind ticket.mishaps }); out = (befell (under own node k) at ticket.reading).out }) None)) is
          (changes_act own node disk None number.seq ticket (record { reading = (befell (under own node n) at ticket.reading).reading; mishaps = counted kind ticket.mishaps }) h.here (befell (under own node n) at ticket.reading).out ready (λ was failed. counted_some kind ticket.mishaps)
          (befell_step (under own node n) (Backs own node (with_reading node number.seq (record { reading = (befell (under own node n) at ticket.reading).reading; mishaps = counted kind ticket.mishaps })) disk disk None
          (befell (under own node n) at ticket.reading).out n (subject_of ticket.reading)) refl at ticket.reading)
          (unheard own (befell (under own node n) at ticket.reading).out
          (Up (with_reading node number.seq (record { reading = (befell (under own node n) at ticket.reading).reading; mishaps = counted kind ticket.mishaps })))))

      by : (r : Option ReadTicket) → read_at own node (Some number) ≡ r → IsCallDone (act_of own node disk (befell_at own kind at node number r) None)
      by None e = quiet_act node [] refl (le_refl node.calls) (λ seq ticket h. h) (λ letter m. absurd m)
      by (Some ticket) e = done ticket (read_here own node number ticket e)

  pub end_acts : (seq : ℕ) → IsCallDone (act_of own node disk (end_read node seq) None)
  end_acts seq = quiet_act (end_read node seq).node [] refl (le_refl node.calls) (λ q ticket h. (left_found nat_cmp_total exact_unsigned node.reads seq q ticket h).1) (λ letter m. absurd m)

  unlock_silent : (user : List ℕ) (n : Number) (manager : ℕ) (by : Number) (letter : Letter) → Among letter (unlock (under own node by) user n manager) → (subject_asked letter.body ≡ None) × (is_told letter.body ≡ true → ⊥)
  unlock_silent user n manager by letter m = test (nat_eq manager own) m
    where
      test : (b : Bool) → Among letter (if b then [] else record { from = own; to = manager; epoch = node.epoch; ticket = None; body = Unlock user n } ∷ []) → (subject_asked letter.body ≡ None) × (is_told letter.body ≡ true → ⊥)
      test true k = absurd k
      test false k = ⊎_elim (λ is. subst (λ (l : Letter). (subject_asked l.body ≡ None) × (is_told l.body ≡ true → ⊥)) is (refl, λ e. cc e)) (λ none. absurd none) k

  pub give_up_acts : (number : Number) (reading : Reading) → IsCallDone (act_of own node disk (give_up_read own node number reading) None)
  give_up_acts number reading = quiet_act (end_read node number.seq).node (give_up (under own node number) reading) refl (le_refl node.calls)
      (λ q ticket h. (left_found nat_cmp_total exact_unsigned node.reads number.seq q ticket h).1) (by reading)
    where
      of_login : (l : Login) (stage : LoginStage) (letter : Letter) → Among letter (given_up (under own node number) l stage) → (subject_asked letter.body ≡ None) × (is_told letter.body ≡ true → ⊥)
      of_login l AsksManager letter m = unlock_silent l.user number l.manager number letter m
      of_login l (IsDenied word) letter m = absurd m
      of_login l (AsksNodes named waiting told) letter m = unlock_silent l.user number l.manager number letter m
      of_login l HasFailed letter m = absurd m

      by : (r : Reading) (letter : Letter) → Among letter (give_up (under own node number) r) → (subject_asked letter.body ≡ None) × (is_told letter.body ≡ true → ⊥)
      by (LogsIn l) letter m = of_login l l.stage letter m
      by (Fetches f) letter m = absurd m

  pub leave_acts : (user : List ℕ) (login : Number) (manager : ℕ) → IsCallDone (act_of own node disk (leave own node user login manager) None)
  leave_acts user login manager = quiet_act node (leave own node user login manager).out refl (le_refl node.calls) (λ seq ticket h. h) (unlock_silent user login manager login)

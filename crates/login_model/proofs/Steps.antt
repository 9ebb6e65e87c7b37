-- What becomes of a reading, apart from its node.
use Rattle.std.proofs.Common.{◌≡◌, ◌⊎◌, inl, inr, ⊎_elim, ◌≤◌, ℕ, zero, suc, Bool, true, false, List, [], ◌∷◌, ◌++◌, Option, Some, None, refl, sym, subst, arith, if◌then◌else◌, nat_eq, nat_lt}
use Rattle.std.proofs.lemmas.Bool.{cases_eq, and_parts}
use Rattle.std.proofs.lemmas.Bool.Decides.{nat_tests}
use Rattle.object_model.specs.Sets.{has, without_node}
use Rattle.object_model.specs.Lists.{Among}
use Rattle.object_model.specs.Letters.{LoginWord, ToldItem, ToldPart, Body, Letter}
use Rattle.object_model.specs.Letters.LoginWord.{Named, Wrong, InUse, NoProfile}
use Rattle.object_model.specs.Letters.Body.{ListAsk, FetchAsk}
use Rattle.object_model.proofs.SetLaws.{left_in, still_in}
use Rattle.object_model.proofs.Lists.{among_either, among_front, among_behind}
use Rattle.cluster_model.specs.Rules.{receivers}
use Rattle.cluster_model.proofs.BeginDeliver.{receiver_among}
use Rattle.cluster_model.proofs.Logs.{sent_to}
use Rattle.cluster_model.proofs.Filing.{map_among}
use Rattle.login_model.specs.Readings.{ToldList, LoginStage, Login, FetchStage, Fetch, Reading, Subject, subject_of}
use Rattle.login_model.specs.Readings.LoginStage.{AsksManager, IsDenied, AsksNodes, HasFailed}
use Rattle.login_model.specs.Readings.FetchStage.{AsksHolder, IsAnswered, NobodyLeft}
use Rattle.login_model.specs.Readings.Reading.{LogsIn, Fetches}
use Rattle.login_model.specs.Readings.Subject.{OfUser, OfPart}
use Rattle.login_model.specs.Rules.{ReadDid, same, Under, ask, own_told, take_word, ask_first, list_at, part_at, unlock, fail}
use Rattle.login_model.specs.Facts.{Fact, subject_asked, is_told, ReadingClaims, StageClaims, StageIsWhole, ReadingIsWhole, LoginIsWhole, has_failed, AnswerAwaited, ReadingWaits, Covered}
use Rattle.login_model.specs.Facts.Fact.{Manages, Names, Lists, Says}
use Rattle.login_model.specs.Facts.AnswerAwaited.{ForWord, ForList, ForPart}

-- a node of a set is numbered 64 at most
pub few : (mask m : ℕ) → has mask m ≡ true → m ≤ 64
few mask zero h = omega arith
few mask (suc k) h = le (nat_lt k 64) refl (and_parts (nat_lt k 64) _ h).0
  where
    le : (b : Bool) → nat_lt k 64 ≡ b → nat_lt k 64 ≡ true → suc k ≤ 64
    le b e t = grind (arith, nat_tests)

-- a letter that is sent for a reading
pub record SentFor (u : Under) (reading : Reading) (letter : Letter) : Type 0 where
  pub untold : is_told letter.body ≡ true → ⊥
  pub asks : (subject : Subject) → subject_asked letter.body ≡ Some subject → (letter.ticket ≡ Some u.number) × (subject ≡ subject_of reading)

-- A reading came of another: what it counts on the other did, or `B` has it; and who is newly waited for is asked.
pub record ReadStep (u : Under) (B : ℕ → Fact → Type 0) (old : Reading) (did : ReadDid) : Type 0 where
  pub subject : subject_of old ≡ subject_of did.reading
  pub claims : (m : ℕ) (fact : Fact) → ReadingClaims u.own did.reading m fact → ReadingClaims u.own old m fact ⊎ B m fact
  pub whole : ReadingIsWhole old → ReadingIsWhole did.reading
  pub waits : (m : ℕ) (what : AnswerAwaited) → ReadingWaits did.reading m what → ReadingWaits old m what ⊎ Covered did.out u.number m what
  pub sent : (letter : Letter) → Among letter did.out → SentFor u did.reading letter

-- A reading begins: `B` has what it counts on, it has not failed, and whoever is waited for is asked.
pub record ReadStart (u : Under) (B : ℕ → Fact → Type 0) (did : ReadDid) : Type 0 where
  pub claims : (m : ℕ) (fact : Fact) → ReadingClaims u.own did.reading m fact → B m fact
  pub whole : ReadingIsWhole did.reading
  pub fine : has_failed did.reading ≡ true → ⊥
  pub waits : (m : ℕ) (what : AnswerAwaited) → ReadingWaits did.reading m what → Covered did.out u.number m what
  pub sent : (letter : Letter) → Among letter did.out → SentFor u did.reading letter

module _ (u : Under) (B : ℕ → Fact → Type 0) where
  pub same_step : (reading : Reading) → ReadStep u B reading (same reading)
  same_step reading = record { subject = refl; claims = λ m fact c. inl c; whole = λ w. w; waits = λ m what w. inl w; sent = λ letter m. absurd m }

  -- the stage of a login that is denied
  denied_step : (login : Login) (word : LoginWord) → ReadStep u B (LogsIn login) (same (LogsIn (record login { stage = IsDenied word })))
  denied_step login word = record {
    subject = refl;
    claims = λ m fact c. ⊎_elim (λ own. inl (inl own)) (λ none. absurd none) c;
    whole = λ w. tt;
    waits = λ m what w. absurd w;
    sent = λ letter m. absurd m;
  }

  module _ (here : u.own ≡ u.number.node) where
    -- the manager named nodes
    module _ (login : Login) (mine : List ToldItem) (named : ℕ) (manager_told : B login.manager (Names login.user named)) (own_lists : has named u.own ≡ true → B u.own (Lists login.user mine)) where
      abbrev did : ReadDid
      did = take_word u login mine (Named named)

      own_in : (one : ToldList) → Among one (own_told u.own named mine) → (has named u.own ≡ true) × ((record { node = u.own; items = mine }) ≡ one)
      own_in one m = by (has named u.own) refl m
        where
          by : (b : Bool) → has named u.own ≡ b → Among one (if b then record { node = u.own; items = mine } ∷ [] else []) → (has named u.own ≡ true) × ((record { node = u.own; items = mine }) ≡ one)
          by true e k = ⊎_elim (λ is. (e, is)) (λ none. absurd none) k
          by false e k = absurd k

      pub named_claims : (m : ℕ) (fact : Fact) → ReadingClaims u.own did.reading m fact → ((m ≡ u.own) × (Manages login.user login.manager ≡ fact)) ⊎ B m fact
      named_claims m fact (inl own) = inl own
      named_claims m fact (inr (inl (is, e))) = inr (subst (B m) e (subst (λ k. B k (Names login.user named)) (sym is) manager_told))
      named_claims m fact (inr (inr (one, inside, is, e))) =
          let o = own_in one inside in
          inr (subst (B m) e (subst (λ k. B k (Lists login.user one.items)) is (subst (λ (l : ToldList). B l.node (Lists login.user l.items)) o.1 (own_lists o.0))))

      pub named_whole : ReadingIsWhole did.reading
      named_whole = record {
        covered = λ m h. ⊎_elim
            (λ is. inr (record { node = u.own; items = mine }, told (subst (λ k. has named k ≡ true) is h), sym is))
            (λ other. inl (still_in named u.own m h other))
            (cases_eq m u.own);
        told_named = λ one m. let o = own_in one m in subst (λ (l : ToldList). has named l.node ≡ true) o.1 o.0;
        waiting_named = λ m h. (left_in named u.own m h).0;
      }
        where
          told : has named u.own ≡ true → Among {X = ToldList} (record { node = u.own; items = mine }) (own_told u.own named mine)
          told h = subst (λ b. Among {X = ToldList} (record { node = u.own; items = mine }) (if b then record { node = u.own; items = mine } ∷ [] else [])) (sym h) (inl refl)

      pub named_waits : (m : ℕ) (what : AnswerAwaited) → ReadingWaits did.reading m what → Covered did.out u.number m what
      named_waits m ForWord w = absurd w
      named_waits m ForList w =
          let l = left_in named u.own m w in
          record {
            letter = ask u m (ListAsk login.user);
            inside = map_among (λ to. ask u to (ListAsk login.user)) m (receivers u.own named 64) (receiver_among u.own named 64 m l.0 l.1 (few named m l.0));
            covers = (refl, inl (here, refl, tt));
          }
      named_waits m ForPart w = absurd w

      pub named_sent : (letter : Letter) → Among letter did.out → SentFor u did.reading letter
      named_sent letter m =
          let r = sent_to u.own u.epoch (Some u.number) (receivers u.own named 64) (ListAsk login.user) letter m in
          subst (SentFor u did.reading) r.2 (record { untold = λ e. cc e; asks = λ subject e. (refl, asked subject e) })
        where
          asked : (subject : Subject) → ◌≡◌ {A = Option Subject} (Some (OfUser login.user)) (Some subject) → subject ≡ OfUser login.user
          asked subject e = cc

    pub word_step : (login : Login) (mine : List ToldItem) (word : LoginWord) → ((named : ℕ) → word ≡ Named named → B login.manager (Names login.user named))
        → ((named : ℕ) → word ≡ Named named → has named u.own ≡ true → B u.own (Lists login.user mine)) → ReadStep u B (LogsIn login) (take_word u login mine word)
    word_step login mine (Named named) told lists = record {
      subject = refl;
      claims = λ m fact c. ⊎_elim (λ own. inl (inl own)) (λ b. inr b) (named_claims login mine named (told named refl) (lists named refl) m fact c);
      whole = λ w. named_whole login mine named (told named refl) (lists named refl);
      waits = λ m what w. inr (named_waits login mine named (told named refl) (lists named refl) m what w);
      sent = named_sent login mine named (told named refl) (lists named refl);
    }
    word_step login mine (Wrong stamp) told lists = denied_step login (Wrong stamp)
    word_step login mine (InUse by) told lists = denied_step login (InUse by)
    word_step login mine NoProfile told lists = denied_step login NoProfile

    -- the next holder is asked
    pub holder_step : (fetch : Fetch) (left : ℕ) (holders : List ℕ) → ReadStep u B (Fetches fetch) (ask_first u fetch left holders)
    holder_step fetch left [] = record { subject = refl; claims = λ m fact c. absurd c; whole = λ w. tt; waits = λ m what w. absurd w; sent = λ letter m. absurd m }
    holder_step fetch left (holder ∷ others) = record {
      subject = refl;
      claims = λ m fact c. absurd c;
      whole = λ w. tt;
      waits = λ m what w. inr (by m what w);
      sent = λ letter m. ⊎_elim
          (λ is. subst (SentFor u (ask_first u fetch left (holder ∷ others)).reading) is (record { untold = λ e. cc e; asks = λ subject e. (refl, asked subject e) }))
          (λ none. absurd none) m;
    }
      where
        asked : (subject : Subject) → ◌≡◌ {A = Option Subject} (Some (OfPart fetch.user fetch.id fetch.at fetch.most)) (Some subject) → subject ≡ OfPart fetch.user fetch.id fetch.at fetch.most
        asked subject e = cc

        by : (m : ℕ) (what : AnswerAwaited) → ReadingWaits (ask_first u fetch left (holder ∷ others)).reading m what → Covered (ask_first u fetch left (holder ∷ others)).out u.number m what
        by m ForWord w = absurd w
        by m ForList w = absurd w
        by m ForPart w = record { letter = ask u holder (FetchAsk fetch.user fetch.id fetch.at fetch.most); inside = inl refl; covers = (refl, inl (here, sym w, tt)) }

  -- who asks for a lock back asks and tells nothing else
  pub unlock_sent : (reading : Reading) (user : List ℕ) (manager : ℕ) (letter : Letter) → Among letter (unlock u user u.number manager) → SentFor u reading letter
  unlock_sent reading user manager letter m = by (nat_eq manager u.own) m
    where
      by : (b : Bool) → Among letter (if b then [] else record { from = u.own; to = manager; epoch = u.epoch; ticket = None; body = Body.Unlock user u.number } ∷ []) → SentFor u reading letter
      by true k = absurd k
      by false k = ⊎_elim (λ is. subst (SentFor u reading) is (record { untold = λ e. cc e; asks = λ subject e. absurd (cc e) })) (λ none. absurd none) k

  pub fail_step : (login : Login) → ReadStep u B (LogsIn login) (fail u login)
  fail_step login = record {
    subject = refl;
    claims = λ m fact c. ⊎_elim (λ own. inl (inl own)) (λ none. absurd none) c;
    whole = λ w. tt;
    waits = λ m what w. absurd w;
    sent = unlock_sent (fail u login).reading login.user login.manager;
  }

  -- a list was told
  pub list_step : (from : ℕ) (login : Login) (items : List ToldItem) (stage : LoginStage) → login.stage ≡ stage → B from (Lists login.user items) → ReadStep u B (LogsIn login) (list_at from login items stage)
  list_step from login items AsksManager e told = same_step (LogsIn login)
  list_step from login items (IsDenied word) e told = same_step (LogsIn login)
  list_step from login items HasFailed e told = same_step (LogsIn login)
  list_step from login items (AsksNodes named waiting lists) e told = by (has waiting from) refl
    where
      by : (b : Bool) → has waiting from ≡ b → ReadStep u B (LogsIn login) (if b then same (LogsIn (record login { stage = AsksNodes named (without_node waiting from) (lists ++ record { node = from; items = items } ∷ []) })) else same (LogsIn login))
      by false h = same_step (LogsIn login)
      by true h = record {
        subject = refl;
        claims = λ m fact c. ⊎_elim
            (λ own. inl (inl own))
            (λ s. ⊎_elim
            (λ names. inl (inr (subst (λ g. StageClaims login.user login.manager g m fact) (sym e) (inl names))))
            (λ (one, inside, is, same_fact). ⊎_elim
            (λ old. inl (inr (subst (λ g. StageClaims login.user login.manager g m fact) (sym e) (inr (one, old, is, same_fact)))))
            (λ new. ⊎_elim
            (λ it. inr (subst (B m) same_fact (subst (λ k. B k (Lists login.user one.items)) is (subst (λ (l : ToldList). B l.node (Lists login.user l.items)) it told))))
            (λ none. absurd none) new)
            (among_either one lists (record { node = from; items = items } ∷ []) inside))
            s)
            c;
        whole = λ w. let o : StageIsWhole named waiting lists = subst LoginIsWhole e w in record {
          covered = λ m k. ⊎_elim
              (λ waits. ⊎_elim
              (λ is. inr (record { node = from; items = items }, among_behind (record { node = from; items = items }) lists (record { node = from; items = items } ∷ []) (inl refl), sym is))
              (λ other. inl (still_in waiting from m waits other))
              (cases_eq m from))
              (λ (one, inside, is). inr (one, among_front one lists (record { node = from; items = items } ∷ []) inside, is))
              (o.covered m k);
          told_named = λ one m. ⊎_elim
              (λ old. o.told_named one old)
              (λ new. ⊎_elim (λ it. subst (λ (l : ToldList). has named l.node ≡ true) it (o.waiting_named from h)) (λ none. absurd none) new)
              (among_either one lists (record { node = from; items = items } ∷ []) m);
          waiting_named = λ m k. o.waiting_named m (left_in waiting from m k).0;
        };
        waits = λ m what w. inl (waits_on m what w);
        sent = λ letter m. absurd m;
      }
        where
          waits_on : (m : ℕ) (what : AnswerAwaited) → ReadingWaits (LogsIn (record login { stage = AsksNodes named (without_node waiting from) (lists ++ record { node = from; items = items } ∷ []) })) m what → ReadingWaits (LogsIn login) m what
          waits_on m ForWord w = absurd w
          waits_on m ForList w = subst (λ g. ReadingWaits (LogsIn (record login { stage = g })) m ForList) (sym e) (left_in waiting from m w).0
          waits_on m ForPart w = absurd w

  -- a part was told
  pub part_step : (from : ℕ) (fetch : Fetch) (part : ToldPart) (stage : FetchStage) → B from (Says fetch.user fetch.id fetch.at fetch.most part) → ReadStep u B (Fetches fetch) (part_at from fetch part stage)
  part_step from fetch part (AsksHolder holder left) told = answered from fetch part told
    where
      answered : (from : ℕ) (fetch : Fetch) (part : ToldPart) → B from (Says fetch.user fetch.id fetch.at fetch.most part)
          → ReadStep u B (Fetches fetch) (same (Fetches (record fetch { stage = IsAnswered from part })))
      answered from fetch part told = record {
        subject = refl;
        claims = λ m fact c. inr (subst (B m) c.1 (subst (λ k. B k (Says fetch.user fetch.id fetch.at fetch.most part)) (sym c.0) told));
        whole = λ w. tt;
        waits = λ m what w. absurd w;
        sent = λ letter m. absurd m;
      }
  part_step from fetch part (IsAnswered by other) told = same_step (Fetches fetch)
  part_step from fetch part NobodyLeft told = record {
    subject = refl;
    claims = λ m fact c. inr (subst (B m) c.1 (subst (λ k. B k (Says fetch.user fetch.id fetch.at fetch.most part)) (sym c.0) told));
    whole = λ w. tt;
    waits = λ m what w. absurd w;
    sent = λ letter m. absurd m;
  }

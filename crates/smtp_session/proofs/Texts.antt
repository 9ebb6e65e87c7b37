-- What a session follows after octets of a text.
use Rattle.std.proofs.Common.{◌≡◌, ◌<◌, ◌≤◌, ◌+◌, ℕ, Bool, true, false, List, [], ◌∷◌, ◌++◌, length, take, drop, Option, Some, refl, sym, ap, subst, ◌∙◌, arith, append_assoc}
use Rattle.std.specs.Prelude.{MatchBool}
use Rattle.std.proofs.lemmas.List.{append-nil, length-append, take-append-drop, length-drop}
use Rattle.std.proofs.Math.Seq.{take-length, take-append_seam}
use Rattle.mail_model.specs.Lines.{sent_line}
use Rattle.mail_model.specs.Plan.{Plan}
use Rattle.mail_model.specs.Smtp.{greeting_text}
use Rattle.mail_model.specs.Session as model
use Rattle.mail_model.specs.Session.{undotted, after_unit}
use Rattle.mail_model.specs.Session.Unit.{Text}
use Rattle.mail_model.specs.Told.{IsUnit, HasNoUnit, unit_octets, mail_of}
use Rattle.session_model.specs.Calls as calls
use Rattle.session_model.specs.Talk.{Standing, let_in}
use Rattle.session_model.specs.Talk.TalkState.{Mailing}
use Rattle.session_model.specs.Talk.Standing.{Hearing, Waiting}
use Rattle.session_model.specs.Sessions.{Session}
use Rattle.call_tickets.specs.Moves.{Due, Moves, HearsNothing}
use Rattle.call_tickets.specs.Moves.Due.{Nothing}
use Rattle.call_tickets.specs.declared.step.Move.{Move}
use Rattle.call_tickets.specs.declared.step.Move.TheVariants.{Said, Begin, Wait, Idle, End}
use Rattle.call_tickets.specs.declared.call.Call.TheVariants as tickets
use Rattle.dot_text.specs.Shown.{Shown, Pending}
use Rattle.dot_text.specs.Places.{Undots, Feeds, IsWithin}
use Rattle.dot_text.specs.declared.undotter.Undotter.{Undotter}
use Rattle.dot_text.specs.declared.undotter.Cut.TheVariants.{More, Ended}
use Rattle.smtp_session.specs.declared.session.SmtpSession.{SmtpSession}
use Rattle.smtp_session.specs.declared.session.Turn.{Turn}
use Rattle.smtp_session.specs.declared.session.Turn.TheVariants as turn
use Rattle.smtp_session.specs.declared.told.Told.{Told}
use Rattle.smtp_session.specs.declared.reply.Reply.TheVariants.{TooLarge}
use Rattle.smtp_session.specs.Replies.{text_of}
use Rattle.smtp_session.specs.Texts.{IsGivenText, Grows, SettlesText}
use Rattle.smtp_session.specs.Talks.{talk_of}
use Rattle.smtp_session.specs.Follows.{Follows, ReadsFed, Goes, Moved, Stands, WaitsFor, EndsText, IsOwnMove, due_count}
use Rattle.smtp_session.proofs.Lines.{one_line_of}
use Rattle.smtp_session.proofs.Entered.{still_nobody, mail_nobody}
use Rattle.smtp_session.proofs.Units.{session, at_nothing, begins, heard_says, heard_asks}

-- more was given
pub is_text_more : (text now : List ℕ × Bool) (given more : List ℕ) → Grows text more now → IsGivenText text given → IsGivenText now (given ++ more)
is_text_more (octets, true) now given more grows is =
    let At : List ℕ × Bool → Type 0 = λ t. IsGivenText t (given ++ more) in
    subst At (sym grows) (is.0, omega (arith, is.1, length-append given more))
is_text_more (octets, false) now given more grows is =
    let At : List ℕ × Bool → Type 0 = λ t. IsGivenText t (given ++ more) in
    subst At (sym grows) (ap (λ (l : List ℕ). l ++ more) is)

-- and taken back
pub taken_back : (text now : List ℕ × Bool) (more : List ℕ) → Grows text more now → (take (length text.0) now.0, now.1) ≡ text
taken_back (octets, true) now more grows =
    ap (λ (t : List ℕ × Bool). (take (length octets) t.0, t.1)) grows ∙ ap (λ (l : List ℕ). (l, true)) (take-length octets)
taken_back (octets, false) now more grows =
    ap (λ (t : List ℕ × Bool). (take (length octets) t.0, t.1)) grows ∙ ap (λ (l : List ℕ). (l, false)) (take-append_seam octets more)

-- where no octets were let go, those that are pending are held
pending_is : (limit : ℕ) (past : Bool) (rest pending : List ℕ) → past ≡ false → Pending (record { limit = limit; past = past; rest = rest }) pending → pending ≡ rest
pending_is limit true rest pending is was = cc
pending_is limit false rest pending is was = was.whole ∙ ap (λ (l : List ℕ). l ++ rest) was.long

at_true : (X Y : Type 0) (b : Bool) → b ≡ true → X → MatchBool b X Y
at_true X Y true is x = x
at_true X Y false is x = cc

-- whose turn it is
stands_hears : (now : Turn) (node : ℕ) (talk : model.Told) (plain : Session) (standing : Standing) → now ≡ turn.Hears → standing ≡ Hearing (Mailing talk)
    → Stands now node talk (record plain { standing = standing }) Nothing
stands_hears now node talk plain standing is at =
    let At : Turn → Type 0 = λ t. Stands t node talk (record plain { standing = standing }) Nothing in subst At (sym is) (refl, at)

stands_waits : (now : Turn) (node : ℕ) (talk : model.Told) (plain : Session) → now ≡ turn.Waits → WaitsFor talk plain → Stands now node talk plain Nothing
stands_waits now node talk plain is waits =
    let At : Turn → Type 0 = λ t. Stands t node talk plain Nothing in subst At (sym is) (refl, waits)

-- In a text.
module _ (plan : Plan) (node : ℕ) (told : Told) (old new : Shown) (undotter behind : Undotter) (text now : List ℕ × Bool) (more : List ℕ)
    (inside : told.in_text ≡ true) (grows : Grows text more now) where
  abbrev before : SmtpSession
  before = session node turn.Hears told old undotter text

  -- it goes on
  module _ (feeds : (fed given : List ℕ) → Undots undotter fed given → Feeds More behind fed old.rest (given ++ more)) (later : List ℕ × Bool) (settles : SettlesText now later)
      (all : new ≡ record old { rest = [] }) where
    pub reads_on : Goes plan before Idle [] (session node turn.Hears told new behind later)
    reads_on plain due follows =
        let reads = follows.reads in
        let plain_past = reads.inside inside in
        let pending : reads.pending ≡ old.rest = pending_is old.limit old.past old.rest reads.pending plain_past reads.pends in
        let whole : plain.rest ≡ reads.taken ++ old.rest = reads.whole ∙ ap (λ (l : List ℕ). reads.taken ++ l) pending in
        let read = feeds reads.taken reads.given reads.undots in
        let Of : List ℕ → Type 0 = λ l. HasNoUnit true l in
        let OfText : Bool → Type 0 = λ b. HasNoUnit b plain.rest in
        let At : Standing → Type 0 = λ s. HearsNothing s plain.rest in
        let OfCutter : Shown → Type 0 = λ c. ReadsFed told.in_text c behind later plain.rest in
        let now_reads : ReadsFed told.in_text (record { limit = old.limit; past = old.past; rest = [] }) behind later plain.rest = record {
          taken = reads.taken ++ old.rest;
          given = reads.given ++ more;
          pending = [];
          whole = whole ∙ sym (append-nil (reads.taken ++ old.rest));
          pends = none_pends old.limit old.past plain_past;
          undots = read.0;
          text_is = settles.is (reads.given ++ more) (is_text_more text now reads.given more grows reads.text_is);
          short = settles.short;
          limit = reads.limit;
          inside = reads.inside;
          outside = λ other. let both : true ≡ false = sym inside ∙ other in cc;
        } in
        at_nothing _ _ plan plain due Idle [] follows.stands.0 (
          subst At (sym follows.stands.1) (subst OfText (sym inside) (subst Of (sym whole) read.1)),
          refl,
          record { speaks = follows.speaks; node = follows.node; others = follows.others; nobody = follows.nobody; reads = subst OfCutter (sym all) now_reads; stands = (refl, follows.stands.1) },
        )
      where
        none_pends : (limit : ℕ) (past : Bool) → past ≡ false → Pending (record { limit = limit; past = past; rest = [] }) []
        none_pends limit true is = cc
        none_pends limit false is = record { gone = []; whole = refl; none = λ k within. absurd (omega arith); seam = λ k last. absurd (omega (arith, last)); long = refl }

    pub moved_on : Moved plan before Idle [] (session node turn.Hears told new behind later)
    moved_on = record {
      goes = reads_on;
      less = λ busy. absurd busy;
      no_more = omega (arith, ap (λ (s : Shown). length s.rest) all);
      bounded = λ plain due follows is. at_true _ _ told.in_text inside (omega (arith, settles.short, ap (λ (s : Shown). length s.rest) all));
      own = tt;
    }

  -- it ended at an octet of the rest
  module _ (used : ℕ) (ends : (fed given : List ℕ) → Undots undotter fed given → Feeds (Ended used) behind fed old.rest (given ++ more)) (later : Told) (turned : Turn)
      (cut : new ≡ record old { rest = drop used old.rest }) (plain : Session) (due : Due) (follows : Follows before plain due) where
    plain_past : old.past ≡ false
    plain_past = follows.reads.inside inside

    read : Feeds (Ended used) behind follows.reads.taken old.rest (follows.reads.given ++ more)
    read = ends follows.reads.taken follows.reads.given follows.reads.undots

    abbrev lines : List (List ℕ)
    lines = (ends follows.reads.taken follows.reads.given follows.reads.undots).0.lines

    is_read : IsGivenText now (undotted lines)
    is_read =
        let Of : List ℕ → Type 0 = λ l. IsGivenText now l in
        subst Of (ends follows.reads.taken follows.reads.given follows.reads.undots).0.gives (is_text_more text now follows.reads.given more grows follows.reads.text_is)

    is_text : IsUnit (talk_of told).in_text (Text lines)
    is_text = let Of : Bool → Type 0 = λ b. IsUnit b (Text lines) in subst Of (sym inside) (ends follows.reads.taken follows.reads.given follows.reads.undots).0.are

    whole_text : plain.rest ≡ unit_octets (Text lines) ++ drop used old.rest
    whole_text =
        let pending : follows.reads.pending ≡ old.rest = pending_is old.limit old.past old.rest follows.reads.pending plain_past follows.reads.pends in
        follows.reads.whole
        ∙ ap (λ (l : List ℕ). follows.reads.taken ++ l) (pending ∙ sym (take-append-drop used old.rest))
        ∙ sym (append_assoc follows.reads.taken (take used old.rest) (drop used old.rest))
        ∙ ap (λ (l : List ℕ). l ++ drop used old.rest) (ends follows.reads.taken follows.reads.given follows.reads.undots).0.whole

    reads_behind : ReadsFed later.in_text new behind ([], false) (drop used old.rest)
    reads_behind =
        let OfCutter : Shown → Type 0 = λ c. ReadsFed later.in_text c behind ([], false) (drop used old.rest) in
        let OfPast : Bool → Type 0 = λ b. ReadsFed later.in_text (record { limit = old.limit; past = b; rest = drop used old.rest }) behind ([], false) (drop used old.rest) in
        subst OfCutter (sym cut) (subst OfPast (sym plain_past)
        (begins later.in_text old.limit (drop used old.rest) behind ([], false) follows.reads.limit (ends follows.reads.taken follows.reads.given follows.reads.undots).1 refl (omega arith)))

    goes_end : (did : Move) (octets : List ℕ) → EndsText plan node (talk_of told) lines did octets (talk_of later) turn.Hears turned
        → Moves (Follows (session node turned later new behind ([], false))) (greeting_text node) plan plain due did octets
    unfolding is_text whole_text reads_behind
    goes_end Said octets means =
        let large = means.0 in
        let text_is : text_of TooLarge plain.node ≡ text_of TooLarge node = ap (text_of TooLarge) follows.node in
        at_nothing _ _ plan plain due Said octets follows.stands.0
        (heard_says plan plain (talk_of told) (Text lines) (drop used old.rest) (text_of TooLarge plain.node) octets (Follows (session node turned later new behind ([], false))) follows.stands.1
        is_text whole_text false (rw large refl) (one_line_of TooLarge plain.node) (means.1 ∙ ap sent_line (sym text_is)) (λ one none. record {
          speaks = follows.speaks;
          node = follows.node;
          others = follows.others;
          nobody = still_nobody plain.whole one none follows.nobody;
          reads = reads_behind;
          stands = stands_hears turned node (talk_of later) (record plain { whole = plain.whole ++ one ∷ []; rest = drop used old.rest })
              (Hearing (Mailing (after_unit plan (talk_of told) (Text lines) (text_of TooLarge plain.node)))) means.3 (ap (λ t. Hearing (Mailing t)) (sym means.2));
        }))
    goes_end (Begin (tickets.Deliver deliver)) octets means =
        at_nothing _ _ plan plain due (Begin (tickets.Deliver deliver)) octets follows.stands.0 (
          calls.Call.Deliver (mail_of (talk_of told) lines),
          ap (λ m. Some (calls.Call.Deliver m)) means.2,
          heard_asks plan plain (talk_of told) (Text lines) (drop used old.rest) [] octets (Follows (session node turned later new behind ([], false))) follows.stands.1
              is_text whole_text (calls.Call.Deliver (mail_of (talk_of told) lines)) (rw means.0 refl) means.1 (λ one asks none. record {
                speaks = follows.speaks;
                node = follows.node;
                others = follows.others;
                nobody = still_nobody plain.whole one (ap (λ (c : Option calls.Call). let_in c one.answer) asks ∙ mail_nobody (mail_of (talk_of told) lines) one.answer) follows.nobody;
                reads = reads_behind;
                stands = stands_waits turned node (talk_of later) (record plain {
                  whole = plain.whole ++ one ∷ [];
                  standing = Waiting (Mailing (after_unit plan (talk_of told) (Text lines) [])) (calls.Call.Deliver (mail_of (talk_of told) lines));
                  rest = drop used old.rest;
                }) means.5 (record {
                  mail = mail_of (talk_of told) lines;
                  standing = ap (λ t. Waiting (Mailing t) (calls.Call.Deliver (mail_of (talk_of told) lines))) (sym means.4);
                  before = plain.whole;
                  one = one;
                  whole = refl;
                  asks = asks;
                });
              }),
        )
    goes_end (Begin (tickets.Login user proof)) octets means = absurd means
    goes_end (Begin (tickets.Fetch user id holders from most)) octets means = absurd means
    goes_end (Begin (tickets.Strike user items)) octets means = absurd means
    goes_end (Begin (tickets.Leave user login manager)) octets means = absurd means
    goes_end Wait octets means = absurd means
    goes_end Idle octets means = absurd means
    goes_end End octets means = absurd means

  pub moved_end : (used : ℕ) → (0 < used) × (used ≤ length old.rest) → ((fed given : List ℕ) → Undots undotter fed given → Feeds (Ended used) behind fed old.rest (given ++ more))
      → (later : Told) (turned : Turn) (did : Move) (octets : List ℕ) → new ≡ record old { rest = drop used old.rest } → due_count turned ≤ 0 → IsOwnMove did
      → ((lines : List (List ℕ)) → IsGivenText now (undotted lines) → EndsText plan node (talk_of told) lines did octets (talk_of later) turn.Hears turned)
      → Moved plan before did octets (session node turned later new behind ([], false))
  moved_end used within ends later turned did octets cut quiet few means = record {
    goes = λ plain due follows. goes_end used ends later turned cut plain due follows did octets
        (means (lines used ends later turned cut plain due follows) (is_read used ends later turned cut plain due follows));
    less = λ busy. omega (arith, within.0, within.1, quiet, ap (λ (s : Shown). length s.rest) cut, length-drop used old.rest);
    no_more = omega (arith, within.0, within.1, quiet, ap (λ (s : Shown). length s.rest) cut, length-drop used old.rest);
    bounded = λ plain due follows is. absurd (not_idle (lines used ends later turned cut plain due follows) did is (means (lines used ends later turned cut plain due follows) (is_read used ends later turned cut plain due follows)));
    own = few;
  }
    where
      not_idle : (all : List (List ℕ)) (d : Move) → d ≡ Idle → EndsText plan node (talk_of told) all d octets (talk_of later) turn.Hears turned → ⊥
      not_idle all Said is ends_it = cc
      not_idle all (Begin call) is ends_it = cc
      not_idle all Wait is ends_it = ends_it
      not_idle all Idle is ends_it = ends_it
      not_idle all End is ends_it = ends_it

  -- the same of a session whose fields are known to be these
  pub ended : (start turned : Turn) (used at : ℕ) (later : Told) (last : Undotter) (empty : List ℕ × Bool) (did : Move) (octets : List ℕ) → start ≡ turn.Hears → at ≡ node → last ≡ behind → empty ≡ ([], false)
      → IsWithin (Ended used) old.rest → ((fed given : List ℕ) → Undots undotter fed given → Feeds (Ended used) behind fed old.rest (given ++ more))
      → new ≡ record old { rest = drop used old.rest } → due_count turned ≤ due_count start → IsOwnMove did
      → ((lines : List (List ℕ)) → IsGivenText now (undotted lines) → EndsText plan node (talk_of told) lines did octets (talk_of later) start turned)
      → Moved plan (session node start told old undotter text) did octets (session at turned later new last empty)
  ended start turned used at later last empty did octets starts same_node same_place none within ends cut quiet few means =
      let Start : Turn → Type 0 = λ t. Moved plan (session node t told old undotter text) did octets (session at turned later new last empty) in
      let Node : ℕ → Type 0 = λ n. Moved plan before did octets (session n turned later new last empty) in
      let Place : Undotter → Type 0 = λ u. Moved plan before did octets (session node turned later new u empty) in
      let Empty : List ℕ × Bool → Type 0 = λ t. Moved plan before did octets (session node turned later new behind t) in
      let Was : List (List ℕ) → Turn → Type 0 = λ lines t. EndsText plan node (talk_of told) lines did octets (talk_of later) t turned in
      subst Start (sym starts) (subst Node (sym same_node) (subst Place (sym same_place) (subst Empty (sym none)
      (moved_end used within ends later turned did octets cut (omega (arith, quiet, ap due_count starts)) few (λ lines text. subst (Was lines) starts (means lines text))))))

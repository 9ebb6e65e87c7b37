-- The promise on deletions, from the sessions of a tape and what is true of `Dropped`.
use Rattle.std.proofs.Common.{◌≡◌, ◌⊎◌, inl, inr, ⊎_elim, ℕ, List, [], ◌∷◌, ◌++◌, drop, Option, Some, None, get_or, refl, sym, ap, ◌∙◌, subst, arith, append_assoc, append-nil}
use Rattle.std.proofs.lemmas.List.Concat.{flat_map-append}
use Rattle.mail_model.specs.Identity.{Id}
use Rattle.mail_model.specs.Plan.{Plan}
use Rattle.mail_model.specs.Session.{Unit}
use Rattle.mail_model.specs.Tape.{Protocol}
use Rattle.mail_model.specs.Tape.Protocol.{Smtp, Pop}
use Rattle.mail_model.specs.Transcript.{Entry}
use Rattle.mail_model.specs.PopReplies.{one_line}
use Rattle.mail_model.specs.Maildrop.{bye_text}
use Rattle.mail_model.specs.Shown.{lines_to}
use Rattle.session_model.specs.Calls.{Answer}
use Rattle.session_model.specs.Calls.Call.{Strike}
use Rattle.session_model.specs.Calls.Answer.{Dropped, Failed}
use Rattle.session_model.specs.Talk.{Exchange, Awaits, TalkGoes, opening_state, farewell, replies, lead_of}
use Rattle.session_model.specs.Talk.Standing.{Hearing}
use Rattle.session_model.specs.Reading.{Each, ListsOnce}
use Rattle.session_model.specs.Sessions.{Session, IsCut, IsSession, exchanges_of}
use Rattle.session_model.specs.Facts.{AsksDeletion}
use Rattle.session_model.specs.Promises.{Deletes, TrueAnswersDelete}
use Rattle.session_model.proofs.Chains.{goes_at}
use Rattle.session_model.proofs.Cuts.{of_mail, one_end, awaits}
use Rattle.session_model.proofs.Striking.{strikes_at_quit, quit_strikes}

-- the replies of two lists of exchanges
replies_both : (a b : List Exchange) → replies (a ++ b) ≡ replies a ++ replies b
replies_both a b = flat_map-append (λ (one : Exchange). one.reply) a b

-- what was got before the last exchange
got_before : (whole others before : List Exchange) (one : Exchange) (got last part missing : List (List ℕ)) → whole ++ others ≡ before ++ one ∷ []
    → got ≡ replies whole ++ part → IsCut others last part missing → (tail : List (List ℕ)) × (got ≡ replies before ++ tail)
got_before whole [] before one got last part missing are got_is cut = (
  replies (one ∷ []) ++ part,
  got_is ∙ ap (λ (l : List Exchange). replies l ++ part) (sym (append-nil whole) ∙ are) ∙ ap (λ (l : List (List ℕ)). l ++ part) (replies_both before (one ∷ []))
      ∙ append_assoc (replies before) (replies (one ∷ [])) part,
)
got_before whole (x ∷ []) before one got last part missing are got_is cut =
    (part, got_is ∙ ap (λ (l : List Exchange). replies l ++ part) (one_end whole before x one are).0)
got_before whole (x ∷ y ∷ others) before one got last part missing are got_is cut = absurd cut

-- which protocol it is
by_protocol : (protocol : Protocol) → (protocol ≡ Smtp) ⊎ (protocol ≡ Pop)
by_protocol Smtp = inl refl
by_protocol Pop = inr refl

module _ (plan : Plan) (lines : List (List ℕ)) (entries : List Entry) (k : ℕ) (session : Session) (is : IsSession plan lines entries k session)
    (once : Each ListsOnce (exchanges_of session)) where
  -- its chain
  pub goes_as : (protocol : Protocol) → session.protocol ≡ protocol → TalkGoes plan session.node (Hearing (opening_state protocol)) session.octets (exchanges_of session) is.talk.before session.rest
  goes_as protocol speaks = subst (λ (p : Protocol). TalkGoes plan session.node (Hearing (opening_state p)) session.octets (exchanges_of session) is.talk.before session.rest) speaks is.talk.goes

  -- a session that asks for a deletion reads mail
  pub reads_mail : (user : List ℕ) (ids : List Id) (one : Exchange) → AsksDeletion session user ids one → session.protocol ≡ Pop
  reads_mail user ids one (before, behind, are, call) = ⊎_elim
      (λ smtp. absurd ((of_mail plan session.node session.octets before behind one is.talk.before session.rest
      (subst (λ (l : List Exchange). TalkGoes plan session.node (Hearing (opening_state Smtp)) session.octets l is.talk.before session.rest) are (goes_as Smtp smtp))).1 user ids call))
      (λ pop. pop) (by_protocol session.protocol)

  -- and does so at QUIT
  pub deletes : (user : List ℕ) (ids : List Id) (one : Exchange) → AsksDeletion session user ids one → session.protocol ≡ Pop → Deletes entries k session user ids one
  deletes user ids one (before, behind, are, call) pop =
      let law = strikes_at_quit plan session.node session.octets (exchanges_of session) is.talk.before session.rest (goes_as Pop pop) once before behind one user ids are call in
      let last : exchanges_of session ≡ before ++ one ∷ [] = are ∙ ap (λ (l : List Exchange). before ++ one ∷ l) law.0 in
      let got = got_before session.whole session.others before one (drop 1 (lines_to k entries)) (farewell session.protocol session.node session.standing) is.gets.part is.gets.missing last
      is.gets.are is.gets.cut in
      record { before = before; tail = got.0; are = last; got = got.1; asks = call; marked = law.1 }

  -- `+OK bye` to a deletion says that it is done
  bye_is : (unit : Unit) (user : List ℕ) (ids : List Id) (answer : Option Answer) (reply : List (List ℕ)) → Awaits unit (Strike user ids) answer reply → reply ≡ one_line bye_text → answer ≡ Some Dropped
  bye_is unit user ids None reply says bye = let e : [] ≡ one_line bye_text = sym says ∙ bye in cc
  bye_is unit user ids (Some Dropped) reply says bye = refl
  bye_is unit user ids (Some Failed) reply says bye =
      let first : 45 ≡ 43 = ap (λ (l : List (List ℕ)). get_or (get_or l 0 []) 0 0) (sym says ∙ bye) in absurd (omega (arith, first))
  bye_is unit user ids (Some answer) reply says bye = absurd says

  -- so does the exchange that asked for it
  pub dropped : (user : List ℕ) (ids : List Id) (before behind : List Exchange) (one : Exchange) → exchanges_of session ≡ before ++ one ∷ behind → one.call ≡ Some (Strike user ids)
      → one.reply ≡ one_line bye_text → one.answer ≡ Some Dropped
  dropped user ids before behind one are call bye =
      let at = goes_at plan session.node (Hearing (opening_state session.protocol)) session.octets before one behind is.talk.before session.rest
      (subst (λ (l : List Exchange). TalkGoes plan session.node (Hearing (opening_state session.protocol)) session.octets l is.talk.before session.rest) are is.talk.goes) in
      bye_is one.unit user ids one.answer one.reply (awaits (lead_of plan session.node at.state one.unit) one (Strike user ids) at.next.led call) bye

pub true_answers_delete : TrueAnswersDelete
true_answers_delete plan lines entries disks sessions are facts = record {
  only = λ node user id gone.
      let (k, session, ids, one, at, strikes, among) = facts.asked node user id gone in
      let is = are.each k session at in
      let pop = reads_mail plan lines entries k session is (facts.once k session at) user ids one strikes in
      (k, session, ids, one, at, pop, deletes plan lines entries k session is (facts.once k session at) user ids one strikes pop, among);
  bye = λ k session before quit n at pop whole quits says marked.
      let is = are.each k session at in
      let once = facts.once k session at in
      let cut : exchanges_of session ≡ before ++ quit ∷ session.others =
      ap (λ (l : List Exchange). l ++ session.others) whole ∙ append_assoc before (quit ∷ []) session.others in
      let asked = quit_strikes plan session.node session.octets (exchanges_of session) is.talk.before session.rest (goes_as plan lines entries k session is once Pop pop) once before session.others quit n
      cut quits marked in
      let strikes : AsksDeletion session asked.0 asked.1 quit = (before, session.others, cut, asked.2) in (
        asked.0,
        asked.1,
        deletes plan lines entries k session is once asked.0 asked.1 quit strikes pop,
        facts.gone k session asked.0 asked.1 quit at strikes (dropped plan lines entries k session is once asked.0 asked.1 before session.others quit cut asked.2 says),
      );
}

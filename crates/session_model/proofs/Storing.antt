-- What sessions that take mail show their clients.
use Rattle.std.proofs.Common.{◌≡◌, ⊎_elim, ℕ, Bool, false, List, [], ◌∷◌, ◌++◌, drop, length, map, refl, sym, ap, ap₂, ◌∙◌, subst, arith}
use Rattle.std.proofs.lemmas.List.Concat.{flat_map-append}
use Rattle.mail_model.specs.Plan.{Plan}
use Rattle.mail_model.specs.Tape.{Protocol}
use Rattle.mail_model.specs.Tape.Protocol.{Smtp}
use Rattle.mail_model.specs.Transcript.{Entry}
use Rattle.session_model.specs.Talk.{Exchange, Standing, TalkGoes, opening_state, farewell, replies}
use Rattle.session_model.specs.Talk.Standing.{Hearing, Waiting, EndedByQuit, EndedDown, EndedClosed}
use Rattle.session_model.specs.Mailing.{filing_of, filings, pairs, stored_lines}
use Rattle.session_model.specs.Sessions.{Session, IsCut, IsSession, exchanges_of}
use Rattle.mail_model.specs.Session.{silent}
use Rattle.mail_model.specs.Shown.{lines_to}
use Rattle.mail_model.specs.Told.{Answers, told_from}
use Rattle.session_model.proofs.Mailing.{lines_both, stored_as_told}
use Rattle.session_model.proofs.Cuts.{IsShort, goes_front, of_mail}

-- a prefix of lines of which none is `250 stored`
front_lines : (part missing lines : List (List ℕ)) → lines ≡ part ++ missing → stored_lines lines ≡ 0 → stored_lines part ≡ 0
front_lines part missing lines cut none = let both = lines_both part missing in omega (arith, both, none, ap stored_lines cut)

-- what a session says last is none
pub last_lines : (node : ℕ) (standing : Standing) → stored_lines (farewell Smtp node standing) ≡ 0
last_lines node (Hearing state) = refl
last_lines node (Waiting told call) = refl
last_lines node EndedByQuit = refl
last_lines node EndedDown = refl
last_lines node EndedClosed = refl

-- a part of a short reply that is not all of it has no such line
front_of : (front part missing : List (List ℕ)) (line : List ℕ) → front ++ line ∷ [] ≡ part ++ missing → (missing ≡ [] → ⊥) → (more : List (List ℕ)) × (front ≡ part ++ more)
front_of front [] missing line cut some = (front, refl)
front_of [] (x ∷ part) missing line cut some = let later : [] ≡ part ++ missing = cc in absurd (some (behind part missing later))
  where
    behind : (a b : List (List ℕ)) → [] ≡ a ++ b → b ≡ []
    behind [] b e = sym e
    behind (x ∷ a) b e = cc
front_of (y ∷ front) (x ∷ part) missing line cut some =
    let first : y ≡ x = cc in
    let later : front ++ line ∷ [] ≡ part ++ missing = cc in
    let rest = front_of front part missing line later some in
    (rest.0, ap₂ ◌∷◌ first rest.1)

no_part : (reply part missing : List (List ℕ)) → IsShort reply → reply ≡ part ++ missing → (missing ≡ [] → ⊥) → stored_lines part ≡ 0
no_part reply part missing short cut some = ⊎_elim
    (λ none. let both = lines_both part missing in omega (arith, both, ap stored_lines (sym none ∙ cut)))
    (λ one.
    let front = front_of one.0 part missing one.1 (sym one.2 ∙ cut) some in
    let both = lines_both part front.0 in
    omega (arith, both, one.3, ap stored_lines front.1)) short

-- so what a client got in part is none
part_lines : (plan : Plan) (node : ℕ) (octets : List ℕ) (whole others : List Exchange) (before : Standing) (rest : List ℕ) (standing : Standing) (part missing : List (List ℕ))
    → TalkGoes plan node (Hearing (opening_state Smtp)) octets (whole ++ others) before rest → IsCut others (farewell Smtp node standing) part missing → stored_lines part ≡ 0
part_lines plan node octets whole [] before rest standing part missing g cut = front_lines part missing (farewell Smtp node standing) cut (last_lines node standing)
part_lines plan node octets whole (one ∷ []) before rest standing part missing g cut =
    no_part one.reply part missing (of_mail plan node octets whole [] one before rest g).0 cut.0 cut.1
part_lines plan node octets whole (one ∷ other ∷ more) before rest standing part missing g cut = absurd cut

-- the messages of two lists of exchanges
pub filings_both : (whole others : List Exchange) → filings (whole ++ others) ≡ filings whole ++ filings others
filings_both whole others = flat_map-append (λ (one : Exchange). filing_of one.call one.answer) whole others

-- What a session that takes mail shows its client.
pub record IsShownMail (plan : Plan) (entries : List Entry) (k : ℕ) (session : Session) : Type 0 where
  pub in_text : Bool
  pub rest : List ℕ
  pub units : Answers false session.octets (pairs session.whole) in_text rest
  pub messages : map (λ filing. filing.mail) (filings session.whole) ≡ told_from plan silent (pairs session.whole)
  pub lines : stored_lines (drop 1 (lines_to k entries)) ≡ length (filings session.whole)

-- one that takes mail was told so
pub told_so : (plan : Plan) (lines : List (List ℕ)) (entries : List Entry) (k : ℕ) (session : Session) → IsSession plan lines entries k session → session.protocol ≡ Smtp
    → IsShownMail plan entries k session
told_so plan lines entries k session is smtp =
    let goes : TalkGoes plan session.node (Hearing (opening_state Smtp)) session.octets (exchanges_of session) is.talk.before session.rest =
    subst (λ (p : Protocol). TalkGoes plan session.node (Hearing (opening_state p)) session.octets (exchanges_of session) is.talk.before session.rest) smtp is.talk.goes in
    let front = goes_front plan session.node (Hearing (opening_state Smtp)) session.octets session.whole session.others is.talk.before session.rest goes in
    let told = stored_as_told plan session.node session.octets session.whole front.0 front.1 front.2 in
    let none : stored_lines is.gets.part ≡ 0 = part_lines plan session.node session.octets session.whole session.others is.talk.before session.rest session.standing is.gets.part is.gets.missing goes
    (subst (λ (p : Protocol). IsCut session.others (farewell p session.node session.standing) is.gets.part is.gets.missing) smtp is.gets.cut) in
    let both = lines_both (replies session.whole) is.gets.part in
    record {
      in_text = told.0.0;
      rest = front.1;
      units = told.0.1;
      messages = told.1;
      lines = ap stored_lines is.gets.are ∙ omega (arith, both, none, told.2);
    }

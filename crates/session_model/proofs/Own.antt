-- Each message whose id is shown is one of the user as whom the session entered.
use Rattle.std.proofs.Common.{◌≡◌, ◌⊎◌, ⊎_elim, ℕ, List, [], ◌∷◌, ◌++◌, Some, sym, ap, ◌∙◌, subst, append_assoc}
use Rattle.std.proofs.lemmas.List.{map-append}
use Rattle.std.proofs.lemmas.Option.{none-some}
use Rattle.mail_model.specs.Deleted.{Enters}
use Rattle.mail_model.specs.Plan.{Plan}
use Rattle.mail_model.specs.PopReplies.{Item, listed_slots}
use Rattle.mail_model.specs.Maildrop.{Given}
use Rattle.mail_model.specs.Shown.{SeenExchange}
use Rattle.mail_model.specs.Tape.{Protocol}
use Rattle.mail_model.specs.Tape.Protocol.{Pop}
use Rattle.mail_model.proofs.DeletedSessions.{Known}
use Rattle.session_model.specs.Calls.{Call}
use Rattle.session_model.specs.Calls.Call.{Login}
use Rattle.session_model.specs.Calls.Answer.{Listed}
use Rattle.session_model.specs.Talk.{TalkState, Lead, Exchange, Standing, IsLed, TalkGoes, opening_state, lead_of, stands, standing_asked, heard}
use Rattle.session_model.specs.Talk.TalkState.{Reading}
use Rattle.session_model.specs.Talk.Lead.{Says, Ends, Asks}
use Rattle.session_model.specs.Talk.Standing.{Hearing}
use Rattle.session_model.specs.Reading.{Each, ListsOnce, all_seen, seen_exchange}
use Rattle.session_model.specs.Showing.{ShowsListed, WasListed}
use Rattle.session_model.specs.Sessions.{exchanges_of}
use Rattle.session_model.specs.Facts.{ListsOwn}
use Rattle.session_model.specs.Promises.{OwnListingsShow}
use Rattle.session_model.proofs.Chains.{At, goes_at}
use Rattle.session_model.proofs.Cuts.{goes_front}
use Rattle.session_model.proofs.Filing.{item_at, no_item}
use Rattle.session_model.proofs.Marking.{step_seen}
use Rattle.session_model.proofs.Striking.{each_front, each_at, as_seen}
use Rattle.session_model.proofs.Showing.{shown_as_listed}

-- who has entered has entered, whatever is seen after it
enters_more : (been more : List SeenExchange) (user : List ℕ) → Enters been user → Enters (been ++ more) user
enters_more been more user enters = record {
  before = enters.before;
  behind = enters.behind ++ more;
  entering = enters.entering;
  are = ap (λ (l : List SeenExchange). l ++ more) enters.are ∙ append_assoc enters.before (enters.entering ∷ enters.behind) more;
  asked = enters.asked;
  entered = enters.entered;
}

-- after a login that was let in the session reads as its user
login_stands : (plan : Plan) (state : TalkState) (one : Exchange) (lead : Lead) (user : List ℕ) (given : Given) (items : List Item) → IsLed lead one
    → one.call ≡ Some (Login user given) → one.answer ≡ Some (Listed items) → stands plan state one lead ≡ Hearing (Reading user (listed_slots items))
login_stands plan state one (Says reply) user given items led call told = absurd (none-some (Login user given) (sym led.0 ∙ call))
login_stands plan state one (Ends reply) user given items led call told = absurd (none-some (Login user given) (sym led.0 ∙ call))
login_stands plan state one (Asks asked) user given items led call told =
    let same : asked ≡ Login user given = (let both : Some asked ≡ Some (Login user given) = sym led.0 ∙ call in cc) in
    ap (λ (c : Call). standing_asked (heard plan state one.unit []) c one.answer) same ∙ ap (standing_asked (heard plan state one.unit []) (Login user given)) told

module _ (plan : Plan) (node : ℕ) (octets : List ℕ) (exchanges : List Exchange) (last : Standing) (rest : List ℕ)
    (goes : TalkGoes plan node (Hearing (opening_state Pop)) octets exchanges last rest) (once : Each ListsOnce exchanges) where
  -- whoever was answered with a listing has entered
  listed_enters : (items : List Item) (was : WasListed items exchanges) → Enters (all_seen exchanges) was.user
  listed_enters items was =
      subst (λ (l : List SeenExchange). Enters l was.user) (sym cut) (enters_more (all_seen (was.before ++ was.login ∷ [])) (all_seen was.behind) was.user entered)
    where
      at : At plan node (Hearing (opening_state Pop)) octets was.before was.login was.behind last rest
      at = goes_at plan node (Hearing (opening_state Pop)) octets was.before was.login was.behind last rest
          (subst (λ (l : List Exchange). TalkGoes plan node (Hearing (opening_state Pop)) octets l last rest) was.are goes)

      lists : Each ListsOnce (was.before ++ was.login ∷ was.behind)
      lists = subst (Each ListsOnce) was.are once

      seen : Known (listed_slots items) was.user (all_seen (was.before ++ was.login ∷ []))
      seen = step_seen plan node was.before at.state at.there at.left was.login (Reading was.user (listed_slots items))
          (as_seen plan node octets was.before at.state at.there at.goes_before (each_front ListsOnce was.before (was.login ∷ was.behind) lists))
          (each_at ListsOnce was.before was.behind was.login lists) at.next
          (login_stands plan at.state was.login (lead_of plan node at.state was.login.unit) was.user was.given items at.next.led was.asked was.told)

      entered : Enters (all_seen (was.before ++ was.login ∷ [])) was.user
      entered = seen.enters

      cut : all_seen exchanges ≡ all_seen (was.before ++ was.login ∷ []) ++ all_seen was.behind
      cut = ap all_seen (was.are ∙ sym (append_assoc was.before (was.login ∷ []) was.behind)) ∙ map-append seen_exchange (was.before ++ was.login ∷ []) was.behind

pub own_listings_show : OwnListingsShow
own_listings_show plan lines entries disks sessions are listings own k session at pop n text before behind one small cut shows =
    let named = (each_at (ShowsListed law.0) before [] one law.2).ids n text small shows in
    ⊎_elim
    (λ none. absurd (no_item law.0 n named.0 none named.1))
    (λ listed.
    let place = item_at law.0 n named.0 named.1 in (
      listed.user,
      named.0.id,
      subst (λ (l : List SeenExchange). Enters l listed.user) (sym seen_front)
          (enters_more (all_seen front) (all_seen behind) listed.user (listed_enters plan session.node session.octets front cut_front.0 cut_front.1 cut_front.2 (each_front ListsOnce front more once) law.0 listed)),
      sym named.2,
      each_at (ListsOwn disks) listed.before (listed.behind ++ more) listed.login
          (subst (Each (ListsOwn disks)) (in_all ∙ ap (λ (l : List Exchange). l ++ more) listed.are ∙ append_assoc listed.before (listed.login ∷ listed.behind) more) (own k session at))
          listed.user listed.given law.0 listed.asked listed.told place.0 named.0 place.1,
    ))
    law.1
  where
    -- the exchanges up to the one that shows, and those after it
    front : List Exchange
    front = before ++ one ∷ []

    more : List Exchange
    more = behind ++ session.others

    whole_is : session.whole ≡ front ++ behind
    whole_is = cut ∙ sym (append_assoc before (one ∷ []) behind)

    in_all : exchanges_of session ≡ front ++ more
    in_all = ap (λ (l : List Exchange). l ++ session.others) whole_is ∙ append_assoc front behind session.others

    seen_front : all_seen session.whole ≡ all_seen front ++ all_seen behind
    seen_front = ap all_seen whole_is ∙ map-append seen_exchange front behind

    once : Each ListsOnce (front ++ more)
    once = subst (Each ListsOnce) in_all (listings.once k session at)

    cut_front : (mid : Standing) × (left : List ℕ) × TalkGoes plan session.node (Hearing (opening_state Pop)) session.octets front mid left × TalkGoes plan session.node mid left more (are.each k session at).talk.before session.rest
    cut_front = goes_front plan session.node (Hearing (opening_state Pop)) session.octets front more (are.each k session at).talk.before session.rest
        (subst (λ (l : List Exchange). TalkGoes plan session.node (Hearing (opening_state Pop)) session.octets l (are.each k session at).talk.before session.rest) in_all
        (subst (λ (p : Protocol). TalkGoes plan session.node (Hearing (opening_state p)) session.octets (exchanges_of session) (are.each k session at).talk.before session.rest) pop (are.each k session at).talk.goes))

    law : (items : List Item) × ((items ≡ []) ⊎ WasListed items front) × Each (ShowsListed items) front
    law = shown_as_listed plan session.node session.octets front cut_front.0 cut_front.1 cut_front.2

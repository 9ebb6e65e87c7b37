-- What each exchange of a session that reads mail shows.
use Rattle.std.proofs.Common.{◌≡◌, ◌⊎◌, inl, inr, ⊎_elim, ℕ, zero, suc, true, false, List, [], ◌∷◌, ◌++◌, length, map, drop, flat_map, Option, Some, None, refl, sym, ap, ap₂, ◌∙◌, subst, arith, slice_get, codes, append_assoc}
use Rattle.std.specs.Prelude.{⊤, Result, Ok}
use Rattle.std.specs.Fmt.{decimal}
use Rattle.std.proofs.lemmas.List.{append_cancel_right}
use Rattle.std.proofs.lemmas.Option.{none-some}
use Rattle.std.proofs.lemmas.Bool.{cond_both}
use Rattle.mail_model.specs.Identity.{Id, id_text}
use Rattle.mail_model.specs.Plan.{Plan}
use Rattle.mail_model.specs.Lines.{closed, sent_line}
use Rattle.mail_model.specs.Session.{Unit, undotted, is_long_line}
use Rattle.mail_model.specs.Session.Unit.{Line, Text}
use Rattle.mail_model.specs.Pop.{Command, Fault, pop_command_of, lines_asked}
use Rattle.mail_model.specs.Pop.Command.{Uidl, Listing, Retr, Top}
use Rattle.mail_model.specs.PopReplies.{Item, ListingSlot, one_line, shown_part, shown_text, dotted_line, last_line}
use Rattle.mail_model.specs.Maildrop.{Stage, Given, LineOutcome, line_outcome, command_outcome, before_login, behind_login, retr_outcome, bad_order, message_at, of_message, named_in, deleted_in, wrong_text, entered_text, later_text, bye_text, remaining_text}
use Rattle.mail_model.specs.Maildrop.Stage.{Authorization, Transaction}
use Rattle.mail_model.specs.Maildrop.LineOutcome.{Answered, Closed, AsksLogin, AsksMessage, AsksDeletion}
use Rattle.mail_model.specs.Shown.{SeenExchange, ShowsId, ShowsSize, CarriesOctets, is_good}
use Rattle.mail_model.specs.Told.{IsUnit}
use Rattle.mail_model.proofs.ShownSlots.{all_items, listed_all, deleted_all}
use Rattle.mail_model.proofs.ShownReplies.{Message, Fits, AsksNothing, fetched_number, items_for, exchange, bad_fits, quiet}
use Rattle.mail_model.proofs.ShownReplies as shown
use Rattle.mail_model.proofs.ShownOutcomes.{LeadsBefore, LeadsBehind, before, behind, undotted_all}
use Rattle.mail_model.specs.Tape.Protocol.{Pop}
use Rattle.session_model.specs.Calls.{Answer, in_use_text, asked_lines}
use Rattle.session_model.specs.Calls.Call.{Login, Fetch, Strike}
use Rattle.session_model.specs.Calls.Answer.{Listed, Wrong, InUse, NoProfile, Part, GoneAlready, Dropped, Failed}
use Rattle.session_model.specs.Talk.{TalkState, Exchange, Standing, IsNext, IsLed, Awaits, opening_state, line_lead, lead_of, stands, stands_by, standing_asked}
use Rattle.session_model.specs.Talk.TalkState.{Mailing, Entering, Reading}
use Rattle.session_model.specs.Talk.Standing.{Hearing, Waiting, EndedByQuit, EndedDown, EndedClosed}
use Rattle.session_model.specs.Reading.{Each, seen_exchange, line_of}
use Rattle.session_model.specs.Showing.{numbered, IsFetched, ShowsListed, WasListed, ShownAsListed}
use Rattle.session_model.proofs.Chains.{through}

-- each, with one more
pub each_more : (P : Exchange → Type 0) (been : List Exchange) (one : Exchange) → Each P been → P one → Each P (been ++ one ∷ [])
each_more P [] one each has = (has, tt)
each_more P (first ∷ been) one each has = (each.0, each_more P been one each.1 has)

-- messages of the sizes of a listing, whatever their octets

-- so many octets
abbrev some_octets : ℕ → List ℕ
some_octets zero = []
some_octets (suc n) = 0 ∷ some_octets n

so_many : (n : ℕ) → length (some_octets n) ≡ n
so_many zero = refl
so_many (suc n) = let less = so_many n in omega (arith, less)

-- a message of an item
abbrev sized : Item → Message
sized item = record { id = item.id; octets = some_octets item.size }

sized_items : (items : List Item) → items_for (map sized items) ≡ items
sized_items [] = refl
sized_items (item ∷ items) = ap₂ (λ (n : ℕ) (l : List Item). record { id = item.id; size = n } ∷ l) (so_many item.size) (sized_items items)

-- the item of a message
sized_at : (items : List Item) (i : ℕ) (message : Message) → slice_get (map sized items) i ≡ Some message → (item : Item) × (slice_get items i ≡ Some item) × (message ≡ sized item)
sized_at [] i message at = absurd (none-some message at)
sized_at (item ∷ items) zero message at = let same : sized item ≡ message = cc in (item, refl, sym same)
sized_at (item ∷ items) (suc i) message at = sized_at items i message at

sized_number : (items : List Item) (n : ℕ) (message : Message) → shown.numbered (map sized items) n ≡ Some message → (item : Item) × (numbered items n ≡ Some item) × (message ≡ sized item)
sized_number items zero message at = absurd (none-some message at)
sized_number items (suc n) message at = sized_at items n message at

-- commands that show octets

-- the command asks for the message of this number
record Fetches (command : Command) (n : ℕ) : Type 0 where
  something : AsksNothing (Ok command) → ⊥
  number : fetched_number (Ok command) ≡ Some n
  early : (plan : Plan) (user : Option (List ℕ)) → before_login plan user command ≡ bad_order
  late : (slots : List ListingSlot) → behind_login slots command ≡ retr_outcome slots n

retr_fetches : (n : ℕ) → Fetches (Retr n) n
retr_fetches n = record { something = λ h. h; number = refl; early = λ plan user. refl; late = λ slots. refl }

top_fetches : (n count : ℕ) → Fetches (Top n count) n
top_fetches n count = record { something = λ h. h; number = refl; early = λ plan user. refl; late = λ slots. refl }

-- replies that show no message

-- no octets of a message
abbrev ShowsNone : SeenExchange → Type 0
ShowsNone one = (command : Command) (n : ℕ) (octets : List ℕ) → Fetches command n → CarriesOctets command octets one → ⊥

-- a reply of one line that is not good, or no reply
no_text_bad : (line rest : List ℕ) → ShowsNone (exchange line ((45 ∷ rest) ∷ []))
no_text_bad line rest command n octets fetches shows = not_good shows.first (shows.lines ++ last_line) shows.good shows.reply
  where
    not_good : (first : List ℕ) (body : List (List ℕ)) → is_good first ≡ true → (45 ∷ rest) ∷ [] ≡ first ∷ body → ⊥
    not_good first body good e =
        let same : 45 ∷ rest ≡ first = cc in
        let bad : is_good (45 ∷ rest) ≡ true = ap is_good same ∙ good in cc

-- the line asks for none
no_text_quiet : (line : List ℕ) (reply : List (List ℕ)) → AsksNothing (pop_command_of line) → ShowsNone (exchange line reply)
no_text_quiet line reply nothing command n octets fetches shows = fetches.something (subst AsksNothing shows.asked nothing)

-- what RETR and TOP lead to
abbrev FetchLeads : LineOutcome → Type 0
FetchLeads (Answered lines) = (rest : List ℕ) × (lines ≡ (45 ∷ rest) ∷ [])
FetchLeads (Closed lines) = ⊥
FetchLeads (AsksLogin user given) = ⊥
FetchLeads (AsksMessage number id) = ⊤
FetchLeads (AsksDeletion ids) = ⊥

fetch_leads : (plan : Plan) (stage : Stage) (line : List ℕ) (command : Command) (n : ℕ) → Fetches command n → pop_command_of line ≡ Ok command → FetchLeads (line_outcome plan stage line)
fetch_leads plan stage line command n fetches is =
    cond_both (is_long_line line) _ _ FetchLeads (λ long. (codes "ERR line too long", refl))
    (λ short. subst (λ (r : Result Command Fault). FetchLeads (command_outcome plan stage r)) (sym is) (by_stage stage))
  where
    by_item : (item : Option Item) → FetchLeads (of_message (λ item. AsksMessage n item.id) item)
    by_item None = (codes "ERR no such message", refl)
    by_item (Some item) = tt

    by_stage : (stage : Stage) → FetchLeads (command_outcome plan stage (Ok command))
    by_stage (Authorization user) = subst FetchLeads (sym (fetches.early plan user)) (codes "ERR bad order", refl)
    by_stage (Transaction slots) = subst FetchLeads (sym (fetches.late slots)) (by_item (message_at slots n))

-- so what is answered at once shows none
no_text_at_once : (plan : Plan) (stage : Stage) (line : List ℕ) (outcome : LineOutcome) → line_outcome plan stage line ≡ outcome → (lines : List (List ℕ))
    → (outcome ≡ Answered lines) ⊎ (outcome ≡ Closed lines) → ShowsNone (exchange line lines)
no_text_at_once plan stage line outcome is lines at_once command n octets fetches shows =
    let leads : FetchLeads outcome = subst FetchLeads is (fetch_leads plan stage line command n fetches shows.asked) in
    ⊎_elim
    (λ answered.
    let bad : FetchLeads (Answered lines) = subst FetchLeads answered leads in
    no_text_bad line bad.0 command n octets fetches (subst (λ (l : List (List ℕ)). CarriesOctets command octets (exchange line l)) bad.1 shows))
    (λ closed. subst FetchLeads closed leads) at_once

-- exchanges

-- by what the reply shows, where it shows no message
by_fits : (items : List Item) (line : List ℕ) (reply : List (List ℕ)) (one : Exchange) → one.unit ≡ Line line → one.reply ≡ reply
    → Fits (map sized items) (exchange line reply) → ShowsNone (exchange line reply)
    → ((others : List Item) → one.answer ≡ Some (Listed others) → others ≡ items) → ShowsListed items one
by_fits items line reply one unit_is reply_is fits no_text listed =
    let same : exchange line reply ≡ seen_exchange one = ap₂ exchange (ap line_of (sym unit_is)) (sym reply_is) in
    record {
      listed = listed;
      ids = λ n text small shows.
          let found = fits.ids n text small (subst (ShowsId n text) (sym same) shows) in
          let item = sized_number items n found.0 found.1 in
          (item.0, item.1, found.2 ∙ ap (λ (m : Message). id_text m.id) item.2);
      sizes = λ n text small shows.
          let found = fits.sizes n text small (subst (ShowsSize n text) (sym same) shows) in
          let item = sized_number items n found.0 found.1 in
          (item.0, item.1, found.2 ∙ ap (λ (m : Message). decimal (length m.octets)) item.2 ∙ ap decimal (so_many item.0.size));
      texts = λ n octets shows. absurd (no_text (Retr n) n octets (retr_fetches n) (subst (CarriesOctets (Retr n) octets) (sym same) shows));
      tops = λ n count octets shows. absurd (no_text (Top n count) n octets (top_fetches n count) (subst (CarriesOctets (Top n count) octets) (sym same) shows));
    }

-- one that waits
waits_shown : (items : List Item) (line : List ℕ) (one : Exchange) → one.unit ≡ Line line → one.reply ≡ [] → one.answer ≡ None → ShowsListed items one
waits_shown items line one unit_is none unanswered =
    let same : seen_exchange one ≡ exchange line [] = ap₂ exchange (ap line_of unit_is) none in
    record {
      listed = λ others is. absurd (none-some (Listed others) (sym unanswered ∙ is));
      ids = λ n text small shows. absurd (no_id n text (subst (ShowsId n text) same shows));
      sizes = λ n text small shows. absurd (no_size n text (subst (ShowsSize n text) same shows));
      texts = λ n octets shows. absurd (no_text (Retr n) octets (subst (CarriesOctets (Retr n) octets) same shows));
      tops = λ n count octets shows. absurd (no_text (Top n count) octets (subst (CarriesOctets (Top n count) octets) same shows));
    }
  where
    no_id : (n : ℕ) (text : List ℕ) → ShowsId n text (exchange line []) → ⊥
    no_id n text shows = ⊎_elim (λ all. all.1) (λ one. let e = one.1 in cc) shows

    no_size : (n : ℕ) (text : List ℕ) → ShowsSize n text (exchange line []) → ⊥
    no_size n text shows = ⊎_elim (λ all. all.1) (λ one. let e = one.1 in cc) shows

    no_text : (command : Command) (octets : List ℕ) → CarriesOctets command octets (exchange line []) → ⊥
    no_text command octets shows = let e = shows.reply in cc

-- a command that fetches a message asks for no ids and no sizes
fetch_no_uidl : (r : Result Command Fault) (n : ℕ) (number : Option ℕ) → fetched_number r ≡ Some n → r ≡ Ok (Uidl number) → ⊥
fetch_no_uidl r n number is e = none-some n (ap fetched_number (sym e) ∙ is)

fetch_no_listing : (r : Result Command Fault) (n : ℕ) (number : Option ℕ) → fetched_number r ≡ Some n → r ≡ Ok (Listing number) → ⊥
fetch_no_listing r n number is e = none-some n (ap fetched_number (sym e) ∙ is)

-- RETR or TOP that was answered with a part
part_shown : (items : List Item) (line : List ℕ) (number : ℕ) (item : Item) (user octets : List ℕ) (lines : List (List ℕ)) (one : Exchange) → one.unit ≡ Line line
    → fetched_number (pop_command_of line) ≡ Some number → numbered items number ≡ Some item → one.call ≡ Some (Fetch user item.id) → one.answer ≡ Some (Part octets)
    → flat_map sent_line lines ≡ closed (shown_part (asked_lines one.unit) octets)
    → one.reply ≡ shown_text (asked_lines one.unit) (length octets) ∷ map dotted_line lines ++ last_line → ShowsListed items one
part_shown items line number item user octets lines one unit_is fetches at call told whole says = record {
  listed = λ others is. let clash : Some (Listed others) ≡ Some (Part octets) = sym is ∙ told in cc;
  ids = λ n text small shows. absurd (⊎_elim (fetch_no_uidl _ number None seen) (fetch_no_uidl _ number (Some n) seen) (⊎_firsts shows));
  sizes = λ n text small shows. absurd (⊎_elim (fetch_no_listing _ number None seen) (fetch_no_listing _ number (Some n) seen) (⊎_firsts shows));
  texts = λ n shown_octets shows. carried (Retr n) n None shown_octets refl refl shows;
  tops = λ n count shown_octets shows. carried (Top n count) n (Some count) shown_octets refl refl shows;
}
  where
    seen_is : pop_command_of (line_of one.unit) ≡ pop_command_of line
    seen_is = ap (λ (u : Unit). pop_command_of (line_of u)) unit_is

    seen : fetched_number (pop_command_of (line_of one.unit)) ≡ Some number
    seen = ap fetched_number seen_is ∙ fetches

    carried : (command : Command) (n : ℕ) (count : Option ℕ) (shown_octets : List ℕ) → fetched_number (Ok command) ≡ Some n → lines_asked (Ok command) ≡ count
        → CarriesOctets command shown_octets (seen_exchange one) → IsFetched items n count shown_octets one
    carried command n count shown_octets names counts shows =
        let both : Some number ≡ Some n = sym seen ∙ ap fetched_number shows.asked ∙ names in
        let numbers : number ≡ n = cc in
        let asked : asked_lines one.unit ≡ count = ap asked_lines unit_is ∙ ap lines_asked (sym seen_is ∙ shows.asked) ∙ counts in
        let body : map dotted_line lines ++ last_line ≡ shows.lines ++ last_line = ap (drop 1) (sym says ∙ shows.reply) in
        let are : map dotted_line lines ≡ shows.lines = append_cancel_right _ _ last_line body in
        record {
          item = item;
          is = ap (numbered items) (sym numbers) ∙ at;
          user = user;
          part = octets;
          asked = call;
          told = told;
          same = shows.undots ∙ ap undotted (sym are) ∙ undotted_all lines ∙ whole ∙ ap (λ (a : Option ℕ). closed (shown_part a octets)) asked;
        }

    ⊎_firsts : {A B C D : Type 0} → (A × B) ⊎ (C × D) → A ⊎ C
    ⊎_firsts (inl both) = inl both.0
    ⊎_firsts (inr both) = inr both.0

-- a line that asks for nothing
quiet_shown : (items : List Item) (line text : List ℕ) (one : Exchange) → one.unit ≡ Line line → AsksNothing (pop_command_of line) → one.reply ≡ one_line text
    → ((others : List Item) → one.answer ≡ Some (Listed others) → others ≡ items) → ShowsListed items one
quiet_shown items line text one unit_is nothing says listed =
    by_fits items line (one_line text) one unit_is says (quiet (map sized items) line text nothing).fits (no_text_quiet line (one_line text) nothing) listed

-- one that was not obeyed
bad_shown : (items : List Item) (line rest : List ℕ) (one : Exchange) → one.unit ≡ Line line → one.reply ≡ one_line (45 ∷ rest)
    → ((others : List Item) → one.answer ≡ Some (Listed others) → others ≡ items) → ShowsListed items one
bad_shown items line rest one unit_is says listed =
    by_fits items line (one_line (45 ∷ rest)) one unit_is says (bad_fits (map sized items) line rest) (no_text_bad line rest) listed

-- a session

-- what the exchanges so far show, by how it stands
abbrev pub ShowsSoFar : Standing → List Exchange → Type 0
ShowsSoFar (Hearing (Mailing talk)) been = ⊥
ShowsSoFar (Hearing (Entering named)) been = (items : List Item) → Each (ShowsListed items) been
ShowsSoFar (Hearing (Reading user slots)) been = WasListed (all_items slots) been × Each (ShowsListed (all_items slots)) been
ShowsSoFar (Waiting told call) been = (items : List Item) × ((items ≡ []) ⊎ WasListed items been) × Each (ShowsListed items) been
ShowsSoFar EndedByQuit been = (items : List Item) × ((items ≡ []) ⊎ WasListed items been) × Each (ShowsListed items) been
ShowsSoFar EndedDown been = ⊥
ShowsSoFar EndedClosed been = ⊥

-- a listing that was told stays so
listed_more : (items : List Item) (been : List Exchange) (one : Exchange) → WasListed items been → WasListed items (been ++ one ∷ [])
listed_more items been one was = record {
  before = was.before;
  behind = was.behind ++ one ∷ [];
  login = was.login;
  user = was.user;
  given = was.given;
  asked = was.asked;
  are = ap (λ (l : List Exchange). l ++ one ∷ []) was.are ∙ append_assoc was.before (was.login ∷ was.behind) (one ∷ []);
  told = was.told;
}

-- before the login
module _ (plan : Plan) (named : Option (List ℕ)) (been : List Exchange) (so_far : (items : List Item) → Each (ShowsListed items) been)
    (line : List ℕ) (one : Exchange) (is : one.unit ≡ Line line) where
  -- no listing was told
  not_listed : one.answer ≡ None → (items others : List Item) → one.answer ≡ Some (Listed others) → others ≡ items
  not_listed none items others listed = absurd (none-some (Listed others) (sym none ∙ listed))

  -- a login
  login_shown : (name : List ℕ) (given : Given) → AsksNothing (pop_command_of line) → one.call ≡ Some (Login name given) → (answer : Option Answer) → one.answer ≡ answer → Awaits one.unit (Login name given) answer one.reply
      → ShowsSoFar (standing_asked (Entering (named_in line)) (Login name given) answer) (been ++ one ∷ [])
  login_shown name given nothing call None there says =
      ([], inl refl, each_more (ShowsListed []) been one (so_far []) (waits_shown [] line one is says there))
  login_shown name given nothing call (Some (Listed items)) there says =
      subst (λ (l : List Item). WasListed l (been ++ one ∷ []) × Each (ShowsListed l) (been ++ one ∷ [])) (sym (listed_all items)) (
        record { before = been; behind = []; login = one; user = name; given = given; are = refl; asked = call; told = there },
        each_more (ShowsListed items) been one (so_far items) (quiet_shown items line entered_text one is nothing says
            (λ others listed. let both : Some (Listed items) ≡ Some (Listed others) = sym there ∙ listed in let same : items ≡ others = cc in sym same)),
      )
  login_shown name given nothing call (Some Wrong) there says = λ items.
      each_more (ShowsListed items) been one (so_far items) (quiet_shown items line wrong_text one is nothing says
      (λ others listed. let both : Some Wrong ≡ Some (Listed others) = sym there ∙ listed in cc))
  login_shown name given nothing call (Some InUse) there says = λ items.
      each_more (ShowsListed items) been one (so_far items) (quiet_shown items line in_use_text one is nothing says
      (λ others listed. let both : Some InUse ≡ Some (Listed others) = sym there ∙ listed in cc))
  login_shown name given nothing call (Some NoProfile) there says = λ items.
      each_more (ShowsListed items) been one (so_far items) (quiet_shown items line later_text one is nothing says
      (λ others listed. let both : Some NoProfile ≡ Some (Listed others) = sym there ∙ listed in cc))
  login_shown name given nothing call (Some Failed) there says = λ items.
      each_more (ShowsListed items) been one (so_far items) (quiet_shown items line later_text one is nothing says
      (λ others listed. let both : Some Failed ≡ Some (Listed others) = sym there ∙ listed in cc))
  login_shown name given nothing call (Some answer) there says = absurd says

  -- whatever the line leads to
  entering_shown : (outcome : LineOutcome) → line_outcome plan (Authorization named) line ≡ outcome → ((items : List Item) → LeadsBefore (map sized items) line outcome)
      → IsLed (line_lead [] outcome) one
      → ShowsSoFar (stands plan (Entering named) (record one { unit = Line line }) (line_lead [] outcome)) (been ++ one ∷ [])
  entering_shown (Answered lines) outcome_is leads led = λ items.
      each_more (ShowsListed items) been one (so_far items)
      (by_fits items line lines one is led.2 (leads items).fits (no_text_at_once plan (Authorization named) line (Answered lines) outcome_is lines (inl refl)) (not_listed led.1 items))
  entering_shown (Closed lines) outcome_is leads led = (
    [],
    inl refl,
    each_more (ShowsListed []) been one (so_far [])
        (by_fits [] line lines one is led.2 (leads []).fits (no_text_at_once plan (Authorization named) line (Closed lines) outcome_is lines (inr refl)) (not_listed led.1 [])),
  )
  entering_shown (AsksLogin name given) outcome_is leads led = login_shown name given (leads []) led.0 one.answer refl led.1
  entering_shown (AsksMessage number id) outcome_is leads led = absurd (leads [])
  entering_shown (AsksDeletion ids) outcome_is leads led = absurd (leads [])

-- and after it
module _ (plan : Plan) (user : List ℕ) (slots : List ListingSlot) (been : List Exchange) (was : WasListed (all_items slots) been) (so_far : Each (ShowsListed (all_items slots)) been)
    (line : List ℕ) (one : Exchange) (is : one.unit ≡ Line line) where
  -- with one more
  with_one : ShowsListed (all_items slots) one → WasListed (all_items slots) (been ++ one ∷ []) × Each (ShowsListed (all_items slots)) (been ++ one ∷ [])
  with_one shows = (listed_more (all_items slots) been one was, each_more (ShowsListed (all_items slots)) been one so_far shows)

  -- the session ends or waits
  ends_with : ShowsListed (all_items slots) one → (items : List Item) × ((items ≡ []) ⊎ WasListed items (been ++ one ∷ [])) × Each (ShowsListed items) (been ++ one ∷ [])
  ends_with shows = let both = with_one shows in (all_items slots, inr both.0, both.1)

  -- marks change nothing of it
  still : WasListed (all_items slots) (been ++ one ∷ []) × Each (ShowsListed (all_items slots)) (been ++ one ∷ [])
      → WasListed (all_items (deleted_in slots line)) (been ++ one ∷ []) × Each (ShowsListed (all_items (deleted_in slots line))) (been ++ one ∷ [])
  still shows = subst (λ (l : List Item). WasListed l (been ++ one ∷ []) × Each (ShowsListed l) (been ++ one ∷ [])) (sym (deleted_all slots line)) shows

  -- no listing is told
  never_listed : (answer : Option Answer) → one.answer ≡ answer → ((others : List Item) → answer ≡ Some (Listed others) → ⊥) → (others : List Item)
      → one.answer ≡ Some (Listed others) → others ≡ all_items slots
  never_listed answer there never others listed = absurd (never others (sym there ∙ listed))

  -- RETR
  fetch_shown : (number : ℕ) (id : Id) → fetched_number (pop_command_of line) ≡ Some number → (message : Message) → shown.numbered (map sized (all_items slots)) number ≡ Some message
      → message.id ≡ id → one.call ≡ Some (Fetch user id) → (answer : Option Answer) → one.answer ≡ answer → Awaits one.unit (Fetch user id) answer one.reply
      → ShowsSoFar (standing_asked (Reading user (deleted_in slots line)) (Fetch user id) answer) (been ++ one ∷ [])
  fetch_shown number id retr message at same call None there says = ends_with (waits_shown (all_items slots) line one is says there)
  fetch_shown number id retr message at same call (Some (Part octets)) there says =
      let item = sized_number (all_items slots) number message at in
      let id_is : id ≡ item.0.id = sym same ∙ ap (λ (m : Message). m.id) item.2 in
      still (with_one (part_shown (all_items slots) line number item.0 user octets says.lines one is retr item.1 (call ∙ ap (λ (i : Id). Some (Fetch user i)) id_is) there says.whole says.says))
  fetch_shown number id retr message at same call (Some GoneAlready) there says =
      still (with_one (bad_shown (all_items slots) line (codes "ERR message was deleted") one is says (never_listed (Some GoneAlready) there (λ others e. cc))))
  fetch_shown number id retr message at same call (Some Failed) there says =
      still (with_one (bad_shown (all_items slots) line (codes "ERR [SYS/TEMP] try again later") one is says (never_listed (Some Failed) there (λ others e. cc))))
  fetch_shown number id retr message at same call (Some answer) there says = absurd says

  -- QUIT
  strike_shown : (ids : List Id) → AsksNothing (pop_command_of line) → (answer : Option Answer) → one.answer ≡ answer → Awaits one.unit (Strike user ids) answer one.reply
      → ShowsSoFar (standing_asked (Reading user (deleted_in slots line)) (Strike user ids) answer) (been ++ one ∷ [])
  strike_shown ids nothing None there says = ends_with (waits_shown (all_items slots) line one is says there)
  strike_shown ids nothing (Some Dropped) there says =
      ends_with (quiet_shown (all_items slots) line bye_text one is nothing says (never_listed (Some Dropped) there (λ others e. cc)))
  strike_shown ids nothing (Some Failed) there says =
      ends_with (quiet_shown (all_items slots) line remaining_text one is nothing says (never_listed (Some Failed) there (λ others e. cc)))
  strike_shown ids nothing (Some answer) there says = absurd says

  -- whatever the line leads to
  reading_shown : (outcome : LineOutcome) → line_outcome plan (Transaction slots) line ≡ outcome → LeadsBehind (map sized (all_items slots)) line outcome
      → IsLed (line_lead user outcome) one
      → ShowsSoFar (stands plan (Reading user slots) (record one { unit = Line line }) (line_lead user outcome)) (been ++ one ∷ [])
  reading_shown (Answered lines) outcome_is leads led =
      still (with_one (by_fits (all_items slots) line lines one is led.2 leads.fits
      (no_text_at_once plan (Transaction slots) line (Answered lines) outcome_is lines (inl refl)) (never_listed None led.1 (λ others e. none-some (Listed others) e))))
  reading_shown (Closed lines) outcome_is leads led =
      ends_with (by_fits (all_items slots) line lines one is led.2 leads.fits
      (no_text_at_once plan (Transaction slots) line (Closed lines) outcome_is lines (inr refl)) (never_listed None led.1 (λ others e. none-some (Listed others) e)))
  reading_shown (AsksLogin name given) outcome_is leads led = absurd leads
  reading_shown (AsksMessage number id) outcome_is leads led = fetch_shown number id leads.0 leads.1.0 leads.1.1 leads.1.2 led.0 one.answer refl led.1
  reading_shown (AsksDeletion ids) outcome_is leads led = strike_shown ids leads one.answer refl led.1

-- each exchange
pub step_shown : (plan : Plan) (node : ℕ) (been : List Exchange) (state : TalkState) (there left : List ℕ) (one : Exchange) → ShowsSoFar (Hearing state) been
    → IsNext plan node state there one left → ShowsSoFar (stands_by plan node state one) (been ++ one ∷ [])
step_shown plan node been (Mailing talk) there left one so_far n = absurd so_far
step_shown plan node been (Entering named) there left one so_far n = by_unit one.unit refl
  where
    by_unit : (unit : Unit) → one.unit ≡ unit → ShowsSoFar (stands_by plan node (Entering named) one) (been ++ one ∷ [])
    by_unit (Text lines) is = absurd (subst (IsUnit false) is n.is_unit)
    by_unit (Line line) is =
        subst (λ (u : Unit). ShowsSoFar (stands plan (Entering named) (record one { unit = u }) (lead_of plan node (Entering named) u)) (been ++ one ∷ [])) (sym is)
        (entering_shown plan named been so_far line one is (line_outcome plan (Authorization named) line) refl (λ items. before (map sized items) plan named line)
        (subst (λ (u : Unit). IsLed (lead_of plan node (Entering named) u) one) is n.led))
step_shown plan node been (Reading user slots) there left one so_far n = by_unit one.unit refl
  where
    by_unit : (unit : Unit) → one.unit ≡ unit → ShowsSoFar (stands_by plan node (Reading user slots) one) (been ++ one ∷ [])
    by_unit (Text lines) is = absurd (subst (IsUnit false) is n.is_unit)
    by_unit (Line line) is =
        subst (λ (u : Unit). ShowsSoFar (stands plan (Reading user slots) (record one { unit = u }) (lead_of plan node (Reading user slots) u)) (been ++ one ∷ [])) (sym is)
        (reading_shown plan user slots been so_far.0 so_far.1 line one is (line_outcome plan (Transaction slots) line) refl
        (behind (map sized (all_items slots)) plan slots line (sized_items (all_items slots)))
        (subst (λ (u : Unit). IsLed (lead_of plan node (Reading user slots) u) one) is n.led))

-- however the session stands
so_far_shown : (standing : Standing) (exchanges : List Exchange) → ShowsSoFar standing exchanges
    → (items : List Item) × ((items ≡ []) ⊎ WasListed items exchanges) × Each (ShowsListed items) exchanges
so_far_shown (Hearing (Mailing talk)) exchanges so_far = absurd so_far
so_far_shown (Hearing (Entering named)) exchanges so_far = ([], inl refl, so_far [])
so_far_shown (Hearing (Reading user slots)) exchanges so_far = (all_items slots, inr so_far.0, so_far.1)
so_far_shown (Waiting told call) exchanges so_far = so_far
so_far_shown EndedByQuit exchanges so_far = so_far
so_far_shown EndedDown exchanges so_far = absurd so_far
so_far_shown EndedClosed exchanges so_far = absurd so_far

pub shown_as_listed : ShownAsListed
shown_as_listed plan node octets exchanges last rest g =
    so_far_shown last exchanges (through plan node ShowsSoFar (step_shown plan node) (Hearing (opening_state Pop)) octets [] exchanges last rest (λ items. tt) g)
